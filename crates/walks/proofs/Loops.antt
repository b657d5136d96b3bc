-- The laws of a loop by index along a list, for a step that no chain takes.
use mathlib.Core.Path.{sym, ap, ◌∙◌}
use Prim.Native.Nat.{ℕ, suc, ◌+◌}
use native.Mathlib.Numerals.{add-one}
use mathlib.Core.Bool.{◌&&◌}
use lib.ListN.{get_or, drop, drop_of_length-le}
use lib.Seq.{drop-cons}
use Rattle.walks.specs.Walks.{LoopLaws, ScanLaws}

pub loop_laws : {X R : Type 0} → LoopLaws X R
loop_laws = record {
  one_on = λ def t i more cons d l here.
      ap (λ (k : ℕ). more (i + 1) (get_or t i d) (def (i + 1 + 1) (drop k t))) (add-one i)
      ∙ sym (ap (def (i + 1)) (drop-cons t i d l) ∙ cons (i + 1) (get_or t i d) (drop (suc i) t)) ∙ here;
  at_end = λ def t i l here. sym (ap (def (i + 1)) (drop_of_length-le t l)) ∙ here;
}

pub scan_laws : {X : Type 0} → ScanLaws X
scan_laws = record {
  scan_on = λ {g} {f} scan d t i fits l e here. rw e at (loop_laws.one_on f t i (λ s x rest. g s x && rest) scan.some d l here);
  scan_end = λ {g} {f} scan t i l here. sym (scan.none (i + 1)) ∙ loop_laws.at_end f t i l here;
}
