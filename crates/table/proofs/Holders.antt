-- The first record in Holding, by its index or by its number.
use mathlib.Core.Path.{◌≡◌, refl, sym, ap, ◌∙◌}
use mathlib.Core.Bool.{Bool}
use mathlib.Core.List.{List, [], ◌∷◌}
use Prim.Native.Nat.{ℕ, suc, ◌+◌}
use native.Mathlib.Numerals.{add-one}
use mathlib.Core.Logic.{inl, inr}
use lib.Dec.{eqb}
use Rattle.std.proofs.lemmas.Bool.{cases_Bool}
use Rattle.std.specs.Prelude.{None, Some, position}
use Rattle.std.specs.List.{position_from}
use Rattle.std.specs.Option.{option_map}
use Rattle.std.proofs.lemmas.Iterator.Adapters.{position_from-zero}
use Rattle.station.specs.declared.Station.{Station}
use Rattle.station.specs.Names.{HOLDING}
use Rattle.table.specs.Table.{holder_from, holder, in_holding}

abbrev holds : Station → Bool
holds r = eqb r.head.place HOLDING

numbered : (s : ℕ) (t : List Station) → option_map suc (position_from holds s t) ≡ in_holding (holder_from (s + 1) t)
unfolding holder_from
numbered s [] = refl
numbered s (r ∷ rs) = elim (cases_Bool (holds r)) [ inl e ↦ rw (e, add-one) | inr e ↦ rw e (numbered (s + 1) rs) ]

found : (t : List Station) → option_map suc (position holds t) ≡ in_holding (holder t)
found t = ap (option_map suc) (position_from-zero holds t) ∙ numbered 0 t

pub none_holds : (t : List Station) → position holds t ≡ None → None ≡ in_holding (holder t)
none_holds t e = ap (option_map suc) (sym e) ∙ found t

pub one_holds : (t : List Station) (i : ℕ) → position holds t ≡ Some i → Some (i + 1) ≡ in_holding (holder t)
one_holds t i e = rw add-one (ap (option_map suc) (sym e) ∙ found t)
