-- Of each useless engine: demand 2 fails of it, at n = 2 in the first step or two; and it passes demand 3's first sentence all the same.
use mathlib.Core.Path.{refl, ap, ◌≡◌, sym, ◌∙◌}
use mathlib.Core.Bool.{false≢true, true}
use mathlib.Core.List.{[], ◌∷◌, List, ◌++◌}
use native.Mathlib.Omega.{arith}
use Rattle.std.proofs.lemmas.Bool.{cases_cond}
use Rattle.station.specs.declared.Head.{Head}
use Rattle.station.specs.declared.Step.TheVariants.{Ask, Enter}
use Rattle.figure1.specs.Figure1.{State, initial, M, m1, m2, m31, can, does, put, Run, stop, move}
use Rattle.engines.specs.Engines.{accepted_of, Engine, ours, table_after, reached}
use Rattle.demands.specs.Demands.{Demand2, words, word, OneHolder}
use Rattle.demands.specs.Useless.{refuses_all, says_accepted, does_nothing, works_once, all_idle, ShutsOut, PassFirstSentence}
use Rattle.engines.proofs.Computed.{computed}
use Rattle.engines.proofs.Lists.{after_append}
use Rattle.demands.proofs.Lists.{begun}
use mathlib.Core.Logic.{◌≢◌, ◌⊎◌, inl, inr}
use Prim.Native.Nat.{ℕ}
use Rattle.station.specs.declared.Station.{Station}
use Rattle.station.specs.declared.Step.{Step}
use Rattle.station.specs.Names.{ACCEPTED}
use Rattle.station.specs.Stations.{count_ok}
use Rattle.table.specs.Table.{after}
use Rattle.demands.proofs.Demand3.{demand_3}

-- ---- what demand 2 shuts out
two : count_ok 2 ≡ true
unfolding count_ok
two = refl

-- the program after Ask 1
abbrev asked : State
asked = does 2 (does 2 (does 2 initial (M m1 1)) (M m2 1)) (M m31 1)

asks : Run 2 initial (word (Ask 1)) asked
unfolding can does put
asks = move refl (move refl (move refl stop))

-- takes_accepted: the program can take Ask 1 at the start
refuses_all_not : (code : ℕ) → code ≢ ACCEPTED → Demand2 (refuses_all code) → ⊥
unfolding accepted_of words
refuses_all_not code refused D = refused ((D 2 two).takes_accepted [] initial stop (Ask 1) (record { next = asked; run = asks; number = omega arith }))

-- accepted_takes: the program cannot take Enter 1 at the start
says_accepted_not : Demand2 says_accepted → ⊥
unfolding accepted_of words can
says_accepted_not D = false≢true (begun ((D 2 two).accepted_takes [] initial stop (Enter 1) refl).run).0

-- lands: after Ask 1 the program's node 1 sends, and the table has station 1 in Idle
does_nothing_not : Demand2 does_nothing → ⊥
unfolding computed can does put words
does_nothing_not D =
    let shown = ((D 2 two).lands [] initial stop (Ask 1) refl asked asks).heads 1 (record { low = omega arith; high = omega arith }) in
    absurd (omega (arith, ap (λ (h : Head). h.place) shown))

-- accepted_takes: after Ask 1 the program cannot take it again
works_once_not : Demand2 works_once → ⊥
unfolding computed can does put all_idle words
works_once_not D = false≢true (begun ((D 2 two).accepted_takes (Ask 1 ∷ []) asked asks (Ask 1) refl).run).0

pub shuts_out : ShutsOut
shuts_out = record { refuses_all = refuses_all_not; says_accepted = says_accepted_not; does_nothing = does_nothing_not; works_once = works_once_not }

-- ---- demand 3's first sentence: an engine that steps by our rules or not at all goes only where ours goes, so it has one holder at most
-- the engine steps by our rules, or keeps the table
abbrev StepsOrKeeps : Engine → Type 0
StepsOrKeeps E = (n : ℕ) (t : List Station) (x : Step) → (E.after n t x ≡ after n t x) ⊎ (E.after n t x ≡ t)

-- a table that ours reaches
record Ours (n : ℕ) (t : List Station) : Type 0 where
  steps : List Step
  same : t ≡ reached ours n steps

module _ (E : Engine) (S : StepsOrKeeps E) (n : ℕ) where
  one_more : (t : List Station) (x : Step) → Ours n t → Ours n (E.after n t x)
  unfolding table_after
  one_more t x o = elim (S n t x) [
    | inl e ↦ record {
      steps = o.steps ++ (x ∷ []);
      same = e ∙ ap (λ (u : List Station). after n u x) o.same ∙ sym (after_append ours n _ o.steps (x ∷ []));
    }
    | inr e ↦ record { steps = o.steps; same = e ∙ o.same }
  ]

  stays_ours : (t : List Station) (xs : List Step) → Ours n t → Ours n (table_after E n t xs)
  unfolding table_after
  stays_ours t [] o = o
  stays_ours t (x ∷ xs) o = stays_ours (E.after n t x) xs (one_more t x o)

passes : (n : ℕ) → count_ok n ≡ true → (E : Engine) → StepsOrKeeps E → OneHolder E n
unfolding table_after
passes n ok E S xs i j H K h k =
    let o = stays_ours E S n _ xs (record { steps = []; same = refl }) in
    (demand_3 n ok).one_holder o.steps i j H K (rw o.same at h) (rw o.same at k)

pub pass_first_sentence : PassFirstSentence
pass_first_sentence = record {
  refuses_all = λ code n ok. passes n ok (refuses_all code) (λ n t x. inr refl);
  says_accepted = λ n ok. passes n ok says_accepted (λ n t x. inr refl);
  does_nothing = λ n ok. passes n ok does_nothing (λ n t x. inr refl);
  works_once = λ n ok. passes n ok works_once (λ n t x. cases_cond (all_idle t) (after n t x) t _ refl);
}
