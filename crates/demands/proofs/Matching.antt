-- Every run of the program, matched by accepted steps: one transition at a time, and a step's own transitions.
use mathlib.Core.Path.{◌≡◌, refl, ap}
use mathlib.Core.Bool.{true}
use mathlib.Core.List.{List, [], ◌∷◌, ◌++◌}
use Prim.Native.Nat.{ℕ}
use native.Mathlib.Omega.{arith}
use lib.ListN.{length}
use mathlib.Core.Logic.{inl, inr}
use Rattle.std.proofs.lemmas.Bool.{cases_eq, eqb-true, ne_eqb}
use Rattle.station.specs.declared.Station.{Station}
use Rattle.station.specs.declared.Step.{Step}
use Rattle.station.specs.declared.Step.TheVariants.{Ask, Send, Enter, Leave, Give, TakeRequest, TakeAnswer}
use Rattle.station.specs.Names.{ACCEPTED}
use Rattle.station.proofs.Laws.{Count}
use Rattle.table.specs.Table.{answer, after}
use Rattle.figure1.specs.Figure1.{m1, m2, m31, m32, m4, m5, m6, m71, m72, State, initial, Label, M, q1, r1, can, does, Run, stop, move}
use Rattle.figure1.proofs.Sums.{put_here}
use Rattle.figure1.proofs.Enabled.{can_main, can_take}
use Rattle.figure1.proofs.Runs.{run_append}
use Rattle.engines.specs.Engines.{ours, table_after, accepted_of}
use Rattle.demands.specs.Demands.{word, step_at, steps_of, NumberLeft, NumbersLeft}
use Rattle.demands.proofs.Mirrors.{Mirrors}
use Rattle.demands.proofs.Works.{Works}
use Rattle.demands.proofs.Statements.{m1_stays, m2_works, m31_stays, m32_works, m4_works, m5_stays, m6_works, m71_stays, m72_works}
use Rattle.demands.proofs.Takes.{q1_works, r1_works}

-- the steps xs are all accepted from t on, and the table afterwards mirrors τ
abbrev pub Follows : ℕ → List Station → List Step → State → Type 0
Follows n t xs τ = (accepted_of ours n t xs ≡ xs) × Mirrors n (table_after ours n t xs) τ

-- a transition that is no step, or one
data Moves (n : ℕ) (t : List Station) : List Step → State → Type 0 where
  still : {τ : State} → Mirrors n t τ → Moves n t [] τ
  step : {x : Step} {τ : State} → Works n t x τ → Moves n t (x ∷ []) τ

move_on : {n : ℕ} {t : List Station} {xs ys : List Step} {σ τ : State} → Moves n t xs σ
    → ((u : List Station) → Mirrors n u σ → Follows n u ys τ) → Follows n t (xs ++ ys) τ
unfolding accepted_of table_after
move_on {t = t} (still W) f = f t W
move_on {n = n} {t = t} (step {x = x} W) f = let F = f (after n t x) W.mirrors in (rw W.code (ap (x ∷◌) F.0), F.1)

module _ {n : ℕ} (C : Count n) where
  module _ {ls : List Label} {σ : State} (R : Run n initial ls σ) {t : List Station} (m : Mirrors n t σ) where
    fine : (l : Label) → can n σ l ≡ true → NumbersLeft n σ (l ∷ []) → Moves n t (step_at l) (does n σ l)
    unfolding NumbersLeft can
    fine (M m1 s) e h = let (S, at, _) = can_main n σ m1 s e in still (m1_stays C R m S at)
    fine (M m2 s) e h = let (S, at, _) = can_main n σ m2 s e in step (m2_works C R m S at h.0.0)
    fine (M m31 s) e h = let (S, at, _) = can_main n σ m31 s e in still (m31_stays C R m S at)
    fine (M m32 s) e h = let (S, at, _) = can_main n σ m32 s e in step (m32_works C R m S at)
    fine (M m4 s) e h = let (S, at, z) = can_main n σ m4 s e in step (m4_works C R m S at (eqb-true _ 0 z))
    fine (M m5 s) e h = let (S, at, _) = can_main n σ m5 s e in still (m5_stays C R m S at)
    fine (M m6 s) e h = let (S, at, _) = can_main n σ m6 s e in step (m6_works C R m S at)
    fine (M m71 s) e h = let (S, at, _) = can_main n σ m71 s e in still (m71_stays C R m S at)
    fine (M m72 s) e h = let (S, at, _) = can_main n σ m72 s e in step (m72_works C R m S at)
    fine (q1 s u) e h = let (S, U, some) = can_take n s u (σ.chq u s) e in step (q1_works C R m S U some)
    fine (r1 s u) e h = let (S, U, some) = can_take n s u (σ.chp u s) e in step (r1_works C R m S U some)

  pub run_follows : {ks ls : List Label} {σ τ : State} {t : List Station} → Run n initial ks σ → Mirrors n t σ → Run n σ ls τ
      → NumbersLeft n σ ls → Follows n t (steps_of ls) τ
  unfolding steps_of NumbersLeft accepted_of table_after
  run_follows R m stop h = (refl, m)
  run_follows {ks = ks} {t = t} R m (move {l = l} e Q) h =
      move_on (fine R m l e (h.0, tt)) (λ u W. run_follows {ks = ks ++ (l ∷ [])} {t = u} (run_append R (move e stop)) W Q h.1)

  -- ---- a step's own transitions
  word_step : (x : Step) → steps_of (word x) ≡ x ∷ []
  unfolding steps_of
  word_step (Ask s) = refl
  word_step (Send s) = refl
  word_step (Enter s) = refl
  word_step (Leave s) = refl
  word_step (Give s) = refl
  word_step (TakeRequest s u) = refl
  word_step (TakeAnswer s u) = refl

  word_left : (σ : State) (x : Step) → NumberLeft σ x → NumbersLeft n σ (word x)
  unfolding NumbersLeft does
  word_left σ (Ask s) h = (tt, ((rw put_here h, tt), (tt, tt)))
  word_left σ (Send s) h = ((tt, tt), (tt, tt))
  word_left σ (Enter s) h = ((tt, tt), tt)
  word_left σ (Leave s) h = (tt, ((tt, tt), (tt, tt)))
  word_left σ (Give s) h = ((tt, tt), (tt, tt))
  word_left σ (TakeRequest s u) h = ((tt, tt), tt)
  word_left σ (TakeAnswer s u) h = ((tt, tt), tt)

  one_accepted : (t : List Station) (x : Step) → accepted_of ours n t (x ∷ []) ≡ x ∷ [] → answer n t x ≡ ACCEPTED
  unfolding accepted_of
  one_accepted t x e = elim (cases_eq (answer n t x) ACCEPTED) [
    | inl z ↦ z
    | inr d ↦ absurd (omega (arith, ap length (rw (ne_eqb (answer n t x) ACCEPTED d) at e)))
  ]

  pub word_works : {ls : List Label} {σ τ : State} {t : List Station} → Run n initial ls σ → Mirrors n t σ → (x : Step) → Run n σ (word x) τ
      → NumberLeft σ x → Works n t x τ
  unfolding table_after
  word_works {σ = σ} {τ = τ} {t = t} R m x Q h =
      let F : Follows n t (x ∷ []) τ = rw (word_step x) at (run_follows R m Q (word_left σ x h)) in
      record { code = one_accepted t x F.0; mirrors = F.1 }
