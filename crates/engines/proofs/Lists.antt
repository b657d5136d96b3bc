-- Lists of offered steps put end to end: the table, the entries and the accepted steps.
use mathlib.Core.Path.{◌≡◌, refl, sym}
use mathlib.Core.List.{List, [], ◌∷◌, ◌++◌}
use Prim.Native.Nat.{ℕ, ◌+◌}
use native.Mathlib.Nat.{zero-add}
use native.Mathlib.Omega.{arith}
use mathlib.Core.Logic.{inl, inr}
use Rattle.std.proofs.lemmas.Bool.{cases_Bool}
use Rattle.station.specs.declared.Station.{Station}
use Rattle.station.specs.declared.Step.{Step}
use Rattle.engines.specs.Engines.{Engine, accepts, table_after, accepted_of, entries}

module _ (E : Engine) (n : ℕ) where
  pub after_append : (t : List Station) (xs ys : List Step) → table_after E n t (xs ++ ys) ≡ table_after E n (table_after E n t xs) ys
  unfolding table_after
  after_append t [] ys = refl
  after_append t (x ∷ xs) ys = after_append (E.after n t x) xs ys

  pub entries_append : (y : ℕ) (t : List Station) (xs ys : List Step)
      → entries E n y t (xs ++ ys) ≡ entries E n y t xs + entries E n y (table_after E n t xs) ys
  unfolding table_after entries
  entries_append y t [] ys = sym (zero-add _)
  entries_append y t (x ∷ xs) ys = omega (arith, entries_append y (E.after n t x) xs ys)

  pub accepted_append : (t : List Station) (xs ys : List Step)
      → accepted_of E n t (xs ++ ys) ≡ accepted_of E n t xs ++ accepted_of E n (table_after E n t xs) ys
  unfolding accepted_of table_after
  accepted_append t [] ys = refl
  accepted_append t (x ∷ xs) ys =
      rw (accepted_append (E.after n t x) xs ys) (elim (cases_Bool (accepts E n t x)) [ inl e ↦ rw e | inr e ↦ rw e ])
