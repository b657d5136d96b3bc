-- What the slots of a cell tell of the queues that they stand for, and the other way.
use mathlib.Core.Path.{◌≡◌, refl}
use mathlib.Core.Logic.{◌≢◌, inl, inr}
use mathlib.Core.Bool.{Bool, true, false}
use mathlib.Core.List.{[], ◌∷◌}
use Prim.Native.Nat.{ℕ, ◌+◌, ◌<◌}
use native.Mathlib.Omega.{arith}
use lib.ListN.{length}
use Rattle.std.proofs.lemmas.Bool.{cases_eq, eq-eqb, ne_eqb}
use Rattle.station.specs.declared.Cells.{Cells}
use Rattle.form.specs.Form.{new_cells}
use Rattle.figure1.specs.Assertions.{bit}
use Rattle.demands.specs.Demands.{request_queue, answer_queue}

module _ (r : ℕ) where
  pub no_request : length (request_queue r) ≡ 0 → r ≡ 0
  no_request h = elim (cases_eq r 0) [ inl e ↦ e | inr d ↦ absurd (omega (arith, rw (ne_eqb r 0 d) at h)) ]

  pub a_request : 0 < length (request_queue r) → (r ≢ 0) × (request_queue r ≡ r ∷ [])
  a_request h = elim (cases_eq r 0) [ inl e ↦ absurd (omega (arith, rw (eq-eqb r 0 e) at h)) | inr d ↦ (d, rw (ne_eqb r 0 d)) ]

pub no_answer : (b : Bool) → length (answer_queue b) ≡ 0 → b ≡ false
no_answer true e = absurd (omega arith)
no_answer false e = refl

pub an_answer : (b : Bool) → 0 < length (answer_queue b) → b ≡ true
an_answer true h = refl
an_answer false h = absurd (omega arith)

no_mark : (b : Bool) → bit b ≡ 0 → b ≡ false
no_mark true e = absurd (omega arith)
no_mark false e = refl

pub nothing : (c : Cells) → length (request_queue c.request) + bit c.mark + length (answer_queue c.answer) ≡ 0 → c ≡ new_cells
nothing c z = λ i. record {
  request = no_request c.request (omega arith) i;
  answer = no_answer c.answer (omega arith) i;
  mark = no_mark c.mark (omega arith) i;
}
