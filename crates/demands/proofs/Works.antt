-- A step that the rules accept where the program takes a transition: from its row to the answer and the table afterwards.
use mathlib.Core.Path.{◌≡◌, sym, ap, ◌∙◌}
use mathlib.Core.Bool.{true}
use mathlib.Core.List.{List}
use Prim.Native.Nat.{ℕ, ◌-◌}
use native.Mathlib.Decide.{ℕ_discrete}
use Rattle.station.specs.declared.Station.{Station}
use Rattle.station.specs.declared.Head.{Head}
use Rattle.station.specs.declared.Cells.{Cells}
use Rattle.station.specs.declared.Step.{Step}
use Rattle.station.specs.Names.{ACCEPTED}
use Rattle.station.specs.Stations.{stations_ok, named_by, peer_of}
use Rattle.station.proofs.Laws.{Count, count_ok_within}
use Rattle.rows.specs.Rows.{Outcome, outcome_of, step_rule, outcome}
use Rattle.table.specs.Table.{cells_in, seat, peer_seat, outcome_in, landed, well_formed, answer, after}
use Rattle.table.proofs.Answers.{passed}
use Rattle.table.proofs.Kept.{form_kept}
use Rattle.figure1.specs.Figure1.{State, put₂}
use Rattle.figure1.specs.Assertions.{In}
use Rattle.figure1.proofs.Sums.{put₂_row, put₂_column}
use Rattle.demands.specs.Demands.{head_shown, next_at}
use Rattle.demands.proofs.Stations.{seated}
use Rattle.demands.proofs.Tables.{Elsewhere}
use Rattle.demands.proofs.Mirrors.{Mirrors}

pub record Works (n : ℕ) (t : List Station) (x : Step) (τ : State) : Type 0 where
  pub code : answer n t x ≡ ACCEPTED
  pub mirrors : Mirrors n (after n t x) τ

module _ {n : ℕ} (C : Count n) {σ : State} {t : List Station} (m : Mirrors n t σ) where
  pub judged : (x : Step) → answer n t x ≡ (outcome_in n t x).code
  judged x = sym (passed n t x m.form).0

  module _ (x : Step) {s : ℕ} (S : In n s) (named : named_by x ≡ s) where
    at_seat : seat x ≡ s - 1
    at_seat = rw (named, seated C S)

    pub outcome_at_seats : stations_ok n x ≡ true → outcome_in n t x
        ≡ step_rule n x (head_shown n (σ.node s)) (cells_in t (s - 1) (peer_seat t x)) (cells_in t (peer_seat t x) (s - 1))
    unfolding outcome
    outcome_at_seats ok = rw (at_seat, m.heads s S, count_ok_within C, ok)

  -- the step lands between s and its peer v
  module _ (x : Step) {s v : ℕ} (S : In n s) (P : In n v) (named : named_by x ≡ s)
      (peer : peer_of x (next_at n (σ.node s).at (σ.node s)) ≡ v) where
    at_peer : peer_seat t x ≡ v - 1
    at_peer = rw (at_seat x S named, m.heads s S, peer) (seated C P)

    pub works : {h : Head} {c d : Cells} {τ : State} → stations_ok n x ≡ true
        → step_rule n x (head_shown n (σ.node s)) (cells_in t (s - 1) (v - 1)) (cells_in t (v - 1) (s - 1)) ≡ outcome_of ACCEPTED h c d
        → (well_formed n (landed (outcome_of ACCEPTED h c d) t (s - 1) (v - 1)) ≡ true → Mirrors n (landed (outcome_of ACCEPTED h c d) t (s - 1) (v - 1)) τ)
        → Works n t x τ
    works {h} {c} {d} ok row M =
        let o : outcome_in n t x ≡ outcome_of ACCEPTED h c d = outcome_at_seats x S named ok ∙ rw at_peer row in
        let there : after n t x ≡ landed (outcome_of ACCEPTED h c d) t (s - 1) (v - 1) = sym (passed n t x m.form).1 ∙ rw (o, at_peer, at_seat x S named) in
        record { code = judged x ∙ ap (λ (u : Outcome). u.code) o; mirrors = rw there (M (rw there at (form_kept.stepped n t x m.form))) }

pub put₂_elsewhere : {A : Type 0} (f : ℕ → ℕ → A) (s t : ℕ) (x : A) (k l : ℕ) → Elsewhere k l t s → put₂ f s t x l k ≡ f l k
put₂_elsewhere f s t x k l g = elim (ℕ_discrete k t) [
  | yes e ↦ put₂_row f s t x l k (λ z. g (e, z))
  | no d ↦ put₂_column f s t x l k d
]
