-- q1 and r1 against the table: what they receive is in its slot, and both are accepted steps.
use mathlib.Core.Path.{◌≡◌, refl, sym, ap, ◌∙◌}
use mathlib.Core.Logic.{◌≢◌}
use mathlib.Core.Bool.{true, false}
use mathlib.Core.List.{List, [], ◌∷◌, ◌++◌}
use Prim.Native.Nat.{ℕ, ◌+◌, ◌-◌, ◌<◌}
use native.Mathlib.Omega.{arith}
use lib.ListN.{length}
use Rattle.std.proofs.lemmas.Bool.{cond_both, ne_eqb}
use Rattle.station.specs.declared.Station.{Station}
use Rattle.station.specs.declared.Cells.{Cells}
use Rattle.station.specs.declared.Step.TheVariants.{TakeRequest, TakeAnswer}
use Rattle.station.specs.Stations.{stations_ok}
use Rattle.rows.specs.Rows.{step_rule, answers_now}
use Rattle.station.proofs.Laws.{Count}
use Rattle.table.specs.Table.{cells_in}
use Rattle.figure1.specs.Figure1.{Node, State, initial, Label, q1, r1, Run, does, put, put₂, send, others, rd≔, raised, replied}
use Rattle.figure1.specs.Assertions.{In}
use Rattle.figure1.proofs.Sums.{put_here, put_there, put₂_here, put₂_row}
use Rattle.figure1.proofs.Theorems.{asserted}
use Rattle.figure1.proofs.Reached.{counting}
use Rattle.figure1.proofs.Slots.{no_self, room_to_judge, reply_due}
use Rattle.demands.specs.Demands.{place_at}
use Rattle.demands.proofs.Stations.{is_station_in}
use Rattle.demands.proofs.Queues.{a_request, no_answer, an_answer}
use Rattle.demands.proofs.Mirrors.{Mirrors, lands}
use Rattle.demands.proofs.Rows.{grants_shown, grant_row, defer_row, answer_row}
use Rattle.demands.proofs.Works.{Works, works, put₂_elsewhere}

module _ {n : ℕ} (C : Count n) {ls : List Label} {σ : State} (R : Run n initial ls σ) {t : List Station} (m : Mirrors n t σ)
    {s u : ℕ} (S : In n s) (U : In n u) where
  abbrev a : Node
  a = σ.node s

  abbrev mine : Cells
  mine = cells_in t (s - 1) (u - 1)

  abbrev theirs : Cells
  theirs = cells_in t (u - 1) (s - 1)

  apart : 0 < length (σ.chq u s) + length (σ.chp u s) → s ≢ u
  apart h z = omega (arith, no_self (counting R) s S, rw (← z) at h)

  module _ (h : 0 < length (σ.chq u s)) where
    other : s ≢ u
    other = apart (omega arith)

    slot : (mine.request ≢ 0) × (σ.chq u s ≡ mine.request ∷ [])
    slot =
        let w = (m.wires s u S U).request in
        let r = a_request mine.request (rw w at h) in
        (r.0, w ∙ r.1)

    taken : (q : List ℕ) → put₂ σ.chq u s q s u ≡ σ.chq s u
    taken q = put₂_row σ.chq u s q s u other

    abbrev answering : State
    answering = record {
      node = put σ.node s (raised mine.request a);
      chq = put₂ σ.chq u s [];
      chp = send σ.chp s u 1;
    }

    abbrev marking : State
    marking = record {
      node = put σ.node s (rd≔ u true (raised mine.request a));
      chq = put₂ σ.chq u s [];
      chp = σ.chp;
    }

    answers : answers_now mine.request u (place_at n a.at a) a.osn s ≡ true
        → Works n t (TakeRequest s u) answering
    unfolding stations_ok step_rule
    answers e =
        works C m (TakeRequest s u) S U refl refl (rw (is_station_in S, is_station_in U, ne_eqb s u other))
        (grant_row n a mine theirs s u slot.0 e (no_answer _ (ap length (sym (m.wires u s U S).answer ∙ room))))
        (lands C m S (raised mine.request a) U _ _ _ (put₂ σ.chq u s []) (send σ.chp s u 1) refl
        (λ _. record {
          request = put₂_here σ.chq u s [];
          answer = put₂_row σ.chp s u (σ.chp s u ++ (1 ∷ [])) u s (λ z. other (sym z)) ∙ (m.wires s u S U).answer;
          mark = (m.wires s u S U).mark;
        })
        (record {
          request = taken [] ∙ (m.wires u s U S).request;
          answer = rw (put₂_here, room);
          mark = rw (put_there σ.node s (raised mine.request a) u (λ z. other (sym z))) (m.wires u s U S).mark;
        })
        (λ k l f _. put₂_elsewhere σ.chq u s _ k l f)
        (λ k l _ g. put₂_elsewhere σ.chp s u _ k l g)
        (λ l _. refl))
      where
        room : σ.chp s u ≡ []
        room = (room_to_judge (counting R) s u S U h).0

    marks : answers_now mine.request u (place_at n a.at a) a.osn s ≡ false
        → Works n t (TakeRequest s u) marking
    unfolding stations_ok step_rule
    marks e =
        works C m (TakeRequest s u) S U refl refl (rw (is_station_in S, is_station_in U, ne_eqb s u other))
        (defer_row n a mine theirs s u slot.0 e (sym (m.wires s u S U).mark ∙ (room_to_judge (counting R) s u S U h).1))
        (lands C m S (rd≔ u true (raised mine.request a)) U _ _ _ (put₂ σ.chq u s []) σ.chp refl
        (λ _. record {
          request = put₂_here σ.chq u s [];
          answer = (m.wires s u S U).answer;
          mark = put_here a.rd u true;
        })
        (record {
          request = taken [] ∙ (m.wires u s U S).request;
          answer = (m.wires u s U S).answer;
          mark = rw (put_there σ.node s (rd≔ u true (raised mine.request a)) u (λ z. other (sym z))) (m.wires u s U S).mark;
        })
        (λ k l f _. put₂_elsewhere σ.chq u s _ k l f)
        (λ k l _ _. refl)
        (λ l d. put_there a.rd u true l d))

    pub q1_works : Works n t (TakeRequest s u) (does n σ (q1 s u))
    unfolding does
    q1_works = rw (slot.1, grants_shown n a ((asserted R).rcs_range s S) mine.request u s)
        (cond_both (answers_now mine.request u (place_at n a.at a) a.osn s) _ _ (Works n t (TakeRequest s u)) answers marks)

  module _ (h : 0 < length (σ.chp u s)) where
    pub r1_works : Works n t (TakeAnswer s u) (does n σ (r1 s u))
    unfolding does stations_ok step_rule
    r1_works =
        works C m (TakeAnswer s u) S U refl refl (rw (is_station_in S, is_station_in U, ne_eqb s u d))
        (answer_row n a mine theirs full (reply_due (counting R) s u S U h))
        (lands C m S (replied a) U _ _ _ σ.chq (put₂ σ.chp u s (others (σ.chp u s))) refl
        (λ _. record {
          request = (m.wires s u S U).request;
          answer = rw (put₂_here, (m.wires s u S U).answer, full);
          mark = (m.wires s u S U).mark;
        })
        (record {
          request = (m.wires u s U S).request;
          answer = put₂_row σ.chp u s (others (σ.chp u s)) s u d ∙ (m.wires u s U S).answer;
          mark = rw (put_there σ.node s (replied a) u (λ z. d (sym z))) (m.wires u s U S).mark;
        })
        (λ k l _ _. refl)
        (λ k l f _. put₂_elsewhere σ.chp u s _ k l f)
        (λ l _. refl))
      where
        d : s ≢ u
        d = apart (omega arith)

        full : mine.answer ≡ true
        full = an_answer mine.answer (rw (m.wires s u S U).answer at h)
