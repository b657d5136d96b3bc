-- M's statements against the table: m1, m31, m5 and m71 leave it, and the others are accepted steps.
use mathlib.Core.Path.{◌≡◌, refl, sym, ap, ◌∙◌}
use mathlib.Core.Logic.{◌≢◌, inl, inr}
use mathlib.Core.Bool.{true, false, cond}
use mathlib.Core.List.{List, [], ◌∷◌, ◌++◌}
use Prim.Native.Nat.{ℕ, ◌-◌, ◌≤◌, ◌<◌}
use native.Mathlib.Omega.{arith}
use native.Mathlib.Decide.{ℕ_discrete}
use lib.ListN.{length}
use lib.Dec.{leb}
use Rattle.std.proofs.lemmas.Bool.{cases_Bool, eq-eqb, ne_eqb}
use Rattle.station.specs.declared.Station.{Station}
use Rattle.station.specs.declared.Cells.{Cells}
use Rattle.station.specs.declared.Step.TheVariants.{Ask, Send, Enter, Leave, Give}
use Rattle.station.specs.Names.{LAST_NUMBER}
use Rattle.station.specs.Stations.{stations_ok}
use Rattle.rows.specs.Rows.{step_rule}
use Rattle.station.proofs.Laws.{Count}
use Rattle.table.specs.Table.{cells_in}
use Rattle.figure1.specs.Figure1.{m1, m2, m31, m32, m4, m5, m6, m71, m72, Node, State, initial, Label, M, Run, does, put, send, at≔, asked, counted, released, rd≔}
use Rattle.figure1.specs.Assertions.{bit, In, looping}
use Rattle.figure1.proofs.Sums.{put_here, put_there, put₂_here, put₂_row}
use Rattle.figure1.proofs.Theorems.{asserted}
use Rattle.figure1.proofs.Reached.{counting}
use Rattle.figure1.proofs.Slots.{asked_once, no_self, room_to_send, room_to_give}
use Rattle.demands.proofs.Stations.{is_station_in}
use Rattle.demands.proofs.Queues.{no_request, no_answer}
use Rattle.demands.proofs.Mirrors.{Mirrors, stays, lands, lands_head}
use Rattle.demands.proofs.Rows.{ask_row, send_self_row, send_row, enter_row, leave_row, give_row, give_none_row}
use Rattle.demands.proofs.Works.{Works, works, put₂_elsewhere}

module _ {n : ℕ} (C : Count n) {ls : List Label} {σ : State} (R : Run n initial ls σ) {t : List Station} (m : Mirrors n t σ)
    {s : ℕ} (S : In n s) where
  abbrev a : Node
  a = σ.node s

  -- ---- no steps
  pub m1_stays : a.at ≡ m1 → Mirrors n t (does n σ (M m1 s))
  unfolding does
  m1_stays e = stays C m S (at≔ m2 a) (λ l. refl) (rw e)

  pub m5_stays : a.at ≡ m5 → Mirrors n t (does n σ (M m5 s))
  unfolding does
  m5_stays e = stays C m S (at≔ m6 a) (λ l. refl) (rw e)

  pub m31_stays : a.at ≡ m31 → Mirrors n t (does n σ (M m31 s))
  unfolding does
  m31_stays e = stays C m S (at≔ (cond (leb a.p n) m32 m4) a) (λ l. refl) (rw e (elim (cases_Bool (leb a.p n)) [ inl f ↦ rw f | inr f ↦ rw f ]))

  pub m71_stays : a.at ≡ m71 → Mirrors n t (does n σ (M m71 s))
  unfolding does
  m71_stays e = stays C m S (at≔ (cond (leb a.p n) m72 m1) a) (λ l. refl) (rw e (elim (cases_Bool (leb a.p n)) [ inl f ↦ rw f | inr f ↦ rw f ]))

  -- ---- steps on the head alone
  pub m2_works : a.at ≡ m2 → a.hsn < LAST_NUMBER → Works n t (Ask s) (does n σ (M m2 s))
  unfolding does stations_ok step_rule
  m2_works e h =
      works C m (Ask s) S S refl refl (is_station_in S) (ask_row n a _ _ e h (omega arith))
      (lands_head C m S (asked n a) S _ refl (λ l. refl))

  pub m4_works : a.at ≡ m4 → a.c ≡ 0 → Works n t (Enter s) (does n σ (M m4 s))
  unfolding does stations_ok step_rule
  m4_works e z =
      works C m (Enter s) S S refl refl (is_station_in S) (enter_row n a _ _ e z)
      (lands_head C m S (at≔ m5 a) S _ refl (λ l. refl))

  pub m6_works : a.at ≡ m6 → Works n t (Leave s) (does n σ (M m6 s))
  unfolding does stations_ok step_rule
  m6_works e =
      works C m (Leave s) S S refl refl (is_station_in S) (leave_row n a _ _ e (omega arith))
      (lands_head C m S (released a) S _ refl (λ l. refl))

  -- ---- steps to p
  peer : bit (looping a.at) ≡ 1 → In n a.p
  peer e = let r = (asserted R).p_range s S in omega arith

  abbrev mine : Cells
  mine = cells_in t (s - 1) (a.p - 1)

  abbrev theirs : Cells
  theirs = cells_in t (a.p - 1) (s - 1)

  module _ (e : a.at ≡ m32) where
    P : In n a.p
    P = peer (rw e)

    sends_self : a.p ≡ s → Works n t (Send s) (record { node = put σ.node s (counted m31 a); chq = σ.chq; chp = σ.chp })
    unfolding stations_ok step_rule
    sends_self f =
        works C m (Send s) S P refl (rw e) (is_station_in S) (send_self_row n a _ _ s e f)
        (lands_head C m S (counted m31 a) P _ refl (λ l. refl))

    sends : a.p ≢ s → Works n t (Send s) (record { node = put σ.node s (counted m31 a); chq = send σ.chq s a.p a.osn; chp = σ.chp })
    unfolding stations_ok step_rule
    sends d =
        works C m (Send s) S P refl (rw e) (is_station_in S) (send_row n a mine theirs s e d empty)
        (lands C m S (counted m31 a) P _ _ _ (send σ.chq s a.p a.osn) σ.chp refl
        (λ _. rw (put₂_row σ.chq s a.p (σ.chq s a.p ++ (a.osn ∷ [])) a.p s d) (m.wires s a.p S P))
        (record {
          request = rw (put₂_here, room, ne_eqb a.osn 0 (omega (arith, own)));
          answer = (m.wires a.p s P S).answer;
          mark = rw (put_there σ.node s (counted m31 a) a.p d) (m.wires a.p s P S).mark;
        })
        (λ k l _ g. put₂_elsewhere σ.chq s a.p _ k l g)
        (λ k l _ _. refl)
        (λ l _. refl))
      where
        room : σ.chq s a.p ≡ []
        room = room_to_send (counting R) s S e d

        empty : theirs.request ≡ 0
        empty = no_request theirs.request (ap length (sym (m.wires a.p s P S).request ∙ room))

        own : 1 ≤ a.osn
        own = asked_once (counting R) s S ((asserted R).rcs_range s S ∙ rw e)

    pub m32_works : Works n t (Send s) (does n σ (M m32 s))
    unfolding does
    m32_works = elim (ℕ_discrete a.p s) [
      | yes f ↦ rw (eq-eqb a.p s f) (sends_self f)
      | no d ↦ rw (ne_eqb a.p s d) (sends d)
    ]

  module _ (e : a.at ≡ m72) where
    Q : In n a.p
    Q = peer (rw e)

    abbrev cleared : Node
    cleared = counted m71 (rd≔ a.p false a)

    gives_none : a.rd a.p ≡ false → Works n t (Give s) (record { node = put σ.node s (counted m71 a); chq = σ.chq; chp = σ.chp })
    unfolding stations_ok step_rule
    gives_none f =
        works C m (Give s) S Q refl (rw e) (is_station_in S) (give_none_row n a _ _ e (sym (m.wires s a.p S Q).mark ∙ f))
        (lands_head C m S (counted m71 a) Q _ refl (λ l. refl))

    gives : a.rd a.p ≡ true → Works n t (Give s) (record { node = put σ.node s cleared; chq = σ.chq; chp = send σ.chp s a.p 1 })
    unfolding stations_ok step_rule
    gives f =
        works C m (Give s) S Q refl (rw e) (is_station_in S) (give_row n a mine theirs e marked empty)
        (lands C m S cleared Q _ _ _ σ.chq (send σ.chp s a.p 1) refl
        (λ _. record {
          request = (m.wires s a.p S Q).request;
          answer = rw (put₂_row σ.chp s a.p (σ.chp s a.p ++ (1 ∷ [])) a.p s d) (m.wires s a.p S Q).answer;
          mark = put_here a.rd a.p false;
        })
        (record {
          request = (m.wires a.p s Q S).request;
          answer = rw (put₂_here, room);
          mark = rw (put_there σ.node s cleared a.p d) (m.wires a.p s Q S).mark;
        })
        (λ k l _ _. refl)
        (λ k l _ g. put₂_elsewhere σ.chp s a.p _ k l g)
        (λ l g. put_there a.rd a.p false l g))
      where
        room : σ.chp s a.p ≡ []
        room = room_to_give (counting R) s S e f

        d : a.p ≢ s
        d z = omega (arith, no_self (counting R) s S, ap bit (rw z at f))

        marked : mine.mark ≡ true
        marked = sym (m.wires s a.p S Q).mark ∙ f

        empty : theirs.answer ≡ false
        empty = no_answer _ (ap length (sym (m.wires a.p s Q S).answer ∙ room))

    pub m72_works : Works n t (Give s) (does n σ (M m72 s))
    unfolding does
    m72_works = elim (cases_Bool (a.rd a.p)) [ inl f ↦ rw f (gives f) | inr f ↦ rw f (gives_none f) ]
