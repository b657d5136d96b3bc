-- Between steps, every step offered is one that the program takes, or is refused with a code other than 2 and 8.
use mathlib.Core.Path.{◌≡◌, refl, ap, ◌∙◌}
use mathlib.Core.Logic.{◌≢◌, ◌⊎◌, inl, inr}
use mathlib.Core.Bool.{Bool, true, false}
use mathlib.Core.List.{List}
use Prim.Native.Nat.{ℕ, ◌-◌, ◌<◌}
use native.Mathlib.Omega.{arith}
use native.Mathlib.Decide.{ℕ_discrete}
use Rattle.std.proofs.lemmas.Bool.{cases_Bool, cond_both, eq-eqb, ne_eqb}
use Rattle.std.proofs.lemmas.Bool.Decides.{nat_tests}
use Rattle.station.specs.declared.Cells.{Cells}
use Rattle.station.specs.declared.Station.{Station}
use Rattle.station.specs.declared.Step.{Step}
use Rattle.station.specs.declared.Step.TheVariants.{Ask, Send, Enter, Leave, Give, TakeRequest, TakeAnswer}
use Rattle.station.specs.Names.{IDLE, SENDING, WAITING, HOLDING, GIVING, LAST_NUMBER, ACCEPTED, NOT_WELL_FORMED, AT_ODDS}
use Rattle.station.specs.Stations.{is_station, stations_ok, named_by}
use Rattle.station.proofs.Laws.{Count, count_ok_within, two_stations}
use Rattle.rows.specs.Rows.{ask_rule, send_rule, enter_rule, leave_rule, give_rule, take_request_rule, take_answer_rule, step_rule, outcome}
use Rattle.table.specs.Table.{cells_in, peer_seat, answer}
use Rattle.figure1.specs.Figure1.{m1, m2, m31, m32, m4, m5, m6, m71, m72, Node, State, initial, Label, Run, at≔, asked, counted, released, rd≔, main}
use Rattle.figure1.specs.Assertions.{In}
use Rattle.demands.specs.Demands.{place_at, head_shown}
use Rattle.demands.proofs.Stations.{station, seated}
use Rattle.demands.proofs.Mirrors.{Mirrors}
use Rattle.demands.proofs.Works.{judged, outcome_at_seats}
use Rattle.demands.proofs.Settled.{home, Rests, Settled, Proceeds, begins, goes, proceeds, rests_sending, rests_giving, requested, answered}

abbrev pub Refused : ℕ → Type 0
Refused code = (code ≢ ACCEPTED) × (code ≢ NOT_WELL_FORMED) × (code ≢ AT_ODDS)

module _ {n : ℕ} (C : Count n) {ls : List Label} {σ : State} (R : Run n initial ls σ) {t : List Station} (m : Mirrors n t σ) (H : Settled n σ.node) where
  abbrev Verdict : Step → Type 0
  Verdict x = Proceeds n σ x ⊎ Refused (answer n t x)

  no_such : (x : Step) → stations_ok n x ≡ false → Verdict x
  unfolding outcome
  no_such x e = inr (rw (judged C m x, count_ok_within C, e) (omega arith))

  -- a station that is there
  module _ (x : Step) {s : ℕ} (S : In n s) (named : named_by x ≡ s) (ok : stations_ok n x ≡ true) where
    abbrev mine : Cells
    mine = cells_in t (s - 1) (peer_seat t x)

    abbrev theirs : Cells
    theirs = cells_in t (peer_seat t x) (s - 1)

    coded : Refused (step_rule n x (head_shown n (σ.node s)) mine theirs).code → Verdict x
    coded r = inr (rw (judged C m x, outcome_at_seats C m x S named ok) r)

    -- a statement of M, where the node stands at it or the place is wrong
    at_place : (place : ℕ)
        → (place_at n (σ.node s).at (σ.node s) ≢ place → Refused (step_rule n x (head_shown n (σ.node s)) mine theirs).code)
        → (place_at n (σ.node s).at (σ.node s) ≡ place → (σ.node s).at ≡ home place → Verdict x) → Verdict x
    at_place place wrong right = elim (ℕ_discrete (place_at n (σ.node s).at (σ.node s)) place) [
      | yes e ↦ right e ((H s S).at_home ∙ ap home e)
      | no d ↦ coded (wrong d)
    ]

  -- the five steps of M
  module _ {s : ℕ} (S : In n s) (ok : is_station n s ≡ true) where
    abbrev a : Node
    a = σ.node s

    ask_verdict : Verdict (Ask s)
    unfolding stations_ok step_rule ask_rule
    ask_verdict = at_place (Ask s) S refl ok IDLE (λ d. grind (arith, nat_tests)) (λ p e. elim (ℕ_discrete a.hsn LAST_NUMBER) [
      | yes h ↦ coded (Ask s) S refl ok (grind (arith, nat_tests))
      | no d ↦
          let h : a.hsn < LAST_NUMBER = omega (arith, (H s S).high) in
          inl (proceeds σ S (Ask s) H (goes σ S m31 refl refl (goes σ S m2 refl refl (goes σ S m1 e refl (begins σ S)))) h
          (rests_sending s (asked n (at≔ m2 a)) (omega arith) (omega arith)))
    ])

    send_verdict : Verdict (Send s)
    unfolding stations_ok step_rule send_rule
    send_verdict = at_place (Send s) S refl ok SENDING (λ d. grind (arith, nat_tests)) (λ _ e.
        inl (proceeds σ S (Send s) H (goes σ S m31 refl refl (goes σ S m32 e refl (begins σ S))) tt
        (rests_sending s (counted m31 a) (H s S).own (H s S).high)))

    enter_verdict : Verdict (Enter s)
    unfolding stations_ok step_rule enter_rule
    enter_verdict = at_place (Enter s) S refl ok WAITING (λ d. grind (arith, nat_tests)) (λ p e. elim (ℕ_discrete a.c 0) [
      | no d ↦ coded (Enter s) S refl ok (grind (arith, nat_tests))
      | yes z ↦ inl (proceeds σ S (Enter s) H (goes σ S m4 e (eq-eqb a.c 0 z) (begins σ S)) tt
          (record { at_home = refl; own = (H s S).own; high = (H s S).high }))
    ])

    leave_verdict : Verdict (Leave s)
    unfolding stations_ok step_rule leave_rule
    leave_verdict = at_place (Leave s) S refl ok HOLDING (λ d. grind (arith, nat_tests)) (λ _ e.
        inl (proceeds σ S (Leave s) H (goes σ S m71 refl refl (goes σ S m6 refl refl (goes σ S m5 e refl (begins σ S)))) tt
        (rests_giving s (released (at≔ m6 a)) (H s S).own (H s S).high)))

    give_verdict : Verdict (Give s)
    unfolding stations_ok step_rule give_rule
    give_verdict = at_place (Give s) S refl ok GIVING (λ d. grind (arith, nat_tests)) (λ _ e.
        inl (proceeds σ S (Give s) H (goes σ S m71 refl refl (goes σ S m72 e refl (begins σ S))) tt
        (cond_both (a.rd a.p) _ _ (λ (b : Node). Rests n (main n s m71 (counted m71 b)))
        (λ _. rests_giving s (counted m71 (rd≔ a.p false a)) (H s S).own (H s S).high)
        (λ _. rests_giving s (counted m71 a) (H s S).own (H s S).high))))

  -- the two takes
  module _ {s u : ℕ} (S : In n s) (U : In n u) where
    request_verdict : stations_ok n (TakeRequest s u) ≡ true → Verdict (TakeRequest s u)
    unfolding step_rule take_request_rule
    request_verdict ok = elim (ℕ_discrete (cells_in t (s - 1) (u - 1)).request 0) [
      | yes e ↦ coded (TakeRequest s u) S refl ok (rw (seated C U, eq-eqb _ 0 e) (omega arith))
      | no d ↦ inl (requested σ S U H R (rw ((m.wires s u S U).request, ne_eqb _ 0 d) (omega arith)))
    ]

    answer_verdict : stations_ok n (TakeAnswer s u) ≡ true → Verdict (TakeAnswer s u)
    unfolding step_rule take_answer_rule
    answer_verdict ok = elim (cases_Bool (cells_in t (s - 1) (u - 1)).answer) [
      | inl e ↦ inl (answered σ S U H (rw ((m.wires s u S U).answer, e) (omega arith)))
      | inr e ↦ coded (TakeAnswer s u) S refl ok (rw (seated C U, e) (omega arith))
    ]

  pub verdict : (x : Step) → Verdict x
  unfolding stations_ok
  verdict x = go x (stations_ok n x) refl
    where
      go : (x : Step) (b : Bool) → stations_ok n x ≡ b → Verdict x
      go x false e = no_such x e
      go (Ask s) true e = ask_verdict (station n s e) e
      go (Send s) true e = send_verdict (station n s e) e
      go (Enter s) true e = enter_verdict (station n s e) e
      go (Leave s) true e = leave_verdict (station n s e) e
      go (Give s) true e = give_verdict (station n s e) e
      go (TakeRequest s u) true e = let (S, U, _) = two_stations n s u e in request_verdict (station n s S) (station n u U) e
      go (TakeAnswer s u) true e = let (S, U, _) = two_stations n s u e in answer_verdict (station n s S) (station n u U) e
