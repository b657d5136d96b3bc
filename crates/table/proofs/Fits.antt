-- Each row keeps the form: what comes out of a step on a head and two cells in form is in form.
use mathlib.Core.Path.{◌≡◌, refl, sym, ◌∙◌}
use mathlib.Core.Logic.{◌≢◌}
use mathlib.Core.Bool.{Bool, true, cond}
use Prim.Native.Nat.{ℕ, ◌+◌, ◌≤◌, ◌<◌}
use native.Mathlib.Omega.{arith}
use lib.Dec.{eqb, leb, ltb}
use borrow.Author.Tests.{eqb-true, eqb-false, ltb-true, le-leb}
use Rattle.station.specs.declared.Head.{Head}
use Rattle.station.specs.declared.Cells.{Cells}
use Rattle.station.specs.declared.Step.{Step}
use Rattle.station.specs.declared.Step.TheVariants.{Ask, Send, Enter, Leave, Give, TakeRequest, TakeAnswer}
use Rattle.station.specs.Names.{IDLE, SENDING, WAITING, HOLDING, GIVING, LAST_NUMBER, STATIONS, ACCEPTED}
use Rattle.station.specs.Stations.{count_ok, is_station, stations_ok, index_of}
use Rattle.std.proofs.lemmas.Bool.{cond_both}
use Rattle.station.proofs.Laws.{count_range, station_range, two_stations}
use Rattle.rows.specs.Rows.{Outcome, outcome_of, answers_now, onward, raised, ask_rule, send_rule, enter_rule, leave_rule, give_rule, take_request_rule, take_answer_rule, step_rule, outcome}
use Rattle.form.specs.Form.{head_ok, new_head, in_use, cell_ok}
use Rattle.table.proofs.Heads.{Stands, stands, formed}
use Rattle.table.proofs.Wires.{in_use_between, in_use_back, used_ok, marked_in_use}
use Rattle.table.specs.Table.{seat, seat_of}

-- the head of a record, that of station s, in form: one in use up to n, a new one above
abbrev pub front_ok : ℕ → ℕ → Head → Bool
front_ok n s head = cond (leb s n) (head_ok n head) (new_head head)

-- what comes out between the stations s and v
pub record Fits (n s v : ℕ) (out : Outcome) : Type 0 where
  pub head : front_ok n s out.head ≡ true
  pub mine : cell_ok n s v out.mine ≡ true
  pub theirs : cell_ok n v s out.theirs ≡ true

abbrev Standing : ℕ → Head → Type 0
Standing n h = Stands n h.place h.next h.due h.own

-- a station and a peer, with what goes in
module _ (n s v : ℕ) (head : Head) (mine theirs : Cells) (was : Fits n s v (outcome_of ACCEPTED head mine theirs)) where
  same : (code : ℕ) → Fits n s v (outcome_of code head mine theirs)
  same code = record { head = was.head; mine = was.mine; theirs = was.theirs }

  module _ (low : 2 ≤ n) (here : s ≤ n) where
    abbrev P : Outcome → Type 0
    P = Fits n s v

    in_place : (place : ℕ) → eqb head.place place ≡ true → Stands n place head.next head.due head.own
    in_place place e = rw (eqb-true head.place place e) at (stands n head (rw (le-leb s n here) at was.head))

    fits : (h : Head) (m t : Cells) → Standing n h → cell_ok n s v m ≡ true → cell_ok n v s t ≡ true → P (outcome_of ACCEPTED h m t)
    fits h m t ok a b = record { head = rw (le-leb s n here) (formed n h low ok); mine = a; theirs = b }

    -- a row that changes the head alone, and one that changes cells which are in use
    moved : (h : Head) → Standing n h → P (outcome_of ACCEPTED h mine theirs)
    moved h ok = fits h mine theirs ok was.mine was.theirs

    between : in_use n s v ≡ true → (h : Head) (m t : Cells) → Standing n h → P (outcome_of ACCEPTED h m t)
    between u h m t ok = fits h m t ok (used_ok n s v m u) (used_ok n v s t (in_use_back n s v u))

    ask_fits : P (ask_rule n head mine theirs)
    unfolding ask_rule
    ask_fits =
        cond_both (eqb head.place IDLE) _ _ P (λ _. cond_both (eqb head.high LAST_NUMBER) _ _ P (λ _. same _) (λ _. moved _ (omega arith))) (λ _. same _)

    enter_fits : P (enter_rule head mine theirs)
    unfolding enter_rule
    enter_fits =
        cond_both (eqb head.place WAITING) _ _ P
        (λ e. cond_both (eqb head.due 0) _ _ P
        (λ z. let k = in_place WAITING e in moved _ (omega (arith, eqb-true head.due 0 z)))
        (λ _. same _))
        (λ _. same _)

    leave_fits : P (leave_rule head mine theirs)
    unfolding leave_rule
    leave_fits =
        cond_both (eqb head.place HOLDING) _ _ P (λ e. let k = in_place HOLDING e in moved _ (omega arith)) (λ _. same _)

    onward_fits : (here then : ℕ) → eqb head.place here ≡ true
        → (head.next < n → Stands n here (head.next + 1) head.due head.own) → Stands n then 1 head.due head.own
        → Standing n (onward n head then)
    unfolding onward
    onward_fits here then e on past =
        cond_both (ltb head.next n) _ _ (Standing n)
        (λ l. rw (eqb-true head.place here e) (on (ltb-true head.next n l)))
        (λ _. past)

    -- the peer of a send or of a give is the next one
    module _ (top : n ≤ STATIONS) (seated : v ≡ 1 + index_of head.next) where
      next_there : 1 ≤ head.next → head.next ≤ n → v ≡ head.next
      unfolding index_of
      next_there l m = omega arith

      send_fits : P (send_rule n s head mine theirs)
      unfolding send_rule
      send_fits =
          cond_both (eqb head.place SENDING) _ _ P
          (λ e.
          let k = in_place SENDING e in
          let on = onward_fits SENDING WAITING e (λ l. omega arith) (omega arith) in
          cond_both (eqb head.next s) _ _ P (λ _. moved _ on)
          (λ d.
          let there = next_there k.next_low k.next_high in
          let other = eqb-false head.next s d in
          cond_both (eqb theirs.request 0) _ _ P
          (λ _. between (in_use_between n s v here (omega arith) (λ z. other (omega arith))) _ _ _ on)
          (λ _. same _)))
          (λ _. same _)

      give_fits : P (give_rule n head mine theirs)
      unfolding give_rule
      give_fits =
          cond_both (eqb head.place GIVING) _ _ P
          (λ e.
          let k = in_place GIVING e in
          let on = onward_fits GIVING IDLE e (λ l. omega arith) (omega arith) in
          cond_both mine.mark _ _ P
          (λ m. cond_both theirs.answer _ _ P (λ _. same _) (λ _. between (marked_in_use n s v mine was.mine m) _ _ _ on))
          (λ _. moved _ on))
          (λ _. same _)

    -- a take is between two stations
    module _ (there : v ≤ n) (apart : s ≢ v) where
      used : in_use n s v ≡ true
      used = in_use_between n s v here there apart

      ok : Standing n head
      ok = stands n head (rw (le-leb s n here) at was.head)

      take_request_fits : (t : ℕ) → P (take_request_rule s t head mine theirs)
      unfolding take_request_rule raised
      take_request_fits t =
          cond_both (eqb mine.request 0) _ _ P (λ _. same _)
          (λ _. cond_both (answers_now mine.request t head.place head.own s) _ _ P
          (λ _. cond_both theirs.answer _ _ P (λ _. same _) (λ _. between used _ _ _ ok))
          (λ _. cond_both mine.mark _ _ P (λ _. same _) (λ _. between used _ _ _ ok)))

      take_answer_fits : P (take_answer_rule head mine theirs)
      unfolding take_answer_rule
      take_answer_fits =
          cond_both mine.answer _ _ P (λ _. cond_both (eqb head.due 0) _ _ P (λ _. same _) (λ _. between used _ _ _ (omega (arith, ok)))) (λ _. same _)

-- ---- each step by its row, at the indices of its station and of its peer
module _ (n : ℕ) (count : count_ok n ≡ true) where
  -- the station at the index of s is s
  at_seat : (s : ℕ) → is_station n s ≡ true → 1 + index_of s ≡ s
  unfolding index_of
  at_seat s e = omega (arith, station_range n s e, count_range n count)

  home : (s : ℕ) → is_station n s ≡ true → 1 + index_of s ≤ n
  home s e = omega (arith, at_seat s e, station_range n s e)

  low : 2 ≤ n
  low = (count_range n count).0

  top : n ≤ STATIONS
  top = (count_range n count).1

  abbrev At : Step → Head → Outcome → Type 0
  At x head = Fits n (1 + seat x) (1 + seat_of x head.next)

  module _ (head : Head) (mine theirs : Cells) where
    step_fits : (x : Step) → stations_ok n x ≡ true → At x head (outcome_of ACCEPTED head mine theirs) → At x head (step_rule n x head mine theirs)
    unfolding stations_ok step_rule
    step_fits (Ask s) ok was = ask_fits n _ _ head mine theirs was low (home s ok)
    step_fits (Send s) ok was = rw (at_seat s ok) (send_fits n s _ head mine theirs (rw (at_seat s ok) at was) low (station_range n s ok).1 top refl)
    step_fits (Enter s) ok was = enter_fits n _ _ head mine theirs was low (home s ok)
    step_fits (Leave s) ok was = leave_fits n _ _ head mine theirs was low (home s ok)
    step_fits (Give s) ok was = give_fits n _ _ head mine theirs was low (home s ok) top refl
    step_fits (TakeRequest s t) ok was =
        let (S, T, apart) = two_stations n s t ok in
        rw (at_seat s S) (take_request_fits n s _ head mine theirs (rw (at_seat s S) at was) low (station_range n s S).1 (home t T) (λ e. apart (e ∙ at_seat t T)) t)
    step_fits (TakeAnswer s t) ok was =
        let (S, T, apart) = two_stations n s t ok in
        take_answer_fits n _ _ head mine theirs was low (home s S) (home t T) (λ e. apart (sym (at_seat s S) ∙ e ∙ at_seat t T))

-- and with the refusals before it
pub outcome_fits : (n : ℕ) (x : Step) (head : Head) (mine theirs : Cells)
    → Fits n (1 + seat x) (1 + seat_of x head.next) (outcome_of ACCEPTED head mine theirs)
    → Fits n (1 + seat x) (1 + seat_of x head.next) (outcome n x head mine theirs)
unfolding outcome
outcome_fits n x head mine theirs was =
    cond_both (count_ok n) _ _ (Fits n _ _)
    (λ count. cond_both (stations_ok n x) _ _ (Fits n _ _) (λ ok. step_fits n count head mine theirs x ok was) (λ _. same n _ _ head mine theirs was _))
    (λ _. same n _ _ head mine theirs was _)
