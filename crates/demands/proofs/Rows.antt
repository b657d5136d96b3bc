-- Each row of the rules at a head that shows a node: where the program can take the statement, the head afterwards shows the node after it.
use mathlib.Core.Path.{◌≡◌, refl, ap, ◌∙◌}
use mathlib.Core.Logic.{◌≢◌, inl, inr}
use mathlib.Core.Bool.{true, false, cond, ◌&&◌, ◌||◌}
use Prim.Native.Nat.{ℕ, suc, ◌+◌, ◌≤◌, ◌<◌}
use native.Mathlib.Omega.{arith}
use native.Mathlib.Numerals.{add-one}
use lib.Dec.{eqb, leb, ltb}
use Rattle.std.proofs.lemmas.Bool.{cases_Bool, eq-eqb, ne_eqb, le-leb}
use Rattle.std.proofs.lemmas.Bool.Decides.{nat_tests}
use Rattle.station.specs.declared.Cells.{Cells}
use Rattle.station.specs.declared.Head.{Head}
use Rattle.station.specs.Names.{IDLE, SENDING, WAITING, GIVING, LAST_NUMBER, ACCEPTED}
use Rattle.station.specs.Stations.{is_asking}
use Rattle.station.specs.Setters.{with_place, with_own, with_high, with_next, with_due, with_request, with_answer, with_mark}
use Rattle.rows.specs.Rows.{goes_first, answers_now, outcome_of, onward, larger, ask_rule, send_rule, enter_rule, leave_rule, give_rule, take_request_rule, take_answer_rule}
use Rattle.rows.specs.Rows.{raised as heard}
use Rattle.figure1.specs.Figure1.{Location, m1, m2, m31, m32, m4, m5, m6, m71, m72, Node, at≔, asked, counted, released, rd≔, raised, replied, grants}
use Rattle.figure1.specs.Assertions.{asking}
use Rattle.demands.specs.Demands.{place_at, next_at, head_shown}

module _ (n : ℕ) where
  -- ---- where a node's p and location stay, its place and next peer do
  pub place_stays : (l : Location) (a b : Node) → b.p ≡ a.p → place_at n l b ≡ place_at n l a
  place_stays m1 a b e = refl
  place_stays m2 a b e = refl
  place_stays m31 a b e = rw e
  place_stays m32 a b e = refl
  place_stays m4 a b e = refl
  place_stays m5 a b e = refl
  place_stays m6 a b e = refl
  place_stays m71 a b e = rw e
  place_stays m72 a b e = refl

  next_stays : (l : Location) (a b : Node) → b.p ≡ a.p → next_at n l b ≡ next_at n l a
  next_stays m1 a b e = refl
  next_stays m2 a b e = refl
  next_stays m31 a b e = rw e
  next_stays m32 a b e = e
  next_stays m4 a b e = refl
  next_stays m5 a b e = refl
  next_stays m6 a b e = refl
  next_stays m71 a b e = rw e
  next_stays m72 a b e = e

  pub shown_again : (a b : Node) → b.at ≡ a.at → b.p ≡ a.p
      → head_shown n b ≡ with_due b.c (with_high b.hsn (with_own b.osn (head_shown n a)))
  shown_again a b e f =
      let place = ap (λ (l : Location). place_at n l b) e ∙ place_stays a.at a b f in
      let next = ap (λ (l : Location). next_at n l b) e ∙ next_stays a.at a b f in
      λ i. with_next (next i) (with_place (place i) (head_shown n b))

  -- ---- who goes first
  asking_shown : (l : Location) (a : Node) → is_asking (place_at n l a) ≡ asking l
  unfolding is_asking
  asking_shown m1 a = refl
  asking_shown m2 a = refl
  asking_shown m31 a = grind (arith, nat_tests)
  asking_shown m32 a = refl
  asking_shown m4 a = refl
  asking_shown m5 a = refl
  asking_shown m6 a = refl
  asking_shown m71 a = grind (arith, nat_tests)
  asking_shown m72 a = refl

  before : (r t o s : ℕ) → (ltb r o || (eqb r o && ltb t s)) ≡ goes_first r t o s
  unfolding goes_first
  before r t o s = grind (arith, nat_tests)

  pub grants_shown : (a : Node) → a.rcs ≡ asking a.at → (r t s : ℕ)
      → grants s t r a ≡ answers_now r t (place_at n a.at a) a.osn s
  unfolding answers_now
  grants_shown a e r t s = rw (asking_shown a.at a, ← e, before r t a.osn s) (grind (arith, nat_tests))

  -- ---- the rows
  module _ (a : Node) (c d : Cells) where
    abbrev kept : ℕ → ℕ → Head
    kept place next = with_place place (with_next next (head_shown n a))

    -- "then p + 1, or after p = N place .. with p = 1"
    onward_shown : (here then : ℕ)
        → onward n (kept here a.p) then ≡ kept (cond (leb (a.p + 1) n) here then) (cond (leb (a.p + 1) n) (a.p + 1) 1)
    unfolding onward
    onward_shown here then = rw add-one (elim (cases_Bool (leb (suc a.p) n)) [ inl e ↦ rw e | inr e ↦ rw e ])

    pub ask_row : a.at ≡ m2 → a.hsn < LAST_NUMBER → 1 ≤ n → ask_rule n (head_shown n a) c d ≡ outcome_of ACCEPTED (head_shown n (asked n a)) c d
    unfolding ask_rule
    ask_row e h l = rw (e, ne_eqb a.hsn LAST_NUMBER (omega arith), le-leb 1 n l)

    pub send_self_row : (s : ℕ) → a.at ≡ m32 → a.p ≡ s → send_rule n s (head_shown n a) c d ≡ outcome_of ACCEPTED (head_shown n (counted m31 a)) c d
    unfolding send_rule
    send_self_row s e f = rw (e, eq-eqb a.p s f, onward_shown SENDING WAITING)

    pub send_row : (s : ℕ) → a.at ≡ m32 → a.p ≢ s → d.request ≡ 0
        → send_rule n s (head_shown n a) c d ≡ outcome_of ACCEPTED (head_shown n (counted m31 a)) c (with_request a.osn d)
    unfolding send_rule
    send_row s e f z = rw (e, ne_eqb a.p s f, eq-eqb d.request 0 z, onward_shown SENDING WAITING)

    pub enter_row : a.at ≡ m4 → a.c ≡ 0 → enter_rule (head_shown n a) c d ≡ outcome_of ACCEPTED (head_shown n (at≔ m5 a)) c d
    unfolding enter_rule
    enter_row e z = rw (e, eq-eqb a.c 0 z)

    pub leave_row : a.at ≡ m6 → 1 ≤ n → leave_rule (head_shown n a) c d ≡ outcome_of ACCEPTED (head_shown n (released a)) c d
    unfolding leave_rule
    leave_row e l = rw (e, le-leb 1 n l)

    pub give_row : a.at ≡ m72 → c.mark ≡ true → d.answer ≡ false
        → give_rule n (head_shown n a) c d ≡ outcome_of ACCEPTED (head_shown n (counted m71 a)) (with_mark false c) (with_answer true d)
    unfolding give_rule
    give_row e m z = rw (e, m, z, onward_shown GIVING IDLE)

    pub give_none_row : a.at ≡ m72 → c.mark ≡ false → give_rule n (head_shown n a) c d ≡ outcome_of ACCEPTED (head_shown n (counted m71 a)) c d
    unfolding give_rule
    give_none_row e m = rw (e, m, onward_shown GIVING IDLE)

    module _ (s t : ℕ) (some : c.request ≢ 0) where
      pub grant_row : answers_now c.request t (place_at n a.at a) a.osn s ≡ true → d.answer ≡ false
          → take_request_rule s t (head_shown n a) c d
          ≡ outcome_of ACCEPTED (head_shown n (raised c.request a)) (with_request 0 c) (with_answer true d)
      unfolding take_request_rule heard larger
      grant_row e z = rw (ne_eqb c.request 0 some, e, z, shown_again a (raised c.request a) refl refl)

      pub defer_row : answers_now c.request t (place_at n a.at a) a.osn s ≡ false → c.mark ≡ false
          → take_request_rule s t (head_shown n a) c d
          ≡ outcome_of ACCEPTED (head_shown n (rd≔ t true (raised c.request a))) (with_mark true (with_request 0 c)) d
      unfolding take_request_rule heard larger
      defer_row e z =
          rw (ne_eqb c.request 0 some, e, z, shown_again a (rd≔ t true (raised c.request a)) refl refl)

    pub answer_row : c.answer ≡ true → 1 ≤ a.c
        → take_answer_rule (head_shown n a) c d ≡ outcome_of ACCEPTED (head_shown n (replied a)) (with_answer false c) d
    unfolding take_answer_rule
    answer_row e l = rw (e, ne_eqb a.c 0 (omega arith), shown_again a (replied a) refl refl)
