-- The seven steps of 01, on the head of the named station, its cells `mine` for one peer, and that peer's cells `theirs` for it.
use Rattle.std.specs.Prelude.{ℕ, ◌+◌, ◌-◌, Bool, true, false, cond, Result, Ok, Err, nat_eq, nat_lt}
use Rattle.station.specs.declared.Head.{Head}
use Rattle.station.specs.declared.Cells.{Cells}
use Rattle.station.specs.declared.Step.{Step}
use Rattle.station.specs.declared.Step.TheVariants.{Ask, Send, Enter, Leave, Give, TakeRequest, TakeAnswer}
use Rattle.station.specs.Names.{IDLE, SENDING, WAITING, HOLDING, GIVING, LAST_NUMBER, ACCEPTED, NOT_WELL_FORMED, NO_SUCH_STATION, WRONG_PLACE, ANSWERS_DUE, EMPTY_WIRE, NO_NUMBER_LEFT, AT_ODDS}
use Rattle.station.specs.Stations.{count_ok, stations_ok, is_asking}
use Rattle.station.specs.Setters.{with_place, with_own, with_high, with_next, with_due, with_request, with_answer, with_mark}
use Rattle.station.specs.declared.codes.Refusal.{Refusal}
use Rattle.station.specs.declared.codes.Refusal.TheVariants.{AtOdds}
use Rattle.station.specs.Codes.{code_of}
use Rattle.rows.specs.declared.Reach.{Reach}

-- ---- which of two requests goes first
-- 01, step 5: "the request's number is below s's own, or when the two are equal and t < s"
unfoldable pub goes_first : ℕ → ℕ → ℕ → ℕ → Bool
goes_first request t own s = cond (nat_eq request own) (nat_lt t s) (nat_lt request own)

-- 01, step 5: "answers when s is not asking, or when the request .. Otherwise it marks t"
unfoldable pub answers_now : ℕ → ℕ → ℕ → ℕ → ℕ → Bool
answers_now request t place own s = cond (is_asking place) (goes_first request t own s) true

-- ---- what comes out of a step
-- a code with a head and two cells
pub record Outcome : Type 0 where
  pub code : ℕ
  pub head : Head
  pub mine : Cells
  pub theirs : Cells

-- one of them: those that the row's effect leaves under code 0, those that went in under any other
abbrev pub outcome_of : ℕ → Head → Cells → Cells → Outcome
outcome_of code head mine theirs = record { code = code; head = head; mine = mine; theirs = theirs }

-- what a function answers, as an outcome: a refusal leaves what went in
abbrev pub told : Reach → Result Reach Refusal → Outcome
told was (Ok now) = outcome_of ACCEPTED now.head now.mine now.theirs
told was (Err refusal) = outcome_of (code_of {A = Reach} (Err refusal)) was.head was.mine was.theirs

-- 01, steps 1 and 4: "then p + 1, or after p = N place .. with p = 1"
unfoldable pub onward : ℕ → Head → ℕ → Head
onward n head then = cond (nat_lt head.next n) (with_next (head.next + 1) head) (with_place then (with_next 1 head))

-- 01, step 5: "highest seen = the larger of itself and the request's number"
unfoldable pub larger : ℕ → ℕ → ℕ
larger a b = cond (nat_lt a b) b a

-- the head with its highest seen so raised
unfoldable pub raised : Head → ℕ → Head
raised head request = with_high (larger head.high request) head

-- 01, steps 4 and 5: the answer on its wire; 01, code 8: "the wire that the step must fill is occupied"
unfoldable pub answered : Cells → Result Cells Refusal
answered cells = cond cells.answer (Err AtOdds) (Ok (with_answer true cells))

-- ---- the rows
-- 01, step 0: "Idle: own number = highest seen + 1; due = N − 1; p = 1; place Sending; highest seen unchanged"
unfoldable pub ask_rule : ℕ → Head → Cells → Cells → Outcome
ask_rule n head mine theirs =
    cond (nat_eq head.place IDLE)
    (cond (nat_eq head.high LAST_NUMBER)
    (outcome_of NO_NUMBER_LEFT head mine theirs)
    (outcome_of ACCEPTED (with_place SENDING (with_next 1 (with_due (n - 1) (with_own (head.high + 1) head)))) mine theirs))
    (outcome_of WRONG_PLACE head mine theirs)

-- 01, step 1: "Sending: if p is not s, own number goes on the request wire s to p; then p + 1, or after p = N place Waiting with p = 1"
unfoldable pub send_rule : ℕ → ℕ → Head → Cells → Cells → Outcome
send_rule n s head mine theirs =
    cond (nat_eq head.place SENDING)
    (cond (nat_eq head.next s)
    (outcome_of ACCEPTED (onward n head WAITING) mine theirs)
    (cond (nat_eq theirs.request 0)
    (outcome_of ACCEPTED (onward n head WAITING) mine (with_request head.own theirs))
    (outcome_of AT_ODDS head mine theirs)))
    (outcome_of WRONG_PLACE head mine theirs)

-- 01, step 2: "Waiting, due 0: place Holding"
unfoldable pub enter_rule : Head → Cells → Cells → Outcome
enter_rule head mine theirs =
    cond (nat_eq head.place WAITING)
    (cond (nat_eq head.due 0)
    (outcome_of ACCEPTED (with_place HOLDING head) mine theirs)
    (outcome_of ANSWERS_DUE head mine theirs))
    (outcome_of WRONG_PLACE head mine theirs)

-- 01, step 3: "Holding: place Giving, p = 1"
unfoldable pub leave_rule : Head → Cells → Cells → Outcome
leave_rule head mine theirs =
    cond (nat_eq head.place HOLDING)
    (outcome_of ACCEPTED (with_next 1 (with_place GIVING head)) mine theirs)
    (outcome_of WRONG_PLACE head mine theirs)

-- 01, step 4: "Giving: if p is marked: clear the mark, answer on the wire s to p; then p + 1, or after p = N place Idle with p = 1"
unfoldable pub give_rule : ℕ → Head → Cells → Cells → Outcome
give_rule n head mine theirs =
    cond (nat_eq head.place GIVING)
    (cond mine.mark
    (cond theirs.answer
    (outcome_of AT_ODDS head mine theirs)
    (outcome_of ACCEPTED (onward n head IDLE) (with_mark false mine) (with_answer true theirs)))
    (outcome_of ACCEPTED (onward n head IDLE) mine theirs))
    (outcome_of WRONG_PLACE head mine theirs)

-- 01, step 5: "request t to s under way: take it off; highest seen = the larger ..; then answer t, or mark t"
unfoldable pub take_request_rule : ℕ → ℕ → Head → Cells → Cells → Outcome
take_request_rule s t head mine theirs =
    cond (nat_eq mine.request 0)
    (outcome_of EMPTY_WIRE head mine theirs)
    (cond (answers_now mine.request t head.place head.own s)
    (cond theirs.answer
    (outcome_of AT_ODDS head mine theirs)
    (outcome_of ACCEPTED (raised head mine.request) (with_request 0 mine) (with_answer true theirs)))
    (cond mine.mark
    (outcome_of AT_ODDS head mine theirs)
    (outcome_of ACCEPTED (raised head mine.request) (with_mark true (with_request 0 mine)) theirs)))

-- 01, step 6: "answer t to s under way: take it off; due − 1"
unfoldable pub take_answer_rule : Head → Cells → Cells → Outcome
take_answer_rule head mine theirs =
    cond mine.answer
    (cond (nat_eq head.due 0)
    (outcome_of AT_ODDS head mine theirs)
    (outcome_of ACCEPTED (with_due (head.due - 1) head) (with_answer false mine) theirs))
    (outcome_of EMPTY_WIRE head mine theirs)

-- 01, "A step is one of seven": each by its row
unfoldable pub step_rule : ℕ → Step → Head → Cells → Cells → Outcome
step_rule n (Ask s) = ask_rule n
step_rule n (Send s) = send_rule n s
step_rule n (Enter s) = enter_rule
step_rule n (Leave s) = leave_rule
step_rule n (Give s) = give_rule n
step_rule n (TakeRequest s t) = take_request_rule s t
step_rule n (TakeAnswer s t) = take_answer_rule

-- 01, "Codes": "at a step 2, 3", then those of the row. Of code 2 this has the count, which is none that a well-formed table has
unfoldable pub outcome : ℕ → Step → Head → Cells → Cells → Outcome
outcome n step head mine theirs =
    cond (count_ok n)
    (cond (stations_ok n step) (step_rule n step head mine theirs) (outcome_of NO_SUCH_STATION head mine theirs))
    (outcome_of NOT_WELL_FORMED head mine theirs)
