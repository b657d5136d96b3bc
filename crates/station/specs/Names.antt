-- The numbers that 01 gives to places and codes, by their names.
use Rattle.std.specs.Prelude.{ℕ}

-- 01, "The table": "place: 0 Idle, 1 Sending, 2 Waiting, 3 Holding, 4 Giving"
abbrev pub IDLE : ℕ
IDLE = 0

-- place 1
abbrev pub SENDING : ℕ
SENDING = 1

-- place 2
abbrev pub WAITING : ℕ
WAITING = 2

-- place 3
abbrev pub HOLDING : ℕ
HOLDING = 3

-- place 4
abbrev pub GIVING : ℕ
GIVING = 4

-- 01, "The table": "own number and highest number seen, 0 to 65,535"
abbrev pub LAST_NUMBER : ℕ
LAST_NUMBER = 65535

-- 01, "The table": "The table is lent as 32 station records"
abbrev pub STATIONS : ℕ
STATIONS = 32

-- 01, "Codes and what each leaves": "accepted"
abbrev pub ACCEPTED : ℕ
ACCEPTED = 0

-- "opening with N outside 2 to 32"
abbrev pub BAD_COUNT : ℕ
BAD_COUNT = 1

-- "the table is not well formed; at opening, only that it hasn't 32 records"
abbrev pub NOT_WELL_FORMED : ℕ
NOT_WELL_FORMED = 2

-- "s outside 1 to N, or in a take t outside 1 to N or t = s"
abbrev pub NO_SUCH_STATION : ℕ
NO_SUCH_STATION = 3

-- "steps 0 to 4: s is not in the place that the step needs"
abbrev pub WRONG_PLACE : ℕ
WRONG_PLACE = 4

-- "Enter in Waiting with due above 0"
abbrev pub ANSWERS_DUE : ℕ
ANSWERS_DUE = 5

-- "a take from an empty wire"
abbrev pub EMPTY_WIRE : ℕ
EMPTY_WIRE = 6

-- "Ask in Idle with highest seen 65,535"
abbrev pub NO_NUMBER_LEFT : ℕ
NO_NUMBER_LEFT = 7

-- "table at odds: the wire that the step must fill is occupied, the mark it must set is already set, or an answer is taken with due 0"
abbrev pub AT_ODDS : ℕ
AT_ODDS = 8
