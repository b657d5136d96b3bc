-- The answers as the source has them.
use Rattle.std.specs.Prelude.{ℕ, List, Result, Ok, Err, codes}
use Rattle.station.specs.declared.codes.Refusal.{Refusal}
use Rattle.station.specs.declared.codes.Refusal.TheVariants.{BadCount, NotWellFormed, NoSuchStation, WrongPlace, AnswersDue, EmptyWire, NoNumberLeft, AtOdds}
use Rattle.station.specs.Names.{ACCEPTED, BAD_COUNT, NOT_WELL_FORMED, NO_SUCH_STATION, WRONG_PLACE, ANSWERS_DUE, EMPTY_WIRE, NO_NUMBER_LEFT, AT_ODDS}

-- 01, "Codes and what each leaves": the code of each refusal
abbrev pub refusal_code : Refusal → ℕ
refusal_code BadCount = BAD_COUNT
refusal_code NotWellFormed = NOT_WELL_FORMED
refusal_code NoSuchStation = NO_SUCH_STATION
refusal_code WrongPlace = WRONG_PLACE
refusal_code AnswersDue = ANSWERS_DUE
refusal_code EmptyWire = EMPTY_WIRE
refusal_code NoNumberLeft = NO_NUMBER_LEFT
refusal_code AtOdds = AT_ODDS

-- a refusal in words
abbrev pub words_of : Refusal → List ℕ
words_of BadCount = codes "the count is not 2 to 32"
words_of NotWellFormed = codes "the table is not well formed"
words_of NoSuchStation = codes "there is no such station"
words_of WrongPlace = codes "the station is not in the place that the step needs"
words_of AnswersDue = codes "answers are due"
words_of EmptyWire = codes "the wire is empty"
words_of NoNumberLeft = codes "no number is left"
words_of AtOdds = codes "the table is at odds"

-- the code of an answer: 0 is "accepted"
abbrev pub code_of : {A : Type 0} → Result A Refusal → ℕ
code_of (Ok _) = ACCEPTED
code_of (Err refusal) = refusal_code refusal
