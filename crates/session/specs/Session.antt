-- What a run writes for any bytes of input, by the rules of the table: 01, "Frames and the bench program".
use Rattle.std.specs.Prelude.{ℕ, zero, suc, ◌+◌, ◌-◌, ◌*◌, ◌/◌, ◌≤◌, ◌≡◌, cond, Option, None, Some, Result, MatchResult, List, [], ◌∷◌, ◌++◌, nat_eq, nat_lt, length, take, drop}
use Rattle.station.specs.declared.Station.{Station}
use Rattle.station.specs.declared.Step.{Step}
use Rattle.station.specs.declared.codes.Refusal.{Refusal}
use Rattle.station.specs.Codes.{refusal_code}
use Rattle.station.specs.Names.{ACCEPTED, BAD_COUNT, NO_SUCH_STATION}
use Rattle.station.specs.Stations.{count_ok}
use Rattle.table.specs.Table.{opened, after}
use Rattle.frames.specs.declared.Frame.{Frame}
use Rattle.frames.specs.declared.Frame.TheVariants as frame
use Rattle.frames.specs.Frames.{pair_of, frame_at}
use Rattle.network.specs.Network.{StepTold, stepped_by}
use Rattle.network.specs.declared.Network.{Network}
use Rattle.session.specs.declared.stops.Stop.{Stop}
use Rattle.session.specs.declared.stops.Stop.TheVariants.{Refused, BadFrame, TooLong}

-- 01, code 9: "bad frame (program only)"
abbrev pub BAD_FRAME : ℕ
BAD_FRAME = 9

-- 01, code 10: "input above 65,536 bytes (program only)"
abbrev pub TOO_LONG : ℕ
TOO_LONG = 10

-- 01, code 10: the limit
abbrev pub INPUT_LIMIT : ℕ
INPUT_LIMIT = 65536

-- why a run ends early, by the code that 01 gives
abbrev pub stop_code : Stop → ℕ
stop_code (Refused refusal) = refusal_code refusal
stop_code BadFrame = BAD_FRAME
stop_code TooLong = TOO_LONG

-- what a refusal of the table is to a run
abbrev pub RefusedAs : Refusal → Stop → Type 0
RefusedAs refusal stop = stop ≡ Refused refusal

-- ---- a line
-- "two digits a field": the characters of one byte
unfoldable pub pair_line : ℕ → List ℕ
pair_line value = (pair_of value).high ∷ (pair_of value).low ∷ []

-- "eight hexadecimal digits .. and a line feed for each frame": "code; place of the named station after the step; its answers due; the station in Holding"
unfoldable pub line_of : ℕ → ℕ → ℕ → ℕ → List ℕ
line_of code place due held = pair_line code ++ (pair_line place ++ (pair_line due ++ (pair_line held ++ (10 ∷ []))))

-- "under code 3, place and due are 00"
unfoldable pub shown_of : ℕ → ℕ → ℕ
shown_of code value = cond (nat_eq code NO_SUCH_STATION) 0 value

-- the line of a step
unfoldable pub step_line : StepTold → List ℕ
step_line r = line_of r.code (shown_of r.code r.head.place) (shown_of r.code r.head.due) r.holder

-- "one line 09000000 is written and the run stops"
abbrev pub bad_line : List ℕ
bad_line = line_of BAD_FRAME 0 0 0

-- ---- a run
-- how many lines an input of a length starts, the last one perhaps not ended
unfoldable pub lines_in : ℕ → ℕ
lines_in len = (len + 6) / 7

-- the step that a frame says, if it says one
abbrev pub step_of : Option Frame → Option Step
step_of (Some (frame.Move x)) = Some x
step_of (Some (frame.Open n)) = None
step_of None = None

-- the count that a frame opens with, if it is a first frame
abbrev pub count_of : Option Frame → Option ℕ
count_of (Some (frame.Open n)) = Some n
count_of (Some (frame.Move x)) = None
count_of None = None

-- "one frame a line": the frames of so many lines from line k on, lines counted from 0
unfoldable pub frames_from : ℕ → ℕ → List ℕ → List (Option Frame)
frames_from zero k s = []
frames_from (suc left) k s = frame_at s (7 * k) ∷ frames_from left (k + 1) s

-- after the first frame: a line for each step; "Codes 3 to 8 do not stop it"; "Any departure .. is code 9"
unfoldable pub step_lines : ℕ → List Station → List (Option Frame) → List ℕ
step_lines n t [] = []
step_lines n t (Some (frame.Move x) ∷ fs) = step_line (stepped_by t n x) ++ step_lines n (after n t x) fs
step_lines n t (Some (frame.Open m) ∷ fs) = bad_line
step_lines n t (None ∷ fs) = bad_line

-- "or no first frame, is code 9"; "A bad count gives 01000000 and the run stops"
unfoldable pub session_lines : List (Option Frame) → List ℕ
session_lines [] = bad_line
session_lines (Some (frame.Open n) ∷ fs) = cond (count_ok n) (line_of ACCEPTED 0 0 0 ++ step_lines n opened fs) (line_of BAD_COUNT 0 0 0)
session_lines (Some (frame.Move x) ∷ fs) = bad_line
session_lines (None ∷ fs) = bad_line

-- "Input above the limit is found first and gives the single line 0A000000"
unfoldable pub run_lines : List ℕ → List ℕ
run_lines s = cond (nat_lt INPUT_LIMIT (length s)) (line_of TOO_LONG 0 0 0) (session_lines (frames_from (lines_in (length s)) 0 s))

-- how a run begins: with an opened network, or with the one line that it writes
abbrev pub Begins : List ℕ → Result Network Stop → Type 0
Begins s r =
    MatchResult r
    (λ new. (1 ≤ length s) × (length s ≤ INPUT_LIMIT)
    × (run_lines s ≡ line_of ACCEPTED 0 0 0 ++ step_lines new.count new.table (frames_from (lines_in (length s) - 1) 1 s)))
    (λ stop. run_lines s ≡ line_of (stop_code stop) 0 0 0)

-- the room for a line of nine bytes for each line that is started, and for one at least
unfoldable pub room_for : ℕ → ℕ
room_for len = cond (nat_lt INPUT_LIMIT len) 9 (cond (nat_eq len 0) 9 (lines_in len * 9))

-- what `room_for` promises: that room; and no input needs more than the most that the library names
pub record RoomFor (len most r : ℕ) : Type 0 where
  pub room : r ≡ room_for len
  pub enough : r ≤ most

-- what is written into an output of a length: nothing where it has not that room
unfoldable pub written : List ℕ → ℕ → List ℕ
written s room = cond (nat_lt room (room_for (length s))) [] (run_lines s)

-- ---- what the functions promise
-- how a run tells the number of its bytes: it writes a line at least, so that nothing written is told as none
abbrev pub counted : ℕ → Option ℕ
counted zero = None
counted (suc n) = Some (suc n)

-- so many bytes are written at the start of the output, and those past them are untouched
pub record Ran (s old out : List ℕ) (r : Option ℕ) : Type 0 where
  pub count : r ≡ counted (length (written s (length old)))
  pub bytes : out ≡ written s (length old) ++ drop (length (written s (length old))) old

-- the same of the lines behind the first
pub record LinesWritten (s : List ℕ) (n : ℕ) (t : List Station) (old out : List ℕ) (r : ℕ) : Type 0 where
  pub count : r ≡ 9 + length (step_lines n t (frames_from (lines_in (length s) - 1) 1 s))
  pub bytes : out ≡ take 9 old ++ (step_lines n t (frames_from (lines_in (length s) - 1) 1 s) ++ drop r old)
