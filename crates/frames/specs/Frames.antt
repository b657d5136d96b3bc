-- What a line of the bench's input means, and how a byte is written: 01, "Frames and the bench program".
use Rattle.std.specs.Prelude.{◌≡◌, ℕ, ◌+◌, ◌-◌, ◌*◌, ◌/◌, ◌%◌, ◌<◌, cond, List, nat_eq, nat_le, nat_lt, length, slice_index, Option, Some, None}
use Rattle.station.specs.declared.Step.{Step}
use Rattle.station.specs.declared.Step.TheVariants.{Ask, Send, Enter, Leave, Give, TakeRequest, TakeAnswer}
use Rattle.station.specs.Stations.{named_by}
use Rattle.frames.specs.declared.Frame.{Frame}
use Rattle.frames.specs.declared.Frame.TheVariants as frame
use Rattle.frames.specs.declared.Pair.{Pair}

-- "six characters from 0-9 and A-F": the value of such a character (0 is character 48, A is 65), and none of any other
unfoldable pub digit_of : ℕ → Option ℕ
digit_of c =
    cond (nat_lt c 48) None (cond (nat_le c 57) (Some (c - 48)) (cond (nat_lt c 65) None (cond (nat_le c 70) (Some (c - 65 + 10)) None)))

-- a byte from its two digits, the high one first
abbrev pub of_digits : Option ℕ → Option ℕ → Option ℕ
of_digits (Some high) (Some low) = Some (high * 16 + low)
of_digits (Some high) None = None
of_digits None low = None

-- a byte from its two characters, the high one first
unfoldable pub byte_of : ℕ → ℕ → Option ℕ
byte_of high low = of_digits (digit_of high) (digit_of low)

-- "eight hexadecimal digits (the same characters)": the character of a number's last digit, and the two of a byte
unfoldable pub hex_of : ℕ → ℕ
hex_of value = cond (nat_lt (value % 16) 10) (value % 16 + 48) (value % 16 + 65 - 10)

-- "two digits a field": a byte's two characters, the high one first
unfoldable pub pair_of : ℕ → Pair
pair_of value = record { high = hex_of (value / 16); low = hex_of value }

-- "The first frame has kind F0, the count as station"; kinds 00 to 04 are 01's steps 0 to 4
unfoldable pub alone_of : ℕ → ℕ → Option Frame
alone_of kind s =
    cond (nat_eq kind 240) (Some (frame.Open s))
    (cond (nat_eq kind 0) (Some (frame.Move (Ask s)))
    (cond (nat_eq kind 1) (Some (frame.Move (Send s)))
    (cond (nat_eq kind 2) (Some (frame.Move (Enter s)))
    (cond (nat_eq kind 3) (Some (frame.Move (Leave s)))
    (cond (nat_eq kind 4) (Some (frame.Move (Give s))) None)))))

-- kinds 05 and 06 are the takes, with other as the peer; "other is 00 for kinds 00 to 04", and in the first frame
unfoldable pub meaning_of : ℕ → ℕ → ℕ → Option Frame
meaning_of kind station other =
    cond (nat_eq kind 5) (Some (frame.Move (TakeRequest station other)))
    (cond (nat_eq kind 6) (Some (frame.Move (TakeAnswer station other))) (cond (nat_eq other 0) (alone_of kind station) None))

-- "The three bytes are kind, station, other": there is no frame where one of them is none
unfoldable pub of_bytes : Option ℕ → Option ℕ → Option ℕ → Option Frame
of_bytes (Some kind) (Some station) (Some other) = meaning_of kind station other
of_bytes (Some kind) (Some station) None = None
of_bytes (Some kind) None other = None
of_bytes None station other = None

-- "one frame a line: six characters .., then a line feed, the last line too": the frame whose line starts at an index, if it is one
unfoldable pub frame_at : List ℕ → ℕ → Option Frame
frame_at s at =
    cond (nat_lt (length s - at) 7)
    None
    (cond (nat_eq (slice_index s (at + 6)) 10)
    (of_bytes
    (byte_of (slice_index s at) (slice_index s (at + 1)))
    (byte_of (slice_index s (at + 2)) (slice_index s (at + 3)))
    (byte_of (slice_index s (at + 4)) (slice_index s (at + 5))))
    None)

-- ---- a step as a frame
-- 01, "The seven steps": the code of a step, which is the kind of its frame
abbrev pub kind_of : Step → ℕ
kind_of (Ask s) = 0
kind_of (Send s) = 1
kind_of (Enter s) = 2
kind_of (Leave s) = 3
kind_of (Give s) = 4
kind_of (TakeRequest s t) = 5
kind_of (TakeAnswer s t) = 6

-- the peer of a take; "other is 00 for kinds 00 to 04"
abbrev pub other_of : Step → ℕ
other_of (Ask s) = 0
other_of (Send s) = 0
other_of (Enter s) = 0
other_of (Leave s) = 0
other_of (Give s) = 0
other_of (TakeRequest s t) = t
other_of (TakeAnswer s t) = t

-- what is written is read back: a byte from its two characters, and a step from its kind, its station and its other byte
pub record ReadsBack : Type 0 where
  pub byte_back : (value : ℕ) → value < 256 → byte_of (pair_of value).high (pair_of value).low ≡ Some value
  pub step_back : (x : Step) → meaning_of (kind_of x) (named_by x) (other_of x) ≡ Some (frame.Move x)
