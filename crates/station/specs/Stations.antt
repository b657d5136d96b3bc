-- Which stations there are, and which of them a step names.
use Rattle.std.specs.Prelude.{ℕ, ◌-◌, min, Bool, not, ◌&&◌, nat_eq, nat_le, List, ◌++◌, codes}
use Rattle.std.specs.Fmt.{decimal}
use Rattle.station.specs.declared.Step.{Step}
use Rattle.station.specs.declared.Step.TheVariants.{Ask, Send, Enter, Leave, Give, TakeRequest, TakeAnswer}
use Rattle.station.specs.Names.{SENDING, HOLDING, STATIONS}

-- 01, "What the engine covers": "N from 2 to 32"
unfoldable pub count_ok : ℕ → Bool
count_ok n = nat_le 2 n && nat_le n STATIONS

-- 01, "What the engine covers": "numbered 1 to N"
unfoldable pub is_station : ℕ → ℕ → Bool
is_station n s = nat_le 1 s && nat_le s n

-- 01, code 3: "s outside 1 to N, or in a take t outside 1 to N or t = s"
unfoldable pub stations_ok : ℕ → Step → Bool
stations_ok n (Ask s) = is_station n s
stations_ok n (Send s) = is_station n s
stations_ok n (Enter s) = is_station n s
stations_ok n (Leave s) = is_station n s
stations_ok n (Give s) = is_station n s
stations_ok n (TakeRequest s t) = is_station n s && (is_station n t && not (nat_eq s t))
stations_ok n (TakeAnswer s t) = is_station n s && (is_station n t && not (nat_eq s t))

-- 01, "The seven steps": the station s of each row
abbrev pub named_by : Step → ℕ
named_by (Ask s) = s
named_by (Send s) = s
named_by (Enter s) = s
named_by (Leave s) = s
named_by (Give s) = s
named_by (TakeRequest s t) = s
named_by (TakeAnswer s t) = s

-- 01, "The seven steps": the peer of each row, p of Send and Give and t of a take; a row with no peer has the station itself
abbrev pub peer_of : Step → ℕ → ℕ
peer_of (Ask s) p = s
peer_of (Send s) p = p
peer_of (Enter s) p = s
peer_of (Leave s) p = s
peer_of (Give s) p = p
peer_of (TakeRequest s t) p = t
peer_of (TakeAnswer s t) p = t

-- 01, "The table": the records of stations 1 to 32, the first at index 0; a number outside that range gets the nearest index
unfoldable pub index_of : ℕ → ℕ
index_of s = min (s - 1) (STATIONS - 1)

-- 01, "The table": "A station is asking when it is in Sending, Waiting or Holding"
unfoldable pub is_asking : ℕ → Bool
is_asking place = nat_le SENDING place && nat_le place HOLDING

-- a step in words, by the names of 01's "The seven steps"
abbrev pub words_of_step : Step → List ℕ
words_of_step (Ask s) = codes "Ask " ++ decimal s
words_of_step (Send s) = codes "Send " ++ decimal s
words_of_step (Enter s) = codes "Enter " ++ decimal s
words_of_step (Leave s) = codes "Leave " ++ decimal s
words_of_step (Give s) = codes "Give " ++ decimal s
words_of_step (TakeRequest s t) = codes "Take request " ++ decimal s ++ codes " from " ++ decimal t
words_of_step (TakeAnswer s t) = codes "Take answer " ++ decimal s ++ codes " from " ++ decimal t
