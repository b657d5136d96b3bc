-- The rules of the table: a code and a table for any table, any count and any step. The contracts, the run and the demands all speak of these.
use Rattle.std.specs.Prelude.{ℕ, ◌+◌, ◌-◌, ◌≡◌, Bool, true, cond, ◌&&◌, Option, None, Some, zero, suc, List, [], ◌∷◌, nat_eq, length, slice_index_or, set, replicate}
use Rattle.station.specs.declared.Head.{Head}
use Rattle.station.specs.declared.Cells.{Cells}
use Rattle.station.specs.declared.Station.{Station}
use Rattle.station.specs.declared.Step.{Step}
use Rattle.station.specs.Names.{HOLDING, STATIONS, ACCEPTED, BAD_COUNT, NOT_WELL_FORMED}
use Rattle.station.specs.Stations.{count_ok, is_station, named_by, peer_of, index_of}
use Rattle.rows.specs.Rows.{Outcome, outcome}
use Rattle.form.specs.Form.{new_cells, new_station, record_ok}

-- ---- what a table holds
-- what is read past the end of a list: zeros
abbrev pub no_head : Head
no_head = record { place = 0; own = 0; high = 0; next = 0; due = 0 }

-- the same for a whole record
abbrev pub no_station : Station
no_station = record { head = no_head; cells = [] }

-- the head of the record at index i
abbrev pub head_in : List Station → ℕ → Head
head_in t i = (slice_index_or t i no_station).head

-- its cells for the peer at index j
abbrev pub cells_in : List Station → ℕ → ℕ → Cells
cells_in t i j = slice_index_or (slice_index_or t i no_station).cells j new_cells

-- the table with another head at i, and all else as it was
abbrev pub put_head : List Station → ℕ → Head → List Station
put_head t i head = set t i (record { head = head; cells = (slice_index_or t i no_station).cells })

-- the table with other cells of i for j, and all else as it was
abbrev pub put_cells : List Station → ℕ → ℕ → Cells → List Station
put_cells t i j cells = set t i (record { head = head_in t i; cells = set (slice_index_or t i no_station).cells j cells })

-- the head of station s, zeros where there is no such record
unfoldable pub head_of : List Station → ℕ → Head
head_of t s = cond (is_station (length t) s) (head_in t (s - 1)) no_head

-- ---- opening
-- 01, "The table": "Opening writes all 32 records"
abbrev pub opened : List Station
opened = replicate STATIONS new_station

-- 01, codes 1 and 2: "opening with N outside 2 to 32"; "at opening, only that it hasn't 32 records"; "at opening 1, 2"
unfoldable pub open_code : ℕ → ℕ → ℕ
open_code len n = cond (count_ok n) (cond (nat_eq len STATIONS) ACCEPTED NOT_WELL_FORMED) BAD_COUNT

-- what opening answers over a table
abbrev pub open_answer : ℕ → List Station → ℕ
open_answer n t = open_code (length t) n

-- 01, "Codes": "Every refusal leaves the whole table and the count unchanged"
unfoldable pub open_after : ℕ → List Station → List Station
open_after n t = cond (nat_eq (open_answer n t) ACCEPTED) opened t

-- what `open` promises: its code, and every record that was lent to it as it is afterwards
pub record OpensTo (n : ℕ) (t : List Station) (code : ℕ) (now : List Station) : Type 0 where
  pub answers : code ≡ open_answer n t
  pub leaves : now ≡ open_after n t

-- ---- the form of a table
-- "for each station up to N", and for the records above: each record, that of station s first, has its form
unfoldable pub records_ok : ℕ → ℕ → List Station → Bool
records_ok n s [] = true
records_ok n s (r ∷ rs) = record_ok n s r && records_ok n (s + 1) rs

-- "it has 32 records, N is 2 to 32"
unfoldable pub sized : ℕ → ℕ → Bool
sized len n = nat_eq len STATIONS && count_ok n

-- 01, "The table": "A table is well formed when .."
unfoldable pub well_formed : ℕ → List Station → Bool
well_formed n t = sized (length t) n && records_ok n 1 t

-- ---- a step
-- the index of the station that a step names
abbrev pub seat : Step → ℕ
seat x = index_of (named_by x)

-- the index of the peer, by the next peer p of the station
abbrev pub seat_of : Step → ℕ → ℕ
seat_of x next = index_of (peer_of x next)

-- the same, read out of the table
abbrev pub peer_seat : List Station → Step → ℕ
peer_seat t x = seat_of x (head_in t (seat x)).next

-- what the core makes of the head at i and of the two cells between i and j
abbrev pub outcome_at : ℕ → List Station → Step → ℕ → ℕ → Outcome
outcome_at n t x i j = outcome n x (head_in t i) (cells_in t i j) (cells_in t j i)

-- the same at the station that the step names and its peer
abbrev pub outcome_in : ℕ → List Station → Step → Outcome
outcome_in n t x = outcome_at n t x (seat x) (peer_seat t x)

-- the table with an outcome of the stations at i and j in it
abbrev pub landed : Outcome → List Station → ℕ → ℕ → List Station
landed out t i j = put_cells (put_cells (put_head t i out.head) i j out.mine) j i out.theirs

-- 01, "Codes": "at a step 2, 3, 4, then 5, 6 or 7, then 8. The first that applies is returned": 2 unless the table is well formed, else what the core says
unfoldable pub answer : ℕ → List Station → Step → ℕ
answer n t x = cond (well_formed n t) (outcome_in n t x).code NOT_WELL_FORMED

-- 01, "Codes": "Every refusal leaves the whole table .. unchanged. An accepted step changes only what its row names"
unfoldable pub after : ℕ → List Station → Step → List Station
after n t x = cond (nat_eq (answer n t x) ACCEPTED) (landed (outcome_in n t x) t (seat x) (peer_seat t x)) t

-- what `step` promises: its code, and every record that was lent to it as it is afterwards
pub record StepsTo (n : ℕ) (x : Step) (t : List Station) (code : ℕ) (now : List Station) : Type 0 where
  pub answers : code ≡ answer n t x
  pub leaves : now ≡ after n t x

-- the same of the step between the stations at i and j, once the table has been checked
pub record ActsTo (n : ℕ) (x : Step) (i j : ℕ) (t : List Station) (code : ℕ) (now : List Station) : Type 0 where
  pub answers : code ≡ (outcome_at n t x i j).code
  pub leaves : now ≡ landed (outcome_at n t x i j) t i j

-- ---- who holds the turn
-- 01, "Frames": "the station in Holding, 00 for none"; of several, which no reached table has, the lowest
unfoldable pub holder_from : ℕ → List Station → ℕ
holder_from s [] = 0
holder_from s (r ∷ rs) = cond (nat_eq r.head.place HOLDING) s (holder_from (s + 1) rs)

-- "00 for none": that number as a station or none
abbrev pub in_holding : ℕ → Option ℕ
in_holding zero = None
in_holding (suc s) = Some (suc s)

-- the records count from station 1
abbrev pub holder : List Station → ℕ
holder t = holder_from 1 t
