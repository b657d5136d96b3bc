-- The starred cases of 01's "Both sides of each edge": one table of cases about the rules themselves, and one statement of all of them.
use Rattle.std.specs.Prelude.{◌≡◌, Bool, true, false, cond, ◌&&◌, List, [], ◌∷◌, ℕ, ◌-◌, nat_eq, replicate}
use Rattle.std.specs.Bool.{beq}
use Rattle.station.specs.declared.Head.{Head}
use Rattle.station.specs.declared.Cells.{Cells}
use Rattle.station.specs.declared.Station.{Station}
use Rattle.station.specs.declared.Step.{Step}
use Rattle.station.specs.declared.Step.TheVariants.{Ask, Send, Enter, TakeRequest, TakeAnswer}
use Rattle.station.specs.Names.{SENDING, WAITING, ACCEPTED, BAD_COUNT, NOT_WELL_FORMED, NO_SUCH_STATION, WRONG_PLACE, EMPTY_WIRE, NO_NUMBER_LEFT, AT_ODDS}
use Rattle.station.specs.Setters.{with_place, with_own, with_high, with_next, with_due, with_request}
use Rattle.form.specs.Form.{new_cells, new_station}
use Rattle.table.specs.Table.{no_station, head_in, cells_in, put_head, put_cells, opened, open_answer, open_after, answer, after}
use Rattle.runs.specs.ShortRuns.{tie}
use Rattle.engines.specs.Engines.{ours, table_after}

-- ---- the form of a case
-- a field read out of a table, and what it is: of station s, or at station s for the peer t
pub data Field : Type 0 where
  place own high next due : ℕ → ℕ → Field
  request : ℕ → ℕ → ℕ → Field
  answered marked : ℕ → ℕ → Bool → Field

-- an opening: the count, how many records are lent, the code. A step: the count, a table, the steps offered before, the step, the code, fields afterwards
pub data Case : Type 0 where
  opening : ℕ → ℕ → ℕ → Case
  stepping : ℕ → List Station → List Step → Step → ℕ → List Field → Case

-- the table has that field so
unfoldable pub met : List Station → Field → Bool
met t (place s v) = nat_eq (head_in t (s - 1)).place v
met t (own s v) = nat_eq (head_in t (s - 1)).own v
met t (high s v) = nat_eq (head_in t (s - 1)).high v
met t (next s v) = nat_eq (head_in t (s - 1)).next v
met t (due s v) = nat_eq (head_in t (s - 1)).due v
met t (request s u v) = nat_eq (cells_in t (s - 1) (u - 1)).request v
met t (answered s u v) = beq (cells_in t (s - 1) (u - 1)).answer v
met t (marked s u v) = beq (cells_in t (s - 1) (u - 1)).mark v

-- each passes the test
unfoldable pub all : {A : Type 0} → (A → Bool) → List A → Bool
all test [] = true
all test (x ∷ xs) = test x && all test xs

-- two lists have the same length and agree at each place
unfoldable pub same : {A : Type 0} → (A → A → Bool) → List A → List A → Bool
same agree [] [] = true
same agree [] (y ∷ ys) = false
same agree (x ∷ xs) [] = false
same agree (x ∷ xs) (y ∷ ys) = agree x y && same agree xs ys

-- 01, "The table": "place", "own number and highest number seen", "next peer p", "answers due"
abbrev pub same_head : Head → Head → Bool
same_head a b =
    nat_eq a.place b.place && (nat_eq a.own b.own && (nat_eq a.high b.high && (nat_eq a.next b.next && nat_eq a.due b.due)))

-- 01, "The table": "for each peer: the request under way ..., an answer under way ..., and a held-back mark"
abbrev pub same_cells : Cells → Cells → Bool
same_cells a b = nat_eq a.request b.request && (beq a.answer b.answer && beq a.mark b.mark)

-- two records agree in every field
abbrev pub same_station : Station → Station → Bool
same_station a b = same_head a.head b.head && same same_cells a.cells b.cells

-- 01, "Codes": "Every refusal leaves the whole table and the count unchanged"
unfoldable pub kept_unless : ℕ → List Station → List Station → Bool
kept_unless code t u = cond (nat_eq code ACCEPTED) true (same same_station t u)

-- ---- the tables that cases start from
-- "Fresh but highest seen of 1 is ..": 0 is the index of station 1
abbrev pub fresh_with_high : ℕ → List Station
fresh_with_high seen = put_head opened 0 (with_high seen new_station.head)

-- "Doctored, N = 2, station 1 Sending, p = 2, own 1, due 1, request 1 to 2 already there"
abbrev pub doctored : List Station
doctored = put_cells (put_head opened 0 (with_place SENDING (with_own 1 (with_next 2 (with_due 1 new_station.head))))) 1 0 (with_request 1 new_cells)

-- ---- the cases
-- the code is the one given, a refusal keeps the table, and the fields are met; an opening is tried over records that are not new ones, so that one that wrote would show
unfoldable pub holds : Case → Bool
holds (opening n records code) =
    let t = replicate records no_station in
    nat_eq (open_answer n t) code && kept_unless code t (open_after n t)
holds (stepping n start before x code fields) =
    let t = table_after ours n start before in
    nat_eq (answer n t x) code && (kept_unless code t (after n t x) && all (met (after n t x)) fields)

-- 01, "Both sides of each edge": "Starred ones are for proof"
unfoldable pub cases : List Case
cases =
    -- Opening: "N = 1 gives 1"
    opening 1 32 BAD_COUNT
    -- "33 gives 1"
    ∷ opening 33 32 BAD_COUNT
    -- "N = 2 over 31 records gives 2"
    ∷ opening 2 31 NOT_WELL_FORMED
    -- Fresh, N = 2: "Ask 1 gives number 1, due 1, Sending"
    ∷ stepping 2 opened [] (Ask 1) ACCEPTED (own 1 1 ∷ due 1 1 ∷ place 1 SENDING ∷ [])
    -- "Ask 1 twice, the second gives 4"
    ∷ stepping 2 opened (Ask 1 ∷ []) (Ask 1) WRONG_PLACE []
    -- "Enter 1 gives 4"
    ∷ stepping 2 opened [] (Enter 1) WRONG_PLACE []
    -- "Take answer 1 from 2 gives 6"
    ∷ stepping 2 opened [] (TakeAnswer 1 2) EMPTY_WIRE []
    -- "Ask 3 gives 3"
    ∷ stepping 2 opened [] (Ask 3) NO_SUCH_STATION []
    -- "Take request 1 from 1 gives 3"
    ∷ stepping 2 opened [] (TakeRequest 1 1) NO_SUCH_STATION []
    -- Tie: "station 2 takes 1's request and answers"
    ∷ stepping 2 opened tie (TakeRequest 2 1) ACCEPTED (own 1 1 ∷ own 2 1 ∷ place 1 WAITING ∷ place 2 WAITING ∷ answered 1 2 true ∷ marked 2 1 false ∷ [])
    -- "station 1 takes 2's and marks 2"
    ∷ stepping 2 opened tie (TakeRequest 1 2) ACCEPTED (own 1 1 ∷ own 2 1 ∷ place 1 WAITING ∷ place 2 WAITING ∷ marked 1 2 true ∷ answered 2 1 false ∷ [])
    -- "Fresh but highest seen of 1 is 65,534: Ask gives number 65,535"
    ∷ stepping 2 (fresh_with_high 65534) [] (Ask 1) ACCEPTED (own 1 65535 ∷ [])
    -- "With 65,535: Ask gives 7"
    ∷ stepping 2 (fresh_with_high 65535) [] (Ask 1) NO_NUMBER_LEFT []
    -- Doctored: "Send 1 gives 8"
    ∷ stepping 2 doctored [] (Send 1) AT_ODDS []
    ∷ []

-- 01: "The starred cases are proved about the rules themselves as a single table under a single statement"
abbrev pub StarredCases : Type 0
StarredCases = all holds cases ≡ true
