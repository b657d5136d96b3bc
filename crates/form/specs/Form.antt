-- The form of one record, by 01's "The table".
use Rattle.std.specs.Prelude.{ℕ, ◌+◌, Bool, true, false, cond, not, ◌&&◌, ◌||◌, List, [], ◌∷◌, nat_eq, nat_le, nat_lt, replicate}
use Rattle.station.specs.declared.Head.{Head}
use Rattle.station.specs.declared.Cells.{Cells}
use Rattle.station.specs.declared.Station.{Station}
use Rattle.station.specs.Names.{IDLE, SENDING, WAITING, GIVING, STATIONS}
use Rattle.station.specs.Stations.{is_station, is_asking}

-- 01, "The table": "all else 0 and empty"
abbrev pub new_cells : Cells
new_cells = record { request = 0; answer = false; mark = false }

-- 01, "The table": "Opening writes .. Idle, p = 1, all else 0 and empty"
abbrev pub new_station : Station
new_station = record {
  head = record { place = IDLE; own = 0; high = 0; next = 1; due = 0 };
  cells = replicate STATIONS new_cells;
}

-- "p is 1 to N in Sending and Giving and 1 elsewhere"
unfoldable pub next_ok : ℕ → Head → Bool
next_ok n head = cond (nat_eq head.place SENDING || nat_eq head.place GIVING) (is_station n head.next) (nat_eq head.next 1)

-- "answers due is at most N − 1, and 0 in Idle, Holding and Giving"
unfoldable pub due_ok : ℕ → Head → Bool
due_ok n head = cond (nat_eq head.place SENDING || nat_eq head.place WAITING) (nat_lt head.due n) (nat_eq head.due 0)

-- "the own number is at least 1 in Sending, Waiting and Holding"
unfoldable pub own_ok : Head → Bool
own_ok head = cond (is_asking head.place) (not (nat_eq head.own 0)) true

-- "for each station up to N: the place is 0 to 4", and the three above
unfoldable pub head_ok : ℕ → Head → Bool
head_ok n head = nat_le head.place GIVING && (next_ok n head && (due_ok n head && own_ok head))

-- "Records above N .. hold p = 1 and otherwise zeros"
unfoldable pub new_head : Head → Bool
new_head head =
    nat_eq head.place IDLE && (nat_eq head.own 0 && (nat_eq head.high 0 && (nat_eq head.next 1 && nat_eq head.due 0)))

-- empty wires and no mark
unfoldable pub empty_cells : Cells → Bool
empty_cells cells = not cells.answer && (not cells.mark && nat_eq cells.request 0)

-- the cell of station s for peer t is in use: both are stations of the network, and they are two
unfoldable pub in_use : ℕ → ℕ → ℕ → Bool
in_use n s t = nat_le s n && (nat_le t n && not (nat_eq s t))

-- "its cells for itself are empty and unmarked. Records above N, and cells for peers above N, hold .. empty cells"
unfoldable pub cell_ok : ℕ → ℕ → ℕ → Cells → Bool
cell_ok n s t cells = cond (in_use n s t) true (empty_cells cells)

-- every cell of station s, those for peer t and onward
unfoldable pub cells_ok : ℕ → ℕ → ℕ → List Cells → Bool
cells_ok n s t [] = true
cells_ok n s t (c ∷ cs) = cell_ok n s t c && cells_ok n s (t + 1) cs

-- the record of station s in a table for n
unfoldable pub record_ok : ℕ → ℕ → Station → Bool
record_ok n s station = cond (nat_le s n) (head_ok n station.head) (new_head station.head) && cells_ok n s 1 station.cells
