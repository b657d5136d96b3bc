-- A table is what it was once what was read of it is stored there again.
use mathlib.Core.Path.{◌≡◌, ap, ◌∙◌}
use Prim.Native.Nat.{ℕ}
use mathlib.Core.List.{List}
use lib.ListN.{get_or, set}
use lib.Seq.{set-get_or}
use Rattle.station.specs.declared.Cells.{Cells}
use Rattle.station.specs.declared.Station.{Station}
use Rattle.form.specs.Form.{new_cells}
use Rattle.table.specs.Table.{no_station, head_in, cells_in, put_head, put_cells}

pub head_same : (t : List Station) (i : ℕ) → put_head t i (head_in t i) ≡ t
head_same t i = set-get_or t i no_station

pub cells_same : (t : List Station) (i j : ℕ) → put_cells t i j (cells_in t i j) ≡ t
cells_same t i j =
    ap (λ (all : List Cells). set t i (record { head = head_in t i; cells = all })) (set-get_or (get_or t i no_station).cells j new_cells)
    ∙ set-get_or t i no_station
