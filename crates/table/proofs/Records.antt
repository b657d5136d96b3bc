-- The records of a table in form: what the scan over them says of each, and that another head or other cells in form leave them so.
use mathlib.Core.Path.{◌≡◌, refl}
use mathlib.Core.Bool.{true}
use mathlib.Core.List.{List}
use Prim.Native.Nat.{ℕ, ◌+◌, ◌<◌}
use native.Mathlib.Omega.{arith}
use native.Mathlib.Decide.{dec_lt}
use lib.ListN.{length, get_or, length-set}
use Rattle.std.proofs.lemmas.Bool.{and_parts}
use Rattle.std.proofs.lemmas.List.{get_or_past}
use Rattle.station.specs.declared.Head.{Head}
use Rattle.station.specs.declared.Cells.{Cells}
use Rattle.station.specs.declared.Station.{Station}
use Rattle.rows.specs.Rows.{Outcome}
use Rattle.form.specs.Form.{new_cells, cell_ok, cells_ok, record_ok}
use Rattle.walks.proofs.Along.{scan_at, scan_set}
use Rattle.walks.specs.Walks.{Scan}
use Rattle.form.proofs.Scans.{cells_scan}
use Rattle.table.proofs.Wires.{new_ok}
use Rattle.table.specs.Table.{no_station, head_in, cells_in, put_head, put_cells, records_ok, landed}
use Rattle.table.proofs.Fits.{front_ok, Fits}

pub records_scan : (n : ℕ) → Scan (record_ok n) (records_ok n)
unfolding records_ok
records_scan n = record { none = λ _. refl; some = λ _ _ _. refl }

module _ (n : ℕ) (t : List Station) (all : records_ok n 1 t ≡ true) (i : ℕ) (l : i < length t) where
  abbrev r : Station
  r = get_or t i no_station

  parts : (front_ok n (1 + i) r.head ≡ true) × (cells_ok n (1 + i) 1 r.cells ≡ true)
  unfolding record_ok
  parts = and_parts (front_ok n (1 + i) r.head) _ (scan_at (records_scan n) no_station 1 t i l all)

  pub head_ok_in : front_ok n (1 + i) (head_in t i) ≡ true
  head_ok_in = parts.0

  pub cells_ok_in : (j : ℕ) → cell_ok n (1 + i) (1 + j) (cells_in t i j) ≡ true
  cells_ok_in j = elim (dec_lt j (length r.cells)) [
    | yes m ↦ scan_at (cells_scan n (1 + i)) new_cells 1 r.cells j m parts.1
    | no m ↦ rw (get_or_past r.cells j new_cells (omega arith)) (new_ok n (1 + i) (1 + j))
  ]

  head_put : (h : Head) → front_ok n (1 + i) h ≡ true → records_ok n 1 (put_head t i h) ≡ true
  unfolding record_ok
  head_put h ok = scan_set (records_scan n) 1 t i _ all (rw (ok, parts.1))

  cells_put : (j : ℕ) (c : Cells) → cell_ok n (1 + i) (1 + j) c ≡ true → records_ok n 1 (put_cells t i j c) ≡ true
  unfolding record_ok
  cells_put j c ok = scan_set (records_scan n) 1 t i _ all (rw (parts.0, scan_set (cells_scan n (1 + i)) 1 r.cells j c parts.1 ok))

pub landed_in : (n : ℕ) (t : List Station) (i j : ℕ) (out : Outcome) → records_ok n 1 t ≡ true → i < length t → j < length t
    → Fits n (1 + i) (1 + j) out → records_ok n 1 (landed out t i j) ≡ true
landed_in n t i j out all l m fits =
    let t₁ = put_head t i out.head in
    let t₂ = put_cells t₁ i j out.mine in
    let one : records_ok n 1 t₁ ≡ true = head_put n t all i l out.head fits.head in
    let two : records_ok n 1 t₂ ≡ true = cells_put n t₁ one i (rw length-set l) j out.mine fits.mine in
    cells_put n t₂ two j (rw (length-set, length-set) m) i out.theirs fits.theirs
