-- A refused step changes nothing: a table that its outcome is stored to is what it was.
use mathlib.Core.Path.{◌≡◌, ap, ◌∙◌}
use Prim.Native.Nat.{ℕ}
use mathlib.Core.Bool.{false}
use mathlib.Core.List.{List}
use lib.Dec.{eqb}
use Rattle.station.specs.declared.Station.{Station}
use Rattle.station.specs.declared.Step.{Step}
use Rattle.station.specs.Names.{ACCEPTED}
use Rattle.rows.specs.Rows.{Outcome, outcome_of}
use Rattle.table.proofs.Leaves.{outcome_leaves}
use Rattle.table.specs.Table.{head_in, cells_in, put_cells, outcome_at, landed}
use Rattle.table.proofs.InTable.{head_same, cells_same}

-- what is read of a table, stored there again
same_landed : (code : ℕ) (t : List Station) (i j : ℕ) → landed (outcome_of code (head_in t i) (cells_in t i j) (cells_in t j i)) t i j ≡ t
same_landed code t i j =
    ap (λ (u : List Station). put_cells (put_cells u i j (cells_in t i j)) j i (cells_in t j i)) (head_same t i)
    ∙ (ap (λ (u : List Station). put_cells u j i (cells_in t j i)) (cells_same t i j) ∙ cells_same t j i)

pub unchanged : (n : ℕ) (x : Step) (t : List Station) (i j : ℕ) → eqb (outcome_at n t x i j).code ACCEPTED ≡ false → landed (outcome_at n t x i j) t i j ≡ t
unchanged n x t i j off =
    ap (λ (out : Outcome). landed out t i j) ((outcome_leaves (head_in t i) (cells_in t i j) (cells_in t j i) n x).same off)
    ∙ same_landed (outcome_at n t x i j).code t i j
