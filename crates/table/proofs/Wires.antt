-- The form of the cells between two stations: any where both are there and are two, else none.
use mathlib.Core.Path.{◌≡◌}
use mathlib.Core.Logic.{◌≢◌}
use mathlib.Core.Bool.{true}
use Prim.Native.Nat.{ℕ, ◌≤◌}
use native.Mathlib.Omega.{arith}
use Rattle.station.specs.declared.Cells.{Cells}
use Rattle.std.proofs.lemmas.Bool.Decides.{nat_tests}
use Rattle.form.specs.Form.{new_cells, empty_cells, in_use, cell_ok}

pub in_use_between : (n s t : ℕ) → s ≤ n → t ≤ n → s ≢ t → in_use n s t ≡ true
unfolding in_use
in_use_between n s t l m d = grind (arith, nat_tests)

pub in_use_back : (n s t : ℕ) → in_use n s t ≡ true → in_use n t s ≡ true
unfolding in_use
in_use_back n s t e = grind (arith, nat_tests)

pub used_ok : (n s t : ℕ) (c : Cells) → in_use n s t ≡ true → cell_ok n s t c ≡ true
unfolding cell_ok
used_ok n s t c e = rw e

pub new_ok : (n s t : ℕ) → cell_ok n s t new_cells ≡ true
unfolding cell_ok empty_cells
new_ok n s t = grind (arith, nat_tests)

-- a mark stands only in cells that are in use
pub marked_in_use : (n s t : ℕ) (c : Cells) → cell_ok n s t c ≡ true → c.mark ≡ true → in_use n s t ≡ true
unfolding cell_ok empty_cells
marked_in_use n s t c e m = grind (arith, nat_tests)
