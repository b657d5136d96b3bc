-- The cells of a record are scanned one by one, each with its number. That asks the same as this: those for the station itself and for peers above n are empty, and in a record above n all are.
use Prim.Native.Nat.{ℕ, zero, suc, ◌+◌, ◌-◌, ◌≤◌, ◌<◌}
use native.Mathlib.Omega.{arith}
use mathlib.Core.Path.{◌≡◌, refl, sym, ap, ◌∙◌}
use mathlib.Core.Bool.{true, ◌&&◌}
use mathlib.Core.List.{List, [], ◌∷◌}
use lib.ListN.{length, take, drop}
use Rattle.std.specs.Prelude.{◌≢◌, min}
use Rattle.std.proofs.lemmas.List.{drop_min, take_rest, length-drop}
use Rattle.std.specs.List.{list_all}
use Rattle.std.proofs.Math.Bool.{and-true}
use Rattle.std.proofs.Math.Seq.{take-nil}
use Rattle.std.proofs.lemmas.Bool.Decides.{nat_tests}
use Rattle.station.specs.declared.Cells.{Cells}
use Rattle.walks.specs.Walks.{Scan}
use Rattle.form.specs.Form.{empty_cells, in_use, cell_ok, cells_ok}

pub cells_scan : (n s : ℕ) → Scan (cell_ok n s) (cells_ok n s)
unfolding cells_ok
cells_scan n s = record { none = λ _. refl; some = λ _ _ _. refl }

-- ---- one cell
above : (n s t : ℕ) (c : Cells) → n < t → cell_ok n s t c ≡ empty_cells c
unfolding in_use cell_ok
above n s t c l = grind (arith, nat_tests)

unused : (n s t : ℕ) (c : Cells) → n < s → cell_ok n s t c ≡ empty_cells c
unfolding in_use cell_ok
unused n s t c l = grind (arith, nat_tests)

own : (n s : ℕ) (c : Cells) → cell_ok n s s c ≡ empty_cells c
unfolding in_use cell_ok
own n s c = grind (arith, nat_tests)

used : (n s t : ℕ) (c : Cells) → s ≤ n → t ≤ n → s ≢ t → cell_ok n s t c ≡ true
unfolding in_use cell_ok
used n s t c here there apart = grind (arith, nat_tests)

-- ---- all of them
all_unused : (n s t : ℕ) (cs : List Cells) → ((u : ℕ) (c : Cells) → t ≤ u → cell_ok n s u c ≡ empty_cells c) → cells_ok n s t cs ≡ list_all empty_cells cs
unfolding cells_ok
all_unused n s t [] each = refl
all_unused n s t (c ∷ cs) each = rw (each t c (omega arith), all_unused n s (t + 1) cs (λ u d l. each u d (omega (arith, l))))

pub cells_unused : (n s : ℕ) (cs : List Cells) → n < s → cells_ok n s 1 cs ≡ list_all empty_cells cs
cells_unused n s cs l = all_unused n s 1 cs (λ u c _. unused n s u c l)

-- behind those for the station itself: nothing is asked up to n
behind : (n s t k : ℕ) (cs : List Cells) → s ≤ n → s < t → t + k ≡ n + 1 → cells_ok n s t cs ≡ list_all empty_cells (drop k cs)
unfolding cells_ok
behind n s t zero cs here l e = all_unused n s t cs (λ u c m. above n s u c (omega (arith, m, e)))
behind n s t (suc k) [] here l e = refl
behind n s t (suc k) (c ∷ cs) here l e =
    rw (used n s t c here (omega (arith, e)) (λ z. omega (arith, z, l)), behind n s (t + 1) k cs here (omega (arith, l)) (omega (arith, e)))

-- before them, and at them
at_own : (n s t j k : ℕ) (cs : List Cells) → s ≤ n → t + j ≡ s → t + k ≡ n + 1
    → cells_ok n s t cs ≡ (list_all empty_cells (take 1 (drop j cs)) && list_all empty_cells (drop k cs))
unfolding cells_ok
at_own n s t zero (suc k) [] here e f = refl
at_own n s t zero (suc k) (c ∷ cs) here e f =
    let this : s ≡ t = omega (arith, e) in
    rw (ap (λ u. cell_ok n u t c) this ∙ own n t c, behind n s (t + 1) k cs here (omega (arith, e)) (omega (arith, f)))
    (ap (λ b. b && list_all empty_cells (drop k cs)) (sym (and-true (empty_cells c))))
at_own n s t (suc j) (suc k) [] here e f = refl
at_own n s t (suc j) (suc k) (c ∷ cs) here e f =
    rw (used n s t c here (omega (arith, f)) (λ z. omega (arith, z, e)), at_own n s (t + 1) j k cs here (omega (arith, e)) (omega (arith, f)))
at_own n s t j zero cs here e f = absurd (omega (arith, e, f))

pub cells_used : (n s : ℕ) (cs : List Cells) → s ≤ n
    → cells_ok n s 1 cs ≡ (list_all empty_cells (take (s - (s - 1)) (drop (s - 1) cs)) && list_all empty_cells (drop n cs))
cells_used n zero cs here = behind n 0 1 n cs here (omega arith) (omega arith)
cells_used n (suc i) cs here =
    let before : suc i - 1 ≡ i = omega arith in
    let one : suc i - (suc i - 1) ≡ 1 = omega arith in
    rw (one, before) (at_own n (suc i) 1 i n cs here (omega arith) (omega arith))

-- ---- what is cut out of a slice, within its length
pub own_cut : (s : ℕ) (cs : List Cells)
    → take (min s (length cs) - min (s - 1) (length cs)) (drop (min (s - 1) (length cs)) cs) ≡ take (s - (s - 1)) (drop (s - 1) cs)
own_cut s cs = rw (drop_min (s - 1) cs) (cut (drop (s - 1) cs) (length-drop (s - 1) cs))
  where
    cut : (ds : List Cells) → length ds ≡ length cs - (s - 1) → take (min s (length cs) - min (s - 1) (length cs)) ds ≡ take (s - (s - 1)) ds
    cut [] e = take-nil _ ∙ sym (take-nil _)
    cut (d ∷ ds) e =
        let same : min s (length cs) - min (s - 1) (length cs) ≡ s - (s - 1) = omega (arith, e) in
        rw same

pub rest_cut : (n : ℕ) (cs : List Cells) → take (length cs - min n (length cs)) (drop (min n (length cs)) cs) ≡ drop n cs
rest_cut n cs = take_rest cs (min n (length cs)) ∙ drop_min n cs
