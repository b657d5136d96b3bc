-- The invariant, counting and order, in every state that a run from the start reaches.
use mathlib.Core.List.{List}
use Prim.Native.Nat.{ℕ}
use Rattle.figure1.specs.Figure1.{State, Label, Run, stop, move, initial}
use Rattle.figure1.proofs.Counting.{Counting, counts, counting_initial}
use Rattle.figure1.proofs.Order.{Order, orders, order_initial}

run_counts : {N : ℕ} {σ τ : State} {ls : List Label} → Run N σ ls τ → Counting N σ → Counting N τ
run_counts stop C = C
run_counts (move e R) C = run_counts R (counts _ _ _ e C)

run_orders : {N : ℕ} {σ τ : State} {ls : List Label} → Run N σ ls τ → Counting N σ → Order N σ → Order N τ
run_orders stop C O = O
run_orders (move e R) C O = run_orders R (counts _ _ _ e C) (orders _ _ _ e C O)

pub counting : {N : ℕ} {σ : State} {ls : List Label} → Run N initial ls σ → Counting N σ
counting {N = N} R = run_counts R (counting_initial N)

pub order : {N : ℕ} {σ : State} {ls : List Label} → Run N initial ls σ → Order N σ
order {N = N} R = run_orders R (counting_initial N) (order_initial N)
