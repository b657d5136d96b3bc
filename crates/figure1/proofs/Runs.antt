-- Runs put end to end, and that a run's start and transitions determine its end.
use mathlib.Core.Path.{◌≡◌, refl}
use mathlib.Core.List.{List, ◌++◌}
use Prim.Native.Nat.{ℕ}
use Rattle.figure1.specs.Figure1.{State, Label, Run, stop, move}

pub run_append : {N : ℕ} {σ τ υ : State} {ls ks : List Label} → Run N σ ls τ → Run N τ ks υ → Run N σ (ls ++ ks) υ
run_append stop Q = Q
run_append (move e R) Q = move e (run_append R Q)

pub run_determined : {N : ℕ} {σ τ υ : State} {ls : List Label} → Run N σ ls τ → Run N σ ls υ → τ ≡ υ
run_determined stop stop = refl
run_determined (move e R) (move f Q) = run_determined R Q
