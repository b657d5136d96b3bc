-- The table that a whole round of one of two stations leaves while the other is Idle, with any numbers.
use mathlib.Core.Path.{◌≡◌, refl}
use mathlib.Core.Bool.{Bool, true, false, cond}
use mathlib.Core.List.{List, ◌∷◌, ◌++◌}
use Prim.Native.Nat.{ℕ, ◌+◌, ◌≤◌, ◌<◌}
use native.Mathlib.Omega.{arith}
use borrow.Author.Tests.{ne_eqb, lt-ltb}
use lib.Dec.{eqb, ltb}
use lib.ListN.{set, replicate}
use Rattle.station.specs.declared.Head.{Head}
use Rattle.station.specs.declared.Cells.{Cells}
use Rattle.station.specs.declared.Station.{Station}
use Rattle.station.specs.declared.Step.{Step}
use Rattle.station.specs.declared.Step.TheVariants.{Ask, Send, Enter, Leave, Give, TakeRequest, TakeAnswer}
use Rattle.station.specs.Names.{IDLE, SENDING, WAITING, HOLDING, GIVING, LAST_NUMBER}
use Rattle.form.specs.Form.{new_cells, new_station}
use Rattle.table.specs.Table.{after}
use Rattle.engines.specs.Engines.{ours, table_after}
use Rattle.runs.specs.ShortRuns.{round}
use Rattle.engines.proofs.Computed.{computed}

-- the asker is station 1, or it is station 2
abbrev asker : Bool → ℕ
asker first = cond first 1 2

abbrev other : Bool → ℕ
other first = cond first 2 1

-- station 1's head and its cells for station 2, then station 2's; the others are new
abbrev stations : Head → Cells → Head → Cells → List Station
stations a c b d =
    record { head = a; cells = set (replicate 32 new_cells) 1 c }
    ∷ record { head = b; cells = set (replicate 32 new_cells) 0 d }
    ∷ replicate 30 new_station

-- the asker's, then the other's
abbrev two : Bool → Head → Cells → Head → Cells → List Station
two true a c b d = stations a c b d
two false a c b d = stations b d a c

abbrev head_with : ℕ → ℕ → ℕ → ℕ → ℕ → Head
head_with place own high next due = record { place = place; own = own; high = high; next = next; due = due }

-- both are Idle
abbrev pub rest : Bool → ℕ → ℕ → ℕ → ℕ → List Station
rest first a g b h = two first (head_with IDLE a g 1 0) new_cells (head_with IDLE b h 1 0) new_cells

module _ (a g b h : ℕ) (left : eqb g LAST_NUMBER ≡ false) (real : eqb (g + 1) 0 ≡ false) (higher : ltb h (g + 1) ≡ true) where
  abbrev asked : Cells
  asked = record { request = g + 1; answer = false; mark = false }

  abbrev answered : Cells
  answered = record { request = 0; answer = true; mark = false }

  -- the asker's round, with its place, p and due, and the other's highest seen
  abbrev during : Bool → ℕ → ℕ → ℕ → ℕ → Cells → Cells → List Station
  during first place next due seen c d = two first (head_with place (g + 1) g next due) c (head_with IDLE b seen 1 0) d

  ask : (first : Bool) → after 2 (rest first a g b h) (Ask (asker first)) ≡ during first SENDING 1 1 h new_cells new_cells
  unfolding computed
  ask true = rw left
  ask false = rw left

  -- p is the asker itself at one of the two
  send : (first : Bool) → after 2 (during first SENDING 1 1 h new_cells new_cells) (Send (asker first))
      ≡ during first SENDING 2 1 h new_cells (cond first new_cells asked)
  unfolding computed
  send true = rw real
  send false = rw real

  send_again : (first : Bool) → after 2 (during first SENDING 2 1 h new_cells (cond first new_cells asked)) (Send (asker first))
      ≡ during first WAITING 1 1 h new_cells asked
  unfolding computed
  send_again true = rw real
  send_again false = rw real

  take_request : (first : Bool) → after 2 (during first WAITING 1 1 h new_cells asked) (TakeRequest (other first) (asker first))
      ≡ during first WAITING 1 1 (g + 1) answered new_cells
  unfolding computed
  take_request true = rw (real, higher)
  take_request false = rw (real, higher)

  take_answer : (first : Bool) → after 2 (during first WAITING 1 1 (g + 1) answered new_cells) (TakeAnswer (asker first) (other first))
      ≡ during first WAITING 1 0 (g + 1) new_cells new_cells
  unfolding computed
  take_answer true = rw real
  take_answer false = rw real

  enter : (first : Bool) → after 2 (during first WAITING 1 0 (g + 1) new_cells new_cells) (Enter (asker first))
      ≡ during first HOLDING 1 0 (g + 1) new_cells new_cells
  unfolding computed
  enter true = rw real
  enter false = rw real

  leave : (first : Bool) → after 2 (during first HOLDING 1 0 (g + 1) new_cells new_cells) (Leave (asker first))
      ≡ during first GIVING 1 0 (g + 1) new_cells new_cells
  unfolding computed
  leave true = rw real
  leave false = rw real

  give : (first : Bool) → after 2 (after 2 (during first GIVING 1 0 (g + 1) new_cells new_cells) (Give (asker first))) (Give (asker first))
      ≡ during first IDLE 1 0 (g + 1) new_cells new_cells
  unfolding computed
  give true = refl
  give false = refl

  through : (first : Bool) (xs : List Step)
      → table_after ours 2 (rest first a g b h) (round (asker first) (other first) ++ xs) ≡ table_after ours 2 (rest first (g + 1) g b (g + 1)) xs
  unfolding table_after
  through first xs =
      rw (ask first, send first, send_again first, take_request first, take_answer first, enter first, leave first, give first)

pub round_leaves : (a g b h : ℕ) → g < LAST_NUMBER → h ≤ g → (first : Bool) (xs : List Step)
    → table_after ours 2 (rest first a g b h) (round (asker first) (other first) ++ xs) ≡ table_after ours 2 (rest first (g + 1) g b (g + 1)) xs
round_leaves a g b h u l =
    through a g b h (ne_eqb g LAST_NUMBER (λ e. omega arith)) (ne_eqb (g + 1) 0 (λ e. omega arith)) (lt-ltb h (g + 1) (omega arith))
