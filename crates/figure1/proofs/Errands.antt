-- What is under way between two nodes, and what a node's location and p say of it, as numbers.
use mathlib.Core.Path.{◌≡◌, refl, ap}
use mathlib.Core.Bool.{Bool, true, false, cond, ◌||◌}
use mathlib.Core.List.{List}
use Prim.Native.Nat.{ℕ, ◌+◌, ◌-◌, ◌≤◌, min}
use native.Mathlib.Omega.{arith}
use lib.ListN.{length}
use Rattle.figure1.specs.Figure1.{Location, m1, m2, m4, Node, State}
use Rattle.figure1.specs.Assertions.{bit, sum, is, sending, asking, looping, weight}

-- what is under way between an asker i and an answerer j: chq[i, j], rd[j, i] and chp[j, i]
pub record Errand : Type 0 where
  pub chq : List ℕ
  pub rd : Bool
  pub chp : List ℕ

abbrev pub way : State → ℕ → ℕ → Errand
way σ i j = record { chq = σ.chq i j; rd = (σ.node j).rd i; chp = σ.chp j i }

-- `load (way σ i j)` is `weight σ i j`
abbrev pub load : Errand → ℕ
load w = length w.chq + bit w.rd + length w.chp

-- the errands of node i
abbrev pub total : ℕ → State → ℕ → ℕ
total N σ i = sum N (λ k. weight σ i k)

-- 1 where a > b, and 0 elsewhere
abbrev pub past : ℕ → ℕ → ℕ
past a b = min 1 (a - b)

-- of two different nodes, (m, i) ≺ (n, j)
abbrev pub Before : ℕ → ℕ → ℕ → ℕ → Type 0
Before m i n j = m + past i j ≤ n

-- the requests of a node have gone out to the nodes below this
abbrev pub reach : ℕ → Location → ℕ → ℕ
reach N l p = cond (sending l) p (cond (asking l) (N + 1) 0)

abbrev pub far : ℕ → Node → ℕ
far N a = reach N a.at a.p

-- the nodes that node i has yet to send to
abbrev pub left : ℕ → ℕ → Location → ℕ → ℕ
left N i l p = cond (sending l) ((N + past p i) - p) 0

-- the most replies that can be due
abbrev pub most : ℕ → Location → ℕ
most N l = cond (sending l || is l m4) (N - 1) 0

-- a node has no mark for the nodes below this
abbrev pub floor : ℕ → Location → ℕ → ℕ
floor N l p = cond (asking l) 0 (cond (is l m1 || is l m2) (N + 1) p)

pub bit_same : (a b : Bool) → bit a ≡ bit b → a ≡ b
bit_same true true e = refl
bit_same true false e = absurd (omega arith)
bit_same false true e = absurd (omega arith)
bit_same false false e = refl

-- ---- what a location says of its node: to the others, and of its own count
pub record Outside (N : ℕ) (a : Node) (l : Location) : Type 0 where
  pub far_at : far N a ≡ reach N l a.p
  pub asking_at : bit (asking a.at) ≡ bit (asking l)
  pub floor_at : floor N a.at a.p ≡ floor N l a.p

pub outside : (N : ℕ) (a : Node) (l : Location) → a.at ≡ l → Outside N a l
outside N a l e = record {
  far_at = ap (λ (x : Location). reach N x a.p) e;
  asking_at = ap (λ (x : Location). bit (asking x)) e;
  floor_at = ap (λ (x : Location). floor N x a.p) e;
}

pub record Within (N i : ℕ) (a : Node) (l : Location) : Type 0 where
  pub looping_at : bit (looping a.at) ≡ bit (looping l)
  pub most_at : most N a.at ≡ most N l
  pub left_at : left N i a.at a.p ≡ left N i l a.p

pub within : (N i : ℕ) (a : Node) (l : Location) → a.at ≡ l → Within N i a l
within N i a l e = record {
  looping_at = ap (λ (x : Location). bit (looping x)) e;
  most_at = ap (most N) e;
  left_at = ap (λ (x : Location). left N i x a.p) e;
}
