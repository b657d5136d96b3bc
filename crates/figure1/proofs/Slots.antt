-- What one slot for each channel rests on: a channel is empty where a message is put into it, and a reply that arrives is due. It follows from the counting part of the invariant alone.
use mathlib.Core.Path.{◌≡◌, refl, sym, ap}
use mathlib.Core.Logic.{◌≢◌}
use mathlib.Core.Bool.{Bool, true, false, cond, ◌||◌}
use mathlib.Core.List.{List, [], ◌∷◌}
use Prim.Native.Nat.{ℕ, ◌-◌, ◌≤◌, ◌<◌}
use native.Mathlib.Omega.{arith}
use lib.ListN.{length}
use Rattle.figure1.specs.Figure1.{m32, m4, m72, State}
use Rattle.figure1.specs.Assertions.{bit, In, is, sending, weight}
use Rattle.figure1.proofs.Sums.{sum_term}
use Rattle.figure1.proofs.Errands.{bit_same, outside, within}
use Rattle.figure1.proofs.Counting.{Counting, peer, light}

empty : (q : List ℕ) → length q ≡ 0 → q ≡ []
empty [] e = refl
empty (x ∷ q) e = absurd (omega arith)

at_most : (b : Bool) (n : ℕ) → cond b n 0 ≤ n
at_most true n = omega arith
at_most false n = omega arith

neither : (a b : Bool) (n : ℕ) → a ≡ false → b ≡ false → cond (a || b) n 0 ≡ 0
neither a b n e f = rw (e, f)

module _ {N : ℕ} {σ : State} (C : Counting N σ) where
  -- the own number of a node that asks is at least 1
  pub asked_once : (i : ℕ) → In N i → (σ.node i).rcs ≡ true → 1 ≤ (σ.node i).osn
  asked_once i H e = omega (arith, (C.own i H).osn_low, ap bit e)

  pub no_self : (i : ℕ) → In N i → weight σ i i ≡ 0
  no_self i H = C.self i H

  pub one_message : (i j : ℕ) → In N i → In N j → (length (σ.chq i j) ≤ 1) × (length (σ.chp i j) ≤ 1)
  one_message i j H J = let u = light C i j H J in let v = light C j i J H in omega arith

  -- m32 puts a request into an empty channel
  pub room_to_send : (s : ℕ) → In N s → (σ.node s).at ≡ m32 → (σ.node s).p ≢ s → σ.chq s (σ.node s).p ≡ []
  room_to_send s S e d =
      let P = peer (C.own s S) (within N s (σ.node s) m32 e).looping_at in
      empty _ (omega (arith, C.chain s (σ.node s).p S P (λ z. d (sym z)), (outside N (σ.node s) m32 e).far_at))

  -- m72 puts a reply into an empty channel
  pub room_to_give : (s : ℕ) → In N s → (σ.node s).at ≡ m72 → (σ.node s).rd (σ.node s).p ≡ true → σ.chp s (σ.node s).p ≡ []
  room_to_give s S e m =
      let P = peer (C.own s S) (within N s (σ.node s) m72 e).looping_at in
      empty _ (omega (arith, light C (σ.node s).p s P S, ap bit m))

  -- q1 puts a reply into an empty channel, or sets a mark that is not set
  pub room_to_judge : (s t : ℕ) → In N s → In N t → 0 < length (σ.chq t s) → (σ.chp s t ≡ []) × ((σ.node s).rd t ≡ false)
  room_to_judge s t S T h = let u = light C t s T S in (empty _ (omega arith), bit_same _ false (omega arith))

  -- r1 takes a reply that is due
  pub reply_due : (s u : ℕ) → In N s → In N u → 0 < length (σ.chp u s) → 1 ≤ (σ.node s).c
  reply_due s u S U h = omega (arith, (C.own s S).c_is, sum_term N u (λ k. weight σ s k) U.low U.high)

  pub due_range : (i : ℕ) → In N i → (σ.node i).c ≤ N - 1
  due_range i H = omega (arith, (C.own i H).c_high, at_most (sending (σ.node i).at || is (σ.node i).at m4) (N - 1))

  -- at m1, m2, m5, m6, m71 and m72
  pub due_none : (i : ℕ) → In N i → sending (σ.node i).at ≡ false → is (σ.node i).at m4 ≡ false → (σ.node i).c ≡ 0
  due_none i H e f = omega (arith, (C.own i H).c_high, neither (sending (σ.node i).at) (is (σ.node i).at m4) (N - 1) e f)
