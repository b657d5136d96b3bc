-- The paper's assertions, from the two parts of the invariant.
use mathlib.Core.Path.{◌≡◌, refl, sym, ap}
use mathlib.Core.Logic.{◌≢◌, ◌⊎◌, inl, inr}
use mathlib.Core.Bool.{Bool, true, false, false≢true, not, ◌&&◌, ◌||◌, and-eq-true_iff}
use mathlib.Core.List.{List}
use Prim.Native.Nat.{ℕ, ◌+◌, ◌≤◌, ◌<◌}
use native.Mathlib.Omega.{arith}
use native.Mathlib.Decide.{ℕ_discrete, dec_lt}
use lib.ListN.{length}
use lib.Dec.{eqb, ltb}
use borrow.Author.Tests.{ltb-true, ltb-false, eqb-true, eqb-false, not-true}
use Rattle.figure1.specs.Figure1.{Location, m1, m2, m31, m32, m4, m5, m6, m71, m72, State, Label, Run, initial, first}
use Rattle.figure1.specs.Assertions.{bit, In, is, sending, asking, entered, weight, requested, request_received, granted, Lower, Assertions}
use Rattle.figure1.proofs.Sums.{sum_term}
use Rattle.figure1.proofs.Errands.{past, Before, reach, far, most, floor, bit_same}
use Rattle.figure1.proofs.Counting.{Counting}
use Rattle.figure1.proofs.Order.{Order}
use Rattle.figure1.proofs.Reached.{counting, order}

-- ---- the invariant's numbers, and the tests of the statements
past_is : (p j : ℕ) → bit (ltb j p) ≡ past p j
past_is p j = go (ltb j p) refl
  where
    go : (b : Bool) → ltb j p ≡ b → bit b ≡ past p j
    go true e = omega (arith, ltb-true j p e)
    go false e = omega (arith, ltb-false j p e)

lower : (m i n j : ℕ) → i ≢ j → Before m i n j → Lower m i n j
lower m i n j d b = elim (dec_lt m n) [ yes l ↦ inl l | no l ↦ inr (omega arith) ]

under_way : (N : ℕ) (l : Location) (p j n : ℕ) → n ≤ past (reach N l p) j → (most N l ≡ 0 → n ≡ 0)
    → n ≤ bit (sending l && ltb j p) + bit (is l m4)
under_way N m1 p j n h z = omega (arith, z refl)
under_way N m2 p j n h z = omega (arith, z refl)
under_way N m31 p j n h z = omega (arith, past_is p j)
under_way N m32 p j n h z = omega (arith, past_is p j)
under_way N m4 p j n h z = omega arith
under_way N m5 p j n h z = omega (arith, z refl)
under_way N m6 p j n h z = omega (arith, z refl)
under_way N m71 p j n h z = omega (arith, z refl)
under_way N m72 p j n h z = omega (arith, z refl)

gone_out : (N : ℕ) (l : Location) (p j : ℕ) → j ≤ N → ((is l m4 || is l m5) || (sending l && ltb j p)) ≡ true → j < reach N l p
gone_out N m1 p j h e = absurd (false≢true e)
gone_out N m2 p j h e = absurd (false≢true e)
gone_out N m31 p j h e = ltb-true j p e
gone_out N m32 p j h e = ltb-true j p e
gone_out N m4 p j h e = omega arith
gone_out N m5 p j h e = omega arith
gone_out N m6 p j h e = absurd (false≢true e)
gone_out N m71 p j h e = absurd (false≢true e)
gone_out N m72 p j h e = absurd (false≢true e)

inside : (N : ℕ) (l : Location) (p : ℕ) → entered l ≡ true → (reach N l p ≡ N + 1) × (most N l ≡ 0) × (bit (asking l) ≡ 1)
inside N m1 p e = absurd (false≢true e)
inside N m2 p e = absurd (false≢true e)
inside N m31 p e = absurd (false≢true e)
inside N m32 p e = absurd (false≢true e)
inside N m4 p e = absurd (false≢true e)
inside N m5 p e = omega arith
inside N m6 p e = omega arith
inside N m71 p e = absurd (false≢true e)
inside N m72 p e = absurd (false≢true e)

given_all : (N : ℕ) (l : Location) (p j : ℕ) → j ≤ N → ((is l m1 || is l m2) || ((is l m71 || is l m72) && ltb j p)) ≡ true → j < floor N l p
given_all N m1 p j h e = omega arith
given_all N m2 p j h e = omega arith
given_all N m31 p j h e = absurd (false≢true e)
given_all N m32 p j h e = absurd (false≢true e)
given_all N m4 p j h e = absurd (false≢true e)
given_all N m5 p j h e = absurd (false≢true e)
given_all N m6 p j h e = absurd (false≢true e)
given_all N m71 p j h e = ltb-true j p e
given_all N m72 p j h e = ltb-true j p e

module _ {N : ℕ} {σ : State} (C : Counting N σ) (i j : ℕ) (H : In N i) (J : In N j) where
  -- a node to which no reply can be due has nothing under way
  at_rest : most N (σ.node i).at ≡ 0 → weight σ i j ≡ 0
  at_rest e = omega (arith, (C.own i H).c_high, (C.own i H).c_is, sum_term N j (λ k. weight σ i k) J.low J.high)

  pub chain : weight σ i j ≤ bit (sending (σ.node i).at && ltb j (σ.node i).p) + bit (is (σ.node i).at m4)
  chain = elim (ℕ_discrete i j) [
    | yes e ↦ let z : weight σ i j ≡ 0 = rw (← e) (C.self i H) in omega arith
    | no d ↦ under_way N (σ.node i).at (σ.node i).p j (weight σ i j) (C.chain i j H J d) at_rest
  ]

  received : request_received σ i j ≡ true → (i ≢ j) × (j < far N (σ.node i)) × (length (σ.chq i j) ≡ 0)
  received r =
      let b = (and-eq-true_iff (requested σ i j) _).0 r in
      let c = (and-eq-true_iff (not (eqb i j)) _).0 b.0 in
      (eqb-false i j (not-true _ c.0), gone_out N (σ.node i).at (σ.node i).p j J.high c.1, eqb-true _ _ b.1)

  -- of two nodes that are both in, the one is before the other
  first_in : Order N σ → i ≢ j → entered (σ.node i).at ≡ true → entered (σ.node j).at ≡ true → Before (σ.node i).osn i (σ.node j).osn j
  first_in O d e f =
      let u = inside N (σ.node i).at (σ.node i).p e in
      let v = inside N (σ.node j).at (σ.node j).p f in
      let z = at_rest u.1 in
      (O i j H J d).allowed (omega (arith, u.0, J.high)) (omega arith) (omega arith) (omega (arith, v.2, (C.own j J).rcs_is))

module _ {N : ℕ} {σ : State} (C : Counting N σ) (O : Order N σ) where
  value : (i j : ℕ) → In N i → In N j → 0 < length (σ.chq i j) → first (σ.chq i j) ≡ (σ.node i).osn
  value i j H J h = elim (ℕ_discrete i j) [
    | yes e ↦ let z : weight σ i j ≡ 0 = rw (← e) (C.self i H) in absurd (omega arith)
    | no d ↦ (O i j H J d).value h
  ]

  seen : (i j : ℕ) → In N i → In N j → request_received σ i j ≡ true → (σ.node i).osn ≤ (σ.node j).hsn
  seen i j H J r =
      let q = received C i j H J r in
      (O i j H J q.0).seen q.1 q.2

  allowed : (i j : ℕ) → In N i → In N j → granted σ i j ≡ true → ((σ.node j).rcs ≡ false) ⊎ Lower (σ.node i).osn i (σ.node j).osn j
  allowed i j H J g = go (σ.node j).rcs refl
    where
      go : (b : Bool) → (σ.node j).rcs ≡ b → (b ≡ false) ⊎ Lower (σ.node i).osn i (σ.node j).osn j
      go false e = inl refl
      go true e =
          let m = (and-eq-true_iff (request_received σ i j) _).0 g in
          let q = received C i j H J m.0 in
          let z : bit ((σ.node j).rd i) ≡ 0 = ap bit (not-true ((σ.node j).rd i) m.1) in
          inr (lower _ i _ j q.0 ((O i j H J q.0).allowed q.1 q.2 z (ap bit e)))

  -- as excl, with m6 too: rcs falls only on the way out of it
  alone_inside : (i j : ℕ) → In N i → In N j → entered (σ.node i).at ≡ true → entered (σ.node j).at ≡ true → i ≡ j
  alone_inside i j H J e f = elim (ℕ_discrete i j) [
    | yes z ↦ z
    | no d ↦ absurd (omega (arith, first_in C i j H J O d e f, first_in C j i J H O (λ z. d (sym z)) f e))
  ]

  marked_apart : (i j : ℕ) → In N i → (σ.node i).rd j ≡ true → j ≢ i
  marked_apart i j H m e = omega (arith, C.self i H, ap bit m, ap (λ (k : ℕ). bit ((σ.node i).rd k)) e)

  marked_later : (i j : ℕ) → In N i → In N j → (σ.node i).rd j ≡ true → Lower (σ.node i).osn i (σ.node j).osn j
  marked_later i j H J m =
      let d = marked_apart i j H m in
      lower _ i _ j (λ z. d (sym z)) ((O j i J H d).behind (ap bit m))

  unmarked : (i j : ℕ) → In N i → In N j
      → ((is (σ.node i).at m1 || is (σ.node i).at m2) || ((is (σ.node i).at m71 || is (σ.node i).at m72) && ltb j (σ.node i).p)) ≡ true
      → (σ.node i).rd j ≡ false
  unmarked i j H J e = go ((σ.node i).rd j) refl
    where
      go : (b : Bool) → (σ.node i).rd j ≡ b → b ≡ false
      go false m = refl
      go true m =
          absurd (omega (arith, (O j i J H (marked_apart i j H m)).kept (ap bit m), given_all N (σ.node i).at (σ.node i).p j J.high e))

  all_assertions : Assertions N σ
  all_assertions = record {
    p_range = λ i H. ((C.own i H).p_low, (C.own i H).p_high);
    rcs_range = λ i H. bit_same _ _ (C.own i H).rcs_is;
    message_chain = chain C;
    c_range = λ i H. rw (past_is (σ.node i).p i) (C.own i H).c_is;
    request_in_channel = value;
    hsn_highest = seen;
    permitted = allowed;
    excl = λ i j H J e f. alone_inside i j H J (ap entered e) (ap entered f);
    rd_osn = marked_later;
    not_rd_range = unmarked;
  }

module _ {N : ℕ} {ls : List Label} {σ : State} (R : Run N initial ls σ) where
  pub excl_or_leaving : (i j : ℕ) → In N i → In N j → entered (σ.node i).at ≡ true → entered (σ.node j).at ≡ true → i ≡ j
  excl_or_leaving = alone_inside (counting R) (order R)

  pub asserted : Assertions N σ
  asserted = all_assertions (counting R) (order R)
