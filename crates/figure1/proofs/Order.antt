-- The part of the invariant about numbers: which request is before which. It is kept where the counting part holds.
use mathlib.Core.Path.{◌≡◌, refl, sym, ap, ◌∙◌}
use mathlib.Core.Logic.{◌≢◌}
use mathlib.Core.Bool.{Bool, true, false, cond}
use mathlib.Core.List.{List, [], ◌∷◌, ◌++◌}
use Prim.Native.Nat.{ℕ, ◌+◌, ◌≤◌, ◌<◌}
use native.Mathlib.Nat.{le_refl}
use native.Mathlib.Omega.{arith}
use native.Mathlib.Decide.{ℕ_discrete}
use lib.ListN.{length, length-append}
use lib.Dec.{leb, eqb, ltb}
use borrow.Author.Tests.{leb-false, eqb-true, eqb-false, ltb-true, ltb-false}
use Rattle.figure1.specs.Figure1.{Location, m1, m2, m31, m32, m4, m5, m6, m71, m72, Node, State, Label, M, q1, r1, can, does, initial, first, others, receive, at≔, asked, counted, released, replied, grants}
use Rattle.figure1.specs.Assertions.{bit, In, asking, weight}
use Rattle.figure1.proofs.Sums.{sum_term, put_here, put_there, put₂_here, put₂_row, put₂_column}
use Rattle.figure1.proofs.Enabled.{can_main, can_take}
use Rattle.figure1.proofs.Errands.{Errand, way, load, total, past, Before, reach, far, floor, bit_same, outside, within}
use Rattle.figure1.proofs.Frame.{Pairs, become, asker, answerer, alone}
use Rattle.figure1.proofs.Counting.{Own, Counting, peer, light, past_next, others_length}

-- of an asker i and an answerer j
pub record Ordered (N i j : ℕ) (a b : Node) (w : Errand) : Type 0 where
  pub value : 0 < length w.chq → first w.chq ≡ a.osn
  pub seen : j < far N a → length w.chq ≡ 0 → a.osn ≤ b.hsn
  pub allowed : j < far N a → length w.chq ≡ 0 → bit w.rd ≡ 0 → bit b.rcs ≡ 1 → Before a.osn i b.osn j
  pub behind : bit w.rd ≡ 1 → Before b.osn j a.osn i
  pub kept : bit w.rd ≡ 1 → floor N b.at b.p ≤ i

abbrev pub Order : ℕ → State → Type 0
Order N σ = Pairs N (Ordered N) σ

-- ---- a pair whose errand stays
-- where the asker changes
keep_asker : {N i j : ℕ} {a a' b : Node} {w : Errand} → Ordered N i j a b w → past (far N a') j ≡ past (far N a) j → a'.osn ≡ a.osn
    → Ordered N i j a' b w
keep_asker r f o = record {
  value = λ u. r.value u ∙ sym o;
  seen = λ u v. omega (arith, r.seen (omega arith) v);
  allowed = λ u v m c. omega (arith, r.allowed (omega arith) v m c);
  behind = λ m. omega (arith, r.behind m);
  kept = r.kept;
}

-- where the asker has nothing under way
quiet : {N i j : ℕ} {a b : Node} {w : Errand} → far N a ≤ j → load w ≡ 0 → Ordered N i j a b w
quiet f z = omega arith

-- where the answerer changes
keep_answerer : {N i j : ℕ} {a b b' : Node} {w : Errand} → Ordered N i j a b w → b.hsn ≤ b'.hsn
    → (a.osn ≤ b.hsn → (bit b.rcs ≡ 1 → Before a.osn i b.osn j) → bit b'.rcs ≡ 1 → Before a.osn i b'.osn j)
    → (floor N b.at b.p ≤ i → (b'.osn ≡ b.osn) × (floor N b'.at b'.p ≤ i)) → Ordered N i j a b' w
keep_answerer r h f g = record {
  value = r.value;
  seen = λ u v. omega (arith, r.seen u v);
  allowed = λ u v m c. f (r.seen u v) (r.allowed u v m) c;
  behind = λ m. omega (arith, r.behind m, (g (r.kept m)).0);
  kept = λ m. (g (r.kept m)).1;
}

-- no mark is left, where the answerer does not ask
answered : {N i j : ℕ} {a b b' : Node} {w w' : Errand} → Ordered N i j a b w → w'.chq ≡ w.chq → bit w'.rd ≡ 0
    → b'.hsn ≡ b.hsn → bit b'.rcs ≡ 0 → Ordered N i j a b' w'
answered r q m h c = record {
  value = rw q r.value;
  seen = rw (q, h) r.seen;
  allowed = λ u k n x. omega arith;
  behind = λ n. omega arith;
  kept = λ n. omega arith;
}

first_alone : (q : List ℕ) (n : ℕ) → length q ≡ 0 → first (q ++ (n ∷ [])) ≡ n
first_alone [] n e = refl
first_alone (x ∷ q) n e = absurd (omega arith)

-- ---- what a request's answerer does
-- hsn after a request
pub higher : (h r : ℕ) → (h ≤ cond (ltb h r) r h) × (r ≤ cond (ltb h r) r h)
higher h r = go (ltb h r) refl
  where
    go : (b : Bool) → ltb h r ≡ b → (h ≤ cond b r h) × (r ≤ cond b r h)
    go true e = omega (arith, ltb-true h r e)
    go false e = omega (arith, ltb-false h r e)

floor_asking : (N : ℕ) (l : Location) (p : ℕ) → bit (asking l) ≡ 1 → floor N l p ≡ 0
floor_asking N l p = go (asking l) _
  where
    go : (b : Bool) (n : ℕ) → bit b ≡ 1 → cond b 0 n ≡ 0
    go true n e = refl
    go false n e = absurd (omega arith)

-- a request that is granted at once by a node that asks, and one that is deferred
grants_before : (s t r : ℕ) (a : Node) → grants s t r a ≡ true → a.rcs ≡ true → Before r t a.osn s
grants_before s t r a h c = go (ltb r a.osn) (eqb r a.osn) (ltb t s) refl refl refl
  where
    go : (l e d : Bool) → ltb r a.osn ≡ l → eqb r a.osn ≡ e → ltb t s ≡ d → Before r t a.osn s
    go true e d L E D = omega (arith, ltb-true r a.osn L)
    go false true true L E D = omega (arith, eqb-true r a.osn E, ltb-true t s D)
    go false true false L E D = omega (arith, ap bit (simp (L, E, D, c) at h))
    go false false d L E D = omega (arith, ap bit (simp (L, E, c) at h))

defers_before : (s t r : ℕ) (a : Node) → grants s t r a ≡ false → Before a.osn s r t
defers_before s t r a h = go (ltb r a.osn) (eqb r a.osn) (ltb t s) refl refl refl
  where
    go : (l e d : Bool) → ltb r a.osn ≡ l → eqb r a.osn ≡ e → ltb t s ≡ d → Before a.osn s r t
    go true e d L E D = omega (arith, ap bit (simp L at h))
    go false true true L E D = omega (arith, ap bit (simp (L, E, D) at h))
    go false true false L E D = omega (arith, ltb-false r a.osn L, ltb-false t s D)
    go false false d L E D = let n : r ≢ a.osn = eqb-false r a.osn E in omega (arith, ltb-false r a.osn L)

defers_asks : (s t r : ℕ) (a : Node) → grants s t r a ≡ false → bit a.rcs ≡ 1
defers_asks s t r a h = go (ltb r a.osn) (eqb r a.osn) (ltb t s) a.rcs refl refl refl refl
  where
    go : (l e d c : Bool) → ltb r a.osn ≡ l → eqb r a.osn ≡ e → ltb t s ≡ d → a.rcs ≡ c → bit c ≡ 1
    go l e d true L E D C = refl
    go true e d false L E D C = omega (arith, ap bit (simp L at h))
    go false true true false L E D C = omega (arith, ap bit (simp (L, E, D) at h))
    go false true false false L E D C = omega (arith, ap bit (simp (L, E, D, C) at h))
    go false false d false L E D C = omega (arith, ap bit (simp (L, E, C) at h))

-- ---- the statements
module _ (N : ℕ) (σ : State) (s : ℕ) (S : In N s) (C : Counting N σ) (O : Order N σ) where
  abbrev a : Node
  a = σ.node s

  own : Own N s a (total N σ s)
  own = C.own s S

  chain : (j : ℕ) → In N j → j ≢ s → weight σ s j ≤ past (far N a) j
  chain j J d = C.chain s j S J (λ z. d (sym z))

  -- s as the asker, and as the answerer
  fore : (j : ℕ) → In N j → j ≢ s → Ordered N s j a (σ.node j) (way σ s j)
  fore j J d = O s j S J (λ z. d (sym z))

  back : (i : ℕ) → In N i → i ≢ s → Ordered N i s (σ.node i) a (way σ i s)
  back i H d = O i s H S d

  -- M goes on to a location that says the same to the others
  goes : (l : Location) → reach N l a.p ≡ far N a → floor N l a.p ≡ floor N a.at a.p → Order N (become N σ s (at≔ l a) σ.chq σ.chp)
  goes l f g =
      alone N σ s (at≔ l a) σ.chq σ.chp (Ordered N) O (λ i j. (refl, refl, λ _. refl))
      (λ j J d. keep_asker (fore j J d) (ap (λ (n : ℕ). past n j) f) refl)
      (λ i H d. keep_answerer (back i H d) (le_refl _) (λ q h c. h c) (λ k. (refl, omega arith)))

  m1_orders : a.at ≡ m1 → Order N (does N σ (M m1 s))
  unfolding does
  m1_orders e = let v = outside N a m1 e in goes m2 (omega arith) (omega arith)

  m2_orders : a.at ≡ m2 → Order N (does N σ (M m2 s))
  unfolding does
  m2_orders e =
      let v = outside N a m2 e in
      alone N σ s (asked N a) σ.chq σ.chp (Ordered N) O (λ i j. (refl, refl, λ _. refl))
      (λ j J d. quiet J.low (omega (arith, chain j J d)))
      (λ i H d. keep_answerer (back i H d) (le_refl _) (λ q h c. omega arith) (λ k. absurd (omega (arith, H.high))))

  m31_orders : a.at ≡ m31 → Order N (does N σ (M m31 s))
  unfolding does
  m31_orders e = go (leb a.p N) refl
    where
      go : (b : Bool) → leb a.p N ≡ b → Order N (does N σ (M m31 s))
      go true t = let v = outside N a m31 e in rw t (goes m32 (omega arith) (omega arith))
      go false t =
          let v = outside N a m31 e in
          let l = leb-false a.p N t in
          rw t (goes m4 (omega (arith, own.p_high)) (omega arith))

  m4_orders : a.at ≡ m4 → Order N (does N σ (M m4 s))
  unfolding does
  m4_orders e = let v = outside N a m4 e in goes m5 (omega arith) (omega arith)

  m5_orders : a.at ≡ m5 → Order N (does N σ (M m5 s))
  unfolding does
  m5_orders e = let v = outside N a m5 e in goes m6 (omega arith) (omega arith)

  m6_orders : a.at ≡ m6 → Order N (does N σ (M m6 s))
  unfolding does
  m6_orders e =
      let v = outside N a m6 e in
      alone N σ s (released a) σ.chq σ.chp (Ordered N) O (λ i j. (refl, refl, λ _. refl))
      (λ j J d. quiet (omega arith) (omega (arith, own, within N s a m6 e, sum_term N j (λ k. weight σ s k) J.low J.high)))
      (λ i H d. keep_answerer (back i H d) (le_refl _) (λ q h c. omega arith) (λ k. (refl, H.low)))

  m71_orders : a.at ≡ m71 → Order N (does N σ (M m71 s))
  unfolding does
  m71_orders e = go (leb a.p N) refl
    where
      go : (b : Bool) → leb a.p N ≡ b → Order N (does N σ (M m71 s))
      go true t = let v = outside N a m71 e in rw t (goes m72 (omega arith) (omega arith))
      go false t =
          let v = outside N a m71 e in
          let l = leb-false a.p N t in
          rw t (goes m1 (omega arith) (omega (arith, own.p_high)))

  m32_orders : a.at ≡ m32 → Order N (does N σ (M m32 s))
  unfolding does
  m32_orders e = go (eqb a.p s) refl
    where
      P : In N a.p
      P = peer own (within N s a m32 e).looping_at

      miss : (j : ℕ) → In N j → j ≢ s → j ≢ a.p → Ordered N s j (counted m31 a) (σ.node j) (way σ s j)
      miss j J d f = keep_asker (fore j J d) (past_next a.p j f ∙ ap (λ (n : ℕ). past n j) (sym (outside N a m32 e).far_at)) refl

      rear : (i : ℕ) → In N i → i ≢ s → Ordered N i s (σ.node i) (counted m31 a) (way σ i s)
      rear i H d = keep_answerer (back i H d) (le_refl _) (λ q h c. h c) (λ k. (refl, omega arith))

      go : (b : Bool) → eqb a.p s ≡ b → Order N (does N σ (M m32 s))
      go true t =
          let q = eqb-true a.p s t in
          rw t (alone N σ s _ _ _ (Ordered N) O (λ i j. (refl, refl, λ _. refl)) (λ j J d. miss j J d (λ z. d (z ∙ q))) rear)
      go false t =
          let d : a.p ≢ s = eqb-false a.p s t in
          let v = outside N a m32 e in
          let z : weight σ s a.p ≡ 0 = omega (arith, chain a.p P d) in
          let x = first_alone (σ.chq s a.p) a.osn (omega arith) in
          rw t (asker N σ s _ _ _ (Ordered N) O a.p d
          (λ i j f. (put₂_row σ.chq s a.p _ i j f, refl, λ _. refl))
          (λ i j f. (put₂_column σ.chq s a.p _ i j f, refl, λ _. refl))
          (rw (put₂_here σ.chq s a.p) (record {
            value = λ u. omega (arith, x);
            seen = rw length-append (λ u k. omega arith);
            allowed = rw length-append (λ u k c y. omega arith);
            behind = λ m. omega arith;
            kept = λ m. omega arith;
          }))
          miss
          rear)

  m72_orders : a.at ≡ m72 → Order N (does N σ (M m72 s))
  unfolding does
  m72_orders e = go (a.rd a.p) refl
    where
      P : In N a.p
      P = peer own (within N s a m72 e).looping_at

      silent : bit a.rcs ≡ 0
      silent = omega (arith, own, outside N a m72 e)

      ahead : {b : Node} → far N b ≡ 0 → b.osn ≡ a.osn → (j : ℕ) → In N j → j ≢ s → Ordered N s j b (σ.node j) (way σ s j)
      ahead f o j J d = let v = outside N a m72 e in keep_asker (fore j J d) (omega arith) o

      miss : {b : Node} → floor N b.at b.p ≡ a.p + 1 → b.osn ≡ a.osn → b.hsn ≡ a.hsn → bit b.rcs ≡ 0
          → (i : ℕ) → In N i → i ≢ s → i ≢ a.p → Ordered N i s (σ.node i) b (way σ i s)
      miss f o h c i H d n =
          let v = outside N a m72 e in
          keep_answerer (back i H d) (omega arith) (λ q g x. absurd (omega arith)) (λ k. (o, omega arith))

      go : (b : Bool) → a.rd a.p ≡ b → Order N (does N σ (M m72 s))
      go true t =
          rw t (answerer N σ s _ _ _ (Ordered N) O a.p
          (λ i j f. (refl, search put₂_column, λ _. put_there a.rd a.p _ i f))
          (λ i j f. (refl, search put₂_row, λ z. absurd (f z)))
          (λ d. answered (back a.p P d) refl (ap bit (put_here a.rd a.p false)) refl silent)
          (miss refl refl refl silent)
          (ahead refl refl))
      go false t =
          rw t (alone N σ s _ _ _ (Ordered N) O (λ i j. (refl, refl, λ _. refl))
          (ahead refl refl)
          (λ i H d. elim (ℕ_discrete i a.p) [
            | yes f ↦ answered (back i H d) refl (rw f (ap bit t)) refl silent
            | no f ↦ miss refl refl refl silent i H d f
          ]))

  -- ---- the takes
  module _ (t : ℕ) (T : In N t) (h : 0 < length (σ.chq t s)) where
    abbrev rq : ℕ
    rq = first (σ.chq t s)

    -- no node sends to itself
    apart : t ≢ s
    apart e = omega (arith, C.self s S, ap (λ (k : ℕ). length (σ.chq k s)) e)

    r : Ordered N t s (σ.node t) a (way σ t s)
    r = back t T apart

    q1_orders : Order N (does N σ (q1 s t))
    unfolding does
    q1_orders = go (grants s t rq a) refl
      where
        up : (a.hsn ≤ cond (ltb a.hsn rq) rq a.hsn) × (rq ≤ cond (ltb a.hsn rq) rq a.hsn)
        up = higher a.hsn rq

        -- the request was all that was under way
        one : weight σ t s ≤ 1
        one = light C t s T S

        rest : length (others (σ.chq t s)) + 1 ≡ length (σ.chq t s)
        rest = others_length (σ.chq t s) h

        go : (b : Bool) → grants s t rq a ≡ b → Order N (does N σ (q1 s t))
        go true e =
            let z = rest in
            let y = one in
            rw e (answerer N σ s _ _ _ (Ordered N) O t
            (λ i j f. (put₂_row σ.chq t s _ i j f, put₂_column σ.chp s t _ j i f, λ _. refl))
            (λ i j f. (put₂_column σ.chq t s _ i j f, put₂_row σ.chp s t _ j i f, λ _. refl))
            (λ d. rw (put₂_here σ.chq t s, put₂_here σ.chp s t) (record {
              value = λ k. omega arith;
              seen = λ k n. omega (arith, r.value h, up.1);
              allowed = λ k n m c. omega (arith, r.value h, grants_before s t rq a e (bit_same a.rcs true c));
              behind = λ m. omega arith;
              kept = λ m. omega arith;
            }))
            (λ i H d f. keep_answerer (back i H d) up.0 (λ q g c. g c) (λ k. (refl, k)))
            (λ j J d. keep_asker (fore j J d) refl refl))
        go false e =
            let z = rest in
            let y = one in
            let c = defers_asks s t rq a e in
            let m = ap bit (put_here a.rd t true) in
            rw e (answerer N σ s _ _ _ (Ordered N) O t
            (λ i j f. (put₂_row σ.chq t s _ i j f, refl, λ _. put_there a.rd t _ i f))
            (λ i j f. (put₂_column σ.chq t s _ i j f, refl, λ q. absurd (f q)))
            (λ d. rw (put₂_here σ.chq t s) (record {
              value = λ k. omega arith;
              seen = λ k n. omega (arith, r.value h, up.1);
              allowed = λ k n x y. omega arith;
              behind = λ x. omega (arith, r.value h, defers_before s t rq a e);
              kept = λ x. omega (arith, floor_asking N a.at a.p (omega (arith, c, own.rcs_is)));
            }))
            (λ i H d f. keep_answerer (back i H d) (omega (arith, up.0)) (λ q g c. g c) (λ k. (refl, k)))
            (λ j J d. keep_asker (fore j J d) refl refl))

  r1_orders : (u : ℕ) → In N u → 0 < length (σ.chp u s) → Order N (does N σ (r1 s u))
  unfolding does
  r1_orders u U h =
      let apart : u ≢ s = λ e. omega (arith, C.self s S, ap (λ (k : ℕ). length (σ.chp k s)) e) in
      let r = fore u U apart in
      asker N σ s (replied a) σ.chq (receive σ.chp u s) (Ordered N) O u apart
      (λ i j f. (refl, put₂_column σ.chp u s _ j i f, λ _. refl))
      (λ i j f. (refl, put₂_row σ.chp u s _ j i f, λ _. refl))
      (record { value = r.value; seen = r.seen; allowed = r.allowed; behind = r.behind; kept = r.kept })
      (λ j J d _. keep_asker (fore j J d) refl refl)
      (λ i H d. keep_answerer (back i H d) (le_refl _) (λ q g c. g c) (λ k. (refl, k)))

-- ---- every transition
main_orders : (N : ℕ) (σ : State) (l : Location) (s : ℕ) → In N s → (σ.node s).at ≡ l → Counting N σ → Order N σ → Order N (does N σ (M l s))
main_orders N σ m1 s S e C O = m1_orders N σ s S C O e
main_orders N σ m2 s S e C O = m2_orders N σ s S C O e
main_orders N σ m31 s S e C O = m31_orders N σ s S C O e
main_orders N σ m32 s S e C O = m32_orders N σ s S C O e
main_orders N σ m4 s S e C O = m4_orders N σ s S C O e
main_orders N σ m5 s S e C O = m5_orders N σ s S C O e
main_orders N σ m6 s S e C O = m6_orders N σ s S C O e
main_orders N σ m71 s S e C O = m71_orders N σ s S C O e
main_orders N σ m72 s S e C O = m72_orders N σ s S C O e

pub orders : (N : ℕ) (σ : State) (x : Label) → can N σ x ≡ true → Counting N σ → Order N σ → Order N (does N σ x)
unfolding can
orders N σ (M l s) e C O = let b = can_main N σ l s e in main_orders N σ l s b.0 b.1 C O
orders N σ (q1 s t) e C O = let b = can_take N s t (σ.chq t s) e in q1_orders N σ s b.0 C O t b.1 b.2
orders N σ (r1 s u) e C O = let b = can_take N s u (σ.chp u s) e in r1_orders N σ s b.0 C O u b.1 b.2

pub order_initial : (N : ℕ) → Order N initial
order_initial N i j H J d = omega arith
