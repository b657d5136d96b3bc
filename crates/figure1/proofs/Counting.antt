-- The counting part of the invariant: ranges, the message chain and the replies due. It speaks of no number that a request carries, and is inductive alone.
use mathlib.Core.Path.{◌≡◌, refl, sym, ap, ◌∙◌}
use mathlib.Core.Logic.{◌≢◌}
use mathlib.Core.Bool.{Bool, true, false}
use mathlib.Core.List.{List, [], ◌∷◌, ◌++◌}
use Prim.Native.Nat.{ℕ, ◌+◌, ◌-◌, ◌≤◌, ◌<◌}
use native.Mathlib.Omega.{arith}
use native.Mathlib.Decide.{ℕ_discrete}
use lib.ListN.{length, length-append}
use lib.Dec.{leb, eqb}
use borrow.Author.Tests.{leb-true, leb-false, eqb-true, eqb-false}
use Rattle.figure1.specs.Figure1.{Location, m1, m2, m31, m32, m4, m5, m6, m71, m72, Node, State, Label, M, q1, r1, can, does, passes, initial, first, others, receive, at≔, asked, counted, released, replied, grants}
use Rattle.figure1.specs.Assertions.{bit, In, asking, looping, weight}
use Rattle.figure1.proofs.Sums.{sum_equal, sum_term, sum_none, put_here, put_there, put₂_here, put₂_row, put₂_column}
use Rattle.figure1.proofs.Errands.{load, total, past, reach, far, left, most, bit_same, outside, within}
use Rattle.figure1.proofs.Enabled.{can_main, can_take}
use Rattle.figure1.proofs.Frame.{OfPair, Pairs, become, Stays, asker, answerer, asker_total, row_total, asker_self, answerer_weight}

-- of node i, with T the weight of its errands
pub record Own (N i : ℕ) (a : Node) (T : ℕ) : Type 0 where
  pub p_low : 1 ≤ a.p
  pub p_high : a.p + bit (looping a.at) ≤ N + 1
  pub rcs_is : bit a.rcs ≡ bit (asking a.at)
  pub osn_low : bit a.rcs ≤ a.osn
  pub c_high : a.c ≤ most N a.at
  pub c_is : a.c ≡ T + left N i a.at a.p

-- of an asker i and an answerer j: at most one thing is under way, and only once the request has gone out
abbrev Chain : ℕ → OfPair
Chain N i j a b w = load w ≤ past (far N a) j

pub record Counting (N : ℕ) (σ : State) : Type 0 where
  pub own : (i : ℕ) → In N i → Own N i (σ.node i) (total N σ i)
  pub chain : Pairs N (Chain N) σ
  pub self : (i : ℕ) → In N i → weight σ i i ≡ 0

-- inside either loop p is a node
pub peer : {N i T : ℕ} {a : Node} → Own N i a T → bit (looping a.at) ≡ 1 → In N a.p
peer o e = omega (arith, o)

-- between any two at most one thing is under way
pub light : {N : ℕ} {σ : State} → Counting N σ → (i j : ℕ) → In N i → In N j → weight σ i j ≤ 1
light {σ = σ} C i j H J = elim (ℕ_discrete i j) [
  | yes e ↦ let z : weight σ i j ≡ 0 = rw (← e) (C.self i H) in omega arith
  | no d ↦ omega (arith, C.chain i j H J d)
]

-- ---- what a transition of node s leaves alone
module _ (N : ℕ) (σ : State) (s : ℕ) (S : In N s) (C : Counting N σ) (a : Node) (requests replies : ℕ → ℕ → List ℕ) where
  abbrev τ : State
  τ = become N σ s a requests replies

  abbrev Kept : ℕ → ℕ → Type 0
  Kept = Stays N σ s a requests replies

  all_own : Own N s a (total N τ s) → ((i : ℕ) → i ≢ s → total N τ i ≡ total N σ i) → (i : ℕ) → In N i → Own N i (τ.node i) (total N τ i)
  all_own mine sums i H = elim (ℕ_discrete i s) [
    | yes e ↦ rw (e, put_here σ.node s a) mine
    | no d ↦ rw (put_there σ.node s a i d, sums i d) (C.own i H)
  ]

  -- s's errand at t changes
  asker_counts : (t : ℕ) (T : In N t) (apart : t ≢ s) (rows : (i j : ℕ) → i ≢ s → Kept i j) (columns : (i j : ℕ) → j ≢ t → Kept i j)
      (mine : (n : ℕ) → n + weight σ s t ≡ total N σ s + load (record { chq = requests s t; rd = (σ.node t).rd s; chp = replies t s }) → Own N s a n)
      (hit : load (record { chq = requests s t; rd = (σ.node t).rd s; chp = replies t s }) ≤ past (far N a) t)
      (miss : (j : ℕ) → In N j → j ≢ s → j ≢ t → weight σ s j ≤ past (far N a) j)
      → Counting N τ
  asker_counts t T apart rows columns mine hit miss = record {
    own = all_own (mine _ (asker_total N σ s a requests replies t T apart columns)) (λ i d. row_total N σ s a requests replies i (λ k. rows i k d));
    chain = asker N σ s a requests replies (Chain N) C.chain t apart rows columns hit miss (λ i H d. C.chain i s H S d);
    self = λ i H. asker_self N σ s a requests replies t apart rows columns i ∙ C.self i H;
  }

  -- t's errand at s changes, and keeps its weight
  answerer_counts : (t : ℕ) (T : In N t) (rows : (i j : ℕ) → i ≢ t → Kept i j) (columns : (i j : ℕ) → j ≢ s → Kept i j)
      (same : load (record { chq = requests t s; rd = a.rd t; chp = replies s t }) ≡ weight σ t s)
      (mine : Own N s a (total N σ s))
      (fore : (j : ℕ) → In N j → j ≢ s → weight σ s j ≤ past (far N a) j)
      → Counting N τ
  answerer_counts t T rows columns same mine fore =
      let alike = answerer_weight N σ s a requests replies t rows columns same in
      record {
        own = all_own (rw (sum_equal N _ _ (λ k _. alike s k)) mine) (λ i d. sum_equal N _ _ (λ k _. alike i k));
        chain = answerer N σ s a requests replies (Chain N) C.chain t rows columns (λ d. rw same (C.chain t s T S d)) (λ i H d _. C.chain i s H S d) fore;
        self = λ i H. alike i i ∙ C.self i H;
      }

  -- no errand changes
  alone_counts : (all : (i j : ℕ) → Kept i j) (mine : Own N s a (total N σ s))
      (fore : (j : ℕ) → In N j → j ≢ s → weight σ s j ≤ past (far N a) j)
      → Counting N τ
  alone_counts all mine fore =
      answerer_counts s S (λ i j _. all i j) (λ i j _. all i j) (λ k. load (record { chq = (all s s).0 k; rd = (all s s).2 refl k; chp = (all s s).1 k })) mine fore

-- ---- the statements
pub past_next : (p j : ℕ) → j ≢ p → past (p + 1) j ≡ past p j
past_next p j d = omega arith

left_next : (N p s : ℕ) → p ≢ s → p ≤ N → s ≤ N → (N + past p s) - p ≡ ((N + past (p + 1) s) - (p + 1)) + 1
left_next N p s d h k = rw (past_next p s (λ e. d (sym e))) (omega arith)

left_self : (N p s : ℕ) → p ≡ s → p ≤ N → (N + past p s) - p ≡ (N + past (p + 1) s) - (p + 1)
left_self N p s e h = rw e (omega arith)

pub others_length : (q : List ℕ) → 0 < length q → length (others q) + 1 ≡ length q
others_length [] h = omega arith
others_length (x ∷ q) h = omega arith

module _ (N : ℕ) (σ : State) (s : ℕ) (S : In N s) (C : Counting N σ) where
  abbrev a : Node
  a = σ.node s

  own : Own N s a (total N σ s)
  own = C.own s S

  fore : (j : ℕ) → In N j → j ≢ s → weight σ s j ≤ past (far N a) j
  fore j J d = C.chain s j S J (λ z. d (sym z))

  -- M goes on to a location that says the same of what has gone out
  goes : (l : Location) → reach N l a.p ≡ far N a → Own N s (at≔ l a) (total N σ s) → Counting N (become N σ s (at≔ l a) σ.chq σ.chp)
  goes l f mine = alone_counts N σ s S C (at≔ l a) σ.chq σ.chp (λ i j. (refl, refl, λ _. refl)) mine (λ j J d. omega (arith, fore j J d))

  m1_counts : a.at ≡ m1 → Counting N (does N σ (M m1 s))
  unfolding does
  m1_counts e = let v = outside N a m1 e in goes m2 (omega arith) (omega (arith, own, within N s a m1 e))

  m2_counts : a.at ≡ m2 → Counting N (does N σ (M m2 s))
  unfolding does
  m2_counts e =
      let v = outside N a m2 e in
      alone_counts N σ s S C (asked N a) σ.chq σ.chp (λ i j. (refl, refl, λ _. refl)) (omega (arith, own, within N s a m2 e))
      (λ j J d. omega (arith, fore j J d))

  m31_counts : a.at ≡ m31 → Counting N (does N σ (M m31 s))
  unfolding does
  m31_counts e = go (leb a.p N) refl
    where
      go : (b : Bool) → leb a.p N ≡ b → Counting N (does N σ (M m31 s))
      go true t = let v = outside N a m31 e in rw t (goes m32 (omega arith) (omega (arith, own, within N s a m31 e, leb-true a.p N t)))
      go false t =
          let v = outside N a m31 e in
          let l = leb-false a.p N t in
          rw t (goes m4 (omega (arith, own.p_high)) (omega (arith, own, within N s a m31 e)))

  m4_counts : a.at ≡ m4 → a.c ≡ 0 → Counting N (does N σ (M m4 s))
  unfolding does
  m4_counts e z = let v = outside N a m4 e in goes m5 (omega arith) (omega (arith, own, within N s a m4 e))

  m5_counts : a.at ≡ m5 → Counting N (does N σ (M m5 s))
  unfolding does
  m5_counts e = let v = outside N a m5 e in goes m6 (omega arith) (omega (arith, own, within N s a m5 e))

  m6_counts : a.at ≡ m6 → Counting N (does N σ (M m6 s))
  unfolding does
  m6_counts e =
      let v = outside N a m6 e in
      alone_counts N σ s S C (released a) σ.chq σ.chp (λ i j. (refl, refl, λ _. bit_same _ _ (omega arith))) (omega (arith, own, within N s a m6 e))
      (λ j J d. omega (arith, own, within N s a m6 e, sum_term N j (λ k. weight σ s k) J.low J.high))

  m71_counts : a.at ≡ m71 → Counting N (does N σ (M m71 s))
  unfolding does
  m71_counts e = go (leb a.p N) refl
    where
      go : (b : Bool) → leb a.p N ≡ b → Counting N (does N σ (M m71 s))
      go true t = let v = outside N a m71 e in rw t (goes m72 (omega arith) (omega (arith, own, within N s a m71 e, leb-true a.p N t)))
      go false t = let v = outside N a m71 e in rw t (goes m1 (omega arith) (omega (arith, own, within N s a m71 e)))

  m32_counts : a.at ≡ m32 → Counting N (does N σ (M m32 s))
  unfolding does
  m32_counts e = go (eqb a.p s) refl
    where
      P : In N a.p
      P = peer own (within N s a m32 e).looping_at

      miss : (j : ℕ) → In N j → j ≢ s → j ≢ a.p → weight σ s j ≤ past (far N (counted m31 a)) j
      miss j J d f = rw (past_next a.p j f, ← (outside N a m32 e).far_at) (fore j J d)

      go : (b : Bool) → eqb a.p s ≡ b → Counting N (does N σ (M m32 s))
      go true t =
          let q = eqb-true a.p s t in
          rw t (alone_counts N σ s S C _ _ _ (λ i j. (refl, refl, λ _. refl))
          (omega (arith, own, within N s a m32 e, outside N a m32 e, left_self N a.p s q P.high))
          (λ j J d. miss j J d (λ z. d (z ∙ q))))
      go false t =
          let d : a.p ≢ s = eqb-false a.p s t in
          let v = outside N a m32 e in
          let z : weight σ s a.p ≡ 0 = omega (arith, fore a.p P d) in
          rw t (asker_counts N σ s S C _ _ _ a.p P d
          (λ i j f. (put₂_row σ.chq s a.p _ i j f, refl, λ _. refl))
          (λ i j f. (put₂_column σ.chq s a.p _ i j f, refl, λ _. refl))
          (rw (put₂_here σ.chq s a.p, length-append) (λ n y. omega (arith, own, within N s a m32 e, left_next N a.p s d P.high S.high)))
          (rw (put₂_here σ.chq s a.p, length-append) (omega arith))
          miss)

  m72_counts : a.at ≡ m72 → Counting N (does N σ (M m72 s))
  unfolding does
  m72_counts e = go (a.rd a.p) refl
    where
      P : In N a.p
      P = peer own (within N s a m72 e).looping_at

      ahead : (j : ℕ) → In N j → j ≢ s → weight σ s j ≤ past 0 j
      ahead j J d = omega (arith, fore j J d, outside N a m72 e)

      go : (b : Bool) → a.rd a.p ≡ b → Counting N (does N σ (M m72 s))
      go true t =
          let l = length-append (σ.chp s a.p) (1 ∷ []) in
          let k = ap length (put₂_here σ.chp s a.p (σ.chp s a.p ++ (1 ∷ []))) in
          let m = ap bit t in
          let n = ap bit (put_here a.rd a.p false) in
          rw t (answerer_counts N σ s S C _ _ _ a.p P
          (λ i j f. (refl, search put₂_column, λ _. put_there a.rd a.p _ i f))
          (λ i j f. (refl, search put₂_row, λ z. absurd (f z)))
          (omega arith)
          (omega (arith, own, within N s a m72 e, outside N a m72 e))
          ahead)
      go false t =
          rw t (alone_counts N σ s S C _ _ _ (λ i j. (refl, refl, λ _. refl)) (omega (arith, own, within N s a m72 e, outside N a m72 e)) ahead)

  -- ---- the takes
  q1_counts : (t : ℕ) → In N t → 0 < length (σ.chq t s) → Counting N (does N σ (q1 s t))
  unfolding does
  q1_counts t T h = go (grants s t (first (σ.chq t s)) a) refl
    where
      go : (b : Bool) → grants s t (first (σ.chq t s)) a ≡ b → Counting N (does N σ (q1 s t))
      go true e =
          let l = length-append (σ.chp s t) (1 ∷ []) in
          let z = others_length (σ.chq t s) h in
          rw e (answerer_counts N σ s S C _ _ _ t T
          (λ i j f. (put₂_row σ.chq t s _ i j f, put₂_column σ.chp s t _ j i f, λ _. refl))
          (λ i j f. (put₂_column σ.chq t s _ i j f, put₂_row σ.chp s t _ j i f, λ _. refl))
          (rw (put₂_here σ.chq t s, put₂_here σ.chp s t) (omega arith))
          (omega (arith, own))
          (λ j J d. fore j J d))
      go false e =
          let z = others_length (σ.chq t s) h in
          let m = ap bit (put_here a.rd t true) in
          let one = light C t s T S in
          rw e (answerer_counts N σ s S C _ _ _ t T
          (λ i j f. (put₂_row σ.chq t s _ i j f, refl, λ _. put_there a.rd t _ i f))
          (λ i j f. (put₂_column σ.chq t s _ i j f, refl, λ q. absurd (f q)))
          (rw (put₂_here σ.chq t s) (omega arith))
          (omega (arith, own))
          (λ j J d. fore j J d))

  r1_counts : (u : ℕ) → In N u → 0 < length (σ.chp u s) → Counting N (does N σ (r1 s u))
  unfolding does
  r1_counts u U h =
      let apart : u ≢ s = λ e. omega (arith, C.self s S, ap (λ (k : ℕ). length (σ.chp k s)) e) in
      let z = others_length (σ.chp u s) h in
      asker_counts N σ s S C (replied a) σ.chq (receive σ.chp u s) u U apart
      (λ i j f. (refl, put₂_column σ.chp u s _ j i f, λ _. refl))
      (λ i j f. (refl, put₂_row σ.chp u s _ j i f, λ _. refl))
      (rw (put₂_here σ.chp u s) (λ n q. omega (arith, own)))
      (rw (put₂_here σ.chp u s) (omega (arith, fore u U apart)))
      (λ j J d _. fore j J d)

-- ---- every transition
main_counts : (N : ℕ) (σ : State) (l : Location) (s : ℕ) → In N s → (σ.node s).at ≡ l → passes l (σ.node s) ≡ true → Counting N σ → Counting N (does N σ (M l s))
main_counts N σ m1 s S e p C = m1_counts N σ s S C e
main_counts N σ m2 s S e p C = m2_counts N σ s S C e
main_counts N σ m31 s S e p C = m31_counts N σ s S C e
main_counts N σ m32 s S e p C = m32_counts N σ s S C e
main_counts N σ m4 s S e p C = m4_counts N σ s S C e (omega (arith, eqb-true))
main_counts N σ m5 s S e p C = m5_counts N σ s S C e
main_counts N σ m6 s S e p C = m6_counts N σ s S C e
main_counts N σ m71 s S e p C = m71_counts N σ s S C e
main_counts N σ m72 s S e p C = m72_counts N σ s S C e

pub counts : (N : ℕ) (σ : State) (x : Label) → can N σ x ≡ true → Counting N σ → Counting N (does N σ x)
unfolding can
counts N σ (M l s) e C = let b = can_main N σ l s e in main_counts N σ l s b.0 b.1 b.2 C
counts N σ (q1 s t) e C = let b = can_take N s t (σ.chq t s) e in q1_counts N σ s b.0 C t b.1 b.2
counts N σ (r1 s u) e C = let b = can_take N s u (σ.chp u s) e in r1_counts N σ s b.0 C u b.1 b.2

pub counting_initial : (N : ℕ) → Counting N initial
counting_initial N = record { own = λ i H. omega (arith, sum_none N); chain = λ i j H J d. omega arith; self = λ i H. refl }
