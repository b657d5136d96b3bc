-- The paper's assertions (source 003, sections 3 and 5): their words, said of a state of Figure 1, and the claim that they hold in every state that the program reaches.
use Rattle.std.specs.Prelude.{◌≡◌, ◌⊎◌, Bool, true, false, cond, not, ◌&&◌, ◌||◌, List, [], ◌∷◌, ℕ, zero, suc, ◌+◌, ◌-◌, ◌≤◌, ◌<◌, length, nat_eq, nat_lt}
use Rattle.figure1.specs.Figure1.{Location, m1, m2, m31, m32, m4, m5, m6, m71, m72, State, initial, Label, M, q1, r1, number, first, can, does, Run}

-- the paper counts an assertion that holds as 1, and one that fails as 0
abbrev pub bit : Bool → ℕ
bit true = 1
bit false = 0

-- i : [1..N], as a fact, where `is_node` is the test
pub record In (N i : ℕ) : Type 0 where
  pub low : 1 ≤ i
  pub high : i ≤ N

-- f 1 + .. + f n
unfoldable pub sum : ℕ → (ℕ → ℕ) → ℕ
sum zero f = 0
sum (suc n) f = sum n f + f (suc n)

-- l is the location k
abbrev pub is : Location → Location → Bool
is l k = nat_eq (number l) (number k)

-- m_31,32
abbrev pub sending : Location → Bool
sending l = is l m31 || is l m32

-- m_31,32,4,5,6
abbrev pub asking : Location → Bool
asking l = sending l || (is l m4 || (is l m5 || is l m6))

-- m_32,72: inside a loop
abbrev pub looping : Location → Bool
looping l = is l m32 || is l m72

-- m_5,6: entered, with rcs still true
abbrev pub entered : Location → Bool
entered l = is l m5 || is l m6

-- |chq[i, j]| + rd[j, i] + |chp[j, i]|
abbrev pub weight : State → ℕ → ℕ → ℕ
weight σ i j = length (σ.chq i j) + bit ((σ.node j).rd i) + length (σ.chp j i)

-- m_31,32[i] · (N − p[i] + (p[i] > i)), in the order in which no difference falls below 0
abbrev pub unsent : ℕ → State → ℕ → ℕ
unsent N σ i = cond (sending (σ.node i).at) ((N + bit (nat_lt i (σ.node i).p)) - (σ.node i).p) 0

-- "requested(i, j) : i ≠ j ∧ (m_4,5[i] ∨ (m_31,32[i] ∧ p[i] > j))"
abbrev pub requested : State → ℕ → ℕ → Bool
requested σ i j =
    not (nat_eq i j) && ((is (σ.node i).at m4 || is (σ.node i).at m5) || (sending (σ.node i).at && nat_lt j (σ.node i).p))

-- "request_received(i, j) : requested(i, j) ∧ |chq[i, j]| = 0"
abbrev pub request_received : State → ℕ → ℕ → Bool
request_received σ i j = requested σ i j && nat_eq (length (σ.chq i j)) 0

-- "granted(i, j) : request_received(i, j) ∧ ¬rd[j, i]"
abbrev pub granted : State → ℕ → ℕ → Bool
granted σ i j = request_received σ i j && not ((σ.node j).rd i)

-- (m, i) ≺ (n, j): by the numbers, and by the nodes where those are equal
abbrev pub Lower : ℕ → ℕ → ℕ → ℕ → Type 0
Lower m i n j = (m < n) ⊎ ((m ≡ n) × (i < j))

-- node y passes m4
abbrev pub enters : ℕ → Label → Bool
enters y (M l s) = nat_eq s y && is l m4
enters y (q1 s t) = false
enters y (r1 s u) = false

-- how often it does in a list of transitions
unfoldable pub entries : ℕ → List Label → ℕ
entries y [] = 0
entries y (x ∷ xs) = bit (enters y x) + entries y xs

-- ---- the assertions of a state, by the paper's names
pub record Assertions (N : ℕ) (σ : State) : Type 0 where
  -- "1 ≤ p[i] ≤ N + 1 − m_32,72[i]"
  pub p_range : (i : ℕ) → In N i → (1 ≤ (σ.node i).p) × ((σ.node i).p + bit (looping (σ.node i).at) ≤ N + 1)
  -- "m_31,32,4,5,6[i] ↔ rcs[i]"
  pub rcs_range : (i : ℕ) → In N i → (σ.node i).rcs ≡ asking (σ.node i).at
  -- "(m_31,32[i] ∧ p[i] > j) + m_4[i] ≥ |chq[i, j]| + rd[j, i] + |chp[j, i]|"
  pub message_chain : (i j : ℕ) → In N i → In N j
      → weight σ i j ≤ bit (sending (σ.node i).at && nat_lt j (σ.node i).p) + bit (is (σ.node i).at m4)
  -- "c[i] = Σ_k |chq[i, k]| + rd[k, i] + |chp[k, i]| + m_31,32[i] · (N − p[i] + (p[i] > i))"
  pub c_range : (i : ℕ) → In N i → (σ.node i).c ≡ sum N (λ k. weight σ i k) + unsent N σ i
  -- "|chq[i, j]| > 0 → head(chq[i, j]) = osn[i]"
  pub request_in_channel : (i j : ℕ) → In N i → In N j → 0 < length (σ.chq i j) → first (σ.chq i j) ≡ (σ.node i).osn
  -- "request_received(i, j) → osn[i] ≤ hsn[j]"
  pub hsn_highest : (i j : ℕ) → In N i → In N j → request_received σ i j ≡ true → (σ.node i).osn ≤ (σ.node j).hsn
  -- "granted(i, j) → ¬rcs[j] ∨ (osn[i], i) ≺ (osn[j], j)"
  pub permitted : (i j : ℕ) → In N i → In N j → granted σ i j ≡ true
      → ((σ.node j).rcs ≡ false) ⊎ Lower (σ.node i).osn i (σ.node j).osn j
  -- "m_5[i] ∧ m_5[j] → i = j"
  pub excl : (i j : ℕ) → In N i → In N j → (σ.node i).at ≡ m5 → (σ.node j).at ≡ m5 → i ≡ j
  -- "rd[i, j] → (osn[i], i) ≺ (osn[j], j)"
  pub rd_osn : (i j : ℕ) → In N i → In N j → (σ.node i).rd j ≡ true → Lower (σ.node i).osn i (σ.node j).osn j
  -- "m_1,2[i] ∨ (m_71,72[i] ∧ p[i] > j) → ¬rd[i, j]"
  pub not_rd_range : (i j : ℕ) → In N i → In N j
      → ((is (σ.node i).at m1 || is (σ.node i).at m2) || ((is (σ.node i).at m71 || is (σ.node i).at m72) && nat_lt j (σ.node i).p)) ≡ true
      → (σ.node i).rd j ≡ false

-- ---- what is claimed
-- the assertions hold in every state that a run from the start reaches, for every N
abbrev pub AssertionsHold : Type 0
AssertionsHold = (N : ℕ) (ls : List Label) (σ : State) → Run N initial ls σ → Assertions N σ

-- demand 3, "Once Y has taken in Z's request of a round, Y enters at most once before Z enters in that round", said of the program
abbrev pub OvertakesOnce : Type 0
OvertakesOnce =
    (N : ℕ) (ls ks : List Label) (σ τ : State) (y z : ℕ) → Run N initial ls σ → can N σ (q1 y z) ≡ true → Run N (does N σ (q1 y z)) ks τ
    → entries z ks ≡ 0 → entries y ks ≤ 1
