-- A walk along a list that counts: def s xs, or f s xs, is about the elements xs, the first of them number s.
use Rattle.std.specs.Prelude.{ℕ, ◌+◌, ◌≡◌, ◌≤◌, ◌<◌, Bool, true, ◌&&◌, List, [], ◌∷◌, length, drop, slice_index_or}

-- at index i: what is said of the elements from there on is what is said of all
abbrev pub FromHere : {X R : Type 0} → (ℕ → List X → R) → List X → ℕ → Type 0
FromHere def t i = def (i + 1) (drop i t) ≡ def 1 t

-- a test of a list that puts another to each element, with its number
pub record Scan {A : Type 0} (g : ℕ → A → Bool) (f : ℕ → List A → Bool) : Type 0 where
  pub none : (s : ℕ) → f s [] ≡ true
  pub some : (s : ℕ) (x : A) (xs : List A) → f s (x ∷ xs) ≡ (g s x && f (s + 1) xs)

-- the laws of a loop by index: that fact at the next index, and past the last one
pub record LoopLaws (X R : Type 0) : Type 0 where
  pub one_on : (def : ℕ → List X → R) (t : List X) (i : ℕ) (more : ℕ → X → R → R)
      → ((s : ℕ) (x : X) (xs : List X) → def s (x ∷ xs) ≡ more s x (def (s + 1) xs)) → (d : X) → i < length t → FromHere def t i
      → more (i + 1) (slice_index_or t i d) (def (i + 1 + 1) (drop (i + 1) t)) ≡ def 1 t
  pub at_end : (def : ℕ → List X → R) (t : List X) (i : ℕ) → length t ≤ i → FromHere def t i → def (i + 1) [] ≡ def 1 t

-- and where it is of such a test: at an element whose own test is known, and past the last one
pub record ScanLaws (X : Type 0) : Type 0 where
  pub scan_on : {g : ℕ → X → Bool} {f : ℕ → List X → Bool} → Scan g f → (d : X) (t : List X) (i : ℕ) (fits : Bool) → i < length t
      → g (i + 1) (slice_index_or t i d) ≡ fits → FromHere f t i → (fits && f (i + 1 + 1) (drop (i + 1) t)) ≡ f 1 t
  pub scan_end : {g : ℕ → X → Bool} {f : ℕ → List X → Bool} → Scan g f → (t : List X) (i : ℕ) → length t ≤ i → FromHere f t i → true ≡ f 1 t
