-- Sums over 1 to n, and what `put` and `put₂` leave at each place.
use mathlib.Core.Path.{◌≡◌, refl}
use mathlib.Core.Logic.{◌≢◌}
use mathlib.Core.Bool.{Bool, true, false, cond, ◌&&◌}
use Prim.Native.Nat.{ℕ, zero, suc, ◌+◌, ◌≤◌}
use native.Mathlib.Omega.{arith}
use native.Mathlib.Decide.{ℕ_discrete}
use borrow.Author.Tests.{eq-eqb, ne_eqb}
use lib.Dec.{eqb}
use Rattle.figure1.specs.Figure1.{put, put₂}
use Rattle.figure1.specs.Assertions.{sum}

pub sum_equal : (n : ℕ) (f g : ℕ → ℕ) → ((k : ℕ) → k ≤ n → f k ≡ g k) → sum n f ≡ sum n g
unfolding sum
sum_equal zero f g h = refl
sum_equal (suc n) f g h = omega (arith, sum_equal n f g (λ k l. h k (omega arith)), h (suc n) (omega arith))

-- two functions that differ at t alone
pub sum_differ : (n t : ℕ) (f g : ℕ → ℕ) → 1 ≤ t → t ≤ n → ((k : ℕ) → k ≢ t → f k ≡ g k) → sum n f + g t ≡ sum n g + f t
unfolding sum
sum_differ zero t f g l u h = omega arith
sum_differ (suc n) t f g l u h =
    elim (ℕ_discrete t (suc n)) [
      | yes e ↦ rw e (omega (arith, sum_equal n f g (λ k b. h k (omega arith))))
      | no d ↦ omega (arith, sum_differ n t f g l (omega arith) h, h (suc n) (omega arith))
    ]

pub sum_term : (n t : ℕ) (f : ℕ → ℕ) → 1 ≤ t → t ≤ n → f t ≤ sum n f
unfolding sum
sum_term zero t f l u = omega arith
sum_term (suc n) t f l u =
    elim (ℕ_discrete t (suc n)) [ yes e ↦ rw e (omega arith) | no d ↦ omega (arith, sum_term n t f l (omega arith)) ]

pub sum_none : (n : ℕ) → sum n (λ k. 0) ≡ 0
unfolding sum
sum_none zero = refl
sum_none (suc n) = omega (arith, sum_none n)

module _ {A : Type 0} where
  pub put_here : (f : ℕ → A) (s : ℕ) (v : A) → put f s v s ≡ v
  unfolding put
  put_here f s v = rw (eq-eqb s s refl)

  pub put_there : (f : ℕ → A) (s : ℕ) (v : A) (k : ℕ) → k ≢ s → put f s v k ≡ f k
  unfolding put
  put_there f s v k d = rw (ne_eqb k s d)

  pub put₂_here : (f : ℕ → ℕ → A) (s t : ℕ) (v : A) → put₂ f s t v s t ≡ v
  unfolding put₂
  put₂_here f s t v = rw (eq-eqb s s refl, eq-eqb t t refl)

  pub put₂_row : (f : ℕ → ℕ → A) (s t : ℕ) (v : A) (i j : ℕ) → i ≢ s → put₂ f s t v i j ≡ f i j
  unfolding put₂
  put₂_row f s t v i j d = rw (ne_eqb i s d)

  pub put₂_column : (f : ℕ → ℕ → A) (s t : ℕ) (v : A) (i j : ℕ) → j ≢ t → put₂ f s t v i j ≡ f i j
  unfolding put₂
  put₂_column f s t v i j d = rw (ne_eqb j t d) (go (eqb i s))
    where
      go : (b : Bool) → cond (b && false) v (f i j) ≡ f i j
      go true = refl
      go false = refl
