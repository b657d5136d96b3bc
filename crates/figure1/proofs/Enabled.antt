-- What `can` says of each sort of transition.
use mathlib.Core.Path.{◌≡◌, refl, sym, ap, ◌∙◌}
use mathlib.Core.Bool.{true, false≢true, cond, ◌&&◌, and-eq-true_iff}
use mathlib.Core.List.{List, [], ◌∷◌}
use Prim.Native.Nat.{ℕ, ◌<◌}
use native.Mathlib.Omega.{arith}
use lib.ListN.{length}
use lib.Dec.{eqb, leb}
use borrow.Author.Tests.{leb-true, eqb-true}
use Rattle.figure1.specs.Figure1.{Location, m1, m2, m31, m32, m4, m5, m6, m71, m72, State, M, can, number, is_node, passes, some}
use Rattle.figure1.specs.Assertions.{In, is}

pub a_node : (N s : ℕ) → is_node N s ≡ true → In N s
a_node N s e = let b = (and-eq-true_iff (leb 1 s) _).0 e in record { low = leb-true 1 s b.0; high = leb-true s N b.1 }

-- ---- locations have different numbers
abbrev located : ℕ → Location
located n =
    cond (eqb n 1) m1 (cond (eqb n 2) m2 (cond (eqb n 31) m31 (cond (eqb n 32) m32
    (cond (eqb n 4) m4 (cond (eqb n 5) m5 (cond (eqb n 6) m6 (cond (eqb n 71) m71 m72)))))))

located_number : (l : Location) → located (number l) ≡ l
located_number m1 = refl
located_number m2 = refl
located_number m31 = refl
located_number m32 = refl
located_number m4 = refl
located_number m5 = refl
located_number m6 = refl
located_number m71 = refl
located_number m72 = refl

pub is_location : (k l : Location) → is k l ≡ true → k ≡ l
is_location k l e = sym (located_number k) ∙ ap located (eqb-true (number k) (number l) e) ∙ located_number l

some_length : (q : List ℕ) → some q ≡ true → 0 < length q
some_length [] e = absurd (false≢true e)
some_length (x ∷ q) e = omega arith

pub can_main : (N : ℕ) (σ : State) (l : Location) (s : ℕ) → can N σ (M l s) ≡ true
    → In N s × ((σ.node s).at ≡ l) × (passes l (σ.node s) ≡ true)
unfolding can
can_main N σ l s e =
    let b = (and-eq-true_iff (is_node N s) _).0 e in
    let c = (and-eq-true_iff (is (σ.node s).at l) _).0 b.1 in
    (a_node N s b.0, is_location (σ.node s).at l c.0, c.1)

pub can_take : (N s t : ℕ) (q : List ℕ) → (is_node N s && (is_node N t && some q)) ≡ true → In N s × In N t × (0 < length q)
can_take N s t q e =
    let b = (and-eq-true_iff (is_node N s) _).0 e in
    let c = (and-eq-true_iff (is_node N t) _).0 b.1 in
    (a_node N s b.0, a_node N t c.0, some_length q c.1)
