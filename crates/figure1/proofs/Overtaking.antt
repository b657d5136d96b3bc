-- Once node y has taken z's request, y enters at most once before z does.
use mathlib.Core.Path.{◌≡◌, refl, sym, ap, ◌∙◌}
use mathlib.Core.Logic.{◌≢◌, ◌⊎◌, inl, inr, ⊎_elim}
use mathlib.Core.Bool.{Bool, true, false, cond, false≢true, ◌&&◌, ◌||◌, and-eq-true_iff}
use mathlib.Core.List.{List}
use Prim.Native.Nat.{ℕ, ◌+◌, ◌≤◌, ◌<◌}
use native.Mathlib.Nat.{le_refl}
use native.Mathlib.Omega.{arith}
use native.Mathlib.Decide.{ℕ_discrete}
use lib.Dec.{leb, eqb}
use borrow.Author.Tests.{eqb-true, eq-eqb}
use Rattle.figure1.specs.Figure1.{Location, m1, m2, m31, m32, m4, m5, m6, m71, m72, Node, State, Label, M, q1, r1, can, does, main, passes, put, first, at≔, rd≔, counted, grants, Run, stop, move}
use Rattle.figure1.specs.Assertions.{bit, In, is, sending, asking, weight, enters, entries, OvertakesOnce}
use Rattle.figure1.proofs.Sums.{sum_term, put_here, put_there}
use Rattle.figure1.proofs.Enabled.{is_location, can_main, can_take}
use Rattle.figure1.proofs.Errands.{far, outside}
use Rattle.figure1.proofs.Counting.{Own, Counting, counts}
use Rattle.figure1.proofs.Order.{Order, orders, higher}
use Rattle.figure1.proofs.Reached.{counting, order}
use Rattle.figure1.proofs.Theorems.{chain}

-- m_31,32,4: asked, and not yet entered
abbrev waits : Location → Bool
waits l = sending l || is l m4

-- what a transition that is no entry makes of one node
record Moved (N : ℕ) (entry : Bool) (a b : Node) : Type 0 where
  stays : entry ≡ false → bit (waits a.at) ≡ 1 → (bit (waits b.at) ≡ 1) × (far N a ≤ far N b) × (b.osn ≡ a.osn)
  rises : a.hsn ≤ b.hsn
  fresh : bit (waits b.at) ≡ 1 → ((bit (waits a.at) ≡ 1) × (b.osn ≡ a.osn)) ⊎ (a.hsn < b.osn)

-- a node that stays where it is
still : {N : ℕ} {entry : Bool} {a b : Node} → b.at ≡ a.at → b.p ≡ a.p → b.osn ≡ a.osn → a.hsn ≤ b.hsn → Moved N entry a b
still e p o h = record {
  stays = λ _ w. rw (e, p) (w, le_refl _, o);
  rises = h;
  fresh = rw e (λ w. inl (w, o));
}

-- a node that does not wait before, nor after
idle : {N : ℕ} {entry : Bool} {a b : Node} → bit (waits a.at) ≡ 0 → bit (waits b.at) ≡ 0 → b.hsn ≡ a.hsn → Moved N entry a b
idle e f h = record { stays = λ _ w. absurd (omega arith); rises = omega arith; fresh = λ w. absurd (omega arith) }

-- and one that does both
onward : {N : ℕ} {entry : Bool} {a b : Node} → bit (waits a.at) ≡ 1 → bit (waits b.at) ≡ 1 → far N a ≤ far N b → b.osn ≡ a.osn → b.hsn ≡ a.hsn
    → Moved N entry a b
onward e f r o h = record { stays = λ _ _. (f, r, o); rises = omega arith; fresh = λ _. inl (e, o) }

waits_at : (a : Node) (l : Location) → a.at ≡ l → bit (waits a.at) ≡ bit (waits l)
waits_at a l e = ap (λ (k : Location). bit (waits k)) e

module _ (N s T : ℕ) (a : Node) (o : Own N s a T) where
  main_moves : (l : Location) → a.at ≡ l → Moved N (is l m4) a (main N s l a)
  main_moves m1 e = idle (waits_at a m1 e) refl refl
  main_moves m2 e = record { stays = λ _ w. absurd (omega (arith, waits_at a m2 e)); rises = le_refl _; fresh = λ w. inr (omega arith) }
  main_moves m31 e =
      let v = (outside N a m31 e).far_at in
      elim (leb a.p N) as (λ b. Moved N false a (at≔ (cond b m32 m4) a)) [
        | true ↦ onward (waits_at a m31 e) refl (omega arith) refl refl
        | false ↦ onward (waits_at a m31 e) refl (omega (arith, o.p_high)) refl refl
      ]
  main_moves m32 e = onward (waits_at a m32 e) refl (omega (arith, (outside N a m32 e).far_at)) refl refl
  main_moves m4 e = record { stays = λ n w. absurd (omega (arith, ap bit n)); rises = le_refl _; fresh = λ w. absurd (omega arith) }
  main_moves m5 e = idle (waits_at a m5 e) refl refl
  main_moves m6 e = idle (waits_at a m6 e) refl refl
  main_moves m71 e = elim (leb a.p N) as (λ b. Moved N false a (at≔ (cond b m72 m1) a)) [
    | true ↦ idle (waits_at a m71 e) refl refl
    | false ↦ idle (waits_at a m71 e) refl refl
  ]
  main_moves m72 e = elim (a.rd a.p) as (λ b. Moved N false a (counted m71 (cond b (rd≔ a.p false a) a))) [
    | true ↦ idle (waits_at a m72 e) refl refl
    | false ↦ idle (waits_at a m72 e) refl refl
  ]

-- a transition of s, seen from any node k
seen_from : {N : ℕ} {entry : Bool} (σ : State) (s : ℕ) (b : Node) (k : ℕ) → (k ≡ s → Moved N entry (σ.node s) b)
    → Moved N entry (σ.node k) (put σ.node s b k)
seen_from σ s b k h = elim (ℕ_discrete k s) [
  | yes e ↦ rw (e, put_here) (h e)
  | no d ↦ rw put_there (still refl refl refl (le_refl _))
]

moves : (N : ℕ) (σ : State) (x : Label) (k : ℕ) → can N σ x ≡ true → Counting N σ → Moved N (enters k x) (σ.node k) ((does N σ x).node k)
unfolding does
moves N σ (M l s) k e C = seen_from σ s _ k (λ q.
    let c = can_main N σ l s e in
    rw (eq-eqb s k (sym q)) (main_moves N s _ (σ.node s) (C.own s c.0) l c.1))
moves N σ (q1 s t) k e C = go (grants s t (first (σ.chq t s)) (σ.node s)) refl
  where
    go : (b : Bool) → grants s t (first (σ.chq t s)) (σ.node s) ≡ b → Moved N false (σ.node k) ((does N σ (q1 s t)).node k)
    go true q = rw q (seen_from σ s _ k (λ _. still refl refl refl (higher _ _).0))
    go false q = rw q (seen_from σ s _ k (λ _. still refl refl refl (higher _ _).0))
moves N σ (r1 s u) k e C = seen_from σ s _ k (λ _. still refl refl refl (le_refl _))

-- z still waits for y, and y knows z's number
record Behind (N y : ℕ) (a b : Node) : Type 0 where
  wants : bit (waits a.at) ≡ 1
  gone : y < far N a
  known : a.osn ≤ b.hsn

-- and y's own request, if it has one, comes after z's
abbrev Late : Node → Node → Type 0
Late a b = bit (waits b.at) ≡ 1 → a.osn < b.osn

waits_asks : (l : Location) → bit (waits l) ≡ 1 → bit (asking l) ≡ 1
waits_asks l = go (sending l) (is l m4) (is l m5 || is l m6)
  where
    go : (a b c : Bool) → bit (a || b) ≡ 1 → bit (a || (b || c)) ≡ 1
    go true b c e = refl
    go false true c e = refl
    go false false c e = absurd (omega arith)

some_way : (a b c : Bool) (n : ℕ) → 1 ≤ n → n ≤ bit (a && c) + bit b → bit (a || b) ≡ 1
some_way true b c n h k = refl
some_way false true c n h k = refl
some_way false false c n h k = absurd (omega arith)

unentered : (b : Bool) (n : ℕ) → bit b + n ≡ 0 → b ≡ false
unentered true n e = absurd (omega arith)
unentered false n e = refl

-- an entry of y: where it is taken, and where it leads
passed_by : (N : ℕ) (σ : State) (x : Label) (y : ℕ) → can N σ x ≡ true → enters y x ≡ true → ((σ.node y).at ≡ m4) × ((σ.node y).c ≡ 0)
passed_by N σ (M l s) y e q =
    let c = can_main N σ l s e in
    let b = (and-eq-true_iff (eqb s y) _).0 q in
    let k = is_location l m4 b.1 in
    let f = eqb-true s y b.0 in
    let g : passes m4 (σ.node s) ≡ true = rw k at c.2 in
    (ap (λ (i : ℕ). (σ.node i).at) (sym f) ∙ c.1 ∙ k, ap (λ (i : ℕ). (σ.node i).c) (sym f) ∙ eqb-true _ _ g)
passed_by N σ (q1 s t) y e q = absurd (false≢true q)
passed_by N σ (r1 s u) y e q = absurd (false≢true q)

spent : (N : ℕ) (σ : State) (x : Label) (y : ℕ) → enters y x ≡ true → bit (waits ((does N σ x).node y).at) ≡ 0
unfolding does
spent N σ (M l s) y q =
    let b = (and-eq-true_iff (eqb s y) _).0 q in
    rw (← (eqb-true s y b.0), is_location l m4 b.1, put_here)
spent N σ (q1 s t) y q = absurd (false≢true q)
spent N σ (r1 s u) y q = absurd (false≢true q)

module _ (N y z : ℕ) (Y : In N y) (Z : In N z) (apart : y ≢ z) where
  -- any transition but z's entry
  behind : (σ : State) (x : Label) → Counting N σ → can N σ x ≡ true → enters z x ≡ false → Behind N y (σ.node z) (σ.node y)
      → Behind N y ((does N σ x).node z) ((does N σ x).node y)
      × (Late (σ.node z) (σ.node y) → Late ((does N σ x).node z) ((does N σ x).node y))
  behind σ x C e n B =
      let u = (moves N σ x z e C).stays n B.wants in
      let v = moves N σ x y e C in (
        record { wants = u.0; gone = omega (arith, B.gone, u.1); known = omega (arith, B.known, u.2, v.rises) },
        λ L w. ⊎_elim (λ q. omega (arith, L q.0, q.1, u.2)) (λ q. omega (arith, q, B.known, u.2)) (v.fresh w),
      )

  -- y cannot pass m4 with a request that comes after z's
  barred : (σ : State) (x : Label) → Counting N σ → Order N σ → can N σ x ≡ true → Behind N y (σ.node z) (σ.node y) → Late (σ.node z) (σ.node y)
      → bit (enters y x) ≡ 0
  barred σ x C O e B L = go (enters y x) refl
    where
      go : (b : Bool) → enters y x ≡ b → bit b ≡ 0
      go false q = refl
      go true q =
          let c = passed_by N σ x y e q in
          let w = waits_at (σ.node y) m4 c.0 in
          let v = (outside N (σ.node y) m4 c.0).far_at in
          let n : weight σ y z ≡ 0 =
          omega (arith, c.1, (C.own y Y).c_is, sum_term N z (λ k. weight σ y k) Z.low Z.high) in
          let r : bit (σ.node z).rcs ≡ 1 =
          omega (arith, (C.own z Z).rcs_is, waits_asks (σ.node z).at B.wants) in
          let b = (O y z Y Z apart).allowed (omega (arith, Z.high)) (omega arith) (omega arith) r in
          absurd (omega (arith, b, L w))

  none : {σ τ : State} {ks : List Label} → Run N σ ks τ → Counting N σ → Order N σ → Behind N y (σ.node z) (σ.node y) → Late (σ.node z) (σ.node y)
      → entries z ks ≡ 0 → entries y ks ≡ 0
  unfolding entries
  none stop C O B L h = refl
  none (move {σ = σ} {l = x} e Q) C O B L h =
      let b = behind σ x C e (unentered (enters z x) _ h) B in
      omega (arith, barred σ x C O e B L, none Q (counts N σ x e C) (orders N σ x e C O) b.0 (b.1 L) (omega arith))

  once : {σ τ : State} {ks : List Label} → Run N σ ks τ → Counting N σ → Order N σ → Behind N y (σ.node z) (σ.node y) → entries z ks ≡ 0 → entries y ks ≤ 1
  unfolding entries
  once stop C O B h = omega arith
  once (move {σ = σ} {l = x} {ls = xs} e Q) C O B h =
      let D = counts N σ x e C in
      let P = orders N σ x e C O in
      let b = behind σ x C e (unentered (enters z x) _ h) B in
      (elim (enters y x) as (λ u. enters y x ≡ u → bit u + entries y xs ≤ 1) [
        | true ↦ λ q. omega (arith, none Q D P b.0 (λ w. absurd (omega (arith, spent N σ x y q))) (omega arith))
        | false ↦ λ q. omega (arith, once Q D P b.0 (omega arith))
      ]) refl

heard : (N : ℕ) (σ : State) (s t : ℕ) → first (σ.chq t s) ≤ ((does N σ (q1 s t)).node s).hsn
unfolding does
heard N σ s t = go (grants s t (first (σ.chq t s)) (σ.node s)) refl
  where
    go : (b : Bool) → grants s t (first (σ.chq t s)) (σ.node s) ≡ b → first (σ.chq t s) ≤ ((does N σ (q1 s t)).node s).hsn
    go true q = rw (q, put_here) (higher _ _).1
    go false q = rw (q, put_here) (higher _ _).1

-- where y can take z's request, z waits; and once taken, y knows z's number
pub overtakes_once : OvertakesOnce
unfolding can
overtakes_once N ls ks σ τ y z R e Q h =
    let C = counting R in
    let O = order R in
    let c = can_take N y z (σ.chq z y) e in
    let n : 1 ≤ weight σ z y = omega (arith, c.2) in
    let apart : y ≢ z = λ k. omega (arith, n, ap (λ (j : ℕ). weight σ z j) k, C.self z c.1) in
    let r = O z y c.1 c.0 (λ k. apart (sym k)) in
    let w = some_way (sending (σ.node z).at) (is (σ.node z).at m4) _ (weight σ z y) n (chain C z y c.1 c.0) in
    let u = (moves N σ (q1 y z) z e C).stays refl w in
    once N y z c.0 c.1 apart Q (counts N σ (q1 y z) e C) (orders N σ (q1 y z) e C O)
    (record { wants = u.0; gone = omega (arith, C.chain z y c.1 c.0 (λ k. apart (sym k)), u.1); known = omega (arith, u.2, r.value c.2, heard N σ y z) }) h
