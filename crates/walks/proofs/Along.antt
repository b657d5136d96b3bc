-- What goes along a list and counts: f s xs is about the elements xs, the first of them number s.
--     scan_at, scan_set, scan_all      what a test of a list that puts another to each element, `Scan`, says of one element; with another element put there; and of a list of one element over and over
--     scan_chain       what `.iter().enumerate().all(..)` answers over a slice, where its closure puts g to each element with its number
use mathlib.Core.Path.{◌≡◌, sym, ap, ◌∙◌}
use Prim.Native.Nat.{ℕ, zero, suc, ◌+◌, ◌<◌}
use native.Mathlib.Omega.{arith}
use native.Mathlib.Nat.{add-zero}
use mathlib.Core.Bool.{Bool, true, ◌&&◌, and-eq-true_iff}
use mathlib.Core.List.{List, [], ◌∷◌}
use lib.ListN.{length, get_or, set, replicate}
use denote.Ref.{Bor}
use denote.Param.Members.{Mut}
use Rattle.std.proofs.iter.Yields.{fronts}
use Rattle.std.proofs.lemmas.Iterator.{YieldsList-from_slice}
use Rattle.std.proofs.lemmas.Iterator.Consumers.{YieldsList-from_enumerate, YieldsList-at}
use Rattle.std.proofs.lemmas.Iterator.Search.{all_from_yields_List}
use Rattle.std.specs.Fn.{Called}
use Rattle.std.specs.Iterator.{ChecksAll}
use Rattle.std.specs.Iterator.Adapters.{enumerate_source, enumerate_count, enumerate_steps}
use Rattle.std.specs.List.{list_all, enumerate_from}
use Rattle.std.specs.Slice.Iter.{iter_rest}
use Rattle.walks.specs.Walks.{Scan}

module _ {A : Type 0} {g : ℕ → A → Bool} {f : ℕ → List A → Bool} (scan : Scan g f) where
  first_passes : (s : ℕ) (x : A) (xs : List A) → f s (x ∷ xs) ≡ true → (g s x ≡ true) × (f (s + 1) xs ≡ true)
  first_passes s x xs e = (and-eq-true_iff (g s x) (f (s + 1) xs)).0 (sym (scan.some s x xs) ∙ e)

  pub scan_at : (d : A) (s : ℕ) (xs : List A) (i : ℕ) → i < length xs → f s xs ≡ true → g (s + i) (get_or xs i d) ≡ true
  scan_at d s [] i l e = absurd (omega arith)
  scan_at d s (x ∷ xs) zero l e = rw add-zero (first_passes s x xs e).0
  scan_at d s (x ∷ xs) (suc i) l e =
      let on : s + suc i ≡ (s + 1) + i = omega arith in
      rw on (scan_at d (s + 1) xs i (omega arith) (first_passes s x xs e).1)

  pub scan_set : (s : ℕ) (xs : List A) (i : ℕ) (v : A) → f s xs ≡ true → g (s + i) v ≡ true → f s (set xs i v) ≡ true
  scan_set s [] i v e h = e
  scan_set s (x ∷ xs) zero v e h =
      let here : g s v ≡ true = rw add-zero at h in
      scan.some s v xs ∙ rw (here, (first_passes s x xs e).1)
  scan_set s (x ∷ xs) (suc i) v e h =
      let on : s + suc i ≡ (s + 1) + i = omega arith in
      let both = first_passes s x xs e in
      scan.some s x (set xs i v) ∙ rw (both.0, scan_set (s + 1) xs i v both.1 (rw on at h))

  pub scan_all : (m s : ℕ) (x : A) → ((u : ℕ) → g u x ≡ true) → f s (replicate m x) ≡ true
  scan_all zero s x h = scan.none s
  scan_all (suc m) s x h = scan.some s x (replicate m x) ∙ rw (h s, scan_all m (s + 1) x h)

  along : (k : ℕ) (xs : List A) → list_all (λ (p : ℕ × A). g (p.0 + 1) p.1) (enumerate_from k xs) ≡ f (k + 1) xs
  along k [] = sym (scan.none (k + 1))
  along k (x ∷ xs) = ap (λ b. g (k + 1) x && b) (along (k + 1) xs) ∙ sym (scan.some (k + 1) x xs)

  pub scan_chain : {F : Type 0} {calls : Mut F ((ℕ × Bor A) × Unit {0}) Bool} {from s u : _} {test : F} {r : Bool} {t : List A}
      → iter_rest from ≡ t → enumerate_source s ≡ from → enumerate_count s ≡ 0 → ChecksAll (enumerate_steps fronts) calls s test r u
      → ((p : ℕ × Bor A) (b : Bool) (q : F) → Called calls test (p, tt) b q → (q ≡ test) × (b ≡ g (p.0 + 1) p.1.now)) → r ≡ f 1 t
  scan_chain {u = u} {test = test} {r = r} {t = t} rest source count ran asks =
      all_from_yields_List (λ (p : ℕ × A). g (p.0 + 1) p.1) u test r ran
      (YieldsList-from_enumerate (YieldsList-at source (YieldsList-from_slice t rest)) count) asks
      ∙ along 0 t
