-- States between steps: no node stands before a loop test or inside Ask or Leave, and no number is above the last.
use mathlib.Core.Path.{◌≡◌, refl, sym, ap, ◌∙◌}
use mathlib.Core.Logic.{◌≢◌}
use mathlib.Core.Bool.{true, cond, ◌&&◌}
use mathlib.Core.List.{List, [], ◌∷◌, ◌++◌}
use Prim.Native.Nat.{ℕ, ◌≤◌, ◌<◌}
use native.Mathlib.Omega.{arith}
use native.Mathlib.Decide.{ℕ_discrete}
use lib.Dec.{eqb, leb, ltb}
use lib.ListN.{length}
use borrow.Author.Tests.{eq-eqb}
use Rattle.station.specs.declared.Step.{Step}
use Rattle.station.specs.declared.Step.TheVariants.{TakeRequest, TakeAnswer}
use Rattle.station.specs.Names.{IDLE, SENDING, WAITING, HOLDING, LAST_NUMBER}
use Rattle.std.proofs.lemmas.Bool.{cond_both}
use Rattle.std.proofs.lemmas.Bool.Decides.{nat_tests}
use Rattle.figure1.specs.Figure1.{Location, m1, m31, m32, m4, m5, m71, m72, Node, State, initial, Label, M, q1, r1, Run, stop, move, can, does, put, first, main, number, passes, some, is_node, at≔, rd≔, raised, replied, grants}
use Rattle.figure1.specs.Assertions.{In}
use Rattle.figure1.proofs.Sums.{put_here, put_there}
use Rattle.figure1.proofs.Theorems.{asserted}
use Rattle.figure1.proofs.Runs.{run_append}
use Rattle.demands.specs.Demands.{Takes, word, place_at, NumberLeft}
use Rattle.demands.proofs.Stations.{is_node_in}
use Rattle.demands.proofs.Rows.{place_stays}

-- the one location between steps that a place stands for
abbrev pub home : ℕ → Location
home place = cond (eqb place IDLE) m1 (cond (eqb place SENDING) m32 (cond (eqb place WAITING) m4 (cond (eqb place HOLDING) m5 m72)))

pub record Rests (n : ℕ) (a : Node) : Type 0 where
  pub at_home : a.at ≡ home (place_at n a.at a)
  pub own : a.osn ≤ LAST_NUMBER
  pub high : a.hsn ≤ LAST_NUMBER

abbrev pub Settled : ℕ → (ℕ → Node) → Type 0
Settled n nodes = (s : ℕ) → In n s → Rests n (nodes s)

pub settled_initial : (n : ℕ) → Settled n initial.node
settled_initial n s S = record { at_home = refl; own = omega arith; high = omega arith }

-- the program takes the step and comes to rest again
pub record Proceeds (n : ℕ) (σ : State) (x : Step) : Type 0 where
  pub takes : Takes n σ x
  pub settled : Settled n takes.next.node

-- transitions of M in node s alone, which make it a
pub record Walks (n : ℕ) (σ : State) (s : ℕ) (ls : List Label) (a : Node) : Type 0 where
  pub next : State
  pub run : Run n σ ls next
  pub here : next.node s ≡ a
  pub there : (k : ℕ) → k ≢ s → next.node k ≡ σ.node k

others_settled : {n : ℕ} (f g : ℕ → Node) (s : ℕ) → Settled n f → Rests n (g s) → ((k : ℕ) → k ≢ s → g k ≡ f k) → Settled n g
others_settled f g s H r o k K = elim (ℕ_discrete k s) [ yes e ↦ rw e r | no d ↦ rw (o k d) (H k K) ]

can_walk : {n s : ℕ} (S : In n s) (τ : State) (l : Location) → (τ.node s).at ≡ l → passes l (τ.node s) ≡ true → can n τ (M l s) ≡ true
unfolding can
can_walk {s = s} S τ l e f = rw (is_node_in S, eq-eqb (number (τ.node s).at) (number l) (ap number e)) f

can_receive : {n s u : ℕ} (S : In n s) (U : In n u) (q : List ℕ) → 0 < length q → (is_node n s && (is_node n u && some q)) ≡ true
can_receive S U q h = rw (is_node_in S, is_node_in U) (go q h)
  where
    go : (q : List ℕ) → 0 < length q → some q ≡ true
    go [] h = absurd (omega arith)
    go (x ∷ q) h = refl

no_higher : (h r : ℕ) → h ≤ LAST_NUMBER → r ≤ LAST_NUMBER → cond (ltb h r) r h ≤ LAST_NUMBER
no_higher h r a b = grind (arith, nat_tests)

module _ {n : ℕ} where
  -- past the loop tests
  module _ (s : ℕ) (a : Node) (own : a.osn ≤ LAST_NUMBER) (high : a.hsn ≤ LAST_NUMBER) where
    rests_at : (l : Location) → l ≡ home (place_at n l (at≔ l a)) → Rests n (at≔ l a)
    rests_at l e = record { at_home = e; own = own; high = high }

    pub rests_sending : Rests n (main n s m31 a)
    rests_sending = cond_both (leb a.p n) _ _ (λ (l : Location). Rests n (at≔ l a)) (λ _. rests_at m32 refl) (λ _. rests_at m4 refl)

    pub rests_giving : Rests n (main n s m71 a)
    rests_giving = cond_both (leb a.p n) _ _ (λ (l : Location). Rests n (at≔ l a)) (λ _. rests_at m72 refl) (λ _. rests_at m1 refl)

  -- where p and the location stay
  rests_on : (a b : Node) → Rests n a → b.at ≡ a.at → b.p ≡ a.p → b.osn ≡ a.osn → b.hsn ≤ LAST_NUMBER → Rests n b
  rests_on a b r e p o h = record {
    at_home = e ∙ r.at_home ∙ ap home (sym (ap (λ (l : Location). place_at n l b) e ∙ place_stays n a.at a b p));
    own = omega (arith, r.own);
    high = h;
  }

  module _ (σ : State) {s : ℕ} (S : In n s) where
    pub begins : Walks n σ s [] (σ.node s)
    begins = record { next = σ; run = stop; here = refl; there = λ k _. refl }

    pub goes : {ls : List Label} {a : Node} (l : Location) → a.at ≡ l → passes l a ≡ true → Walks n σ s ls a
        → Walks n σ s (ls ++ (M l s ∷ [])) (main n s l a)
    unfolding does
    goes {a = a} l e f W = record {
      next = does n W.next (M l s);
      run = run_append W.run (move (can_walk S W.next l (rw W.here e) (rw W.here f)) stop);
      here = rw (put_here, W.here);
      there = λ k d. put_there W.next.node s _ k d ∙ W.there k d;
    }

    pub proceeds : (x : Step) {a : Node} → Settled n σ.node → Walks n σ s (word x) a → NumberLeft σ x → Rests n a → Proceeds n σ x
    proceeds x H W h r = record {
      takes = record { next = W.next; run = W.run; number = h };
      settled = others_settled σ.node W.next.node s H (rw W.here r) W.there;
    }

  module _ (σ : State) {s u : ℕ} (S : In n s) (U : In n u) (H : Settled n σ.node) where
    changed : (b : Node) → b.at ≡ (σ.node s).at → b.p ≡ (σ.node s).p → b.osn ≡ (σ.node s).osn → b.hsn ≤ LAST_NUMBER
        → Settled n (put σ.node s b)
    changed b e f o h =
        others_settled σ.node _ s H (rw put_here (rests_on (σ.node s) b (H s S) e f o h)) (λ k d. put_there σ.node s b k d)

    pub requested : {ls : List Label} → Run n initial ls σ → 0 < length (σ.chq u s) → Proceeds n σ (TakeRequest s u)
    unfolding can does
    requested R h = record {
      takes = record {
        next = does n σ (q1 s u);
        run = move (can_receive S U (σ.chq u s) h) stop;
        number = tt;
      };
      settled = cond_both (grants s u (first (σ.chq u s)) (σ.node s)) _ _ (λ (τ : State). Settled n τ.node)
          (λ _. changed (raised (first (σ.chq u s)) (σ.node s)) refl refl refl seen)
          (λ _. changed (rd≔ u true (raised (first (σ.chq u s)) (σ.node s))) refl refl refl seen);
    }
      where
        seen : (raised (first (σ.chq u s)) (σ.node s)).hsn ≤ LAST_NUMBER
        seen = no_higher _ _ (H s S).high (rw ((asserted R).request_in_channel u s U S h) (H u U).own)

    pub answered : 0 < length (σ.chp u s) → Proceeds n σ (TakeAnswer s u)
    unfolding can does
    answered h = record {
      takes = record {
        next = does n σ (r1 s u);
        run = move (can_receive S U (σ.chp u s) h) stop;
        number = tt;
      };
      settled = changed (replied (σ.node s)) refl refl refl (H s S).high;
    }
