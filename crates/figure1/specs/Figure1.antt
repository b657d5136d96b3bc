-- The program of Figure 1 (source 003), as printed, for any N: what each node declares, the channels, and a transition for each labelled statement.
-- Left out, as 01 says: y, z and mini, which the paper has for its proof only. Left out too: rq and rp, into which Q and P receive; rq is a parameter of what q1 does with it, and nothing reads rp.
-- `c` is a number here: c_range of the paper, proved in proofs/, keeps it from falling below 0.
use Rattle.std.specs.Prelude.{◌≡◌, Bool, true, false, cond, not, ◌&&◌, ◌||◌, List, [], ◌∷◌, ◌++◌, ℕ, ◌+◌, ◌-◌, nat_eq, nat_le, nat_lt}

-- the labels in front of M's statements
pub data Location : Type 0 where
  m1 m2 m31 m32 m4 m5 m6 m71 m72 : Location

-- "local osn, hsn, p, c : integer; rcs : boolean; rd : array [1..N] of boolean", and where the node's M stands
pub record Node : Type 0 where
  pub at : Location
  pub osn : ℕ
  pub hsn : ℕ
  pub p : ℕ
  pub c : ℕ
  pub rcs : Bool
  pub rd : ℕ → Bool

-- "local chq, chp : array [1..N, 1..N] of channel [1..] of integer": queues without bound, the oldest message first
pub record State : Type 0 where
  pub node : ℕ → Node
  pub chq : ℕ → ℕ → List ℕ
  pub chp : ℕ → ℕ → List ℕ

-- "where osn = 0, hsn = 0, c = 0, p = 1", "where rcs = F", "where rd = F", "where chq = Λ, chp = Λ"; M starts at m1
abbrev pub initial : State
initial = record {
  node = λ s. record { at = m1; osn = 0; hsn = 0; p = 1; c = 0; rcs = false; rd = λ t. false };
  chq = λ s t. [];
  chp = λ s t. [];
}

-- a transition: the statement of M at a location in node s; q1 of node s from t; r1 of node s from u
pub data Label : Type 0 where
  M : Location → ℕ → Label
  q1 : ℕ → ℕ → Label
  r1 : ℕ → ℕ → Label

-- ---- how a state is written to
-- x[s] := v
unfoldable pub put : {A : Type 0} → (ℕ → A) → ℕ → A → ℕ → A
put f s v k = cond (nat_eq k s) v (f k)

-- x[s, t] := v
unfoldable pub put₂ : {A : Type 0} → (ℕ → ℕ → A) → ℕ → ℕ → A → ℕ → ℕ → A
put₂ f s t v i j = cond (nat_eq i s && nat_eq j t) v (f i j)

-- "ch[s, t] ⇐ e"
abbrev pub send : (ℕ → ℕ → List ℕ) → ℕ → ℕ → ℕ → ℕ → ℕ → List ℕ
send ch s t e = put₂ ch s t (ch s t ++ (e ∷ []))

-- "ch[s, t] ⇒ x": x, the oldest message
abbrev pub first : List ℕ → ℕ
first [] = 0
first (x ∷ q) = x

-- what stays in the channel
abbrev pub others : List ℕ → List ℕ
others [] = []
others (x ∷ q) = q

-- the channels after "ch[s, t] ⇒ x"
abbrev pub receive : (ℕ → ℕ → List ℕ) → ℕ → ℕ → ℕ → ℕ → List ℕ
receive ch s t = put₂ ch s t (others (ch s t))

-- ---- assignments: x≔ v a is the node a after "x := v", all else as it was
-- M goes on to a location
abbrev pub at≔ : Location → Node → Node
at≔ l a = record { at = l; osn = a.osn; hsn = a.hsn; p = a.p; c = a.c; rcs = a.rcs; rd = a.rd }

-- osn := v
abbrev pub osn≔ : ℕ → Node → Node
osn≔ v a = record { at = a.at; osn = v; hsn = a.hsn; p = a.p; c = a.c; rcs = a.rcs; rd = a.rd }

-- hsn := v
abbrev pub hsn≔ : ℕ → Node → Node
hsn≔ v a = record { at = a.at; osn = a.osn; hsn = v; p = a.p; c = a.c; rcs = a.rcs; rd = a.rd }

-- p := v
abbrev pub p≔ : ℕ → Node → Node
p≔ v a = record { at = a.at; osn = a.osn; hsn = a.hsn; p = v; c = a.c; rcs = a.rcs; rd = a.rd }

-- c := v
abbrev pub c≔ : ℕ → Node → Node
c≔ v a = record { at = a.at; osn = a.osn; hsn = a.hsn; p = a.p; c = v; rcs = a.rcs; rd = a.rd }

-- rcs := v
abbrev pub rcs≔ : Bool → Node → Node
rcs≔ v a = record { at = a.at; osn = a.osn; hsn = a.hsn; p = a.p; c = a.c; rcs = v; rd = a.rd }

-- rd[t] := v
abbrev pub rd≔ : ℕ → Bool → Node → Node
rd≔ t v a = record { at = a.at; osn = a.osn; hsn = a.hsn; p = a.p; c = a.c; rcs = a.rcs; rd = put a.rd t v }

-- ---- what each statement makes of its node
-- m2: ⟨ rcs := T; osn := hsn + 1; c := N − 1; p := 1 ⟩
abbrev pub asked : ℕ → Node → Node
asked N a = at≔ m31 (p≔ 1 (c≔ (N - 1) (osn≔ (a.hsn + 1) (rcs≔ true a))))

-- m32 and m72: p := p + 1, and back to the loop's test
abbrev pub counted : Location → Node → Node
counted l a = at≔ l (p≔ (a.p + 1) a)

-- m6: ⟨ rcs := F; p := 1 ⟩
abbrev pub released : Node → Node
released a = at≔ m71 (p≔ 1 (rcs≔ false a))

-- if hsn < rq then hsn := rq
abbrev pub raised : ℕ → Node → Node
raised rq a = hsn≔ (cond (nat_lt a.hsn rq) rq a.hsn) a

-- c := c − 1
abbrev pub replied : Node → Node
replied a = c≔ (a.c - 1) a

-- (rq, t) < (osn, s) ∨ ¬rcs
abbrev pub grants : ℕ → ℕ → ℕ → Node → Bool
grants s t rq a = (nat_lt rq a.osn || (nat_eq rq a.osn && nat_lt t s)) || not a.rcs

-- ---- when a transition can be taken
-- the labels as numbers, to compare them by
abbrev pub number : Location → ℕ
number m1 = 1
number m2 = 2
number m31 = 31
number m32 = 32
number m4 = 4
number m5 = 5
number m6 = 6
number m71 = 71
number m72 = 72

-- s is a node: 1 to N. The rules have a test like it; the program has its own, so that it can be held against the paper alone
abbrev pub is_node : ℕ → ℕ → Bool
is_node N s = nat_le 1 s && nat_le s N

-- a message is there to receive
abbrev pub some : List ℕ → Bool
some [] = false
some (x ∷ q) = true

-- "await c = 0" is the only statement of M that waits
abbrev pub passes : Location → Node → Bool
passes m1 a = true
passes m2 a = true
passes m31 a = true
passes m32 a = true
passes m4 a = nat_eq a.c 0
passes m5 a = true
passes m6 a = true
passes m71 a = true
passes m72 a = true

-- M at its label and not waiting; q1 and r1 with a message in their channel
unfoldable pub can : ℕ → State → Label → Bool
can N σ (M l s) = is_node N s && (nat_eq (number (σ.node s).at) (number l) && passes l (σ.node s))
can N σ (q1 s t) = is_node N s && (is_node N t && some (σ.chq t s))
can N σ (r1 s u) = is_node N s && (is_node N u && some (σ.chp u s))

-- ---- what it does
-- node s after M's statement at l; the tests m31 and m71 go into the loop while p ≤ N, and past it else
abbrev pub main : ℕ → ℕ → Location → Node → Node
main N s m1 a = at≔ m2 a
main N s m2 a = asked N a
main N s m31 a = at≔ (cond (nat_le a.p N) m32 m4) a
main N s m32 a = counted m31 a
main N s m4 a = at≔ m5 a
main N s m5 a = at≔ m6 a
main N s m6 a = released a
main N s m71 a = at≔ (cond (nat_le a.p N) m72 m1) a
main N s m72 a = counted m71 (cond (a.rd a.p) (rd≔ a.p false a) a)

-- m32: if p ≠ s then chq[s, p] ⇐ osn
abbrev pub requests : ℕ → Location → State → ℕ → ℕ → List ℕ
requests s m1 σ = σ.chq
requests s m2 σ = σ.chq
requests s m31 σ = σ.chq
requests s m32 σ = cond (nat_eq (σ.node s).p s) σ.chq (send σ.chq s (σ.node s).p (σ.node s).osn)
requests s m4 σ = σ.chq
requests s m5 σ = σ.chq
requests s m6 σ = σ.chq
requests s m71 σ = σ.chq
requests s m72 σ = σ.chq

-- m72: if rd[p] then [rd[p] := F; chp[s, p] ⇐ 1]
abbrev pub replies : ℕ → Location → State → ℕ → ℕ → List ℕ
replies s m1 σ = σ.chp
replies s m2 σ = σ.chp
replies s m31 σ = σ.chp
replies s m32 σ = σ.chp
replies s m4 σ = σ.chp
replies s m5 σ = σ.chp
replies s m6 σ = σ.chp
replies s m71 σ = σ.chp
replies s m72 σ = cond ((σ.node s).rd (σ.node s).p) (send σ.chp s (σ.node s).p 1) σ.chp

-- q1, with rq received: hsn raised, then chp[s, t] ⇐ 1, or rd[t] := T
abbrev pub judged : ℕ → ℕ → ℕ → State → State
judged s t rq σ =
    cond (grants s t rq (σ.node s))
    (record {
      node = put σ.node s (raised rq (σ.node s));
      chq = receive σ.chq t s;
      chp = send σ.chp s t 1;
    })
    (record {
      node = put σ.node s (rd≔ t true (raised rq (σ.node s)));
      chq = receive σ.chq t s;
      chp = σ.chp;
    })

-- the state after a transition
unfoldable pub does : ℕ → State → Label → State
does N σ (M l s) = record { node = put σ.node s (main N s l (σ.node s)); chq = requests s l σ; chp = replies s l σ }
does N σ (q1 s t) = judged s t (first (σ.chq t s)) σ
does N σ (r1 s u) = record { node = put σ.node s (replied (σ.node s)); chq = σ.chq; chp = receive σ.chp u s }

-- ---- runs: any interleaving of the transitions
-- "a concurrent execution of all the nodes": from a state by a list of transitions to a state
pub data Run (N : ℕ) : State → List Label → State → Type 0 where
  stop : {σ : State} → Run N σ [] σ
  move : {σ τ : State} {l : Label} {ls : List Label} → can N σ l ≡ true → Run N (does N σ l) ls τ → Run N σ (l ∷ ls) τ
