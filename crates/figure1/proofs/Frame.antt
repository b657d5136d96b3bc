-- What a transition of node s leaves alone: of each pair of nodes and of each node's sum, from what becomes of s and of one errand that s has a part in.
use mathlib.Core.Path.{◌≡◌, sym, ap, subst, ◌∙◌}
use mathlib.Core.Logic.{◌≢◌}
use mathlib.Core.List.{List}
use Prim.Native.Nat.{ℕ, ◌+◌}
use native.Mathlib.Decide.{ℕ_discrete}
use Rattle.figure1.specs.Figure1.{Node, State, put}
use Rattle.figure1.specs.Assertions.{In, weight}
use Rattle.figure1.proofs.Sums.{sum_equal, sum_differ, put_here, put_there}
use Rattle.figure1.proofs.Errands.{Errand, way, load, total}

-- what may be said of an asker i, an answerer j, their nodes and their errand; and it said of every pair
abbrev pub OfPair : Type 1
OfPair = ℕ → ℕ → Node → Node → Errand → Type 0

abbrev pub Pairs : ℕ → OfPair → State → Type 0
Pairs N Q σ = (i j : ℕ) → In N i → In N j → i ≢ j → Q i j (σ.node i) (σ.node j) (way σ i j)

-- node s becomes a, and the channels requests and replies
module _ (N : ℕ) (σ : State) (s : ℕ) (a : Node) (requests replies : ℕ → ℕ → List ℕ) where
  abbrev pub become : State
  become = record { node = put σ.node s a; chq = requests; chp = replies }

  -- the errand of i at j stays as it was
  abbrev pub Stays : ℕ → ℕ → Type 0
  Stays i j = (requests i j ≡ σ.chq i j) × (replies j i ≡ σ.chp j i) × (j ≡ s → a.rd i ≡ (σ.node s).rd i)

  stays : (i j : ℕ) → Stays i j → way become i j ≡ way σ i j
  stays i j h = λ k. record { chq = h.0 k; rd = mark k; chp = h.1 k }
    where
      mark : (put σ.node s a j).rd i ≡ (σ.node j).rd i
      mark = elim (ℕ_discrete j s) [ yes e ↦ rw (e, put_here) (h.2 e) | no d ↦ rw put_there ]

  others : (k : ℕ) → k ≢ s → become.node k ≡ σ.node k
  others k d = put_there σ.node s a k d

  -- ---- any fact of the pairs
  module _ (Q : OfPair) (was : Pairs N Q σ) where
    all_pairs : (fore : (j : ℕ) → In N j → j ≢ s → Q s j (become.node s) (σ.node j) (way become s j))
        (back : (i : ℕ) → In N i → i ≢ s → Q i s (σ.node i) (become.node s) (way become i s))
        (rest : (i j : ℕ) → i ≢ s → j ≢ s → way become i j ≡ way σ i j)
        → Pairs N Q become
    all_pairs fore back rest i j H J d = elim (ℕ_discrete i s) [
      | yes e ↦
          let f : j ≢ s = λ z. d (e ∙ sym z) in
          rw e (subst (λ (b : Node). Q s j (become.node s) b (way become s j)) (sym (others j f)) (fore j J f))
      | no e ↦ elim (ℕ_discrete j s) [
        | yes f ↦ rw (f, others i e) (back i H e)
        | no f ↦ rw (rest i j e f, others i e, others j f) (was i j H J d)
      ]
    ]

    -- s's errand at t changes
    pub asker : (t : ℕ) (apart : t ≢ s) (rows : (i j : ℕ) → i ≢ s → Stays i j) (columns : (i j : ℕ) → j ≢ t → Stays i j)
        (hit : Q s t a (σ.node t) (record { chq = requests s t; rd = (σ.node t).rd s; chp = replies t s }))
        (miss : (j : ℕ) → In N j → j ≢ s → j ≢ t → Q s j a (σ.node j) (way σ s j))
        (back : (i : ℕ) → In N i → i ≢ s → Q i s (σ.node i) a (way σ i s))
        → Pairs N Q become
    asker t apart rows columns hit miss back =
        all_pairs
        (λ j J d. elim (ℕ_discrete j t) [
          | yes e ↦ rw (e, put_here σ.node s a, put_there σ.node s a t apart) hit
          | no e ↦ rw (stays s j (columns s j e), put_here σ.node s a) (miss j J d e)
        ])
        (λ i H d. rw (stays i s (rows i s d), put_here σ.node s a) (back i H d))
        (λ i j d _. stays i j (rows i j d))

    -- t's errand at s changes
    pub answerer : (t : ℕ) (rows : (i j : ℕ) → i ≢ t → Stays i j) (columns : (i j : ℕ) → j ≢ s → Stays i j)
        (hit : t ≢ s → Q t s (σ.node t) a (record { chq = requests t s; rd = a.rd t; chp = replies s t }))
        (miss : (i : ℕ) → In N i → i ≢ s → i ≢ t → Q i s (σ.node i) a (way σ i s))
        (fore : (j : ℕ) → In N j → j ≢ s → Q s j a (σ.node j) (way σ s j))
        → Pairs N Q become
    answerer t rows columns hit miss fore =
        all_pairs
        (λ j J d. rw (stays s j (columns s j d), put_here σ.node s a) (fore j J d))
        (λ i H d. elim (ℕ_discrete i t) [
          | yes e ↦ rw (e, put_here σ.node s a) (hit (λ z. d (e ∙ z)))
          | no e ↦ rw (stays i s (rows i s e), put_here σ.node s a) (miss i H d e)
        ])
        (λ i j _ d. stays i j (columns i j d))

    -- no errand changes
    pub alone : (all : (i j : ℕ) → Stays i j)
        (fore : (j : ℕ) → In N j → j ≢ s → Q s j a (σ.node j) (way σ s j))
        (back : (i : ℕ) → In N i → i ≢ s → Q i s (σ.node i) a (way σ i s))
        → Pairs N Q become
    alone all fore back =
        all_pairs
        (λ j J d. rw (stays s j (all s j), put_here σ.node s a) (fore j J d))
        (λ i H d. rw (stays i s (all i s), put_here σ.node s a) (back i H d))
        (λ i j _ _. stays i j (all i j))

  -- ---- the sums, and a node's errand with itself
  pub asker_total : (t : ℕ) → In N t → t ≢ s → ((i j : ℕ) → j ≢ t → Stays i j)
      → total N become s + weight σ s t ≡ total N σ s + load (record { chq = requests s t; rd = (σ.node t).rd s; chp = replies t s })
  asker_total t T apart columns =
      sum_differ N t _ _ T.low T.high (λ k d. ap load (stays s k (columns s k d)))
      ∙ ap (λ (b : Node). total N σ s + load (record { chq = requests s t; rd = b.rd s; chp = replies t s })) (others t apart)

  pub row_total : (i : ℕ) → ((k : ℕ) → Stays i k) → total N become i ≡ total N σ i
  row_total i row = sum_equal N _ _ (λ k _. ap load (stays i k (row k)))

  pub asker_self : (t : ℕ) → t ≢ s → ((i j : ℕ) → i ≢ s → Stays i j) → ((i j : ℕ) → j ≢ t → Stays i j) → (i : ℕ) → weight become i i ≡ weight σ i i
  asker_self t apart rows columns i =
      ap load (stays i i (elim (ℕ_discrete i s) [ yes e ↦ columns i i (λ z. apart (sym z ∙ e)) | no d ↦ rows i i d ]))

  -- t's errand at s keeps its weight, and so all do
  pub answerer_weight : (t : ℕ) → ((i j : ℕ) → i ≢ t → Stays i j) → ((i j : ℕ) → j ≢ s → Stays i j)
      → load (record { chq = requests t s; rd = a.rd t; chp = replies s t }) ≡ weight σ t s → (i k : ℕ) → weight become i k ≡ weight σ i k
  answerer_weight t rows columns same i k = elim (ℕ_discrete i t) [
    | yes e ↦ elim (ℕ_discrete k s) [ yes f ↦ rw (e, f, put_here σ.node s a) same | no f ↦ ap load (stays i k (columns i k f)) ]
    | no d ↦ ap load (stays i k (rows i k d))
  ]
