-- What is read from a table after a head, a cell or the outcome of a step has been put into it.
use mathlib.Core.Path.{◌≡◌, ap, ◌∙◌}
use mathlib.Core.Logic.{◌≢◌}
use mathlib.Core.List.{List}
use Prim.Native.Nat.{ℕ, ◌<◌}
use native.Mathlib.Omega.{arith}
use native.Mathlib.Decide.{ℕ_discrete}
use lib.ListN.{length, get_or, set, length-set}
use lib.Seq.{get_or-set_same, get_or-set_other}
use Rattle.station.specs.declared.Head.{Head}
use Rattle.station.specs.declared.Cells.{Cells}
use Rattle.station.specs.declared.Station.{Station}
use Rattle.station.specs.Names.{STATIONS}
use Rattle.rows.specs.Rows.{Outcome}
use Rattle.form.specs.Form.{new_cells}
use Rattle.table.specs.Table.{no_station, head_in, cells_in, put_head, put_cells, landed}

-- 32 records of 32 cells
pub record Wide (t : List Station) : Type 0 where
  pub rows : length t ≡ STATIONS
  pub columns : (i : ℕ) → i < STATIONS → length (get_or t i no_station).cells ≡ STATIONS

-- the indices k, l are not i, j
abbrev pub Elsewhere : ℕ → ℕ → ℕ → ℕ → Type 0
Elsewhere k l i j = (k ≡ i) × (l ≡ j) → ⊥

pub same_pair : (k i l j : ℕ) → Dec ((k ≡ i) × (l ≡ j))
same_pair k i l j = elim (ℕ_discrete k i) [
  | yes e ↦ elim (ℕ_discrete l j) [ yes f ↦ yes (e, f) | no d ↦ no (λ z. d z.1) ]
  | no d ↦ no (λ z. d z.0)
]

module _ {t : List Station} (W : Wide t) {i : ℕ} (I : i < STATIONS) where
  inside : i < length t
  inside = omega (arith, W.rows)

  wide_set : (r : Station) → length r.cells ≡ STATIONS → Wide (set t i r)
  wide_set r e = record {
    rows = length-set t i r ∙ W.rows;
    columns = λ k K. elim (ℕ_discrete k i) [
      | yes f ↦ rw (f, get_or-set_same t i r no_station inside) e
      | no d ↦ rw (get_or-set_other t i k r no_station d) (W.columns k K)
    ];
  }

  module _ (h : Head) where
    wide_head : Wide (put_head t i h)
    wide_head = wide_set _ (W.columns i I)

    head_at : head_in (put_head t i h) i ≡ h
    head_at = ap (λ (r : Station). r.head) (get_or-set_same t i _ no_station inside)

    head_off : (k : ℕ) → k ≢ i → head_in (put_head t i h) k ≡ head_in t k
    head_off k d = ap (λ (r : Station). r.head) (get_or-set_other t i k _ no_station d)

    cells_of_head : (k l : ℕ) → cells_in (put_head t i h) k l ≡ cells_in t k l
    cells_of_head k l = elim (ℕ_discrete k i) [
      | yes e ↦ rw e (ap (λ (r : Station). get_or r.cells l new_cells) (get_or-set_same t i _ no_station inside))
      | no d ↦ ap (λ (r : Station). get_or r.cells l new_cells) (get_or-set_other t i k _ no_station d)
    ]

  module _ {j : ℕ} (J : j < STATIONS) (c : Cells) where
    wide_cells : Wide (put_cells t i j c)
    wide_cells = wide_set _ (length-set (get_or t i no_station).cells j c ∙ W.columns i I)

    head_of_cells : (k : ℕ) → head_in (put_cells t i j c) k ≡ head_in t k
    head_of_cells k = elim (ℕ_discrete k i) [
      | yes e ↦ rw e (ap (λ (r : Station). r.head) (get_or-set_same t i _ no_station inside))
      | no d ↦ ap (λ (r : Station). r.head) (get_or-set_other t i k _ no_station d)
    ]

    cells_at : cells_in (put_cells t i j c) i j ≡ c
    cells_at = ap (λ (r : Station). get_or r.cells j new_cells) (get_or-set_same t i _ no_station inside)
        ∙ get_or-set_same (get_or t i no_station).cells j c new_cells (omega (arith, W.columns i I))

    cells_off : (k l : ℕ) → Elsewhere k l i j → cells_in (put_cells t i j c) k l ≡ cells_in t k l
    cells_off k l f = elim (ℕ_discrete k i) [
      | yes e ↦ rw e (ap (λ (r : Station). get_or r.cells l new_cells) (get_or-set_same t i _ no_station inside)
          ∙ get_or-set_other (get_or t i no_station).cells j l c new_cells (λ g. f (e, g)))
      | no d ↦ ap (λ (r : Station). get_or r.cells l new_cells) (get_or-set_other t i k _ no_station d)
    ]

module _ (out : Outcome) {t : List Station} (W : Wide t) {i j : ℕ} (I : i < STATIONS) (J : j < STATIONS) where
  W₁ : Wide (put_head t i out.head)
  W₁ = wide_head W I out.head

  W₂ : Wide (put_cells (put_head t i out.head) i j out.mine)
  W₂ = wide_cells W₁ I J out.mine

  pub landed_wide : Wide (landed out t i j)
  landed_wide = wide_cells W₂ J I out.theirs

  pub landed_head : head_in (landed out t i j) i ≡ out.head
  landed_head = head_of_cells W₂ J I _ i ∙ head_of_cells W₁ I J _ i ∙ head_at W I _

  pub landed_heads : (k : ℕ) → k ≢ i → head_in (landed out t i j) k ≡ head_in t k
  landed_heads k d = head_of_cells W₂ J I _ k ∙ head_of_cells W₁ I J _ k ∙ head_off W I _ k d

  pub landed_theirs : cells_in (landed out t i j) j i ≡ out.theirs
  landed_theirs = cells_at W₂ J I _

  pub landed_mine : i ≢ j → cells_in (landed out t i j) i j ≡ out.mine
  landed_mine d = cells_off W₂ J I _ i j (λ e. d e.0) ∙ cells_at W₁ I J _

  pub landed_cells : (k l : ℕ) → Elsewhere k l i j → Elsewhere k l j i → cells_in (landed out t i j) k l ≡ cells_in t k l
  landed_cells k l f g = cells_off W₂ J I _ k l g ∙ cells_off W₁ I J _ k l f ∙ cells_of_head W I _ k l
