-- A well-formed table mirrors a state of the program, cell by cell: at the opening, after a step, and after a transition that is none.
use mathlib.Core.Path.{◌≡◌, refl, sym, ap, ◌∙◌}
use mathlib.Core.Logic.{◌≢◌}
use mathlib.Core.Bool.{Bool, true}
use mathlib.Core.List.{List}
use Prim.Native.Nat.{ℕ, ◌-◌, ◌<◌}
use native.Mathlib.Omega.{arith}
use native.Mathlib.Decide.{ℕ_discrete}
use lib.ListN.{length-replicate, get_or-replicate}
use Rattle.station.specs.declared.Cells.{Cells}
use Rattle.station.specs.declared.Station.{Station}
use Rattle.station.specs.declared.Head.{Head}
use Rattle.station.specs.Names.{STATIONS, ACCEPTED}
use Rattle.station.proofs.Laws.{Count, count_ok_within}
use Rattle.rows.specs.Rows.{Outcome, outcome_of}
use Rattle.form.specs.Form.{new_cells, new_station}
use Rattle.table.specs.Table.{no_station, head_in, cells_in, opened, well_formed, landed}
use Rattle.table.proofs.Kept.{form_kept}
use Rattle.figure1.specs.Figure1.{Node, State, initial, put}
use Rattle.figure1.specs.Assertions.{In}
use Rattle.figure1.proofs.Sums.{put_here, put_there}
use Rattle.demands.specs.Demands.{head_shown, request_queue, answer_queue, Shows}
use Rattle.demands.proofs.Tables.{Wide, Elsewhere, same_pair, landed_wide, landed_head, landed_heads, landed_theirs, landed_mine, landed_cells}

-- cells for one peer, against the two channels from that peer and rd
pub record Wired (requests answers : List ℕ) (rd≔ : Bool) (c : Cells) : Type 0 where
  pub request : requests ≡ request_queue c.request
  pub answer : answers ≡ answer_queue c.answer
  pub mark : rd≔ ≡ c.mark

pub record Mirrors (n : ℕ) (t : List Station) (σ : State) : Type 0 where
  pub form : well_formed n t ≡ true
  pub wide : Wide t
  pub heads : (s : ℕ) → In n s → head_in t (s - 1) ≡ head_shown n (σ.node s)
  pub wires : (s u : ℕ) → In n s → In n u → Wired (σ.chq u s) (σ.chp u s) ((σ.node s).rd u) (cells_in t (s - 1) (u - 1))

pub shows : {n : ℕ} {t : List Station} {σ : State} → Mirrors n t σ → Shows n t σ
shows m = record {
  form = m.form;
  heads = m.heads;
  requests = λ s u S U. (m.wires s u S U).request;
  answers = λ s u S U. (m.wires s u S U).answer;
  marks = λ s u S U. (m.wires s u S U).mark;
}

opened_cells : (i j : ℕ) → i < STATIONS → j < STATIONS → cells_in opened i j ≡ new_cells
opened_cells i j I J = rw (get_or-replicate STATIONS i new_station no_station I) (get_or-replicate STATIONS j new_cells new_cells J)

pub opened_mirrors : (n : ℕ) → Count n → Mirrors n opened initial
opened_mirrors n C = record {
  form = form_kept.opened n (count_ok_within C);
  wide = record {
    rows = length-replicate STATIONS new_station;
    columns = λ i I. rw (get_or-replicate STATIONS i new_station no_station I) (length-replicate STATIONS new_cells);
  };
  heads = λ s S. ap (λ (r : Station). r.head) (get_or-replicate STATIONS (s - 1) new_station no_station (omega arith));
  wires = λ s u S U. rw (opened_cells (s - 1) (u - 1) (omega arith) (omega arith)) (record { request = refl; answer = refl; mark = refl });
}

module _ {n : ℕ} (C : Count n) {t : List Station} {σ : State} (m : Mirrors n t σ) {s : ℕ} (S : In n s) (a : Node) where
  -- node s becomes a: what it defers is what it rd≔
  marked : (k l : ℕ) → (k ≡ s → a.rd l ≡ (σ.node s).rd l) → (put σ.node s a k).rd l ≡ (σ.node k).rd l
  marked k l f = elim (ℕ_discrete k s) [ yes e ↦ rw (e, put_here) (f e) | no d ↦ rw put_there ]

  module _ (kept : (l : ℕ) → a.rd l ≡ (σ.node s).rd l) where
    kept_wires : (k l : ℕ) → In n k → In n l
        → Wired (σ.chq l k) (σ.chp l k) ((put σ.node s a k).rd l) (cells_in t (k - 1) (l - 1))
    kept_wires k l K L = rw (marked k l (λ _. kept l)) (m.wires k l K L)

    -- no step: the same head shows node s
    pub stays : head_shown n a ≡ head_shown n (σ.node s) → Mirrors n t (record { node = put σ.node s a; chq = σ.chq; chp = σ.chp })
    stays e = record {
      form = m.form;
      wide = m.wide;
      heads = λ k K. elim (ℕ_discrete k s) [
        | yes f ↦ rw (f, put_here) (m.heads s S ∙ sym e)
        | no d ↦ rw put_there (m.heads k K)
      ];
      wires = kept_wires;
    }

  module _ {v : ℕ} (P : In n v) where
    W : Wide t
    W = m.wide

    I : s - 1 < STATIONS
    I = omega arith

    J : v - 1 < STATIONS
    J = omega arith

    -- a step lands between s and v
    module _ (h : Head) (c d : Cells) (q p : ℕ → ℕ → List ℕ)
        (head : h ≡ head_shown n a)
        (mine : s ≢ v → Wired (q v s) (p v s) (a.rd v) c)
        (theirs : Wired (q s v) (p s v) ((put σ.node s a v).rd s) d)
        (requests : (k l : ℕ) → Elsewhere k l s v → Elsewhere k l v s → q l k ≡ σ.chq l k)
        (answers : (k l : ℕ) → Elsewhere k l s v → Elsewhere k l v s → p l k ≡ σ.chp l k)
        (marks : (l : ℕ) → l ≢ v → a.rd l ≡ (σ.node s).rd l) where
      abbrev out : Outcome
      out = outcome_of ACCEPTED h c d

      pub lands : well_formed n (landed (outcome_of ACCEPTED h c d) t (s - 1) (v - 1)) ≡ true
          → Mirrors n (landed (outcome_of ACCEPTED h c d) t (s - 1) (v - 1)) (record { node = put σ.node s a; chq = q; chp = p })
      lands form = record {
        form = form;
        wide = landed_wide out W I J;
        heads = λ k K. elim (ℕ_discrete k s) [
          | yes e ↦ rw (e, put_here) (landed_head out W I J ∙ head)
          | no e ↦ rw put_there (landed_heads out W I J (k - 1) (omega arith) ∙ m.heads k K)
        ];
        wires = λ k l K L. elim (same_pair k v l s) [
          | yes e ↦ rw (e.0, e.1, landed_theirs out W I J) theirs
          | no f ↦ elim (same_pair k s l v) [
            | yes e ↦
                let apart : s ≢ v = λ z. f (e.0 ∙ z, e.1 ∙ sym z) in
                rw (e.0, e.1, landed_mine out W I J (omega arith), put_here) (mine apart)
            | no g ↦ rw (
              requests k l g f,
              answers k l g f,
              marked k l (λ e. marks l (λ z. g (e, z))),
              landed_cells out W I J (k - 1) (l - 1)
                  (λ e. g (omega arith, omega arith))
                  (λ e. f (omega arith, omega arith)),
            ) (m.wires k l K L)
          ]
        ];
      }

    -- a step lands that changes no cell
    pub lands_head : (h : Head) → h ≡ head_shown n a → ((l : ℕ) → a.rd l ≡ (σ.node s).rd l)
        → well_formed n (landed (outcome_of ACCEPTED h (cells_in t (s - 1) (v - 1)) (cells_in t (v - 1) (s - 1))) t (s - 1) (v - 1)) ≡ true
        → Mirrors n (landed (outcome_of ACCEPTED h (cells_in t (s - 1) (v - 1)) (cells_in t (v - 1) (s - 1))) t (s - 1) (v - 1))
        (record { node = put σ.node s a; chq = σ.chq; chp = σ.chp })
    lands_head h e kept = lands h (cells_in t (s - 1) (v - 1)) (cells_in t (v - 1) (s - 1)) σ.chq σ.chp e
        (λ d. rw (kept v) (m.wires s v S P))
        (kept_wires kept v s P S)
        (λ k l _ _. refl)
        (λ k l _ _. refl)
        (λ l _. kept l)
