-- Demand 2 of the rules that the contract of the table's step cites.
use mathlib.Core.Path.{◌≡◌}
use mathlib.Core.Logic.{◌≢◌, ◌⊎◌, inl, inr}
use mathlib.Core.List.{List, [], ◌∷◌}
use Prim.Native.Nat.{ℕ}
use native.Mathlib.Omega.{arith}
use borrow.Author.Tests.{ne_eqb}
use Rattle.station.specs.declared.Station.{Station}
use Rattle.station.specs.declared.Step.{Step}
use Rattle.station.specs.Names.{ACCEPTED, NOT_WELL_FORMED, AT_ODDS}
use Rattle.station.proofs.Laws.{Count, count_range}
use Rattle.table.specs.Table.{opened, answer, after}
use Rattle.figure1.specs.Figure1.{State, initial, Label, Run, stop}
use Rattle.figure1.proofs.Reached.{counting}
use Rattle.figure1.proofs.Slots.{one_message}
use Rattle.figure1.proofs.Runs.{run_append, run_determined}
use Rattle.engines.specs.Engines.{ours, table_after, accepted_of, reached}
use Rattle.demands.specs.Demands.{word, words, Takes, Demand2}
use Rattle.demands.proofs.Mirrors.{Mirrors, shows, opened_mirrors}
use Rattle.demands.proofs.Works.{Works}
use Rattle.demands.proofs.Matching.{run_follows, word_works}
use Rattle.demands.proofs.Settled.{Settled, settled_initial, Proceeds}
use Rattle.demands.proofs.Verdicts.{Refused, verdict}

-- what the steps xs, offered from t on, make of the table and of the program
record Course (n : ℕ) (t : List Station) (σ : State) (xs : List Step) : Type 0 where
  next : State
  run : Run n σ (words (accepted_of ours n t xs)) next
  mirrors : Mirrors n (table_after ours n t xs) next
  settled : Settled n next.node

unmoved : (n : ℕ) (t : List Station) (x : Step) → Refused (answer n t x) → after n t x ≡ t
unfolding after
unmoved n t x r = rw (ne_eqb (answer n t x) ACCEPTED r.0)

module _ {n : ℕ} (C : Count n) where
  -- the first step taken or refused, and the others from there
  go_on : {ls : List Label} {σ : State} {t : List Station} (R : Run n initial ls σ) (m : Mirrors n t σ) (H : Settled n σ.node) (x : Step) (xs : List Step)
      → ((ks : List Label) (τ : State) (u : List Station) → Run n initial ks τ → Mirrors n u τ → Settled n τ.node → Course n u τ xs)
      → Proceeds n σ x ⊎ Refused (answer n t x) → Course n t σ (x ∷ xs)
  unfolding table_after accepted_of words
  go_on {t = t} R m H x xs others (inl p) =
      let W = word_works C R m x p.takes.run p.takes.number in
      let c = others _ p.takes.next (after n t x) (run_append R p.takes.run) W.mirrors p.settled in
      record { next = c.next; run = rw W.code (run_append p.takes.run c.run); mirrors = c.mirrors; settled = c.settled }
  go_on {σ = σ} {t = t} R m H x xs others (inr r) =
      let c = others _ σ t R m H in
      record {
        next = c.next;
        run = rw (ne_eqb (answer n t x) ACCEPTED r.0, unmoved n t x r) c.run;
        mirrors = rw (unmoved n t x r) c.mirrors;
        settled = c.settled;
      }

  course : {ls : List Label} {σ : State} {t : List Station} → Run n initial ls σ → Mirrors n t σ → Settled n σ.node → (xs : List Step)
      → Course n t σ xs
  unfolding table_after accepted_of words
  course {σ = σ} R m H [] = record { next = σ; run = stop; mirrors = m; settled = H }
  course R m H (x ∷ xs) = go_on R m H x xs (λ ks τ u Q W S. course Q W S xs) (verdict C R m H x)

  -- the state that the program has when the steps xs have been offered
  module _ (xs : List Step) where
    now : Course n opened initial xs
    now = course stop (opened_mirrors n C) (settled_initial n) xs

    module _ {σ : State} (R : Run n initial (words (accepted_of ours n opened xs)) σ) where
      same : σ ≡ now.next
      same = run_determined R now.run

      mirrored : Mirrors n (reached ours n xs) σ
      mirrored = rw same now.mirrors

      judged : (x : Step) → Proceeds n σ x ⊎ Refused (answer n (reached ours n xs) x)
      judged x = verdict C R mirrored (rw same now.settled) x

      taken : (x : Step) → answer n (reached ours n xs) x ≡ ACCEPTED → Takes n σ x
      taken x e = elim (judged x) [ inl p ↦ p.takes | inr r ↦ absurd (r.0 e) ]

      landed : (x : Step) (τ : State) → Takes n σ x → Run n σ (word x) τ → Works n (reached ours n xs) x τ
      landed x τ T Q = word_works C R mirrored x Q T.number

never : (n : ℕ) (C : Count n) (xs : List Step) (x : Step) → Proceeds n (now C xs).next x ⊎ Refused (answer n (reached ours n xs) x)
    → (answer n (reached ours n xs) x ≢ NOT_WELL_FORMED) × (answer n (reached ours n xs) x ≢ AT_ODDS)
never n C xs x (inl p) = rw (landed C xs (now C xs).run x p.takes.next p.takes p.takes.run).code (omega arith)
never n C xs x (inr r) = (r.1, r.2)

pub demand_2 : Demand2 ours
demand_2 n ok =
    let C = count_range n ok in
    record {
      follows = λ xs. let c = now C xs in record { state = c.next; run = c.run; shows = shows c.mirrors };
      accepted_takes = λ xs σ R x e. taken C xs R x e;
      takes_accepted = λ xs σ R x T. (landed C xs R x T.next T T.run).code;
      lands = λ xs σ R x e τ Q. shows (landed C xs R x τ (taken C xs R x e) Q).mirrors;
      matched = λ ls σ R h. let F = run_follows C stop (opened_mirrors n C) R h in (F.0, shows F.1);
      never_2_or_8 = λ xs x. never n C xs x (judged C xs (now C xs).run x);
      one_slot = λ ls σ R s t S T. one_message (counting R) s t S T;
    }
