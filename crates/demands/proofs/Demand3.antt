-- Demand 3 follows from demand 2, whatever the engine: its tables show the program's states, and there the paper's assertions hold.
use mathlib.Core.Path.{◌≡◌, refl, sym, ◌∙◌, ap}
use mathlib.Core.Logic.{inl, inr}
use mathlib.Core.Bool.{Bool, true, false, not, ◌&&◌}
use mathlib.Core.List.{List, ◌∷◌, ◌++◌}
use Prim.Native.Nat.{ℕ, ◌+◌, ◌-◌, ◌≤◌}
use native.Mathlib.Omega.{arith}
use lib.Dec.{eqb, ltb}
use lib.ListN.{length}
use Rattle.std.proofs.lemmas.Bool.{cases_Bool}
use Rattle.std.proofs.lemmas.Bool.Decides.{nat_tests}
use Rattle.station.specs.declared.Head.{Head}
use Rattle.station.specs.declared.Station.{Station}
use Rattle.station.specs.declared.Step.TheVariants.{TakeRequest}
use Rattle.station.specs.Names.{HOLDING}
use Rattle.table.specs.Table.{head_in, cells_in, opened}
use Rattle.figure1.specs.Figure1.{Location, m1, m2, m31, m32, m4, m5, m6, m71, m72, Node, State}
use Rattle.figure1.specs.Assertions.{bit, In, entered, sending, is, weight}
use Rattle.figure1.proofs.Theorems.{asserted, excl_or_leaving}
use Rattle.figure1.proofs.Overtaking.{overtakes_once}
use Rattle.engines.specs.Engines.{ours, reached}
use Rattle.demands.specs.Demands.{place_at, request_queue, answer_queue, Shows, under_way, Demand3, Demand3Follows}
use Rattle.demands.proofs.Lists.{run_after, begun, accepted_next, entries_words}
use Rattle.demands.proofs.Demand2.{demand_2}

-- ---- at most one station holds the turn
holding_entered : (n : ℕ) (l : Location) (a : Node) → place_at n l a ≡ HOLDING → entered l ≡ true
holding_entered n m1 a h = absurd (omega arith)
holding_entered n m2 a h = absurd (omega arith)
holding_entered n m31 a h = grind (arith, nat_tests)
holding_entered n m32 a h = absurd (omega arith)
holding_entered n m4 a h = absurd (omega arith)
holding_entered n m5 a h = refl
holding_entered n m6 a h = refl
holding_entered n m71 a h = grind (arith, nat_tests)
holding_entered n m72 a h = absurd (omega arith)

holder_entered : {n : ℕ} {t : List Station} {σ : State} → Shows n t σ → (s : ℕ) → In n s → (head_in t (s - 1)).place ≡ HOLDING
    → entered (σ.node s).at ≡ true
holder_entered {n = n} {σ = σ} S s H e =
    holding_entered n (σ.node s).at (σ.node s) (sym (ap (λ (h : Head). h.place) (S.heads s H)) ∙ e)

-- ---- one errand of a pair at most
requests_shown : (r : ℕ) → length (request_queue r) ≡ bit (not (eqb r 0))
requests_shown r = elim (cases_Bool (eqb r 0)) [ inl e ↦ rw e | inr e ↦ rw e ]

answers_shown : (b : Bool) → length (answer_queue b) ≡ bit b
answers_shown true = refl
answers_shown false = refl

weight_shown : {n : ℕ} {t : List Station} {σ : State} → Shows n t σ → (i j : ℕ) → In n i → In n j → under_way t i j ≡ weight σ i j
weight_shown {t = t} {σ = σ} S i j H K =
    let q = ap length (S.requests j i K H) ∙ requests_shown (cells_in t (j - 1) (i - 1)).request in
    let m = ap bit (S.marks j i K H) in
    let r = ap length (S.answers i j H K) ∙ answers_shown (cells_in t (i - 1) (j - 1)).answer in
    omega arith

not_both : (b : Bool) (l : Location) → bit (sending l && b) + bit (is l m4) ≤ 1
not_both b m1 = omega arith
not_both b m2 = omega arith
not_both b m31 = grind (arith, nat_tests)
not_both b m32 = grind (arith, nat_tests)
not_both b m4 = omega arith
not_both b m5 = omega arith
not_both b m6 = omega arith
not_both b m71 = omega arith
not_both b m72 = omega arith

pub demand_3_follows : Demand3Follows
demand_3_follows E D n C = record {
  one_holder = λ xs i j H K h k.
      let F = (D n C).follows xs in
      excl_or_leaving F.run i j H K (holder_entered F.shows i H h) (holder_entered F.shows j K k);
  one_errand = λ xs i j H K.
      let F = (D n C).follows xs in
      omega (arith, weight_shown F.shows i j H K, (asserted F.run).message_chain i j H K, not_both (ltb j (F.state.node i).p) (F.state.node i).at);
  one_entry = λ xs y z h ys none.
      let F = (D n C).follows xs in
      let t = E.after n (reached E n xs) (TakeRequest y z) in
      let whole = ((D n C).follows (xs ++ (TakeRequest y z ∷ ys))).run in
      let Q = begun (run_after F.run (rw (accepted_next E n opened xs (TakeRequest y z) ys h) at whole)) in
      omega (arith, entries_words E n y t ys, overtakes_once _ _ _ _ _ y z F.run Q.0 Q.1 (sym (entries_words E n z t ys) ∙ none));
}

pub demand_3 : Demand3 ours
demand_3 = demand_3_follows ours demand_2
