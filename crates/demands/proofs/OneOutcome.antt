-- Every public function's promise fixes its outcome: most promises are an equation, and two things equal to a third are equal; of an answer they fix the code, and that tells the answer.
use mathlib.Core.Path.{◌≡◌, refl, sym, ap, ◌∙◌}
use mathlib.Core.Bool.{false≢true}
use mathlib.Core.List.{List}
use mathlib.Core.HLevel.{is_prop→PathP, ×_prop}
use Prim.Native.Nat.{ℕ, ◌≤◌}
use Rattle.std.proofs.Math.Bridge.{le_prop}
use native.Mathlib.Omega.{arith}
use Rattle.std.specs.Prelude.{Option, Some, None, Result, Ok, Err}
use Rattle.station.specs.declared.Step.{Step}
use Rattle.station.specs.declared.places.Place.{Place}
use Rattle.station.specs.declared.places.NoSuchPlace.{NoSuchPlace}
use Rattle.station.specs.declared.codes.Refusal.{Refusal}
use Rattle.station.specs.declared.counts.Count.{Count}
use Rattle.station.specs.Names.{STATIONS}
use Rattle.station.specs.Places.{Reads}
use Rattle.station.specs.Codes.{code_of}
use Rattle.station.specs.Counts.{CountOf}
use Rattle.station.proofs.Tells.{refusal_above, refusal_tells, answer_tells, place_most, place_tells}
use Rattle.rows.specs.declared.Reach.{Reach}
use Rattle.rows.specs.Rows.{Outcome, told, outcome}
use Rattle.network.specs.declared.Network.{Network}
use Rattle.network.specs.declared.Stepped.{Stepped}
use Rattle.network.specs.Network.{FreshNetwork, OpensNetwork, StepsNetwork}
use Rattle.session.specs.Session.{Ran}
use Rattle.demands.specs.OneOutcome.{Fixes, OneOutcome}

equation : {A : Type 0} (d : A) → Fixes {A = A} (λ r. r ≡ d)
equation d a b p q = p ∙ sym q

-- an answer and what is left of what was lent
answered : {B : Type 0} {r r' : Result (Unit {0}) Refusal} {code : ℕ} {b b' e : B} → code_of r ≡ code → b ≡ e → code_of r' ≡ code → b' ≡ e → ◌≡◌ {A = Result (Unit {0}) Refusal × B} (r, b) (r', b')
answered p q u v = λ i. (answer_tells _ _ (λ _ _ _ _. refl) (p ∙ sym u) i, (q ∙ sym v) i)

place : (number : ℕ) → Fixes {A = Result Place NoSuchPlace} (λ r. Reads number r)
place number (Ok a) (Ok b) p q = ap Ok (place_tells a b (p ∙ sym q))
place number (Ok a) (Err none) p q = absurd (omega (arith, place_most a))
place number (Err none) (Ok b) p q = absurd (omega (arith, place_most b))
place number (Err a) (Err b) p q = λ i. Err (record { 0 = (p.0 ∙ sym q.0) i })

count : (n : ℕ) → Fixes {A = Option Count} (λ r. CountOf n r)
count n (Some a) (Some b) p q =
    let e : a.value ≡ b.value = p.0 ∙ sym q.0 in
    λ i. Some (record { value = e i; in_range = is_prop→PathP (λ j. (2 ≤ e j) × (e j ≤ STATIONS)) (λ j. ×_prop le_prop le_prop) a.in_range b.in_range i })
count n (Some a) None p q = absurd (false≢true (sym q ∙ p.1))
count n None (Some b) p q = absurd (false≢true (sym p ∙ q.1))
count n None None p q = refl

act : (n : ℕ) (x : Step) (reach : Reach) → Fixes {A = Result Reach Refusal} (λ r. told reach r ≡ outcome n x reach.head reach.mine reach.theirs)
act n x reach a b p q = same a b (p ∙ sym q)
  where
    same : (a b : Result Reach Refusal) → told reach a ≡ told reach b → a ≡ b
    same (Ok u) (Ok v) e = λ i. Ok (record { head = (e i).head; mine = (e i).mine; theirs = (e i).theirs })
    same (Ok u) (Err r) e = absurd (omega (arith, refusal_above r, ap (λ (o : Outcome). o.code) e))
    same (Err r) (Ok v) e = absurd (omega (arith, refusal_above r, ap (λ (o : Outcome). o.code) e))
    same (Err r) (Err s) e = ap Err (refusal_tells r s (ap (λ (o : Outcome). o.code) e))

fresh_network : (n : ℕ) → Fixes {A = Network} (λ r. FreshNetwork n r)
fresh_network n a b p q = λ i. record { count = (p.0 ∙ sym q.0) i; table = (p.1 ∙ sym q.1) i }

open_network : (n : ℕ) → Fixes {A = Result Network Refusal} (λ r. OpensNetwork n r)
open_network n a b p q = answer_tells a b same (p.answers ∙ sym q.answers)
  where
    same : (x y : Network) → a ≡ Ok x → b ≡ Ok y → x ≡ y
    same x y f g =
        fresh_network n x y (rw f at p.leaves) (rw g at q.leaves)

step_network : (was : Network) (x : Step) → Fixes {A = Stepped × Network} (λ o. StepsNetwork was x o.0 o.1)
step_network was x a b p q =
    let answer : a.0.answer ≡ b.0.answer = answer_tells _ _ (λ _ _ _ _. refl) (p.answers ∙ sym q.answers) in
    let head : a.0.head ≡ b.0.head = p.head ∙ sym q.head in
    let holder : a.0.holder ≡ b.0.holder = p.holder ∙ sym q.holder in
    let table : a.1.table ≡ b.1.table = p.leaves ∙ sym q.leaves in
    let count : a.1.count ≡ b.1.count = p.count ∙ sym q.count in
    λ i. (record { answer = answer i; head = head i; holder = holder i }, record { count = count i; table = table i })

ran : (input old : List ℕ) → Fixes {A = Option ℕ × List ℕ} (λ o. Ran input old o.1 o.0)
ran input old a b p q = λ i. ((p.count ∙ sym q.count) i, (p.bytes ∙ sym q.bytes) i)

pub one_outcome : OneOutcome
one_outcome = record {
  count_ok = λ n. equation _;
  is_station = λ n s. equation _;
  stations_ok = λ n x. equation _;
  named_by = λ x. equation _;
  peer_of = λ x next. equation _;
  index_of = λ s. equation _;
  is_asking = λ place. equation _;
  place = place;
  is_in = λ head place. equation _;
  refusal = λ refusal. equation _;
  code = λ answer. equation _;
  count = count;
  act = act;
  new_station = equation _;
  record_ok = λ n s r. equation _;
  open_table = λ n t a b p q. answered p.answers p.leaves q.answers q.leaves;
  well_formed = λ n t. equation _;
  step = λ n t x a b p q. answered p.answers p.leaves q.answers q.leaves;
  holder_of = λ t. equation _;
  head_of = λ t s. equation _;
  byte_of = λ high low. equation _;
  pair_of = λ byte. equation _;
  meaning_of = λ kind station other. equation _;
  frame_at = λ input at. equation _;
  fresh_network = fresh_network;
  open_network = open_network;
  step_network = step_network;
  room_for = λ len most a b p q. equation _ a b p.room q.room;
  run = ran;
}
