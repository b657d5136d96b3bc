-- One outcome: any two results that a public function's promise allows are equal. A line for each function. A promise that says more than one equation is the definition that the contract itself cites.
use Rattle.std.specs.Prelude.{◌≡◌, Bool, List, ℕ, nat_eq, Option, Result}
use Rattle.station.specs.declared.Head.{Head}
use Rattle.station.specs.declared.Station.{Station}
use Rattle.station.specs.declared.Step.{Step}
use Rattle.station.specs.declared.places.Place.{Place}
use Rattle.station.specs.declared.places.NoSuchPlace.{NoSuchPlace}
use Rattle.station.specs.declared.codes.Refusal.{Refusal}
use Rattle.station.specs.declared.counts.Count.{Count}
use Rattle.station.specs.Places.{place_number, Reads}
use Rattle.station.specs.Codes.{refusal_code, code_of}
use Rattle.station.specs.Counts.{CountOf}
use Rattle.station.specs.Stations.{count_ok, is_station, stations_ok, named_by, peer_of, index_of, is_asking}
use Rattle.rows.specs.declared.Reach.{Reach}
use Rattle.rows.specs.Rows.{told, outcome}
use Rattle.form.specs.Form.{new_station, record_ok}
use Rattle.table.specs.Table.{OpensTo, well_formed, StepsTo, holder, in_holding, head_of}
use Rattle.frames.specs.declared.Pair.{Pair}
use Rattle.frames.specs.declared.Frame.{Frame}
use Rattle.frames.specs.Frames.{byte_of, pair_of, meaning_of, frame_at}
use Rattle.network.specs.declared.Network.{Network}
use Rattle.network.specs.declared.Stepped.{Stepped}
use Rattle.network.specs.Network.{FreshNetwork, OpensNetwork, StepsNetwork}
use Rattle.session.specs.Session.{RoomFor, Ran}

-- 01, "Contracts that admit one outcome": "any two results allowed by it are equal"
abbrev pub Fixes : {A : Type 0} → (A → Type 0) → Type 0
Fixes {A} promise = (a b : A) → promise a → promise b → a ≡ b

-- a table t, any count n, any step x; where a function changes what is lent to it, the outcome is its result and what it leaves
pub record OneOutcome : Type 0 where
  -- station
  pub count_ok : (n : ℕ) → Fixes {A = Bool} (λ r. r ≡ count_ok n)
  pub is_station : (n s : ℕ) → Fixes {A = Bool} (λ r. r ≡ is_station n s)
  pub stations_ok : (n : ℕ) (x : Step) → Fixes {A = Bool} (λ r. r ≡ stations_ok n x)
  pub named_by : (x : Step) → Fixes {A = ℕ} (λ r. r ≡ named_by x)
  pub peer_of : (x : Step) (next : ℕ) → Fixes {A = ℕ} (λ r. r ≡ peer_of x next)
  pub index_of : (s : ℕ) → Fixes {A = ℕ} (λ r. r ≡ index_of s)
  pub is_asking : (place : ℕ) → Fixes {A = Bool} (λ r. r ≡ is_asking place)
  pub place : (number : ℕ) → Fixes {A = Result Place NoSuchPlace} (λ r. Reads number r)
  pub is_in : (head : Head) (place : Place) → Fixes {A = Bool} (λ r. r ≡ nat_eq head.place (place_number place))
  pub refusal : (refusal : Refusal) → Fixes {A = ℕ} (λ r. r ≡ refusal_code refusal)
  pub code : (answer : Result (Unit {0}) Refusal) → Fixes {A = ℕ} (λ r. r ≡ code_of answer)
  pub count : (n : ℕ) → Fixes {A = Option Count} (λ r. CountOf n r)
  -- rows
  pub act : (n : ℕ) (x : Step) (reach : Reach) → Fixes {A = Result Reach Refusal} (λ r. told reach r ≡ outcome n x reach.head reach.mine reach.theirs)
  -- form
  pub new_station : Fixes {A = Station} (λ r. r ≡ new_station)
  pub record_ok : (n s : ℕ) (r : Station) → Fixes {A = Bool} (λ b. b ≡ record_ok n s r)
  -- table
  pub open_table : (n : ℕ) (t : List Station) → Fixes {A = Result (Unit {0}) Refusal × List Station} (λ o. OpensTo n t (code_of o.0) o.1)
  pub well_formed : (n : ℕ) (t : List Station) → Fixes {A = Bool} (λ r. r ≡ well_formed n t)
  pub step : (n : ℕ) (t : List Station) (x : Step) → Fixes {A = Result (Unit {0}) Refusal × List Station} (λ o. StepsTo n x t (code_of o.0) o.1)
  pub holder_of : (t : List Station) → Fixes {A = Option ℕ} (λ r. r ≡ in_holding (holder t))
  pub head_of : (t : List Station) (s : ℕ) → Fixes {A = Head} (λ r. r ≡ head_of t s)
  -- frames
  pub byte_of : (high low : ℕ) → Fixes {A = Option ℕ} (λ r. r ≡ byte_of high low)
  pub pair_of : (byte : ℕ) → Fixes {A = Pair} (λ r. r ≡ pair_of byte)
  pub meaning_of : (kind station other : ℕ) → Fixes {A = Option Frame} (λ r. r ≡ meaning_of kind station other)
  pub frame_at : (input : List ℕ) (at : ℕ) → Fixes {A = Option Frame} (λ r. r ≡ frame_at input at)
  -- network
  pub fresh_network : (n : ℕ) → Fixes {A = Network} (λ r. FreshNetwork n r)
  pub open_network : (n : ℕ) → Fixes {A = Result Network Refusal} (λ r. OpensNetwork n r)
  pub step_network : (was : Network) (x : Step) → Fixes {A = Stepped × Network} (λ o. StepsNetwork was x o.0 o.1)
  -- session; of `run` the outcome is the count and the whole output buffer
  pub room_for : (len most : ℕ) → Fixes {A = ℕ} (λ r. RoomFor len most r)
  pub run : (input old : List ℕ) → Fixes {A = Option ℕ × List ℕ} (λ o. Ran input old o.1 o.0)
