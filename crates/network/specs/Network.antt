-- A network with its own table: what its opening and a step give, by the rules of the table.
use Rattle.std.specs.Prelude.{ℕ, ◌≡◌, List, Result, IfOk}
use Rattle.station.specs.declared.Head.{Head}
use Rattle.station.specs.declared.Station.{Station}
use Rattle.station.specs.declared.Step.{Step}
use Rattle.station.specs.declared.codes.Refusal.{Refusal}
use Rattle.station.specs.Codes.{code_of}
use Rattle.station.specs.Stations.{named_by}
use Rattle.table.specs.Table.{head_of, opened, open_answer, answer, after, holder, in_holding}
use Rattle.network.specs.declared.Network.{Network}
use Rattle.network.specs.declared.Stepped.{Stepped}

-- an opening as 01 tells it: a code, and the table
pub record OpeningTold : Type 0 where
  pub code : ℕ
  pub table : List Station

-- an opened table with its code; a refused opening leaves the records that it was given, here new ones
unfoldable pub opened_for : ℕ → OpeningTold
opened_for n = record { code = open_answer n opened; table = opened }

-- that table with a count beside it, any count: what `fresh` promises
abbrev pub FreshNetwork : ℕ → Network → Type 0
FreshNetwork n new = (new.count ≡ n) × (new.table ≡ (opened_for n).table)

-- what `open` promises: that code, and where it is 0 that network
pub record OpensNetwork (n : ℕ) (r : Result Network Refusal) : Type 0 where
  pub answers : code_of r ≡ (opened_for n).code
  pub leaves : IfOk r (FreshNetwork n)

-- a step as 01 tells it: a code, the head of the named station after the step, the station in Holding (0: none), and the table
pub record StepTold : Type 0 where
  pub code : ℕ
  pub head : Head
  pub holder : ℕ
  pub table : List Station

-- the table after a step, with its code, the head of the named station and the station in Holding
unfoldable pub stepped_by : List Station → ℕ → Step → StepTold
stepped_by t n x =
    record { code = answer n t x; head = head_of (after n t x) (named_by x); holder = holder (after n t x); table = after n t x }

-- what `step` promises: these four, and the count as it was
pub record StepsNetwork (was : Network) (x : Step) (r : Stepped) (now : Network) : Type 0 where
  pub answers : code_of r.answer ≡ (stepped_by was.table was.count x).code
  pub head : r.head ≡ (stepped_by was.table was.count x).head
  pub holder : r.holder ≡ in_holding (stepped_by was.table was.count x).holder
  pub leaves : now.table ≡ (stepped_by was.table was.count x).table
  pub count : now.count ≡ was.count
