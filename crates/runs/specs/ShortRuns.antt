-- Runs of our rules that meet the bounds of the demands, so that these are not empty. All of them are at N = 2.
use Rattle.std.specs.Prelude.{◌≡◌, List, [], ◌∷◌, ◌++◌, ℕ, zero, suc}
use Rattle.station.specs.declared.Station.{Station}
use Rattle.station.specs.declared.Step.{Step}
use Rattle.station.specs.declared.Step.TheVariants.{Ask, Send, Enter, Leave, Give, TakeRequest, TakeAnswer}
use Rattle.station.specs.Names.{ACCEPTED, NO_NUMBER_LEFT}
use Rattle.table.specs.Table.{head_in, cells_in, answer, after}
use Rattle.engines.specs.Engines.{ours, table_after, reached, accepted_of, entries}

-- 01, "Both sides of each edge": "Tie, N = 2, both asked with number 1 and both sent to the end"
abbrev pub tie : List Step
tie = Ask 1 ∷ Ask 2 ∷ Send 1 ∷ Send 1 ∷ Send 2 ∷ Send 2 ∷ []

-- ---- one_entry's bound is met: in the tie station 1 takes 2's request, then enters once before 2 does
-- the table in which 1 has just taken 2's request
abbrev pub taking : List Station
taking = after 2 (reached ours 2 tie) (TakeRequest 1 2)

-- what is offered then
abbrev pub once : List Step
once = TakeRequest 2 1 ∷ TakeAnswer 1 2 ∷ Enter 1 ∷ []

-- the taking is accepted, 2 does not enter, 1 enters once
pub record BoundMet : Type 0 where
  pub taken : answer 2 (reached ours 2 tie) (TakeRequest 1 2) ≡ ACCEPTED
  pub waits : entries ours 2 2 taking once ≡ 0
  pub enters : entries ours 2 1 taking once ≡ 1

-- ---- "In the tie, if 1 never takes 2's request, 1 enters, leaves, gives, asks again with number 1 and is answered again. That may repeat"
-- 2 has answered 1, and 1 has not taken 2's request
abbrev pub untaken : List Station
untaken = reached ours 2 (tie ++ (TakeRequest 2 1 ∷ []))

-- 1 takes the answer, has its turn, asks again and is answered again
abbrev pub lap : List Step
lap = TakeAnswer 1 2 ∷ Enter 1 ∷ Leave 1 ∷ Give 1 ∷ Give 1 ∷ Ask 1 ∷ Send 1 ∷ Send 1 ∷ TakeRequest 2 1 ∷ []

-- k such laps
unfoldable pub laps : ℕ → List Step
laps zero = []
laps (suc k) = lap ++ laps k

-- 1's number is 1 and 2's request under way; a lap is accepted whole and leaves the table as it was; in k laps 1 enters k times
pub record Repeats : Type 0 where
  pub number : (head_in untaken 0).own ≡ 1
  pub request : (cells_in untaken 0 1).request ≡ 1
  pub accepted : accepted_of ours 2 untaken lap ≡ lap
  pub unchanged : (k : ℕ) → table_after ours 2 untaken (laps k) ≡ untaken
  pub enters : (k : ℕ) → entries ours 2 1 untaken (laps k) ≡ k

-- ---- a run from the opened table that ends with Ask refused by 7: 1 and 2 ask in turn, each with the next number, and last 1 with 65,535
-- s asks, sends, is answered by t, enters, leaves and gives
abbrev pub round : ℕ → ℕ → List Step
round s t = Ask s ∷ Send s ∷ Send s ∷ TakeRequest t s ∷ TakeAnswer s t ∷ Enter s ∷ Leave s ∷ Give s ∷ Give s ∷ []

-- 2 k + 1 rounds, of 1 and 2 in turn
unfoldable pub rounds : ℕ → List Step
rounds zero = round 1 2
rounds (suc k) = round 1 2 ++ (round 2 1 ++ rounds k)

-- after 65,535 of them 2 has seen 65,535
abbrev pub NumbersEnd : Type 0
NumbersEnd = answer 2 (reached ours 2 (rounds 32767)) (Ask 2) ≡ NO_NUMBER_LEFT
