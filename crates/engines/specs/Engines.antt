-- An engine's rules, any pair of an answer and an after, and what they make of a list of offered steps. Every claim about the network is stated of an engine.
use Rattle.std.specs.Prelude.{Bool, false, cond, ◌&&◌, List, [], ◌∷◌, ℕ, ◌+◌, nat_eq}
use Rattle.station.specs.declared.Station.{Station}
use Rattle.station.specs.declared.Step.{Step}
use Rattle.station.specs.declared.Step.TheVariants.{Ask, Send, Enter, Leave, Give, TakeRequest, TakeAnswer}
use Rattle.station.specs.Names.{ACCEPTED}
use Rattle.table.specs.Table.{opened, answer, after}
use Rattle.figure1.specs.Assertions.{bit}

-- an engine is what it answers to a step and what it leaves, for any count and table
pub record Engine : Type 0 where
  pub answer : ℕ → List Station → Step → ℕ
  pub after : ℕ → List Station → Step → List Station

-- the rules that the contract of `table::step` cites
abbrev pub ours : Engine
ours = record { answer = answer; after = after }

-- 01, code 0: "accepted"
abbrev pub accepts : Engine → ℕ → List Station → Step → Bool
accepts E n t x = nat_eq (E.answer n t x) ACCEPTED

-- the table after a list of offered steps, refused ones among them
unfoldable pub table_after : Engine → ℕ → List Station → List Step → List Station
table_after E n t [] = t
table_after E n t (x ∷ xs) = table_after E n (E.after n t x) xs

-- "Open a network .. and offer any list of steps, refused ones among them"
abbrev pub reached : Engine → ℕ → List Step → List Station
reached E n xs = table_after E n opened xs

-- those of the steps that are accepted
unfoldable pub accepted_of : Engine → ℕ → List Station → List Step → List Step
accepted_of E n t [] = []
accepted_of E n t (x ∷ xs) = cond (accepts E n t x) (x ∷ accepted_of E n (E.after n t x) xs) (accepted_of E n (E.after n t x) xs)

-- Enter y, 01's step 2
abbrev pub enters : ℕ → Step → Bool
enters y (Ask s) = false
enters y (Send s) = false
enters y (Enter s) = nat_eq s y
enters y (Leave s) = false
enters y (Give s) = false
enters y (TakeRequest s t) = false
enters y (TakeAnswer s t) = false

-- how often Enter y is accepted
unfoldable pub entries : Engine → ℕ → ℕ → List Station → List Step → ℕ
entries E n y t [] = 0
entries E n y t (x ∷ xs) = bit (accepts E n t x && enters y x) + entries E n y (E.after n t x) xs
