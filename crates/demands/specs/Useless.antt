-- The four useless engines of 01, "Contracts that admit one outcome", and that demand 2 shuts each out.
use Rattle.std.specs.Prelude.{◌≡◌, ◌≢◌, Bool, true, cond, ◌&&◌, List, [], ◌∷◌, ℕ, nat_eq}
use Rattle.station.specs.declared.Station.{Station}
use Rattle.station.specs.Names.{IDLE, ACCEPTED}
use Rattle.station.specs.Stations.{count_ok}
use Rattle.table.specs.Table.{answer, after}
use Rattle.engines.specs.Engines.{Engine}
use Rattle.demands.specs.Demands.{Demand2, OneHolder}

-- "one that refuses everything", with whichever code
abbrev pub refuses_all : ℕ → Engine
refuses_all code = record { answer = λ n t x. code; after = λ n t x. t }

-- "one that always reports code 0 with an unchanged table"
abbrev pub says_accepted : Engine
says_accepted = record { answer = λ n t x. ACCEPTED; after = λ n t x. t }

-- "one that does nothing": it answers by the rules, and keeps the table
abbrev pub does_nothing : Engine
does_nothing = record { answer = answer; after = λ n t x. t }

-- no station has left Idle: so it is until the first accepted step, which is an Ask
unfoldable pub all_idle : List Station → Bool
all_idle [] = true
all_idle (r ∷ rs) = nat_eq r.head.place IDLE && all_idle rs

-- "one that works its first step and then only repeats code 0"
abbrev pub works_once : Engine
works_once = record {
  answer = λ n t x. cond (all_idle t) (answer n t x) ACCEPTED;
  after = λ n t x. cond (all_idle t) (after n t x) t;
}

-- "demand 2 shuts out all four"
pub record ShutsOut : Type 0 where
  pub refuses_all : (code : ℕ) → code ≢ ACCEPTED → Demand2 (refuses_all code) → ⊥
  pub says_accepted : Demand2 says_accepted → ⊥
  pub does_nothing : Demand2 does_nothing → ⊥
  pub works_once : Demand2 works_once → ⊥

-- "Each passes demand 3's first sentence", for "a network of 2 to 32 stations"
pub record PassFirstSentence : Type 0 where
  pub refuses_all : (code n : ℕ) → count_ok n ≡ true → OneHolder (refuses_all code) n
  pub says_accepted : (n : ℕ) → count_ok n ≡ true → OneHolder says_accepted n
  pub does_nothing : (n : ℕ) → count_ok n ≡ true → OneHolder does_nothing n
  pub works_once : (n : ℕ) → count_ok n ≡ true → OneHolder works_once n
