-- What `answer` and `after` come to: on a table that is well formed they are the core's, and on any other a refusal.
use mathlib.Core.Path.{◌≡◌, refl}
use Prim.Native.Nat.{ℕ, ◌<◌}
use native.Mathlib.Omega.{arith}
use mathlib.Core.Bool.{true}
use mathlib.Core.List.{List}
use lib.Dec.{eqb}
use lib.ListN.{length, length-set}
use Rattle.station.specs.declared.Station.{Station}
use Rattle.station.specs.declared.Step.{Step}
use Rattle.station.specs.Names.{STATIONS, ACCEPTED}
use Rattle.station.specs.Stations.{count_ok}
use Rattle.std.proofs.lemmas.Bool.{and_parts, cond_both}
use Rattle.std.proofs.lemmas.Bool.Decides.{nat_tests}
use Rattle.table.proofs.Leaves.{outcome_leaves}
use Rattle.table.specs.Table.{records_ok, sized, well_formed, seat, peer_seat, outcome_in, landed, answer, after}
use Rattle.table.proofs.Unchanged.{unchanged}

-- what the form says, part by part
module _ (n : ℕ) (t : List Station) (form : well_formed n t ≡ true) where
  pub formed_size : sized (length t) n ≡ true
  unfolding well_formed
  formed_size = (and_parts (sized (length t) n) _ form).0

  pub formed_length : length t ≡ STATIONS
  unfolding well_formed sized
  formed_length = grind (arith, nat_tests)

  pub formed_count : count_ok n ≡ true
  unfolding well_formed sized
  formed_count = grind (arith, nat_tests)

  pub formed_records : records_ok n 1 t ≡ true
  unfolding well_formed
  formed_records = (and_parts (sized (length t) n) _ form).1

module _ (n : ℕ) (t : List Station) (x : Step) where
  abbrev pub done : List Station
  done = landed (outcome_in n t x) t (seat x) (peer_seat t x)

  -- stored or not, what a step leaves is the table with its outcome
  pub passed : well_formed n t ≡ true → ((outcome_in n t x).code ≡ answer n t x) × (done ≡ after n t x)
  unfolding answer after
  passed form = rw form (refl, cond_both (eqb (outcome_in n t x).code ACCEPTED) _ _ (◌≡◌ done) (λ _. refl) (unchanged n x t (seat x) (peer_seat t x)))

  pub answer_byte : answer n t x < 256
  unfolding answer
  answer_byte = cond_both (well_formed n t) _ _ (λ (code : ℕ). code < 256) (λ _. (outcome_leaves _ _ _ n x).byte) (λ _. omega arith)

  pub after_length : length (after n t x) ≡ length t
  unfolding after
  after_length = cond_both (eqb (answer n t x) ACCEPTED) _ _ (λ (u : List Station). length u ≡ length t) (λ _. simp length-set) (λ _. refl)
