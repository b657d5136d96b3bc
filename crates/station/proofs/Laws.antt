-- The tests of a count and of stations, as bounds.
use Prim.Native.Nat.{ℕ, ◌≤◌, ◌<◌}
use native.Mathlib.Omega.{arith}
use mathlib.Core.Bool.{true}
use mathlib.Core.Path.{◌≡◌}
use mathlib.Core.Logic.{◌≢◌}
use Rattle.std.proofs.lemmas.Bool.Decides.{nat_tests}
use Rattle.station.specs.declared.Step.TheVariants.{TakeRequest}
use Rattle.station.specs.Names.{STATIONS}
use Rattle.station.specs.Stations.{count_ok, is_station, stations_ok, index_of}

-- 2 to 32, as bounds
abbrev pub Count : ℕ → Type 0
Count n = (2 ≤ n) × (n ≤ STATIONS)

pub count_range : (n : ℕ) → count_ok n ≡ true → Count n
unfolding count_ok
count_range n e = grind (arith, nat_tests)

pub count_ok_within : {n : ℕ} → Count n → count_ok n ≡ true
unfolding count_ok
count_ok_within C = grind (arith, nat_tests)

pub station_range : (n s : ℕ) → is_station n s ≡ true → (1 ≤ s) × (s ≤ n)
unfolding is_station
station_range n s e = grind (arith, nat_tests)

pub index_below : (s : ℕ) → index_of s < STATIONS
unfolding index_of
index_below s = omega arith

-- the two of a take
pub two_stations : (n s t : ℕ) → stations_ok n (TakeRequest s t) ≡ true → (is_station n s ≡ true) × (is_station n t ≡ true) × (s ≢ t)
unfolding stations_ok
two_stations n s t e = grind (arith, nat_tests)
