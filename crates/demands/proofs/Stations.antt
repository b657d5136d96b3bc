-- Stations and counts against the tests of them, in the rules and in Figure 1.
use mathlib.Core.Path.{◌≡◌}
use mathlib.Core.Bool.{true}
use Prim.Native.Nat.{ℕ, ◌-◌}
use native.Mathlib.Omega.{arith}
use borrow.Author.Tests.{le-leb}
use Rattle.station.specs.Stations.{is_station, index_of}
use Rattle.station.proofs.Laws.{Count, station_range}
use Rattle.figure1.specs.Figure1.{is_node}
use Rattle.figure1.specs.Assertions.{In}

module _ {n s : ℕ} where
  pub is_node_in : In n s → is_node n s ≡ true
  is_node_in S = rw (le-leb 1 s S.low, le-leb s n S.high)

  pub is_station_in : In n s → is_station n s ≡ true
  unfolding is_station
  is_station_in S = is_node_in S

pub station : (n s : ℕ) → is_station n s ≡ true → In n s
station n s e = omega (arith, station_range n s e)

-- the index of a station's record
pub seated : {n s : ℕ} → Count n → In n s → index_of s ≡ s - 1
unfolding index_of
seated C S = omega arith
