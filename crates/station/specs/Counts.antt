-- The count of a network as the source has it.
use Rattle.std.specs.Prelude.{ℕ, ◌≡◌, true, false, Option, MatchOption}
use Rattle.station.specs.declared.counts.Count.{Count}
use Rattle.station.specs.Stations.{count_ok}

-- 01, "What the engine covers": "N from 2 to 32": n is taken as a count where it is one, and else there is none
abbrev pub CountOf : ℕ → Option Count → Type 0
CountOf n r = MatchOption r (count_ok n ≡ false) (λ count. (count.value ≡ n) × (count_ok n ≡ true))
