-- The places as the source has them.
use Rattle.std.specs.Prelude.{ℕ, ◌≡◌, ◌<◌, Result, MatchResult}
use Rattle.station.specs.declared.places.Place.{Place}
use Rattle.station.specs.declared.places.Place.TheVariants.{Idle, Sending, Waiting, Holding, Giving}
use Rattle.station.specs.declared.places.NoSuchPlace.{NoSuchPlace}
use Rattle.station.specs.Names.{IDLE, SENDING, WAITING, HOLDING, GIVING}

-- 01, "The table": "place: 0 Idle, 1 Sending, 2 Waiting, 3 Holding, 4 Giving"
abbrev pub place_number : Place → ℕ
place_number Idle = IDLE
place_number Sending = SENDING
place_number Waiting = WAITING
place_number Holding = HOLDING
place_number Giving = GIVING

-- "the place is 0 to 4": a number is read as the place that has it, or is told to be none
abbrev pub Reads : ℕ → Result Place NoSuchPlace → Type 0
Reads number r = MatchResult r (λ place. place_number place ≡ number) (λ none. (none.0 ≡ number) × (GIVING < number))
