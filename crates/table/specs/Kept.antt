-- The form of a table is never lost. Said of any table, reached or not.
use Rattle.std.specs.Prelude.{◌≡◌, true, List, ℕ}
use Rattle.station.specs.declared.Station.{Station}
use Rattle.station.specs.declared.Step.{Step}
use Rattle.station.specs.Stations.{count_ok}
use Rattle.table.specs.Table.{opened, well_formed, after}

-- 01, "The table": what opening writes is well formed, and what is well formed is so after any step, accepted or refused
pub record FormKept : Type 0 where
  pub opened : (n : ℕ) → count_ok n ≡ true → well_formed n opened ≡ true
  pub stepped : (n : ℕ) (t : List Station) (x : Step) → well_formed n t ≡ true → well_formed n (after n t x) ≡ true
