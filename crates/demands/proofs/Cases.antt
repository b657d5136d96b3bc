-- The starred cases hold: by computation of the rules.
use mathlib.Core.Path.{refl}
use Rattle.table.specs.Table.{open_code, open_after}
use Rattle.demands.specs.Cases.{StarredCases, met, all, same, kept_unless, holds, cases}
use Rattle.engines.proofs.Computed.{computed}

pub starred_cases : StarredCases
unfolding computed open_code open_after met all same kept_unless holds cases
starred_cases = refl
