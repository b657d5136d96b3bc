-- What is claimed, each by its theorem, in the order of the contract.
use Rattle.table.proofs.Kept.{form_kept}
use Rattle.frames.proofs.Back.{reads_back}
use Rattle.runs.proofs.ShortRuns.{bound_met, repeats, numbers_end}
use Rattle.demands.proofs.Demand2.{demand_2}
use Rattle.demands.proofs.Demand3.{demand_3, demand_3_follows}
use Rattle.demands.proofs.Useless.{shuts_out, pass_first_sentence}
use Rattle.demands.proofs.Cases.{starred_cases}
use Rattle.demands.proofs.Bench.{never_from_the_bench}
use Rattle.demands.proofs.OneOutcome.{one_outcome}
use Rattle.demands.proofs.hold.Goals as goal

pub returns : goal.returns
returns c = (
  demand_2,
  demand_3,
  demand_3_follows,
  shuts_out,
  pass_first_sentence,
  starred_cases,
  bound_met,
  repeats,
  numbers_end,
  never_from_the_bench,
  one_outcome,
  form_kept,
  reads_back,
)
