-- The output has the most room that a run needs.
use Rattle.std.proofs.Common.{arith}
use Rattle.session.proofs.Whole.{ran_some}
use Rattle.bench.proofs.main.Goals as goal

pub unwrap-count-requires : goal.unwrap-count-requires
unwrap-count-requires c = ran_some _ _ _ _ c.run.ensures (omega arith)
