-- A refused opening is handed on as the reason that the run ends.
use Rattle.std.proofs.Common.{arith, rules}
use Rattle.session.proofs.Whole.{begun}
use Rattle.session.proofs.begin.Goals as goal

pub returns-in_err-open : goal.returns-in_err-open
returns-in_err-open c =
    begun _ c.in_ok-count.count (omega arith) (search rules) _ _
    c.from_residual-in_err-open.ensures.1
    c.in_err-open.ensures
