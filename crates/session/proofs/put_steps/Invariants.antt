-- At each pass, storing the lines that are left behind those that are written gives the whole; the count stays.
use Rattle.std.proofs.Common.{◌≡◌}
use Rattle.session.proofs.Steps.{Going}
use Rattle.session.proofs.put_steps.Given as goal

abbrev pub invariant-loop-k : goal.invariant-loop-k
invariant-loop-k l = record {
  counted : l.network.count ≡ l.fn.opened.count;
  going : Going l.input l.fn.opened.count l.fn.opened.table l.fn.output l.total l.output l.network.table l.k;
}
