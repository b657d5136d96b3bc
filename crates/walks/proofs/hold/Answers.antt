-- The laws, by the lemmas that prove them.
use Rattle.walks.proofs.Loops.{loop_laws, scan_laws}
use Rattle.walks.proofs.hold.Goals as goal

pub returns : goal.returns
returns c start = (loop_laws, scan_laws)
