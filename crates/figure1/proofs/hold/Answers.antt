-- What is claimed, by the theorems that prove it.
use Rattle.figure1.proofs.Theorems.{asserted}
use Rattle.figure1.proofs.Overtaking.{overtakes_once}
use Rattle.figure1.proofs.hold.Goals as goal

pub returns : goal.returns
returns c = (λ N ls σ R. asserted R, overtakes_once)
