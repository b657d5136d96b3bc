-- A count that is in range is opened, for callers that open with such a one.
use Rattle.std.proofs.Common.{arith, true, ◌≡◌, ℕ, refl, ◌∙◌}
use Rattle.station.specs.Names.{ACCEPTED}
use Rattle.table.specs.Table.{open_code}
use Rattle.network.specs.declared.Network.{Network}
use Rattle.network.specs.Network.{OpensNetwork, opened_for}
use Rattle.station.specs.declared.codes.Refusal.{Refusal}
use Rattle.station.proofs.Tells.{refusal_above}
use Rattle.station.specs.Stations.{count_ok}
use Rattle.station.specs.Codes.{code_of}
use Rattle.std.specs.Prelude.{Result, Ok, Err}
use Rattle.std.specs.Result.{IsOk}

-- no refusal has the code of an acceptance
accepted : {A : Type 0} (r : Result A Refusal) → code_of r ≡ ACCEPTED → IsOk r
accepted (Ok x) e = refl
accepted (Err refusal) e = absurd (omega (arith, refusal_above refusal))

pub opens : (n : ℕ) (r : Result Network Refusal) → OpensNetwork n r → count_ok n ≡ true → IsOk r
unfolding opened_for open_code
opens n r o ok = accepted r (o.answers ∙ rw ok)
