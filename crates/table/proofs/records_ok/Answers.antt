-- The chain asks each record with its number, as the definition does.
use Rattle.std.proofs.Common.{rules}
use Rattle.walks.proofs.Along.{scan_chain}
use Rattle.table.proofs.Records.{records_scan}
use Rattle.table.proofs.records_ok.Goals as goal

pub returns : goal.returns
returns c =
    scan_chain (records_scan _) c.iter.ensures.rest c.enumerate.ensures.source c.enumerate.ensures.count c.all.ensures.ran (λ p b q called. search rules)
