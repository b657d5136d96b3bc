-- Each return is one case of what a run writes.
use Rattle.std.proofs.Common.{arith}
use Rattle.session.proofs.Whole.{no_room, one_line, more_lines}
use Rattle.session.proofs.run.Goals as goal

pub returns-then-output-room_for : goal.returns-then-output-room_for
returns-then-output-room_for c = no_room _ _ (rw c.room_for.ensures.room at c.if-output-room_for.true)

pub returns-in-Ok : goal.returns-in-Ok
returns-in-Ok c =
    let (some, short, lines) = c.in-Ok.ensures in
    let zeros = c.default.ensures in
    more_lines _ _ (rw c.room_for.ensures.room at c.if-output-room_for.false) _ _ _ _ _ _
    lines
    (rw (zeros.0, zeros.1.0, zeros.1.1.0, zeros.1.1.1) at c.put.ensures)
    (omega arith)
    c.put_steps.ensures

pub returns-in-Err : goal.returns-in-Err
returns-in-Err c =
    one_line _ _ (rw c.room_for.ensures.room at c.if-output-room_for.false) _ _
    c.in-Err.ensures
    (rw c.of_stop.ensures at c.put-in-Err.ensures)
