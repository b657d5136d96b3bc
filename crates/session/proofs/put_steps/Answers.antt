-- A step adds its line; a frame that is no step, or the last line, leaves the loop with the whole stored.
use Rattle.std.proofs.Common.{arith, refl, sym, ◌∙◌}
use Rattle.session.proofs.Steps.{holder_byte, stepped_done, stopped, ended}
use Rattle.session.proofs.put_steps.Goals as goal

pub returns-in_default : goal.returns-in_default
returns-in_default c =
    rw (c.put.ensures, c.of_stop.ensures)
    (stopped _ _ _ _ _ _ _ _ c.loop-k.invariant.going c.lines_in-total.ensures (omega arith) c.loop-k-test.true (sym c.step_at.ensures ∙ c.in_default.is))

pub of_step-requires : goal.of_step-requires
of_step-requires c = holder_byte _ _ _ _ c.loop-k.invariant.going.stations c.step-stepped.ensures

pub loop-k-preserved : goal.loop-k-preserved
loop-k-preserved c =
    let line = c.of_step.ensures in
    record {
      counted = c.step-stepped.ensures.count ∙ c.loop-k.invariant.counted;
      going = stepped_done _ _ _ _ _ _ _ _ c.loop-k.invariant.going _ _ _ _ _ _ refl c.loop-k.invariant.counted c.loop-k-test.true
          (sym c.step_at.ensures ∙ c.in-Some.is)
          c.step-stepped.ensures
          line.code
          line.place
          line.due
          line.holder
          c.put-in-loop-k.ensures;
    }

pub returns : goal.returns
returns c = ended _ _ _ _ _ _ _ _ c.loop-k.invariant.going c.lines_in-total.ensures (omega arith) c.loop-k-test.false
