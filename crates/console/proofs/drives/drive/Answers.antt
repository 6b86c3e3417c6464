use Rattle.std.proofs.Common.{arith}
use Rattle.console.proofs.Driving.{further, stops, ends}
use Rattle.console.proofs.drives.drive.Goals as goal

pub returns-in_default : goal.returns-in_default
returns-in_default g c = stops c.loop-arc.invariant _ _ c.loop-arc-test.true c.carry-arrival.ensures c.in_ok-push.ensures.items c.in_default.is

pub loop-arc-preserved : goal.loop-arc-preserved
loop-arc-preserved g c = further c.loop-arc.invariant _ _ c.loop-arc-test.true c.carry-arrival.ensures c.in_ok-push.ensures.items _ c.in-Some.is

pub returns : goal.returns
returns g c = ends c.loop-arc.invariant (omega arith)
