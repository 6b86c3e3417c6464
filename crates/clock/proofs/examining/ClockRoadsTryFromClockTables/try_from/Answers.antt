use Rattle.std.proofs.Common.{sym}
use Rattle.network.proofs.First.{none_is}
use Rattle.clock.specs.Held.{table_lists}
use Rattle.clock.specs.Timed.{table_says}
use Rattle.clock.proofs.examining.ClockRoadsTryFromClockTables.try_from.Goals as goal

pub invariant_of-streets : goal.invariant_of-streets
invariant_of-streets c =
    let k = table_says (table_lists c.args.tables) (sym c.in_default.ensures) in
    record { arcs = none_is _ k.0; sited = none_is _ k.2 }

pub invariant_of-result : goal.invariant_of-result
invariant_of-result c =
    let k = table_says (table_lists c.args.tables) (sym c.in_default.ensures) in
    record { timed = none_is _ k.1 }
