use Rattle.std.proofs.Common.{sym, arith}
use Rattle.clock.specs.Held.{table_lists}
use Rattle.guided.proofs.Early.{tables_arcs}
use Rattle.guided.proofs.raw.IndexTables.check.Goals as goal

pub overflow_sub-junctions : goal.overflow_sub-junctions
overflow_sub-junctions c = let k = (tables_arcs (table_lists c.args.self.now.tables) (sym c.in_ok-check.ensures)).two in let l = c.len.ensures in omega arith

pub overflow_cast-junctions : goal.overflow_cast-junctions
overflow_cast-junctions c = let k = (tables_arcs (table_lists c.args.self.now.tables) (sym c.in_ok-check.ensures)).few in let l = c.len.ensures in omega arith
