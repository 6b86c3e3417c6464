use Rattle.std.proofs.Common.{arith}
use Rattle.network.proofs.Refusing.{streets_arcs}
use Rattle.network.proofs.lists.Streets.arcs.Goals as goal

pub overflow_cast-result : goal.overflow_cast-result
overflow_cast-result c = let ok = streets_arcs c.args.self.now in let e = c.args.self.now.heads.ok.0 in omega arith
