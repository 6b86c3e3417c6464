use Rattle.std.proofs.Common.{arith}
use Rattle.network.proofs.Refusing.{streets_sites}
use Rattle.network.proofs.lists.Streets.site_count.Goals as goal

pub overflow_cast-result : goal.overflow_cast-result
overflow_cast-result c = let ok = streets_sites c.args.self.now in let e = c.args.self.now.sites.ok.0 in omega arith
