use Rattle.std.proofs.Common.{sym, arith}
use Rattle.network.proofs.First.{none_is}
use Rattle.network.proofs.Refusing.{arcs_say}
use Rattle.length.proofs.tables.LengthTables.check.Goals as goal

pub overflow_sub-len : goal.overflow_sub-len
overflow_sub-len c =
    let s = c.args.self.now in
    let arcs = sym (rw (c.deref.ensures.value, c.deref-2.ensures.value) at c.in_ok-check_arcs.ensures) in
    let k = arcs_say _ _ (none_is _ arcs) in
    let e = s.starts.ok.0 in
    omega arith
