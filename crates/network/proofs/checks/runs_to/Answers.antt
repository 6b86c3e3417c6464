use Rattle.std.proofs.Common.{sym, arith}
use Rattle.network.proofs.Refusing.{not_runs, runs_where}
use Rattle.network.proofs.checks.runs_to.Goals as goal
use Rattle.network.proofs.checks.runs_to.Goals.{then-count-eq0-via-then-count-eq0, then-count-eq0-via-else-count-eq0+then-list-ne0, then-count-eq0-via-else-count-eq0+else-list-ne0+then-list-count}

pub returns-then-count-eq0 : goal.returns-then-count-eq0
returns-then-count-eq0 c =
    sym
    (not_runs c.args.list.now c.args.step c.args.last
    (λ r. elim c.then-count-eq0.branch [
      | then-count-eq0-via-then-count-eq0 w ↦ omega arith
      | then-count-eq0-via-else-count-eq0+then-list-ne0 w ↦ omega arith
      | then-count-eq0-via-else-count-eq0+else-list-ne0+then-list-count w ↦ omega arith
    ]))

pub returns : goal.returns
returns c = runs_where c.args.list.now c.args.step c.args.last c.rises.result (omega arith) c.if-list-ne0.false c.if-list-count.false c.rises.ensures
