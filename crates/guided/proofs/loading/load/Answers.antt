use Rattle.std.proofs.Common.{◌≤◌, length, sym, subst}
use Rattle.network.proofs.First.{none_is}
use Rattle.guided.specs.Faults.{load_fault}
use Rattle.guided.specs.Held.{index_lists}
use Rattle.guided.specs.Indexed.{lists_of}
use Rattle.guided.specs.Lists.{Lists, network_of, difference_from}
use Rattle.guided.specs.Offers.{own_difference}
use Rattle.guided.proofs.Computed.{none_told}
use Rattle.guided.proofs.Early.{early_tables, early_fit, early_work, has_rows, answered_loaded, answered_refused}
use Rattle.guided.proofs.Indexes.{none_found}
use Rattle.guided.proofs.loading.load.Goals as goal

pub returns-in-Err-clause-rows : goal.returns-in-Err-clause-rows
returns-in-Err-clause-rows c = has_rows (index_lists c.args.raw) (length c.args.work.now)

pub open-indexed-requires-clause-tables : goal.open-indexed-requires-clause-tables
open-indexed-requires-clause-tables c = early_tables (index_lists c.args.raw) (length c.args.work.now) (sym c.in-Ok.ensures.refusal)

pub open-indexed-requires-clause-lists : goal.open-indexed-requires-clause-lists
open-indexed-requires-clause-lists c = early_fit (index_lists c.args.raw) (length c.args.work.now) (sym c.in-Ok.ensures.refusal)

pub check_rows-requires : goal.check_rows-requires
check_rows-requires c =
    let l = early_work (index_lists c.args.raw) (length c.args.work.now) (sym c.in-Ok.ensures.refusal) in
    subst (λ (x : Lists). (network_of x).junctions ≤ length c.args.work.now) (sym c.open-indexed.ensures) l

pub invariant_of-result : goal.invariant_of-result
invariant_of-result c =
    let r = c.open-indexed.result in
    record { right = none_is (own_difference (lists_of r)) (none_found r (λ rows right. none_told (lists_of r) rows (difference_from (lists_of r) rows) (c.in-Ok-check_rows.ensures rows right))) }

pub returns-in-Ok-check_rows-clause-answer : goal.returns-in-Ok-check_rows-clause-answer
returns-in-Ok-check_rows-clause-answer c rows right =
    answered_loaded (index_lists c.args.raw) (length c.args.work.now) (sym c.in-Ok.ensures.refusal) rows right (lists_of c.open-indexed.result) c.open-indexed.ensures (c.in-Ok-check_rows.ensures rows)

pub returns-in-Ok-check_rows-clause-rows : goal.returns-in-Ok-check_rows-clause-rows
returns-in-Ok-check_rows-clause-rows c = has_rows (index_lists c.args.raw) (length c.args.work.now)

pub returns-in-Err-check_rows-clause-answer : goal.returns-in-Err-check_rows-clause-answer
returns-in-Err-check_rows-clause-answer c rows right =
    answered_refused (index_lists c.args.raw) (length c.args.work.now) (sym c.in-Ok.ensures.refusal) rows right (lists_of c.open-indexed.result) c.open-indexed.ensures (load_fault c.in-Err-check_rows.fault) (index_lists c.from.result) c.from.ensures (c.in-Err-check_rows.ensures rows)

pub returns-in-Err-check_rows-clause-rows : goal.returns-in-Err-check_rows-clause-rows
returns-in-Err-check_rows-clause-rows c = has_rows (index_lists c.args.raw) (length c.args.work.now)
