use Rattle.std.proofs.Common.{◌+◌, sym, subst}
use Rattle.network.specs.Lists.{LowerBound}
use Rattle.least.proofs.Cuts.{whole_says, none_past, bound_found}
use Rattle.least.proofs.day.Day.segment_of.Goals as goal

pub returns-then-second-gt-LAST_DEPARTURE : goal.returns-then-second-gt-LAST_DEPARTURE
returns-then-second-gt-LAST_DEPARTURE c =
    let s = c.args.self.now in
    sym (none_past s.firsts.items (whole_says s.firsts.items s.whole) c.args.second c.if-second-gt-LAST_DEPARTURE.true)

pub overflow_sub-result : goal.overflow_sub-result
overflow_sub-result c =
    let s = c.args.self.now in
    let bound = subst (λ xs. LowerBound xs (c.args.second + 1) c.lower_bound-after.result) c.deref.ensures.0 c.lower_bound-after.ensures in
    (bound_found s.firsts.items (whole_says s.firsts.items s.whole) c.args.second c.lower_bound-after.result c.if-second-gt-LAST_DEPARTURE.false bound).0

pub returns : goal.returns
returns c =
    let s = c.args.self.now in
    let bound = subst (λ xs. LowerBound xs (c.args.second + 1) c.lower_bound-after.result) c.deref.ensures.0 c.lower_bound-after.ensures in
    sym (bound_found s.firsts.items (whole_says s.firsts.items s.whole) c.args.second c.lower_bound-after.result c.if-second-gt-LAST_DEPARTURE.false bound).1
