use Rattle.std.proofs.Common.{◌≡◌, ◌-◌, length, get_or, sym, ◌∙◌, subst, arith}
use Rattle.std.proofs.lemmas.Bool.{lt-leb}
use Rattle.network.specs.Lists.{runs}
use Rattle.least.specs.Segments.{cuts_day}
use Rattle.least.proofs.Cuts.{miscounted, too_late, runs_cut}
use Rattle.least.proofs.making.cut_a_day.Goals as goal

pub returns-in_default : goal.returns-in_default
returns-in_default c = let none = c.in_default.ensures.item.3 in sym (miscounted c.args.firsts.now (λ l m. absurd (omega arith)))

pub returns-then-last-le-LAST_DEPARTURE : goal.returns-then-last-le-LAST_DEPARTURE
returns-then-last-le-LAST_DEPARTURE c =
    let firsts = c.args.firsts.now in
    let item = c.in-Some.ensures.item in
    let e : c.in-Some.last.now ≡ get_or firsts (length firsts - 1) 0 = item.3.1 0 in
    let some = item.3.0 in
    let early = c.if-last-le-LAST_DEPARTURE.true in
    c.runs_to.ensures ∙ subst (λ x. runs firsts 1 x ≡ cuts_day firsts) (sym e) (runs_cut firsts (omega arith) c.requires (omega arith))

pub returns-else-last-le-LAST_DEPARTURE : goal.returns-else-last-le-LAST_DEPARTURE
returns-else-last-le-LAST_DEPARTURE c =
    let firsts = c.args.firsts.now in
    let item = c.in-Some.ensures.item in
    let e : c.in-Some.last.now ≡ get_or firsts (length firsts - 1) 0 = item.3.1 0 in
    let some = item.3.0 in
    let late = c.if-last-le-LAST_DEPARTURE.false in
    lt-leb c.in-Some.last.now 86400 late ∙ sym (too_late firsts (omega arith) (omega arith))
