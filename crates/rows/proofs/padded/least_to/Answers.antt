-- Each entry is the next of the row, and the loop ends after the last. Assumes nothing.
use Rattle.std.proofs.Common.{length, min, Some, sym, ap, ◌∙◌, length-append, arith}
use Rattle.std.proofs.lemmas.Slice.Zip.{zip_turn, zip_end}
use Rattle.network.specs.Sets.{has}
use Rattle.rows.proofs.Padding.{zip_starts, says_missing, says_wanted, says_on, says_end}
use Rattle.rows.proofs.padded.least_to.Goals as goal

pub returns-then-site-eq-NO_SITE : goal.returns-then-site-eq-NO_SITE
returns-then-site-eq-NO_SITE c =
    let z = c.zip-site-items.ensures in
    let on = zip_starts _ _ _ c.args.sites.now c.args.times.now c.into_iter-site-iterator.ensures.into_iter_gives z.first c.iter.ensures.rest z.second.0 in
    let turn = zip_turn c.args.sites.now c.args.times.now c.loop-site.yielded c.into_iter-site-iterator.result c.loop-site.site-iterator c.next.new.self c.next.result on.0 on.1 c.loop-site.yielded_by (c.in-Some.site, c.in-Some.time) c.in-Some.is c.next.ensures.steps in
    says_missing (has c.args.wanted.now) c.args.sites.now c.args.times.now (min (length c.args.sites.now) (length c.args.times.now)) (length c.loop-site.yielded) c.loop-site.last (omega arith) c.loop-site.invariant (sym (turn.2 0) ∙ c.if-site-eq-NO_SITE.true)

pub returns-then-has : goal.returns-then-has
returns-then-has c =
    let z = c.zip-site-items.ensures in
    let on = zip_starts _ _ _ c.args.sites.now c.args.times.now c.into_iter-site-iterator.ensures.into_iter_gives z.first c.iter.ensures.rest z.second.0 in
    let turn = zip_turn c.args.sites.now c.args.times.now c.loop-site.yielded c.into_iter-site-iterator.result c.loop-site.site-iterator c.next.new.self c.next.result on.0 on.1 c.loop-site.yielded_by (c.in-Some.site, c.in-Some.time) c.in-Some.is c.next.ensures.steps in
    ap Some (turn.3 0) ∙ says_wanted (has c.args.wanted.now) c.args.sites.now c.args.times.now (min (length c.args.sites.now) (length c.args.times.now)) (length c.loop-site.yielded) c.loop-site.last (omega arith) c.loop-site.invariant (λ e. c.if-site-eq-NO_SITE.false (turn.2 0 ∙ e)) (ap (has c.args.wanted.now) (sym (turn.2 0)) ∙ sym c.has.ensures ∙ c.if-has.true)

pub loop-site-preserved : goal.loop-site-preserved
loop-site-preserved c =
    let z = c.zip-site-items.ensures in
    let on = zip_starts _ _ _ c.args.sites.now c.args.times.now c.into_iter-site-iterator.ensures.into_iter_gives z.first c.iter.ensures.rest z.second.0 in
    let turn = zip_turn c.args.sites.now c.args.times.now c.loop-site.yielded c.into_iter-site-iterator.result c.loop-site.site-iterator c.next.new.self c.next.result on.0 on.1 c.loop-site.yielded_by (c.in-Some.site, c.in-Some.time) c.in-Some.is c.next.ensures.steps in
    rw (turn.3 0) (says_on (has c.args.wanted.now) c.args.sites.now c.args.times.now (min (length c.args.sites.now) (length c.args.times.now)) (length c.loop-site.yielded) c.loop-site.last (omega arith) c.loop-site.invariant (λ e. c.if-site-eq-NO_SITE.false (turn.2 0 ∙ e)) (ap (has c.args.wanted.now) (sym (turn.2 0)) ∙ sym c.has.ensures ∙ c.if-has.false) _ (length-append _ _))

pub returns : goal.returns
returns c =
    let z = c.zip-site-items.ensures in
    let on = zip_starts _ _ _ c.args.sites.now c.args.times.now c.into_iter-site-iterator.ensures.into_iter_gives z.first c.iter.ensures.rest z.second.0 in
    let all = zip_end c.args.sites.now c.args.times.now c.loop-site.yielded c.into_iter-site-iterator.result c.loop-site.site-iterator c.next.new.self c.next.result on.0 on.1 c.loop-site.yielded_by c.in-None.is c.next.ensures.steps in
    says_end (has c.args.wanted.now) c.args.sites.now c.args.times.now (min (length c.args.sites.now) (length c.args.times.now)) (length c.loop-site.yielded) c.loop-site.last all c.loop-site.invariant
