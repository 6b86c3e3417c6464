-- Each entry is the next of the row, and the loop ends after the last. Assumes nothing.
use Rattle.std.proofs.Common.{◌+◌, ◌^◌, ◌<◌, ◌∷◌, [], ◌++◌, SomeIff, is_some, length, min, sym, ap, ◌∙◌, subst, length-append, arith}
use Rattle.std.proofs.lemmas.Slice.Zip.{zip_turn, zip_end}
use Rattle.rows.specs.Nearest.{entry}
use Rattle.rows.specs.Index.{listed_at}
use Rattle.rows.specs.Offering.{later, offer, offer_all, fitting}
use Rattle.rows.proofs.Listing.{same_entry}
use Rattle.rows.proofs.Padding.{zip_starts}
use Rattle.rows.proofs.Reoffering.{left, made_missing, made_next, made_all, made_part}
use Rattle.rows.proofs.row.Row.offer_later.Goals as goal

pub loop-site-preserved : goal.loop-site-preserved
loop-site-preserved c =
    let z = c.zip-site-items.ensures in
    let on = zip_starts _ _ _ c.args.sites.now c.args.times.now c.into_iter-site-iterator.ensures.into_iter_gives z.first c.iter.ensures.rest z.second.0 in
    let turn = zip_turn c.args.sites.now c.args.times.now c.loop-site.yielded c.into_iter-site-iterator.result c.loop-site.site-iterator c.next.new.self c.next.result on.0 on.1 c.loop-site.yielded_by (c.in-Some.site, c.in-Some.time) c.in-Some.is c.next.ensures.steps in
    let sum = subst (λ o. SomeIff o (c.args.by + c.in-Some.time.now < 2 ^ 32) (c.args.by + c.in-Some.time.now)) c.in_ok-time.was c.checked_add.ensures in
    let same = same_entry (entry c.in-Some.site.now c.in_ok-time.time) (later c.args.by (listed_at c.args.sites.now c.args.times.now (length c.loop-site.yielded))) (turn.2 0) (sum.1 ∙ ap (λ t. c.args.by + t) (turn.3 0)) in
    let small = subst (λ t. c.args.by + t < 2 ^ 32) (turn.3 0) sum.0 in
    let most = c.loop-site.invariant.1 in
    let n = min (length c.args.sites.now) (length c.args.times.now) in
    let made = made_next c.args.sites.now c.args.times.now c.args.self.now.most c.args.by n c.args.self.now.entries.items (length c.loop-site.yielded) c.loop-site.self.entries.items (omega arith) c.loop-site.invariant.0 (λ e. c.if-site-eq-NO_SITE.false (turn.2 0 ∙ e)) small (entry c.in-Some.site.now c.in_ok-time.time) same (length (c.loop-site.yielded ++ (c.in-Some.site, c.in-Some.time) ∷ [])) (length-append c.loop-site.yielded ((c.in-Some.site, c.in-Some.time) ∷ [])) in
    let after = sym (c.offer.ensures.entries ∙ ap (λ q. offer q c.loop-site.self.entries.items (entry c.in-Some.site.now c.in_ok-time.time)) most) in (
      (made.0 ∙ ap (λ row. offer_all c.args.self.now.most c.args.by (fitting c.args.by (left c.args.sites.now c.args.times.now c.args.self.now.most c.args.by n c.args.self.now.entries.items (length (c.loop-site.yielded ++ (c.in-Some.site, c.in-Some.time) ∷ [])))) row) after, made.1),
      c.offer.ensures.most ∙ most,
    )

pub returns-then-site-eq-NO_SITE-clause-variant : goal.returns-then-site-eq-NO_SITE-clause-variant
returns-then-site-eq-NO_SITE-clause-variant c =
    let z = c.zip-site-items.ensures in
    let on = zip_starts _ _ _ c.args.sites.now c.args.times.now c.into_iter-site-iterator.ensures.into_iter_gives z.first c.iter.ensures.rest z.second.0 in
    let turn = zip_turn c.args.sites.now c.args.times.now c.loop-site.yielded c.into_iter-site-iterator.result c.loop-site.site-iterator c.next.new.self c.next.result on.0 on.1 c.loop-site.yielded_by (c.in-Some.site, c.in-Some.time) c.in-Some.is c.next.ensures.steps in
    sym (made_missing c.args.sites.now c.args.times.now c.args.self.now.most c.args.by (min (length c.args.sites.now) (length c.args.times.now)) c.args.self.now.entries.items (length c.loop-site.yielded) c.loop-site.self.entries.items (omega arith) c.loop-site.invariant.0 (sym (turn.2 0) ∙ c.if-site-eq-NO_SITE.true)).1

pub returns-then-site-eq-NO_SITE-clause-entries : goal.returns-then-site-eq-NO_SITE-clause-entries
returns-then-site-eq-NO_SITE-clause-entries c =
    let z = c.zip-site-items.ensures in
    let on = zip_starts _ _ _ c.args.sites.now c.args.times.now c.into_iter-site-iterator.ensures.into_iter_gives z.first c.iter.ensures.rest z.second.0 in
    let turn = zip_turn c.args.sites.now c.args.times.now c.loop-site.yielded c.into_iter-site-iterator.result c.loop-site.site-iterator c.next.new.self c.next.result on.0 on.1 c.loop-site.yielded_by (c.in-Some.site, c.in-Some.time) c.in-Some.is c.next.ensures.steps in
    (made_missing c.args.sites.now c.args.times.now c.args.self.now.most c.args.by (min (length c.args.sites.now) (length c.args.times.now)) c.args.self.now.entries.items (length c.loop-site.yielded) c.loop-site.self.entries.items (omega arith) c.loop-site.invariant.0 (sym (turn.2 0) ∙ c.if-site-eq-NO_SITE.true)).0

pub returns-in_err-time-clause-variant : goal.returns-in_err-time-clause-variant
returns-in_err-time-clause-variant c =
    let z = c.zip-site-items.ensures in
    let on = zip_starts _ _ _ c.args.sites.now c.args.times.now c.into_iter-site-iterator.ensures.into_iter_gives z.first c.iter.ensures.rest z.second.0 in
    let turn = zip_turn c.args.sites.now c.args.times.now c.loop-site.yielded c.into_iter-site-iterator.result c.loop-site.site-iterator c.next.new.self c.next.result on.0 on.1 c.loop-site.yielded_by (c.in-Some.site, c.in-Some.time) c.in-Some.is c.next.ensures.steps in
    let large = subst (λ t. c.args.by + t < 2 ^ 32 → ⊥) (turn.3 0) (subst (λ o. SomeIff o (c.args.by + c.in-Some.time.now < 2 ^ 32) (c.args.by + c.in-Some.time.now)) c.in_err-time.was c.checked_add.ensures) in
    ap is_some c.from_residual.ensures
    ∙ sym (made_part c.args.sites.now c.args.times.now c.args.self.now.most c.args.by (min (length c.args.sites.now) (length c.args.times.now)) c.args.self.now.entries.items (length c.loop-site.yielded) c.loop-site.self.entries.items (omega arith) c.loop-site.invariant.0 (λ e. c.if-site-eq-NO_SITE.false (turn.2 0 ∙ e)) (omega arith)).1

pub returns-in_err-time-clause-entries : goal.returns-in_err-time-clause-entries
returns-in_err-time-clause-entries c =
    let z = c.zip-site-items.ensures in
    let on = zip_starts _ _ _ c.args.sites.now c.args.times.now c.into_iter-site-iterator.ensures.into_iter_gives z.first c.iter.ensures.rest z.second.0 in
    let turn = zip_turn c.args.sites.now c.args.times.now c.loop-site.yielded c.into_iter-site-iterator.result c.loop-site.site-iterator c.next.new.self c.next.result on.0 on.1 c.loop-site.yielded_by (c.in-Some.site, c.in-Some.time) c.in-Some.is c.next.ensures.steps in
    let large = subst (λ t. c.args.by + t < 2 ^ 32 → ⊥) (turn.3 0) (subst (λ o. SomeIff o (c.args.by + c.in-Some.time.now < 2 ^ 32) (c.args.by + c.in-Some.time.now)) c.in_err-time.was c.checked_add.ensures) in
    (made_part c.args.sites.now c.args.times.now c.args.self.now.most c.args.by (min (length c.args.sites.now) (length c.args.times.now)) c.args.self.now.entries.items (length c.loop-site.yielded) c.loop-site.self.entries.items (omega arith) c.loop-site.invariant.0 (λ e. c.if-site-eq-NO_SITE.false (turn.2 0 ∙ e)) (omega arith)).0

pub returns-clause-variant : goal.returns-clause-variant
returns-clause-variant c =
    let z = c.zip-site-items.ensures in
    let on = zip_starts _ _ _ c.args.sites.now c.args.times.now c.into_iter-site-iterator.ensures.into_iter_gives z.first c.iter.ensures.rest z.second.0 in
    let all = zip_end c.args.sites.now c.args.times.now c.loop-site.yielded c.into_iter-site-iterator.result c.loop-site.site-iterator c.next.new.self c.next.result on.0 on.1 c.loop-site.yielded_by c.in-None.is c.next.ensures.steps in
    sym (made_all c.args.sites.now c.args.times.now c.args.self.now.most c.args.by (min (length c.args.sites.now) (length c.args.times.now)) c.args.self.now.entries.items (length c.loop-site.yielded) c.loop-site.self.entries.items all c.loop-site.invariant.0).1

pub returns-clause-entries : goal.returns-clause-entries
returns-clause-entries c =
    let z = c.zip-site-items.ensures in
    let on = zip_starts _ _ _ c.args.sites.now c.args.times.now c.into_iter-site-iterator.ensures.into_iter_gives z.first c.iter.ensures.rest z.second.0 in
    let all = zip_end c.args.sites.now c.args.times.now c.loop-site.yielded c.into_iter-site-iterator.result c.loop-site.site-iterator c.next.new.self c.next.result on.0 on.1 c.loop-site.yielded_by c.in-None.is c.next.ensures.steps in
    (made_all c.args.sites.now c.args.times.now c.args.self.now.most c.args.by (min (length c.args.sites.now) (length c.args.times.now)) c.args.self.now.entries.items (length c.loop-site.yielded) c.loop-site.self.entries.items all c.loop-site.invariant.0).0
