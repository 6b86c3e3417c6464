-- The entry of the site stays or goes, or else the last of a full row goes, or there is room.
use Rattle.std.proofs.Common.{◌≡◌, ◌-◌, eqb, length, get_or, position, sym, ap, ◌∙◌, arith}
use Rattle.rows.specs.Nearest.{entry}
use Rattle.rows.specs.Index.{missing}
use Rattle.rows.specs.Offering.{comes_before}
use Rattle.rows.proofs.InOrder.{in_order_says, last_after}
use Rattle.rows.proofs.Inserting.{full_says, room_says, own_stays, own_goes, last_goes, room_taken}
use Rattle.rows.proofs.Putting.{before_says, not_before}
use Rattle.rows.proofs.row.Row.place_given.Goals as goal

pub returns-in-Some-clause-given : goal.returns-in-Some-clause-given
returns-in-Some-clause-given c =
    let s = c.args.self.now in
    let l = s.entries.items in
    let x = c.args.offered in
    own_goes x s.most l s.room c.in-Some.at
    (ap (position (λ e. eqb e.site x.site)) (sym c.deref-entries.ensures.0) ∙ sym c.place_of.ensures ∙ c.in-Some.is)
    (entry 0 0)
    (before_says x (get_or l c.in-Some.at (entry 0 0)) (ap (λ k. comes_before x (get_or k c.in-Some.at (entry 0 0))) (sym c.deref-entries.ensures.0) ∙ sym c.comes_before.ensures ∙ c.if-comes_before.true))

pub returns-in-Some-2-clause-kept : goal.returns-in-Some-2-clause-kept
returns-in-Some-2-clause-kept c =
    let s = c.args.self.now in
    let l = s.entries.items in
    let x = c.args.offered in
    own_stays x s.most l s.room c.in-Some.at (in_order_says l s.in_order)
    (ap (position (λ e. eqb e.site x.site)) (sym c.deref-entries.ensures.0) ∙ sym c.place_of.ensures ∙ c.in-Some.is)
    (entry 0 0)
    (not_before x (get_or l c.in-Some.at (entry 0 0)) (ap (λ k. comes_before x (get_or k c.in-Some.at (entry 0 0))) (sym c.deref-entries.ensures.0) ∙ sym c.comes_before.ensures ∙ c.if-comes_before.false))

pub returns-in-None-clause-given : goal.returns-in-None-clause-given
returns-in-None-clause-given c =
    let s = c.args.self.now in
    let l = s.entries.items in
    let x = c.args.offered in
    let full = full_says (length l) s.most c.is_full.result c.is_full.ensures c.if-is_full.true in
    let last = last_after s.most l missing x s.in_order c.requires full in
    let some = last.0 in
    let now = c.deref-entries.result.now in
    let n : length now ≡ length l = ap length c.deref-entries.ensures.0 in
    last_goes x s.most l s.room (length now - 1) (omega arith)
    (ap (position (λ e. eqb e.site x.site)) (sym c.deref-entries.ensures.0) ∙ sym c.place_of.ensures ∙ c.in-None.is)
    full (get_or l (length l - 1) missing)
    (ap (λ k. get_or l (k - 1) missing) n)
    last.1

pub returns-in-None-2-clause-given : goal.returns-in-None-2-clause-given
returns-in-None-2-clause-given c =
    let s = c.args.self.now in
    let l = s.entries.items in
    let x = c.args.offered in
    room_taken x s.most l s.room (length c.deref-entries.result.now) (ap length c.deref-entries.ensures.0)
    (ap (position (λ e. eqb e.site x.site)) (sym c.deref-entries.ensures.0) ∙ sym c.place_of.ensures ∙ c.in-None.is)
    (room_says (length l) s.most c.is_full.result s.room c.is_full.ensures c.if-is_full.false)
