-- The row keeps as it is, or the offered entry is put below the place that is given to it.
use Rattle.std.proofs.Common.{◌≡◌, ◌+◌, length, take, drop, sym, ap, ◌∙◌}
use Rattle.std.specs.List.{refill}
use Rattle.std.proofs.lemmas.List.{take_at}
use Rattle.rows.specs.Offering.{first_change}
use Rattle.rows.proofs.Changes.{put_changes, unchanged}
use Rattle.rows.proofs.InOrder.{offer_late, offer_in_order, front_in_order}
use Rattle.rows.proofs.Inserting.{made_room, had_room, lands, offer_room}
use Rattle.rows.proofs.row.Row.offer.Goals as goal
use Rattle.rows.proofs.row.Row.offer.Goals.{then-at-len, else-at-len}

pub returns-then-is_full_before-clause-entries : goal.returns-then-is_full_before-clause-entries
returns-then-is_full_before-clause-entries c =
    let s = c.args.self.now in
    sym (offer_late s.most s.entries.items c.args.offered (sym c.is_full_before.ensures ∙ c.if-is_full_before.true))

pub put_before-requires-clause-order : goal.put_before-requires-clause-order
put_before-requires-clause-order c =
    let s = c.args.self.now in
    let l = s.entries.items in
    let i = c.in_ok-at.at in
    front_in_order l (take i c.deref_mut.result.now) i (ap (take i) c.deref_mut.ensures.value ∙ elim c.if-at-len.branch [
      | then-at-len w ↦ (made_room c.args.offered l c.if-at-len.self.1.1.0.items i (w.if-at-len.true ∙ c.len.ensures.value) (ap (λ r. r.1.1.0.items) w.self-is ∙ w.push.ensures.items)).0
      | else-at-len w ↦ (had_room l c.if-at-len.self.1.1.0.items i (ap (λ r. r.1.1.0.items) w.self-is)).0
    ]) s.in_order

pub invariant_of-self : goal.invariant_of-self
invariant_of-self c =
    let s = c.args.self.now in
    let l = s.entries.items in
    let i = c.in_ok-at.at in
    let room = c.if-at-len.self.1.1.0.items in
    let same : (take i room ≡ take i l) × (drop (i + 1) room ≡ drop (i + 1) l) = elim c.if-at-len.branch [
      | then-at-len w ↦ made_room c.args.offered l room i (w.if-at-len.true ∙ c.len.ensures.value) (ap (λ r. r.1.1.0.items) w.self-is ∙ w.push.ensures.items)
      | else-at-len w ↦ had_room l room i (ap (λ r. r.1.1.0.items) w.self-is)
    ] in
    let new = c.put_before.new.entries in
    let made = lands c.args.offered s.most l room c.deref_mut.result.now new i c.in_ok-at.ensures.given c.deref_mut.ensures.value same c.put_before.ensures.entries c.put_before.auto.entries in
    record { few = s.few; room = offer_room s.most l (refill (length room) room new) c.args.offered made; in_order = offer_in_order s.most l (refill (length room) room new) c.args.offered made s.in_order }

pub returns-then-is_full_before-clause-place : goal.returns-then-is_full_before-clause-place
returns-then-is_full_before-clause-place c = sym (unchanged c.args.self.now.entries.items)

pub returns-in_err-at-clause-place : goal.returns-in_err-at-clause-place
returns-in_err-at-clause-place c = c.from_residual.ensures ∙ sym (unchanged c.args.self.now.entries.items)

pub returns-clause-place : goal.returns-clause-place
returns-clause-place c =
    let s = c.args.self.now in
    let l = s.entries.items in
    let i = c.in_ok-at.at in
    let room = c.if-at-len.self.1.1.0.items in
    let given = c.in_ok-at.ensures.given in
    let same : (take i room ≡ take i l) × (drop (i + 1) room ≡ drop (i + 1) l) = elim c.if-at-len.branch [
      | then-at-len w ↦ made_room c.args.offered l room i (w.if-at-len.true ∙ c.len.ensures.value) (ap (λ r. r.1.1.0.items) w.self-is ∙ w.push.ensures.items)
      | else-at-len w ↦ had_room l room i (ap (λ r. r.1.1.0.items) w.self-is)
    ] in
    let now = c.deref_mut.result.now in
    let new = c.put_before.new.entries in
    let long = c.put_before.auto.entries ∙ ap length c.deref_mut.ensures.value in
    sym (ap (first_change l) (take_at new (drop (length new) room) (length room) long)
    ∙ put_changes c.args.offered l now new i c.put_before.result given.within given.after (ap (take i) c.deref_mut.ensures.value ∙ same.0) c.put_before.ensures.place)
