-- What comes after the offered entry moves up by a place, up to where it is written.
use Rattle.std.proofs.Common.{◌≡◌, ◌≢◌, ◌-◌, suc, ℕ, ◌<◌, length, get_or, set, take, sym, ap, ◌∙◌, subst, arith, length-set}
use Rattle.std.specs.List.{All}
use Rattle.std.proofs.lemmas.List.{get_or_default}
use Rattle.std.proofs.lemmas.List.Elements.{All-take}
use Rattle.rows.specs.Index.{missing}
use Rattle.rows.specs.Nearest.{entry, Before}
use Rattle.rows.specs.Offering.{comes_before}
use Rattle.rows.specs.declared.entry.Entry.{Entry}
use Rattle.rows.proofs.InOrder.{front_in_order}
use Rattle.rows.proofs.Inserting.{front_same, moved_up, written_first, written_behind}
use Rattle.rows.proofs.Changes.{below_set, same_entry_at, written_here}
use Rattle.rows.proofs.Putting.{before_says}
use Rattle.rows.proofs.offering.put_before.Goals as goal
use Rattle.rows.proofs.offering.put_before.Goals.{then-loop-place-test+else-comes_before, else-loop-place-test}

pub loop-place-preserved : goal.loop-place-preserved
loop-place-preserved c =
    let x = c.args.offered in
    let l = c.loop-place.entries in
    let n = c.loop-place.place in
    let i : ℕ = n - 1 in
    let y : Entry = get_or l i (entry 0 0) in
    let t = c.loop-place.invariant in
    let within : n < length l = t.inside in
    let up : n ≡ suc i = omega arith in
    let before : Before x y = before_says x y (sym c.comes_before.ensures ∙ c.if-comes_before.true) in
    let same = front_same l n i y up in
    record {
      inside = omega (arith, length-set l n y);
      order = front_in_order (take n l) (take i (set l n y)) i same t.order;
      apart = subst (All (λ z. z.site ≢ x.site)) (sym same) (All-take (λ z. z.site ≢ x.site) i (take n l) t.apart);
      up_to = let b = t.up_to in omega arith;
      same = λ k m. below_set l n k y (omega arith) ∙ t.same k (omega arith);
      after = λ m. subst (Before x) (get_or_default l i (entry 0 0) missing (omega arith) ∙ sym (same_entry_at c.args.entries.now l i (t.same i (omega arith)))) before;
      made = moved_up x l n i y up within (get_or_default l i (entry 0 0) missing (omega arith)) t.apart before ∙ t.made;
    }

pub returns-clause-entries : goal.returns-clause-entries
returns-clause-entries c =
    let x = c.args.offered in
    let l = c.loop-place.entries in
    let n = c.loop-place.place in
    let t = c.loop-place.invariant in
    elim c.loop-place-test.branch [
      | then-loop-place-test+else-comes_before w ↦
          let some = w.loop-place-test.true in
          let within = t.inside in
          written_behind x l n (n - 1) (omega arith) t.inside t.order t.apart (ap (comes_before x) (get_or_default l (n - 1) missing (entry 0 0) (omega arith)) ∙ sym w.comes_before.ensures ∙ w.if-comes_before.false) ∙ t.made
      | else-loop-place-test w ↦ let none = w.loop-place-test.false in written_first x l n (omega arith) t.inside t.apart ∙ t.made
    ]

pub returns-clause-place : goal.returns-clause-place
returns-clause-place c =
    let t = c.loop-place.invariant in
    let l = c.loop-place.entries in
    let n = c.loop-place.place in
    record {
      within = t.up_to;
      here = written_here l n c.args.offered t.inside;
      same = λ k m. below_set l n k c.args.offered m ∙ t.same k m;
      after = t.after;
    }
