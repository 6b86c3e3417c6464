-- A list in order is before an entry where its last is.
use Rattle.std.proofs.Common.{◌≡◌, ◌-◌, ◌&&◌, length, Some, sym, ap, ◌∙◌, subst, arith}
use Rattle.std.specs.List.{list_all, slice_get}
use Rattle.std.proofs.lemmas.Option.{get_or_from_slice_get, slice_get_within}
use Rattle.rows.specs.Index.{missing}
use Rattle.rows.specs.Offering.{comes_before}
use Rattle.rows.proofs.InOrder.{all_before}
use Rattle.rows.proofs.row.Row.is_full_before.Goals as goal

pub returns-then-is_full : goal.returns-then-is_full
returns-then-is_full c =
    let l = c.args.self.now.entries.items in
    let x = c.args.offered.now in
    let last : slice_get l (length l - 1) ≡ Some c.in-Some.last.now = subst (λ k. slice_get k (length k - 1) ≡ Some c.in-Some.last.now) c.deref.ensures.0 (sym c.in-Some.ensures.value) in
    let within = slice_get_within l (length l - 1) c.in-Some.last.now last in
    c.comes_before.ensures
    ∙ ap (λ y. comes_before y x) (sym (get_or_from_slice_get l (length l - 1) c.in-Some.last.now missing last))
    ∙ sym (all_before l missing x c.args.self.now.in_order (omega arith))
    ∙ ap (λ b. b && list_all (λ y. comes_before y x) l) (sym c.if-is_full.true ∙ c.is_full.ensures)
