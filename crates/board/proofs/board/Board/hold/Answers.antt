use Rattle.std.proofs.Common.{◌≡◌, suc, ◌<◌, ◌≤◌, length, get_or, Some, None, sym, refl, ap, ◌∙◌, add-one, arith}
use Rattle.std.specs.Result.{result_ok}
use Rattle.std.proofs.lemmas.Grind.{common_steps}
use Rattle.network.specs.Refused.{refusal}
use Rattle.network.specs.declared.refusals.Places.TheVariants.{Call as the_call}
use Rattle.board.specs.Held.{board_table}
use Rattle.board.proofs.Boards.{no_such_site, no_free_bay, may_hold, out_is, same_entry, with_entry_is, held_so}
use Rattle.board.proofs.board.Board.hold.Goals as goal

pub returns-in_err-at : goal.returns-in_err-at
returns-in_err-at c =
    let b = c.args.self.now in
    let t = board_table b in
    let s = c.args.site in
    let far : length b.table.items ≤ s = grind (arith, common_steps, c.get_mut.ensures.variant, c.ok_or.ensures.variant, c.in_err-at.was) in
    let x = held_so t s t _ (Some (refusal 18 the_call)) (no_such_site b s far) (grind (arith, common_steps, c.from_residual.ensures, c.ok_or.ensures.value, c.in_err-at.was)) refl in
    record { answer = x.0; table = x.1; throughout = x.2 }

pub returns-then-at : goal.returns-then-at
returns-then-at c =
    let b = c.args.self.now in
    let t = board_table b in
    let s = c.args.site in
    let y = c.in_ok-at.at.now in
    let o = c.ok_or.ensures.ok_part ∙ ap result_ok c.in_ok-at.was in
    let l : s < length b.table.items = grind (arith, common_steps, c.get_mut.ensures.variant, c.ok_or.ensures.variant, c.in_ok-at.was) in
    let is : y ≡ get_or b.table.items s y = grind (arith, common_steps, c.get_mut.ensures.value, o) in
    let x = held_so t s _ _ (Some (refusal 31 the_call)) (no_free_bay b s y l is (omega arith)) refl (same_entry b s y is) in
    record { answer = x.0; table = x.1; throughout = x.2 }

pub returns : goal.returns
unfolding board_table
returns c =
    let b = c.args.self.now in
    let t = board_table b in
    let s = c.args.site in
    let y = c.in_ok-at.at.now in
    let o = c.ok_or.ensures.ok_part ∙ ap result_ok c.in_ok-at.was in
    let l : s < length b.table.items = grind (arith, common_steps, c.get_mut.ensures.variant, o) in
    let is : y ≡ get_or b.table.items s y = grind (arith, common_steps, c.get_mut.ensures.value, o) in
    let x = held_so t s _ _ None (may_hold b s y l is (omega arith)) refl (with_entry_is b s y l is _ (suc (t.out s)) refl (add-one y.out ∙ ap suc (sym (out_is b s y l is)))) in
    record { answer = x.0; table = x.1; throughout = x.2 }
