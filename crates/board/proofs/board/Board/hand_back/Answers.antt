use Rattle.std.proofs.Common.{◌≡◌, ◌-◌, ◌<◌, ◌≤◌, length, get_or, Some, None, sym, refl, ap, arith}
use Rattle.std.proofs.lemmas.Bool.{ne_eqb}
use Rattle.std.proofs.lemmas.Grind.{common_steps}
use Rattle.network.specs.Refused.{refusal}
use Rattle.network.specs.declared.refusals.Places.TheVariants.{Call as the_call}
use Rattle.board.specs.Held.{board_table}
use Rattle.board.proofs.Boards.{other_board, no_site_out, none_out, one_out, out_is, same_entry, with_entry_is, handed_so}
use Rattle.board.proofs.board.Board.hand_back.Goals as goal

pub returns-then-hold-self : goal.returns-then-hold-self
unfolding board_table
returns-then-hold-self c =
    let t = board_table c.args.self.now in
    let n = c.args.hold.number in
    let s = c.args.hold.site in
    let x = handed_so t n s t _ (Some (refusal 32 the_call)) (other_board t n s (ne_eqb n t.number c.if-hold-self.true)) refl refl in
    record { answer = x.0; table = x.1; throughout = x.2 }

pub returns-else-hold-self : goal.returns-else-hold-self
unfolding board_table
returns-else-hold-self c =
    let b = c.args.self.now in
    let t = board_table b in
    let n = c.args.hold.number in
    let s = c.args.hold.site in
    let far : length b.table.items ≤ s = grind (arith, common_steps, c.get_mut.ensures.variant) in
    let x = handed_so t n s t _ (Some (refusal 33 the_call)) (no_site_out b n s c.if-hold-self.false far) refl refl in
    record { answer = x.0; table = x.1; throughout = x.2 }

pub returns-in_default : goal.returns-in_default
unfolding board_table
returns-in_default c =
    let b = c.args.self.now in
    let t = board_table b in
    let n = c.args.hold.number in
    let s = c.args.hold.site in
    let y = c.in-Some.at.now in
    let l : s < length b.table.items = grind (arith, common_steps, c.in-Some.ensures.variant) in
    let is : y ≡ get_or b.table.items s y = c.in-Some.ensures.value in
    let x = handed_so t n s _ _ (Some (refusal 33 the_call)) (none_out b s y l is n c.if-hold-self.false (omega arith)) refl (same_entry b s y is) in
    record { answer = x.0; table = x.1; throughout = x.2 }

pub returns-in-Some : goal.returns-in-Some
unfolding board_table
returns-in-Some c =
    let b = c.args.self.now in
    let t = board_table b in
    let n = c.args.hold.number in
    let s = c.args.hold.site in
    let y = c.in-Some.at.now in
    let l : s < length b.table.items = grind (arith, common_steps, c.in-Some.ensures.variant) in
    let is : y ≡ get_or b.table.items s y = c.in-Some.ensures.value in
    let x = handed_so t n s _ _ None (one_out b s y l is n c.if-hold-self.false (omega arith)) refl (with_entry_is b s y l is _ (t.out s - 1) refl (ap (λ m. m - 1) (sym (out_is b s y l is)))) in
    record { answer = x.0; table = x.1; throughout = x.2 }
