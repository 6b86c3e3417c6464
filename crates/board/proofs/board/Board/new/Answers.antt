use Rattle.std.proofs.Common.{◌<◌, get_or, sym, ◌∙◌, arith}
use Rattle.std.proofs.lemmas.Grind.{common_steps}
use Rattle.board.proofs.Entries.{too_many, too_large, within_limits, first_made, made_stands}
use Rattle.board.proofs.board.Board.new.Goals as goal

pub returns-then-bays-gt-MOST_SITES-clause-refusal : goal.returns-then-bays-gt-MOST_SITES-clause-refusal
returns-then-bays-gt-MOST_SITES-clause-refusal c = sym (too_many c.args.bays.now (omega arith))

pub returns-in_err-all_free-clause-refusal : goal.returns-in_err-all_free-clause-refusal
returns-in_err-all_free-clause-refusal c =
    let bays = c.args.bays.now in
    let n = c.loop-count.count-index in
    let over : 8 < get_or bays n 0 = grind (arith, common_steps, c.all_free.ensures.variant, c.in_err-all_free.was) in
    grind (arith, common_steps, c.from_residual.ensures) ∙ sym (too_large bays n c.loop-count-test.true over)

pub returns : goal.returns
returns c =
    let bays = c.args.bays.now in
    let made = c.loop-count.invariant in
    let state = first_made bays _ c.loop-count.count-index (omega arith) made in
    record {
      refusal = sym (within_limits bays (omega arith) (λ s l. made.each_small s (omega arith)));
      table = state;
      throughout = made_stands c.args.number bays _ state;
    }
