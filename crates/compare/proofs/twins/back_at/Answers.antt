-- Where the first board refuses the hold, a bay of its site is out at the second.
use Rattle.std.proofs.Common.{◌≡◌, ◌<◌, cond, eqb, sym, ap, ◌∙◌, subst, arith}
use Rattle.board.specs.Held.{board_table, hold_bears}
use Rattle.board.specs.Tables.{back_refusal, one_less_out}
use Rattle.compare.specs.Out.{one_at}
use Rattle.compare.proofs.Handed.{accepts, none_out, returned_some, one_fewer, ended_fewer}
use Rattle.compare.proofs.twins.back_at.Goals as goal

pub take_back_at-requires : goal.take_back_at-requires
take_back_at-requires c =
    let first = board_table c.args.first.now in
    let says = returned_some (back_refusal first (hold_bears c.args.hold).0 (hold_bears c.args.hold).1) _ _ _ _ _ c.in-Err.ensures.answer in
    let none = none_out c.args.first.now (hold_bears c.args.hold).0 (hold_bears c.args.hold).1 _ c.requires.first says.0 in
    let out = c.requires.out in
    let site = says.2 in
    let second : 0 < (board_table c.args.second.now).out (hold_bears c.args.hold).1 = omega arith in
    accepts c.args.second.now _ _ (says.1 ∙ c.requires.second) (subst (λ s. 0 < (board_table c.args.second.now).out s) (sym site) second)

pub returns-in-Ok-clause-out : goal.returns-in-Ok-clause-out
returns-in-Ok-clause-out c s =
    let e = ended_fewer (board_table c.args.first.now) (board_table c.hand_back.new.self) c.args.hold c.requires.first c.in-Ok.ensures.answer c.in-Ok.ensures.table s in
    omega arith

pub returns-in-Err-clause-out : goal.returns-in-Err-clause-out
returns-in-Err-clause-out c s =
    let first = board_table c.args.first.now in
    let site = (hold_bears c.args.hold).1 in
    let says = returned_some (back_refusal first (hold_bears c.args.hold).0 site) _ _ _ _ _ c.in-Err.ensures.answer in
    let none = none_out c.args.first.now (hold_bears c.args.hold).0 site _ c.requires.first says.0 in
    let out = c.requires.out in
    let second : 0 < (board_table c.args.second.now).out site = omega arith in
    let kept = ap (λ t. t.out s) (c.in-Err.ensures.table ∙ ap (λ o. one_less_out o first site) says.0) in
    let same : one_at c.in-Err.field-0.value s ≡ one_at c.args.hold s = ap (λ k. cond (eqb k s) 1 0) says.2 in
    let fewer = one_fewer (board_table c.args.second.now) (board_table c.take_back_at.new.board) c.in-Err.field-0.value s (subst (λ k. 0 < (board_table c.args.second.now).out k) (sym says.2) second) c.take_back_at.ensures in
    omega arith
