use Rattle.std.proofs.Common.{◌≡◌, [], vec_items, ap, ◌∙◌, subst, rules}
use Rattle.board.specs.Held.{board_table, hold_bears}
use Rattle.desk.specs.Named.{named, named_sites}
use Rattle.desk.proofs.Closing.{Closing, closing_one, closing_all, named_last}
use Rattle.desk.proofs.Holdings.{popped_accepted, popped_bears, popped_tallies}
use Rattle.desk.proofs.desk.Desk.close.Goals as goal

pub take_back-requires : goal.take_back-requires
take_back-requires c = popped_accepted c.loop-hold.board (vec_items c.loop-hold.holds) (vec_items c.pop.new.self) c.in-Some.field-0 c.in-Some.ensures.items c.loop-hold.invariant.0

pub loop-hold-preserved : goal.loop-hold-preserved
loop-hold-preserved c = (
  popped_tallies c.loop-hold.board (vec_items c.loop-hold.holds) (vec_items c.pop.new.self) c.in-Some.field-0 c.in-Some.ensures.items c.loop-hold.invariant.0 (board_table c.take_back.new.board) c.take_back.ensures.table,
  ap (λ t. t.number) c.take_back.ensures.table ∙ c.loop-hold.invariant.1,
  ap (λ t. t.bays) c.take_back.ensures.table ∙ c.loop-hold.invariant.2,
  closing_one (board_table c.args.self.board) (board_table c.loop-hold.board) (board_table c.take_back.new.board) (named_sites (vec_items c.args.self.holds)) (named_sites (vec_items c.loop-hold.holds)) (named_sites (vec_items c.pop.new.self)) (named c.in-Some.field-0) (hold_bears c.in-Some.field-0.hold).0 (ap named_sites c.in-Some.ensures.items ∙ named_last (vec_items c.pop.new.self) c.in-Some.field-0) (popped_bears c.loop-hold.board (vec_items c.loop-hold.holds) (vec_items c.pop.new.self) c.in-Some.field-0 c.in-Some.ensures.items c.loop-hold.invariant.0) c.take_back.ensures.throughout c.loop-hold.invariant.3,
)

pub returns-clause-throughout : goal.returns-clause-throughout
returns-clause-throughout c =
    let none : vec_items c.loop-hold.holds ≡ [] = search rules in
    closing_all (board_table c.args.self.board) (board_table c.loop-hold.board) (named_sites (vec_items c.args.self.holds)) (subst (λ xs. Closing (board_table c.args.self.board) (named_sites (vec_items c.args.self.holds)) (board_table c.loop-hold.board) (named_sites xs)) none c.loop-hold.invariant.3)
