use Rattle.std.proofs.Common.{◌≡◌, ℕ, ◌<◌, Bool, length, get_or, ap, ◌∙◌, arith}
use Rattle.std.proofs.lemmas.Bool.{lt-ltb, le-ltb}
use Rattle.network.specs.Sets.{has}
use Rattle.board.specs.Held.{board_table}
use Rattle.board.specs.Tables.{has_free}
use Rattle.board.proofs.Boards.{free_is, free_past}
use Rattle.board.proofs.Gathering.{with_it, without_it, gathered}
use Rattle.board.proofs.board.Board.free_sites.Goals as goal
use Rattle.board.proofs.board.Board.free_sites.Goals.{then-at, else-at}

pub loop-site-preserved : goal.loop-site-preserved
loop-site-preserved c =
    let b = c.args.self.now in
    let n = c.loop-site.site in
    let x = c.at-item.result in
    let free : ℕ → Bool = has_free (board_table b) in
    let items = c.deref-at-items.ensures.0 in
    let l : n < length b.table.items = omega (arith, ap length items) in
    let is : x ≡ get_or b.table.items n x = c.at-item.is ∙ ap (λ xs. get_or xs n x) items in
    let is_free = free_is b n x l is in
    elim c.if-at.branch [
      | then-at w ↦ λ s. ap (λ x. has x s) w.free-is ∙ with_it free n (has c.loop-site.free) c.loop-site.invariant (is_free ∙ lt-ltb x.out x.bays w.if-at.true) (omega arith) (has w.insert.new.self) w.insert.ensures s
      | else-at w ↦ λ s. ap (λ x. has x s) w.free-is ∙ without_it free n (has c.loop-site.free) c.loop-site.invariant (is_free ∙ le-ltb x.out x.bays w.if-at.false) s
    ]

pub returns : goal.returns
returns c =
    let b = c.args.self.now in
    let items = ap length c.deref-at-items.ensures.0 in
    gathered (has_free (board_table b)) c.loop-site.site (has c.loop-site.free) c.loop-site.invariant (λ s l. free_past b s (omega arith))
