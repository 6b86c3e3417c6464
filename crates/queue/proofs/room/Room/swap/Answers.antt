use Rattle.std.proofs.Common.{sym, ◌∙◌, subst, arith}
use Rattle.queue.specs.declared.slot.Slot.{Slot}
use Rattle.queue.specs.Room.{item, place, held}
use Rattle.queue.specs.Waiting.{Updated}
use Rattle.queue.proofs.Writing.{any_item, swapped_by_puts}
use Rattle.queue.proofs.Holding.{swapped_kept}
use Rattle.queue.proofs.room.Room.swap.Goals as goal

pub returns : goal.returns
returns g c =
    let handled = g.T.Keyed.handled in
    let s = held c.args.self.now in
    let t = held c.put.new.self in
    let u = held c.put-2.new.self in
    let i = c.args.i in
    let j = c.args.j in
    let p = c.requires.placed in
    let at_i = λ (d : Slot g.row.T.Denot). any_item s i c.index-self-i.result d (omega arith) in
    let at_j = λ (d : Slot g.row.T.Denot). any_item s j c.index-self-j.result d (omega arith) in
    let items = λ (d : Slot g.row.T.Denot). swapped_by_puts (item s d) (item t d) (item u d) i j (at_i d) (at_j d) (c.put.ensures.put.items d) (c.put-2.ensures.put.items d) in
    let puts_i = λ (d : Slot g.row.T.Denot). subst (λ y. Updated (place s d) (place t d) (handled y) i) (at_j d) (c.put.ensures.put.places d) in
    let puts_j = λ (d : Slot g.row.T.Denot). subst (λ x. Updated (place t d) (place u d) (handled x) j) (at_i d) (c.put-2.ensures.put.places d) in
    record {
      len = c.put-2.ensures.len ∙ c.put.ensures.len;
      kept = swapped_kept handled s u c.args.self.now.len i j p (c.put-2.ensures.put.long ∙ c.put.ensures.put.long) c.requires.i_inside c.requires.j_inside items
          (λ d. swapped_by_puts (place s d) (place t d) (place u d) (handled (item s d j)) (handled (item s d i)) (sym (p.kept d j c.requires.j_inside)) (sym (p.kept d i c.requires.i_inside)) (puts_i d) (puts_j d));
      items = items;
    }
