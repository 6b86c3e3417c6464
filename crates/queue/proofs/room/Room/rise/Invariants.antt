use Rattle.std.proofs.Common.{◌≡◌, ◌<◌}
use Rattle.queue.specs.declared.slot.Slot.{Slot}
use Rattle.queue.specs.Room.{item, held}
use Rattle.queue.specs.Heap.{Kept, Loose}
use Rattle.queue.proofs.room.Room.rise.Given as goal

abbrev pub invariant-loop-j : goal.invariant-loop-j
invariant-loop-j g l = record {
  inside : l.j < l.initial.self.len;
  len : l.self.len ≡ l.initial.self.len;
  kept : Kept g.T.Keyed.handled (held l.initial.self) (held l.self) l.initial.self.len;
  loose : (d : Slot g.row.T.Denot) → Loose g.T.Keyed.before (item (held l.self) d) l.initial.self.len l.j;
}

abbrev pub decreases-loop-j : goal.decreases-loop-j
decreases-loop-j g l = l.j
