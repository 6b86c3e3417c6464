use Rattle.queue.proofs.room.Room.repair.Goals as goal

pub sink-requires-clause-gap : goal.sink-requires-clause-gap
sink-requires-clause-gap g c d = rw c.rise-at.ensures.len (c.rise-at.ensures.gap d)
