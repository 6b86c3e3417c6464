use Rattle.std.proofs.Common.{refl, ap, ◌∙◌, arith}
use Rattle.network.specs.Sets.{has}
use Rattle.queue.specs.Queues.{waiting}
use Rattle.soonest.specs.Ways.{way_in}
use Rattle.finder.specs.Labels.{guidance, reading_in, key_in}
use Rattle.finder.proofs.Bridges.{readings_clear, readings_set, keys_clear, ways_clear, begin_is}
use Rattle.finder.proofs.labels.Labels.begin.Goals as goal

pub returns-clause-stage : goal.returns-clause-stage
returns-clause-stage g c = λ k.
    let guide = c.args.guide.now in
    let m = g.G.Network.roads guide in
    let height = g.G.Network.height guide in
    let guess = g.G.Guide.guess guide in
    let v = c.args.junction in
    let h = height c.args.start in
    let marks = c.note_sites.new.marks in
    let size = c.requires.sized.marks in
    let noted = c.note_sites.auto.marks in
    let cleared = c.clear.auto.marks in
    let there = c.requires.there in
    begin_is (guidance m guess) k (has c.args.wanted.now) v h _ _ (reading_in height marks) (key_in (waiting c.args.self.now.queue)) _
    (readings_set height marks v _ c.args.start refl (omega arith))
    (readings_clear height c.clear.new.marks marks c.clear.ensures c.note_sites.ensures.readings)
    c.wait.ensures.keys
    (keys_clear (waiting c.args.self.now.queue) c.requires.none)
    (ap way_in (c.fill.ensures.after (λ y e. e)) ∙ ways_clear _)
