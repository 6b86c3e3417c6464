use Rattle.std.proofs.Common.{◌≡◌, ◌<◌, length}
use Rattle.network.specs.Sets.{has}
use Rattle.soonest.specs.Stages.{begin, list_all, potential}
use Rattle.finder.specs.Labels.{guidance, stage_of, Sized, SitesNoted}
use Rattle.finder.specs.Lists.{listed_in, KeptFrom}
use Rattle.finder.proofs.Goings.{Going}
use Rattle.finder.proofs.labels.Labels.travel.Given as goal

abbrev pub invariant-taking : goal.invariant-taking
invariant-taking g l =
    let m = g.G.Network.roads l.guide in
    let height = g.G.Network.height l.guide in
    let us = guidance m (g.G.Guide.guess l.guide) in
    let k = length l.fn.answers in
    Sized m.junctions l.self
    × SitesNoted m l.self.marks.now
    × (l.count < k)
    × KeptFrom l.count l.fn.answers l.answers
    × Going us k (begin us k (has l.fn.free) l.fn.origin.junction (height l.fn.origin.reading)) (stage_of height l.self l.ways (has l.wanted) (listed_in height l.count l.answers) l.steps)

abbrev pub decreases-taking : goal.decreases-taking
decreases-taking g l =
    let height = g.G.Network.height l.guide in
    potential (guidance (g.G.Network.roads l.guide) (g.G.Guide.guess l.guide)) (length l.fn.answers) (stage_of height l.self l.ways (has l.wanted) (listed_in height l.count l.answers) l.steps)

abbrev pub invariant-loop-site : goal.invariant-loop-site
invariant-loop-site g l =
    let height = g.G.Network.height l.guide in
    let k = length l.fn.answers in
    let us = guidance (g.G.Network.roads l.guide) (g.G.Guide.guess l.guide) in
    (l.count < k)
    × KeptFrom l.count l.fn.answers l.answers
    × (stage_of height l.self l.ways (has l.wanted) (listed_in height l.count l.answers) l.steps ≡ list_all us k l.at (height l.reading) l.site (stage_of height l.initial.self l.initial.ways (has l.initial.wanted) (listed_in height l.initial.count l.initial.answers) l.initial.steps))
