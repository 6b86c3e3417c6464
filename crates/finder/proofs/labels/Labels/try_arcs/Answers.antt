use Rattle.std.proofs.Common.{refl, sym, ap, ◌∙◌, arith}
use Rattle.network.specs.Model.{arrival}
use Rattle.network.specs.Sets.{has}
use Rattle.soonest.proofs.Ending.{try_next, try_last}
use Rattle.soonest.specs.Stages.{arrive, try_all}
use Rattle.finder.specs.Labels.{guidance, stage_of}
use Rattle.finder.proofs.Bridges.{try_start, next_within}
use Rattle.finder.proofs.labels.Labels.try_arcs.Goals as goal

pub loop-arc-init : goal.loop-arc-init
loop-arc-init g c = (omega arith, c.requires.sized, λ v. refl, λ k listed steps. try_start _ k c.args.junction _ _)

pub try_arc-requires-clause-there : goal.try_arc-requires-clause-there
try_arc-requires-clause-there g c = (next_within (guidance (g.G.Network.roads c.args.guide.now) (g.G.Guide.guess c.args.guide.now)) c.args.junction c.loop-arc.from c.in-Some.arc (sym c.next_arc.ensures ∙ c.in-Some.is)).1

pub overflow_add-from : goal.overflow_add-from
overflow_add-from g c =
    let m = g.G.Network.roads c.args.guide.now in
    let few = (g.met.G.Network.wellformed c.args.guide.now).few_arcs in
    let within = next_within (guidance m (g.G.Guide.guess c.args.guide.now)) c.args.junction c.loop-arc.from c.in-Some.arc (sym c.next_arc.ensures ∙ c.in-Some.is) in
    omega arith

pub loop-arc-smaller : goal.loop-arc-smaller
loop-arc-smaller g c =
    let m = g.G.Network.roads c.args.guide.now in
    let within = next_within (guidance m (g.G.Guide.guess c.args.guide.now)) c.args.junction c.loop-arc.from c.in-Some.arc (sym c.next_arc.ensures ∙ c.in-Some.is) in
    omega arith

pub loop-arc-preserved : goal.loop-arc-preserved
loop-arc-preserved g c =
    let guide = c.args.guide.now in
    let m = g.G.Network.roads guide in
    let height = g.G.Network.height guide in
    let us = guidance m (g.G.Guide.guess guide) in
    let r = height c.args.reading in
    let a = c.in-Some.arc in
    let is = sym c.next_arc.ensures ∙ c.in-Some.is in
    let within = next_within us c.args.junction c.loop-arc.from a is in (
      omega arith,
      c.try_arc.ensures.sized,
      λ v. c.try_arc.ensures.sites v ∙ c.loop-arc.invariant.2 v,
      λ k listed steps.
          let s = stage_of height c.args.self.now c.args.ways.now (has c.args.wanted.now) listed steps in
          c.try_arc.ensures.stage k listed steps
          ∙ ap (arrive us k a (arrival m a r)) (c.loop-arc.invariant.3 k listed steps)
          ∙ sym (try_next us k c.args.junction r s c.loop-arc.from a is).3
          ∙ ap (λ n. try_all us k c.args.junction r n s) (omega arith),
    )

pub returns-clause-stage : goal.returns-clause-stage
returns-clause-stage g c = λ k listed steps.
    let guide = c.args.guide.now in
    let m = g.G.Network.roads guide in
    let height = g.G.Network.height guide in
    let us = guidance m (g.G.Guide.guess guide) in
    c.loop-arc.invariant.3 k listed steps
    ∙ sym (try_last us k c.args.junction (height c.args.reading) (stage_of height c.args.self.now c.args.ways.now (has c.args.wanted.now) listed steps) c.loop-arc.from c.loop-arc.invariant.0 (sym c.next_arc.ensures ∙ c.in_default.is))
