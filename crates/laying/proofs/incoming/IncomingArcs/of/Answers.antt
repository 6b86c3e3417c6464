-- One more arc is linked.
use Rattle.std.proofs.Common.{◌≡◌, ◌<◌, ltb, refl, sym, ◌∙◌, arith}
use Rattle.std.proofs.lemmas.List.{length-set}
use Rattle.network.proofs.Following.{provided_says}
use Rattle.laying.proofs.Linking.{last_more, tail_more, before_more, none_at_first}
use Rattle.laying.proofs.incoming.IncomingArcs.of.Goals as goal

pub loop-arc-init : goal.loop-arc-init
loop-arc-init g c = let m = g.N.Network.roads c.args.roads.now in (refl, refl, λ v l. none_at_first 4096 m.head v, λ a l. absurd (omega arith), λ a l. absurd (omega arith))

pub loop-arc-preserved : goal.loop-arc-preserved
loop-arc-preserved g c =
    let m = g.N.Network.roads c.args.roads.now in
    let i = c.loop-arc.arc in
    let all = c.arcs-arc-end.ensures in
    let more = c.loop-arc-test.true in
    let ok = g.met.N.Network.wellformed c.args.roads.now in
    let few = ok.few_junctions in
    let less = ok.few_arcs in
    let there : i < m.arcs = omega arith in
    let inside = ok.head_within i there in
    let t = c.in-Some-Some.tail in
    let h = c.in-Some-Some.head in
    let leaves : m.tail i ≡ t = (provided_says (ltb i m.arcs) (m.tail i) t (sym c.tail.ensures ∙ c.in-Some-Some.is-0)).1 in
    let leads : m.head i ≡ h = (provided_says (ltb i m.arcs) (m.head i) h (sym c.head.ensures ∙ c.in-Some-Some.is-1)).1 in
    let within : h < m.junctions = omega arith in
    let last = c.loop-arc.incoming.last in
    let arcs = c.loop-arc.incoming.arcs in
    let k = c.loop-arc.invariant in
    let long = k.0 in
    let wide = k.1 in (
      length-set _ _ _ ∙ long,
      length-set _ _ _ ∙ wide,
      λ v l. last_more m.head i h last leads (omega arith) v (k.2 v l),
      tail_more m i h t last arcs leads leaves (omega arith) k.3,
      before_more m i h t last arcs leads leaves (omega arith) (k.2 h within) k.4,
    )
