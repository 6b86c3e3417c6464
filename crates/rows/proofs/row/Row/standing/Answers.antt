-- A site is offered where it stands at the junction, and passed over elsewhere. Assumes nothing.
use Rattle.std.proofs.Common.{◌<◌, sym, ap, ◌∙◌, arith}
use Rattle.rows.specs.Nearest.{entry}
use Rattle.rows.specs.Offering.{offer}
use Rattle.rows.proofs.Turning.{sites_none, turn_here, turn_elsewhere}
use Rattle.rows.proofs.row.Row.standing.Goals as goal
use Rattle.rows.proofs.row.Row.standing.Goals.{then-eq, else-eq}

pub loop-site-init : goal.loop-site-init
loop-site-init g c = (c.in_ok-row.ensures.entries ∙ sym (sites_none (g.N.Network.roads c.args.roads.now) c.args.most c.args.junction), c.in_ok-row.ensures.most)

pub loop-site-preserved : goal.loop-site-preserved
loop-site-preserved g c =
    let within : c.loop-site.site < (g.N.Network.roads c.args.roads.now).sites = omega arith in
    elim c.if-eq.branch [
      | then-eq w ↦ (
        turn_here (g.N.Network.roads c.args.roads.now) c.args.most c.args.junction c.loop-site.site c.loop-site.row.entries.items c.if-eq.row.entries.items c.place.result within c.loop-site.invariant.0 c.place.ensures c.eq.result c.eq.ensures w.if-eq.true
            (ap (λ r. r.entries.items) w.row-is ∙ w.offer.ensures.entries ∙ ap (λ q. offer q c.loop-site.row.entries.items (entry c.loop-site.site 0)) c.loop-site.invariant.1),
        ap (λ r. r.most) w.row-is ∙ w.offer.ensures.most ∙ c.loop-site.invariant.1,
      )
      | else-eq w ↦ (
        turn_elsewhere (g.N.Network.roads c.args.roads.now) c.args.most c.args.junction c.loop-site.site c.loop-site.row.entries.items c.if-eq.row.entries.items c.place.result within c.loop-site.invariant.0 c.place.ensures c.eq.result c.eq.ensures w.if-eq.false
            (ap (λ r. r.entries.items) w.row-is),
        ap (λ r. r.most) w.row-is ∙ c.loop-site.invariant.1,
      )
    ]
