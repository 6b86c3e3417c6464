use Rattle.std.proofs.Common.{◌-◌, [], ◌∷◌, ◌++◌, length, reverse, get_or, Some, sym, ap, ◌∙◌, arith}
use Rattle.std.specs.Option.{option_map}
use Rattle.std.proofs.lemmas.List.{get_or_default}
use Rattle.soonest.specs.Ways.{back}
use Rattle.arrayvec.proofs.ArrayVecLemmas.{items-with_items}
use Rattle.tracing.specs.Traces.{way_in}
use Rattle.tracing.proofs.Backwards.{so_far, so_far_more, so_far_stops, so_far_full, so_far_ends, tail_there}
use Rattle.tracing.proofs.follow.follow.Goals as goal

pub returns-then-len-most : goal.returns-then-len-most
returns-then-len-most g c =
    let m = g.N.Network.roads c.args.network.now in
    let way = way_in c.args.ways.now in
    let trail = c.loop-at.trail.items in
    sym (so_far_full m way c.args.from trail (c.junctions.result - 1 - length trail) c.loop-at.at (omega arith) c.loop-at-test.true)
    ∙ c.loop-at.invariant.2
    ∙ ap (λ n. back m way c.args.from (n - 1) c.args.to) c.junctions.ensures

pub returns-in_err-at : goal.returns-in_err-at
returns-in_err-at g c =
    let m = g.N.Network.roads c.args.network.now in
    let way = way_in c.args.ways.now in
    let trail = c.loop-at.trail.items in
    let v = c.loop-at.at in
    let k = c.junctions.result - 1 - length trail in
    ap (option_map (λ trail. trail.items)) c.from_residual.ensures
    ∙ sym (so_far_stops m way c.args.from trail k (k - 1) v (get_or c.args.ways.now v 0) (omega arith) c.loop-at-test.true (get_or_default c.args.ways.now v 0 65535 (omega arith)) (sym c.tail_toward.ensures ∙ c.in_err-at.was))
    ∙ c.loop-at.invariant.2
    ∙ ap (λ n. back m way c.args.from (n - 1) c.args.to) c.junctions.ensures

pub loop-at-preserved : goal.loop-at-preserved
loop-at-preserved g c =
    let m = g.N.Network.roads c.args.network.now in
    let way = way_in c.args.ways.now in
    let trail = c.loop-at.trail.items in
    let v = c.loop-at.at in
    let w = c.in_ok-at.at in
    let a = get_or c.args.ways.now v 0 in
    let most = c.junctions.result - 1 in
    let k = most - length trail in
    let tail = sym c.tail_toward.ensures ∙ c.in_ok-at.was in
    let len = c.push.ensures.len in (
      omega arith,
      tail_there m (g.met.N.Network.wellformed c.args.network.now) v a w tail,
      ap (λ xs. so_far m way c.args.from xs (most - length c.push.new.self.items) w) c.push.ensures.items
          ∙ ap (λ n. so_far m way c.args.from (trail ++ a ∷ []) n w) (omega arith)
          ∙ so_far_more m way c.args.from trail k (k - 1) v a (omega arith) c.loop-at-test.true (get_or_default c.args.ways.now v 0 65535 (omega arith)) w tail
          ∙ c.loop-at.invariant.2,
    )

pub returns : goal.returns
returns g c =
    let m = g.N.Network.roads c.args.network.now in
    let way = way_in c.args.ways.now in
    let trail = c.loop-at.trail.items in
    ap Some (items-with_items c.loop-at.trail c.reverse.new.self (c.reverse.ensures.len ∙ ap length c.deref_mut.ensures.value) ∙ c.reverse.ensures.after ∙ ap reverse c.deref_mut.ensures.value)
    ∙ sym (so_far_ends m way c.args.from trail (c.junctions.result - 1 - length trail) c.loop-at.at c.loop-at-test.false)
    ∙ c.loop-at.invariant.2
    ∙ ap (λ n. back m way c.args.from (n - 1) c.args.to) c.junctions.ensures
