use Rattle.std.proofs.Common.{◌≡◌, ◌-◌, length, take, Some, None, Ok, Err, sym, ap, ◌∙◌, subst, arith}
use Rattle.std.specs.Option.{option_map}
use Rattle.std.specs.Result.{result_ok}
use Rattle.std.proofs.lemmas.Grind.{common_steps}
use Rattle.network.specs.Refused.{refusal}
use Rattle.network.specs.declared.refusals.Places.TheVariants.{Call}
use Rattle.tracing.specs.Traces.{tracing, traced_by, way_in, InFront, Drives}
use Rattle.network.specs.Paths.{along}
use Rattle.tracing.proofs.Driven.{back_few}
use Rattle.tracing.proofs.Outcomes.{refused_told, refused_kept, traced_told, traced_written, traced_drives}
use Rattle.tracing.proofs.Refusing.{no_way, by_arcs}
use Rattle.tracing.proofs.traced.trace.Goals as goal

pub returns-in_err-trail : goal.returns-in_err-trail
returns-in_err-trail g c =
    let m = g.N.Network.roads c.args.network.now in
    let h = g.N.Network.height c.args.network.now c.in_ok-start.start in
    let ways = c.args.ways.now in
    let arcs = c.args.arcs.now in
    let t = tracing c.args.from c.args.number c.args.to (length ways) (length arcs) in
    let answer = traced_by m c.args.from c.args.number c.args.to ways arcs in
    let none = sym c.follow.ensures ∙ ap (option_map (λ trail. trail.items)) (c.ok_or.ensures.ok_part ∙ ap result_ok c.in_err-trail.was) in
    let e : answer ≡ Err (refusal 38 Call) = no_way m (way_in ways) t h c.in_ok-start.ensures none in
    let refused = c.from_residual-in_err-trail.ensures in
    record {
      result = grind (arith, common_steps, refused, c.ok_or.ensures.value, c.in_err-trail.was) ∙ refused_told answer (refusal 38 Call) e;
      arcs = refused_kept answer (refusal 38 Call) arcs e;
      path = grind (arith, common_steps, refused);
    }

pub returns-in_err-reading : goal.returns-in_err-reading
returns-in_err-reading g c =
    let m = g.N.Network.roads c.args.network.now in
    let height = g.N.Network.height c.args.network.now in
    let ways = c.args.ways.now in
    let arcs = c.args.arcs.now in
    let trail = c.in_ok-trail.trail.items in
    let t = tracing c.args.from c.args.number c.args.to (length ways) (length arcs) in
    let answer = traced_by m c.args.from c.args.number c.args.to ways arcs in
    let led = sym c.follow.ensures ∙ ap (option_map (λ trail. trail.items)) (c.ok_or.ensures.ok_part ∙ ap result_ok c.in_ok-trail.was) in
    let none = ap (along m (height c.in_ok-start.start)) (sym c.as_slice.ensures.value) ∙ sym c.drive.ensures ∙ ap (option_map height) (c.ok_or-2.ensures.ok_part ∙ ap result_ok c.in_err-reading.was) in
    let e : answer ≡ Err (refusal 39 Call) = by_arcs m (way_in ways) t (height c.in_ok-start.start) c.in_ok-start.ensures trail None led none in
    let refused = c.from_residual-in_err-reading.ensures in
    record {
      result = grind (arith, common_steps, refused, c.ok_or-2.ensures.value, c.in_err-reading.was) ∙ refused_told answer (refusal 39 Call) e;
      arcs = refused_kept answer (refusal 39 Call) arcs e;
      path = grind (arith, common_steps, refused);
    }

pub put_in_front-requires : goal.put_in_front-requires
put_in_front-requires g c =
    let m = g.N.Network.roads c.args.network.now in
    let led = sym c.follow.ensures ∙ ap (option_map (λ trail. trail.items)) (c.ok_or.ensures.ok_part ∙ ap result_ok c.in_ok-trail.was) in
    let few = back_few m (way_in c.args.ways.now) c.args.from (m.junctions - 1) c.args.to c.in_ok-trail.trail.items led in
    let same = ap length c.as_slice-2.ensures.value in
    let long = c.in_ok-start.ensures.arcs_long in
    omega arith

pub returns : goal.returns
returns g c =
    let m = g.N.Network.roads c.args.network.now in
    let height = g.N.Network.height c.args.network.now in
    let h = height c.in_ok-start.start in
    let q = height c.in_ok-reading.reading in
    let ways = c.args.ways.now in
    let arcs = c.args.arcs.now in
    let after = c.put_in_front.new.list in
    let trail = c.in_ok-trail.trail.items in
    let t = tracing c.args.from c.args.number c.args.to (length ways) (length arcs) in
    let answer = traced_by m c.args.from c.args.number c.args.to ways arcs in
    let led = sym c.follow.ensures ∙ ap (option_map (λ trail. trail.items)) (c.ok_or.ensures.ok_part ∙ ap result_ok c.in_ok-trail.was) in
    let arrives = ap (along m h) (sym c.as_slice.ensures.value) ∙ sym c.drive.ensures ∙ ap (option_map height) (c.ok_or-2.ensures.ok_part ∙ ap result_ok c.in_ok-reading.was) in
    let e : answer ≡ Ok (trail, q) = by_arcs m (way_in ways) t h c.in_ok-start.ensures trail (Some q) led arrives in
    let front = subst (λ xs. InFront xs arcs after) c.as_slice-2.ensures.value c.put_in_front.ensures in
    let count = c.len.ensures.value in
    record {
      result = ap (λ n. Ok (n, q)) count ∙ traced_told answer trail q e;
      arcs = traced_written answer trail arcs after q e front;
      path = subst (λ n. Drives m c.args.from c.args.number c.args.to (take n after) q) (sym count) (traced_drives m (way_in ways) c.args.from c.args.number c.args.to (m.junctions - 1) h q trail arcs after c.in_ok-start.ensures.starts led arrives front);
    }
