use Rattle.std.proofs.Common.{sym, ap, ◌∙◌, ⊎_elim, arith}
use Rattle.std.proofs.lemmas.Bool.{le-leb}
use Rattle.network.proofs.First.{provided_true}
use Rattle.clock.specs.Model.{clock_carry}
use Rattle.clock.specs.Held.{road_lists}
use Rattle.clock.specs.ClockLaws.{roads_open, roads_carry, carry_no_arc, carry_too_late}
use Rattle.clock.proofs.roads.ClockRoads.arrival.Goals as goal

pub returns-then-arc-len : goal.returns-then-arc-len
returns-then-arc-len c =
    let s = c.args.self.now in
    let e = s.streets.heads.ok.0 in
    ⊎_elim
    (λ h. sym (carry_no_arc (road_lists s) c.args.arc c.args.entering.value (omega arith)))
    (λ h. let l = h.1 in sym (carry_too_late (road_lists s) c.args.arc c.args.entering.value (omega arith)))
    c.then-arc-len.either

pub enter-requires : goal.enter-requires
enter-requires c =
    let s = c.args.self.now in
    let e = s.streets.heads.ok.0 in
    record {
      open_arc = rw (c.deref.ensures.value, c.deref-2.ensures.value, c.deref-3.ensures.value) (roads_open s c.args.arc (omega arith));
      early = c.if-t-gt-LAST_DEPARTURE.false;
    }

pub returns : goal.returns
returns c =
    let s = c.args.self.now in
    let e = s.streets.heads.ok.0 in
    let given = rw (c.deref.ensures.value, c.deref-2.ensures.value, c.deref-3.ensures.value) at c.enter.ensures in
    let k = roads_carry s c.args.arc c.value-t.result c.enter.result (omega arith) c.if-t-gt-LAST_DEPARTURE.false given in
    c.new.ensures ∙ provided_true _ _ (le-leb _ _ k.1) ∙ sym k.0 ∙ ap (λ h. clock_carry (road_lists s) c.args.arc h) c.value-t.ensures
