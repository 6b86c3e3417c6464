use Rattle.std.proofs.Common.{◌+◌, min, leb, sym, ap, ◌∙◌, arith}
use Rattle.std.proofs.lemmas.Bool.{le-leb}
use Rattle.clock.specs.declared.seconds.Seconds.{Seconds}
use Rattle.network.specs.First.{provided}
use Rattle.network.proofs.First.{provided_true}
use Rattle.rows.specs.Guided.{least_to}
use Rattle.std.specs.Option.{option_map}
use Rattle.network.specs.Sets.{has}
use Rattle.least.specs.Segments.{segment_at, segment_end}
use Rattle.least.specs.Held.{day_firsts}
use Rattle.guided.specs.Indexed.{lists_of}
use Rattle.guided.specs.Lists.{row_of}
use Rattle.guided.proofs.Estimates.{estimate_nowhere, segment_there, estimated_by_day, answered_by_day, estimated_by_night, if_any}
use Rattle.guided.proofs.answers.GuidedRoadsGuide.estimate.Goals as goal

pub returns-then-junction-junctions : goal.returns-then-junction-junctions
returns-then-junction-junctions c = sym (estimate_nowhere _ _ _ _ _ _ _ _ (let e = c.junctions.ensures in omega arith))

pub by_day-requires-clause-segment : goal.by_day-requires-clause-segment
by_day-requires-clause-segment c =
    let r = c.args.self.now.indexed in
    segment_there r c.args.junction c.value.result (has c.args.wanted.now) c.in-Some.segment (sym c.in-Some.ensures)

pub returns-in_err-by_day-in-Some : goal.returns-in_err-by_day-in-Some
returns-in_err-by_day-in-Some c =
    let r = c.args.self.now.indexed in
    let x = lists_of r in
    let wanted = has c.args.wanted.now in
    let i = c.in-Some.segment in
    let found = ap (segment_at (day_firsts r.day)) (sym c.value.ensures) ∙ sym c.in-Some.ensures in
    let here = c.if-junction-junctions.false in
    let n = c.junctions.ensures in
    ap (option_map (λ (s : Seconds). s.value)) c.from_residual.ensures ∙ c.in_err-by_day-in-Some.ensures
    ∙ ap (λ h. option_map (λ t. min (h + t) (segment_end x.segments i)) (least_to x.nearest wanted (row_of x i c.args.junction))) c.value-in-Some.ensures
    ∙ sym (estimated_by_day r c.args.junction c.args.reading.value wanted i found (omega arith))

pub returns-in_ok-by_day-in-Some : goal.returns-in_ok-by_day-in-Some
returns-in_ok-by_day-in-Some c =
    let r = c.args.self.now.indexed in
    let x = lists_of r in
    let wanted = has c.args.wanted.now in
    let i = c.in-Some.segment in
    let found = ap (segment_at (day_firsts r.day)) (sym c.value.ensures) ∙ sym c.in-Some.ensures in
    let here = c.if-junction-junctions.false in
    let n = c.junctions.ensures in
    let says = c.in_ok-by_day-in-Some.ensures
    ∙ ap (λ h. option_map (λ t. min (h + t) (segment_end x.segments i)) (least_to x.nearest wanted (row_of x i c.args.junction))) c.value-in-Some.ensures in
    let low = answered_by_day r c.args.junction c.args.reading.value wanted i found c.in_ok-by_day-in-Some.field-0 says in
    c.new.ensures ∙ provided_true (leb c.in_ok-by_day-in-Some.field-0 172800) c.in_ok-by_day-in-Some.field-0 (le-leb c.in_ok-by_day-in-Some.field-0 172800 low)
    ∙ says
    ∙ sym (estimated_by_day r c.args.junction c.args.reading.value wanted i found (omega arith))

pub returns-in-None : goal.returns-in-None
returns-in-None c =
    let r = c.args.self.now.indexed in
    let wanted = has c.args.wanted.now in
    let none = ap (segment_at (day_firsts r.day)) (sym c.value.ensures) ∙ sym c.in-None.ensures in
    let here = c.if-junction-junctions.false in
    let n = c.junctions.ensures in
    ap (option_map (λ (s : Seconds). s.value)) c.then_some.ensures ∙ if_any c.has_wanted.result c.args.reading
    ∙ ap (λ b. provided b c.args.reading.value) c.has_wanted.ensures
    ∙ sym (estimated_by_night r c.args.junction c.args.reading.value wanted none (omega arith))
