use Rattle.std.proofs.Common.{◌≡◌, ◌+◌, min, Some, ap, ◌∙◌, arith}
use Rattle.std.specs.Option.{option_map}
use Rattle.least.specs.Segments.{segment_end}
use Rattle.least.proofs.Cuts.{whole_says, span_says, span_within}
use Rattle.least.specs.Held.{day_firsts}
use Rattle.network.specs.Sets.{has}
use Rattle.guided.proofs.Parts.{row_told}
use Rattle.guided.proofs.indexed.IndexedRoads.by_day.Goals as goal

pub returns-in_err-time : goal.returns-in_err-time
returns-in_err-time c =
    let r = c.args.self.now in
    let said = c.in_err-time.ensures ∙ row_told r (has c.args.wanted.now) c.args.segment c.args.junction c.in_ok-sites.sites.now c.in_ok-sites.times.now c.in_ok-sites.ensures in
    c.from_residual-in_err-time.ensures ∙ ap (option_map (λ t. min (c.args.second + t) (segment_end r.segments.items c.args.segment))) said

pub returns : goal.returns
returns c =
    let r = c.args.self.now in
    let firsts = day_firsts r.day in
    let said = c.in_ok-time.ensures ∙ row_told r (has c.args.wanted.now) c.args.segment c.args.junction c.in_ok-sites.sites.now c.in_ok-sites.times.now c.in_ok-sites.ensures in
    let span = span_says firsts c.args.segment c.in_ok-end.field-0-0 c.in_ok-end.end c.in_ok-end.ensures in
    let ends = span.2 ∙ ap (λ l. segment_end l c.args.segment) r.cut in
    let within = (span_within firsts (whole_says firsts r.day.whole) c.args.segment span.0).1 in
    let sum = c.saturating_add.ensures in
    let least = c.min.ensures in
    ap Some (let z : c.min.result ≡ min (c.args.second + c.in_ok-time.time) (segment_end r.segments.items c.args.segment) = omega arith in z)
    ∙ ap (option_map (λ t. min (c.args.second + t) (segment_end r.segments.items c.args.segment))) said
