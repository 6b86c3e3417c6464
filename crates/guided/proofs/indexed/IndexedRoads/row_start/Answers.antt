use Rattle.std.proofs.Common.{◌≡◌, ◌+◌, ◌*◌, ◌≤◌, length, ap, sym, subst, ◌∙◌, arith}
use Rattle.guided.specs.Indexed.{lists_of}
use Rattle.guided.specs.Lists.{network_of}
use Rattle.guided.proofs.Parts.{row_within}
use Rattle.guided.proofs.indexed.IndexedRoads.row_start.Goals as goal

within : (c : goal.After-row_known-1) → (c.args.segment * c.junctions.result + c.args.junction) * c.args.self.now.nearest + c.args.self.now.nearest ≤ length c.args.self.now.sites.items
within c =
    let r = c.args.self.now in
    let n = (network_of (lists_of r)).junctions in
    let k = row_within (length r.segments.items) n r.nearest r.some c.args.segment c.args.junction c.requires.segment c.requires.junction in
    let e = r.sites_count in
    subst (λ j. (c.args.segment * j + c.args.junction) * r.nearest + r.nearest ≤ length r.sites.items) (sym c.junctions.ensures) (omega arith)

pub overflow_mul-result : goal.overflow_mul-result
overflow_mul-result c = let k = within c in let e = c.args.self.now.sites.ok.0 in omega arith

pub returns : goal.returns
returns c =
    let r = c.args.self.now in
    let k = within c in
    let e = r.sites_count in
    let f = r.times_count in
    record {
      start = ap (λ j. (c.args.segment * j + c.args.junction) * r.nearest) c.junctions.ensures ∙ (let z : (c.args.segment * (network_of (lists_of r)).junctions + c.args.junction) * r.nearest ≡ (c.args.segment * (network_of (lists_of r)).junctions + c.args.junction) * r.nearest + 0 = omega arith in z);
      sites = k;
      times = omega arith;
    }
