use Rattle.std.proofs.Common.{rules, ◌≡◌, ℕ, ◌≤◌, List, length, vec_items, sym, ap, subst, ◌∙◌}
use Rattle.std.specs.Vec.{with_items}
use Rattle.std.proofs.lemmas.List.{with_items_is}
use Rattle.std.proofs.lemmas.List.Elements.{same_from_all_zip}
use Rattle.clock.specs.Held.{road_lists, table_lists}
use Rattle.clock.specs.Model.{clock_roads}
use Rattle.opening.proofs.Laying.{room_from, room_refused, laid_from}
use Rattle.opening.specs.Guided.{Laid}
use Rattle.depot.specs.Reads.{seen}
use Rattle.guided.specs.Lists.{Lists}
use Rattle.laying.specs.Admitted.{lay_refusal}
use Rattle.opening.proofs.laid.laid.Goals as goal

pub returns-in-Err-clause-refusal : goal.returns-in-Err-clause-refusal
returns-in-Err-clause-refusal c =
    let firsts : List ℕ = vec_items c.args.depot.now.segments in
    let C = c.args.depot.now.nearest in
    let n = (clock_roads (road_lists c.args.roads)).junctions in
    let s = length c.as_mut_slice.result.now in
    let t = length c.as_mut_slice-2.result.now in
    let w = length c.args.work.now in
    let count : c.len.result ≡ length firsts = c.len.ensures ∙ search rules in
    let few = subst (λ k. k ≤ 8 → c.room_for.result ≡ k) count c.room_for.ensures.enough in
    let r = room_from firsts n C s t w c.room_for.result few c.requires.enough (c.as_mut_slice.ensures.len ∙ c.in_ok-sites.ensures.len) (c.as_mut_slice-2.ensures.len ∙ c.in_ok-times.ensures.len) in
    let same : vec_items c.in_ok-segments.segments ≡ firsts = same_from_all_zip _ firsts (vec_items c.in_ok-segments.segments) c.in_ok-segments.ensures.cases.0 (λ x y e. e) in
    c.in-Err.ensures.refusal ∙ ap (λ xs. lay_refusal n xs C s t w) (c.as_slice.ensures.value ∙ same) ∙ room_refused firsts n C s t w r

pub returns-clause-refusal : goal.returns-clause-refusal
returns-clause-refusal c =
    let firsts : List ℕ = vec_items c.args.depot.now.segments in
    let C = c.args.depot.now.nearest in
    let n = (clock_roads (road_lists c.args.roads)).junctions in
    let s = length c.as_mut_slice.result.now in
    let t = length c.as_mut_slice-2.result.now in
    let w = length c.args.work.now in
    let count : c.len.result ≡ length firsts = c.len.ensures ∙ search rules in
    let few = subst (λ k. k ≤ 8 → c.room_for.result ≡ k) count c.room_for.ensures.enough in
    let r = room_from firsts n C s t w c.room_for.result few c.requires.enough (c.as_mut_slice.ensures.len ∙ c.in_ok-sites.ensures.len) (c.as_mut_slice-2.ensures.len ∙ c.in_ok-times.ensures.len) in
    let same : vec_items c.in_ok-segments.segments ≡ firsts = same_from_all_zip _ firsts (vec_items c.in_ok-segments.segments) c.in_ok-segments.ensures.cases.0 (λ x y e. e) in
    c.in_default.ensures.refusal ∙ ap (λ xs. lay_refusal n xs C s t w) (c.as_slice.ensures.value ∙ same) ∙ room_refused firsts n C s t w r

pub returns-clause-tables : goal.returns-clause-tables
returns-clause-tables c =
    let same : vec_items c.in_ok-segments.segments ≡ vec_items c.args.depot.now.segments = same_from_all_zip _ (vec_items c.args.depot.now.segments) (vec_items c.in_ok-segments.segments) c.in_ok-segments.ensures.cases.0 (λ x y e. e) in
    let x =
    laid_from (seen c.args.depot.now) (road_lists c.args.roads) (table_lists c.from.result) c.from.ensures c.requires.tables c.requires.accepted
    c.as_slice.result.now (vec_items c.in_ok-segments.segments) c.as_slice.ensures.value same
    c.lay.new.sites c.lay.new.times (length c.lay.new.work) (length c.as_mut_slice.result.now) (length c.as_mut_slice-2.result.now) (length c.args.work.now) c.lay.auto.sites c.lay.auto.times c.lay.auto.work
    c.in_default.ensures.refusal c.in_default.ensures.index in
    let sites : vec_items (with_items c.in_ok-sites.sites c.lay.new.sites) ≡ c.lay.new.sites = with_items_is c.in_ok-sites.sites c.lay.new.sites (c.lay.auto.sites ∙ c.as_mut_slice.ensures.len) in
    let times : vec_items (with_items c.in_ok-times.times c.lay.new.times) ≡ c.lay.new.times = with_items_is c.in_ok-times.times c.lay.new.times (c.lay.auto.times ∙ c.as_mut_slice-2.ensures.len) in
    let held : List ℕ → List ℕ → Lists = λ a b. record { tables = table_lists c.from.result; segments = vec_items c.in_ok-segments.segments; nearest = c.args.depot.now.nearest; sites = a; times = b } in
    subst (λ b. Laid (seen c.args.depot.now) (held (vec_items (with_items c.in_ok-sites.sites c.lay.new.sites)) b) (length c.lay.new.work)) (sym times)
    (subst (λ a. Laid (seen c.args.depot.now) (held a c.lay.new.times) (length c.lay.new.work)) (sym sites) x)
