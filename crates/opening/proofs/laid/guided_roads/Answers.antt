use Rattle.std.proofs.Common.{◌≡◌, ◌≤◌, length, None, Err, Ok, ap, sym, subst, ◌∙◌, arith}
use Rattle.std.specs.Option.{option_or}
use Rattle.std.proofs.lemmas.Nat.{mul-le}
use Rattle.std.proofs.lemmas.Result.{IfOk-at_ok}
use Rattle.clock.specs.ClockLaws.{roads_wellformed}
use Rattle.clock.specs.Held.{road_lists, table_lists}
use Rattle.clock.specs.Points.{table_refusal}
use Rattle.opening.specs.Guided.{index_refusal, Laid}
use Rattle.opening.proofs.Laying.{taken, loaded, not_refused, of_depot_loaded}
use Rattle.depot.specs.Reads.{seen}
use Rattle.guided.specs.Held.{guided_lists, index_lists}
use Rattle.guided.specs.Loads.{handed_back}
use Rattle.laying.specs.Faults.{lay_fault}
use Rattle.network.specs.Refused.{refused}
use Rattle.opening.proofs.laid.guided_roads.Goals as goal

pub laid-requires-clause-few : goal.laid-requires-clause-few
laid-requires-clause-few c =
    let few : c.junctions.result ≤ 4096 = subst (λ n. n ≤ 4096) (sym c.junctions.ensures) (roads_wellformed c.in-Ok.roads).few_junctions in
    let long = c.as_mut_slice.ensures.len ∙ c.in_ok-work.ensures.len in
    let most = mul-le c.junctions.result c.room_for.result 4096 8 few c.room_for.ensures.few in
    omega arith

pub unreachable-requires : goal.unreachable-requires
unreachable-requires c =
    let x = index_lists c.in-Ok-2.tables in
    let room = c.laid.auto.work ∙ c.as_mut_slice.ensures.len ∙ sym c.as_mut_slice-2.ensures.len in
    let laid = IfOk-at_ok (λ t. Laid (seen c.args.depot.now) (index_lists t) (length c.laid.new.work)) c.in-Ok-2.is c.in_ok-tables.ensures.tables in
    let here : Laid (seen c.args.depot.now) x (length c.as_mut_slice-2.result.now) = subst (Laid (seen c.args.depot.now) x) room laid in
    taken x (handed_back c.in-Err-load.field-0) (sym (loaded x (length c.as_mut_slice-2.result.now) here.quiet here.index (Err (handed_back c.in-Err-load.field-0)) c.in-Err-load.ensures.answer))

pub returns-clause-refusal : goal.returns-clause-refusal
returns-clause-refusal c =
    let d = seen c.args.depot.now in
    let none = sym (ap table_refusal c.in_ok-clock_tables.ensures) ∙ not_refused (table_lists c.in_ok-clock_tables.field-0) (road_lists c.in-Ok.roads) c.in-Ok.ensures in
    let index : None ≡ index_refusal d.segments d.nearest = sym (ap (refused lay_fault) c.in-Ok-2.is) ∙ c.in_ok-tables.ensures.refusal in
    index ∙ sym (ap (λ o. option_or o (index_refusal d.segments d.nearest)) none)

pub returns-clause-roads : goal.returns-clause-roads
returns-clause-roads c =
    let x = index_lists c.in-Ok-2.tables in
    let room = c.laid.auto.work ∙ c.as_mut_slice.ensures.len ∙ sym c.as_mut_slice-2.ensures.len in
    let laid = IfOk-at_ok (λ t. Laid (seen c.args.depot.now) (index_lists t) (length c.laid.new.work)) c.in-Ok-2.is c.in_ok-tables.ensures.tables in
    let here : Laid (seen c.args.depot.now) x (length c.as_mut_slice-2.result.now) = subst (Laid (seen c.args.depot.now) x) room laid in
    of_depot_loaded (seen c.args.depot.now) x (guided_lists c.in-Ok-load.roads) (length c.as_mut_slice-2.result.now) here
    (loaded x (length c.as_mut_slice-2.result.now) here.quiet here.index (Ok (guided_lists c.in-Ok-load.roads)) c.in-Ok-load.ensures.answer)
