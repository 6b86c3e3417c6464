-- A row that is computed by the arcs' least times is the right one, and what the first row that differs tells. Assumes nothing.
use Rattle.std.proofs.Common.{◌≡◌, ℕ, ◌<◌, ◌≤◌, ltb, List, length, map, Some, None, Option, refl, sym, ap, ◌∙◌, arith}
use Rattle.std.specs.List.{range_with_len}
use Rattle.std.specs.Option.{option_map}
use Rattle.clock.specs.Held.{road_lists}
use Rattle.least.specs.Held.{day_firsts}
use Rattle.least.specs.Times.{least_in_segment}
use Rattle.network.specs.Model.{there}
use Rattle.network.specs.declared.refusals.Refusal.{Refusal}
use Rattle.network.proofs.First.{clash, first_at, first_none}
use Rattle.network.proofs.Following.{provided_says}
use Rattle.rows.specs.Rows.{Takes, Defined}
use Rattle.rows.specs.declared.entry.Entry.{Entry}
use Rattle.rows.proofs.Uniqueness.{one_nearest}
use Rattle.laying.specs.Costs.{cost_by, costs_of}
use Rattle.laying.proofs.Costing.{made_long, made_at}
use Rattle.laying.proofs.Layouts.{nearest_same}
use Rattle.guided.specs.Faults.{differs}
use Rattle.guided.specs.Indexed.{lists_of}
use Rattle.guided.specs.Lists.{Lists, network_of, arc_times, difference_from}
use Rattle.guided.specs.Offers.{row_difference, segment_difference}
use Rattle.guided.specs.Loads.{RightRows}
use Rattle.guided.specs.declared.indexed.IndexedRoads.{IndexedRoads}
use Rattle.guided.proofs.Differences.{difference_is}

module _ (r : IndexedRoads) (i : ℕ) (here : i < length (lists_of r).segments) (list : List ℕ) (made : Some list ≡ costs_of (road_lists r.roads) (day_firsts r.day) i) where
  abbrev x : Lists
  x = lists_of r

  list_is : list ≡ map (least_in_segment (road_lists r.roads) (day_firsts r.day) i) (range_with_len 0 (network_of x).arcs)
  list_is = sym (provided_says (ltb i (length (day_firsts r.day))) (map (least_in_segment (road_lists r.roads) (day_firsts r.day) i) (range_with_len 0 (network_of x).arcs)) list (sym made)).1

  pub costs_long : length list ≡ (network_of x).arcs
  costs_long = made_long (least_in_segment (road_lists r.roads) (day_firsts r.day) i) (network_of x).arcs list list_is

  cost_is : (a : ℕ) → a < (network_of x).arcs → cost_by list a ≡ arc_times x i a
  cost_is a l = made_at (least_in_segment (road_lists r.roads) (day_firsts r.day) i) (network_of x).arcs list list_is a l ∙ ap (λ f. least_in_segment (road_lists r.roads) f i a) r.cut

  -- a row that is read of the rows by these costs
  pub computed_right : (rows : ℕ → ℕ → List Entry) → RightRows x rows → (n : ℕ) (made : ℕ → List Entry) → Defined (network_of x) (cost_by list) x.nearest made → (v : ℕ) (row : List Entry) → v < (network_of x).junctions → Some row ≡ there n made v → row ≡ rows i v
  computed_right rows right n made least v row l e =
      let same : made v ≡ row = (provided_says (ltb v n) (made v) row (sym e)).1 in
      sym same ∙ one_nearest (made v) (rows i v) x.nearest (Takes (network_of x) (arc_times x i) v) (nearest_same (network_of x) (cost_by list) (arc_times x i) cost_is x.nearest v (made v) (least v l)) (right i here v l)

module _ (x : Lists) (rows : ℕ → ℕ → List Entry) where
  -- the first row of a segment that differs tells where the segment does
  pub row_tells : (i v : ℕ) (p : ℕ × ℕ × ℕ) → v < (network_of x).junctions → ((w : ℕ) → w < v → row_difference x i w (rows i w) ≡ None) → row_difference x i v (rows i v) ≡ Some p → Some (differs p) ≡ option_map differs (segment_difference x rows i)
  row_tells i v p l before e = sym (ap (option_map differs) (first_at (λ w. row_difference x i w (rows i w)) (network_of x).junctions v p l before e))

  pub segment_quiet_tells : (i n : ℕ) → (network_of x).junctions ≤ n → ((w : ℕ) → w < n → row_difference x i w (rows i w) ≡ None) → None ≡ option_map differs (segment_difference x rows i)
  segment_quiet_tells i n l h = sym (ap (option_map differs) (first_none (λ w. row_difference x i w (rows i w)) (network_of x).junctions (λ w k. h w (omega arith))))

  pub none_told : (o : Option (ℕ × ℕ × ℕ)) → None ≡ option_map differs o → o ≡ None
  none_told None e = refl
  none_told (Some p) e = clash (option_map differs (Some p)) (differs p) refl (sym e)

  -- the first segment that differs tells where the index does
  pub segment_tells : (i : ℕ) (q : Refusal) → i < length x.segments → ((j : ℕ) → j < i → segment_difference x rows j ≡ None) → Some q ≡ option_map differs (segment_difference x rows i) → Some q ≡ option_map differs (difference_from x rows)
  segment_tells i q l before e = go (segment_difference x rows i) refl e
    where
      go : (o : Option (ℕ × ℕ × ℕ)) → segment_difference x rows i ≡ o → Some q ≡ option_map differs o → Some q ≡ option_map differs (difference_from x rows)
      go None k h = clash (Some q) q refl h
      go (Some p) k h = h ∙ sym (ap (option_map differs) (difference_is x rows ∙ first_at (segment_difference x rows) (length x.segments) i p l before k))

  pub quiet_tells : difference_from x rows ≡ None → None ≡ option_map differs (difference_from x rows)
  quiet_tells e = sym (ap (option_map differs) e)
