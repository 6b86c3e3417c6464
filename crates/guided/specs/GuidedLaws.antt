-- Guided roads keep the rule of an estimate. Assumes nothing.
use Rattle.std.specs.Prelude.{◌≡◌, ℕ, ◌<◌, ◌≤◌, List, length, None, refl, slice_index}
use Rattle.std.proofs.Common.{subst, arith}
use Rattle.network.specs.Estimates.{Admissible}
use Rattle.network.proofs.First.{is_none}
use Rattle.clock.specs.ClockLaws.{roads_wellformed, roads_lawful, roads_open, carry_too_late}
use Rattle.clock.specs.Held.{road_lists}
use Rattle.least.specs.Held.{day_firsts}
use Rattle.least.specs.Segments.{segment_at, segment_end}
use Rattle.least.proofs.Cuts.{Whole, whole_says, span_within, held, found_at, found_holds}
use Rattle.least.proofs.LeastTimes.{no_sooner, least_within}
use Rattle.rows.proofs.Answering.{index_admissible}
use Rattle.rows.proofs.Differing.{index_if_none}
use Rattle.rows.proofs.Guiding.{Cuts}
use Rattle.rows.proofs.Reading.{index_from_offers}
use Rattle.guided.specs.Held.{guided_lists}
use Rattle.guided.specs.Indexed.{lists_of}
use Rattle.guided.specs.Lists.{Lists, HoldsIndex, network_of, arc_times, index_estimate}
use Rattle.guided.specs.Offers.{own_difference, offered_of}
use Rattle.guided.specs.declared.indexed.IndexedRoads.{IndexedRoads}
use Rattle.guided.specs.declared.roads.GuidedRoads.{GuidedRoads}

-- the segments of a day, for the estimate
pub day_cuts : (firsts : List ℕ) → Whole firsts → Cuts (length firsts) (λ i. slice_index firsts i) (segment_end firsts) (segment_at firsts)
day_cuts firsts w = record {
  holds = λ t i e. found_holds firsts w i t e;
  covers = λ t l. let h = held firsts w t l in (h.0, found_at firsts w h.0 t h.1 h.2 h.3);
  ends = λ i l. (span_within firsts w i l).1;
}

module _ (r : IndexedRoads) where
  abbrev x : Lists
  x = lists_of r

  -- the segments cut a day
  pub whole : Whole x.segments
  whole = subst Whole r.cut (whole_says (day_firsts r.day) r.day.whole)

  -- an arc's least time is at least 1, and at most two days
  pub arc_within : (i a : ℕ) → i < length x.segments → a < (network_of x).arcs → (1 ≤ arc_times x i a) × (arc_times x i a ≤ 172800)
  arc_within i a l k = least_within (road_lists r.roads) a k (roads_open r.roads a k) x.segments whole i l

  -- lists that offer just themselves are the index of least times
  pub least_index : own_difference x ≡ None → HoldsIndex x
  unfolding own_difference
  least_index e =
      let ok = roads_wellformed r.roads in
      index_from_offers (network_of x) (let few = ok.few_sites in omega arith) ok.head_within (length x.segments) x.nearest (arc_times x) x.sites x.times
      (λ i a l k. (arc_within i a l k).0)
      (index_if_none (length x.segments) (network_of x).junctions x.nearest (offered_of x) x.sites x.times r.sites_count r.times_count e)

module _ (r : GuidedRoads) where
  abbrev y : Lists
  y = guided_lists r

  -- guided roads hold the index of least times
  pub guided_index : HoldsIndex y
  guided_index = least_index r.indexed (is_none (own_difference y) r.right)

  -- and by it their estimate is admissible
  pub guided_keeps : Admissible (network_of y) (index_estimate y)
  guided_keeps =
      index_admissible (network_of y) (roads_wellformed r.indexed.roads) (roads_lawful r.indexed.roads) (λ h. refl) (carry_too_late (road_lists r.indexed.roads))
      (length y.segments) (λ i. slice_index y.segments i) (segment_end y.segments) (segment_at y.segments) (day_cuts y.segments (whole r.indexed)) (arc_times y)
      (λ i a t q l k m n e. no_sooner (road_lists r.indexed.roads) a k (roads_open r.indexed.roads a k) y.segments (whole r.indexed) i l t q m n e)
      y.nearest y.sites y.times guided_index
