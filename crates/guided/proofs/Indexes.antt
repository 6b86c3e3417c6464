-- Lists that offer just themselves are the index of least times, and so they differ nowhere from the right rows. Assumes nothing.
use Rattle.std.proofs.Common.{◌≡◌, ℕ, ◌*◌, ◌<◌, ◌≤◌, List, length, get_or, None, arith}
use Rattle.clock.specs.ClockLaws.{roads_wellformed}
use Rattle.network.specs.Laws.{WellFormed}
use Rattle.rows.specs.declared.entry.Entry.{Entry}
use Rattle.rows.proofs.Bounding.{index_times}
use Rattle.rows.proofs.Differing.{index_if_none, none_if_index}
use Rattle.rows.proofs.Existence.{swept, swept_defined, defined_once}
use Rattle.rows.proofs.Places.{index_same}
use Rattle.rows.proofs.Reading.{index_offers}
use Rattle.guided.specs.GuidedLaws.{arc_within, least_index}
use Rattle.guided.specs.Indexed.{lists_of}
use Rattle.guided.specs.Lists.{Lists, network_of, arc_times, difference_from}
use Rattle.guided.specs.Offers.{offered_of, own_difference}
use Rattle.guided.specs.Loads.{RightRows}
use Rattle.guided.specs.declared.indexed.IndexedRoads.{IndexedRoads}

module _ (r : IndexedRoads) where
  abbrev x : Lists
  x = lists_of r

  ok : WellFormed (network_of x)
  ok = roads_wellformed r.roads

  -- there are such rows
  pub right_rows : (rows : ℕ → ℕ → List Entry) × RightRows x rows
  right_rows = (λ i. swept (network_of x) (arc_times x i) x.nearest (network_of x).junctions, λ i l. swept_defined (network_of x) (arc_times x i) x.nearest ok.head_within)

  -- no time of the index is great
  pub low_times : own_difference x ≡ None → (p : ℕ) → p < length x.segments * (network_of x).junctions * x.nearest → get_or x.times p 0 ≤ 4095 * 172800
  low_times e p l =
      let few = ok.few_junctions in
      let t = index_times (network_of x) ok.head_within (length x.segments) x.nearest (arc_times x) x.sites x.times (least_index r e) 172800 (λ i a k m. (arc_within r i a k m).1) p l in
      omega arith

  module _ (rows : ℕ → ℕ → List Entry) (right : RightRows x rows) where
    pub right_if_own : own_difference x ≡ None → difference_from x rows ≡ None
    right_if_own e =
        let z = least_index r e in
        none_if_index (length x.segments) (network_of x).junctions x.nearest rows x.sites x.times
        (index_same (length x.segments) (network_of x).junctions x.nearest z.0 rows x.sites x.times (λ i v l k. defined_once (network_of x) (arc_times x i) x.nearest (z.0 i) (rows i) (z.1 i l) (right i l) v k) z.2)

    pub own_if_right : difference_from x rows ≡ None → own_difference x ≡ None
    unfolding own_difference
    own_if_right e =
        let few = ok.few_sites in
        none_if_index (length x.segments) (network_of x).junctions x.nearest (offered_of x) x.sites x.times
        (index_offers (network_of x) (omega arith) ok.head_within (length x.segments) x.nearest (arc_times x) x.sites x.times
        (rows, right, index_if_none (length x.segments) (network_of x).junctions x.nearest rows x.sites x.times r.sites_count r.times_count e))

  -- so lists in which no difference from any right rows was found are the index
  pub none_found : ((rows : ℕ → ℕ → List Entry) → RightRows x rows → difference_from x rows ≡ None) → own_difference x ≡ None
  none_found h = own_if_right right_rows.0 right_rows.1 (h right_rows.0 right_rows.1)
