-- The row at an arc's head, offered at the junction that the arc leaves. Assumes nothing.
use Prim.{tt}
use Rattle.std.proofs.Common.{◌≡◌, ℕ, ◌<◌, min, Bool, true, false, ltb, List, length, is_some, Some, None, Option, sym, ap, ◌∙◌, subst, arith}
use Rattle.std.specs.List.{list_all}
use Rattle.std.specs.Option.{OnSome, IfNone}
use Rattle.clock.specs.ClockLaws.{roads_wellformed}
use Rattle.clock.specs.Held.{road_lists}
use Rattle.least.specs.Held.{day_firsts}
use Rattle.least.specs.Times.{least_travel_time}
use Rattle.least.proofs.LeastTimes.{least_says}
use Rattle.network.specs.Model.{there}
use Rattle.network.proofs.Following.{provided_says}
use Rattle.rows.specs.Index.{place_at, read_row}
use Rattle.rows.specs.Offering.{fits, fitting, offer_all}
use Rattle.rows.specs.declared.entry.Entry.{Entry}
use Rattle.rows.proofs.Places.{place_below}
use Rattle.rows.proofs.Reoffering.{all_fitting, one_large}
use Rattle.guided.specs.GuidedLaws.{arc_within}
use Rattle.guided.specs.Indexed.{lists_of}
use Rattle.guided.specs.Lists.{Lists, network_of, arc_times, row_of, row_lists}
use Rattle.guided.specs.Offers.{own_difference}
use Rattle.guided.specs.declared.indexed.IndexedRoads.{IndexedRoads}
use Rattle.guided.proofs.Indexes.{low_times}
use Rattle.guided.proofs.Parts.{row_says, row_read}

-- what an answer says where there is one, and what its want says, by a test
pub some_if : {X : Type 0} {P : Type 0} (o : Option X) (b : Bool) → is_some o ≡ b → (b ≡ true → P) → OnSome o P
some_if None b e f = tt
some_if (Some y) b e f = f (sym e)

pub none_if : {X : Type 0} {P : Type 0} (o : Option X) (b : Bool) → is_some o ≡ b → (b ≡ false → P) → IfNone o P
none_if None b e f = f (sym e)
none_if (Some y) b e f = tt

module _ (r : IndexedRoads) (i a : ℕ) (here : i < length (lists_of r).segments) (arc : a < (network_of (lists_of r)).arcs) where
  abbrev x : Lists
  x = lists_of r

  pub head_says : (w : ℕ) → Some w ≡ there (network_of x).arcs (network_of x).head a → (w ≡ (network_of x).head a) × (w < (network_of x).junctions)
  head_says w e =
      let k = provided_says (ltb a (network_of x).arcs) ((network_of x).head a) w (sym e) in
      (sym k.1, subst (λ h. h < (network_of x).junctions) k.1 ((roads_wellformed r.roads).head_within a arc))

  module _ (w : ℕ) (head : w ≡ (network_of x).head a) (by : ℕ) (takes : Some by ≡ least_travel_time (road_lists r.roads) (day_firsts r.day) i a) where
    by_says : by ≡ arc_times x i a
    by_says = (least_says (road_lists r.roads) x.segments i a by (ap (λ f. least_travel_time (road_lists r.roads) f i a) (sym r.cut) ∙ sym takes)).2

    module _ (s t : List ℕ) (row : Some (s, t) ≡ row_lists x i w) where
      abbrev pub entries : List Entry
      entries = read_row s t (min (length s) (length t)) 0

      pub offered_along : (C : ℕ) (l : List Entry) → list_all (fits by) entries ≡ true → offer_all C by (fitting by entries) l ≡ offer_all C (arc_times x i a) (row_of x i ((network_of x).head a)) l
      offered_along C l e =
          ap (λ q. offer_all C by q l) (all_fitting by entries e ∙ (row_read r i w s t row).1 ∙ ap (row_of x i) head)
          ∙ ap (λ d. offer_all C d (row_of x i ((network_of x).head a)) l) by_says

      -- in the index of least times every time fits
      pub fits_along : list_all (fits by) entries ≡ false → own_difference x ≡ None → ⊥
      fits_along f e =
          let p = one_large s t by (min (length s) (length t)) 0 f in
          let o = row_says r i w s t row in
          let k = o.times_long in
          let l = p.1 in
          let most = p.2 in
          let same = ap (λ z. z.time) (o.entries p.0 (omega arith)) in
          let low = low_times r e (place_at (network_of x).junctions x.nearest i w p.0) (place_below (length x.segments) (network_of x).junctions x.nearest i w p.0 o.in_day o.there (omega arith)) in
          let d = by_says in
          let m = (arc_within r i a here arc).1 in
          omega arith
