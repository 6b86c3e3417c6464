-- The estimate by the rows of an index, case by case. Assumes nothing.
use Rattle.std.proofs.Common.{◌≡◌, ℕ, ◌+◌, ◌<◌, ◌≤◌, min, Bool, true, false, eqb, ltb, ◌&&◌, is_some, List, length, get_or, Some, None, Option, refl, sym, ap, ◌∙◌, ⊎_elim, arith}
use Rattle.std.specs.Bool.{then_some}
use Rattle.std.specs.Option.{option_map, option_eq}
use Rattle.std.proofs.lemmas.Bool.{and_right, cases_lt, eqb-true, le-leb, lt-leb, lt-ltb, le-ltb}
use Rattle.network.specs.First.{onward, provided}
use Rattle.network.specs.Model.{Roads, there}
use Rattle.network.proofs.Following.{some_same}
use Rattle.network.proofs.First.{clash, first_none, provided_true, provided_false}
use Rattle.clock.specs.declared.seconds.Seconds.{Seconds}
use Rattle.least.specs.Held.{day_firsts}
use Rattle.least.specs.Segments.{segment_at, segment_end}
use Rattle.least.proofs.Cuts.{Whole, whole_says, span_within, held, found_at, found_holds}
use Rattle.rows.specs.Guided.{least_to, wanted_at, guided_estimate}
use Rattle.rows.specs.declared.entry.Entry.{Entry}
use Rattle.rows.proofs.Nearness.{wanted_here}
use Rattle.guided.specs.Indexed.{lists_of}
use Rattle.guided.specs.Lists.{Lists, network_of, row_of, index_estimate}
use Rattle.guided.specs.declared.indexed.IndexedRoads.{IndexedRoads}

module _ (m : Roads) (segment_at : ℕ → Option ℕ) (end : ℕ → ℕ) (C : ℕ) (rows : ℕ → ℕ → List Entry) (v h : ℕ) (wanted : ℕ → Bool) where
  pub estimate_nowhere : m.junctions ≤ v → guided_estimate m segment_at end C rows v h wanted ≡ None
  unfolding guided_estimate
  estimate_nowhere l = rw (le-ltb v m.junctions l, guided_estimate)

  pub estimate_by_day : v < m.junctions → h ≤ 86400 → (i : ℕ) → segment_at h ≡ Some i → guided_estimate m segment_at end C rows v h wanted ≡ option_map (λ t. min (h + t) (end i)) (least_to C wanted (rows i v))
  unfolding guided_estimate
  estimate_by_day l k i e = rw (lt-ltb v m.junctions l, le-leb h 86400 k, guided_estimate) (ap (λ o. onward o (λ i. option_map (λ t. min (h + t) (end i)) (least_to C wanted (rows i v)))) e)

  pub estimate_by_night : v < m.junctions → 86400 < h → guided_estimate m segment_at end C rows v h wanted ≡ provided (wanted_at m wanted v) h
  unfolding guided_estimate
  estimate_by_night l k = rw (lt-ltb v m.junctions l, lt-leb h 86400 k, guided_estimate)

-- which sites are asked for
module _ (m : Roads) (wanted : ℕ → Bool) (v : ℕ) where
  abbrev pub asked : ℕ → Option ℕ
  asked s = provided (eqb (m.place s) v && wanted s) s

  pub none_wanted : ((s : ℕ) → s < m.sites → asked s ≡ None) → false ≡ wanted_at m wanted v
  unfolding wanted_at
  none_wanted h = sym (ap is_some (first_none asked m.sites h))

  module _ (s : ℕ) (within : s < m.sites) (place : Option ℕ) (says : place ≡ there m.sites m.place s) where
    stands : place ≡ Some (m.place s)
    stands = says ∙ provided_true (ltb s m.sites) (m.place s) (lt-ltb s m.sites within)

    place_test : option_eq eqb place (Some v) ≡ eqb (m.place s) v
    place_test = ap (λ o. option_eq eqb o (Some v)) stands

    pub stands_wanted : option_eq eqb place (Some v) ≡ true → wanted s ≡ true → true ≡ wanted_at m wanted v
    stands_wanted e w = sym (wanted_here m wanted v s within (eqb-true (m.place s) v (sym place_test ∙ e)) w)

    pub stands_elsewhere : option_eq eqb place (Some v) ≡ false → asked s ≡ None
    stands_elsewhere e = provided_false (eqb (m.place s) v && wanted s) s (ap (λ b. b && wanted s) (sym place_test ∙ e))

  pub not_asked : (s : ℕ) → wanted s ≡ false → asked s ≡ None
  not_asked s w = provided_false (eqb (m.place s) v && wanted s) s (and_right (eqb (m.place s) v) (wanted s) w)

-- the estimate by lists, by day and by night
module _ (r : IndexedRoads) (v h : ℕ) (wanted : ℕ → Bool) where
  abbrev x : Lists
  x = lists_of r

  whole : Whole (day_firsts r.day)
  whole = whole_says (day_firsts r.day) r.day.whole

  module _ (i : ℕ) (found : segment_at (day_firsts r.day) h ≡ Some i) where
    holds : (i < length (day_firsts r.day)) × (get_or (day_firsts r.day) i 0 ≤ h) × (h < segment_end (day_firsts r.day) i)
    holds = found_holds (day_firsts r.day) whole i h found

    ends : segment_end (day_firsts r.day) i ≤ 86401
    ends = (span_within (day_firsts r.day) whole i holds.0).1

    pub segment_there : i < length x.segments
    segment_there = let l = holds.0 in let e = ap length r.cut in omega arith

    pub estimated_by_day : v < (network_of x).junctions → index_estimate x v h wanted ≡ option_map (λ t. min (h + t) (segment_end x.segments i)) (least_to x.nearest wanted (row_of x i v))
    estimated_by_day l = estimate_by_day (network_of x) (segment_at x.segments) (segment_end x.segments) x.nearest (row_of x) v h wanted l (let e = ends in let m = holds.2 in omega arith) i (sym (ap (λ f. segment_at f h) r.cut) ∙ found)

    -- what is answered by day is a reading
    pub answered_by_day : (q : ℕ) → Some q ≡ option_map (λ t. min (h + t) (segment_end x.segments i)) (least_to x.nearest wanted (row_of x i v)) → q ≤ 172800
    answered_by_day q e = go (least_to x.nearest wanted (row_of x i v)) e
      where
        go : (o : Option ℕ) → Some q ≡ option_map (λ t. min (h + t) (segment_end x.segments i)) o → q ≤ 172800
        go None p = clash (Some q) q refl p
        go (Some t) p =
            let k = some_same (Some q) q (min (h + t) (segment_end x.segments i)) refl p in
            let m = ends in
            let c = ap (λ f. segment_end f i) r.cut in
            omega arith

  module _ (none : segment_at (day_firsts r.day) h ≡ None) where
    pub late : 86400 < h
    late =
        ⊎_elim
        (λ l. l)
        (λ l. let k = held (day_firsts r.day) whole h l in clash (segment_at (day_firsts r.day) h) k.0 (found_at (day_firsts r.day) whole k.0 h k.1 k.2 k.3) none)
        (cases_lt 86400 h)

    pub estimated_by_night : v < (network_of x).junctions → index_estimate x v h wanted ≡ provided (wanted_at (network_of x) wanted v) h
    estimated_by_night l = estimate_by_night (network_of x) (segment_at x.segments) (segment_end x.segments) x.nearest (row_of x) v h wanted l late

pub if_any : (b : Bool) (s : Seconds) → option_map (λ (q : Seconds). q.value) (then_some b s) ≡ provided b s.value
if_any true s = refl
if_any false s = refl
