-- A row of the index as a part of its lists. Assumes nothing.
use Rattle.std.proofs.Common.{◌≡◌, ℕ, ◌+◌, ◌-◌, ◌*◌, ◌<◌, ◌≤◌, min, Bool, ltb, ◌&&◌, List, length, get_or, drop, length-take-le, length-drop, get_or-take, get_or-drop, slice_range, Some, None, sym, ap, ◌∙◌, subst, arith}
use Rattle.std.proofs.lemmas.Bool.{and_parts, and_from, ltb-true, lt-ltb}
use Rattle.network.specs.First.{provided}
use Rattle.network.proofs.First.{clash, provided_true}
use Rattle.network.proofs.Following.{provided_says}
use Rattle.rows.specs.Index.{place_at, listed_at, read_row, row_in}
use Rattle.rows.proofs.Parting.{read_row_same}
use Rattle.rows.proofs.Places.{place_below}
use Rattle.rows.specs.Guided.{least_to}
use Rattle.guided.specs.Indexed.{lists_of}
use Rattle.guided.specs.Lists.{Lists, network_of, part_at, row_of, row_lists}
use Rattle.guided.specs.declared.indexed.IndexedRoads.{IndexedRoads}

module _ (list : List ℕ) (n p : ℕ) (within : p + n ≤ length list) where
  pub part_long : length (slice_range list p (p + n)) ≡ n
  part_long = let rest = length-drop p list in length-take-le (p + n - p) (drop p list) (omega arith) ∙ (let e : p + n - p ≡ n = omega arith in e)

  pub part_entry : (r : ℕ) → r < n → get_or (slice_range list p (p + n)) r 0 ≡ get_or list (p + r) 0
  part_entry r l = get_or-take (p + n - p) (drop p list) r 0 (omega arith) ∙ get_or-drop p list r 0

-- what a row's part of the lists is
pub record PartOf (segments n C : ℕ) (sites times : List ℕ) (i v : ℕ) (s t : List ℕ) : Type 0 where
  pub in_day : i < segments
  pub there : v < n
  pub sites_long : length s ≡ C
  pub times_long : length t ≡ C
  pub entries : (r : ℕ) → r < C → listed_at s t r ≡ listed_at sites times (place_at n C i v r)
  pub row : read_row s t C 0 ≡ row_in n C sites times i v

module _ (segments n C : ℕ) (some : 1 ≤ C) where
  pub row_within : (i v : ℕ) → i < segments → v < n → (i * n + v) * C + C ≤ segments * n * C
  row_within i v l k = let low = place_below segments n C i v (C - 1) l k (omega arith) in omega arith

module _ (segments n C : ℕ) (sites times : List ℕ) (some : 1 ≤ C) (sites_count : length sites ≡ segments * n * C) (times_count : length times ≡ segments * n * C) where
  pub part_says : (i v : ℕ) (s t : List ℕ) → Some (s, t) ≡ provided (ltb i segments && ltb v n) (part_at sites times C (place_at n C i v 0)) → PartOf segments n C sites times i v s t
  part_says i v s t e =
      let k = provided_says (ltb i segments && ltb v n) (part_at sites times C (place_at n C i v 0)) (s, t) (sym e) in
      let both = and_parts (ltb i segments) (ltb v n) k.0 in
      let l = ltb-true i segments both.0 in
      let m = ltb-true v n both.1 in
      let fits = row_within segments n C some i v l m in
      subst (λ q. PartOf segments n C sites times i v q.0 q.1) k.1 (record {
        in_day = l;
        there = m;
        sites_long = part_long sites C (place_at n C i v 0) (omega arith);
        times_long = part_long times C (place_at n C i v 0) (omega arith);
        entries = λ r j. (λ q. record { site = at sites (omega arith) r j q; time = at times (omega arith) r j q });
        row = read_row_same (slice_range sites (place_at n C i v 0) (place_at n C i v 0 + C)) (slice_range times (place_at n C i v 0) (place_at n C i v 0 + C)) sites times C 0 (place_at n C i v 0)
            (λ r j. begins sites (omega arith) r j)
            (λ r j. begins times (omega arith) r j);
      })
    where
      begins : (list : List ℕ) → place_at n C i v 0 + C ≤ length list → (r : ℕ) → r < C → get_or (slice_range list (place_at n C i v 0) (place_at n C i v 0 + C)) (0 + r) 0 ≡ get_or list (place_at n C i v 0 + r) 0
      begins list fits r j = ap (λ k. get_or (slice_range list (place_at n C i v 0) (place_at n C i v 0 + C)) k 0) (let z : 0 + r ≡ r = omega arith in z) ∙ part_entry list C (place_at n C i v 0) fits r j

      at : (list : List ℕ) → place_at n C i v 0 + C ≤ length list → (r : ℕ) → r < C → get_or (slice_range list (place_at n C i v 0) (place_at n C i v 0 + C)) r 0 ≡ get_or list (place_at n C i v r) 0
      at list fits r j = part_entry list C (place_at n C i v 0) fits r j ∙ ap (λ k. get_or list k 0) (let z : place_at n C i v 0 + r ≡ place_at n C i v r = omega arith in z)

-- what the parts of a row say of wanted sites is what the row says
module _ (r : IndexedRoads) where
  abbrev x : Lists
  x = lists_of r

  pub row_says : (i v : ℕ) (s t : List ℕ) → Some (s, t) ≡ row_lists x i v → PartOf (length x.segments) (network_of x).junctions x.nearest x.sites x.times i v s t
  row_says i v s t e = part_says (length x.segments) (network_of x).junctions x.nearest x.sites x.times r.some r.sites_count r.times_count i v s t e

  pub row_there : (i v : ℕ) → None ≡ row_lists x i v → i < length x.segments → v < (network_of x).junctions → ⊥
  row_there i v e l k = clash (row_lists x i v) (part_at x.sites x.times x.nearest (place_at (network_of x).junctions x.nearest i v 0)) (provided_true (ltb i (length x.segments) && ltb v (network_of x).junctions) (part_at x.sites x.times x.nearest (place_at (network_of x).junctions x.nearest i v 0)) (and_from (ltb i (length x.segments)) (ltb v (network_of x).junctions) (lt-ltb i (length x.segments) l) (lt-ltb v (network_of x).junctions k))) (sym e)

  -- the shorter of a row's two lists has all its entries
  pub row_read : (i v : ℕ) (s t : List ℕ) → Some (s, t) ≡ row_lists x i v → (min (length s) (length t) ≡ x.nearest) × (read_row s t (min (length s) (length t)) 0 ≡ row_of x i v)
  row_read i v s t e =
      let p = row_says i v s t e in
      let a = p.sites_long in
      let b = p.times_long in
      let z : min (length s) (length t) ≡ x.nearest = omega arith in
      (z, ap (λ k. read_row s t k 0) z ∙ p.row)

  pub row_told : (wanted : ℕ → Bool) (i v : ℕ) (s t : List ℕ) → Some (s, t) ≡ row_lists x i v → least_to (min (length s) (length t)) wanted (read_row s t (min (length s) (length t)) 0) ≡ least_to x.nearest wanted (row_of x i v)
  row_told wanted i v s t e = let k = row_read i v s t e in ap (λ n. least_to n wanted (read_row s t (min (length s) (length t)) 0)) k.0 ∙ ap (least_to x.nearest wanted) k.1
