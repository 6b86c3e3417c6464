-- Each place of the flat lists has one segment, junction and entry, so there is one index of given rows. Assumes nothing.
use Rattle.std.proofs.Common.{◌≡◌, ℕ, zero, suc, ◌+◌, ◌*◌, ◌/◌, ◌%◌, ◌<◌, List, map, sym, ap, ◌∙◌, subst, arith}
use Rattle.std.specs.List.{range_with_len}
use Rattle.std.proofs.lemmas.List.{ext_get_or}
use Rattle.std.proofs.lemmas.List.FromFn.{length-map-range_with_len, get_or-map-range_with_len}
use Rattle.std.proofs.lemmas.Nat.{mul-add-lt, div-mul-add, mod-mul-add, div_below, mod_below, div-add-mod'}
use Rattle.rows.specs.Index.{entry_at, place_at, listed_at, IsIndex}
use Rattle.rows.specs.declared.entry.Entry.{Entry}

-- the row and the column of a place
parts : (p k c : ℕ) → p < k * c → (q : ℕ) × (r : ℕ) × (q < k) × (r < c) × (p ≡ q * c + r)
parts p k zero l = absurd (omega arith)
parts p k (suc c) l = (p / suc c, p % suc c, div_below p (suc c) k (omega arith) l, mod_below p (suc c) (omega arith), sym (div-add-mod' p (suc c)))

module _ (segments n C : ℕ) where
  pub place_parts : (p : ℕ) → p < segments * n * C → (i : ℕ) × (v : ℕ) × (r : ℕ) × (i < segments) × (v < n) × (r < C) × (p ≡ place_at n C i v r)
  place_parts p l =
      let a = parts p (segments * n) C l in
      let b = parts a.0 segments n a.2 in
      (b.0, b.1, a.1, b.2, b.3, a.3, a.4 ∙ ap (λ q. q * C + a.1) b.4)

  pub place_below : (i v r : ℕ) → i < segments → v < n → r < C → place_at n C i v r < segments * n * C
  place_below i v r l k j = let a = mul-add-lt i n v segments l k in let b = mul-add-lt (i * n + v) C r (segments * n) (omega arith) j in omega arith

  module _ (rows : ℕ → ℕ → List Entry) where
    pub one_index : (sites times others since : List ℕ) → IsIndex segments n C rows sites times → IsIndex segments n C rows others since → (sites ≡ others) × (times ≡ since)
    one_index sites times others since x y =
        let a = x.sites_count in
        let b = x.times_count in
        let c = y.sites_count in
        let d = y.times_count in (
          ext_get_or 0 sites others (a ∙ sym c) (λ p l. ap (λ w. w.site) (at p (omega arith))),
          ext_get_or 0 times since (b ∙ sym d) (λ p l. ap (λ w. w.time) (at p (omega arith))),
        )
      where
        at : (p : ℕ) → p < segments * n * C → listed_at sites times p ≡ listed_at others since p
        at p l =
            let q = place_parts p l in
            let e = x.each q.0 q.1 q.2 q.3 q.4 q.5 ∙ sym (y.each q.0 q.1 q.2 q.3 q.4 q.5) in
            subst (λ k. listed_at sites times k ≡ listed_at others since k) (sym q.6) e

    made : ℕ → Entry
    made p = entry_at (rows (p / C / n) (p / C % n)) (p % C)

    made_at : (i v r : ℕ) → v < n → r < C → made (place_at n C i v r) ≡ entry_at (rows i v) r
    unfolding made
    made_at i v r l k = ap (λ q. entry_at (rows (q / n) (q % n)) (place_at n C i v r % C)) (div-mul-add (i * n + v) C r k) ∙ ap (λ q. entry_at (rows q ((i * n + v) % n)) (place_at n C i v r % C)) (div-mul-add i n v l) ∙ ap (λ q. entry_at (rows i q) (place_at n C i v r % C)) (mod-mul-add i n v l) ∙ ap (entry_at (rows i v)) (mod-mul-add (i * n + v) C r k)

    pub some_index : (sites : List ℕ) × (times : List ℕ) × IsIndex segments n C rows sites times
    some_index = (
      map (λ p. (made p).site) (range_with_len 0 (segments * n * C)),
      map (λ p. (made p).time) (range_with_len 0 (segments * n * C)),
      record {
        sites_count = length-map-range_with_len (λ p. (made p).site) 0 (segments * n * C);
        times_count = length-map-range_with_len (λ p. (made p).time) 0 (segments * n * C);
        each = λ i v r l k j.
            let low = place_below i v r l k j in
            let e = get_or-map-range_with_len (λ p. (made p).site) 0 (segments * n * C) (place_at n C i v r) (place_at n C i v r) 0 low (omega arith) in
            let d = get_or-map-range_with_len (λ p. (made p).time) 0 (segments * n * C) (place_at n C i v r) (place_at n C i v r) 0 low (omega arith) in
            (λ q. record { site = e q; time = d q }) ∙ made_at i v r k j;
      },
    )

  -- rows that agree have the same index
  pub index_same : (rows others : ℕ → ℕ → List Entry) (sites times : List ℕ) → ((i v : ℕ) → i < segments → v < n → rows i v ≡ others i v) → IsIndex segments n C rows sites times → IsIndex segments n C others sites times
  index_same rows others sites times h x = record {
    sites_count = x.sites_count;
    times_count = x.times_count;
    each = λ i v r l k j. x.each i v r l k j ∙ ap (λ w. entry_at w r) (h i v l k);
  }
