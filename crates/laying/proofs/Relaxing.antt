-- Settling an entry and relaxing it keep what holds of a search, and in the end its rows are those of least sums.
use Rattle.std.proofs.Common.{◌≡◌, ℕ, zero, suc, ◌+◌, ◌<◌, ◌≤◌, ◌⊎◌, List, [], ◌∷◌, length, take, drop, sym, refl, ap, ◌∙◌, subst, inl, inr, ⊎_elim, arith}
use Rattle.std.specs.List.{AllPairs, Contains}
use Rattle.std.proofs.lemmas.Bool.{cases_eq}
use Rattle.std.proofs.lemmas.List.{take_all}
use Rattle.network.specs.Model.{Roads}
use Rattle.queue.specs.Waiting.{Updated}
use Rattle.rows.specs.Index.{missing, entry_at}
use Rattle.rows.specs.Nearest.{entry, Before, Nearest}
use Rattle.rows.specs.Offering.{offer, later, offer_sites}
use Rattle.rows.specs.Rows.{Defined}
use Rattle.laying.specs.Settling.{relaxed_along, OfferedSoFar, IsSearchState, AllRelaxed, IsNext}
use Rattle.rows.specs.declared.entry.Entry.{Entry}
use Rattle.laying.proofs.Tallies.{more_at}
use Rattle.rows.proofs.Listing.{in_none, before_no_later}
use Rattle.rows.proofs.Crowds.{Serving, serving_from, nearest_from}
use Rattle.rows.proofs.Steps.{Offer}
use Rattle.rows.proofs.Solving.{defined_from}
use Rattle.rows.proofs.Offers.{OneMore, offer_serving, serving_same, sites_serving}
use Rattle.rows.proofs.Fronts.{front_more, front_less, front_within, front_last, rest_first, rest_less, rest_ordered, kept_offer, kept_length}

-- the rows of the sites alone are a start
pub starts : (m : Roads) (f : ℕ → ℕ) (C : ℕ) (rows : ℕ → List Entry) → ((v : ℕ) → rows v ≡ offer_sites m C v m.sites) → IsSearchState m f C rows (λ _. 0) (λ _. 0) 0
starts m f C rows e = record {
  row = λ v. nearest_from C (OfferedSoFar m f (relaxed_along m rows (λ _. 0)) v) (rows v) (subst (Serving C (OfferedSoFar m f (relaxed_along m rows (λ _. 0)) v)) (sym (e v))
      (serving_same C (λ s t. (s < m.sites) × (m.place s ≡ v) × (t ≡ 0)) (OfferedSoFar m f (relaxed_along m rows (λ _. 0)) v) (offer_sites m C v m.sites) (λ s t p. inl p) (λ s t p. ⊎_elim (λ q. q) (λ q. absurd (in_none (entry s q.1) q.4)) p) (sites_serving m f C rows v m.sites)));
  within = λ v. omega arith;
  behind = λ a n. omega arith;
  low = λ v x i. absurd (in_none x i);
  high = λ v x i. omega arith;
  pending = λ a n x i. omega arith;
}

-- the next entry is no later than anything that is not settled
module _ (rows : ℕ → List Entry) (settled : ℕ → ℕ) (v : ℕ) (x : Entry) (next : IsNext rows settled v x) where
  next_least : (w : ℕ) (y : Entry) → AllPairs Before (rows w) → Contains (drop (settled w) (rows w)) y → x.time ≤ y.time
  next_least w y h i =
      let low = next.least w (left (settled w) (rows w) i) in
      ⊎_elim
      (λ e. let d = ap (λ z. z.time) e in omega arith)
      (λ b. let d = before_no_later (entry_at (rows w) (settled w)) y b in omega arith)
      (rest_ordered (settled w) (rows w) missing y h i)
    where
      left : (k : ℕ) (l : List Entry) → Contains (drop k l) y → k < length l
      left zero l j = let n = j.1 in omega arith
      left (suc k) [] j = absurd (in_none y j)
      left (suc k) (z ∷ l) j = let n = left k l j in omega arith

-- the next entry can be settled once all is relaxed
pub settles : (m : Roads) (f : ℕ → ℕ) (C : ℕ) (rows : ℕ → List Entry) (settled since relaxed : ℕ → ℕ) (level v : ℕ) (x : Entry) → IsSearchState m f C rows settled relaxed level → AllRelaxed m settled relaxed → IsNext rows settled v x → Updated settled since v (suc (settled v)) → IsSearchState m f C rows since relaxed x.time
settles m f C rows settled since relaxed level v x s all_relaxed next change = record {
  row = s.row;
  within = within;
  behind = λ a n. let b = s.behind a n in let g = grows (m.head a) in omega arith;
  low = low;
  high = λ w y i. least w y (less w y i);
  pending = λ a n y i. least (m.head a) y (subst (λ k. Contains (drop k (rows (m.head a))) y) (all_relaxed a n) i);
}
  where
    least : (w : ℕ) (y : Entry) → Contains (drop (settled w) (rows w)) y → x.time ≤ y.time
    least w y = next_least rows settled v x next w y (s.row w).ordered

    grows : (w : ℕ) → settled w ≤ since w
    grows w = ⊎_elim (λ e. let d = more_at settled since v change w e in omega arith) (λ n. let d = change.1 w n in omega arith) (cases_eq w v)

    within : (w : ℕ) → since w ≤ length (rows w)
    within w =
        ⊎_elim
        (λ e. let d = more_at settled since v change w e in let n = subst (λ u. settled u < length (rows u)) (sym e) next.there in omega arith)
        (λ n. let d = change.1 w n in let k = s.within w in omega arith)
        (cases_eq w v)

    less : (w : ℕ) (y : Entry) → Contains (drop (since w) (rows w)) y → Contains (drop (settled w) (rows w)) y
    less w y i =
        ⊎_elim
        (λ e. rest_less (settled w) (rows w) y (subst (λ k. Contains (drop k (rows w)) y) (more_at settled since v change w e) i))
        (λ n. subst (λ k. Contains (drop k (rows w)) y) (change.1 w n) i)
        (cases_eq w v)

    -- the next entry is no sooner than the level
    risen : level ≤ x.time
    risen = s.high v x (subst (Contains (drop (settled v) (rows v))) next.is (rest_first (settled v) (rows v) missing next.there))

    before : (w : ℕ) (y : Entry) → Contains (take (settled w) (rows w)) y → y.time ≤ x.time
    before w y i = let l = s.low w y i in let r = risen in omega arith

    low : (w : ℕ) (y : Entry) → Contains (take (since w) (rows w)) y → y.time ≤ x.time
    low w y i =
        ⊎_elim
        (λ e. let n = subst (λ u. settled u < length (rows u)) (sym e) next.there in
        ⊎_elim
        (λ d. let z = ap (λ q. q.time) (d ∙ ap (λ u. entry_at (rows u) (settled u)) e ∙ next.is) in omega arith)
        (λ j. before w y j)
        (front_more (settled w) (rows w) missing y n (subst (λ k. Contains (take k (rows w)) y) (more_at settled since v change w e) i)))
        (λ n. before w y (subst (λ k. Contains (take k (rows w)) y) (change.1 w n) i))
        (cases_eq w v)

module _ (m : Roads) (f : ℕ → ℕ) (C : ℕ) (rows after : ℕ → List Entry) (settled relaxed more : ℕ → ℕ) (level a : ℕ) (s : IsSearchState m f C rows settled relaxed level) (n : a < m.arcs) (rises : 1 ≤ f a) (left : relaxed a < settled (m.head a)) (count : Updated relaxed more a (suc (relaxed a))) (change : Updated rows after (m.tail a) (offer C (rows (m.tail a)) (later (f a) (entry_at (rows (m.head a)) (relaxed a))))) where
  abbrev pub w : ℕ
  w = m.tail a

  -- the entry that is relaxed, and as it arrives
  abbrev pub x : Entry
  x = entry_at (rows (m.head a)) (relaxed a)

  abbrev pub y : Entry
  y = later (f a) x

  within_head : relaxed a < length (rows (m.head a))
  within_head = let k = s.within (m.head a) in omega arith

  risen : level ≤ x.time
  risen = s.pending a n x (rest_first (relaxed a) (rows (m.head a)) missing within_head)

  not_sooner : (z : Entry) → z ≡ y → level ≤ z.time
  not_sooner z e = let d = ap (λ q. q.time) e in let r = risen in omega arith

  -- it comes after all that is settled
  last : (v : ℕ) (z : Entry) → Contains (take (settled v) (rows v)) z → Before z y
  last v z i = let l = s.low v z i in let r = risen in inl (omega arith)

  abbrev pub Same : (k : ℕ) (l r : List Entry) → Type 0
  Same k l r = (take k r ≡ take k l) × ((z : Entry) → Contains (drop k r) z → (z ≡ y) ⊎ Contains (drop k l) z)

  -- so what is settled, or relaxed, stays as it is
  pub kept_to : (v k : ℕ) → k ≤ settled v → Same k (rows v) (after v)
  kept_to v k b =
      let few = (s.row v).most in
      let in_row = s.within v in
      ⊎_elim
      (λ e. subst (λ r. Same k (rows v) r) (sym (ap after e ∙ change.0 ∙ ap (λ u. offer C (rows u) y) (sym e)))
      (kept_offer y C k (rows v) (omega arith) (omega arith) (λ z i. last v z (front_within k (settled v) (rows v) z b i))))
      (λ d. subst (λ r. Same k (rows v) r) (sym (change.1 v d)) (refl, λ z i. inr i))
      (cases_eq v w)

  pub kept : (v : ℕ) → Same (settled v) (rows v) (after v)
  kept v = kept_to v (settled v) (omega arith)

  behind : (b : ℕ) → b < m.arcs → more b ≤ settled (m.head b)
  behind b k =
      ⊎_elim
      (λ e. let d = more_at relaxed more a count b e in let q = subst (λ c. relaxed c < settled (m.head c)) (sym e) left in omega arith)
      (λ d. let q = count.1 b d in let z = s.behind b k in omega arith)
      (cases_eq b a)

  pub fewer : (b : ℕ) (l : List Entry) (z : Entry) → Contains (drop (more b) l) z → Contains (drop (relaxed b) l) z
  fewer b l z i =
      ⊎_elim
      (λ e. rest_less (relaxed b) l z (subst (λ k. Contains (drop k l) z) (more_at relaxed more a count b e) i))
      (λ d. subst (λ k. Contains (drop k l) z) (count.1 b d) i)
      (cases_eq b a)

  pending : (b : ℕ) → b < m.arcs → (z : Entry) → Contains (drop (more b) (after (m.head b))) z → level ≤ z.time
  pending b k z i =
      ⊎_elim
      (λ e. not_sooner z e)
      (λ j. s.pending b k z (fewer b (rows (m.head b)) z j))
      ((kept_to (m.head b) (more b) (behind b k)).1 z i)

  -- what was relaxed along the arcs: the same, and the entry along a
  same_along : (b : ℕ) → b < m.arcs → (b ≡ a → ⊥) → relaxed_along m after more b ≡ relaxed_along m rows relaxed b
  same_along b k d = (kept_to (m.head b) (more b) (behind b k)).0 ∙ ap (λ j. take j (rows (m.head b))) (count.1 b d)

  now_along : relaxed_along m after more a ≡ take (suc (relaxed a)) (rows (m.head a))
  now_along = (kept_to (m.head a) (more a) (behind a n)).0 ∙ ap (λ j. take j (rows (m.head a))) count.0

  abbrev Was : (v i t : ℕ) → Type 0
  Was = OfferedSoFar m f (relaxed_along m rows relaxed)

  abbrev Is : (v i t : ℕ) → Type 0
  Is = OfferedSoFar m f (relaxed_along m after more)

  was_is : (v i t : ℕ) → Was v i t → Is v i t
  was_is v i t p =
      ⊎_elim
      (λ q. inl q)
      (λ q. inr (
        q.0,
        q.1,
        q.2,
        q.3,
        ⊎_elim
            (λ e. subst (λ c. Contains (relaxed_along m after more c) (entry i q.1)) (sym e)
            (subst (λ l. Contains l (entry i q.1)) (sym now_along) (front_less (relaxed a) (rows (m.head a)) (entry i q.1) (subst (λ c. Contains (relaxed_along m rows relaxed c) (entry i q.1)) e q.4))))
            (λ d. subst (λ l. Contains l (entry i q.1)) (sym (same_along q.0 q.2 d)) q.4)
            (cases_eq q.0 a),
        q.5,
      ))
      p

  -- what is new is offered at the tail of a
  is_was : (v i t : ℕ) → Is v i t → Was v i t ⊎ ((v ≡ w) × (i ≡ y.site) × (t ≡ y.time))
  is_was v i t p =
      ⊎_elim
      (λ q. inl (inl q))
      (λ q. ⊎_elim
      (λ e. ⊎_elim
      (λ d. inr (sym q.3 ∙ ap m.tail e, ap (λ z. z.site) d, q.5 ∙ ap (λ c. f c + q.1) e ∙ ap (λ z. f a + z.time) d))
      (λ j. inl (inr (q.0, q.1, q.2, q.3, subst (λ c. Contains (relaxed_along m rows relaxed c) (entry i q.1)) (sym e) j, q.5)))
      (front_more (relaxed a) (rows (m.head a)) missing (entry i q.1) within_head (subst (λ l. Contains l (entry i q.1)) now_along (subst (λ c. Contains (relaxed_along m after more c) (entry i q.1)) e q.4))))
      (λ d. inl (inr (q.0, q.1, q.2, q.3, subst (λ l. Contains l (entry i q.1)) (same_along q.0 q.2 d) q.4, q.5)))
      (cases_eq q.0 a))
      p

  new_is : (i t : ℕ) → i ≡ y.site → t ≡ y.time → Is w i t
  new_is i t e d = inr (a, x.time, n, refl, subst (λ l. Contains l (entry i x.time)) (sym now_along) (subst (λ j. Contains (take (suc (relaxed a)) (rows (m.head a))) (entry j x.time)) (sym e) (front_last (relaxed a) (rows (m.head a)) missing within_head)), d)

  row : (v : ℕ) → Nearest C (Is v) (after v)
  row v =
      ⊎_elim
      (λ e. subst (λ u. Nearest C (Is u) (after u)) (sym e) at_tail)
      (λ d. subst (Nearest C (Is v)) (sym (change.1 v d)) (nearest_from C (Is v) (rows v) (serving_same C (Was v) (Is v) (rows v) (was_is v) (λ i t p. ⊎_elim (λ q. q) (λ q. absurd (d q.0)) (is_was v i t p)) (serving_from C (Was v) (rows v) (s.row v)))))
      (cases_eq v w)
    where
      at_tail : Nearest C (Is w) (after w)
      at_tail = subst (Nearest C (Is w)) (sym change.0) (nearest_from C (Is w) (offer C (rows w) y)
          (serving_same C (OneMore (Was w) y) (Is w) (offer C (rows w) y)
          (λ i t p. ⊎_elim (λ q. was_is w i t q) (λ q. new_is i t q.0 q.1) p)
          (λ i t p. ⊎_elim (λ q. inl q) (λ q. inr (q.1, q.2)) (is_was w i t p))
          (offer_serving C (Was w) (rows w) y (serving_from C (Was w) (rows w) (s.row w)))))

  -- it is relaxed along the arc a
  pub relaxes : IsSearchState m f C after settled more level
  relaxes = record {
    row = row;
    within = λ v. kept_length (settled v) (rows v) (after v) (s.within v) (kept v).0;
    behind = behind;
    low = λ v z i. s.low v z (subst (λ l. Contains l z) (kept v).0 i);
    high = λ v z i. ⊎_elim (λ e. not_sooner z e) (λ j. s.high v z j) ((kept v).1 z i);
    pending = pending;
  }

-- where all is settled and relaxed the rows are those of least sums
pub ends : (m : Roads) (f : ℕ → ℕ) (C : ℕ) (rows : ℕ → List Entry) (settled relaxed : ℕ → ℕ) (level : ℕ) → ((a : ℕ) → a < m.arcs → m.head a < m.junctions) → ((a : ℕ) → a < m.arcs → 1 ≤ f a) → IsSearchState m f C rows settled relaxed level → AllRelaxed m settled relaxed → ((v : ℕ) → v < m.junctions → settled v ≡ length (rows v)) → Defined m f C rows
ends m f C rows settled relaxed level ok rises s all_relaxed all = defined_from m f ok C rows rises solved
  where
    whole : (a : ℕ) → a < m.arcs → relaxed_along m rows relaxed a ≡ rows (m.head a)
    whole a n = let e = all_relaxed a n in let d = all (m.head a) (ok a n) in take_all (relaxed a) (rows (m.head a)) (omega arith)

    solved : (v : ℕ) → v < m.junctions → Nearest C (Offer m f rows v) (rows v)
    solved v l = nearest_from C (Offer m f rows v) (rows v) (serving_same C (OfferedSoFar m f (relaxed_along m rows relaxed) v) (Offer m f rows v) (rows v)
        (λ i t p. ⊎_elim (λ q. inl q) (λ q. inr (q.0, q.1, q.2, q.3, subst (λ k. Contains k (entry i q.1)) (whole q.0 q.2) q.4, q.5)) p)
        (λ i t p. ⊎_elim (λ q. inl q) (λ q. inr (q.0, q.1, q.2, q.3, subst (λ k. Contains k (entry i q.1)) (sym (whole q.0 q.2)) q.4, q.5)) p)
        (serving_from C (OfferedSoFar m f (relaxed_along m rows relaxed) v) (rows v) (s.row v)))
