-- The times of a search stay short, since a site is settled once at each junction, and each settling brings the end nearer.
use Rattle.std.proofs.Common.{◌≡◌, ℕ, zero, suc, ◌+◌, ◌*◌, ◌<◌, ◌≤◌, true, false, ◌||◌, eqb, ◌⊎◌, List, [], ◌∷◌, length, get_or, take, drop, sym, refl, ap, ◌∙◌, subst, ⊎_elim, arith}
use Rattle.std.specs.List.{AllPairs, Contains}
use Rattle.std.proofs.lemmas.Bool.{cases_eq, both_ways, or_cases, or_right, eqb-true, eq-eqb, ne_eqb}
use Rattle.std.proofs.lemmas.List.{length-take-le, get_or-take}
use Rattle.std.proofs.lemmas.List.Elements.{All-contains, Contains-get_or}
use Rattle.std.proofs.lemmas.Nat.{mul-le}
use Rattle.network.specs.Model.{Roads}
use Rattle.queue.specs.Waiting.{Updated}
use Rattle.rows.specs.Index.{missing, entry_at}
use Rattle.rows.specs.Nearest.{entry}
use Rattle.rows.specs.Offering.{offer, offer_sites, put, later}
use Rattle.laying.specs.Settling.{relaxed_along, OfferedSoFar, IsSearchState, AllRelaxed, IsNext, HasShortTimes, lists, settled_for}
use Rattle.rows.specs.declared.entry.Entry.{Entry}
use Rattle.rows.proofs.Listing.{in_none, in_head, in_tail, in_cases, pairs_tail, pairs_head}
use Rattle.rows.proofs.Crowds.{Apart, serving_from}
use Rattle.rows.proofs.Putting.{put_in, front_in}
use Rattle.rows.proofs.Fronts.{front_within, front_last, rest_first}
use Rattle.laying.proofs.Relaxing.{starts, fewer, kept}
use Rattle.laying.proofs.Tallies.{settled_below, more_at, many_less, many_more, many_same, many_most, below_more, below_most}

-- ---- the sites that a list has
lists_in : (l : List Entry) (x : Entry) → Contains l x → lists l x.site ≡ true
lists_in [] x i = absurd (in_none x i)
lists_in (y ∷ l) x i =
    ⊎_elim
    (λ e. ap (λ b. b || lists l x.site) (eq-eqb y.site x.site (ap (λ w. w.site) (sym e))))
    (λ j. or_right (eqb y.site x.site) (lists l x.site) (lists_in l x j))
    (in_cases x y l i)

lists_says : (l : List Entry) (s : ℕ) → lists l s ≡ true → (x : Entry) × Contains l x × (x.site ≡ s)
lists_says [] s e = absurd (both_ways false refl e)
lists_says (y ∷ l) s e =
    ⊎_elim
    (λ d. (y, in_head y l, eqb-true y.site s d))
    (λ d. let r = lists_says l s d in (r.0, in_tail r.0 y l r.1, r.2))
    (or_cases (eqb y.site s) (lists l s) e)

-- before an entry its site is not in a row in which each is once
lists_before : (k : ℕ) (l : List Entry) → AllPairs Apart l → k < length l → lists (take k l) (get_or l k missing).site ≡ false
lists_before zero l once n = refl
lists_before (suc k) [] once n = absurd (omega arith)
lists_before (suc k) (y ∷ l) once n =
    ap (λ b. b || lists (take k l) (get_or l k missing).site) (ne_eqb y.site (get_or l k missing).site (All-contains (Apart y) l (get_or l k missing) (pairs_head Apart y l once) (Contains-get_or l k missing (omega arith))))
    ∙ lists_before k l (pairs_tail Apart y l once) (omega arith)

-- ---- fronts of a front
-- between k and k there is nothing, and to one more there is one entry
none_between : (k : ℕ) (l : List Entry) (z : Entry) → Contains (drop k (take k l)) z → ⊥
none_between zero l z i = in_none z i
none_between (suc k) [] z i = in_none z i
none_between (suc k) (y ∷ l) z i = none_between k l z i

one_between : (k : ℕ) (l : List Entry) (z : Entry) → k < length l → Contains (drop k (take (suc k) l)) z → z ≡ get_or l k missing
one_between k [] z n i = absurd (omega arith)
one_between zero (y ∷ l) z n i = ⊎_elim (λ e. e) (λ j. absurd (in_none z j)) (in_cases z y [] i)
one_between (suc k) (y ∷ l) z n i = one_between k l z (omega arith) i

-- ---- times stay short
pub short_starts : (m : Roads) (f : ℕ → ℕ) (C longest : ℕ) (rows : ℕ → List Entry) → ((v : ℕ) → rows v ≡ offer_sites m C v m.sites) → HasShortTimes m longest rows (λ _. 0) (λ _. 0)
short_starts m f C longest rows e = record {
  each = each;
  owed = λ a n x i. absurd (in_none x i);
}
  where
    each : (v : ℕ) (x : Entry) → Contains (rows v) x → x.time ≤ settled_for m rows (λ _. 0) x.site * longest
    each v x i =
        ⊎_elim
        (λ p. let z = p.2 in omega arith)
        (λ p. absurd (in_none (entry x.site p.1) p.4))
        ((serving_from C (OfferedSoFar m f (relaxed_along m rows (λ _. 0)) v) (rows v) ((starts m f C rows e).row v)).offered x i)

module _ (m : Roads) (f : ℕ → ℕ) (C longest : ℕ) (rows : ℕ → List Entry) (settled since relaxed : ℕ → ℕ) (level v : ℕ) (x : Entry) (there : v < m.junctions) (s : IsSearchState m f C rows settled relaxed level) (short : HasShortTimes m longest rows settled relaxed) (all : AllRelaxed m settled relaxed) (next : IsNext rows settled v x) (change : Updated settled since v (suc (settled v))) where
  more_listed : (i w : ℕ) → lists (take (settled w) (rows w)) i ≡ true → lists (take (since w) (rows w)) i ≡ true
  more_listed i w e =
      let r = lists_says (take (settled w) (rows w)) i e in
      subst (λ j. lists (take (since w) (rows w)) j ≡ true) r.2 (lists_in (take (since w) (rows w)) r.0 (front_within (settled w) (since w) (rows w) r.0 (⊎_elim (λ d. let q = more_at settled since v change w d in omega arith) (λ d. let q = change.1 w d in omega arith) (cases_eq w v)) r.1))

  grown : (i : ℕ) → settled_for m rows settled i ≤ settled_for m rows since i
  grown i = many_less (λ w. lists (take (settled w) (rows w)) i) (λ w. lists (take (since w) (rows w)) i) m.junctions (λ w l e. more_listed i w e)

  grown_here : settled_for m rows settled x.site < settled_for m rows since x.site
  grown_here =
      many_more (λ w. lists (take (settled w) (rows w)) x.site) (λ w. lists (take (since w) (rows w)) x.site) m.junctions v there
      (subst (λ z. lists (take (settled v) (rows v)) z.site ≡ false) next.is (lists_before (settled v) (rows v) (serving_from C (OfferedSoFar m f (relaxed_along m rows relaxed) v) (rows v) (s.row v)).once next.there))
      (lists_in (take (since v) (rows v)) x (subst (λ k. Contains (take k (rows v)) x) (sym change.0) (subst (Contains (take (suc (settled v)) (rows v))) next.is (front_last (settled v) (rows v) missing next.there))))
      (λ w l e. more_listed x.site w e)

  here : Contains (rows v) x
  here = subst (Contains (rows v)) next.is (Contains-get_or (rows v) (settled v) missing next.there)

  pub short_settles : HasShortTimes m longest rows since relaxed
  short_settles = record { each = each; owed = owed }
    where
      each : (w : ℕ) (z : Entry) → Contains (rows w) z → z.time ≤ settled_for m rows since z.site * longest
      each w z i = let l = short.each w z i in let g = mul-le (settled_for m rows settled z.site) longest (settled_for m rows since z.site) longest (grown z.site) (omega arith) in omega arith

      owed : (a : ℕ) → a < m.arcs → (z : Entry) → Contains (drop (relaxed a) (take (since (m.head a)) (rows (m.head a)))) z → z.time + longest ≤ settled_for m rows since z.site * longest
      owed a n z i =
          ⊎_elim
          (λ e.
          let k = settled (m.head a) in
          let j = subst (λ q. Contains (drop q (take (suc k) (rows (m.head a)))) z) (all a n) (subst (λ q. Contains (drop (relaxed a) (take q (rows (m.head a)))) z) (more_at settled since v change (m.head a) e) i) in
          let same : z ≡ x = one_between k (rows (m.head a)) z (subst (λ u. settled u < length (rows u)) (sym e) next.there) j ∙ ap (λ u. entry_at (rows u) (settled u)) e ∙ next.is in
          subst (λ q. q.time + longest ≤ settled_for m rows since q.site * longest) (sym same) own)
          (λ d. absurd (none_between (settled (m.head a)) (rows (m.head a)) z (subst (λ q. Contains (drop q (take (settled (m.head a)) (rows (m.head a)))) z) (all a n) (subst (λ q. Contains (drop (relaxed a) (take q (rows (m.head a)))) z) (change.1 (m.head a) d) i))))
          (cases_eq (m.head a) v)
        where
          own : x.time + longest ≤ settled_for m rows since x.site * longest
          own = let l = short.each v x here in let g = mul-le (suc (settled_for m rows settled x.site)) longest (settled_for m rows since x.site) longest grown_here (omega arith) in omega arith

-- what is to be relaxed next is owed
next_owed : (m : Roads) (rows : ℕ → List Entry) (settled relaxed : ℕ → ℕ) (a : ℕ) → settled (m.head a) ≤ length (rows (m.head a)) → relaxed a < settled (m.head a) → Contains (drop (relaxed a) (take (settled (m.head a)) (rows (m.head a)))) (entry_at (rows (m.head a)) (relaxed a))
next_owed m rows settled relaxed a within left =
    let l = rows (m.head a) in
    let n = settled (m.head a) in
    let size = length-take-le n l within in
    subst (Contains (drop (relaxed a) (take n l))) (get_or-take n l (relaxed a) missing left) (rest_first (relaxed a) (take n l) missing (omega arith))

module _ (m : Roads) (f : ℕ → ℕ) (C longest : ℕ) (rows after : ℕ → List Entry) (settled relaxed more : ℕ → ℕ) (level a : ℕ) (s : IsSearchState m f C rows settled relaxed level) (short : HasShortTimes m longest rows settled relaxed) (n : a < m.arcs) (rises : 1 ≤ f a) (high : f a ≤ longest) (left : relaxed a < settled (m.head a)) (count : Updated relaxed more a (suc (relaxed a))) (change : Updated rows after (m.tail a) (offer C (rows (m.tail a)) (later (f a) (entry_at (rows (m.head a)) (relaxed a))))) where
  still : (v : ℕ) → take (settled v) (after v) ≡ take (settled v) (rows v)
  still v = (kept m f C rows after settled relaxed more level a s n rises left count change v).0

  same_for : (i : ℕ) → settled_for m after settled i ≡ settled_for m rows settled i
  same_for i = many_same (λ v. lists (take (settled v) (after v)) i) (λ v. lists (take (settled v) (rows v)) i) m.junctions (λ v. ap (λ l. lists l i) (still v))

  pub short_relaxes : HasShortTimes m longest after settled more
  unfolding offer
  short_relaxes = record { each = each; owed = owed }
    where
      arrived : (l : List Entry) (z : Entry) → Contains (offer C l (later (f a) (entry_at (rows (m.head a)) (relaxed a)))) z → (z ≡ later (f a) (entry_at (rows (m.head a)) (relaxed a))) ⊎ Contains l z
      arrived l z i = put_in (later (f a) (entry_at (rows (m.head a)) (relaxed a))) l z (front_in C (put (later (f a) (entry_at (rows (m.head a)) (relaxed a))) l) z i)

      own : (z : Entry) → z ≡ later (f a) (entry_at (rows (m.head a)) (relaxed a)) → z.time ≤ settled_for m rows settled z.site * longest
      own z e =
          let x : Entry = entry_at (rows (m.head a)) (relaxed a) in
          let o = short.owed a n x (next_owed m rows settled relaxed a (s.within (m.head a)) left) in
          subst (λ q. q.time ≤ settled_for m rows settled q.site * longest) (sym e) (omega arith)

      short_in : (v : ℕ) (z : Entry) → Contains (after v) z → z.time ≤ settled_for m rows settled z.site * longest
      short_in v z i =
          ⊎_elim
          (λ e. ⊎_elim (λ d. own z d) (λ j. short.each (m.tail a) z j) (arrived (rows (m.tail a)) z (subst (λ l. Contains l z) change.0 (subst (λ u. Contains (after u) z) e i))))
          (λ d. short.each v z (subst (λ l. Contains l z) (change.1 v d) i))
          (cases_eq v (m.tail a))

      each : (v : ℕ) (z : Entry) → Contains (after v) z → z.time ≤ settled_for m after settled z.site * longest
      each v z i = subst (λ k. z.time ≤ k * longest) (sym (same_for z.site)) (short_in v z i)

      owed : (b : ℕ) → b < m.arcs → (z : Entry) → Contains (drop (more b) (take (settled (m.head b)) (after (m.head b)))) z → z.time + longest ≤ settled_for m after settled z.site * longest
      owed b k z i = subst (λ q. z.time + longest ≤ q * longest) (sym (same_for z.site)) (short.owed b k z (fewer m f C rows after settled relaxed more level a s n rises left count change b (take (settled (m.head b)) (rows (m.head b))) z (subst (λ l. Contains (drop (more b) l) z) (still (m.head b)) i)))

-- so no entry that is relaxed has a time greater than `longest` for each junction
pub short_relaxed : (m : Roads) (f : ℕ → ℕ) (C longest : ℕ) (rows : ℕ → List Entry) (settled relaxed : ℕ → ℕ) (level a : ℕ) → IsSearchState m f C rows settled relaxed level → HasShortTimes m longest rows settled relaxed → a < m.arcs → f a ≤ longest → relaxed a < settled (m.head a) → f a + (entry_at (rows (m.head a)) (relaxed a)).time ≤ m.junctions * longest
short_relaxed m f C longest rows settled relaxed level a s short n high left =
    let x : Entry = entry_at (rows (m.head a)) (relaxed a) in
    let o = short.owed a n x (next_owed m rows settled relaxed a (s.within (m.head a)) left) in
    let g = mul-le (settled_for m rows settled x.site) longest m.junctions longest (many_most (λ w. lists (take (settled w) (rows w)) x.site) m.junctions) (omega arith) in
    omega arith

-- ---- the end comes nearer
pub progresses : (m : Roads) (f : ℕ → ℕ) (C : ℕ) (rows : ℕ → List Entry) (settled since relaxed : ℕ → ℕ) (level n v : ℕ) (x : Entry) → v < n → IsSearchState m f C rows settled relaxed level → IsNext rows settled v x → Updated settled since v (suc (settled v)) → (settled_below since n ≡ suc (settled_below settled n)) × (settled_below since n ≤ n * C)
progresses m f C rows settled since relaxed level n v x l s next change = (below_more settled since v change n l, below_most since C n within)
  where
    within : (w : ℕ) → since w ≤ C
    within w =
        let few = (s.row w).most in
        ⊎_elim
        (λ e. let d = more_at settled since v change w e in let t = subst (λ u. settled u < length (rows u)) (sym e) next.there in omega arith)
        (λ d. let q = change.1 w d in let k = s.within w in omega arith)
        (cases_eq w v)
