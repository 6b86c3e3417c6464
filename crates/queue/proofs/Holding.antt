-- What waits, by the items below the length alone. Assumes nothing.
use Rattle.std.proofs.Common.{◌≡◌, ℕ, ◌<◌, ◌≤◌, Bool, true, false, cond, eqb, List, length, take, Some, None, Option, sym, refl, ap, ◌∙◌, subst, ⊎_elim, arith}
use Rattle.std.specs.List.{slice_get}
use Rattle.std.specs.Option.{option_and_then}
use Rattle.std.proofs.lemmas.List.{get_or-take, length-take-le}
use Rattle.std.proofs.lemmas.Option.{slice_get-get_or, slice_get_past}
use Rattle.std.proofs.lemmas.Bool.{cases_lt, cases_eq, eq-eqb, ne_eqb, eqb-true}
use Rattle.queue.specs.declared.slot.Slot.{Slot}
use Rattle.queue.specs.Room.{item, place, Swapped}
use Rattle.queue.specs.Waiting.{bearing, waiting_in}
use Rattle.queue.specs.Heap.{Placed, Kept}
use Rattle.queue.proofs.Writing.{any_item}

module _ {T : Type 0} (handled : T → ℕ) where
  bears : (h : ℕ) (x y : T) → bearing handled h x ≡ Some y → (x ≡ y) × (handled y ≡ h)
  bears h x y e = go (eqb (handled x) h) refl e
    where
      go : (b : Bool) → eqb (handled x) h ≡ b → cond b (Some x) None ≡ Some y → (x ≡ y) × (handled y ≡ h)
      go true p q = let s : x ≡ y = cc in (s, sym (ap handled s) ∙ eqb-true (handled x) h p)
      go false p q = cc

  -- an item below the length
  pub record Stands (s : List (Slot T)) (len : ℕ) (d : Slot T) (h : ℕ) (x : T) : Type 0 where
    pub at : ℕ
    pub low : at < len
    pub is : item s d at ≡ x
    pub bears : handled x ≡ h
    pub within : h < length s

  pub waiting_past : (s : List (Slot T)) (len h : ℕ) → length s ≤ h → waiting_in handled s len h ≡ None
  unfolding waiting_in
  waiting_past s len h l = ap (λ o. option_and_then (λ r. option_and_then (λ t. bearing handled h t.item) (slice_get (take len s) r.place)) o) (slice_get_past s h l)

  slot_of : (s : List (Slot T)) (len h : ℕ) (d : Slot T) → h < length s → waiting_in handled s len h ≡ option_and_then (λ t. bearing handled h t.item) (slice_get (take len s) (place s d h))
  unfolding waiting_in
  slot_of s len h d l = ap (λ o. option_and_then (λ r. option_and_then (λ t. bearing handled h t.item) (slice_get (take len s) r.place)) o) (slice_get-get_or s h d l)

  pub waiting_at : (s : List (Slot T)) (len h : ℕ) (d : Slot T) → len ≤ length s → h < length s → place s d h < len → waiting_in handled s len h ≡ bearing handled h (item s d (place s d h))
  waiting_at s len h d le l m =
      let n = length-take-le len s le in
      slot_of s len h d l ∙ ap (λ o. option_and_then (λ t. bearing handled h t.item) o) (slice_get-get_or (take len s) (place s d h) d (omega arith))
      ∙ ap (λ (r : Slot T). bearing handled h r.item) (get_or-take len s (place s d h) d m)

  -- by reads at the place that slot h keeps, each at a default of its own
  module _ (s : List (Slot T)) (len h i : ℕ) (d : Slot T) (le : len ≤ length s) (l : h < length s) (keeps : i ≡ place s d h) where
    there : (e : Slot T) → i < len → waiting_in handled s len h ≡ bearing handled h (item s e i)
    there e m =
        waiting_at s len h d le l (subst (λ n. n < len) keeps m)
        ∙ ap (bearing handled h) (ap (item s d) (sym keeps) ∙ any_item s i d e (omega arith))

    pub waiting_some : (e f : Slot T) → i < len → handled (item s e i) ≡ h → waiting_in handled s len h ≡ Some (item s f i)
    waiting_some e f m own = there e m ∙ ap (λ b. cond b (Some (item s e i)) None) (eq-eqb (handled (item s e i)) h own) ∙ ap (λ x. Some x) (any_item s i e f (omega arith))

    pub waiting_other : (e : Slot T) → i < len → (handled (item s e i) ≡ h → ⊥) → waiting_in handled s len h ≡ None
    waiting_other e m own = there e m ∙ ap (λ b. cond b (Some (item s e i)) None) (ne_eqb (handled (item s e i)) h own)

    pub waiting_out : len ≤ i → waiting_in handled s len h ≡ None
    waiting_out m =
        let n = length-take-le len s le in
        slot_of s len h d l ∙ ap (λ o. option_and_then (λ t. bearing handled h t.item) o) (slice_get_past (take len s) (place s d h) (omega arith))

  pub found : (s : List (Slot T)) (len : ℕ) (d : Slot T) (k : ℕ) → Placed handled s len → k < len → waiting_in handled s len (handled (item s d k)) ≡ Some (item s d k)
  found s len d k p l =
      let h = handled (item s d k) in
      let at : place s d h ≡ k = p.kept d k l in
      waiting_at s len h d p.fits (p.below d k l) (subst (λ i. i < len) (sym at) l)
      ∙ ap (λ i. bearing handled h (item s d i)) at
      ∙ ap (λ b. cond b (Some (item s d k)) None) (eq-eqb h h refl)

  pub held_by : (s : List (Slot T)) (len h : ℕ) (x : T) (d : Slot T) → len ≤ length s → waiting_in handled s len h ≡ Some x → Stands s len d h x
  held_by s len h x d le e =
      ⊎_elim
      (λ l. ⊎_elim
      (λ m. let b = bears h (item s d (place s d h)) x (sym (waiting_at s len h d le l m) ∙ e) in record { at = place s d h; low = m; is = b.0; bears = b.1; within = l })
      (λ m. cc (waiting_out s len h (place s d h) d le l refl m))
      (cases_lt (place s d h) len))
      (λ l. cc (waiting_past s len h l))
      (cases_lt h (length s))

  -- the items of s with handle h stand in t too
  abbrev pub Found : List (Slot T) → ℕ → List (Slot T) → ℕ → ℕ → Type 0
  Found s len t m h = (d : Slot T) (k : ℕ) → k < len → handled (item s d k) ≡ h → (i : ℕ) × (i < m) × (item t d i ≡ item s d k)

  pub carried : (s t : List (Slot T)) (len m h : ℕ) (x : T) → len ≤ length s → Placed handled t m → Found s len t m h → waiting_in handled s len h ≡ Some x → waiting_in handled t m h ≡ Some x
  carried s t len m h x le p there e =
      let d : Slot T = record { item = x; place = 0 } in
      let w = held_by s len h x d le e in
      let j = there d w.at w.low (ap handled w.is ∙ w.bears) in
      let same : item t d j.0 ≡ x = j.2 ∙ w.is in
      let own : handled (item t d j.0) ≡ h = ap handled same ∙ w.bears in
      sym (ap (waiting_in handled t m) own) ∙ found t m d j.0 p j.1 ∙ ap (λ y. Some y) same

  pub equal_at : (s t : List (Slot T)) (len m h : ℕ) → Placed handled s len → Placed handled t m → Found s len t m h → Found t m s len h → waiting_in handled t m h ≡ waiting_in handled s len h
  equal_at s t len m h p q there back = go (waiting_in handled s len h) (waiting_in handled t m h) refl refl
    where
      go : (a b : Option T) → waiting_in handled s len h ≡ a → waiting_in handled t m h ≡ b → waiting_in handled t m h ≡ waiting_in handled s len h
      go (Some x) b e f = carried s t len m h x p.fits q there e ∙ sym e
      go None None e f = f ∙ sym e
      go None (Some y) e f = f ∙ sym (carried t s m len h y q.fits p back f)

  -- two items trade places, and so do the places that are kept for them
  module _ (s t : List (Slot T)) (len i j : ℕ) (p : Placed handled s len) (long : length t ≡ length s) (li : i < len) (lj : j < len) (items : (d : Slot T) → Swapped (item s d) (item t d) i j) (places : (d : Slot T) → Swapped (place s d) (place t d) (handled (item s d j)) (handled (item s d i))) where
    -- where the item at k stood
    record Stood (d : Slot T) (k : ℕ) : Type 0 where
      from : ℕ
      low : from < len
      is : item t d k ≡ item s d from
      kept : place t d (handled (item t d k)) ≡ k

    stood : (d : Slot T) (k : ℕ) → k < len → Stood d k
    stood d k l =
        ⊎_elim
        (λ e. let is : item t d k ≡ item s d j = ap (item t d) e ∙ (items d).0 in record { from = j; low = lj; is = is; kept = ap (λ x. place t d (handled x)) is ∙ (places d).0 ∙ p.kept d i li ∙ sym e })
        (λ n. ⊎_elim
        (λ e. let is : item t d k ≡ item s d i = ap (item t d) e ∙ (items d).1 in record { from = i; low = li; is = is; kept = ap (λ x. place t d (handled x)) is ∙ (places d).1 ∙ p.kept d j lj ∙ sym e })
        (λ m.
        let is : item t d k ≡ item s d k = (items d).2 k n m in
        let here = p.kept d k l in
        record {
          from = k;
          low = l;
          is = is;
          kept = ap (λ x. place t d (handled x)) is
              ∙ (places d).2 (handled (item s d k)) (λ e. m (sym here ∙ ap (place s d) e ∙ p.kept d j lj)) (λ e. n (sym here ∙ ap (place s d) e ∙ p.kept d i li)) ∙ here;
        })
        (cases_eq k j))
        (cases_eq k i)

    swapped_placed : Placed handled t len
    swapped_placed = record {
      fits = subst (λ n. len ≤ n) (sym long) p.fits;
      few = p.few;
      below = λ d k l. let w = stood d k l in subst (λ n. handled (item t d k) < n) (sym long) (subst (λ x. handled x < length s) (sym w.is) (p.below d w.from w.low));
      short = λ d k l. let w = stood d k l in subst (λ x. handled x < 4294967296) (sym w.is) (p.short d w.from w.low);
      kept = λ d k l. (stood d k l).kept;
    }

    went : (d : Slot T) (k : ℕ) → k < len → (n : ℕ) × (n < len) × (item t d n ≡ item s d k)
    went d k l =
        ⊎_elim (λ e. (j, lj, (items d).1 ∙ sym (ap (item s d) e)))
        (λ n. ⊎_elim (λ e. (i, li, (items d).0 ∙ sym (ap (item s d) e))) (λ m. (k, l, (items d).2 k n m)) (cases_eq k j))
        (cases_eq k i)

    pub swapped_kept : Kept handled s t len
    swapped_kept = record {
      long = long;
      placed = swapped_placed;
      waits = λ h. equal_at s t len len h p swapped_placed (λ d k l e. went d k l) (λ d k l e. let w = stood d k l in (w.from, w.low, sym w.is));
    }

pub kept_then : {T : Type 0} {handled : T → ℕ} {s t u : List (Slot T)} {len m : ℕ} → m ≡ len → Kept handled s t len → Kept handled t u m → Kept handled s u len
kept_then {T} {handled} {s} {t} {u} {len} {m} e a b =
    let c = subst (λ n. Kept handled t u n) e b in
    record { long = c.long ∙ a.long; placed = c.placed; waits = λ h. c.waits h ∙ a.waits h }
