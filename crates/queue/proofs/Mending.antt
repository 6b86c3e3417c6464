-- After each write: what a repair asks for, and that it makes the room sound again. Assumes nothing.
use Rattle.std.proofs.Common.{◌≡◌, ℕ, ◌+◌, ◌-◌, ◌<◌, ◌≤◌, Bool, List, [], ◌∷◌, length, Some, None, Option, sym, refl, ap, ◌∙◌, subst, arith}
use Rattle.std.specs.Cmp.{IsStrictWeakOrder}
use Rattle.queue.specs.declared.slot.Slot.{Slot}
use Rattle.queue.specs.Room.{item, place, Swapped}
use Rattle.std.specs.Option.{option_len}
use Rattle.queue.specs.Waiting.{waiting_in, Updated, count_of}
use Rattle.queue.specs.Heap.{Placed, Put, Kept, Heap, Loose, Sound}
use Rattle.queue.proofs.Changing.{replaced_placed, replaced_updated, pushed_placed, pushed_updated, cut_placed, cut_updated}
use Rattle.queue.proofs.Counting.{count_changed, count_below, count_same, count_short}
use Rattle.queue.proofs.Holding.{found, held_by}
use Rattle.queue.proofs.Sifting.{loosens}
use Rattle.queue.proofs.Writing.{put_again}

-- a list that is not empty has an element
pub some_slot : {X : Type 0} (s : List X) → 0 < length s → X
some_slot [] l = absurd (omega arith)
some_slot (x ∷ s) l = x

-- t has m items, of which one may stand wrongly, at j; where s had len, w waits under h now
pub record Changed {T : Type 0} (handled : T → ℕ) (before : T → T → Bool) (s t : List (Slot T)) (len m j h : ℕ) (w : Option T) : Type 0 where
  pub long : length t ≡ length s
  pub placed : Placed handled t m
  pub loose : (d : Slot T) → Loose before (item t d) m j
  pub counted : count_of (waiting_in handled t m) (length s) ≡ m
  pub updated : Updated (waiting_in handled s len) (waiting_in handled t m) h w

-- and u has them in order again
module _ {T : Type 0} {handled : T → ℕ} {before : T → T → Bool} {s t u : List (Slot T)} {len m n j h : ℕ} {w : Option T} (a : Changed handled before s t len m j h w) (same : n ≡ m) (k : Kept handled t u m) where
  pub mended : ((d : Slot T) → Heap before (item u d) m) → Sound handled before u n
  mended heap = subst (λ i. Sound handled before u i) (sym same)
      (record {
        placed = k.placed;
        heap = heap;
        counted = ap (count_of (waiting_in handled u m)) (k.long ∙ a.long) ∙ count_same (waiting_in handled t m) (waiting_in handled u m) (length s) (λ i l. k.waits i) ∙ a.counted;
      })

  pub mended_updated : Updated (waiting_in handled s len) (waiting_in handled u n) h w
  mended_updated = subst (λ i. Updated (waiting_in handled s len) (waiting_in handled u i) h w) (sym same) (k.waits h ∙ a.updated.0, λ i q. k.waits i ∙ a.updated.1 i q)

module _ {T : Type 0} {handled : T → ℕ} {before : T → T → Bool} {s : List (Slot T)} {len at : ℕ} {x : T} (p : Sound handled before s len) (low : at < len) (here : (d : Slot T) → waiting_in handled s len (handled x) ≡ Some (item s d at)) where
  same_handle : (d : Slot T) → handled (item s d at) ≡ handled x
  same_handle d = (held_by handled s len (handled x) (item s d at) d p.placed.fits (here d)).bears

  -- x has a slot, since the item at `at` has the same handle
  pub has_slot : handled x < length s
  has_slot =
      let d : Slot T = record { item = x; place = 0 } in
      let a = same_handle d in
      let b = p.placed.below d at low in
      omega arith

  pub replaced : IsStrictWeakOrder before → {t : List (Slot T)} {n : ℕ} → n ≡ len → Put handled s t at x → Changed handled before s t len n at (handled x) (Some x)
  replaced o {t} same put = subst (λ n. Changed handled before s t len n at (handled x) (Some x)) (sym same)
      (let d : Slot T = record { item = x; place = 0 } in
      let still = λ (d : Slot T). put_again (ap (place s d) (sym (same_handle d)) ∙ p.placed.kept d at low) (put.places d) in
      let u = replaced_updated handled s t len at x p.placed put.long low same_handle put.items still in
      let n = count_changed (waiting_in handled s len) (waiting_in handled t len) (length s) (handled x) has_slot u.1 in
      let v = ap option_len (here d) in
      let w = ap option_len u.0 in
      let c = p.counted in
      record {
        long = put.long;
        placed = replaced_placed handled s t len at x p.placed put.long low same_handle put.items still;
        loose = λ d. loosens before o (item s d) (item t d) len len at (p.heap d) (λ i l n. (l, (put.items d).1 i n));
        counted = omega arith;
        updated = u;
      })

module _ {T : Type 0} {handled : T → ℕ} {before : T → T → Bool} {s : List (Slot T)} {len : ℕ} {x : T} (p : Sound handled before s len) (fits : handled x < length s) (short : handled x < 4294967296) (free : waiting_in handled s len (handled x) ≡ None) where
  -- a free handle leaves a slot for one more
  pub has_room : len < length s
  has_room = let a = count_below (waiting_in handled s len) (length s) (handled x) fits free in let c = p.counted in omega arith

  none_high : (k : ℕ) → 4294967296 ≤ k → waiting_in handled s len k ≡ None
  none_high k l = go (waiting_in handled s len k) refl
    where
      go : (o : Option T) → waiting_in handled s len k ≡ o → waiting_in handled s len k ≡ None
      go None e = e
      go (Some y) e =
          let d : Slot T = record { item = y; place = 0 } in
          let w = held_by handled s len k y d p.placed.fits e in
          let a = p.placed.short d w.at w.low in
          let b = ap handled w.is ∙ w.bears in
          absurd (omega arith)

  pub len_short : len < 4294967296
  len_short = let a = count_short (waiting_in handled s len) (length s) 4294967296 (handled x) short fits free none_high in let c = p.counted in omega arith

  pub pushed : IsStrictWeakOrder before → {t : List (Slot T)} → Put handled s t len x → Changed handled before s t len (len + 1) len (handled x) (Some x)
  pushed o {t} put =
      let u = pushed_updated handled s t len x p.placed put.long has_room fits len_short short free put.items put.places in
      let n = count_changed (waiting_in handled s len) (waiting_in handled t (len + 1)) (length s) (handled x) fits u.1 in
      let v = ap option_len free in
      let w = ap option_len u.0 in
      let c = p.counted in
      record {
        long = put.long;
        placed = pushed_placed handled s t len x p.placed put.long has_room fits len_short short free put.items put.places;
        loose = λ d. loosens before o (item s d) (item t d) len (len + 1) len (p.heap d) (λ i l n. (omega arith, (put.items d).1 i n));
        counted = omega arith;
        updated = u;
      }

-- the item at `at` traded places with the last, which is cut off
module _ {T : Type 0} {handled : T → ℕ} {before : T → T → Bool} {s t : List (Slot T)} {len at : ℕ} (o : IsStrictWeakOrder before) (p : Sound handled before s len) (low : at < len) (k : Kept handled s t len) (items : (d : Slot T) → Swapped (item s d) (item t d) at (len - 1)) where
  pub removed : (d : Slot T) → Changed handled before s t len (len - 1) at (handled (item s d at)) None
  removed d =
      let last = len - 1 in
      let is : len ≡ last + 1 = omega arith in
      let a = cut_updated handled t len last is k.placed d in
      let u : Updated (waiting_in handled s len) (waiting_in handled t last) (handled (item s d at)) None = subst (λ x. Updated (waiting_in handled s len) (waiting_in handled t last) (handled x) None) (items d).1 (a.0, λ h n. a.1 h n ∙ k.waits h) in
      let b = p.placed.below d at low in
      let n = count_changed (waiting_in handled s len) (waiting_in handled t last) (length s) (handled (item s d at)) b u.1 in
      let v = ap option_len (found handled s len d at p.placed low) in
      let w = ap option_len u.0 in
      let c = p.counted in
      record {
        long = k.long;
        placed = cut_placed handled t len last is k.placed;
        loose = λ d. loosens before o (item s d) (item t d) len last at (p.heap d) (λ i l n. (omega arith, (items d).2 i n (λ q. omega arith)));
        counted = omega arith;
        updated = u;
      }

  pub one_slot : Slot T
  one_slot = let f = p.placed.fits in some_slot s (omega arith)

  pub cut : Changed handled before s t len (len - 1) at (handled (item s one_slot at)) None
  cut = removed one_slot

  -- where the last leaves, the others are a heap as they stand
  pub cut_sound : len - 1 ≤ at → Sound handled before t (len - 1)
  cut_sound l = record {
    placed = cut.placed;
    heap = λ d q i c m. let b = c.0 in (cut.loose d).0 q i c m (λ e. omega arith) (λ e. omega arith);
    counted = ap (count_of (waiting_in handled t (len - 1))) k.long ∙ cut.counted;
  }
