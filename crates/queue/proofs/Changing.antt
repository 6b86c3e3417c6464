-- What waits after an item is replaced, added or cut off. Assumes nothing.
use Rattle.std.proofs.Common.{◌≡◌, ℕ, ◌+◌, ◌<◌, ◌≤◌, Bool, List, length, take, Some, None, Option, sym, refl, ap, ◌∙◌, subst, ⊎_elim, arith}
use Rattle.std.specs.List.{slice_get}
use Rattle.std.specs.Option.{option_and_then}
use Rattle.std.proofs.lemmas.Bool.{cases_eq}
use Rattle.queue.specs.declared.slot.Slot.{Slot}
use Rattle.queue.specs.Room.{item, place}
use Rattle.queue.specs.Waiting.{bearing, waiting_in, Updated}
use Rattle.queue.specs.Heap.{Placed, Sound}
use Rattle.queue.proofs.Counting.{count_none}
use Rattle.queue.proofs.Writing.{any_item}
use Rattle.queue.proofs.Holding.{found, held_by, equal_at}

module _ {T : Type 0} (handled : T → ℕ) where
  -- the item at `at` becomes x, with the same handle
  module _ (s t : List (Slot T)) (len at : ℕ) (x : T) (p : Placed handled s len) (long : length t ≡ length s) (low : at < len) (own : (d : Slot T) → handled (item s d at) ≡ handled x) (items : (d : Slot T) → Updated (item s d) (item t d) at x) (places : (d : Slot T) (k : ℕ) → place t d k ≡ place s d k) where
    as_before : (d : Slot T) (k : ℕ) → handled (item t d k) ≡ handled (item s d k)
    as_before d k = ⊎_elim (λ e. ap (λ i. handled (item t d i)) e ∙ ap handled (items d).0 ∙ sym (own d) ∙ ap (λ i. handled (item s d i)) (sym e)) (λ n. ap handled ((items d).1 k n)) (cases_eq k at)

    pub replaced_placed : Placed handled t len
    replaced_placed = record {
      fits = subst (λ n. len ≤ n) (sym long) p.fits;
      few = p.few;
      below = λ d k l. let a = as_before d k in let b = p.below d k l in omega arith;
      short = λ d k l. let a = as_before d k in let b = p.short d k l in omega arith;
      kept = λ d k l. ap (place t d) (as_before d k) ∙ places d (handled (item s d k)) ∙ p.kept d k l;
    }

    pub replaced_updated : Updated (waiting_in handled s len) (waiting_in handled t len) (handled x) (Some x)
    replaced_updated =
        let d : Slot T = record { item = x; place = 0 } in (
          sym (ap (λ y. waiting_in handled t len (handled y)) (items d).0) ∙ found handled t len d at replaced_placed low ∙ ap (λ y. Some y) (items d).0,
          λ h n. equal_at handled s t len len h p replaced_placed
              (λ d k l e. (k, l, (items d).1 k (λ q. n (sym e ∙ ap (λ i. handled (item s d i)) q ∙ own d))))
              (λ d k l e. (k, l, sym ((items d).1 k (λ q. n (sym e ∙ ap (λ i. handled (item t d i)) q ∙ ap handled (items d).0))))),
        )

  -- x is added at the end, and nothing waited under its handle
  module _ (s t : List (Slot T)) (len : ℕ) (x : T) (p : Placed handled s len) (long : length t ≡ length s) (room : len < length s) (fits : handled x < length s) (few : len < 4294967296) (short : handled x < 4294967296) (free : waiting_in handled s len (handled x) ≡ None) (items : (d : Slot T) → Updated (item s d) (item t d) len x) (places : (d : Slot T) → Updated (place s d) (place t d) (handled x) len) where
    kept_item : (d : Slot T) (k : ℕ) → k < len → item t d k ≡ item s d k
    kept_item d k l = (items d).1 k (λ e. omega arith)

    another : (d : Slot T) (k : ℕ) → k < len → handled (item s d k) ≡ handled x → ⊥
    another d k l e = cc (ap (waiting_in handled s len) (sym e) ∙ found handled s len d k p l)

    pub pushed_placed : Placed handled t (len + 1)
    pushed_placed = record {
      fits = omega arith;
      few = omega arith;
      below = λ d k l. ⊎_elim
          (λ e. let a : handled (item t d k) ≡ handled x = ap handled (ap (item t d) e ∙ (items d).0) in omega arith)
          (λ n. let m : k < len = omega arith in let a = ap handled (kept_item d k m) in let b = p.below d k m in omega arith)
          (cases_eq k len);
      short = λ d k l. ⊎_elim
          (λ e. let a : handled (item t d k) ≡ handled x = ap handled (ap (item t d) e ∙ (items d).0) in omega arith)
          (λ n. let m : k < len = omega arith in let a = ap handled (kept_item d k m) in let b = p.short d k m in omega arith)
          (cases_eq k len);
      kept = λ d k l. ⊎_elim
          (λ e. ap (λ y. place t d (handled y)) (ap (item t d) e ∙ (items d).0) ∙ (places d).0 ∙ sym e)
          (λ n. let m : k < len = omega arith in ap (λ y. place t d (handled y)) (kept_item d k m) ∙ (places d).1 (handled (item s d k)) (another d k m) ∙ p.kept d k m)
          (cases_eq k len);
    }

    pub pushed_updated : Updated (waiting_in handled s len) (waiting_in handled t (len + 1)) (handled x) (Some x)
    pushed_updated =
        let d : Slot T = record { item = x; place = 0 } in (
          sym (ap (λ y. waiting_in handled t (len + 1) (handled y)) (items d).0) ∙ found handled t (len + 1) d len pushed_placed (omega arith) ∙ ap (λ y. Some y) (items d).0,
          λ h n. equal_at handled s t len (len + 1) h p pushed_placed
              (λ d k l e. (k, omega arith, kept_item d k l))
              (λ d k l e. let m : k < len = ⊎_elim (λ q. absurd (n (sym e ∙ ap handled (ap (item t d) q ∙ (items d).0)))) (λ q. omega arith) (cases_eq k len) in (k, m, sym (kept_item d k m))),
        )

  -- the last item is cut off
  module _ (t : List (Slot T)) (len last : ℕ) (is : len ≡ last + 1) (p : Placed handled t len) where
    pub cut_placed : Placed handled t last
    cut_placed = record {
      fits = let a = p.fits in omega arith;
      few = let a = p.few in omega arith;
      below = λ d k l. p.below d k (omega arith);
      short = λ d k l. p.short d k (omega arith);
      kept = λ d k l. p.kept d k (omega arith);
    }

    pub cut_updated : (d : Slot T) → Updated (waiting_in handled t len) (waiting_in handled t last) (handled (item t d last)) None
    cut_updated d = (
      gone (waiting_in handled t last (handled (item t d last))) refl,
      λ h n. equal_at handled t t len last h p cut_placed
          (λ e k l q. (k, ⊎_elim (λ r. absurd (n (sym q ∙ ap handled (ap (item t e) r ∙ any e)))) (λ r. omega arith) (cases_eq k last), refl))
          (λ e k l q. (k, omega arith, refl)),
    )
      where
        any : (e : Slot T) → item t e last ≡ item t d last
        any e = any_item t last e d (let a = p.fits in omega arith)

        gone : (o : Option T) → waiting_in handled t last (handled (item t d last)) ≡ o → waiting_in handled t last (handled (item t d last)) ≡ None
        gone None q = q
        gone (Some y) q =
            let w = held_by handled t last (handled (item t d last)) y d cut_placed.fits q in
            let l = w.low in
            let a = p.kept d w.at (omega arith) in
            let b = p.kept d last (omega arith) in
            let e = ap (place t d) (ap handled w.is ∙ w.bears) in
            absurd (omega arith)

  -- nothing waits below 0
  pub none_waits : (s : List (Slot T)) (h : ℕ) → waiting_in handled s 0 h ≡ None
  unfolding waiting_in
  none_waits s h = go (slice_get s h)
    where
      go : (o : Option (Slot T)) → option_and_then (λ r. option_and_then (λ t. bearing handled h t.item) (slice_get (take 0 s) r.place)) o ≡ None
      go None = refl
      go (Some r) = refl

  pub none_placed : (s : List (Slot T)) → Placed handled s 0
  none_placed s = record { fits = omega arith; few = omega arith; below = λ d k l. absurd (omega arith); short = λ d k l. absurd (omega arith); kept = λ d k l. absurd (omega arith) }

  pub none_sound : (before : T → T → Bool) (s : List (Slot T)) → Sound handled before s 0
  none_sound before s = record { placed = none_placed s; heap = λ d p k c l. absurd (omega arith); counted = count_none (waiting_in handled s 0) (length s) (λ k l. none_waits s k) }
