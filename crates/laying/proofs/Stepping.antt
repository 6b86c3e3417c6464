-- A step of the search from all sites, over plain lists.
use Rattle.std.proofs.Common.{◌≡◌, ℕ, suc, ◌+◌, ◌<◌, ◌≤◌, List, length, get_or, set, Some, None, Option, sym, refl, ap, ◌∙◌, subst, ⊎_elim, arith}
use Rattle.std.specs.List.{slice_get}
use Rattle.std.proofs.lemmas.Bool.{cases_eq}
use Rattle.std.proofs.lemmas.Grind.{get_or-set_at}
use Rattle.std.proofs.lemmas.List.{get_or-set_other, get_or_default}
use Rattle.std.proofs.lemmas.Nat.{mul-le}
use Rattle.std.proofs.lemmas.Option.{slice_get-get_or}
use Rattle.network.specs.Model.{Roads}
use Rattle.queue.specs.declared.key.Key.{Key}
use Rattle.queue.specs.Waiting.{Updated}
use Rattle.rows.specs.Index.{missing, entry_at}
use Rattle.rows.specs.Nearest.{entry}
use Rattle.rows.specs.Offering.{offer, later}
use Rattle.rows.specs.declared.entry.Entry.{Entry}
use Rattle.rows.specs.declared.row.Row.{Row}
use Rattle.laying.specs.Incoming.{last_into}
use Rattle.laying.specs.Settling.{IsAtRest, IsNext}
use Rattle.laying.specs.Search.{entries_of, key_of}
use Rattle.laying.proofs.Linking.{last_says, up_to}
use Rattle.laying.proofs.Settlings.{IsRelaxing, part, arrives}

abbrev pub items : List Row → ℕ → List Entry
items rows v = entries_of (slice_get rows v)

abbrev pub numbers : List ℕ → ℕ → ℕ
numbers counts v = get_or counts v 0

-- the row that the code reads, of rows as they are lent
pub read_items : (rows lent : List Row) (l : List Entry) (v : ℕ) (r : Row) → lent ≡ rows → get_or lent v r ≡ r → v < length rows → l ≡ r.entries.items → items rows v ≡ l
read_items rows lent l v r same is n e = ap entries_of (slice_get-get_or rows v r n) ∙ ap (λ q. q.entries.items) (ap (λ k. get_or k v r) (sym same) ∙ is) ∙ sym e

-- the entry that the code reads
pub read_entry : (rows lent : List Row) (l : List Entry) (v k : ℕ) (r : Row) → lent ≡ rows → get_or lent v r ≡ r → v < length rows → l ≡ r.entries.items → k < length (items rows v) → entry_at (items rows v) k ≡ get_or l k (entry 0 0)
read_entry rows lent l v k r same is n e m =
    let found : items rows v ≡ l = read_items rows lent l v r same is n e in
    ap (λ q. entry_at q k) found ∙ get_or_default l k missing (entry 0 0) (subst (λ q. k < length q) found m)

pub one_counted : (counts since : List ℕ) (v : ℕ) → v < length counts → since ≡ set counts v (get_or counts v 0 + 1) → Updated (numbers counts) (numbers since) v (suc (numbers counts v))
one_counted counts since v n e = (
  ap (λ l. get_or l v 0) e ∙ get_or-set_at counts v v (get_or counts v 0 + 1) 0 refl n ∙ (let z : get_or counts v 0 + 1 ≡ suc (get_or counts v 0) = omega arith in z),
  λ u d. ap (λ l. get_or l u 0) e ∙ get_or-set_other counts v u (get_or counts v 0 + 1) 0 d,
)

pub settled_more : (counts since : List ℕ) (v : ℕ) → since ≡ set counts v (get_or counts v 0 + 1) → v < length counts → numbers since v ≡ suc (numbers counts v)
settled_more counts since v e n = (one_counted counts since v n e).0

-- each junction waits by its next entry again
module _ (keys : ℕ → Option Key) (rows after : ℕ → List Entry) (counts since : ℕ → ℕ) (v : ℕ) (same : (u : ℕ) → (u ≡ v → ⊥) → after u ≡ rows u) (still : (u : ℕ) → (u ≡ v → ⊥) → since u ≡ counts u) where
  elsewhere : (u : ℕ) → (u ≡ v → ⊥) → keys u ≡ key_of (slice_get (rows u) (counts u)) u → keys u ≡ key_of (slice_get (after u) (since u)) u
  elsewhere u d e = e ∙ ap (λ r. key_of (slice_get r (counts u)) u) (sym (same u d)) ∙ ap (λ k. key_of (slice_get (after u) k) u) (sym (still u d))

  pub queued_after : (more : ℕ → Option Key) → Updated keys more v (key_of (slice_get (after v) (since v)) v) → ((u : ℕ) → (u ≡ v → ⊥) → keys u ≡ key_of (slice_get (rows u) (counts u)) u) → (u : ℕ) → more u ≡ key_of (slice_get (after u) (since u)) u
  queued_after more change before u =
      ⊎_elim
      (λ e. subst (λ w. more w ≡ key_of (slice_get (after w) (since w)) w) (sym e) change.0)
      (λ d. change.1 u d ∙ elsewhere u d (before u d))
      (cases_eq u v)

  pub queued_still : slice_get (after v) (since v) ≡ slice_get (rows v) (counts v) → ((u : ℕ) → keys u ≡ key_of (slice_get (rows u) (counts u)) u) → (u : ℕ) → keys u ≡ key_of (slice_get (after u) (since u)) u
  queued_still next before u =
      ⊎_elim
      (λ e. subst (λ w. keys w ≡ key_of (slice_get (after w) (since w)) w) (sym e) (before v ∙ ap (λ o. key_of o v) (sym next)))
      (λ d. elsewhere u d (before u))
      (cases_eq u v)

module _ (m : Roads) (f : ℕ → ℕ) (longest : ℕ) where
  pub started : (C D : ℕ) (rows after : List Row) (counts since : List ℕ) (v : ℕ) (x : Entry) → after ≡ rows → D ≡ C → since ≡ set counts v (get_or counts v 0 + 1) → v < length counts → v < m.junctions → IsAtRest m f C longest (items rows) (numbers counts) → IsNext (items rows) (numbers counts) v x → IsRelaxing m f D longest (items after) (numbers since) v m.arcs
  started C D rows after counts since v x e d s n there rest next =
      subst (λ l. IsRelaxing m f D longest (items l) (numbers since) v m.arcs) (sym e)
      (subst (λ k. IsRelaxing m f k longest (items rows) (numbers since) v m.arcs) (sym d)
      (part m f C longest (items rows) (numbers counts) (numbers since) v x there rest next (one_counted counts since v n s)))

  -- the entry as it is offered
  pub as_relaxed : (C v a k tail : ℕ) (rows after : ℕ → List Entry) (x : Entry) → m.tail a ≡ tail → entry_at (rows v) k ≡ x → Updated rows after tail (offer C (rows tail) (entry x.site (x.time + f a))) → Updated rows after (m.tail a) (offer C (rows (m.tail a)) (later (f a) (entry_at (rows v) k)))
  as_relaxed C v a k tail rows after x here same change =
      subst (λ t. Updated rows after t (offer C (rows t) (later (f a) (entry_at (rows v) k)))) (sym here)
      (subst (λ y. Updated rows after tail (offer C (rows tail) (later (f a) y))) (sym same)
      (subst (λ t. Updated rows after tail (offer C (rows tail) (entry x.site t))) (let z : x.time + f a ≡ f a + x.time = omega arith in z) change))

  pub fits_32 : (C v b a k : ℕ) (rows : ℕ → List Entry) (settled : ℕ → ℕ) (x : Entry) → m.junctions ≤ 4096 → longest ≤ 172800 → IsRelaxing m f C longest rows settled v b → last_into m.head v b ≡ Some a → b ≤ m.arcs → settled v ≡ suc k → entry_at (rows v) k ≡ x → f a ≤ longest → x.time + f a < 4294967296
  fits_32 C v b a k rows settled x few low p last within count same high =
      let l = arrives m f C longest rows settled v b a k p last within count high in
      let e = ap (λ y. y.time) same in
      let g = mul-le m.junctions longest 4096 172800 few low in
      omega arith

-- what is up to the next arc is less
pub fewer_left : (head : ℕ → ℕ) (v a : ℕ) (o p : Option ℕ) → p ≡ Some a → o ≡ last_into head v a → up_to o < up_to p
fewer_left head v a o p e d = subst (λ q. up_to o < up_to q) (sym e) (go o d)
  where
    go : (o : Option ℕ) → o ≡ last_into head v a → up_to o < suc a
    go None d = omega arith
    go (Some b) d = let l = (last_says head v a b (sym d)).0 in omega arith
