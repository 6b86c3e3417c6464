-- The junction that is taken has the next entry, and in the end all is settled.
use Rattle.std.proofs.Common.{◌≡◌, ℕ, suc, ◌+◌, ◌-◌, ◌*◌, ◌<◌, ◌≤◌, List, length, Some, None, Option, sym, refl, ap, ◌∙◌, subst, ⊎_elim, arith}
use Rattle.std.specs.Option.{option_map}
use Rattle.std.specs.List.{slice_get}
use Rattle.std.proofs.lemmas.Bool.{cases_lt}
use Rattle.std.proofs.lemmas.Option.{slice_get-get_or, slice_get_past}
use Rattle.network.proofs.First.{clash}
use Rattle.network.proofs.Following.{some_same}
use Rattle.network.specs.Model.{Roads}
use Rattle.queue.specs.declared.key.Key.{Key}
use Rattle.queue.specs.Keys.{key_before}
use Rattle.queue.specs.Waiting.{Updated, least_of}
use Rattle.queue.proofs.Least.{least_waits}
use Rattle.rows.specs.Index.{missing, entry_at}
use Rattle.rows.specs.declared.entry.Entry.{Entry}
use Rattle.rows.specs.declared.row.Row.{Row}
use Rattle.laying.proofs.ShortTimes.{progresses}
use Rattle.laying.specs.Settling.{IsAtRest, IsNext}
use Rattle.laying.proofs.Tallies.{settled_below}
use Rattle.laying.specs.Search.{entries_of, key_of}
use Rattle.laying.proofs.Keys.{least_low, nothing_waits}
use Rattle.laying.proofs.Stepping.{items, numbers}

abbrev key_made : ℕ → Entry → Key
key_made v e = record { height = e.time; junction = v }

key_there : (row : List Entry) (k v : ℕ) → k < length row → key_of (slice_get row k) v ≡ Some (key_made v (entry_at row k))
key_there row k v l = ap (option_map (key_made v)) (slice_get-get_or row k missing l)

pub key_past : (row : List Entry) (k v : ℕ) → length row ≤ k → key_of (slice_get row k) v ≡ None
key_past row k v l = ap (option_map (key_made v)) (slice_get_past row k l)

key_says : (row : List Entry) (k v : ℕ) (x : Key) → key_of (slice_get row k) v ≡ Some x → (k < length row) × (x ≡ key_made v (entry_at row k))
key_says row k v x e =
    ⊎_elim
    (λ l. (l, some_same (key_of (slice_get row k) v) x (key_made v (entry_at row k)) e (key_there row k v l)))
    (λ l. clash (key_of (slice_get row k) v) x e (key_past row k v l))
    (cases_lt k (length row))

module _ (keys : ℕ → Option Key) (rows : List Row) (counts : List ℕ) (n : ℕ) (queued : (v : ℕ) → keys v ≡ key_of (slice_get (items rows v) (numbers counts v)) v) (long : length rows ≡ n) where
  within_rows : (w k : ℕ) → k < length (items rows w) → w < n
  within_rows w k l =
      ⊎_elim
      (λ m. omega arith)
      (λ m. let e : length (items rows w) ≡ 0 = ap (λ o. length (entries_of o)) (slice_get_past rows w m) in absurd (omega arith))
      (cases_lt w (length rows))

  abbrev the : ℕ → Entry
  the u = entry_at (items rows u) (numbers counts u)

  pub next_is : (x : Key) → least_of key_before keys n ≡ Some x → (x.junction < n) × IsNext (items rows) (numbers counts) x.junction (the x.junction)
  next_is x e =
      let h = least_waits key_before keys n x e in
      let says = key_says (items rows h.0) (numbers counts h.0) h.0 x (sym (queued h.0) ∙ h.2) in
      let same : x.junction ≡ h.0 = ap (λ k. k.junction) says.1 in
      let time : x.height ≡ (the h.0).time = ap (λ k. k.height) says.1 in
      let least : (w : ℕ) → numbers counts w < length (items rows w) → (the h.0).time ≤ (the w).time = λ (w : ℕ) (l : numbers counts w < length (items rows w)). let low = least_low keys n x e w (key_made w (the w)) (within_rows w (numbers counts w) l) (queued w ∙ key_there (items rows w) (numbers counts w) w l) in omega arith in (
        subst (λ u. u < n) (sym same) h.1,
        subst (λ u. IsNext (items rows) (numbers counts) u (the u)) (sym same) (record { there = says.0; is = refl; least = least }),
      )

  pub all_settled : least_of key_before keys n ≡ None → ((v : ℕ) → numbers counts v ≤ length (items rows v)) → (v : ℕ) → v < n → numbers counts v ≡ length (items rows v)
  all_settled e within v l =
      let b = within v in
      ⊎_elim
      (λ m. clash (keys v) (key_made v (the v)) (queued v ∙ key_there (items rows v) (numbers counts v) v m) (nothing_waits keys n e v l))
      (λ m. omega arith)
      (cases_lt (numbers counts v) (length (items rows v)))

  -- then nothing waits
  pub none_left : ((v : ℕ) → v < n → numbers counts v ≡ length (items rows v)) → (v : ℕ) → keys v ≡ None
  none_left all v =
      queued v
      ∙ key_past (items rows v) (numbers counts v) v (⊎_elim
      (λ l. let e = all v l in omega arith)
      (λ l. let e : length (items rows v) ≡ 0 = ap (λ o. length (entries_of o)) (slice_get_past rows v (omega arith)) in omega arith)
      (cases_lt v n))

-- less is left
pub less_left : (m : Roads) (f : ℕ → ℕ) (C D longest n v : ℕ) (rows : ℕ → List Entry) (settled since : ℕ → ℕ) (x : Entry) → D ≡ C → v < n → IsAtRest m f C longest rows settled → IsNext rows settled v x → Updated settled since v (settled v + 1) → n * D - settled_below since n < n * C - settled_below settled n
less_left m f C D longest n v rows settled since x same l r next change =
    let p = progresses m f C rows settled since r.relaxed r.level n v x l r.state next (subst (λ k. Updated settled since v k) (let z : settled v + 1 ≡ suc (settled v) = omega arith in z) change) in
    let a = p.0 in
    let b = p.1 in
    subst (λ d. n * d - settled_below since n < n * C - settled_below settled n) (sym same) (omega arith)
