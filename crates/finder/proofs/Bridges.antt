-- How single writes change what labels show. Assumes nothing.
use Rattle.std.proofs.Common.{◌≡◌, ℕ, ◌<◌, ◌≤◌, true, false, length, get_or, Bool, List, [], is_some, replicate, arith, Some, None, Option, set, sym, refl, ap, ◌∙◌, ⊎_elim}
use mathlib.Core.Path.{fun_ext}
use Rattle.std.specs.Option.{option_map}
use Rattle.std.proofs.lemmas.Bool.{cases_eq, cases_lt, false≢true}
use Rattle.std.proofs.lemmas.Grind.{get_or-set_at}
use Rattle.std.proofs.lemmas.List.{get_or_default, get_or-set_other, get_or-replicate, get_or_past, length-replicate}
use Rattle.queue.specs.declared.key.Key.{Key}
use Rattle.queue.specs.Waiting.{Updated}
use Rattle.soonest.specs.Guidance.{Guidance}
use Rattle.soonest.specs.Stages.{Stage, upd, below, begin, reach, arrive, try_all}
use Rattle.soonest.specs.Ways.{way_in}
use Rattle.network.specs.Model.{leaving}
use Rattle.soonest.proofs.Ending.{try_next}
use Rattle.soonest.proofs.Turns.{upd_other}
use Rattle.soonest.proofs.Updates.{upd_at}
use Rattle.finder.specs.declared.marks.Mark.{Mark}
use Rattle.finder.specs.Labels.{mark_in, reading_in, key_in}

-- one entry of a list changes
entry_set : {X Y : Type 0} (f : X → Y) (xs : List X) (d : X) (i : ℕ) (x : X) → i < length xs → ◌≡◌ {A = ℕ → Y} (λ j. f (get_or (set xs i x) j d)) (upd (λ j. f (get_or xs j d)) i (f x))
entry_set f xs d i x l = fun_ext (λ j. ⊎_elim (λ e. ap f (get_or-set_at xs i j x d e l) ∙ sym (upd_at (λ j. f (get_or xs j d)) i (f x) j e)) (λ e. ap f (get_or-set_other xs i j x d e) ∙ sym (upd_other (λ j. f (get_or xs j d)) i (f x) j e)) (cases_eq j i))

-- a function that is another but at one place is that update
updated_is : {X Y : Type 0} (f : X → Y) (u w : ℕ → X) (i : ℕ) (x : X) → Updated u w i x → ◌≡◌ {A = ℕ → Y} (λ j. f (w j)) (upd (λ j. f (u j)) i (f x))
updated_is f u w i x p = fun_ext (λ j. ⊎_elim (λ e. ap (λ k. f (w k)) e ∙ ap f p.0 ∙ sym (upd_at (λ j. f (u j)) i (f x) j e)) (λ e. ap f (p.1 j e) ∙ sym (upd_other (λ j. f (u j)) i (f x) j e)) (cases_eq j i))

pub keys_updated : (u w : ℕ → Option Key) (i : ℕ) (x : Option Key) (o : Option ℕ) → option_map (λ k. k.height) x ≡ o → Updated u w i x → key_in w ≡ upd (key_in u) i o
unfolding key_in
keys_updated u w i x o e p = updated_is (option_map (λ k. k.height)) u w i x p ∙ ap (upd (λ j. option_map (λ k. k.height) (u j)) i) e

pub ways_set : (ways : List ℕ) (i a : ℕ) → i < length ways → way_in (set ways i a) ≡ upd (way_in ways) i a
ways_set ways i a l = entry_set (λ x. x) ways 65535 i a l

module _ {R : Type 0} (height : R → ℕ) where
  pub readings_set : (marks : List (Mark R)) (i : ℕ) (m : Mark R) (r : R) → m.reading ≡ Some r → i < length marks → reading_in height (set marks i m) ≡ upd (reading_in height marks) i (Some (height r))
  unfolding reading_in
  readings_set marks i m r e l = entry_set (λ m. option_map height m.reading) marks (record { reading = None; sited = false }) i m l ∙ ap (upd (reading_in height marks) i) (ap (option_map height) e)

  -- the reading of a mark that is read
  pub reading_here : (marks : List (Mark R)) (v : ℕ) (d : Mark R) (o : Option R) → v < length marks → (get_or marks v d).reading ≡ o → reading_in height marks v ≡ option_map height o
  unfolding reading_in
  reading_here marks v d o l e = ap (λ m. option_map height m.reading) (get_or_default marks v (record { reading = None; sited = false }) d l) ∙ ap (option_map height) e

module _ (g : Guidance) (k a q j : ℕ) (s : Stage) where
  reached_at : ℕ → Stage
  reached_at i = record {
    reading = upd s.reading i (Some q);
    key = upd s.key i (g.estimate i q s.wanted);
    way = upd s.way i a;
    wanted = s.wanted;
    listed = s.listed;
    steps = s.steps;
  }

  -- what arrives counts at the head
  pub arrive_is : (reading key : ℕ → Option ℕ) (way : ℕ → ℕ) (arrives : Option ℕ) → arrives ≡ Some q → g.roads.head a ≡ j → below q (s.reading j) ≡ true → reading ≡ upd s.reading j (Some q) → key ≡ upd s.key j (g.estimate j q s.wanted) → way ≡ upd s.way j a → ◌≡◌ {A = Stage} (record { reading = reading; key = key; way = way; wanted = s.wanted; listed = s.listed; steps = s.steps }) (arrive g k a arrives s)
  unfolding reached_at
  arrive_is reading key way arrives e h b r c w =
      (λ i. record { reading = r i; key = c i; way = w i; wanted = s.wanted; listed = s.listed; steps = s.steps })
      ∙ ap reached_at (sym h)
      ∙ sym (ap (λ t. elim t [ true ↦ reach g k a q s | false ↦ s ]) (ap (λ i. below q (s.reading i)) h ∙ b))
      ∙ sym (ap (λ o. arrive g k a o s) e)

pub try_start : (g : Guidance) (k v r : ℕ) (s : Stage) → s ≡ try_all g k v r 0 s
unfolding try_all
try_start g k v r s = refl

-- what leaves a junction at or after an arc is there
pub next_within : (g : Guidance) (v from a : ℕ) → leaving g.roads.arcs g.roads.tail v from ≡ Some a → (from ≤ a) × (a < g.roads.arcs)
next_within g v from a e = let n = try_next g 0 v 0 (begin g 0 (λ s. false) v 0) from a e in (n.0, n.1)

-- how an asking begins
module _ {R : Type 0} (height : R → ℕ) where
  pub readings_clear : (cleared noted : List (Mark R)) → ((v : ℕ) → mark_in cleared v ≡ record { reading = None; sited = false }) → ((v : ℕ) → (mark_in noted v).reading ≡ (mark_in cleared v).reading) → ◌≡◌ {A = ℕ → Option ℕ} (reading_in height noted) (λ _. None)
  unfolding reading_in
  readings_clear cleared noted c n = fun_ext (λ v. ap (option_map height) (n v ∙ ap (λ m. m.reading) (c v)))

pub keys_clear : (u : ℕ → Option Key) → ((h : ℕ) → u h ≡ None) → ◌≡◌ {A = ℕ → Option ℕ} (key_in u) (λ _. None)
unfolding key_in
keys_clear u none = fun_ext (λ v. ap (option_map (λ k. k.height)) (none v))

pub ways_clear : (n : ℕ) → ◌≡◌ {A = ℕ → ℕ} (way_in (replicate n 65535)) (λ _. 65535)
ways_clear n = fun_ext (λ v. ⊎_elim (λ l. get_or-replicate n v 65535 65535 l) (λ l. get_or_past (replicate n 65535) v 65535 (let e : length {A = ℕ} (replicate n 65535) ≡ n = length-replicate n 65535 in omega arith)) (cases_lt v n))

pub begin_is : (g : Guidance) (k : ℕ) (free : ℕ → Bool) (v h : ℕ) (reading key no_reading no_key : ℕ → Option ℕ) (way : ℕ → ℕ) → reading ≡ upd no_reading v (Some h) → no_reading ≡ (λ _. None) → key ≡ upd no_key v (g.estimate v h free) → no_key ≡ (λ _. None) → way ≡ (λ _. 65535) → ◌≡◌ {A = Stage} (record { reading = reading; key = key; way = way; wanted = free; listed = []; steps = 0 }) (begin g k free v h)
begin_is g k free v h reading key no_reading no_key way r nr c nk w =
    let p = r ∙ ap (λ f. upd f v (Some h)) nr in
    let q = c ∙ ap (λ f. upd f v (g.estimate v h free)) nk in
    λ i. record { reading = p i; key = q i; way = w i; wanted = free; listed = []; steps = 0 }

-- what has a reading is within the list
pub reads_within : {R : Type 0} (marks : List (Mark R)) (v : ℕ) → is_some (mark_in marks v).reading ≡ true → v < length marks
reads_within marks v e = ⊎_elim (λ l. l) (λ l. absurd (false≢true (sym (ap (λ m. is_some m.reading) (get_or_past marks v (record { reading = None; sited = false }) l)) ∙ e))) (cases_lt v (length marks))
