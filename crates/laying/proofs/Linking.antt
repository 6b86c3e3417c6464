-- The arcs that lead into a junction, one by one.
use Rattle.std.proofs.Common.{◌≡◌, ℕ, zero, suc, ◌+◌, ◌<◌, List, length, get_or, set, replicate, Some, None, Option, sym, refl, ap, ◌∙◌, ⊎_elim, arith}
use Rattle.std.proofs.lemmas.Bool.{cases_eq, eq-eqb, ne_eqb}
use Rattle.std.proofs.lemmas.Grind.{get_or-set_at}
use Rattle.std.proofs.lemmas.List.{get_or-set_other}
use Rattle.network.proofs.First.{clash}
use Rattle.network.proofs.Following.{some_same}
use Rattle.network.specs.Model.{Roads}
use Rattle.laying.specs.Incoming.{last_into, no_arc}
use Rattle.laying.specs.declared.incoming.IncomingArc.{IncomingArc}

-- how many arcs there are up to the next
abbrev pub up_to : Option ℕ → ℕ
up_to None = 0
up_to (Some a) = suc a

module _ (head : ℕ → ℕ) (v : ℕ) where
  pub last_here : (a : ℕ) → head a ≡ v → last_into head v (suc a) ≡ Some a
  unfolding last_into
  last_here a e = rw (eq-eqb (head a) v e, last_into)

  pub last_elsewhere : (a : ℕ) → (head a ≡ v → ⊥) → last_into head v (suc a) ≡ last_into head v a
  unfolding last_into
  last_elsewhere a e = rw (ne_eqb (head a) v e, last_into)

  pub none_into : last_into head v 0 ≡ None
  unfolding last_into
  none_into = refl

  -- it leads there, and none after it does
  pub last_says : (n a : ℕ) → last_into head v n ≡ Some a → (a < n) × (head a ≡ v) × ((b : ℕ) → a < b → b < n → head b ≡ v → ⊥)
  last_says zero a e = clash (Some a) a refl (sym e ∙ none_into)
  last_says (suc n) a e =
      ⊎_elim
      (λ p. let same : n ≡ a = some_same (last_into head v (suc n)) n a (last_here n p) e in (omega arith, ap head (sym same) ∙ p, λ b l k. absurd (omega arith)))
      (λ p. let r = last_says n a (sym (last_elsewhere n p) ∙ e) in
      let l = r.0 in
      (omega arith, r.1, λ b l k q. ⊎_elim (λ d. p (ap head (sym d) ∙ q)) (λ d. r.2 b l (omega arith) q) (cases_eq b n)))
      (cases_eq (head n) v)

  pub last_none : (n : ℕ) → last_into head v n ≡ None → (b : ℕ) → b < n → head b ≡ v → ⊥
  last_none zero e b l q = absurd (omega arith)
  last_none (suc n) e b l q =
      ⊎_elim
      (λ p. clash (last_into head v (suc n)) n (last_here n p) e)
      (λ p. ⊎_elim (λ d. p (ap head (sym d) ∙ q)) (λ d. last_none n (sym (last_elsewhere n p) ∙ e) b (omega arith) q) (cases_eq b n))
      (cases_eq (head n) v)

-- one more arc is linked
module _ (head : ℕ → ℕ) (i h : ℕ) (last : List (Option ℕ)) (leads : head i ≡ h) (inside : h < length last) where
  pub last_more : (v : ℕ) → get_or last v None ≡ last_into head v i → get_or (set last h (Some i)) v None ≡ last_into head v (i + 1)
  last_more v e =
      ⊎_elim
      (λ p. get_or-set_at last h v (Some i) None (sym p) (omega arith) ∙ sym (last_here head v i (leads ∙ p)) ∙ ap (last_into head v) (let z : suc i ≡ i + 1 = omega arith in z))
      (λ p. get_or-set_other last h v (Some i) None (λ q. p (sym q)) ∙ e ∙ sym (last_elsewhere head v i (λ q. p (sym leads ∙ q))) ∙ ap (last_into head v) (let z : suc i ≡ i + 1 = omega arith in z))
      (cases_eq h v)

module _ (m : Roads) (i h t : ℕ) (last : List (Option ℕ)) (arcs : List IncomingArc) (leads : m.head i ≡ h) (leaves : m.tail i ≡ t) (room : i < length arcs) where
  abbrev new : IncomingArc
  new = record { tail = t; before = get_or last h None }

  abbrev at : ℕ → IncomingArc
  at a = get_or (set arcs i new) a no_arc

  at_new : (a : ℕ) → a ≡ i → at a ≡ new
  at_new a p = get_or-set_at arcs i a new no_arc p (omega arith)

  at_other : (a : ℕ) → (a ≡ i → ⊥) → at a ≡ get_or arcs a no_arc
  at_other a p = get_or-set_other arcs i a new no_arc p

  pub tail_more : ((a : ℕ) → a < i → (get_or arcs a no_arc).tail ≡ m.tail a) → (a : ℕ) → a < i + 1 → (at a).tail ≡ m.tail a
  tail_more so_far a l =
      ⊎_elim
      (λ p. ap (λ k. k.tail) (at_new a p) ∙ sym leaves ∙ ap m.tail (sym p))
      (λ p. ap (λ k. k.tail) (at_other a p) ∙ so_far a (omega arith))
      (cases_eq a i)

  pub before_more : get_or last h None ≡ last_into m.head h i → ((a : ℕ) → a < i → (get_or arcs a no_arc).before ≡ last_into m.head (m.head a) a) → (a : ℕ) → a < i + 1 → (at a).before ≡ last_into m.head (m.head a) a
  before_more e so_far a l =
      ⊎_elim
      (λ p. ap (λ k. k.before) (at_new a p) ∙ e ∙ ap (λ k. last_into m.head k i) (sym leads) ∙ ap (λ k. last_into m.head (m.head k) k) (sym p))
      (λ p. ap (λ k. k.before) (at_other a p) ∙ so_far a (omega arith))
      (cases_eq a i)

-- a list of one value has it everywhere
pub all_alike : {X : Type 0} (n k : ℕ) (d : X) → get_or (replicate n d) k d ≡ d
all_alike zero k d = refl
all_alike (suc n) zero d = refl
all_alike (suc n) (suc k) d = all_alike n k d

-- with no arc yet there is none
pub none_at_first : (n : ℕ) (head : ℕ → ℕ) (v : ℕ) → get_or (replicate n (let e : Option ℕ = None in e)) v None ≡ last_into head v 0
none_at_first n head v = all_alike n v None ∙ sym (none_into head v)
