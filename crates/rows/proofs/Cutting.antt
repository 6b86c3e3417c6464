-- First seconds of segments that begin at 0 and do not pass 86,400 cut the day. Assumes nothing.
use Rattle.std.proofs.Common.{◌≡◌, ℕ, zero, suc, ◌+◌, ◌-◌, ◌<◌, ◌≤◌, Bool, true, ◌&&◌, ltb, leb, List, length, get_or, Some, None, Option, refl, ap, ◌∙◌, subst, ⊎_elim, arith}
use Rattle.std.proofs.lemmas.Bool.{and_parts, and_from, cases_lt, le-leb, lt-ltb, leb-true, ltb-true}
use Rattle.std.proofs.lemmas.List.{get_or_past, get_or_default}
use Rattle.network.specs.First.{first_of, provided}
use Rattle.network.proofs.First.{clash, none_below, provided_true}
use Rattle.network.proofs.Following.{provided_says}
use Rattle.soonest.proofs.Turns.{first_found}
use Rattle.rows.proofs.Guiding.{Cuts}

module _ (firsts : List ℕ) where
  -- the test that a second lies from a segment's first second to before its end
  abbrev inside : ℕ → ℕ → Bool
  inside t i = leb (get_or firsts i 0) t && ltb t (get_or firsts (i + 1) 86401)

  abbrev asks : ℕ → ℕ → Option ℕ
  asks t i = provided (inside t i) i

  module _ (some : 1 ≤ length firsts) (from : get_or firsts 0 0 ≡ 0) (within : (i : ℕ) → i < length firsts → get_or firsts i 0 ≤ 86400) where
    -- the last of the first segments that begins by t, where the next begins after it
    last_by : (t n : ℕ) → n < length firsts → t < get_or firsts (n + 1) 86401 → (i : ℕ) × (i < length firsts) × (inside t i ≡ true)
    last_by t zero l h = (0, l, and_from (leb (get_or firsts 0 0) t) (ltb t (get_or firsts 1 86401)) (le-leb (get_or firsts 0 0) t (omega arith)) (lt-ltb t (get_or firsts 1 86401) (subst (λ k. t < get_or firsts k 86401) (let e : 0 + 1 ≡ 1 = omega arith in e) h)))
    last_by t (suc n) l h =
        let e : get_or firsts (suc n) 0 ≡ get_or firsts (n + 1) 86401 = get_or_default firsts (suc n) 0 86401 l ∙ ap (λ k. get_or firsts k 86401) (let z : suc n ≡ n + 1 = omega arith in z) in
        ⊎_elim
        (λ m. last_by t n (omega arith) (omega arith))
        (λ m. (suc n, l, and_from (leb (get_or firsts (suc n) 0) t) (ltb t (get_or firsts (suc n + 1) 86401)) (le-leb (get_or firsts (suc n) 0) t m) (lt-ltb t (get_or firsts (suc n + 1) 86401) h)))
        (cases_lt t (get_or firsts (suc n) 0))

    pub day_cuts : Cuts (length firsts) (λ i. get_or firsts i 0) (λ i. get_or firsts (i + 1) 86401) (λ t. first_of (λ i. provided (leb (get_or firsts i 0) t && ltb t (get_or firsts (i + 1) 86401)) i) (length firsts))
    day_cuts = record { holds = holds; covers = covers; ends = ends }
      where
        holds : (t i : ℕ) → first_of (asks t) (length firsts) ≡ Some i → (i < length firsts) × (get_or firsts i 0 ≤ t) × (t < get_or firsts (i + 1) 86401)
        holds t i e =
            let f = first_found (asks t) (length firsts) i e in
            let p = provided_says (inside t f.0) f.0 i f.2 in
            let b = and_parts (leb (get_or firsts f.0 0) t) (ltb t (get_or firsts (f.0 + 1) 86401)) p.0 in
            subst (λ k. (k < length firsts) × (get_or firsts k 0 ≤ t) × (t < get_or firsts (k + 1) 86401)) p.1 (f.1, leb-true (get_or firsts f.0 0) t b.0, ltb-true t (get_or firsts (f.0 + 1) 86401) b.1)

        covers : (t : ℕ) → t ≤ 86400 → (i : ℕ) × (first_of (asks t) (length firsts) ≡ Some i)
        covers t l =
            let past = get_or_past firsts (length firsts - 1 + 1) 86401 (omega arith) in
            let i = last_by t (length firsts - 1) (omega arith) (omega arith) in
            go (first_of (asks t) (length firsts)) refl i
          where
            go : (o : Option ℕ) → first_of (asks t) (length firsts) ≡ o → ((i : ℕ) × (i < length firsts) × (inside t i ≡ true)) → (i : ℕ) × (o ≡ Some i)
            go None e i = clash (asks t i.0) i.0 (provided_true (inside t i.0) i.0 i.2) (none_below (asks t) (length firsts) e i.0 i.1)
            go (Some i) e _ = (i, refl)

        ends : (i : ℕ) → i < length firsts → get_or firsts (i + 1) 86401 ≤ 86401
        ends i l =
            ⊎_elim
            (λ m. let e = get_or_default firsts (i + 1) 86401 0 m in let w = within (i + 1) m in omega arith)
            (λ m. let e = get_or_past firsts (i + 1) 86401 m in omega arith)
            (cases_lt (i + 1) (length firsts))
