-- The entries of a row of the flat lists, offered in turn. Assumes nothing.
use Rattle.std.proofs.Common.{◌≡◌, ℕ, zero, suc, ◌+◌, ◌-◌, ◌^◌, ◌<◌, ◌≤◌, Bool, true, false, List, [], ◌∷◌, get_or, sym, refl, ap, ◌∙◌, inl, inr, arith}
use Rattle.std.specs.List.{list_all}
use Rattle.std.proofs.lemmas.Bool.{and_cases, and_parts, both_ways, cases_eq, eq-eqb, ne_eqb, lt-ltb, le-ltb, ltb-false}
use Rattle.rows.specs.Index.{listed_at, read_row}
use Rattle.rows.specs.Offering.{fits, fitting, offer, later, offer_all}
use Rattle.rows.specs.declared.entry.Entry.{Entry}

fitting_next : (d : ℕ) (x : Entry) (l : List Entry) → fits d x ≡ true → fitting d (x ∷ l) ≡ x ∷ fitting d l
fitting_next d x l e = rw (e, fitting)

fitting_none : (d : ℕ) (x : Entry) (l : List Entry) → fits d x ≡ false → fitting d (x ∷ l) ≡ []
fitting_none d x l e = rw (e, fitting)

fit_next : (d : ℕ) (x : Entry) (l : List Entry) → fits d x ≡ true → list_all (fits d) (x ∷ l) ≡ list_all (fits d) l
fit_next d x l e = rw e

fit_none : (d : ℕ) (x : Entry) (l : List Entry) → fits d x ≡ false → list_all (fits d) (x ∷ l) ≡ false
fit_none d x l e = rw e

-- where all fit, none is left out
pub all_fitting : (d : ℕ) (l : List Entry) → list_all (fits d) l ≡ true → fitting d l ≡ l
all_fitting d [] e = refl
all_fitting d (x ∷ l) e =
    let k = and_parts (fits d x) (list_all (fits d) l) e in
    fitting_next d x l k.0 ∙ ap (λ q. x ∷ q) (all_fitting d l k.1)

module _ (sites times : List ℕ) where
  missing_row : (n k : ℕ) → get_or sites k 0 ≡ 65535 → read_row sites times (suc n) k ≡ []
  unfolding read_row
  missing_row n k e = rw (eq-eqb (get_or sites k 0) 65535 e, read_row)

  next_row : (n k : ℕ) → (get_or sites k 0 ≡ 65535 → ⊥) → read_row sites times (suc n) k ≡ listed_at sites times k ∷ read_row sites times n (k + 1)
  unfolding read_row
  next_row n k h = rw (ne_eqb (get_or sites k 0) 65535 h, read_row)

  no_row : (k : ℕ) → read_row sites times 0 k ≡ []
  unfolding read_row
  no_row k = refl

  -- `row` is what k entries of n make of `first`, and all of them fit
  module _ (most by n : ℕ) (first : List Entry) where
    abbrev pub left : ℕ → List Entry
    left k = read_row sites times (n - k) k

    abbrev pub made : List Entry
    made = offer_all most by (fitting by (read_row sites times n 0)) first

    abbrev pub all : Bool
    all = list_all (fits by) (read_row sites times n 0)

    abbrev pub Made : (k : ℕ) → List Entry → Type 0
    Made k row = (made ≡ offer_all most by (fitting by (left k)) row) × (all ≡ list_all (fits by) (left k))

    left_more : (k : ℕ) → k < n → left k ≡ read_row sites times (suc (n - k - 1)) k
    left_more k l = ap (λ q. read_row sites times q k) (let z : n - k ≡ suc (n - k - 1) = omega arith in z)

    left_missing : (k : ℕ) → k < n → get_or sites k 0 ≡ 65535 → left k ≡ []
    left_missing k l e = left_more k l ∙ missing_row (n - k - 1) k e

    left_next : (k : ℕ) → k < n → (get_or sites k 0 ≡ 65535 → ⊥) → (j : ℕ) → j ≡ k + 1 → left k ≡ listed_at sites times k ∷ left j
    left_next k l e j z =
        left_more k l ∙ next_row (n - k - 1) k e
        ∙ ap (λ q. listed_at sites times k ∷ read_row sites times q (k + 1)) (let y : n - k - 1 ≡ n - j = omega arith in y)
        ∙ ap (λ q. listed_at sites times k ∷ read_row sites times (n - j) q) (sym z)

    left_none : (k : ℕ) → k ≡ n → left k ≡ []
    left_none k e = ap (λ q. read_row sites times q k) (let z : n - k ≡ 0 = omega arith in z) ∙ no_row k

    done : (k : ℕ) (row : List Entry) → Made k row → left k ≡ [] → (row ≡ made) × (all ≡ true)
    done k row h e = (sym (h.0 ∙ ap (λ q. offer_all most by (fitting by q) row) e), h.1 ∙ ap (list_all (fits by)) e)

    pub made_missing : (k : ℕ) (row : List Entry) → k < n → Made k row → get_or sites k 0 ≡ 65535 → (row ≡ made) × (all ≡ true)
    made_missing k row l h e = done k row h (left_missing k l e)

    pub made_all : (k : ℕ) (row : List Entry) → k ≡ n → Made k row → (row ≡ made) × (all ≡ true)
    made_all k row e h = done k row h (left_none k e)

    pub made_next : (k : ℕ) (row : List Entry) → k < n → Made k row → (get_or sites k 0 ≡ 65535 → ⊥) → by + get_or times k 0 < 2 ^ 32 → (x : Entry) → x ≡ later by (listed_at sites times k) → (j : ℕ) → j ≡ k + 1 → Made j (offer most row x)
    made_next k row l h e small x same j z =
        let fit = lt-ltb (by + get_or times k 0) (2 ^ 32) small in
        let next = left_next k l e j z in (
          h.0 ∙ ap (λ q. offer_all most by (fitting by q) row) next
              ∙ ap (λ q. offer_all most by q row) (fitting_next by (listed_at sites times k) (left j) fit)
              ∙ ap (λ y. offer_all most by (fitting by (left j)) (offer most row y)) (sym same),
          h.1 ∙ ap (list_all (fits by)) next ∙ fit_next by (listed_at sites times k) (left j) fit,
        )

    -- the next entry does not fit
    pub made_part : (k : ℕ) (row : List Entry) → k < n → Made k row → (get_or sites k 0 ≡ 65535 → ⊥) → 2 ^ 32 ≤ by + get_or times k 0 → (row ≡ made) × (all ≡ false)
    made_part k row l h e large =
        let out = le-ltb (by + get_or times k 0) (2 ^ 32) large in
        let next = left_next k l e (k + 1) refl in (
          sym (h.0 ∙ ap (λ q. offer_all most by (fitting by q) row) next ∙ ap (λ q. offer_all most by q row) (fitting_none by (listed_at sites times k) (left (k + 1)) out)),
          h.1 ∙ ap (list_all (fits by)) next ∙ fit_none by (listed_at sites times k) (left (k + 1)) out,
        )

  -- where not all of the entries from p on fit, the time of one of them does not
  pub one_large : (d n p : ℕ) → list_all (fits d) (read_row sites times n p) ≡ false → (k : ℕ) × (k < p + n) × (2 ^ 32 ≤ d + get_or times k 0)
  one_large d zero p e = absurd (both_ways (list_all (fits d) (read_row sites times 0 p)) e (ap (list_all (fits d)) (no_row p)))
  one_large d (suc n) p e = elim (cases_eq (get_or sites p 0) 65535) [
    | inl m ↦ absurd (both_ways (list_all (fits d) (read_row sites times (suc n) p)) e (ap (list_all (fits d)) (missing_row n p m)))
    | inr h ↦ elim (and_cases (fits d (listed_at sites times p)) (list_all (fits d) (read_row sites times n (p + 1))) (sym (ap (list_all (fits d)) (next_row n p h)) ∙ e)) [
      | inl f ↦ (p, omega arith, ltb-false (d + get_or times p 0) (2 ^ 32) f)
      | inr f ↦ let k = one_large d n (p + 1) f in let l = k.1 in (k.0, omega arith, k.2)
    ]
  ]
