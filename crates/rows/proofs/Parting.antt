-- A row of the flat lists from a part of them. Assumes nothing.
use Rattle.std.proofs.Common.{◌≡◌, ℕ, zero, suc, ◌+◌, ◌<◌, true, false, eqb, List, [], ◌∷◌, get_or, take, drop, refl, ap, ◌∙◌, arith}
use Rattle.std.proofs.lemmas.List.{get_or-take, get_or-drop}
use Rattle.rows.specs.Index.{read_row}
use Rattle.rows.specs.declared.entry.Entry.{Entry}

-- lists that agree from two places on have one row there
pub read_row_same : (sites times others since : List ℕ) (C p q : ℕ) → ((r : ℕ) → r < C → get_or sites (p + r) 0 ≡ get_or others (q + r) 0) → ((r : ℕ) → r < C → get_or times (p + r) 0 ≡ get_or since (q + r) 0) → read_row sites times C p ≡ read_row others since C q
unfolding read_row
read_row_same sites times others since zero p q e d = refl
read_row_same sites times others since (suc C) p q e d =
    let site : get_or sites p 0 ≡ get_or others q 0 = ap (λ k. get_or sites k 0) (let z : p ≡ p + 0 = omega arith in z) ∙ e 0 (omega arith) ∙ ap (λ k. get_or others k 0) (let z : q + 0 ≡ q = omega arith in z) in
    let time : get_or times p 0 ≡ get_or since q 0 = ap (λ k. get_or times k 0) (let z : p ≡ p + 0 = omega arith in z) ∙ d 0 (omega arith) ∙ ap (λ k. get_or since k 0) (let z : q + 0 ≡ q = omega arith in z) in
    let rest = read_row_same sites times others since C (p + 1) (q + 1) (λ r l. ap (λ k. get_or sites k 0) (let z : p + 1 + r ≡ p + suc r = omega arith in z) ∙ e (suc r) (omega arith) ∙ ap (λ k. get_or others k 0) (let z : q + suc r ≡ q + 1 + r = omega arith in z)) (λ r l. ap (λ k. get_or times k 0) (let z : p + 1 + r ≡ p + suc r = omega arith in z) ∙ d (suc r) (omega arith) ∙ ap (λ k. get_or since k 0) (let z : q + suc r ≡ q + 1 + r = omega arith in z)) in
    step site time rest
  where
    next : ℕ → ℕ → List Entry → List Entry
    next s t row = elim (eqb s 65535) [ true ↦ [] | false ↦ record { site = s; time = t } ∷ row ]

    step : get_or sites p 0 ≡ get_or others q 0 → get_or times p 0 ≡ get_or since q 0 → read_row sites times C (p + 1) ≡ read_row others since C (q + 1) → next (get_or sites p 0) (get_or times p 0) (read_row sites times C (p + 1)) ≡ next (get_or others q 0) (get_or since q 0) (read_row others since C (q + 1))
    step a b c = ap (λ s. next s (get_or times p 0) (read_row sites times C (p + 1))) a ∙ ap (λ t. next (get_or others q 0) t (read_row sites times C (p + 1))) b ∙ ap (next (get_or others q 0) (get_or since q 0)) c

-- the row at a place is the row of the part that begins there
pub read_row_part : (sites times : List ℕ) (C p : ℕ) → read_row (take C (drop p sites)) (take C (drop p times)) C 0 ≡ read_row sites times C p
read_row_part sites times C p = read_row_same (take C (drop p sites)) (take C (drop p times)) sites times C 0 p (λ r l. part sites r l) (λ r l. part times r l)
  where
    part : (list : List ℕ) (r : ℕ) → r < C → get_or (take C (drop p list)) (0 + r) 0 ≡ get_or list (p + r) 0
    part list r l = ap (λ k. get_or (take C (drop p list)) k 0) (let z : 0 + r ≡ r = omega arith in z) ∙ get_or-take C (drop p list) r 0 l ∙ get_or-drop p list r 0
