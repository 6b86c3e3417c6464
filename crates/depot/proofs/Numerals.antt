-- A number read digit by digit. Assumes nothing.
use Rattle.std.proofs.Common.{◌≡◌, ℕ, ◌+◌, ◌-◌, ◌*◌, ◌^◌, ◌<◌, ◌≤◌, true, ◌&&◌, List, map, length, get_or, drop, Ok, Err, sym, ap, ◌∙◌, arith}
use Rattle.std.specs.Int.Digits.{number_from_digits_after}
use Rattle.std.proofs.lemmas.Int.Digits.{number_after_ge}
use Rattle.std.proofs.lemmas.List.{at_drop_more, at_drop_all}
use Rattle.std.proofs.lemmas.Bool.{and_parts, leb-true, cond-true, cond-false, lt-ltb, le-ltb}
use Rattle.depot.specs.declared.fault.What.TheVariants.{TooLarge}
use Rattle.depot.specs.Numbers.{digit, digits, whole, value, number_of}

-- what is left of a word from i on begins with the byte at i
digits_more : (bs : List ℕ) (i : ℕ) → i < length bs → digits (drop i bs) ≡ (digit (get_or bs i 0) && digits (drop (i + 1) bs))
digits_more bs i lt = at_drop_more digits bs i 0 lt

-- v is the number that the first i bytes write, and the others are digits
pub record Sofar (word : List ℕ) (i v : ℕ) : Type 0 where
  pub rest : digits (drop i word) ≡ true
  pub total : number_from_digits_after 10 v (map (λ b. b - 48) (drop i word)) ≡ value word
  pub small : v < 2 ^ 32

module _ {word : List ℕ} {i v : ℕ} (h : Sofar word i v) (lt : i < length word) where
  pub a_digit : (48 ≤ get_or word i 0) × (get_or word i 0 ≤ 57)
  a_digit =
      let both = and_parts _ _ (and_parts _ _ (sym (digits_more word i lt) ∙ h.rest)).0 in
      (leb-true _ _ both.0, leb-true _ _ both.1)

  abbrev next : ℕ
  next = v * 10 + (get_or word i 0 - 48)

  one_more : number_from_digits_after 10 next (map (λ b. b - 48) (drop (i + 1) word)) ≡ value word
  one_more = sym (at_drop_more (λ bs. number_from_digits_after 10 v (map (λ b. b - 48) bs)) word i 0 lt) ∙ h.total

  pub further : next < 2 ^ 32 → Sofar word (i + 1) next
  further small = record {
    rest = (and_parts _ _ (sym (digits_more word i lt) ∙ h.rest)).1;
    total = one_more;
    small = small;
  }

  pub too_large : whole word ≡ true → 2 ^ 32 ≤ next → number_of word ≡ Err TooLarge
  too_large ok large =
      let over : 2 ^ 32 ≤ value word = omega (arith, one_more, number_after_ge 10 next (map (λ b. b - 48) (drop (i + 1) word)) (omega arith)) in
      cond-true _ _ _ ok ∙ cond-false _ _ _ (le-ltb _ _ over)

pub read : {word : List ℕ} {i v : ℕ} → whole word ≡ true → Sofar word i v → length word ≤ i → number_of word ≡ Ok v
read {word} {i} {v} ok h le =
    let is : value word ≡ v = sym h.total ∙ at_drop_all (λ bs. number_from_digits_after 10 v (map (λ b. b - 48) bs)) word i le in
    let fits : value word < 2 ^ 32 = omega (arith, is, h.small) in
    cond-true _ _ _ ok ∙ cond-true _ _ _ (lt-ltb _ _ fits) ∙ ap Ok is
