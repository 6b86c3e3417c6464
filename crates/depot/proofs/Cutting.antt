-- The first word and the first line of some bytes. Assumes nothing.
use Rattle.std.proofs.Common.{◌≡◌, ℕ, ◌<◌, ◌≤◌, Bool, true, false, not, ltb, List, [], ◌∷◌, length, take, drop, Some, None, Option, MatchOption, sym, refl, ap, ◌∙◌, one-add, arith, length-drop}
use Rattle.std.specs.List.{prefix_len, position, position_or_len, onto_first}
use Rattle.std.proofs.lemmas.List.{drop_all}
use borrow.Author.Tests.{ltb-true, ltb-false}
use Rattle.depot.specs.Cuts.{blank, past_word, words}

-- a byte that is part of a word
abbrev pub solid : ℕ → Bool
solid b = not (blank b)

pub skip_blank : (bs : List ℕ) → words (drop (prefix_len blank bs) bs) ≡ words bs
skip_blank [] = refl
skip_blank (b ∷ bs) = by (blank b) refl (skip_blank bs)
  where
    by : (t : Bool) → blank b ≡ t → words (drop (prefix_len blank bs) bs) ≡ words bs → words (drop (prefix_len blank (b ∷ bs)) (b ∷ bs)) ≡ words (b ∷ bs)
    by true e rest = rw (e, one-add) rest
    by false e rest = rw e (rw e refl)

-- bs begins with the word w
abbrev Begins : List ℕ → Type 0
Begins bs = words bs ≡ take (prefix_len solid bs) bs ∷ words (drop (prefix_len solid bs) bs)

pub word_off : (b : ℕ) (bs : List ℕ) → blank b ≡ false → Begins (b ∷ bs)
word_off b [] e = rw e refl
word_off b (c ∷ bs) e = by (blank c) refl (λ f. word_off c bs f)
  where
    by : (t : Bool) → blank c ≡ t → (blank c ≡ false → Begins (c ∷ bs)) → Begins (b ∷ c ∷ bs)
    by true f rest = rw (e, f) (rw f refl)
    by false f rest = rw (e, f, one-add) (ap (onto_first b) (rw f at (rest f)))

-- the byte after the blanks is not blank
first_solid : (bs : List ℕ) (b : ℕ) (rest : List ℕ) → drop (prefix_len blank bs) bs ≡ b ∷ rest → blank b ≡ false
first_solid [] b rest e = let z : ◌≡◌ {A = List ℕ} [] (b ∷ rest) = e in let o : ◌≡◌ {A = ℕ} 0 1 = cc in absurd (omega arith)
first_solid (a ∷ bs) b rest e = by (blank a) refl (first_solid bs b rest)
  where
    by : (t : Bool) → blank a ≡ t → (drop (prefix_len blank bs) bs ≡ b ∷ rest → blank b ≡ false) → blank b ≡ false
    by true f more = more (rw (f, one-add) at e)
    by false f more = let same : a ∷ bs ≡ b ∷ rest = rw f at e in let head : a ≡ b = cc in ap blank (sym head) ∙ f

some_solid : (b : ℕ) (bs : List ℕ) → blank b ≡ false → 0 < prefix_len solid (b ∷ bs)
some_solid b bs e = rw e (omega arith)

-- the first byte of a word comes after the blanks
first_solid_at : (bs : List ℕ) → position_or_len solid bs ≡ prefix_len blank bs
first_solid_at [] = refl
first_solid_at (b ∷ bs) = by (blank b) refl (first_solid_at bs)
  where
    by : (t : Bool) → blank b ≡ t → position_or_len solid bs ≡ prefix_len blank bs → position_or_len solid (b ∷ bs) ≡ prefix_len blank (b ∷ bs)
    by true e rest = rw (e, rest) refl
    by false e rest = rw e refl

-- where a word begins, or that none does
begins_at : (bs : List ℕ) (o : Option ℕ) → position solid bs ≡ o → MatchOption o (length bs ≤ prefix_len blank bs) (λ k. (k ≡ prefix_len blank bs) × (k < length bs))
begins_at bs o e =
    let n = position_or_len solid bs in
    by (ltb n (length bs)) refl (first_solid_at bs)
  where
    by : (t : Bool) → ltb (position_or_len solid bs) (length bs) ≡ t → position_or_len solid bs ≡ prefix_len blank bs → MatchOption o (length bs ≤ prefix_len blank bs) (λ k. (k ≡ prefix_len blank bs) × (k < length bs))
    by true t f = rw (sym e, t) (f, omega (arith, ltb-true _ _ t))
    by false t f = rw (sym e, t) (omega (arith, f, ltb-false _ _ t))

pub no_word : (bs : List ℕ) → position solid bs ≡ None → words bs ≡ []
no_word bs none = sym (skip_blank bs) ∙ ap words (drop_all _ bs (begins_at bs None none))

pub word_cut : (bs from word rest : List ℕ) (k n : ℕ) → position solid bs ≡ Some k → from ≡ drop k bs → n ≡ prefix_len solid from → word ≡ take n from → rest ≡ drop n from → (words bs ≡ word ∷ words rest) × (rest ≡ past_word bs) × (length rest < length bs)
word_cut bs [] word rest k n e f g front back = let at = begins_at bs (Some k) e in absurd (omega (arith, at, ap length f, length-drop k bs))
word_cut bs (b ∷ from) word rest k n e f g front back =
    let at = begins_at bs (Some k) e in
    let cut = f ∙ ap (λ m. drop m bs) at.0 in
    let start = first_solid bs b from (sym cut) in
    let whole : words bs ≡ words (b ∷ from) = sym (skip_blank bs) ∙ ap words (sym cut) in
    let some : 0 < n = rw g (some_solid b from start) in
    (rw (front, back, g) (whole ∙ word_off b from start), back ∙ ap (λ m. drop m (b ∷ from)) g ∙ ap (λ l. drop (prefix_len solid l) l) cut, omega (arith, at.1, some, ap length back, length-drop n (b ∷ from), ap length f, length-drop k bs))
