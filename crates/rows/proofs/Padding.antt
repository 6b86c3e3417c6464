-- What a row of the flat lists says, entry by entry. Assumes nothing.
use Rattle.std.proofs.Common.{◌≡◌, ℕ, zero, suc, ◌+◌, ◌-◌, ◌<◌, Bool, true, false, eqb, List, [], ◌∷◌, length, get_or, Some, None, Option, sym, refl, ap, ◌∙◌, ⊎_elim, arith}
use Rattle.std.specs.Iterator.Adapters.{zip_first, zip_second}
use Rattle.std.specs.Option.{option_or}
use Rattle.std.specs.Slice.Iter.{iter_rest}
use Rattle.std.specs.declared.iter.Zip.{Zip}
use Rattle.std.specs.declared.slice.Iter.{Iter}
use Rattle.std.proofs.lemmas.Bool.{eq-eqb, ne_eqb, cases_eq}
use Rattle.network.specs.First.{provided}
use Rattle.network.proofs.First.{provided_false}
use Rattle.rows.specs.Guided.{first_wanted, least_to}
use Rattle.rows.specs.Index.{entry_at, listed_at, read_row}
use Rattle.rows.specs.declared.entry.Entry.{Entry}

-- a zip of two slices starts at their first elements
pub zip_starts : (s z : Zip (Iter ℕ) (Iter ℕ)) (i : Iter ℕ) (xs ys : List ℕ) → s ≡ z → z.a ≡ i → iter_rest i ≡ xs → iter_rest z.b ≡ ys → (iter_rest (zip_first s) ≡ xs) × (iter_rest (zip_second s) ≡ ys)
zip_starts s z i xs ys e f g h = (ap (λ s. iter_rest (zip_first s)) e ∙ ap iter_rest f ∙ g, ap (λ s. iter_rest (zip_second s)) e ∙ h)

-- the time of the last entry, or `last` where there is none
last_time : ℕ → List Entry → ℕ
last_time last [] = last
last_time last (x ∷ row) = last_time x.time row

last_is : (row : List Entry) (last n : ℕ) → length row ≡ suc n → last_time last row ≡ (entry_at row n).time
unfolding last_time
last_is [] last n e = absurd (omega arith)
last_is (x ∷ []) last zero e = refl
last_is (x ∷ []) last (suc n) e = absurd (omega arith)
last_is (x ∷ y ∷ row) last zero e = absurd (omega arith)
last_is (x ∷ y ∷ row) last (suc n) e = last_is (y ∷ row) x.time n (omega arith)

module _ (wanted : ℕ → Bool) (sites times : List ℕ) where
  -- what n entries from place p on say, after one of the time `last`
  unfoldable pub says : (n p last : ℕ) → Option ℕ
  says zero p last = Some last
  says (suc n) p last = elim (eqb (get_or sites p 0) 65535) [ true ↦ None | false ↦ elim (wanted (get_or sites p 0)) [ true ↦ Some (get_or times p 0) | false ↦ says n (p + 1) (get_or times p 0) ] ]

  -- the same of a row that was read
  by_row : (n last : ℕ) → List Entry → Option ℕ
  by_row n last row = option_or (first_wanted wanted row) (provided (eqb (length row) n) (last_time last row))

  by_row_on : (n last : ℕ) (x : Entry) (row : List Entry) → wanted x.site ≡ false → by_row (suc n) last (x ∷ row) ≡ by_row n x.time row
  unfolding by_row last_time
  by_row_on n last x row e = rw (e, first_wanted) (ap (λ b. option_or (first_wanted wanted row) (provided b (last_time x.time row))) (same_test (length row) n))
    where
      same_test : (j k : ℕ) → eqb (suc j) (suc k) ≡ eqb j k
      same_test j k = ⊎_elim (λ e. eq-eqb (suc j) (suc k) (ap suc e) ∙ sym (eq-eqb j k e)) (λ h. ne_eqb (suc j) (suc k) (λ e. h (let z : j ≡ k = omega arith in z)) ∙ sym (ne_eqb j k h)) (cases_eq j k)

  says_row : (n p last : ℕ) → says n p last ≡ by_row n last (read_row sites times n p)
  unfolding says read_row by_row last_time
  says_row zero p last = refl
  says_row (suc n) p last = go (says_row n (p + 1) (get_or times p 0)) (eqb (get_or sites p 0) 65535) refl (wanted (get_or sites p 0)) refl
    where
      go : says n (p + 1) (get_or times p 0) ≡ by_row n (get_or times p 0) (read_row sites times n (p + 1)) → (b : Bool) → eqb (get_or sites p 0) 65535 ≡ b → (d : Bool) → wanted (get_or sites p 0) ≡ d → elim b as (λ _. Option ℕ) [ true ↦ None | false ↦ elim d as (λ _. Option ℕ) [ true ↦ Some (get_or times p 0) | false ↦ says n (p + 1) (get_or times p 0) ] ] ≡ by_row (suc n) last (elim b as (λ _. List Entry) [ true ↦ [] | false ↦ listed_at sites times p ∷ read_row sites times n (p + 1) ])
      go h true e d w = sym (provided_false (eqb 0 (suc n)) last (ne_eqb 0 (suc n) (λ z. omega arith)))
      go h false e true w = rw (w, first_wanted)
      go h false e false w = h ∙ sym (by_row_on n last (listed_at sites times p) (read_row sites times n (p + 1)) w)

  pub says_all : (n : ℕ) → says n 0 0 ≡ least_to n wanted (read_row sites times n 0)
  unfolding least_to by_row last_time
  says_all n = says_row n 0 0 ∙ go n (read_row sites times n 0)
    where
      go : (k : ℕ) (row : List Entry) → by_row k 0 row ≡ option_or (first_wanted wanted row) (provided (eqb (length row) k) (entry_at row (k - 1)).time)
      go k row = ⊎_elim (λ e. ap (λ t. option_or (first_wanted wanted row) (provided (eqb (length row) k) t)) (at k row e)) (λ h. ap (λ b. option_or (first_wanted wanted row) b) (provided_false (eqb (length row) k) (last_time 0 row) (ne_eqb (length row) k h) ∙ sym (provided_false (eqb (length row) k) (entry_at row (k - 1)).time (ne_eqb (length row) k h)))) (cases_eq (length row) k)
        where
          at : (k : ℕ) (row : List Entry) → length row ≡ k → last_time 0 row ≡ (entry_at row (k - 1)).time
          at zero [] e = refl
          at zero (x ∷ row) e = absurd (omega arith)
          at (suc k) row e = last_is row 0 k e ∙ ap (λ q. (entry_at row q).time) (let z : k ≡ suc k - 1 = omega arith in z)

  missing_here : (n k last : ℕ) → get_or sites k 0 ≡ 65535 → says (suc n) k last ≡ None
  unfolding says
  missing_here n k last e = rw (eq-eqb (get_or sites k 0) 65535 e, says)

  wanted_here : (n k last : ℕ) → (get_or sites k 0 ≡ 65535 → ⊥) → wanted (get_or sites k 0) ≡ true → says (suc n) k last ≡ Some (get_or times k 0)
  unfolding says
  wanted_here n k last e w = rw (ne_eqb (get_or sites k 0) 65535 e, w, says)

  passed_here : (n k last : ℕ) → (get_or sites k 0 ≡ 65535 → ⊥) → wanted (get_or sites k 0) ≡ false → says (suc n) k last ≡ says n (k + 1) (get_or times k 0)
  unfolding says
  passed_here n k last e w = rw (ne_eqb (get_or sites k 0) 65535 e, w, says)

  -- the turns of going through the entries, of which k are behind
  module _ (n k last : ℕ) (more : k < n) where
    one_more : says n 0 0 ≡ says (n - k) k last → says n 0 0 ≡ says (suc (n - k - 1)) k last
    one_more h = h ∙ ap (λ q. says q k last) (let z : n - k ≡ suc (n - k - 1) = omega arith in z)

    pub says_missing : says n 0 0 ≡ says (n - k) k last → get_or sites k 0 ≡ 65535 → None ≡ least_to n wanted (read_row sites times n 0)
    says_missing h e = sym (sym (says_all n) ∙ one_more h ∙ missing_here (n - k - 1) k last e)

    pub says_wanted : says n 0 0 ≡ says (n - k) k last → (get_or sites k 0 ≡ 65535 → ⊥) → wanted (get_or sites k 0) ≡ true → Some (get_or times k 0) ≡ least_to n wanted (read_row sites times n 0)
    says_wanted h e w = sym (sym (says_all n) ∙ one_more h ∙ wanted_here (n - k - 1) k last e w)

    pub says_on : says n 0 0 ≡ says (n - k) k last → (get_or sites k 0 ≡ 65535 → ⊥) → wanted (get_or sites k 0) ≡ false → (j : ℕ) → j ≡ k + 1 → says n 0 0 ≡ says (n - j) j (get_or times k 0)
    says_on h e w j z = one_more h ∙ passed_here (n - k - 1) k last e w ∙ ap (λ q. says q (k + 1) (get_or times k 0)) (let y : n - k - 1 ≡ n - j = omega arith in y) ∙ ap (λ q. says (n - j) q (get_or times k 0)) (sym z)

  pub says_end : (n k last : ℕ) → k ≡ n → says n 0 0 ≡ says (n - k) k last → Some last ≡ least_to n wanted (read_row sites times n 0)
  unfolding says
  says_end n k last e h = sym (sym (says_all n) ∙ h ∙ ap (λ q. says q k last) (let z : n - k ≡ 0 = omega arith in z))
