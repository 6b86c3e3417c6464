-- Numbers read word by word. Assumes nothing.
use Rattle.std.proofs.Common.{◌≡◌, ℕ, List, [], ◌∷◌, ◌++◌, Ok, Err, Result, sym, refl, ap, ◌∙◌, append_assoc}
use Rattle.depot.specs.declared.fault.What.{What}
use Rattle.depot.specs.Cuts.{words}
use Rattle.depot.specs.Numbers.{number_of}
use Rattle.depot.specs.Entries.{Wrong, put_first, read_first, numbers_in}

-- the numbers xs, and then those of what follows
abbrev pub after : List ℕ → Result (List ℕ) Wrong → Result (List ℕ) Wrong
after xs (Ok ns) = Ok (xs ++ ns)
after xs (Err wrong) = Err wrong

after_put : (xs : List ℕ) (n : ℕ) (r : Result (List ℕ) Wrong) → after xs (put_first n r) ≡ after (xs ++ n ∷ []) r
after_put xs n (Ok ns) = ap Ok (sym (append_assoc xs (n ∷ []) ns))
after_put xs n (Err wrong) = refl

-- xs are the numbers of the words of all that come before left
pub record Sofar (all left : List ℕ) (xs : List ℕ) : Type 0 where
  pub so : after xs (numbers_in (words left)) ≡ numbers_in (words all)

module _ {all left xs : List ℕ} (h : Sofar all left xs) (w rest : List ℕ) (cut : words left ≡ w ∷ words rest) where
  step : (r : Result ℕ What) → number_of w ≡ r → after xs (read_first w r (numbers_in (words rest))) ≡ numbers_in (words all)
  step r e = ap (λ q. after xs (read_first w q (numbers_in (words rest)))) (sym e) ∙ ap (λ ws. after xs (numbers_in ws)) (sym cut) ∙ h.so

  pub one_more : (n : ℕ) (ys : List ℕ) → Ok n ≡ number_of w → ys ≡ xs ++ n ∷ [] → Sofar all rest ys
  one_more n ys e more = record { so = ap (λ zs. after zs (numbers_in (words rest))) more ∙ sym (after_put xs n (numbers_in (words rest))) ∙ step (Ok n) (sym e) }
