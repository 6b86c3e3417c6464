-- A depot file read line by line. Assumes nothing.
use Rattle.std.proofs.Common.{◌≡◌, ℕ, ◌+◌, ◌<◌, ◌≤◌, Bool, true, false, cond, eqb, ◌⊎◌, inl, inr, List, [], ◌∷◌, ◌++◌, length, get_or, drop, Some, None, Ok, Err, Result, sym, refl, ap, ◌∙◌}
use Rattle.std.specs.List.{slice_split, slice_get, onto_first}
use Rattle.std.specs.Option.{unwrap_or}
use Rattle.std.proofs.lemmas.List.{at_drop_more, at_drop_all}
use Rattle.depot.specs.declared.fault.What.TheVariants.{UnknownWord, SecondNumber}
use Rattle.depot.specs.declared.part.Part.{Part}
use Rattle.depot.specs.Cuts.{lines, words, code}
use Rattle.depot.specs.Entries.{Wrong, numbers_in}
use Rattle.depot.specs.Depots.{Item, listed, surplus, admitted, added, grown, onward, gathered}
use Rattle.depot.specs.Names.{name_of, names, singles}
use Rattle.depot.proofs.Naming.{known}

module _ (es : List Item) (all ws : List (List ℕ)) (name ns : List ℕ) (p : Part) (cut : all ≡ name ∷ ws) (is : name ≡ name_of p) (read : numbers_in ws ≡ Ok ns) where
  -- the words past those that the part takes
  abbrev past : List (List ℕ)
  past = cond (names singles (name_of p)) (surplus (listed (name_of p) es) ws) []

  line_says : grown es all ≡ admitted es (name_of p, ns) past
  line_says =
      ap (grown es) (cut ∙ ap (λ w. w ∷ ws) is)
      ∙ ap (λ t. cond t (added es (name_of p) ws (numbers_in ws)) (Err (name_of p, UnknownWord))) (known p)
      ∙ ap (added es (name_of p) ws) read

  -- a line that can be read
  pub line_in : past ≡ [] → grown es all ≡ Ok (es ++ (name_of p, ns) ∷ [])
  line_in room = line_says ∙ ap (admitted es (name_of p, ns)) room

  -- a line with one number too many
  pub line_over : (w : List ℕ) → true ≡ names singles (name_of p) → Some w ≡ slice_get (surplus (listed (name_of p) es) ws) 0 → grown es all ≡ Err (w, SecondNumber)
  line_over w single over = line_says ∙ by past (over ∙ ap (λ t. slice_get (cond t (surplus (listed (name_of p) es) ws) []) 0) single)
    where
      by : (xs : List (List ℕ)) → Some w ≡ slice_get xs 0 → admitted es (name_of p, ns) xs ≡ Err (w, SecondNumber)
      by [] e = cc
      by (x ∷ xs) e = ap (λ o. Err (unwrap_or o w, SecondNumber)) (sym e)

pub none_first : (ws : List (List ℕ)) → None ≡ slice_get ws 0 → ws ≡ []
none_first [] e = refl
none_first (w ∷ ws) e = cc

abbrev pub newline : ℕ → Bool
newline b = eqb b 10

-- the pieces between newlines
abbrev pub pieces : List ℕ → List (List ℕ)
pieces bs = slice_split newline bs

-- they are the lines, or the lines and an empty one
pieces_are : (bs : List ℕ) → (pieces bs ≡ lines bs) ⊎ (pieces bs ≡ lines bs ++ [] ∷ [])
pieces_are [] = inr refl
pieces_are (b ∷ bs) = by (newline b) refl (lines bs) refl (pieces_are bs)
  where
    by : (t : Bool) → newline b ≡ t → (ls : List (List ℕ)) → lines bs ≡ ls → (pieces bs ≡ lines bs) ⊎ (pieces bs ≡ lines bs ++ [] ∷ []) → (pieces (b ∷ bs) ≡ lines (b ∷ bs)) ⊎ (pieces (b ∷ bs) ≡ lines (b ∷ bs) ++ [] ∷ [])
    by true e ls f (inl h) = inl (rw e (ap (λ ls. [] ∷ ls) h))
    by true e ls f (inr h) = inr (rw e (ap (λ ls. [] ∷ ls) h))
    by false e ls f (inl h) = inl (rw e (ap (onto_first b) h))
    by false e [] f (inr h) = inl (rw (e, h, f) refl)
    by false e (l ∷ ls) f (inr h) = inr (rw (e, h, f) refl)

-- an empty line says nothing
empty_last : (n : ℕ) (es : List Item) (ls : List (List ℕ)) → gathered n es (ls ++ [] ∷ []) ≡ gathered n es ls
empty_last n es [] = refl
empty_last n es (l ∷ ls) = by (grown es (words (code l))) (λ fs. empty_last (n + 1) fs ls)
  where
    by : (r : Result (List Item) Wrong) → ((fs : List Item) → gathered (n + 1) fs (ls ++ [] ∷ []) ≡ gathered (n + 1) fs ls) → onward n r (λ fs. gathered (n + 1) fs (ls ++ [] ∷ [])) ≡ onward n r (λ fs. gathered (n + 1) fs ls)
    by (Ok fs) rest = rest fs
    by (Err wrong) rest = refl

gathered_pieces : (n : ℕ) (es : List Item) (bs : List ℕ) → gathered n es (pieces bs) ≡ gathered n es (lines bs)
gathered_pieces n es bs = by (pieces_are bs)
  where
    by : (pieces bs ≡ lines bs) ⊎ (pieces bs ≡ lines bs ++ [] ∷ []) → gathered n es (pieces bs) ≡ gathered n es (lines bs)
    by (inl h) = ap (gathered n es) h
    by (inr h) = ap (gathered n es) h ∙ empty_last n es (lines bs)

-- n pieces of the text were read, and say es
pub record Sofar (text : List ℕ) (n : ℕ) (es : List Item) : Type 0 where
  pub so : gathered (n + 1) es (drop n (pieces text)) ≡ gathered 1 [] (lines text)

pub at_first : (text : List ℕ) → Sofar text 0 []
at_first text = record { so = gathered_pieces 1 [] text }

module _ {text : List ℕ} {n : ℕ} {es : List Item} (h : Sofar text n es) where
  next : (l : List ℕ) → n < length (pieces text) → l ≡ get_or (pieces text) n l → onward (n + 1) (grown es (words (code l))) (λ fs. gathered (n + 1 + 1) fs (drop (n + 1) (pieces text))) ≡ gathered 1 [] (lines text)
  next l lt is =
      ap (λ k. onward (n + 1) (grown es (words (code k))) (λ fs. gathered (n + 1 + 1) fs (drop (n + 1) (pieces text)))) is
      ∙ sym (at_drop_more (gathered (n + 1) es) (pieces text) n l lt)
      ∙ h.so

  pub further : (l : List ℕ) (fs : List Item) → n < length (pieces text) → l ≡ get_or (pieces text) n l → grown es (words (code l)) ≡ Ok fs → Sofar text (n + 1) fs
  further l fs lt is e = record { so = rw e at (next l lt is) }

  pub wrong_at : (l : List ℕ) (w : Wrong) → n < length (pieces text) → l ≡ get_or (pieces text) n l → grown es (words (code l)) ≡ Err w → gathered 1 [] (lines text) ≡ Err (n + 1, w.0, w.1)
  wrong_at l w lt is e = sym (rw e at (next l lt is))

  pub all_read : length (pieces text) ≤ n → gathered 1 [] (lines text) ≡ Ok es
  all_read le = sym h.so ∙ at_drop_all (gathered (n + 1) es) (pieces text) n le
