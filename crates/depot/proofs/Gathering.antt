-- A part's numbers, gathered listing by listing. Assumes nothing.
use Rattle.std.proofs.Common.{◌≡◌, ℕ, Bool, true, false, cond, not, eqb, List, [], ◌∷◌, ◌++◌, length, filter, Some, None, Option, MatchOption, Bor, vec_items, refl, ap, ◌∙◌, arith, ne_eqb}
use Rattle.std.specs.List.{flat_map, find}
use Rattle.std.specs.Option.{option_and_then, option_map}
use Rattle.std.specs.Str.{bytes_eq}
use Rattle.depot.specs.declared.listing.Listing.{Listing}
use Rattle.depot.specs.declared.part.Part.{Part}
use Rattle.depot.specs.Depots.{listed, first}
use Rattle.depot.specs.Names.{name_of}
use Rattle.depot.specs.Reads.{items}

-- the listing is of the part p
abbrev pub of : Part → Listing → Bool
of p e = bytes_eq (name_of e.part) (name_of p)

abbrev pub numbers : Listing → List ℕ
numbers e = vec_items e.numbers

pub listed_in : (p : Part) (es : List Listing) → flat_map numbers (filter (of p) es) ≡ listed (name_of p) (items es)
listed_in p [] = refl
listed_in p (e ∷ es) = by (of p e) refl (listed_in p es)
  where
    by : (t : Bool) → of p e ≡ t → flat_map numbers (filter (of p) es) ≡ listed (name_of p) (items es) → flat_map numbers (filter (of p) (e ∷ es)) ≡ listed (name_of p) (items (e ∷ es))
    by true f rest = rw f (ap (λ ns. numbers e ++ ns) rest)
    by false f rest = rw f rest

-- the listing has a number
abbrev pub filled : Listing → Bool
filled e = not (eqb (length (numbers e)) 0)

-- e has the numbers ns, and comes before what is found in its place where they are none
before_found : (f : Listing → Option ℕ) (e : Listing) (ns rest : List ℕ) (found : Option Listing) → f e ≡ first ns → option_and_then f found ≡ first rest → option_and_then f (cond (not (eqb (length ns) 0)) (Some e) found) ≡ first (ns ++ rest)
before_found f e [] rest found own later = later
before_found f e (n ∷ ns) rest found own later =
    let some : eqb (length (n ∷ ns)) 0 ≡ false = ne_eqb _ _ (λ z. omega arith) in
    rw some own

in_list : (es : List Listing) → option_and_then (λ e. first (numbers e)) (find filled es) ≡ first (flat_map numbers es)
in_list [] = refl
in_list (e ∷ es) = before_found (λ x. first (numbers x)) e (numbers e) (flat_map numbers es) (find filled es) refl (in_list es)

pub first_in : (p : Part) (es : List Listing) → option_and_then (λ e. first (numbers e)) (find filled (filter (of p) es)) ≡ first (listed (name_of p) (items es))
first_in p es = in_list (filter (of p) es) ∙ ap first (listed_in p es)

pub and_then_is : {T : Type 0} (f : T → Option ℕ) (P : T → Type 0) (o : Option T) (r : Option ℕ) → MatchOption o (r ≡ None) P → ((x : T) → P x → r ≡ f x) → r ≡ option_and_then f o
and_then_is f P None r h k = h
and_then_is f P (Some x) r h k = k x h

pub now_and_then : {T : Type 0} (f : T → Option ℕ) (o : Option (Bor T)) → option_and_then (λ x. f x.now) o ≡ option_and_then f (option_map (λ x. x.now) o)
now_and_then f None = refl
now_and_then f (Some x) = refl
