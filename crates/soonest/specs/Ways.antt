-- Following ways back to the start. Assumes nothing.
use Rattle.std.specs.Prelude.{ℕ, zero, suc, Bool, true, false, ◌&&◌, List, [], ◌∷◌, ◌++◌, Some, None, Option, ◌==◌, nat_lt, slice_index_or}
use Rattle.std.specs.Option.{option_map}
use Rattle.network.specs.Model.{Roads}

-- the way of a junction in a list of ways, 65535 for none
abbrev pub way_in : List ℕ → ℕ → ℕ
way_in ways v = slice_index_or ways v 65535

module _ (m : Roads) (way : ℕ → ℕ) (start : ℕ) where
  -- whether the way of v is an arc that is there and leads to v
  abbrev pub leads_to : ℕ → Bool
  leads_to v = nat_lt (way v) m.arcs && m.head (way v) == v

  -- the way of v after what leads to its tail, where it leads to v
  abbrev pub by_way : Bool → ℕ → Option (List ℕ) → Option (List ℕ)
  by_way true v before = option_map (λ arcs. arcs ++ way v ∷ []) before
  by_way false v before = None

  -- the arcs from the start to v, at most n of them, in driving order: none where v is the start; else the way of v comes
  -- last, after those to its tail
  unfoldable pub back : (n v : ℕ) → Option (List ℕ)
  back zero v = elim (v == start) [ true ↦ Some [] | false ↦ None ]
  back (suc n) v = elim (v == start) [ true ↦ Some [] | false ↦ by_way (leads_to v) v (back n (m.tail (way v))) ]
