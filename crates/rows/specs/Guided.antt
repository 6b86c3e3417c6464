-- The estimate by the rows of the index. Assumes nothing.
use Rattle.std.specs.Prelude.{ℕ, ◌+◌, ◌-◌, min, Bool, true, false, ◌&&◌, List, [], ◌∷◌, length, is_some, Some, None, Option, ◌==◌, nat_le, nat_lt}
use Rattle.std.specs.Option.{option_map, option_or}
use Rattle.network.specs.Estimates.{Estimate}
use Rattle.network.specs.First.{first_of, provided, onward}
use Rattle.network.specs.Model.{Roads}
use Rattle.rows.specs.Index.{entry_at}
use Rattle.rows.specs.declared.entry.Entry.{Entry}

-- the time of a row's first wanted entry
abbrev pub first_wanted : (ℕ → Bool) → List Entry → Option ℕ
first_wanted wanted [] = None
first_wanted wanted (x ∷ row) = elim (wanted x.site) [ true ↦ Some x.time | false ↦ first_wanted wanted row ]

-- that time, or that of the last entry where none is wanted and none of C is missing
unfoldable pub least_to : (C : ℕ) → (ℕ → Bool) → List Entry → Option ℕ
least_to C wanted row = option_or (first_wanted wanted row) (provided (length row == C) (entry_at row (C - 1)).time)

-- whether a wanted site stands at v
unfoldable pub wanted_at : Roads → (ℕ → Bool) → ℕ → Bool
wanted_at m wanted v = is_some (first_of (λ s. provided (m.place s == v && wanted s) s) m.sites)

-- A reading of the day and that time more, but at most the end of the reading's segment. Later it is the reading where a
-- wanted site stands, and else nothing.
unfoldable pub guided_estimate : Roads → (segment_at : ℕ → Option ℕ) → (segment_end : ℕ → ℕ) → (C : ℕ) → (rows : ℕ → ℕ → List Entry) → Estimate
guided_estimate m segment_at segment_end C rows v h wanted =
    elim (nat_lt v m.junctions) [
      | false ↦ None
      | true ↦ elim (nat_le h 86400) [
        | true ↦ onward (segment_at h) (λ i. option_map (λ t. min (h + t) (segment_end i)) (least_to C wanted (rows i v)))
        | false ↦ provided (wanted_at m wanted v) h
      ]
    ]
