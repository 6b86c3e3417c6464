-- What a tracing answers and writes, by heights. Assumes nothing.
use Rattle.std.specs.Prelude.{◌≡◌, ℕ, ◌≤◌, List, length, take, Some, Ok, Err, Result, slice_index, slice_index_or}
use Rattle.std.specs.Result.{result_map_both}
use Rattle.network.specs.Model.{Roads}
use Rattle.network.specs.Paths.{Path}
use Rattle.network.specs.declared.refusals.Refusal.{Refusal}
use Rattle.soonest.specs.Tracing.{Tracing, traced}

-- the way of a junction in a list of ways, 65535 for none
abbrev pub way_in : List ℕ → ℕ → ℕ
way_in ways v = slice_index_or ways v 65535

-- what is traced, with lists of these lengths
abbrev pub tracing : (from number to ways arcs : ℕ) → Tracing
tracing from number to ways arcs = record { from = from; number = number; to = to; ways = ways; arcs = arcs }

-- what a tracing by these lists answers
abbrev pub traced_by : Roads → (from number to : ℕ) → (ways arcs : List ℕ) → Result (List ℕ × ℕ) Refusal
traced_by m from number to ways arcs = traced m (way_in ways) (tracing from number to (length ways) (length arcs))

-- of the traced arcs only how many they are, and the reading
abbrev pub told : Result (List ℕ × ℕ) Refusal → Result (ℕ × ℕ) Refusal
told answer = result_map_both (λ t. (length t.0, t.1)) (λ r. r) answer

-- a list with some arcs in front, and every entry past them as it was
pub record InFront (arcs before after : List ℕ) : Type 0 where
  pub front : take (length arcs) after ≡ arcs
  pub rest : (i : ℕ) → length arcs ≤ i → slice_index after i ≡ slice_index before i

-- the traced arcs are in front of the list; where the tracing is refused, all of it is as it was
abbrev pub Written : Result (List ℕ × ℕ) Refusal → (before after : List ℕ) → Type 0
Written (Ok t) before after = InFront t.0 before after
Written (Err r) before after = after ≡ before

-- the arcs are a path from one junction, at the start reading of the number, to the other, and read q at its end
abbrev pub Drives : Roads → (from number to : ℕ) → List ℕ → ℕ → Type 0
Drives m from number to arcs q = (h : ℕ) × (m.start number ≡ Some h) × Path m from h arcs to q
