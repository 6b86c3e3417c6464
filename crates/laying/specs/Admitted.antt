-- What is refused of laying an index. Assumes nothing.
use Rattle.std.specs.Prelude.{ℕ, ◌*◌, Bool, ◌&&◌, List, length, Option, ◌==◌, nat_le}
use Rattle.std.specs.Option.{option_or}
use Rattle.network.specs.First.{unless}
use Rattle.network.specs.Refused.{refusal}
use Rattle.network.specs.declared.refusals.Places.TheVariants.{Call}
use Rattle.network.specs.declared.refusals.Refusal.{Refusal}
use Rattle.least.specs.Segments.{day_refusal}

-- whether an index has 1 to 8 entries to a row, and lists of just these lengths, over so many junctions
abbrev pub lists_fit : (segments n C sites times : ℕ) → Bool
lists_fit segments n C sites times = nat_le 1 C && nat_le C 8 && sites == segments * n * C && times == segments * n * C

-- what refuses an index of C entries to a row over n junctions, in lists and a work list of these lengths, if anything
unfoldable pub lay_refusal : (n : ℕ) → (firsts : List ℕ) → (C sites times work : ℕ) → Option Refusal
lay_refusal n firsts C sites times work =
    option_or (day_refusal firsts)
    (option_or (unless (lists_fit (length firsts) n C sites times) (refusal 10 Call))
    (unless (nat_le (n * C) work) (refusal 17 Call)))
