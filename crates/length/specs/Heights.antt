-- Readings of length roads by their heights. Assumes nothing.
use Rattle.std.specs.Prelude.{◌≡◌, ℕ, ◌+◌, ◌*◌, ◌/◌, ◌%◌, ◌<◌, ◌≤◌, min, List, length, Some, None, Option, slice_index, refl}
use Rattle.std.proofs.Common.{ap, arith}
use Rattle.std.specs.Option.{option_map}
use Rattle.std.proofs.lemmas.Nat.{div-mul-add, mod-mul-add}
use Rattle.std.proofs.lemmas.Bool.Decides.{nat_tests}
use Rattle.length.specs.Travel.{told}
use Rattle.length.specs.declared.travelled.Travelled.{Travelled}
use Rattle.length.specs.Readings.{Reading, height_of, reading_of, longer, one_more, carried, by_heights}

-- a reading is the reading of its height
same_reading : (r : Reading) → r.1 < 65536 → reading_of (height_of r) ≡ r
same_reading r l = λ i. (div-mul-add r.0 65536 r.1 l i, mod-mul-add r.0 65536 r.1 l i)

pub by_heights_at : (f : Reading → Option Reading) (r : Reading) → r.1 ≤ 65535 → by_heights f (height_of r) ≡ option_map height_of (f r)
unfolding by_heights
by_heights_at f r l = ap (λ s. option_map height_of (f s)) (same_reading r (omega arith))

pub longer_says : (u h q : ℕ) → by_heights (longer u) h ≡ Some q → (h / 65536 + u ≤ 4000000000) × (q ≡ (h / 65536 + u) * 65536 + h % 65536)
unfolding by_heights
longer_says u h q e = (grind (arith, nat_tests), grind (arith, nat_tests))

pub longer_from : (u h : ℕ) → h / 65536 + u ≤ 4000000000 → by_heights (longer u) h ≡ Some ((h / 65536 + u) * 65536 + h % 65536)
unfolding by_heights
longer_from u h l = grind (arith, nat_tests)

pub carried_nowhere : (metres : List ℕ) (a h : ℕ) → length metres ≤ a → by_heights (carried metres a) h ≡ None
unfolding by_heights
carried_nowhere metres a h l = grind (arith, nat_tests)

pub carried_there : (metres : List ℕ) (a : ℕ) (r : Reading) → a < length metres → carried metres a r ≡ longer (slice_index metres a) (one_more r)
carried_there metres a r l = grind (arith, nat_tests)

pub carried_says : (metres : List ℕ) (a h q : ℕ) → by_heights (carried metres a) h ≡ Some q → (a < length metres) × (h / 65536 + slice_index metres a ≤ 4000000000) × (q ≡ (h / 65536 + slice_index metres a) * 65536 + min (h % 65536 + 1) 65535)
unfolding by_heights
carried_says metres a h q e = (grind (arith, nat_tests), grind (arith, nat_tests), grind (arith, nat_tests))

pub carried_from : (metres : List ℕ) (a h : ℕ) → a < length metres → h / 65536 + slice_index metres a ≤ 4000000000 → by_heights (carried metres a) h ≡ Some ((h / 65536 + slice_index metres a) * 65536 + min (h % 65536 + 1) 65535)
unfolding by_heights
carried_from metres a h l m = grind (arith, nat_tests)

-- the height of what a reading of the code says
pub mapped_told : (o : Option Travelled) → option_map (λ r. height_of (told r)) o ≡ option_map height_of (option_map told o)
mapped_told None = refl
mapped_told (Some r) = refl
