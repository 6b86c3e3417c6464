-- Which number a word writes.
use Rattle.std.specs.Prelude.{ℕ, ◌-◌, ◌^◌, Bool, cond, ◌&&◌, List, map, length, Ok, Err, Result, nat_le, nat_lt}
use Rattle.std.specs.List.{list_all}
use Rattle.std.specs.Int.Digits.{number_from_digits}
use Rattle.depot.specs.declared.fault.What.{What}
use Rattle.depot.specs.declared.fault.What.TheVariants.{NotANumber, TooLarge}

-- the bytes '0' to '9'
abbrev pub digit : ℕ → Bool
digit b = nat_le 48 b && nat_le b 57

-- each byte is a digit
abbrev pub digits : List ℕ → Bool
digits word = list_all digit word

-- one or more digits
abbrev pub whole : List ℕ → Bool
whole word = nat_lt 0 (length word) && digits word

-- the number that digits write in base ten
abbrev pub value : List ℕ → ℕ
value word = number_from_digits 10 (map (λ b. b - 48) word)

-- the whole number that a word writes, if it does and the number fits 32 bits
abbrev pub number_of : List ℕ → Result ℕ What
number_of word = cond (whole word) (cond (nat_lt (value word) (2 ^ 32)) (Ok (value word)) (Err TooLarge)) (Err NotANumber)
