-- What the words after a name say: numbers.
use Rattle.std.specs.Prelude.{ℕ, List, [], ◌∷◌, Ok, Err, Result}
use Rattle.depot.specs.declared.fault.What.{What}
use Rattle.depot.specs.Numbers.{number_of}

-- a word, and what is wrong with it
abbrev pub Wrong : Type 0
Wrong = List ℕ × What

-- a number put in front of those that follow it
abbrev pub put_first : ℕ → Result (List ℕ) Wrong → Result (List ℕ) Wrong
put_first n (Ok ns) = Ok (n ∷ ns)
put_first n (Err wrong) = Err wrong

-- the word w read as a number, and then those that follow it
abbrev pub read_first : List ℕ → Result ℕ What → Result (List ℕ) Wrong → Result (List ℕ) Wrong
read_first w (Ok n) rest = put_first n rest
read_first w (Err what) rest = Err (w, what)

-- the numbers that words write, or the first word that writes none
abbrev pub numbers_in : List (List ℕ) → Result (List ℕ) Wrong
numbers_in [] = Ok []
numbers_in (w ∷ ws) = read_first w (number_of w) (numbers_in ws)
