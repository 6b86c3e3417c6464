-- How a text is cut into lines, and a line into words.
use Rattle.std.specs.Prelude.{ℕ, Bool, cond, not, ◌||◌, List, [], ◌∷◌, drop, take, ◌==◌}
use Rattle.std.specs.List.{prefix_len, onto_first}

-- the lines of a text: a newline ends a line, and a last line may do without
abbrev pub lines : List ℕ → List (List ℕ)
lines [] = []
lines (b ∷ bs) = cond (b == 10) ([] ∷ lines bs) (onto_first b (lines bs))

-- how many bytes come before the first c, or before the end
abbrev pub before : ℕ → List ℕ → ℕ
before c bs = prefix_len (λ b. not (b == c)) bs

-- a line without its comment, which begins at the first '#'
abbrev pub code : List ℕ → List ℕ
code line = take (before 35 line) line

-- space, tab and carriage return
abbrev pub blank : ℕ → Bool
blank b = b == 32 || (b == 9 || b == 13)

-- b put in front of the word that rest begins with, or a word by itself where rest begins with a blank or ends
abbrev pub begun : ℕ → List ℕ → List (List ℕ) → List (List ℕ)
begun b [] ws = (b ∷ []) ∷ ws
begun b (c ∷ rest) ws = cond (blank c) ((b ∷ []) ∷ ws) (onto_first b ws)

-- the words of some bytes: the longest runs of bytes that are not blank
abbrev pub words : List ℕ → List (List ℕ)
words [] = []
words (b ∷ bs) = cond (blank b) (words bs) (begun b bs (words bs))

-- some bytes without the blanks that they begin with
abbrev pub unblanked : List ℕ → List ℕ
unblanked bs = drop (prefix_len blank bs) bs

-- what follows the first word of some bytes
abbrev pub past_word : List ℕ → List ℕ
past_word bs = drop (prefix_len (λ b. not (blank b)) (unblanked bs)) (unblanked bs)
