-- What the words after the program's name ask for. Assumes nothing.
use Rattle.std.specs.Prelude.{ℕ, Bool, true, false, cond, List, [], ◌∷◌, Some, None, Ok, Err, Option, Result, codes, ◌==◌}
use Rattle.std.specs.Str.{bytes_eq}
use Rattle.console.specs.declared.kinds.Kind.{Kind}
use Rattle.console.specs.Verbs.{kind_name, kinds}
use Rattle.depot.specs.Named.{find_named}

-- what the words so far ask for
pub record Asked : Type 0 where
  pub help : Bool
  pub times : Bool
  pub depot : Option (List ℕ)
  pub kind : Option Kind

abbrev pub nothing_asked : Asked
nothing_asked = record { help = false; times = false; depot = None; kind = None }

-- whether a word begins with a dash, so that it is no depot
abbrev pub dashed : List ℕ → Bool
dashed [] = false
dashed (b ∷ bs) = b == 45

-- the kind that a word names, or the word
abbrev pub with_kind : Asked → List ℕ → Option Kind → Result Asked (List ℕ)
with_kind a word (Some kind) = Ok (record a { kind = Some kind })
with_kind a word None = Err word

-- a word after the depot is a kind of roads, and there is one at most
abbrev pub after_depot : Asked → List ℕ → Option Kind → Result Asked (List ℕ)
after_depot a word None = with_kind a word (find_named kind_name kinds word)
after_depot a word (Some kind) = Err word

-- the first word that is no option is the depot
abbrev pub placed : Asked → List ℕ → Option (List ℕ) → Result Asked (List ℕ)
placed a word None = Ok (record a { depot = Some word })
placed a word (Some depot) = after_depot a word a.kind

-- what is asked with one word more, or the word where it is not understood
abbrev pub with_word : Asked → List ℕ → Result Asked (List ℕ)
with_word a word =
    cond (bytes_eq word (codes "--help")) (Ok (record a { help = true }))
    (cond (bytes_eq word (codes "--times")) (Ok (record a { times = true }))
    (cond (dashed word) (Err word) (placed a word a.depot)))
