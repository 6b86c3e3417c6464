-- What a line of commands says: other roads, or a command and its numbers. Assumes nothing.
use Rattle.std.specs.Prelude.{ℕ, Bool, true, false, cond, ◌⊎◌, List, [], ◌∷◌, Some, None, Ok, Err, Option, Result}
use Rattle.std.proofs.Common.{inl, inr}
use Rattle.console.specs.declared.kinds.Kind.{Kind}
use Rattle.console.specs.declared.messages.Misuse.{Misuse}
use Rattle.console.specs.declared.messages.Misuse.TheVariants.{NotACommand, NotAKind, Number, Takes}
use Rattle.console.specs.declared.verbs.Verb.{Verb}
use Rattle.console.specs.declared.verbs.Verb.TheVariants.{Roads}
use Rattle.console.specs.Verbs.{verb_name, verbs, kind_name, kinds}
use Rattle.depot.specs.Cuts.{code, words}
use Rattle.depot.specs.Entries.{numbers_in}
use Rattle.depot.specs.Entries as depots
use Rattle.depot.specs.Named.{find_named}

-- a word, and what is wrong with it
abbrev pub Wrong : Type 0
Wrong = List ℕ × Misuse

-- other roads, or a command and its numbers
abbrev pub Said : Type 0
Said = Kind ⊎ (Verb × List ℕ)

abbrev pub asks_for_roads : Verb → Bool
asks_for_roads Roads = true
asks_for_roads verb = false

-- a thing that a word names, or the word
abbrev pub named : {X : Type 0} → List ℕ → Misuse → Option X → Result X Wrong
named word misuse (Some x) = Ok x
named word misuse None = Err (word, misuse)

-- the kind that the one word after a name names; where there is no word or another one, it is the name that is wrong
abbrev pub kind_in : List ℕ → List (List ℕ) → Result Kind Wrong
kind_in name [] = Err (name, Takes Roads)
kind_in name (word ∷ []) = named word NotAKind (find_named kind_name kinds word)
kind_in name (word ∷ other ∷ rest) = Err (name, Takes Roads)

abbrev pub roads : Result Kind Wrong → Result (Option Said) Wrong
roads (Ok kind) = Ok (Some (inl kind))
roads (Err wrong) = Err wrong

abbrev pub call : Verb → Result (List ℕ) depots.Wrong → Result (Option Said) Wrong
call verb (Ok numbers) = Ok (Some (inr (verb, numbers)))
call verb (Err wrong) = Err (wrong.0, Number wrong.1)

-- what a verb and the words after its name say
abbrev pub after : List ℕ → List (List ℕ) → Result Verb Wrong → Result (Option Said) Wrong
after name rest (Ok verb) = cond (asks_for_roads verb) (roads (kind_in name rest)) (call verb (numbers_in rest))
after name rest (Err wrong) = Err wrong

abbrev pub command : List (List ℕ) → Result (Option Said) Wrong
command [] = Ok None
command (name ∷ rest) = after name rest (named name NotACommand (find_named verb_name verbs name))

-- what a line says, nothing where it has no word; or its first wrong word
abbrev pub command_of : List ℕ → Result (Option Said) Wrong
command_of line = command (words (code line))
