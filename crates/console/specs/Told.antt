-- What the results of reading a command say, by the items of their vectors.
use Rattle.std.specs.Prelude.{◌≡◌, ℕ, List, Some, None, vec_items, Option}
use Rattle.std.proofs.Common.{inl, inr}
use Rattle.console.specs.declared.commands.Command.{Command}
use Rattle.console.specs.declared.commands.Command.TheVariants.{Roads, Call}
use Rattle.console.specs.declared.messages.Misuse.{Misuse}
use Rattle.console.specs.declared.messages.Misuse.TheVariants.{Number}
use Rattle.console.specs.declared.messages.Misused.{Misused}
use Rattle.depot.specs.declared.fault.WordFault.{WordFault}
use Rattle.depot.specs.declared.fault.TextFault.{TextFault}
use Rattle.depot.specs.declared.fault.TextFault.TheVariants as fault
use Rattle.console.specs.Commands.{Said, Wrong}

abbrev pub told : Option Command → Option Said
told None = None
told (Some (Roads kind)) = Some (inl kind)
told (Some (Call verb numbers)) = Some (inr (verb, vec_items numbers))

-- the word of a fault, and what is wrong with it
abbrev pub blamed : Misused → Wrong
blamed m = (vec_items m.word, m.misuse)

-- the fault names this word, unless there was no memory to hold it
abbrev pub Blames : TextFault Misused → List ℕ → Misuse → Type 0
Blames fault.Memory word misuse = Unit {0}
Blames (fault.Wrong m) word misuse = (vec_items m.word ≡ word) × (m.misuse ≡ misuse)

-- the fault of a word that should be a number
abbrev pub misread : TextFault WordFault → TextFault Misused
misread fault.Memory = fault.Memory
misread (fault.Wrong f) = fault.Wrong (record { word = f.word; misuse = Number f.what })
