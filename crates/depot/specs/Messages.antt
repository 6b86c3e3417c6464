-- How a fault is told to a reader.
use Rattle.std.specs.Prelude.{ℕ, List, codes}
use Rattle.depot.specs.declared.fault.What.{What}
use Rattle.depot.specs.declared.fault.What.TheVariants.{NotANumber, TooLarge, UnknownWord, SecondNumber}

-- what is said of a word
abbrev pub said : What → List ℕ
said NotANumber = codes "is not a whole number"
said TooLarge = codes "does not fit 32 bits"
said UnknownWord = codes "is not a list of a depot"
said SecondNumber = codes "is one number too many"
