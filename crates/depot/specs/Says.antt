-- What a result of the reader says, by the items of its vectors.
use Rattle.std.specs.Prelude.{◌≡◌, ℕ, List, Ok, Err, vec_items, Result}
use Rattle.depot.specs.declared.fault.What.{What}
use Rattle.depot.specs.declared.fault.WordFault.{WordFault}
use Rattle.depot.specs.declared.fault.TextFault.{TextFault}
use Rattle.depot.specs.declared.fault.TextFault.TheVariants as fault
use Rattle.depot.specs.Entries.{Wrong}

-- the fault names this word, unless there was no memory to hold it
abbrev pub Blames : TextFault WordFault → List ℕ → What → Type 0
Blames fault.Memory word what = Unit {0}
Blames (fault.Wrong f) word what = (vec_items f.word ≡ word) × (f.what ≡ what)

-- r says m, where f tells what a value says, and g what a fault says; of want of memory nothing more is said
abbrev pub Tells : {T W X Y : Type 0} → (T → X) → (W → Y) → Result T (TextFault W) → Result X Y → Type 0
Tells f g (Ok x) m = m ≡ Ok (f x)
Tells f g (Err fault.Memory) m = Unit {0}
Tells f g (Err (fault.Wrong w)) m = m ≡ Err (g w)

-- the word of a fault, and what is wrong with it
abbrev pub wrong : WordFault → Wrong
wrong f = (vec_items f.word, f.what)

-- the same, of one line
abbrev pub Says : {T X : Type 0} → (T → X) → Result T (TextFault WordFault) → Result X Wrong → Type 0
Says f r m = Tells f wrong r m
