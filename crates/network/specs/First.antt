-- Questions put to 0, 1, 2 and so on in turn, and the first that answers. Assumes nothing.
use Rattle.std.specs.Prelude.{ℕ, zero, suc, Bool, true, false, ◌&&◌, Some, None, Option}
use Rattle.std.specs.Option.{option_or}

-- the first answer of f at the numbers below n, in rising order
unfoldable pub first_of : {X : Type 0} → (ℕ → Option X) → ℕ → Option X
first_of f zero = None
first_of f (suc n) = option_or (first_of f n) (f n)

-- whether a test passes at every number below n
unfoldable pub every : (ℕ → Bool) → ℕ → Bool
every p zero = true
every p (suc n) = every p n && p n

-- an answer where the test fails
abbrev pub unless : {X : Type 0} → Bool → X → Option X
unless true x = None
unless false x = Some x

-- an answer where the test passes
abbrev pub provided : {X : Type 0} → Bool → X → Option X
provided true x = Some x
provided false x = None

-- the answer of g at the answer of o
abbrev pub onward : {X Y : Type 0} → Option X → (X → Option Y) → Option Y
onward None g = None
onward (Some x) g = g x
