-- An estimate as a command asks for it. Assumes nothing.
use Rattle.std.specs.Prelude.{ℕ, Bool, ◌&&◌, List, Option, ◌==◌, nat_lt}
use Rattle.std.specs.List.{list_any}
use Rattle.network.specs.Estimates.{Estimate}
use Rattle.network.specs.First.{onward}

-- whether a site is one of a list; there are at most 64 sites
abbrev pub named : List ℕ → ℕ → Bool
named sites s = nat_lt s 64 && list_any (λ x. x == s) sites

-- what is estimated where a reading is possible, with the sites of a list wanted
abbrev pub guessed : Estimate → (v : ℕ) → Option ℕ → (sites : List ℕ) → Option ℕ
guessed estimate v reading sites = onward reading (λ h. estimate v h (named sites))
