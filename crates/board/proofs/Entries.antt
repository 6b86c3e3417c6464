-- Which bays make a board, and the entries that it keeps. Assumes nothing.
use Rattle.std.proofs.Common.{◌≡◌, ℕ, ◌<◌, ◌≤◌, Bool, ◌&&◌, leb, List, [], map, length, get_or, take, Some, None, sym, ap, ◌∙◌, subst, arith}
use mathlib.Core.Path.{fun_ext}
use Rattle.std.proofs.Math.ListN.{get_or-map}
use Rattle.std.proofs.lemmas.List.{take_all}
use Rattle.std.proofs.lemmas.Bool.{false_from_ne_true, and_from, and_left, and_right, le-leb, lt-leb, leb-true}
use Rattle.network.specs.First.{every}
use Rattle.network.specs.Refused.{refusal}
use Rattle.network.specs.declared.refusals.Places.TheVariants.{Call as the_call}
use Rattle.network.proofs.First.{unless_true, unless_false, every_below, every_from}
use Rattle.board.specs.Held.{board_table}
use Rattle.board.specs.Promise.{Stands, StandsNew}
use Rattle.board.specs.Tables.{Table, first_state, board_refusal}
use Rattle.board.specs.declared.bays.SiteBays.{SiteBays}
use Rattle.board.specs.declared.board.Board.{Board}
use Rattle.board.proofs.Counting.{first_stands}

module _ (bays : List ℕ) where
  abbrev few : Bool
  few = leb (length bays) 64

  abbrev small : ℕ → Bool
  small s = leb (get_or bays s 0) 8

  pub too_many : 64 < length bays → board_refusal bays ≡ Some (refusal 13 the_call)
  unfolding board_refusal
  too_many l = unless_false (few && every small (length bays)) (refusal 13 the_call) (and_left few (every small (length bays)) (lt-leb (length bays) 64 l))

  pub too_large : (s : ℕ) → s < length bays → 8 < get_or bays s 0 → board_refusal bays ≡ Some (refusal 13 the_call)
  unfolding board_refusal
  too_large s l m =
      let none = false_from_ne_true (every small (length bays)) (λ e. let k = leb-true (get_or bays s 0) 8 (every_below small (length bays) e s l) in omega arith) in
      unless_false (few && every small (length bays)) (refusal 13 the_call) (and_right few (every small (length bays)) none)

  pub within_limits : length bays ≤ 64 → ((s : ℕ) → s < length bays → get_or bays s 0 ≤ 8) → board_refusal bays ≡ None
  unfolding board_refusal
  within_limits l m = unless_true (few && every small (length bays)) (refusal 13 the_call) (and_from few (every small (length bays)) (le-leb (length bays) 64 l) (every_from small (length bays) (λ s k. le-leb (get_or bays s 0) 8 (m s k))))

  -- the entries that are made so far: the sites below n, with every bay free
  pub record Made (entries : List SiteBays) (n : ℕ) : Type 0 where
    pub bays_are : map (λ s. s.bays) entries ≡ take n bays
    pub none_out : map (λ s. s.out) entries ≡ map (λ b. 0) (take n bays)
    pub each_small : (s : ℕ) → s < n → get_or bays s 0 ≤ 8

  -- a board over all of them is in its first state
  pub first_made : (b : Board) (n : ℕ) → length bays ≤ n → Made b.table.items n → board_table b ≡ first_state b.number bays
  unfolding board_table
  first_made b n l made =
      let all : take n bays ≡ bays = take_all n bays l in
      let same = made.bays_are ∙ all in
      let none : ◌≡◌ {A = ℕ → ℕ} (λ s. get_or (map (λ s. s.out) b.table.items) s 0) (λ s. 0) = fun_ext (λ s. ap (λ xs. get_or xs s 0) made.none_out ∙ get_or-map (λ b. 0) (take n bays) s 0) in
      λ i. record { number = b.number; bays = same i; out = none i }

pub made_stands : (number : ℕ) (bays : List ℕ) (t : Table) → t ≡ first_state number bays → StandsNew number bays t
made_stands number bays t g first e f = subst (Stands first []) (sym (g ∙ (λ i. first_state (sym e i) (sym f i)))) (first_stands first)
