-- What metres that are not refused keep, and `every` as `list_all`. Assumes nothing.
use Rattle.std.specs.Prelude.{◌≡◌, ℕ, zero, suc, ◌-◌, ◌<◌, ◌≤◌, Bool, true, ◌&&◌, List, length, take, None, nat_le, slice_index, refl}
use Rattle.std.specs.List.{list_all}
use Rattle.std.proofs.Common.{sym, ap, ◌∙◌, add-one, arith}
use Rattle.std.proofs.lemmas.List.{take_all}
use Rattle.std.proofs.lemmas.List.Folds.{list_all_more}
use Rattle.std.proofs.lemmas.Bool.Decides.{nat_tests}
use Rattle.network.specs.First.{every}
use Rattle.network.specs.Lists.{arcs_refusal, sites_refusal}
use Rattle.network.proofs.First.{every_below}
use Rattle.length.specs.Metres.{measured, table_refusal}
use Rattle.length.specs.Tables.{Tables}

pub record Measured (arcs : ℕ) (metres : List ℕ) : Type 0 where
  pub count : length metres ≡ arcs
  pub some : (a : ℕ) → a < length metres → 1 ≤ slice_index metres a
  pub few : (a : ℕ) → a < length metres → slice_index metres a ≤ 1000000

module _ (arcs : ℕ) (metres : List ℕ) where
  abbrev pub fits : ℕ → Bool
  fits a = nat_le 1 (slice_index metres a) && nat_le (slice_index metres a) 1000000

  pub measured_says : measured arcs metres ≡ true → Measured arcs metres
  unfolding measured
  measured_says e =
      let each : every fits (length metres) ≡ true = grind (arith, nat_tests) in
      record {
        count = grind (arith, nat_tests);
        some = λ a l. let one = every_below fits (length metres) each a l in grind (arith, nat_tests);
        few = λ a l. let one = every_below fits (length metres) each a l in grind (arith, nat_tests);
      }

-- tables that are not refused pass all three checks
pub table_says : (t : Tables) → table_refusal t ≡ None → (arcs_refusal t.starts t.heads ≡ None) × (measured (length t.heads) t.metres ≡ true) × (sites_refusal (length t.starts - 1) t.sites ≡ None)
unfolding table_refusal
table_says t e = (grind arith, grind arith, grind arith)

-- `every` at a list's places is `list_all` of the list
module _ (p : ℕ → Bool) (xs : List ℕ) where
  so_far : (n : ℕ) → n ≤ length xs → list_all p (take n xs) ≡ every (λ i. p (slice_index xs i)) n
  unfolding every
  so_far zero l = refl
  so_far (suc n) l = ap (λ k. list_all p (take k xs)) (sym (add-one n)) ∙ list_all_more p xs n 0 (omega arith) ∙ ap (λ b. b && p (slice_index xs n)) (so_far n (omega arith))

  pub all_is_every : list_all p xs ≡ every (λ i. p (slice_index xs i)) (length xs)
  all_is_every = ap (list_all p) (sym (take_all (length xs) xs (omega arith))) ∙ so_far (length xs) (omega arith)
