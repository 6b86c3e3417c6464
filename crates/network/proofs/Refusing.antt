-- What lists that are not refused keep. Assumes nothing.
use Rattle.std.proofs.Common.{◌≡◌, ℕ, ◌+◌, ◌-◌, ◌<◌, ◌≤◌, Bool, true, false, ◌&&◌, ltb, leb, List, length, get_or, is_some, Some, None, vec_items, Option, sym, refl, cond, position, MatchBool, arith}
use Rattle.std.specs.List.{position_or_len}
use Rattle.std.specs.Option.{option_map}
use Rattle.std.proofs.lemmas.Bool.Decides.{nat_tests}
use Rattle.std.proofs.lemmas.Bool.{false_from_ne_true, leb-true, leb-false, ltb-true, ltb-false, le-leb, le-ltb, lt-ltb}
use Rattle.std.proofs.lemmas.List.Sums.{fails_before_first, passes_at_first}
use Rattle.network.specs.declared.lists.Streets.{Streets}
use Rattle.network.specs.declared.refusals.Places.TheVariants.{Call, One}
use Rattle.network.specs.declared.refusals.Refusal.{Refusal}
use Rattle.network.specs.First.{first_of, every, unless}
use Rattle.network.specs.Lists.{runs, arcs_refusal, sites_refusal}
use Rattle.network.specs.Refused.{refusal}
use Rattle.network.proofs.First.{none_below, every_below, every_from, first_none, first_at, unless_true, unless_false}

-- a list that runs from 0 to `last` in steps of at least `step`
pub record Runs (list : List ℕ) (step last : ℕ) : Type 0 where
  pub some : 0 < length list
  pub from : get_or list 0 0 ≡ 0
  pub to : get_or list (length list - 1) 0 ≡ last
  pub steps : (i : ℕ) → i < length list - 1 → get_or list i 0 + step ≤ get_or list (i + 1) 0

pub runs_says : (list : List ℕ) (step last : ℕ) → runs list step last ≡ true → Runs list step last
unfolding runs
runs_says list step last e =
    let rise : ℕ → Bool = λ i. leb (get_or list i 0 + step) (get_or list (i + 1) 0) in
    let all : every rise (length list - 1) ≡ true = grind (arith, nat_tests) in
    record {
      some = grind (arith, nat_tests);
      from = grind (arith, nat_tests);
      to = grind (arith, nat_tests);
      steps = λ i l. let one = every_below rise (length list - 1) all i l in grind (arith, nat_tests);
    }

-- arc starts and heads that are not refused
pub record Arcs (starts heads : List ℕ) : Type 0 where
  pub two : 2 ≤ length starts
  pub few : length starts ≤ 4097
  pub run : Runs starts 0 (length heads)
  pub few_heads : length heads ≤ 16384
  pub within : (a : ℕ) → a < length heads → get_or heads a 0 < length starts - 1

pub arcs_say : (starts heads : List ℕ) → is_some (arcs_refusal starts heads) ≡ false → Arcs starts heads
unfolding arcs_refusal
arcs_say starts heads e =
    let at = λ (a : ℕ). unless (ltb (get_or heads a 0) (length starts - 1)) (refusal 3 (One a)) in
    let run : runs starts 0 (length heads) ≡ true = grind (arith, nat_tests) in
    let none : first_of at (length heads) ≡ None = grind (arith, nat_tests) in
    record {
      two = grind (arith, nat_tests);
      few = grind (arith, nat_tests);
      run = runs_says starts 0 (length heads) run;
      few_heads = grind (arith, nat_tests);
      within = λ i l. let here = none_below at (length heads) none i l in grind (arith, nat_tests);
    }

pub streets_arcs : (s : Streets) → Arcs (vec_items s.starts) (vec_items s.heads)
streets_arcs s = arcs_say (vec_items s.starts) (vec_items s.heads) s.arcs

-- sites that are not refused
pub record Sited (junctions : ℕ) (sites : List ℕ) : Type 0 where
  pub few : length sites ≤ 64
  pub within : (s : ℕ) → s < length sites → get_or sites s 0 < junctions

pub sites_say : (junctions : ℕ) (sites : List ℕ) → is_some (sites_refusal junctions sites) ≡ false → Sited junctions sites
unfolding sites_refusal
sites_say junctions sites e =
    let at = λ (s : ℕ). unless (ltb (get_or sites s 0) junctions) (refusal 8 (One s)) in
    let none : first_of at (length sites) ≡ None = grind (arith, nat_tests) in
    record {
      few = grind (arith, nat_tests);
      within = λ s l. let here = none_below at (length sites) none s l in grind (arith, nat_tests);
    }

pub streets_sites : (s : Streets) → Sited (length (vec_items s.starts) - 1) (vec_items s.sites)
streets_sites s = sites_say (length (vec_items s.starts) - 1) (vec_items s.sites) s.sited

-- and the other way round: which answer each fault gets
pub runs_from : (list : List ℕ) (step last : ℕ) → Runs list step last → runs list step last ≡ true
unfolding runs
runs_from list step last r =
    let rise : ℕ → Bool = λ i. leb (get_or list i 0 + step) (get_or list (i + 1) 0) in
    let all : every rise (length list - 1) ≡ true = every_from rise (length list - 1) (λ i l. le-leb (get_or list i 0 + step) (get_or list (i + 1) 0) (r.steps i l)) in
    let some = r.some in
    let from = r.from in
    let to = r.to in
    grind (arith, nat_tests)

pub not_runs : (list : List ℕ) (step last : ℕ) → (Runs list step last → ⊥) → runs list step last ≡ false
not_runs list step last h = false_from_ne_true (runs list step last) (λ e. h (runs_says list step last e))

module _ (starts heads : List ℕ) where
  abbrev pub head_at : ℕ → Option Refusal
  head_at a = unless (ltb (get_or heads a 0) (length starts - 1)) (refusal 3 (One a))

  pub arcs_miscounted : (2 ≤ length starts → length starts ≤ 4097 → ⊥) → arcs_refusal starts heads ≡ Some (refusal 1 Call)
  unfolding arcs_refusal
  arcs_miscounted h =
      let e : (leb 2 (length starts) && leb (length starts) 4097) ≡ false = false_from_ne_true _ (λ t. h (grind (arith, nat_tests)) (grind (arith, nat_tests))) in
      rw e

  pub arcs_misrun : 2 ≤ length starts → length starts ≤ 4097 → (runs starts 0 (length heads) ≡ true → length heads ≤ 16384 → ⊥) → arcs_refusal starts heads ≡ Some (refusal 2 Call)
  unfolding arcs_refusal
  arcs_misrun l m h =
      let e : (runs starts 0 (length heads) && leb (length heads) 16384) ≡ false = false_from_ne_true _ (λ t. h (grind (arith, nat_tests)) (grind (arith, nat_tests))) in
      grind (arith, nat_tests)

  pub arcs_then : 2 ≤ length starts → length starts ≤ 4097 → runs starts 0 (length heads) ≡ true → length heads ≤ 16384 → arcs_refusal starts heads ≡ first_of head_at (length heads)
  unfolding arcs_refusal
  arcs_then l m r k = grind (arith, nat_tests)

module _ (junctions : ℕ) (sites : List ℕ) where
  abbrev pub site_at : ℕ → Option Refusal
  site_at s = unless (ltb (get_or sites s 0) junctions) (refusal 8 (One s))

  pub sites_many : 64 < length sites → sites_refusal junctions sites ≡ Some (refusal 8 (One 64))
  unfolding sites_refusal
  sites_many l = grind (arith, nat_tests)

  pub sites_then : length sites ≤ 64 → sites_refusal junctions sites ≡ first_of site_at (length sites)
  unfolding sites_refusal
  sites_then l = grind (arith, nat_tests)

-- the answer of a whole run over the steps
pub runs_where : (list : List ℕ) (step last : ℕ) (r : Bool) → 0 < length list → get_or list 0 0 ≡ 0 → get_or list (length list - 1) 0 ≡ last
    → MatchBool r ((i : ℕ) → i + 1 < length list → get_or list i 0 + step ≤ get_or list (i + 1) 0) ((i : ℕ) × (i + 1 < length list) × (get_or list (i + 1) 0 < get_or list i 0 + step))
    → r ≡ runs list step last
runs_where list step last true l f t m = sym (runs_from list step last (record {
  some = l;
  from = f;
  to = t;
  steps = λ i k. m i (omega arith);
}))
runs_where list step last false l f t m = sym (not_runs list step last (λ r. let s = r.steps m.0 (omega arith) in omega arith))

-- the first number that is not below a bound, where each place would answer
module _ {X : Type 0} (numbers : List ℕ) (bound : ℕ) (answer : ℕ → X) where
  abbrev past : ℕ → Bool
  past n = leb bound n

  abbrev at : ℕ → Option X
  at i = unless (ltb (get_or numbers i 0) bound) (answer i)

  quiet : (i : ℕ) → i < position_or_len past numbers → at i ≡ None
  quiet i l = unless_true (ltb (get_or numbers i 0) bound) (answer i) (lt-ltb (get_or numbers i 0) bound (leb-false bound (get_or numbers i 0) (fails_before_first past numbers i 0 l)))

  pub first_past : first_of at (length numbers) ≡ option_map answer (position past numbers)
  first_past = let n = position_or_len past numbers in
      elim (ltb n (length numbers)) as (λ b. ltb n (length numbers) ≡ b → first_of at (length numbers) ≡ option_map answer (cond b (Some n) None)) [
        | true ↦ λ e. let l = ltb-true n (length numbers) e in first_at at (length numbers) n (answer n) l quiet (unless_false (ltb (get_or numbers n 0) bound) (answer n) (le-ltb (get_or numbers n 0) bound (leb-true bound (get_or numbers n 0) (passes_at_first past numbers 0 l))))
        | false ↦ λ e. first_none at (length numbers) (λ i l. quiet i (let m = ltb-false n (length numbers) e in omega arith))
      ] refl
