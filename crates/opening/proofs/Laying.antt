-- An index that is laid into lists as long as it is: what refuses it, and that loading takes it. Assumes nothing.
use Rattle.std.proofs.Common.{◌≡◌, ℕ, ◌*◌, ◌≤◌, Bool, true, false, ◌&&◌, eqb, leb, List, length, Some, None, Option, Ok, Err, Result, refl, sym, ap, subst, ◌∙◌, arith}
use Rattle.std.specs.Option.{option_map, option_or}
use Rattle.std.proofs.Math.Nat.{mul_assoc}
use Rattle.std.proofs.lemmas.Bool.{le-leb}
use Rattle.std.proofs.lemmas.Bool.Decides.{nat_tests}
use Rattle.clock.specs.Held as clocks
use Rattle.clock.specs.Points.{table_refusal}
use Rattle.clock.specs.Tables.{Tables}
use Rattle.clock.specs.Model.{clock_roads}
use Rattle.opening.specs.Guided.{index_refusal, Laid, OfDepot}
use Rattle.console.specs.Kinds.{clock_tables}
use Rattle.depot.specs.Depots as depots
use Rattle.guided.specs.Faults.{differs}
use Rattle.guided.specs.Lists.{Lists, network_of, arc_times, difference_from}
use Rattle.guided.specs.Loads.{early_refusal, Loads}
use Rattle.laying.specs.Admitted.{lay_refusal, lists_fit}
use Rattle.least.specs.Segments.{cuts_day}
use Rattle.least.specs.Times.{least_in_segment}
use Rattle.least.proofs.Cuts.{whole_says}
use Rattle.network.specs.First.{unless}
use Rattle.network.specs.Refused.{answered, refusal}
use Rattle.network.specs.declared.refusals.Places.TheVariants.{Call}
use Rattle.network.specs.declared.refusals.Refusal.{Refusal}
use Rattle.network.proofs.First.{unless_true, unless_false}
use Rattle.rows.specs.Index.{LeastIndex}
use Rattle.rows.proofs.Differing.{none_if_index}

fits : (C sites times size : ℕ) → (C ≤ 8 → sites ≡ size) → (C ≤ 8 → times ≡ size) → (leb 1 C && leb C 8) ≡ true → (leb 1 C && leb C 8 && eqb sites size && eqb times size) ≡ true
fits C sites times size s t e =
    let few : C ≤ 8 = grind (arith, nat_tests) in
    let a = s few in
    let b = t few in
    grind (arith, nat_tests)

fits_not : (C sites times size : ℕ) → (leb 1 C && leb C 8) ≡ false → (leb 1 C && leb C 8 && eqb sites size && eqb times size) ≡ false
fits_not C sites times size e = grind (arith, nat_tests)

-- what is taken is not refused
pub taken : {X Y A : Type 0} (x : X) (y : Y) → ◌≡◌ {A = Result X Y} (Ok x) (Err y) → A
taken x y e = let z : ◌≡◌ {A = ℕ} 0 1 = cc in absurd (omega arith)

module _ (firsts : List ℕ) (n C sites times work : ℕ) where
  -- the lists and the work list have just the length that is wanted, where there may be so many segments and entries
  pub record Room : Type 0 where
    pub sites_long : length firsts ≤ 8 → C ≤ 8 → sites ≡ length firsts * n * C
    pub times_long : length firsts ≤ 8 → C ≤ 8 → times ≡ length firsts * n * C
    pub work_long : C ≤ 8 → work ≡ n * C

  -- so do lists that are made for f segments, where f is how many there are or there are too many
  pub room_from : (f : ℕ) → (length firsts ≤ 8 → f ≡ length firsts) → (C ≤ 8 → work ≡ n * C) → sites ≡ f * work → times ≡ f * work → Room
  room_from f few some s t =
      let product : length firsts ≤ 8 → C ≤ 8 → f * work ≡ length firsts * n * C = λ l k. ap (λ a. a * work) (few l) ∙ ap (λ b. length firsts * b) (some k) ∙ sym (mul_assoc (length firsts) n C) in
      record { sites_long = λ l k. s ∙ product l k; times_long = λ l k. t ∙ product l k; work_long = some }

  module _ (r : Room) where
    late : length firsts ≤ 8 → option_or (unless (lists_fit (length firsts) n C sites times) (refusal 10 Call)) (unless (leb (n * C) work) (refusal 17 Call)) ≡ unless (leb 1 C && leb C 8) (refusal 10 Call)
    late few = go (leb 1 C && leb C 8) refl
      where
        go : (b : Bool) → (leb 1 C && leb C 8) ≡ b → option_or (unless (lists_fit (length firsts) n C sites times) (refusal 10 Call)) (unless (leb (n * C) work) (refusal 17 Call)) ≡ unless (leb 1 C && leb C 8) (refusal 10 Call)
        go true e =
            let small : C ≤ 8 = grind (arith, nat_tests) in
            let enough = r.work_long small in
            ap (λ o. option_or o (unless (leb (n * C) work) (refusal 17 Call))) (unless_true (lists_fit (length firsts) n C sites times) (refusal 10 Call) (fits C sites times (length firsts * n * C) (r.sites_long few) (r.times_long few) e))
            ∙ unless_true (leb (n * C) work) (refusal 17 Call) (le-leb (n * C) work (omega arith))
            ∙ sym (unless_true (leb 1 C && leb C 8) (refusal 10 Call) e)
        go false e =
            ap (λ o. option_or o (unless (leb (n * C) work) (refusal 17 Call))) (unless_false (lists_fit (length firsts) n C sites times) (refusal 10 Call) (fits_not C sites times (length firsts * n * C) e))
            ∙ sym (unless_false (leb 1 C && leb C 8) (refusal 10 Call) e)

    -- so it is refused for its segments or its entries alone
    pub room_refused : lay_refusal n firsts C sites times work ≡ index_refusal firsts C
    unfolding lay_refusal
    room_refused = go (cuts_day firsts) refl
      where
        go : (b : Bool) → cuts_day firsts ≡ b → lay_refusal n firsts C sites times work ≡ index_refusal firsts C
        go true e =
            let none = unless_true (cuts_day firsts) (refusal 9 Call) e in
            ap (λ o. option_or o (option_or (unless (lists_fit (length firsts) n C sites times) (refusal 10 Call)) (unless (leb (n * C) work) (refusal 17 Call)))) none
            ∙ late (whole_says firsts e).few
            ∙ sym (ap (λ o. option_or o (unless (leb 1 C && leb C 8) (refusal 10 Call))) none)
        go false e =
            let some = unless_false (cuts_day firsts) (refusal 9 Call) e in
            ap (λ o. option_or o (option_or (unless (lists_fit (length firsts) n C sites times) (refusal 10 Call)) (unless (leb (n * C) work) (refusal 17 Call)))) some
            ∙ sym (ap (λ o. option_or o (unless (leb 1 C && leb C 8) (refusal 10 Call))) some)

module _ (x : Lists) (room : ℕ) where
  -- what laying does not refuse, loading does not refuse early
  pub quiet_from : table_refusal x.tables ≡ None → lay_refusal (network_of x).junctions x.segments x.nearest (length x.sites) (length x.times) room ≡ None → early_refusal x room ≡ None
  unfolding early_refusal
  quiet_from t l = ap (λ o. option_or o (lay_refusal (network_of x).junctions x.segments x.nearest (length x.sites) (length x.times) room)) t ∙ l

  -- and it takes the index of least times
  pub loaded : early_refusal x room ≡ None → LeastIndex (network_of x) (length x.segments) x.nearest (arc_times x) x.sites x.times → (answer : Result Lists (Refusal × Lists)) → Loads x room answer → answer ≡ Ok x
  loaded quiet index answer loads =
      let none = none_if_index (length x.segments) (network_of x).junctions x.nearest index.0 x.sites x.times index.2 in
      let early = ap (λ o. option_or o (option_map differs (difference_from x index.0))) quiet in
      loads index.0 (λ _. index.1) ∙ ap (answered x) (early ∙ ap (option_map differs) none)

-- examined tables that are taken are not refused
pub not_refused : (t r : Tables) → Ok r ≡ clocks.examined t → table_refusal t ≡ None
not_refused t r e = go (table_refusal t) refl
  where
    go : (o : Option Refusal) → table_refusal t ≡ o → table_refusal t ≡ None
    go None h = h
    go (Some q) h = taken r (q, t) (e ∙ ap (answered t) h)

-- what is laid over roads, with their tables: q are the segments as they were lent
module _ (d : depots.Lists) (r t : Tables) (tables : t ≡ r) (of_depot : r ≡ clock_tables d) (accepted : table_refusal (clock_tables d) ≡ None) (q firsts : List ℕ) (lent : q ≡ firsts) (segments : firsts ≡ d.segments) where
  abbrev Refuses : Tables → List ℕ → (sites times room : ℕ) → Type 0
  Refuses z y sites times room = lay_refusal (clock_roads z).junctions y d.nearest sites times room ≡ None

  abbrev Index : Tables → List ℕ → (sites times : List ℕ) → Type 0
  Index z y sites times = LeastIndex (clock_roads z) (length y) d.nearest (least_in_segment z y) sites times

  pub laid_from : (sites times : List ℕ) (room s w k : ℕ) → length sites ≡ s → length times ≡ w → room ≡ k → None ≡ lay_refusal (clock_roads r).junctions q d.nearest s w k → Index r q sites times → Laid d (record { tables = t; segments = firsts; nearest = d.nearest; sites = sites; times = times }) room
  laid_from sites times room s w k e f g none index =
      let here : Refuses r q (length sites) (length times) room = ap (λ z. lay_refusal (clock_roads r).junctions q d.nearest z (length times) room) e ∙ ap (λ z. lay_refusal (clock_roads r).junctions q d.nearest s z room) f ∙ ap (λ z. lay_refusal (clock_roads r).junctions q d.nearest s w z) g ∙ sym none in
      record {
        of_depot = record { tables = tables ∙ of_depot; segments = segments; nearest = refl };
        quiet =
            quiet_from (record { tables = t; segments = firsts; nearest = d.nearest; sites = sites; times = times }) room (ap table_refusal (tables ∙ of_depot) ∙ accepted)
            (subst (λ y. Refuses t y (length sites) (length times) room) lent (subst (λ z. Refuses z q (length sites) (length times) room) (sym tables) here));
        index = subst (λ y. Index t y sites times) lent (subst (λ z. Index z q sites times) (sym tables) index);
      }

-- what is loaded of it is the depot's
pub of_depot_loaded : (d : depots.Lists) (x y : Lists) (room : ℕ) → Laid d x room → ◌≡◌ {A = Result Lists (Refusal × Lists)} (Ok y) (Ok x) → OfDepot d y
of_depot_loaded d x y room laid e = subst (OfDepot d) (sym (ok_same y x e)) laid.of_depot
  where
    ok_same : (y x : Lists) → ◌≡◌ {A = Result Lists (Refusal × Lists)} (Ok y) (Ok x) → y ≡ x
    ok_same y x e = cc
