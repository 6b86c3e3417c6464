-- Which refusal an asking gets, by what its checks find. Assumes nothing.
use Rattle.std.proofs.Common.{◌≡◌, ℕ, ◌<◌, ◌≤◌, Bool, true, false, ◌&&◌, eqb, ltb, leb, ◌⊎◌, is_some, Some, None, Option, refl, ap, ⊎_elim}
use Rattle.std.specs.Option.{option_or}
use Rattle.std.proofs.lemmas.Bool.{and_from, and_left, and_right, lt-ltb, le-ltb, lt-leb, le-leb}
use Rattle.network.specs.First.{unless}
use Rattle.network.specs.Refused.{refusal}
use Rattle.network.specs.declared.refusals.Places.TheVariants.{Call}
use Rattle.network.specs.declared.refusals.Refusal.{Refusal}
use Rattle.soonest.specs.Asking.{Asking, ask_refusal}
use Rattle.soonest.specs.Guidance.{Guidance}

module _ (g : Guidance) (sites : ℕ) (q : Asking) where
  abbrev checked : (junction start number board room : Bool) → Option Refusal
  checked junction start number board room = option_or (unless junction (refusal 14 Call)) (option_or (unless start (refusal 15 Call)) (option_or (unless number (refusal 16 Call)) (option_or (unless board (refusal 34 Call)) (unless room (refusal 17 Call)))))

  abbrev in_number : Bool
  in_number = leb 1 q.k && leb q.k 32

  abbrev room_for : Bool
  room_for = leb q.k q.answers && leb g.roads.junctions q.ways && leb g.roads.junctions q.marks && leb g.roads.junctions q.queue

  by_checks : (a b c d e : Bool) → ltb q.junction g.roads.junctions ≡ a → is_some (g.roads.start q.number) ≡ b → in_number ≡ c → eqb sites g.roads.sites ≡ d → room_for ≡ e → ask_refusal g sites q ≡ checked a b c d e
  unfolding ask_refusal
  by_checks a b c d e p q' r s t = λ i. checked (p i) (q' i) (r i) (s i) (t i)

  pub no_junction : g.roads.junctions ≤ q.junction → ask_refusal g sites q ≡ Some (refusal 14 Call)
  no_junction l = by_checks false _ _ _ _ (le-ltb q.junction g.roads.junctions l) refl refl refl refl

  module _ (there : q.junction < g.roads.junctions) where
    inside : ltb q.junction g.roads.junctions ≡ true
    inside = lt-ltb q.junction g.roads.junctions there

    pub no_start : g.roads.start q.number ≡ None → ask_refusal g sites q ≡ Some (refusal 15 Call)
    no_start e = by_checks true false _ _ _ inside (ap is_some e) refl refl refl

    module _ (h : ℕ) (starts : g.roads.start q.number ≡ Some h) where
      pub no_number : (q.k < 1) ⊎ (32 < q.k) → ask_refusal g sites q ≡ Some (refusal 16 Call)
      no_number l = by_checks true true false _ _ inside (ap is_some starts) (⊎_elim (λ m. and_left (leb 1 q.k) (leb q.k 32) (lt-leb 1 q.k m)) (λ m. and_right (leb 1 q.k) (leb q.k 32) (lt-leb q.k 32 m)) l) refl refl

      module _ (some : 1 ≤ q.k) (few : q.k ≤ 32) where
        numbered : in_number ≡ true
        numbered = and_from (leb 1 q.k) (leb q.k 32) (le-leb 1 q.k some) (le-leb q.k 32 few)

        pub no_board : eqb sites g.roads.sites ≡ false → ask_refusal g sites q ≡ Some (refusal 34 Call)
        no_board e = by_checks true true true false _ inside (ap is_some starts) numbered e refl

        module _ (alike : eqb sites g.roads.sites ≡ true) where
          pub no_room : room_for ≡ false → ask_refusal g sites q ≡ Some (refusal 17 Call)
          no_room e = by_checks true true true true false inside (ap is_some starts) numbered alike e

          pub not_refused : room_for ≡ true → ask_refusal g sites q ≡ None
          not_refused e = by_checks true true true true true inside (ap is_some starts) numbered alike e
