-- Which lists are the index of the built-in depot. Assumes nothing.
use Rattle.std.proofs.Common.{◌≡◌, ℕ, zero, suc, ◌*◌, ◌<◌, Bool, true, false, eqb, List, length, None, refl, sym, subst, ap, ◌∙◌, arith}
use Rattle.network.specs.First.{first_of}
use Rattle.network.specs.Lists.{tail_of}
use Rattle.network.specs.Model.{Roads}
use Rattle.clock.specs.Model.{clock_roads}
use Rattle.least.specs.Times.{least_in_segment}
use Rattle.least.proofs.LeastTimes.{least_within}
use Rattle.rows.specs.Index.{LeastIndex, read_row, row_in, first_difference}
use Rattle.rows.specs.Nearest.{entry}
use Rattle.rows.specs.Offering.{offer, offer_all, offer_sites, offer_arcs, offered_row}
use Rattle.rows.specs.declared.entry.Entry.{Entry}
use Rattle.rows.proofs.Differing.{index_if_none, difference_same}
use Rattle.rows.proofs.Offers.{offers_alike}
use Rattle.rows.proofs.Reading.{index_from_offers, least_index_once}
use Rattle.town.specs.FourJunctions.{town}
use Rattle.town.specs.Indexed.{Index, firsts, IsRight, entry_of, one_kept, two_kept, WorkedIndex}
use Rattle.town.proofs.LeastTimes.{day, can_enter, known, least_known}
use Rattle.town.proofs.Sound.{clock_sound}

module _ (x : Index) where
  -- what the index itself offers, where arcs take the times f
  abbrev offered : (f : ℕ → ℕ → ℕ) → (i v : ℕ) → List Entry
  offered f i v = offered_row (clock_roads town) (f i) x.nearest (row_in 4 x.nearest x.sites x.times i) v

  -- it is right where it differs nowhere from what it offers
  right_if_none : length x.sites ≡ 3 * 4 * x.nearest → length x.times ≡ 3 * 4 * x.nearest → first_difference 3 4 x.nearest (offered known) x.sites x.times ≡ None → IsRight x
  right_if_none l k e =
      index_from_offers (clock_roads town) (let few = clock_sound.wellformed.few_sites in omega arith) clock_sound.wellformed.head_within 3 x.nearest (least_in_segment town firsts) x.sites x.times
      (λ i a l m. (least_within town a m (can_enter a m) firsts day i l).0)
      (index_if_none 3 4 x.nearest (offered (least_in_segment town firsts)) x.sites x.times l k
      (difference_same 3 4 x.nearest (offered (least_in_segment town firsts)) (offered known) x.sites x.times
      (λ i v l m. offers_alike (clock_roads town) (least_in_segment town firsts i) (known i) x.nearest (row_in 4 x.nearest x.sites x.times i) v 4 (λ a k. least_known i a l k))
      ∙ e))

pub one_right : IsRight one_kept
unfolding first_difference first_of read_row offer offer_sites offer_arcs tail_of
one_right = right_if_none one_kept refl refl refl

pub two_right : IsRight two_kept
unfolding first_difference first_of read_row offer offer_sites offer_arcs tail_of
two_right = right_if_none two_kept refl refl refl

-- an index by its parts
same_index : (x y : Index) → x.nearest ≡ y.nearest → (x.sites ≡ y.sites) × (x.times ≡ y.times) → x ≡ y
same_index x y e p = λ i. record { nearest = e i; sites = p.0 i; times = p.1 i }

no_other : (x y : Index) → x.nearest ≡ y.nearest → IsRight x → IsRight y → x ≡ y
no_other x y e a b =
    same_index x y e
    (least_index_once (clock_roads town) (let few = clock_sound.wellformed.few_sites in omega arith) clock_sound.wellformed.head_within 3 x.nearest (least_in_segment town firsts) x.sites x.times y.sites y.times a
    (subst (λ C. LeastIndex (clock_roads town) 3 C (least_in_segment town firsts) y.sites y.times) (sym e) b))

-- segment by segment
each_segment : (P : ℕ → Type 0) → P 0 → P 1 → P 2 → (i : ℕ) → i < 3 → P i
each_segment P x y z zero l = x
each_segment P x y z (suc zero) l = y
each_segment P x y z (suc (suc zero)) l = z
each_segment P x y z (suc (suc (suc i))) l = absurd (omega arith)

has_1 : (i : ℕ) → i < 3 → entry_of two_kept i 3 0 ≡ entry 1 0
has_1 = each_segment (λ i. entry_of two_kept i 3 0 ≡ entry 1 0) refl refl refl

lacks : (i : ℕ) → i < 3 → entry_of two_kept i 3 1 ≡ entry 65535 0
lacks = each_segment (λ i. entry_of two_kept i 3 1 ≡ entry 65535 0) refl refl refl

takes : (a t : ℕ) → a < 4 → known 0 a ≡ t → known 1 a ≡ t → known 2 a ≡ t → (i : ℕ) → i < 3 → least_in_segment town firsts i a ≡ t
takes a t m x y z =
    each_segment (λ i. least_in_segment town firsts i a ≡ t)
    (least_known 0 a (omega arith) m ∙ x)
    (least_known 1 a (omega arith) m ∙ y)
    (least_known 2 a (omega arith) m ∙ z)

pub index_holds : WorkedIndex
index_holds = record {
  arc_0 = takes 0 300 (omega arith) refl refl refl;
  arc_1 = takes 1 100 (omega arith) refl refl refl;
  arc_2 = takes 2 50 (omega arith) refl refl refl;
  arc_3_first = least_known 0 3 (omega arith) (omega arith);
  arc_3_between = least_known 1 3 (omega arith) (omega arith);
  arc_3_last = least_known 2 3 (omega arith) (omega arith);
  one_is_right = one_right;
  two_is_right = two_right;
  no_other = no_other;
  junction_3_has_1 = has_1;
  junction_3_lacks = lacks;
}
