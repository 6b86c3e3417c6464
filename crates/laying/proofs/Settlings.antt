-- An entry is settled, and relaxed along one arc after the other.
use Rattle.std.proofs.Common.{◌≡◌, ℕ, suc, ◌+◌, ◌*◌, ◌<◌, ◌≤◌, cond, eqb, List, length, get_or, Some, None, sym, refl, ap, ◌∙◌, subst, ⊎_elim, arith}
use Rattle.std.proofs.lemmas.Bool.{cases_eq, cases_lt, eq-eqb, ne_eqb}
use Rattle.std.proofs.lemmas.List.{get_or-take}
use Rattle.network.specs.Model.{Roads}
use Rattle.queue.specs.Waiting.{Updated}
use Rattle.rows.specs.Index.{missing, entry_at}
use Rattle.rows.specs.Offering.{offer, later}
use Rattle.rows.specs.Rows.{Defined}
use Rattle.rows.specs.declared.entry.Entry.{Entry}
use Rattle.laying.proofs.Relaxing.{settles, relaxes, ends, kept}
use Rattle.laying.proofs.ShortTimes.{short_settles, short_relaxes, short_relaxed}
use Rattle.laying.specs.Incoming.{last_into}
use Rattle.laying.specs.Settling.{HasShortTimes, IsAtRest, IsNext, IsSearchState}
use Rattle.laying.proofs.Linking.{last_says, last_none}

-- within one: along the arcs below b that lead into v, and no others, the last settled entry of v is still to be relaxed
pub record IsRelaxing (m : Roads) (f : ℕ → ℕ) (C longest : ℕ) (rows : ℕ → List Entry) (settled : ℕ → ℕ) (v b : ℕ) : Type 0 where
  pub relaxed : ℕ → ℕ
  pub level : ℕ
  pub state : IsSearchState m f C rows settled relaxed level
  pub short : HasShortTimes m longest rows settled relaxed
  pub one : (a : ℕ) → a < m.arcs → m.head a ≡ v → a < b → suc (relaxed a) ≡ settled v
  pub others : (a : ℕ) → a < m.arcs → ((m.head a ≡ v) × (a < b) → ⊥) → relaxed a ≡ settled (m.head a)

module _ (m : Roads) (f : ℕ → ℕ) (C longest : ℕ) where
  -- the next entry is settled, and is to be relaxed along all arcs into its junction
  pub part : (rows : ℕ → List Entry) (settled since : ℕ → ℕ) (v : ℕ) (x : Entry) → v < m.junctions → IsAtRest m f C longest rows settled → IsNext rows settled v x → Updated settled since v (suc (settled v)) → IsRelaxing m f C longest rows since v m.arcs
  part rows settled since v x l r next change = record {
    relaxed = r.relaxed;
    level = x.time;
    state = settles m f C rows settled since r.relaxed r.level v x r.state r.all next change;
    short = short_settles m f C longest rows settled since r.relaxed r.level v x l r.state r.short r.all next change;
    one = λ a n e k. ap suc (r.all a n ∙ ap settled e) ∙ sym change.0;
    others = λ a n h. r.all a n ∙ sym (change.1 (m.head a) (λ e. h (e, n)));
  }

  -- relaxed along all of them it rests
  pub rest : (rows : ℕ → List Entry) (settled : ℕ → ℕ) (v b : ℕ) → IsRelaxing m f C longest rows settled v b → last_into m.head v b ≡ None → IsAtRest m f C longest rows settled
  rest rows settled v b p none = record {
    relaxed = p.relaxed;
    level = p.level;
    state = p.state;
    short = p.short;
    all = λ a n. p.others a n (λ h. last_none m.head v b none a h.1 h.0);
  }

  -- one more arc
  module _ (rows : ℕ → List Entry) (settled : ℕ → ℕ) (v b a k : ℕ) (p : IsRelaxing m f C longest rows settled v b) (last : last_into m.head v b ≡ Some a) (within : b ≤ m.arcs) (count : settled v ≡ suc k) where
    abbrev says : (a < b) × (m.head a ≡ v) × ((c : ℕ) → a < c → c < b → m.head c ≡ v → ⊥)
    says = last_says m.head v b a last

    there : a < m.arcs
    there = let l = says.0 in omega arith

    at : p.relaxed a ≡ k
    at = let e = p.one a there says.1 says.0 in omega arith

    left : p.relaxed a < settled (m.head a)
    left = subst (λ u. p.relaxed a < settled u) (sym says.1) (let e = at in omega arith)

    same_entry : entry_at (rows (m.head a)) (p.relaxed a) ≡ entry_at (rows v) k
    same_entry = ap (λ u. entry_at (rows u) (p.relaxed a)) says.1 ∙ ap (entry_at (rows v)) at

    -- the time at which it arrives is short
    pub arrives : f a ≤ longest → f a + (entry_at (rows v) k).time ≤ m.junctions * longest
    arrives high = subst (λ x. f a + x.time ≤ m.junctions * longest) same_entry (short_relaxed m f C longest rows settled p.relaxed p.level a p.state p.short there high left)

    module _ (after : ℕ → List Entry) (rises : 1 ≤ f a) (high : f a ≤ longest) (change : Updated rows after (m.tail a) (offer C (rows (m.tail a)) (later (f a) (entry_at (rows v) k)))) where
      more : ℕ → ℕ
      more c = cond (eqb c a) (suc (p.relaxed c)) (p.relaxed c)

      more_at : more a ≡ suc (p.relaxed a)
      unfolding more
      more_at = ap (λ t. cond t (suc (p.relaxed a)) (p.relaxed a)) (eq-eqb a a refl)

      more_other : (c : ℕ) → (c ≡ a → ⊥) → more c ≡ p.relaxed c
      unfolding more
      more_other c d = ap (λ t. cond t (suc (p.relaxed c)) (p.relaxed c)) (ne_eqb c a d)

      counted : Updated p.relaxed more a (suc (p.relaxed a))
      counted = (more_at, more_other)

      changed : Updated rows after (m.tail a) (offer C (rows (m.tail a)) (later (f a) (entry_at (rows (m.head a)) (p.relaxed a))))
      changed = subst (λ x. Updated rows after (m.tail a) (offer C (rows (m.tail a)) (later (f a) x))) (sym same_entry) change

      pub relaxed_one : IsRelaxing m f C longest after settled v a
      relaxed_one = record {
        relaxed = more;
        level = p.level;
        state = relaxes m f C rows after settled p.relaxed more p.level a p.state there rises left counted changed;
        short = short_relaxes m f C longest rows after settled p.relaxed more p.level a p.state p.short there rises high left counted changed;
        one = λ c n e l. let d = says.0 in ap suc (more_other c (λ z. omega arith)) ∙ p.one c n e (omega arith);
        others = others;
      }
        where
          others : (c : ℕ) → c < m.arcs → ((m.head c ≡ v) × (c < a) → ⊥) → more c ≡ settled (m.head c)
          others c n h =
              ⊎_elim
              (λ e. let q = at in subst (λ d. more d ≡ settled (m.head d)) (sym e) (more_at ∙ ap suc q ∙ sym count ∙ ap settled (sym says.1)))
              (λ d. more_other c d ∙ p.others c n (λ q. ⊎_elim (λ l. h (q.0, l)) (λ l. says.2 c (omega arith) q.1 q.0) (cases_lt c a)))
              (cases_eq c a)

      -- the entry stays where it is
      pub relaxed_same : entry_at (after v) k ≡ entry_at (rows v) k
      relaxed_same =
          let e = (kept m f C rows after settled p.relaxed more p.level a p.state there rises left counted changed v).0 in
          sym (get_or-take (settled v) (after v) k missing (omega arith)) ∙ ap (λ l. get_or l k missing) e ∙ get_or-take (settled v) (rows v) k missing (omega arith)

  -- where all is settled the rows are those of least sums
  pub defined : (rows : ℕ → List Entry) (settled : ℕ → ℕ) → ((a : ℕ) → a < m.arcs → m.head a < m.junctions) → ((a : ℕ) → a < m.arcs → 1 ≤ f a) → IsAtRest m f C longest rows settled → ((v : ℕ) → v < m.junctions → settled v ≡ length (rows v)) → Defined m f C rows
  defined rows settled ok rises r all = ends m f C rows settled r.relaxed r.level ok rises r.state r.all all
