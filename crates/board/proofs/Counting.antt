-- What stands by the counts keeps standing by them, whatever is held or handed back. Assumes nothing.
use Rattle.std.proofs.Common.{◌≡◌, ℕ, suc, ◌+◌, ◌-◌, ◌<◌, ◌≤◌, Bool, true, false, ◌&&◌, eqb, ltb, List, [], ◌∷◌, length, get_or, Some, None, Option, sym, refl, ap, ◌∙◌, subst, ⊎_elim, arith}
use Rattle.std.specs.Option.{option_or}
use Rattle.std.proofs.lemmas.Bool.{false_from_ne_true, and_parts, and_from, cases_eq, cases_lt, lt-ltb, le-ltb, ltb-true, eq-eqb, eqb-true}
use Rattle.network.specs.First.{unless}
use Rattle.network.specs.Refused.{refusal}
use Rattle.network.specs.declared.refusals.Places.TheVariants.{Call as the_call}
use Rattle.network.specs.declared.refusals.Refusal.{Refusal}
use Rattle.network.proofs.First.{clash, or_none, unless_none, unless_true}
use Rattle.soonest.specs.Stages.{upd}
use Rattle.soonest.proofs.Turns.{upd_other}
use Rattle.soonest.proofs.Updates.{upd_at}
use Rattle.board.specs.Calls.{Call, holding, handing_back, First, Tally, grant, take_back, bays_at, tally, granted_at, taken_back_at, free_at}
use Rattle.board.specs.Promise.{Stands, hold_answer, hold_by_counts, back_answer, back_by_counts}
use Rattle.board.specs.Tables.{Table, first_state, has_free, sites_of, hold_refusal, one_more_out, back_refusal, one_less_out}

-- two tests of which each says the other
pub same_test : (a b c d : ℕ) → (a < b → c < d) → (c < d → a < b) → ltb a b ≡ ltb c d
same_test a b c d there back =
    ⊎_elim
    (λ l. lt-ltb a b l ∙ sym (lt-ltb c d (there l)))
    (λ l. le-ltb a b l ∙ sym (false_from_ne_true (ltb c d) (λ e. let k = back (ltb-true c d e) in omega arith)))
    (cases_lt a b)

-- two tests in turn that refuse nothing both pass
both_pass : (a b : Bool) (r q : Refusal) → option_or (unless a r) (unless b q) ≡ None → (a ≡ true) × (b ≡ true)
both_pass a b r q e = let p = or_none (unless a r) (unless b q) e in (unless_none a r p.0, unless_none b q p.1)

both_passed : (a b : Bool) (r q : Refusal) → a ≡ true → b ≡ true → option_or (unless a r) (unless b q) ≡ None
both_passed a b r q e f = ap (λ o. option_or o (unless b q)) (unless_true a r e) ∙ unless_true b q f

-- a new board stands at the empty list
pub first_stands : (first : First) → Stands first [] (first_state first.number first.bays)
unfolding tally
first_stands first = record { number = refl; bays = refl; out = λ s. refl; never_more = λ s. omega arith }

-- at one site: what is out and what was taken back is what was granted, and that is no more than the bays allow
abbrev Level : (bays out : ℕ) → Tally → Type 0
Level bays out c = (out + c.1 ≡ c.0) × (c.0 ≤ bays + c.1)

relevel : (bays : ℕ) {out out' : ℕ} {c c' : Tally} → out' ≡ out → c' ≡ c → Level bays out c → Level bays out' c'
relevel bays {out} {c' = c'} e f l = subst (λ n. Level bays n c') (sym e) (subst (λ k. Level bays out k) (sym f) l)

module _ (first : First) (past : List Call) (t : Table) (stands : Stands first past t) where
  bays_same : (s : ℕ) → get_or t.bays s 0 ≡ bays_at first s
  bays_same s = ap (λ l. get_or l s 0) stands.bays

  sites_same : (s : ℕ) → ltb s (sites_of t) ≡ ltb s (length first.bays)
  sites_same s = ap (λ l. ltb s (length l)) stands.bays

  -- a bay is free where more bays are there than holds are open
  pub stands_free : (s : ℕ) → has_free t s ≡ ltb 0 (free_at first past s)
  stands_free s =
      let e = stands.out s in
      let b = bays_same s in
      same_test (t.out s) (get_or t.bays s 0) 0 (free_at first past s) (λ l. omega arith) (λ l. omega arith)

  grantable : (s : ℕ) → has_free t s ≡ ltb (granted_at first past s) (bays_at first s + taken_back_at first past s)
  grantable s =
      let e = stands.out s in
      let b = bays_same s in
      same_test (t.out s) (get_or t.bays s 0) (granted_at first past s) (bays_at first s + taken_back_at first past s) (λ l. omega arith) (λ l. omega arith)

  open_there : (s : ℕ) → ltb 0 (t.out s) ≡ ltb (taken_back_at first past s) (granted_at first past s)
  open_there s = let e = stands.out s in same_test 0 (t.out s) (taken_back_at first past s) (granted_at first past s) (λ l. omega arith) (λ l. omega arith)

  level : (s : ℕ) → Level (bays_at first s) (t.out s) (tally first past s)
  level s = (stands.out s, stands.never_more s)

  module _ (s : ℕ) where
    pub hold_right : hold_answer (hold_refusal t s) t.number s ≡ hold_by_counts first past s
    unfolding hold_refusal
    hold_right = rw (sites_same s, stands_free s, stands.number)

    -- whether the count at i changes by holding at s
    abbrev one_granted : ℕ → Bool
    one_granted i = eqb s i && ltb i (length first.bays) && ltb (granted_at first past i) (bays_at first i + taken_back_at first past i)

    not_granted : (i : ℕ) → one_granted i ≡ false → tally first (holding s ∷ past) i ≡ tally first past i
    unfolding tally
    not_granted i e = ap (λ b. grant b (tally first past i)) e

    granted : (i : ℕ) → one_granted i ≡ true → tally first (holding s ∷ past) i ≡ (suc (granted_at first past i), taken_back_at first past i)
    unfolding tally
    granted i e = ap (λ b. grant b (tally first past i)) e

    granted_elsewhere : (i : ℕ) → (i ≡ s → ⊥) → one_granted i ≡ false
    granted_elsewhere i n = false_from_ne_true (one_granted i) (λ e. n (sym (eqb-true s i (and_parts (eqb s i) _ (and_parts _ _ e).0).0)))

    granted_here : one_granted s ≡ true → hold_refusal t s ≡ None
    unfolding hold_refusal
    granted_here e =
        let p = and_parts (eqb s s && ltb s (length first.bays)) _ e in
        both_passed (ltb s (sites_of t)) (has_free t s) (refusal 18 the_call) (refusal 31 the_call) (sites_same s ∙ (and_parts (eqb s s) _ p.0).1) (grantable s ∙ p.1)

    here_granted : hold_refusal t s ≡ None → one_granted s ≡ true
    unfolding hold_refusal
    here_granted e =
        let p = both_pass (ltb s (sites_of t)) (has_free t s) (refusal 18 the_call) (refusal 31 the_call) e in
        and_from (eqb s s && ltb s (length first.bays)) _ (and_from (eqb s s) _ (eq-eqb s s refl) (sym (sites_same s) ∙ p.0)) (sym (grantable s) ∙ p.1)

    hold_levels : (o : Option Refusal) → hold_refusal t s ≡ o → (i : ℕ) → Level (bays_at first i) ((one_more_out o t s).out i) (tally first (holding s ∷ past) i)
    hold_levels None e i =
        ⊎_elim
        (λ p. subst (λ j. Level (bays_at first j) (upd t.out s (suc (t.out s)) j) (tally first (holding s ∷ past) j)) (sym p) here)
        (λ p. relevel (bays_at first i) (upd_other t.out s (suc (t.out s)) i p) (not_granted i (granted_elsewhere i p)) (level i))
        (cases_eq i s)
      where
        here : Level (bays_at first s) (upd t.out s (suc (t.out s)) s) (tally first (holding s ∷ past) s)
        here =
            let g = here_granted e in
            let l = level s in
            let m = ltb-true _ _ (and_parts (eqb s s && ltb s (length first.bays)) _ g).1 in
            relevel (bays_at first s) (upd_at t.out s (suc (t.out s)) s refl) (granted s g) (omega arith, omega arith)
    hold_levels (Some r) e i = relevel (bays_at first i) refl (not_granted i quiet) (level i)
      where
        quiet : one_granted i ≡ false
        quiet =
            ⊎_elim
            (λ p. subst (λ j. one_granted j ≡ false) (sym p) (false_from_ne_true (one_granted s) (λ g. clash (hold_refusal t s) r e (granted_here g))))
            (granted_elsewhere i)
            (cases_eq i s)

    hold_keeps : (o : Option Refusal) → ((one_more_out o t s).number ≡ t.number) × ((one_more_out o t s).bays ≡ t.bays)
    hold_keeps None = (refl, refl)
    hold_keeps (Some r) = (refl, refl)

    pub hold_stands : Stands first (holding s ∷ past) (one_more_out (hold_refusal t s) t s)
    hold_stands =
        let k = hold_keeps (hold_refusal t s) in
        let l = hold_levels (hold_refusal t s) refl in
        record {
          number = k.0 ∙ stands.number;
          bays = k.1 ∙ stands.bays;
          out = λ i. (l i).0;
          never_more = λ i. (l i).1;
        }

  module _ (n s : ℕ) where
    pub back_right : back_answer (back_refusal t n s) n s ≡ back_by_counts first past n s
    unfolding back_refusal
    back_right = rw (sites_same s, open_there s, stands.number)

    -- whether the count at i changes by handing back a hold of number n at s
    abbrev one_taken : ℕ → Bool
    one_taken i = eqb s i && eqb n first.number && ltb i (length first.bays) && ltb (taken_back_at first past i) (granted_at first past i)

    not_taken : (i : ℕ) → one_taken i ≡ false → tally first (handing_back n s ∷ past) i ≡ tally first past i
    unfolding tally
    not_taken i e = ap (λ b. take_back b (tally first past i)) e

    taken : (i : ℕ) → one_taken i ≡ true → tally first (handing_back n s ∷ past) i ≡ (granted_at first past i, suc (taken_back_at first past i))
    unfolding tally
    taken i e = ap (λ b. take_back b (tally first past i)) e

    taken_elsewhere : (i : ℕ) → (i ≡ s → ⊥) → one_taken i ≡ false
    taken_elsewhere i m = false_from_ne_true (one_taken i) (λ e. m (sym (eqb-true s i (and_parts (eqb s i) _ (and_parts _ _ (and_parts _ _ e).0).0).0)))

    number_same : eqb n t.number ≡ eqb n first.number
    number_same = ap (eqb n) stands.number

    taken_here : one_taken s ≡ true → back_refusal t n s ≡ None
    unfolding back_refusal
    taken_here e =
        let p = and_parts (eqb s s && eqb n first.number && ltb s (length first.bays)) _ e in
        let q = and_parts (eqb s s && eqb n first.number) _ p.0 in
        both_passed (eqb n t.number) (ltb s (sites_of t) && ltb 0 (t.out s)) (refusal 32 the_call) (refusal 33 the_call)
        (number_same ∙ (and_parts (eqb s s) _ q.0).1)
        (and_from (ltb s (sites_of t)) (ltb 0 (t.out s)) (sites_same s ∙ q.1) (open_there s ∙ p.1))

    here_taken : back_refusal t n s ≡ None → one_taken s ≡ true
    unfolding back_refusal
    here_taken e =
        let p = both_pass (eqb n t.number) (ltb s (sites_of t) && ltb 0 (t.out s)) (refusal 32 the_call) (refusal 33 the_call) e in
        let q = and_parts (ltb s (sites_of t)) (ltb 0 (t.out s)) p.1 in
        and_from (eqb s s && eqb n first.number && ltb s (length first.bays)) _
        (and_from (eqb s s && eqb n first.number) _ (and_from (eqb s s) _ (eq-eqb s s refl) (sym number_same ∙ p.0)) (sym (sites_same s) ∙ q.0))
        (sym (open_there s) ∙ q.1)

    back_levels : (o : Option Refusal) → back_refusal t n s ≡ o → (i : ℕ) → Level (bays_at first i) ((one_less_out o t s).out i) (tally first (handing_back n s ∷ past) i)
    back_levels None e i =
        ⊎_elim
        (λ p. subst (λ j. Level (bays_at first j) (upd t.out s (t.out s - 1) j) (tally first (handing_back n s ∷ past) j)) (sym p) here)
        (λ p. relevel (bays_at first i) (upd_other t.out s (t.out s - 1) i p) (not_taken i (taken_elsewhere i p)) (level i))
        (cases_eq i s)
      where
        here : Level (bays_at first s) (upd t.out s (t.out s - 1) s) (tally first (handing_back n s ∷ past) s)
        here =
            let g = here_taken e in
            let l = level s in
            let m = ltb-true _ _ (and_parts (eqb s s && eqb n first.number && ltb s (length first.bays)) _ g).1 in
            relevel (bays_at first s) (upd_at t.out s (t.out s - 1) s refl) (taken s g) (omega arith, omega arith)
    back_levels (Some r) e i = relevel (bays_at first i) refl (not_taken i quiet) (level i)
      where
        quiet : one_taken i ≡ false
        quiet =
            ⊎_elim
            (λ p. subst (λ j. one_taken j ≡ false) (sym p) (false_from_ne_true (one_taken s) (λ g. clash (back_refusal t n s) r e (taken_here g))))
            (taken_elsewhere i)
            (cases_eq i s)

    back_keeps : (o : Option Refusal) → ((one_less_out o t s).number ≡ t.number) × ((one_less_out o t s).bays ≡ t.bays)
    back_keeps None = (refl, refl)
    back_keeps (Some r) = (refl, refl)

    pub back_stands : Stands first (handing_back n s ∷ past) (one_less_out (back_refusal t n s) t s)
    back_stands =
        let k = back_keeps (back_refusal t n s) in
        let l = back_levels (back_refusal t n s) refl in
        record {
          number = k.0 ∙ stands.number;
          bays = k.1 ∙ stands.bays;
          out = λ i. (l i).0;
          never_more = λ i. (l i).1;
        }
