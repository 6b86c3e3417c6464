-- One hold more or fewer among those that are kept. Assumes nothing.
use Rattle.std.proofs.Common.{◌≡◌, ℕ, zero, suc, ◌+◌, ◌-◌, ◌<◌, cond, eqb, List, [], ◌∷◌, ◌++◌, length, get_or, take, drop, set, Some, None, Option, sym, refl, ap, ◌∙◌, subst, ⊎_elim, arith, length-take, get_or-take}
use Rattle.std.proofs.lemmas.List.{append-nil, set_split, set-get_or}
use Rattle.std.proofs.lemmas.Bool.{cond-true, cond-false, cases_eq, cases_lt, lt-ltb, eq-eqb, ne_eqb}
use Rattle.network.specs.declared.refusals.Refusal.{Refusal}
use Rattle.soonest.specs.Stages.{upd}
use Rattle.soonest.proofs.Turns.{upd_other}
use Rattle.soonest.proofs.Updates.{upd_at}
use Rattle.board.specs.Held.{board_table, hold_bears}
use Rattle.board.specs.Promise.{hold_granted, hold_answer}
use Rattle.board.specs.Tables.{Table, sites_of, back_refusal, one_more_out, one_less_out}
use Rattle.board.specs.declared.board.Board.{Board}
use Rattle.board.proofs.Boards.{out_past, may_hand_back}
use Rattle.desk.specs.Named.{named, named_sites, site_under, without, kept_at, FirstUnder}
use Rattle.desk.specs.declared.kept.Kept.{Kept}

-- whether a hold that is kept is of the site s
abbrev one_at : Kept → ℕ → ℕ
one_at x s = cond (eqb (hold_bears x.hold).1 s) 1 0

pub kept_between : (before after : List Kept) (x : Kept) (s : ℕ) → kept_at (named_sites (before ++ x ∷ after)) s ≡ one_at x s + kept_at (named_sites (before ++ after)) s
kept_between [] after x s = refl
kept_between (y ∷ before) after x s = let e = kept_between before after x s in omega arith

-- every hold that is kept bears the number n
abbrev pub AllBear : ℕ → List Kept → Type 0
AllBear n [] = Unit {0}
AllBear n (x ∷ xs) = ((hold_bears x.hold).0 ≡ n) × AllBear n xs

pub all_bear : (n : ℕ) (xs : List Kept) → ((i : ℕ) (d : Kept) → i < length xs → (hold_bears (get_or xs i d).hold).0 ≡ n) → AllBear n xs
all_bear n [] h = tt
all_bear n (x ∷ xs) h = (h 0 x (omega arith), all_bear n xs (λ i d l. h (suc i) d (omega arith)))

pub each_bears : (n : ℕ) (xs : List Kept) → AllBear n xs → (i : ℕ) (d : Kept) → i < length xs → (hold_bears (get_or xs i d).hold).0 ≡ n
each_bears n [] all i d l = absurd (omega arith)
each_bears n (x ∷ xs) all zero d l = all.0
each_bears n (x ∷ xs) all (suc i) d l = each_bears n xs all.1 i d (omega arith)

bear_between : (n : ℕ) (before after : List Kept) (x : Kept) → AllBear n (before ++ x ∷ after) → ((hold_bears x.hold).0 ≡ n) × AllBear n (before ++ after)
bear_between n [] after x all = all
bear_between n (y ∷ before) after x all = let r = bear_between n before after x all.1 in (r.0, (all.0, r.1))

bear_push : (n : ℕ) (xs : List Kept) (x : Kept) → (hold_bears x.hold).0 ≡ n → AllBear n xs → AllBear n (xs ++ x ∷ [])
bear_push n [] x e all = (e, tt)
bear_push n (y ∷ xs) x e all = (all.0, bear_push n xs x e all.1)

-- what a desk keeps of its board's table: every hold bears its number, and those of each site number what is out there
abbrev pub Tallies : Table → List Kept → Type 0
Tallies t xs = ((i : ℕ) (d : Kept) → i < length xs → (hold_bears (get_or xs i d).hold).0 ≡ t.number) × ((s : ℕ) → kept_at (named_sites xs) s ≡ t.out s)

-- one more hold, of the site s
pub tallies_more : (t : Table) (xs : List Kept) (x : Kept) (s : ℕ) → (hold_bears x.hold).0 ≡ t.number → (hold_bears x.hold).1 ≡ s → Tallies t xs → Tallies (one_more_out None t s) (xs ++ x ∷ [])
tallies_more t xs x s e f tally = (each_bears t.number (xs ++ x ∷ []) (bear_push t.number xs x e (all_bear t.number xs tally.0)), λ i. kept_between xs [] x i ∙ ap (λ ys. one_at x i + kept_at (named_sites ys) i) (append-nil xs) ∙ ap (λ k. one_at x i + k) (tally.1 i) ∙ by i)
  where
    by : (i : ℕ) → one_at x i + t.out i ≡ upd t.out s (suc (t.out s)) i
    by i =
        ⊎_elim
        (λ q. let a : one_at x i ≡ 1 = cond-true (eqb (hold_bears x.hold).1 i) 1 0 (eq-eqb (hold_bears x.hold).1 i (f ∙ sym q)) in let b = upd_at t.out s (suc (t.out s)) i q in let c = ap t.out q in omega arith)
        (λ q. let a : one_at x i ≡ 0 = cond-false (eqb (hold_bears x.hold).1 i) 1 0 (ne_eqb (hold_bears x.hold).1 i (λ z. q (sym z ∙ f))) in let b = upd_other t.out s (suc (t.out s)) i q in omega arith)
        (cases_eq i s)

-- one hold fewer: it is accepted, and the others still tally
module _ (b : Board) (before after : List Kept) (x : Kept) (tally : Tallies (board_table b) (before ++ x ∷ after)) where
  abbrev site : ℕ
  site = (hold_bears x.hold).1

  bears : ((hold_bears x.hold).0 ≡ (board_table b).number) × AllBear (board_table b).number (before ++ after)
  bears = bear_between (board_table b).number before after x (all_bear (board_table b).number (before ++ x ∷ after) tally.0)

  is_out : 0 < (board_table b).out site
  is_out = let e = kept_between before after x site in let f = tally.1 site in let o : one_at x site ≡ 1 = cond-true (eqb site site) 1 0 (eq-eqb site site refl) in omega arith

  pub accepted : back_refusal (board_table b) (hold_bears x.hold).0 site ≡ None
  accepted =
      let there = ⊎_elim (λ l. l) (λ l. let e = out_past b site l in let o = is_out in absurd (omega arith)) (cases_lt site (sites_of (board_table b))) in
      may_hand_back (board_table b) (hold_bears x.hold).0 site (eq-eqb (hold_bears x.hold).0 (board_table b).number bears.0) (lt-ltb site (sites_of (board_table b)) there) (lt-ltb 0 ((board_table b).out site) is_out)

  pub tallies_fewer : Tallies (one_less_out None (board_table b) site) (before ++ after)
  tallies_fewer = (each_bears (board_table b).number (before ++ after) bears.1, by)
    where
      by : (i : ℕ) → kept_at (named_sites (before ++ after)) i ≡ upd (board_table b).out site ((board_table b).out site - 1) i
      by i =
          let e = kept_between before after x i in
          let f = tally.1 i in
          ⊎_elim
          (λ q. let a : one_at x i ≡ 1 = cond-true (eqb site i) 1 0 (eq-eqb site i (sym q)) in let u = upd_at (board_table b).out site ((board_table b).out site - 1) i q in let c = ap (board_table b).out q in omega arith)
          (λ q. let a : one_at x i ≡ 0 = cond-false (eqb site i) 1 0 (ne_eqb site i (λ z. q (sym z))) in let u = upd_other (board_table b).out site ((board_table b).out site - 1) i q in omega arith)
          (cases_eq i site)

split_at : (xs : List Kept) (i : ℕ) (x : Kept) → i < length xs → x ≡ get_or xs i x → xs ≡ take i xs ++ x ∷ drop (suc i) xs
split_at xs i x l e = sym (set-get_or xs i x) ∙ ap (set xs i) (sym e) ∙ set_split xs i x l

-- the hold at a place is taken out
module _ (b : Board) (xs : List Kept) (i : ℕ) (x : Kept) (l : i < length xs) (is : x ≡ get_or xs i x) (tally : Tallies (board_table b) xs) where
  around : Tallies (board_table b) (take i xs ++ x ∷ drop (suc i) xs)
  around = subst (Tallies (board_table b)) (split_at xs i x l is) tally

  pub removed_accepted : back_refusal (board_table b) (hold_bears x.hold).0 (hold_bears x.hold).1 ≡ None
  removed_accepted = accepted b (take i xs) (drop (suc i) xs) x around

  pub removed_bears : (hold_bears x.hold).0 ≡ (board_table b).number
  removed_bears = (bears b (take i xs) (drop (suc i) xs) x around).0

  pub removed_tallies : (t : Table) (ys : List Kept) → t ≡ one_less_out None (board_table b) (hold_bears x.hold).1 → ys ≡ take i xs ++ drop (suc i) xs → Tallies t ys
  removed_tallies t ys e f = subst (λ u. Tallies u ys) (sym e) (subst (Tallies (one_less_out None (board_table b) (hold_bears x.hold).1)) (sym f) (tallies_fewer b (take i xs) (drop (suc i) xs) x around))

-- the last hold is taken out
module _ (b : Board) (xs ys : List Kept) (x : Kept) (is : xs ≡ ys ++ x ∷ []) (tally : Tallies (board_table b) xs) where
  ended : Tallies (board_table b) (ys ++ x ∷ [])
  ended = subst (Tallies (board_table b)) is tally

  pub popped_accepted : back_refusal (board_table b) (hold_bears x.hold).0 (hold_bears x.hold).1 ≡ None
  popped_accepted = accepted b ys [] x ended

  pub popped_bears : (hold_bears x.hold).0 ≡ (board_table b).number
  popped_bears = (bears b ys [] x ended).0

  pub popped_tallies : (t : Table) → t ≡ one_less_out None (board_table b) (hold_bears x.hold).1 → Tallies t ys
  popped_tallies t e = subst (λ u. Tallies u ys) (sym e) (subst (Tallies (one_less_out None (board_table b) (hold_bears x.hold).1)) (append-nil ys) (tallies_fewer b ys [] x ended))

-- what a grant says of its hold
pub granted_says : (o : Option Refusal) (a b n s : ℕ) → hold_granted a b ≡ hold_answer o n s → (o ≡ None) × (a ≡ n) × (b ≡ s)
granted_says None a b n s e = (refl, cc, cc)
granted_says (Some r) a b n s e = let z : ◌≡◌ {A = ℕ} 0 1 = cc in absurd (omega arith)

-- what is found under a number
module _ (n : ℕ) where
  pub none_under : (xs : List Kept) → ((i : ℕ) (d : Kept) → i < length xs → (get_or xs i d).name ≡ n → ⊥) → site_under (named_sites xs) n ≡ None
  none_under [] h = refl
  none_under (x ∷ xs) h = cond-false (eqb x.name n) (Some (hold_bears x.hold).1) (site_under (named_sites xs) n) (ne_eqb x.name n (h 0 x (omega arith))) ∙ none_under xs (λ i d l. h (suc i) d (omega arith))

  found_under : (before after : List Kept) (x : Kept) → x.name ≡ n → ((i : ℕ) (d : Kept) → i < length before → (get_or before i d).name ≡ n → ⊥) → (site_under (named_sites (before ++ x ∷ after)) n ≡ Some (hold_bears x.hold).1) × (without (named_sites (before ++ x ∷ after)) n ≡ named_sites (before ++ after))
  found_under [] after x e h = (cond-true (eqb x.name n) _ _ (eq-eqb x.name n e), cond-true (eqb x.name n) _ _ (eq-eqb x.name n e))
  found_under (y ∷ before) after x e h =
      let other = ne_eqb y.name n (h 0 y (omega arith)) in
      let r = found_under before after x e (λ i d l. h (suc i) d (omega arith)) in
      (cond-false (eqb y.name n) _ _ other ∙ r.0, cond-false (eqb y.name n) _ _ other ∙ ap (λ ks. named y ∷ ks) r.1)

  pub first_under : (xs : List Kept) (i : ℕ) (x : Kept) → x ≡ get_or xs i x → FirstUnder xs n i → (site_under (named_sites xs) n ≡ Some (hold_bears x.hold).1) × (without (named_sites xs) n ≡ named_sites (take i xs ++ drop (suc i) xs))
  first_under xs i x e found =
      subst
      (λ ys. (site_under (named_sites ys) n ≡ Some (hold_bears x.hold).1) × (without (named_sites ys) n ≡ named_sites (take i xs ++ drop (suc i) xs)))
      (sym (split_at xs i x found.within e))
      (found_under (take i xs) (drop (suc i) xs) x (ap (λ k. k.name) e ∙ found.here x) (λ k d l. let low : k < i = omega (arith, length-take i xs) in λ z. found.before k d low (sym (ap (λ y. y.name) (get_or-take i xs k d low)) ∙ z)))
