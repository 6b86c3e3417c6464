-- What the table of a board says, by the sites that it keeps, and what a call leaves. Assumes nothing.
use Rattle.std.proofs.Common.{◌≡◌, ℕ, ◌<◌, ◌≤◌, true, false, ◌&&◌, eqb, ltb, ◌∷◌, map, length, get_or, set, Some, None, Option, sym, ap, ◌∙◌, subst, arith}
use Rattle.std.proofs.lemmas.Bool.{and_left, and_right, lt-ltb, le-ltb, eq-eqb}
use Rattle.std.proofs.lemmas.List.{length-map, set-get_or}
use Rattle.std.proofs.Math.Seq.{map-set_same}
use Rattle.network.specs.Refused.{refusal}
use Rattle.network.specs.declared.refusals.Places.TheVariants.{Call as the_call}
use Rattle.network.specs.declared.refusals.Refusal.{Refusal}
use Rattle.soonest.specs.Stages.{upd}
use Rattle.board.specs.Calls.{holding, handing_back}
use Rattle.board.specs.Held.{board_table}
use Rattle.board.specs.Promise.{Answer, Stands, Throughout, hold_answer, back_answer}
use Rattle.board.specs.Tables.{Table, has_free, sites_of, with_out, hold_refusal, one_more_out, back_refusal, one_less_out}
use Rattle.board.specs.declared.bays.SiteBays.{SiteBays}
use Rattle.board.specs.declared.board.Board.{Board}
use Rattle.board.proofs.Counting.{hold_right, hold_stands, back_right, back_stands}
use Rattle.board.proofs.Columns.{column_in, column_past, column_set}

module _ (t : Table) (n s : ℕ) where
  pub other_board : eqb n t.number ≡ false → back_refusal t n s ≡ Some (refusal 32 the_call)
  unfolding back_refusal
  other_board e = rw e

  pub may_hand_back : eqb n t.number ≡ true → ltb s (sites_of t) ≡ true → ltb 0 (t.out s) ≡ true → back_refusal t n s ≡ None
  unfolding back_refusal
  may_hand_back e f g = rw (e, f, g)

not_out : (b : Board) (n s : ℕ) → n ≡ (board_table b).number → (ltb s (sites_of (board_table b)) && ltb 0 ((board_table b).out s)) ≡ false → back_refusal (board_table b) n s ≡ Some (refusal 33 the_call)
unfolding back_refusal
not_out b n s same e = rw (eq-eqb n (board_table b).number same, e)

-- the board with another entry at a site
abbrev pub with_entry : Board → ℕ → SiteBays → Board
with_entry b s y = record { number = b.number; table = record { items = set b.table.items s y } }

-- what it was, as long as the entry is the one that was there
pub same_entry : (b : Board) (s : ℕ) (x : SiteBays) → x ≡ get_or b.table.items s x → board_table (with_entry b s x) ≡ board_table b
same_entry b s x is = ap (λ xs. board_table (record { number = b.number; table = record { items = xs } })) (ap (set b.table.items s) is ∙ set-get_or b.table.items s x)

module _ (b : Board) where
  pub sites_are : sites_of (board_table b) ≡ length b.table.items
  unfolding board_table
  sites_are = length-map b.table.items (λ s. s.bays)

  not_there : (s : ℕ) → length b.table.items ≤ s → ltb s (sites_of (board_table b)) ≡ false
  not_there s l = le-ltb s (sites_of (board_table b)) (let e = sites_are in omega arith)

  pub out_past : (s : ℕ) → sites_of (board_table b) ≤ s → (board_table b).out s ≡ 0
  unfolding board_table
  out_past s l = column_past (λ s. s.out) b.table.items s (let e = sites_are in omega arith)

  pub free_past : (s : ℕ) → length b.table.items ≤ s → has_free (board_table b) s ≡ false
  unfolding board_table
  free_past s l = le-ltb ((board_table b).out s) (get_or (board_table b).bays s 0) (let e = column_past (λ s. s.bays) b.table.items s l in omega arith)

  -- a site that is there, with its entry
  module _ (s : ℕ) (x : SiteBays) (l : s < length b.table.items) (is : x ≡ get_or b.table.items s x) where
    there : ltb s (sites_of (board_table b)) ≡ true
    there = lt-ltb s (sites_of (board_table b)) (let e = sites_are in omega arith)

    pub out_is : (board_table b).out s ≡ x.out
    unfolding board_table
    out_is = column_in (λ s. s.out) b.table.items s x l is

    bays_are : get_or (board_table b).bays s 0 ≡ x.bays
    unfolding board_table
    bays_are = column_in (λ s. s.bays) b.table.items s x l is

    pub free_is : has_free (board_table b) s ≡ ltb x.out x.bays
    free_is = ap (λ n. ltb n (get_or (board_table b).bays s 0)) out_is ∙ ap (ltb x.out) bays_are

    -- the board with another entry there, of as many bays
    pub with_entry_is : (y : SiteBays) (n : ℕ) → y.bays ≡ x.bays → y.out ≡ n → board_table (with_entry b s y) ≡ with_out (board_table b) s n
    unfolding board_table
    with_entry_is y n e f =
        let bays : map (λ s. s.bays) (set b.table.items s y) ≡ map (λ s. s.bays) b.table.items = map-set_same (λ s. s.bays) b.table.items s y x (e ∙ ap (λ s. s.bays) is) in
        let out = column_set (λ s. s.out) b.table.items s y l ∙ ap (upd (board_table b).out s) f in
        λ i. record { number = b.number; bays = bays i; out = out i }

    pub no_free_bay : x.bays ≤ x.out → hold_refusal (board_table b) s ≡ Some (refusal 31 the_call)
    unfolding hold_refusal
    no_free_bay m = rw (there, free_is ∙ le-ltb x.out x.bays m)

    pub may_hold : x.out < x.bays → hold_refusal (board_table b) s ≡ None
    unfolding hold_refusal
    may_hold m = rw (there, free_is ∙ lt-ltb x.out x.bays m)

    module _ (n : ℕ) (same : n ≡ (board_table b).number) where
      pub none_out : x.out ≡ 0 → back_refusal (board_table b) n s ≡ Some (refusal 33 the_call)
      none_out e = not_out b n s same (and_right (ltb s (sites_of (board_table b))) (ltb 0 ((board_table b).out s)) (le-ltb 0 ((board_table b).out s) (let o = out_is in omega arith)))

      pub one_out : 0 < x.out → back_refusal (board_table b) n s ≡ None
      one_out m = may_hand_back (board_table b) n s (eq-eqb n (board_table b).number same) there (lt-ltb 0 ((board_table b).out s) (let o = out_is in omega arith))

  pub no_such_site : (s : ℕ) → length b.table.items ≤ s → hold_refusal (board_table b) s ≡ Some (refusal 18 the_call)
  unfolding hold_refusal
  no_such_site s l = rw (not_there s l)

  pub no_site_out : (n s : ℕ) → n ≡ (board_table b).number → length b.table.items ≤ s → back_refusal (board_table b) n s ≡ Some (refusal 33 the_call)
  no_site_out n s same l = not_out b n s same (and_left (ltb s (sites_of (board_table b))) (ltb 0 ((board_table b).out s)) (not_there s l))

-- the clauses of holding, by the refusal that it gets
module _ (t : Table) (s : ℕ) where
  pub held_so : (t' : Table) (a : Answer) (o : Option Refusal) → hold_refusal t s ≡ o → a ≡ hold_answer o t.number s → t' ≡ one_more_out o t s → (a ≡ hold_answer (hold_refusal t s) t.number s) × (t' ≡ one_more_out (hold_refusal t s) t s) × Throughout t (holding s) a t'
  held_so t' a o e f g = (answer, table, λ first past st. (answer ∙ hold_right first past t st s, subst (Stands first (holding s ∷ past)) (sym table) (hold_stands first past t st s)))
    where
      answer : a ≡ hold_answer (hold_refusal t s) t.number s
      answer = f ∙ ap (λ p. hold_answer p t.number s) (sym e)

      table : t' ≡ one_more_out (hold_refusal t s) t s
      table = g ∙ ap (λ p. one_more_out p t s) (sym e)

-- the clauses of handing back, by the refusal that it gets
module _ (t : Table) (n s : ℕ) where
  pub handed_so : (t' : Table) (a : Answer) (o : Option Refusal) → back_refusal t n s ≡ o → a ≡ back_answer o n s → t' ≡ one_less_out o t s → (a ≡ back_answer (back_refusal t n s) n s) × (t' ≡ one_less_out (back_refusal t n s) t s) × Throughout t (handing_back n s) a t'
  handed_so t' a o e f g = (answer, table, λ first past st. (answer ∙ back_right first past t st n s, subst (Stands first (handing_back n s ∷ past)) (sym table) (back_stands first past t st n s)))
    where
      answer : a ≡ back_answer (back_refusal t n s) n s
      answer = f ∙ ap (λ p. back_answer p n s) (sym e)

      table : t' ≡ one_less_out (back_refusal t n s) t s
      table = g ∙ ap (λ p. one_less_out p t s) (sym e)
