-- What handing back leaves out at a board, site by site. Assumes nothing.
use Rattle.std.proofs.Common.{◌≡◌, ℕ, ◌+◌, ◌-◌, ◌<◌, false, ◌&&◌, eqb, ltb, Some, None, Ok, Err, Option, Result, sym, refl, ap, ◌∙◌, ⊎_elim, arith}
use Rattle.std.specs.Result.{IsErr}
use Rattle.std.proofs.lemmas.Bool.{and_right, cond-true, cond-false, cases_eq, cases_lt, lt-ltb, le-ltb, eq-eqb, ne_eqb}
use Rattle.network.specs.Refused.{refusal}
use Rattle.network.specs.declared.refusals.Places.TheVariants.{Call}
use Rattle.network.specs.declared.refusals.Refusal.{Refusal}
use Rattle.network.specs.declared.returned.Returned.{Returned}
use Rattle.soonest.proofs.Turns.{upd_other}
use Rattle.soonest.proofs.Updates.{upd_at}
use Rattle.board.specs.Answered.{handed_answer}
use Rattle.board.specs.Held.{board_table, hold_bears}
use Rattle.board.specs.Promise.{hold_ended, hold_returned, back_answer}
use Rattle.board.specs.Tables.{Table, sites_of, back_refusal, one_less_out}
use Rattle.board.specs.declared.board.Board.{Board}
use Rattle.board.specs.declared.faults.BackFault.{BackFault}
use Rattle.board.specs.declared.hold.Hold.{Hold}
use Rattle.board.proofs.Boards.{out_past, may_hand_back, other_board}
use Rattle.compare.specs.Out.{one_at}

-- where a bay is out at a board of the number, a hold of the site is taken back
pub accepts : (b : Board) (n s : ℕ) → n ≡ (board_table b).number → 0 < (board_table b).out s → back_refusal (board_table b) n s ≡ None
accepts b n s e out =
    let there : s < sites_of (board_table b) = ⊎_elim (λ l. l) (λ l. let z = out_past b s l in absurd (omega arith)) (cases_lt s (sites_of (board_table b))) in
    may_hand_back (board_table b) n s (eq-eqb n (board_table b).number e) (lt-ltb s (sites_of (board_table b)) there) (lt-ltb 0 ((board_table b).out s) out)

none_is_not : (r : Refusal) → ◌≡◌ {A = Option Refusal} None (Some r) → ⊥
none_is_not r e = let z : ◌≡◌ {A = ℕ} 0 1 = cc in absurd (omega arith)

-- where one is refused, none is out
pub none_out : (b : Board) (n s : ℕ) (r : Refusal) → n ≡ (board_table b).number → back_refusal (board_table b) n s ≡ Some r → (board_table b).out s ≡ 0
none_out b n s r e refused =
    ⊎_elim
    (λ l. absurd (none_is_not r (sym (accepts b n s e l) ∙ refused)))
    (λ l. omega arith)
    (cases_lt 0 ((board_table b).out s))

not_out : (t : Table) (n s : ℕ) → n ≡ t.number → (ltb s (sites_of t) && ltb 0 (t.out s)) ≡ false → back_refusal t n s ≡ Some (refusal 33 Call)
unfolding back_refusal
not_out t n s same e = rw (eq-eqb n t.number same, e)

-- where one is taken back, one is out
one_out : (t : Table) (n s : ℕ) → n ≡ t.number → back_refusal t n s ≡ None → 0 < t.out s
one_out t n s same taken =
    ⊎_elim
    (λ l. l)
    (λ l. absurd (none_is_not (refusal 33 Call) (sym taken ∙ not_out t n s same (and_right (ltb s (sites_of t)) (ltb 0 (t.out s)) (le-ltb 0 (t.out s) l)))))
    (cases_lt 0 (t.out s))

-- the answer to a hold that ends, and to one that is returned
ended_none : (o : Option Refusal) (n s : ℕ) → hold_ended ≡ back_answer o n s → o ≡ None
ended_none None n s e = refl
ended_none (Some r) n s e = let z : ◌≡◌ {A = ℕ} 0 1 = cc in absurd (omega arith)

pub returned_some : (o : Option Refusal) (r : Refusal) (a b n s : ℕ) → hold_returned r a b ≡ back_answer o n s → (o ≡ Some r) × (a ≡ n) × (b ≡ s)
returned_some None r a b n s e = let z : ◌≡◌ {A = ℕ} 0 1 = cc in absurd (omega arith)
returned_some (Some q) r a b n s e = (cc, cc, cc)

-- one fewer is out at the hold's site
pub one_fewer : (t u : Table) (h : Hold) (s : ℕ) → 0 < t.out (hold_bears h).1 → u ≡ one_less_out None t (hold_bears h).1 → u.out s + one_at h s ≡ t.out s
one_fewer t u h s l f =
    let site = (hold_bears h).1 in
    let g = ap (λ v. v.out s) f in
    ⊎_elim
    (λ q. let a : one_at h s ≡ 1 = cond-true (eqb site s) 1 0 (eq-eqb site s (sym q)) in let b = upd_at t.out site (t.out site - 1) s q in let c = ap t.out q in omega arith)
    (λ q. let a : one_at h s ≡ 0 = cond-false (eqb site s) 1 0 (ne_eqb site s (λ z. q (sym z))) in let b = upd_other t.out site (t.out site - 1) s q in omega arith)
    (cases_eq s site)

-- a hold that the board of its number took back
pub ended_fewer : (t u : Table) (h : Hold) → (hold_bears h).0 ≡ t.number → hold_ended ≡ back_answer (back_refusal t (hold_bears h).0 (hold_bears h).1) (hold_bears h).0 (hold_bears h).1 → u ≡ one_less_out (back_refusal t (hold_bears h).0 (hold_bears h).1) t (hold_bears h).1 → (s : ℕ) → u.out s + one_at h s ≡ t.out s
ended_fewer t u h same answer table s =
    let none = ended_none (back_refusal t (hold_bears h).0 (hold_bears h).1) (hold_bears h).0 (hold_bears h).1 answer in
    one_fewer t u h s (one_out t (hold_bears h).0 (hold_bears h).1 same none) (table ∙ ap (λ o. one_less_out o t (hold_bears h).1) none)

-- a hold that bears another number is not taken back
pub is_returned : {X : Type 0} (t : Table) (n s : ℕ) (r : Result X (Returned Hold BackFault)) → (n ≡ t.number → ⊥) → handed_answer r ≡ back_answer (back_refusal t n s) n s → IsErr r
is_returned {X = X} t n s r differs answer = by r (answer ∙ ap (λ o. back_answer o n s) (other_board t n s (ne_eqb n t.number differs)))
  where
    by : (r : Result X (Returned Hold BackFault)) → handed_answer r ≡ back_answer (Some (refusal 32 Call)) n s → IsErr r
    by (Ok x) e = let z : ◌≡◌ {A = ℕ} 0 1 = cc in absurd (omega arith)
    by (Err x) e = refl
