-- The promise over every list of calls, from what is proved of one list of soonest sites. Assumes nothing.
use Rattle.std.proofs.Common.{◌≡◌, ℕ, ◌<◌, Bool, true, false, ltb, List, [], ◌∷◌, length, is_some, Some, None, Option, unwrap_or, refl, ap, subst}
use mathlib.Core.Path.{fun_ext}
use Rattle.std.proofs.lemmas.Bool.{ltb-true, true≢false, false≢true}
use Rattle.network.specs.First.{unless}
use Rattle.network.specs.Layers.{Layer}
use Rattle.network.specs.Refused.{refusal}
use Rattle.network.specs.declared.refusals.Places.TheVariants.{Call as the_call}
use Rattle.network.specs.declared.refusals.Refusal.{Refusal}
use Rattle.network.proofs.First.{or_none, unless_none}
use Rattle.network.proofs.Layering.{pile_keeps}
use Rattle.soonest.specs.Asking.{Asking, ask_refusal, asked, unless_refused}
use Rattle.soonest.specs.Claims.{Soonest}
use Rattle.soonest.specs.Guidance.{Guidance, under, Sound}
use Rattle.soonest.specs.Stages.{last_stage}
use Rattle.board.specs.Calls.{Call, asking, holding, handing_back, First, tally, free_at}
use Rattle.board.specs.Promise.{Right, SoonestOr, ask_answer, hold_answer, back_answer, answer_on, board_after, SoundCall, Stands, alters, SoonestAndFreeBaysOverEveryListOfCalls}
use Rattle.board.specs.Tables.{Table, has_free, sites_of, hold_refusal, one_more_out, back_refusal, one_less_out}
use Rattle.board.proofs.Counting.{first_stands, stands_free, hold_right, hold_stands, back_right, back_stands}

-- what is proved of one asking over the model
abbrev pub SoonestListed : Type 0
SoonestListed = (g : Guidance) (k : ℕ) (free : ℕ → Bool) (v h : ℕ) → Sound g → v < g.roads.junctions → g.roads.reads h ≡ true → Soonest g.roads free v h k (last_stage g k free v h).listed (last_stage g k free v h).way

value_there : (o : Option ℕ) → is_some o ≡ true → o ≡ Some (unwrap_or o 0)
value_there None e = absurd (false≢true e)
value_there (Some h) e = refl

module _ (soonest_listed : SoonestListed) where
  module _ (g : Guidance) (q : Asking) (n : ℕ) where
    -- what an asking that is not refused has passed
    admitted : ask_refusal g n q ≡ None → (q.junction < g.roads.junctions) × (is_some (g.roads.start q.number) ≡ true)
    unfolding ask_refusal
    admitted e =
        let a = or_none (unless (ltb q.junction g.roads.junctions) (refusal 14 the_call)) _ e in
        let b = or_none (unless (is_some (g.roads.start q.number)) (refusal 15 the_call)) _ a.1 in
        (ltb-true q.junction g.roads.junctions (unless_none (ltb q.junction g.roads.junctions) (refusal 14 the_call) a.0), unless_none (is_some (g.roads.start q.number)) (refusal 15 the_call) b.0)

    -- what an asking answers is the first of its refusals that applies, or a list of the soonest free sites
    pub answered : Sound g → (free : ℕ → Bool) → SoonestOr (ask_refusal g n q) g free q (ask_answer (asked g free n q))
    unfolding asked
    answered sound free = by (ask_refusal g n q) refl
      where
        h : ℕ
        h = unwrap_or (g.roads.start q.number) 0

        by : (o : Option Refusal) → ask_refusal g n q ≡ o → SoonestOr o g free q (ask_answer (unless_refused o (last_stage g q.k free q.junction h)))
        by None e =
            let p = admitted e in
            let is = value_there (g.roads.start q.number) p.1 in
            (h, (last_stage g q.k free q.junction h).listed, (last_stage g q.k free q.junction h).way, is, refl, soonest_listed g q.k free q.junction h sound p.0 (sound.wellformed.start_reads q.number h is))
        by (Some r) e = refl

  -- an asking on a board that stands answers by the counts
  pub asking_right : (first : First) (past : List Call) (t : Table) → Stands first past t → (g : Guidance) (layers : List Layer) (q : Asking) → Sound (under layers g) → Right first past (asking g layers q) (ask_answer (asked (under layers g) (has_free t) (sites_of t) q))
  asking_right first past t stands g layers q sound =
      let counted : ℕ → Bool = λ s. ltb 0 (free_at first past s) in
      let same : has_free t ≡ counted = fun_ext (stands_free first past t stands) in
      let sites = ap (λ l. length l) stands.bays in
      subst (λ n. SoonestOr (ask_refusal (under layers g) n q) (under layers g) counted q (ask_answer (asked (under layers g) (has_free t) (sites_of t) q))) sites
      (subst (λ (f : ℕ → Bool). SoonestOr (ask_refusal (under layers g) (sites_of t) q) (under layers g) f q (ask_answer (asked (under layers g) (has_free t) (sites_of t) q))) same
      (answered (under layers g) q (sites_of t) sound (has_free t)))

-- an asking alters no count
pub asking_stands : (first : First) (past : List Call) (t : Table) (g : Guidance) (layers : List Layer) (q : Asking) → Stands first past t → Stands first (asking g layers q ∷ past) t
unfolding tally
asking_stands first past t g layers q stands = record { number = stands.number; bays = stands.bays; out = stands.out; never_more = stands.never_more }

-- the board that some calls leave stands as counted
pub board_stands : (first : First) (past : List Call) → Stands first past (board_after first past)
unfolding board_after
board_stands first [] = first_stands first
board_stands first (asking g layers q ∷ past) = asking_stands first past (board_after first past) g layers q (board_stands first past)
board_stands first (holding s ∷ past) = hold_stands first past (board_after first past) (board_stands first past) s
board_stands first (handing_back n s ∷ past) = back_stands first past (board_after first past) (board_stands first past) n s

hold_unaltered : (o : Option Refusal) (t : Table) (s : ℕ) → alters (hold_answer o t.number s) ≡ false → one_more_out o t s ≡ t
hold_unaltered None t s e = absurd (true≢false e)
hold_unaltered (Some r) t s e = refl

back_unaltered : (o : Option Refusal) (t : Table) (n s : ℕ) → alters (back_answer o n s) ≡ false → one_less_out o t s ≡ t
back_unaltered None t n s e = absurd (true≢false e)
back_unaltered (Some r) t n s e = refl

unaltered : (first : First) (past : List Call) (c : Call) → alters (answer_on (board_after first past) c) ≡ false → board_after first (c ∷ past) ≡ board_after first past
unfolding board_after
unaltered first past (asking g layers q) e = refl
unaltered first past (holding s) e = hold_unaltered (hold_refusal (board_after first past) s) (board_after first past) s e
unaltered first past (handing_back n s) e = back_unaltered (back_refusal (board_after first past) n s) (board_after first past) n s e

right : SoonestListed → (first : First) (past : List Call) (c : Call) → SoundCall c → Right first past c (answer_on (board_after first past) c)
right soonest_listed first past (asking g layers q) sound = asking_right soonest_listed first past (board_after first past) (board_stands first past) g layers q (pile_keeps layers g.roads g.estimate sound)
right soonest_listed first past (holding s) sound = hold_right first past (board_after first past) (board_stands first past) s
right soonest_listed first past (handing_back n s) sound = back_right first past (board_after first past) (board_stands first past) n s

pub promise_from : SoonestListed → SoonestAndFreeBaysOverEveryListOfCalls
promise_from soonest_listed first past c = record {
  right = right soonest_listed first past c;
  stands = board_stands first past;
  unaltered = unaltered first past c;
}
