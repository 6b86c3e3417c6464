-- What an asking returns and leaves, by its outcome. Assumes nothing.
use Rattle.std.proofs.Common.{◌≡◌, ℕ, ◌<◌, ◌≤◌, Bool, true, List, [], length, get_or, map, take, Some, None, Ok, Err, unwrap_or, sym, refl, ap, ◌∙◌, subst}
use Rattle.network.specs.declared.refusals.Refusal.{Refusal}
use Rattle.soonest.specs.Asking.{Asking, ask_refusal, asked, unless_refused}
use Rattle.soonest.specs.Guidance.{Guidance, Sound}
use Rattle.soonest.specs.Stages.{Stage, last_stage, begin, next}
use Rattle.soonest.proofs.Ending.{sane_begin, run_rests}
use Rattle.soonest.proofs.Listing.{soonest_listed}
use Rattle.board.specs.Calls.{asking}
use Rattle.board.specs.Promise.{Answer, listing, ask_answer, Throughout, Right, SoonestOr, SoonestAndFreeBaysOverEveryListOfCalls}
use Rattle.board.specs.Tables.{Table, has_free, sites_of}
use Rattle.board.proofs.Promised.{answered, asking_right, asking_stands, promise_from}
use Rattle.finder.specs.Askings.{outcome, told, Answered, Led, Rests}
use Rattle.finder.proofs.Travels.{listed_long}
use Rattle.finder.specs.Lists.{listed_in, KeptFrom, Shows}
use Rattle.finder.specs.declared.answers.Answer.{Answer as Listed}
use Rattle.finder.specs.declared.answers.Listing.{Listing}
use Rattle.soonest.specs.Ways.{way_in}

module _ (g : Guidance) (t : Table) (q : Asking) where
  pub refused_outcome : (r : Refusal) → ask_refusal g (sites_of t) q ≡ Some r → outcome g t q ≡ Err r
  unfolding asked
  refused_outcome r e = ap (λ o. unless_refused o (last_stage g q.k (has_free t) q.junction (unwrap_or (g.roads.start q.number) 0))) e

  pub admitted_outcome : (h : ℕ) → ask_refusal g (sites_of t) q ≡ None → g.roads.start q.number ≡ Some h → outcome g t q ≡ Ok (last_stage g q.k (has_free t) q.junction h)
  unfolding asked
  admitted_outcome h e s = ap (λ o. unless_refused o (last_stage g q.k (has_free t) q.junction (unwrap_or (g.roads.start q.number) 0))) e ∙ ap (λ o. Ok (last_stage g q.k (has_free t) q.junction (unwrap_or o 0))) s

  -- a refused asking leaves its lists
  module _ (r : Refusal) (e : outcome g t q ≡ Err r) where
    pub refused_told : Err r ≡ told (outcome g t q)
    refused_told = sym (ap told e)

    pub refused_answers : {R : Type 0} (height : R → ℕ) (list : List (Listed R)) → Answered height (outcome g t q) list list
    refused_answers height list = subst (λ o. Answered height o list list) (sym e) refl

    pub refused_ways : (n : ℕ) (list : List ℕ) → Led n (outcome g t q) list list
    refused_ways n list = subst (λ o. Led n o list list) (sym e) refl

    pub refused_rests : (k : ℕ) → Rests g k (outcome g t q)
    refused_rests k = subst (Rests g k) (sym e) tt

  -- an answer that is the outcome's is right, whatever calls came before
  module _ (sound : Sound g) (answer : Answer) (same : answer ≡ ask_answer (outcome g t q)) where
    pub answers_soonest : SoonestOr (ask_refusal g (sites_of t) q) g (has_free t) q answer
    answers_soonest = subst (SoonestOr (ask_refusal g (sites_of t) q) g (has_free t) q) (sym same) (answered soonest_listed g q (sites_of t) sound (has_free t))

    pub answers_throughout : Throughout t (asking g [] q) answer t
    answers_throughout = λ first past stands. (subst (Right first past (asking g [] q)) (sym same) (asking_right soonest_listed first past t stands g [] q sound), asking_stands first past t g [] q stands)

-- the promise, whole
pub promised : SoonestAndFreeBaysOverEveryListOfCalls
promised = promise_from soonest_listed

-- an asking that is not refused: its outcome is a stage that its listing shows
module _ {R : Type 0} (height : R → ℕ) (g : Guidance) (t : Table) (q : Asking) (s : Stage) (e : outcome g t q ≡ Ok s) where
  module _ (l : Listing) (front : List (Listed R)) (ways_front : List ℕ) (shown : Shows height l front ways_front s) (within : l.count ≤ length front) where
    listed_count : length s.listed ≡ l.count
    listed_count = sym (ap length shown.sites_listed) ∙ listed_long height l.count front within

    pub shown_told : Ok (l.count, l.steps) ≡ told (outcome g t q)
    shown_told = (λ i. Ok (sym listed_count i, shown.steps_taken i)) ∙ sym (ap told e)

    pub shown_answers : (before after : List (Listed R)) → take l.count after ≡ take l.count front → KeptFrom l.count before after → Answered height (outcome g t q) before after
    shown_answers before after same kept =
        subst (λ o. Answered height o before after) (sym e) (
          ap (λ n. listed_in height n after) listed_count ∙ ap (map (λ a. (a.site, height a.reading))) same ∙ shown.sites_listed,
          subst (λ n. KeptFrom n before after) (sym listed_count) kept,
        )

    pub shown_ways : (n : ℕ) (before after : List ℕ) → ((v : ℕ) → v < n → get_or after v 0 ≡ get_or ways_front v 65535) → KeptFrom n before after → Led n (outcome g t q) before after
    shown_ways n before after same kept = subst (λ o. Led n o before after) (sym e) (λ v m. same v m ∙ ap (λ f. f v) shown.ways_left, kept)

    pub shown_answer : (n : ℕ) (answers : List (Listed R)) (ways : List ℕ) → take l.count answers ≡ take l.count front → take n ways ≡ ways_front → listing (listed_in height l.count answers) (way_in (take n ways)) ≡ ask_answer (outcome g t q)
    shown_answer n answers ways same ways_same =
        (λ i. listing ((ap (map (λ a. (a.site, height a.reading))) same ∙ shown.sites_listed) i) ((ap way_in ways_same ∙ shown.ways_left) i))
        ∙ sym (ap ask_answer e)

  pub shown_rests : (k : ℕ) → next g k s ≡ None → Rests g k (outcome g t q)
  shown_rests k none = subst (Rests g k) (sym e) none

-- where an asking ends, nothing is left to take
pub last_rests : (g : Guidance) (k : ℕ) (free : ℕ → Bool) (v h : ℕ) → Sound g → v < g.roads.junctions → g.roads.reads h ≡ true → next g k (last_stage g k free v h) ≡ None
last_rests g k free v h sound l r = run_rests g k sound (begin g k free v h) (sane_begin g k sound free v h l r)
