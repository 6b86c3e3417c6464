-- What an asking returns, and what it leaves in the lists that it is lent, by heights. Assumes nothing.
use Rattle.std.specs.Prelude.{◌≡◌, ℕ, ◌<◌, ◌≤◌, List, length, take, Some, None, Ok, Err, Result, slice_index}
use Rattle.std.specs.Result.{result_map_both}
use Rattle.network.specs.declared.refusals.Refusal.{Refusal}
use Rattle.soonest.specs.Asking.{Asking, ask_refusal, asked}
use Rattle.soonest.specs.Faults.{ask_fault}
use Rattle.soonest.specs.Guidance.{Guidance}
use Rattle.soonest.specs.Stages.{Stage, next}
use Rattle.soonest.specs.Ways.{way_in}
use Rattle.soonest.specs.declared.faults.AskFault.{AskFault}
use Rattle.board.specs.Promise.{Answer, listing, call_refused}
use Rattle.board.specs.Tables.{Table, has_free, sites_of}
use Rattle.finder.specs.Lists.{listed_in, KeptFrom}
use Rattle.finder.specs.declared.answers.Answer.{Answer as Listed}
use Rattle.finder.specs.declared.answers.Listing.{Listing}
use Rattle.finder.specs.declared.question.Question.{Question}

-- what is asked, with lists of these lengths
abbrev pub asking_of : Question → (answers ways marks queue : ℕ) → Asking
asking_of q answers ways marks queue = record { junction = q.junction; number = q.number; k = q.k; answers = answers; ways = ways; marks = marks; queue = queue }

-- the outcome of an asking on a board
abbrev pub outcome : Guidance → Table → Asking → Result Stage Refusal
outcome g t q = asked g (has_free t) (sites_of t) q

-- what is known of an asking that is not refused, whose start reading has the height h
pub record Admitted (g : Guidance) (sites : ℕ) (q : Asking) (h : ℕ) : Type 0 where
  pub not_refused : ask_refusal g sites q ≡ None
  pub starts : g.roads.start q.number ≡ Some h
  pub there : q.junction < g.roads.junctions
  pub some : 1 ≤ q.k
  pub few : q.k ≤ 32
  pub answers_long : q.k ≤ q.answers
  pub ways_long : g.roads.junctions ≤ q.ways
  pub marks_long : g.roads.junctions ≤ q.marks
  pub queue_long : g.roads.junctions ≤ q.queue

-- what the checks answer: the start reading where nothing is refused, or the refusal
abbrev pub Admission : {R : Type 0} → (R → ℕ) → Guidance → (sites : ℕ) → Asking → Result R AskFault → Type 0
Admission height g sites q (Ok start) = Admitted g sites q (height start)
Admission height g sites q (Err fault) = ask_refusal g sites q ≡ Some (ask_fault fault)

-- of the last stage only how many sites are listed, and how many steps there were
abbrev pub told : Result Stage Refusal → Result (ℕ × ℕ) Refusal
told outcome = result_map_both (λ s. (length s.listed, s.steps)) (λ r. r) outcome

-- the listed sites are in front of the answers, each with its reading; where the asking is refused, all is as it was
abbrev pub Answered : {R : Type 0} → (R → ℕ) → Result Stage Refusal → (before after : List (Listed R)) → Type 0
Answered height (Ok s) before after = (listed_in height (length s.listed) after ≡ s.listed) × KeptFrom (length s.listed) before after
Answered height (Err r) before after = after ≡ before

-- the way of each of n junctions is in front of the ways; where the asking is refused, all is as it was
abbrev pub Led : (n : ℕ) → Result Stage Refusal → (before after : List ℕ) → Type 0
Led n (Ok s) before after = ((v : ℕ) → v < n → slice_index after v ≡ s.way v) × KeptFrom n before after
Led n (Err r) before after = after ≡ before

-- in the last stage nothing is left to take
abbrev pub Rests : Guidance → (k : ℕ) → Result Stage Refusal → Type 0
Rests g k (Ok s) = next g k s ≡ None
Rests g k (Err r) = Unit {0}

-- what an asking among n junctions answers: the listed sites with their readings and each junction's way, or its refusal
abbrev pub asking_answer : {R : Type 0} → (R → ℕ) → (n : ℕ) → Result Listing AskFault → List (Listed R) → (ways : List ℕ) → Answer
asking_answer height n (Ok l) answers ways = listing (listed_in height l.count answers) (way_in (take n ways))
asking_answer height n (Err fault) answers ways = call_refused (ask_fault fault)
