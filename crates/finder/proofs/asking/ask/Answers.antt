use Rattle.std.proofs.Common.{◌≡◌, ◌≤◌, ℕ, Bool, length, ◌++◌, take, drop, Ok, Err, sym, ap, ◌∙◌, subst, arith}
use mathlib.Core.Path.{fun_ext}
use Rattle.std.proofs.lemmas.Grind.{common_steps}
use Rattle.std.proofs.lemmas.List.{get_or_default, length-take-le}
use Rattle.board.specs.Held.{board_table}
use Rattle.board.specs.Promise.{ask_answer}
use Rattle.board.specs.Tables.{has_free}
use Rattle.network.specs.Sets.{has}
use Rattle.soonest.specs.Asking.{ask_refusal}
use Rattle.soonest.specs.Faults.{ask_fault}
use Rattle.soonest.specs.Stages.{last_stage}
use Rattle.finder.specs.Askings.{asking_of, outcome, Led, asking_answer}
use Rattle.finder.specs.Labels.{guidance}
use Rattle.finder.specs.Lists.{Shows}
use Rattle.finder.proofs.Outcomes.{refused_outcome, admitted_outcome, refused_told, refused_answers, refused_ways, refused_rests, shown_told, shown_answers, shown_ways, shown_answer, shown_rests, last_rests, answers_soonest, answers_throughout, promised}
use Rattle.finder.proofs.Parts.{kept_whole, kept_past, front_of, in_front, few_in_front}
use Rattle.finder.proofs.asking.ask.Given.{Over}
use Rattle.finder.proofs.asking.ask.Goals as goal

-- a refused asking's outcome
refused : (g : Over) (c : goal.After-from_residual g) → outcome (guidance (g.G.Network.roads c.args.guide.now) (g.G.Guide.guess c.args.guide.now)) (board_table c.args.board.now) (asking_of c.args.question (length c.args.answers.now) (length c.args.ways.now) (length c.args.marks.now) (length c.args.slots.now)) ≡ Err (ask_fault c.in_err-start.field-0.0)
refused g c =
    let guide = c.args.guide.now in
    let m = g.G.Network.roads guide in
    let height = g.G.Network.height guide in
    let us = guidance m (g.G.Guide.guess guide) in
    let t = board_table c.args.board.now in
    let q = asking_of c.args.question (length c.args.answers.now) (length c.args.ways.now) (length c.args.marks.now) (length c.args.slots.now) in
    refused_outcome us t q (ask_fault c.in_err-start.field-0.0) (ap (λ n. ask_refusal us n q) (sym c.sites.ensures) ∙ c.in_err-start.ensures)

pub returns-in_err-start-clause-result : goal.returns-in_err-start-clause-result
returns-in_err-start-clause-result g c =
    let guide = c.args.guide.now in
    let m = g.G.Network.roads guide in
    let height = g.G.Network.height guide in
    let us = guidance m (g.G.Guide.guess guide) in
    let t = board_table c.args.board.now in
    let q = asking_of c.args.question (length c.args.answers.now) (length c.args.ways.now) (length c.args.marks.now) (length c.args.slots.now) in
    let r : c.from_residual.result ≡ Err c.in_err-start.field-0.0 = grind (arith, common_steps, c.from_residual.ensures) in
    grind (arith, common_steps, r) ∙ refused_told us t q (ask_fault c.in_err-start.field-0.0) (refused g c)

pub returns-in_err-start-clause-answers : goal.returns-in_err-start-clause-answers
returns-in_err-start-clause-answers g c =
    let guide = c.args.guide.now in
    let m = g.G.Network.roads guide in
    let height = g.G.Network.height guide in
    let us = guidance m (g.G.Guide.guess guide) in
    let t = board_table c.args.board.now in
    let q = asking_of c.args.question (length c.args.answers.now) (length c.args.ways.now) (length c.args.marks.now) (length c.args.slots.now) in
    refused_answers us t q (ask_fault c.in_err-start.field-0.0) (refused g c) height c.args.answers.now

pub returns-in_err-start-clause-ways : goal.returns-in_err-start-clause-ways
returns-in_err-start-clause-ways g c =
    let guide = c.args.guide.now in
    let m = g.G.Network.roads guide in
    let height = g.G.Network.height guide in
    let us = guidance m (g.G.Guide.guess guide) in
    let t = board_table c.args.board.now in
    let q = asking_of c.args.question (length c.args.answers.now) (length c.args.ways.now) (length c.args.marks.now) (length c.args.slots.now) in
    refused_ways us t q (ask_fault c.in_err-start.field-0.0) (refused g c) m.junctions c.args.ways.now

pub returns-in_err-start-clause-rests : goal.returns-in_err-start-clause-rests
returns-in_err-start-clause-rests g c =
    let guide = c.args.guide.now in
    let m = g.G.Network.roads guide in
    let height = g.G.Network.height guide in
    let us = guidance m (g.G.Guide.guess guide) in
    let t = board_table c.args.board.now in
    let q = asking_of c.args.question (length c.args.answers.now) (length c.args.ways.now) (length c.args.marks.now) (length c.args.slots.now) in
    refused_rests us t q (ask_fault c.in_err-start.field-0.0) (refused g c) c.args.question.k

pub returns-in_err-start-clause-throughout : goal.returns-in_err-start-clause-throughout
returns-in_err-start-clause-throughout g c =
    let guide = c.args.guide.now in
    let m = g.G.Network.roads guide in
    let height = g.G.Network.height guide in
    let us = guidance m (g.G.Guide.guess guide) in
    let t = board_table c.args.board.now in
    let q = asking_of c.args.question (length c.args.answers.now) (length c.args.ways.now) (length c.args.marks.now) (length c.args.slots.now) in
    let r : c.from_residual.result ≡ Err c.in_err-start.field-0.0 = grind (arith, common_steps, c.from_residual.ensures) in
    answers_throughout us t q (record { wellformed = g.met.G.Network.wellformed guide; lawful = g.met.G.Network.lawful guide; admissible = g.met.G.Guide.admissible guide }) _ (ap (λ r. asking_answer height m.junctions r c.args.answers.now c.args.ways.now) r ∙ sym (ap ask_answer (refused g c)))

pub returns-in_err-start-clause-promise : goal.returns-in_err-start-clause-promise
returns-in_err-start-clause-promise g c = promised

pub returns-clause-promise : goal.returns-clause-promise
returns-clause-promise g c = promised

-- an asking that is not refused: its outcome, and what shows it
went : (g : Over) (c : goal.After-slice_known-2-1 g) → outcome (guidance (g.G.Network.roads c.args.guide.now) (g.G.Guide.guess c.args.guide.now)) (board_table c.args.board.now) (asking_of c.args.question (length c.args.answers.now) (length c.args.ways.now) (length c.args.marks.now) (length c.args.slots.now)) ≡ Ok (last_stage (guidance (g.G.Network.roads c.args.guide.now) (g.G.Guide.guess c.args.guide.now)) c.args.question.k (has_free (board_table c.args.board.now)) c.args.question.junction (g.G.Network.height c.args.guide.now c.in_ok-start.start))
went g c =
    let guide = c.args.guide.now in
    let m = g.G.Network.roads guide in
    let height = g.G.Network.height guide in
    let us = guidance m (g.G.Guide.guess guide) in
    let t = board_table c.args.board.now in
    let q = asking_of c.args.question (length c.args.answers.now) (length c.args.ways.now) (length c.args.marks.now) (length c.args.slots.now) in
    admitted_outcome us t q (height c.in_ok-start.start) (ap (λ n. ask_refusal us n q) (sym c.sites.ensures) ∙ c.in_ok-start.ensures.not_refused) c.in_ok-start.ensures.starts

shown : (g : Over) (c : goal.After-slice_known-2-1 g) → Shows (g.G.Network.height c.args.guide.now) c.travel.result c.travel.new.answers c.travel.new.ways (last_stage (guidance (g.G.Network.roads c.args.guide.now) (g.G.Guide.guess c.args.guide.now)) c.args.question.k (has_free (board_table c.args.board.now)) c.args.question.junction (g.G.Network.height c.args.guide.now c.in_ok-start.start))
shown g c =
    let guide = c.args.guide.now in
    let m = g.G.Network.roads guide in
    let height = g.G.Network.height guide in
    let us = guidance m (g.G.Guide.guess guide) in
    let t = board_table c.args.board.now in
    let q = asking_of c.args.question (length c.args.answers.now) (length c.args.ways.now) (length c.args.marks.now) (length c.args.slots.now) in
    let passed = c.in_ok-start.ensures in
    let n = c.junctions-n.ensures in
    let k = length-take-le c.args.question.k c.args.answers.now passed.answers_long in
    let free : ◌≡◌ {A = ℕ → Bool} (has c.free_sites.result) (has_free t) = fun_ext c.free_sites.ensures in
    subst (λ (f : ℕ → Bool). Shows height c.travel.result c.travel.new.answers c.travel.new.ways (last_stage us c.args.question.k f c.args.question.junction (height c.in_ok-start.start))) free
    (subst (λ k. Shows height c.travel.result c.travel.new.answers c.travel.new.ways (last_stage us k (has c.free_sites.result) c.args.question.junction (height c.in_ok-start.start))) k c.travel.ensures.shown)

pub returns-clause-result : goal.returns-clause-result
returns-clause-result g c =
    let guide = c.args.guide.now in
    let m = g.G.Network.roads guide in
    let height = g.G.Network.height guide in
    let us = guidance m (g.G.Guide.guess guide) in
    let t = board_table c.args.board.now in
    let q = asking_of c.args.question (length c.args.answers.now) (length c.args.ways.now) (length c.args.marks.now) (length c.args.slots.now) in
    let passed = c.in_ok-start.ensures in
    let n = c.junctions-n.ensures in
    let k = length-take-le c.args.question.k c.args.answers.now passed.answers_long in
    let same_answers : length c.travel.new.answers ≡ c.args.question.k = c.travel.auto.answers ∙ k in
    let few = c.travel.ensures.within in
    let within : c.travel.result.count ≤ length c.travel.new.answers = omega arith in
    shown_told height us t q (last_stage us c.args.question.k (has_free t) c.args.question.junction (height c.in_ok-start.start)) (went g c) c.travel.result c.travel.new.answers c.travel.new.ways (shown g c) within

pub returns-clause-answers : goal.returns-clause-answers
returns-clause-answers g c =
    let guide = c.args.guide.now in
    let m = g.G.Network.roads guide in
    let height = g.G.Network.height guide in
    let us = guidance m (g.G.Guide.guess guide) in
    let t = board_table c.args.board.now in
    let q = asking_of c.args.question (length c.args.answers.now) (length c.args.ways.now) (length c.args.marks.now) (length c.args.slots.now) in
    let passed = c.in_ok-start.ensures in
    let n = c.junctions-n.ensures in
    let k = length-take-le c.args.question.k c.args.answers.now passed.answers_long in
    let same_answers : length c.travel.new.answers ≡ c.args.question.k = c.travel.auto.answers ∙ k in
    let few = c.travel.ensures.within in
    let within : c.travel.result.count ≤ length c.travel.new.answers = omega arith in
    shown_answers height us t q (last_stage us c.args.question.k (has_free t) c.args.question.junction (height c.in_ok-start.start)) (went g c) c.travel.result c.travel.new.answers c.travel.new.ways (shown g c) within c.args.answers.now _ (few_in_front c.args.question.k c.args.answers.now c.travel.new.answers passed.answers_long same_answers c.travel.result.count (omega arith)) (kept_whole c.args.question.k c.args.answers.now c.travel.new.answers passed.answers_long same_answers c.travel.result.count c.travel.ensures.rest)

pub returns-clause-ways : goal.returns-clause-ways
returns-clause-ways g c =
    let guide = c.args.guide.now in
    let m = g.G.Network.roads guide in
    let height = g.G.Network.height guide in
    let us = guidance m (g.G.Guide.guess guide) in
    let t = board_table c.args.board.now in
    let q = asking_of c.args.question (length c.args.answers.now) (length c.args.ways.now) (length c.args.marks.now) (length c.args.slots.now) in
    let passed = c.in_ok-start.ensures in
    let n = c.junctions-n.ensures in
    let k = length-take-le c.args.question.k c.args.answers.now passed.answers_long in
    let same_answers : length c.travel.new.answers ≡ c.args.question.k = c.travel.auto.answers ∙ k in
    let few = c.travel.ensures.within in
    let within : c.travel.result.count ≤ length c.travel.new.answers = omega arith in
    let a = passed.ways_long in
    let fits : m.junctions ≤ length c.args.ways.now = a in
    let same_ways : length c.travel.new.ways ≡ m.junctions = c.travel.auto.ways ∙ length-take-le c.junctions-n.result c.args.ways.now (omega arith) ∙ n in
    subst (λ j. Led m.junctions (outcome us t q) c.args.ways.now (c.travel.new.ways ++ drop j c.args.ways.now)) (sym n) (shown_ways height us t q (last_stage us c.args.question.k (has_free t) c.args.question.junction (height c.in_ok-start.start)) (went g c) c.travel.result c.travel.new.answers c.travel.new.ways (shown g c) within m.junctions c.args.ways.now _ (λ v l. in_front m.junctions c.args.ways.now c.travel.new.ways fits same_ways v 0 l ∙ get_or_default c.travel.new.ways v 0 65535 (omega arith)) (kept_past m.junctions c.args.ways.now c.travel.new.ways fits same_ways))

pub returns-clause-rests : goal.returns-clause-rests
returns-clause-rests g c =
    let guide = c.args.guide.now in
    let m = g.G.Network.roads guide in
    let height = g.G.Network.height guide in
    let us = guidance m (g.G.Guide.guess guide) in
    let t = board_table c.args.board.now in
    let q = asking_of c.args.question (length c.args.answers.now) (length c.args.ways.now) (length c.args.marks.now) (length c.args.slots.now) in
    let passed = c.in_ok-start.ensures in
    let n = c.junctions-n.ensures in
    shown_rests height us t q (last_stage us c.args.question.k (has_free t) c.args.question.junction (height c.in_ok-start.start)) (went g c) c.args.question.k (last_rests us c.args.question.k (has_free t) c.args.question.junction (height c.in_ok-start.start) (record { wellformed = g.met.G.Network.wellformed guide; lawful = g.met.G.Network.lawful guide; admissible = g.met.G.Guide.admissible guide }) passed.there (g.met.G.Network.reads guide c.in_ok-start.start))

pub returns-clause-soonest : goal.returns-clause-soonest
returns-clause-soonest g c =
    let guide = c.args.guide.now in
    let m = g.G.Network.roads guide in
    let height = g.G.Network.height guide in
    let us = guidance m (g.G.Guide.guess guide) in
    let t = board_table c.args.board.now in
    let q = asking_of c.args.question (length c.args.answers.now) (length c.args.ways.now) (length c.args.marks.now) (length c.args.slots.now) in
    let passed = c.in_ok-start.ensures in
    let n = c.junctions-n.ensures in
    let k = length-take-le c.args.question.k c.args.answers.now passed.answers_long in
    let same_answers : length c.travel.new.answers ≡ c.args.question.k = c.travel.auto.answers ∙ k in
    let few = c.travel.ensures.within in
    let within : c.travel.result.count ≤ length c.travel.new.answers = omega arith in
    let a = passed.ways_long in
    let fits : m.junctions ≤ length c.args.ways.now = a in
    let same_ways : length c.travel.new.ways ≡ m.junctions = c.travel.auto.ways ∙ length-take-le c.junctions-n.result c.args.ways.now (omega arith) ∙ n in
    answers_soonest us t q (record { wellformed = g.met.G.Network.wellformed guide; lawful = g.met.G.Network.lawful guide; admissible = g.met.G.Guide.admissible guide }) _ (shown_answer height us t q (last_stage us c.args.question.k (has_free t) c.args.question.junction (height c.in_ok-start.start)) (went g c) c.travel.result c.travel.new.answers c.travel.new.ways (shown g c) within m.junctions _ _ (few_in_front c.args.question.k c.args.answers.now c.travel.new.answers passed.answers_long same_answers c.travel.result.count (omega arith)) (subst (λ j. take m.junctions (c.travel.new.ways ++ drop j c.args.ways.now) ≡ c.travel.new.ways) (sym n) (front_of m.junctions c.args.ways.now c.travel.new.ways fits same_ways)))

pub returns-clause-throughout : goal.returns-clause-throughout
returns-clause-throughout g c =
    let guide = c.args.guide.now in
    let m = g.G.Network.roads guide in
    let height = g.G.Network.height guide in
    let us = guidance m (g.G.Guide.guess guide) in
    let t = board_table c.args.board.now in
    let q = asking_of c.args.question (length c.args.answers.now) (length c.args.ways.now) (length c.args.marks.now) (length c.args.slots.now) in
    let passed = c.in_ok-start.ensures in
    let n = c.junctions-n.ensures in
    let k = length-take-le c.args.question.k c.args.answers.now passed.answers_long in
    let same_answers : length c.travel.new.answers ≡ c.args.question.k = c.travel.auto.answers ∙ k in
    let few = c.travel.ensures.within in
    let within : c.travel.result.count ≤ length c.travel.new.answers = omega arith in
    let a = passed.ways_long in
    let fits : m.junctions ≤ length c.args.ways.now = a in
    let same_ways : length c.travel.new.ways ≡ m.junctions = c.travel.auto.ways ∙ length-take-le c.junctions-n.result c.args.ways.now (omega arith) ∙ n in
    answers_throughout us t q (record { wellformed = g.met.G.Network.wellformed guide; lawful = g.met.G.Network.lawful guide; admissible = g.met.G.Guide.admissible guide }) _ (shown_answer height us t q (last_stage us c.args.question.k (has_free t) c.args.question.junction (height c.in_ok-start.start)) (went g c) c.travel.result c.travel.new.answers c.travel.new.ways (shown g c) within m.junctions _ _ (few_in_front c.args.question.k c.args.answers.now c.travel.new.answers passed.answers_long same_answers c.travel.result.count (omega arith)) (subst (λ j. take m.junctions (c.travel.new.ways ++ drop j c.args.ways.now) ≡ c.travel.new.ways) (sym n) (front_of m.junctions c.args.ways.now c.travel.new.ways fits same_ways)))
