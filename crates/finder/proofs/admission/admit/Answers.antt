use Rattle.std.proofs.Common.{◌≡◌, ◌<◌, ◌≤◌, Err, true, ◌&&◌, eqb, leb, sym, ap, ◌∙◌, subst, inl, inr, ⊎_elim, arith}
use Rattle.std.specs.Option.{option_map}
use Rattle.std.specs.Result.{result_ok}
use Rattle.std.proofs.lemmas.Bool.{ne_eqb, eq-eqb, and_parts, leb-true}
use Rattle.std.proofs.lemmas.Grind.{common_steps}
use Rattle.soonest.specs.declared.faults.AskFault.TheVariants.{Start}
use Rattle.finder.specs.Askings.{asking_of, Admission}
use Rattle.finder.specs.Labels.{guidance}
use Rattle.finder.proofs.Refusing.{no_junction, no_start, no_number, no_board, no_room, not_refused}
use Rattle.finder.proofs.admission.admit.Goals as goal

pub returns-then-question-junctions : goal.returns-then-question-junctions
returns-then-question-junctions g c =
    let guide = c.args.guide.now in
    let m = g.G.Network.roads guide in
    let height = g.G.Network.height guide in
    let us = guidance m (g.G.Guide.guess guide) in
    let q = asking_of c.args.question c.args.room.answers c.args.room.ways c.args.room.marks c.args.room.queue in
    let n = c.junctions-junctions.ensures in
    no_junction us c.args.sites q (omega arith)

pub returns-in_err-start : goal.returns-in_err-start
returns-in_err-start g c =
    let guide = c.args.guide.now in
    let m = g.G.Network.roads guide in
    let height = g.G.Network.height guide in
    let us = guidance m (g.G.Guide.guess guide) in
    let q = asking_of c.args.question c.args.room.answers c.args.room.ways c.args.room.marks c.args.room.queue in
    let n = c.junctions-junctions.ensures in
    let there : c.args.question.junction < m.junctions = omega arith in
    let none = c.ok_or.ensures.ok_part ∙ ap result_ok c.in_err-start.was in
    let refused : c.from_residual.result ≡ Err Start = grind (arith, common_steps, c.from_residual.ensures, c.ok_or.ensures.value, c.in_err-start.was) in
    subst (Admission height us c.args.sites q) (sym refused) (no_start us c.args.sites q there (sym c.start.ensures ∙ ap (option_map height) none))

pub returns-then-question-lt1 : goal.returns-then-question-lt1
returns-then-question-lt1 g c =
    let guide = c.args.guide.now in
    let m = g.G.Network.roads guide in
    let height = g.G.Network.height guide in
    let us = guidance m (g.G.Guide.guess guide) in
    let q = asking_of c.args.question c.args.room.answers c.args.room.ways c.args.room.marks c.args.room.queue in
    let n = c.junctions-junctions.ensures in
    let there : c.args.question.junction < m.junctions = omega arith in
    let starts = sym c.start.ensures ∙ ap (option_map height) (c.ok_or.ensures.ok_part ∙ ap result_ok c.in_ok-start.was) in
    no_number us c.args.sites q there _ starts (⊎_elim (λ l. inl l) (λ l. inr l.1) c.then-question-lt1.either)

pub returns-then-sites : goal.returns-then-sites
returns-then-sites g c =
    let guide = c.args.guide.now in
    let m = g.G.Network.roads guide in
    let height = g.G.Network.height guide in
    let us = guidance m (g.G.Guide.guess guide) in
    let q = asking_of c.args.question c.args.room.answers c.args.room.ways c.args.room.marks c.args.room.queue in
    let n = c.junctions-junctions.ensures in
    let there : c.args.question.junction < m.junctions = omega arith in
    let starts = sym c.start.ensures ∙ ap (option_map height) (c.ok_or.ensures.ok_part ∙ ap result_ok c.in_ok-start.was) in
    let some : 1 ≤ c.args.question.k = c.if-question-lt1.false in
    let few : c.args.question.k ≤ 32 = c.if-question-gt-MOST_ASKED.false in
    no_board us c.args.sites q there _ starts some few (ne_eqb c.args.sites m.sites (λ e. c.if-sites.true (e ∙ sym c.sites.ensures)))

pub returns-then-not-serves : goal.returns-then-not-serves
returns-then-not-serves g c =
    let guide = c.args.guide.now in
    let m = g.G.Network.roads guide in
    let height = g.G.Network.height guide in
    let us = guidance m (g.G.Guide.guess guide) in
    let q = asking_of c.args.question c.args.room.answers c.args.room.ways c.args.room.marks c.args.room.queue in
    let n = c.junctions-junctions.ensures in
    let there : c.args.question.junction < m.junctions = omega arith in
    let starts = sym c.start.ensures ∙ ap (option_map height) (c.ok_or.ensures.ok_part ∙ ap result_ok c.in_ok-start.was) in
    let some : 1 ≤ c.args.question.k = c.if-question-lt1.false in
    let few : c.args.question.k ≤ 32 = c.if-question-gt-MOST_ASKED.false in
    let alike : eqb c.args.sites m.sites ≡ true = eq-eqb c.args.sites m.sites (c.if-sites.false ∙ c.sites.ensures) in
    no_room us c.args.sites q there _ starts some few alike (ap (λ n. leb c.args.question.k c.args.room.answers && leb n c.args.room.ways && leb n c.args.room.marks && leb n c.args.room.queue) (sym n) ∙ sym c.serves.ensures ∙ c.if-not-serves.true)

pub returns : goal.returns
returns g c =
    let guide = c.args.guide.now in
    let m = g.G.Network.roads guide in
    let height = g.G.Network.height guide in
    let us = guidance m (g.G.Guide.guess guide) in
    let q = asking_of c.args.question c.args.room.answers c.args.room.ways c.args.room.marks c.args.room.queue in
    let n = c.junctions-junctions.ensures in
    let there : c.args.question.junction < m.junctions = omega arith in
    let starts = sym c.start.ensures ∙ ap (option_map height) (c.ok_or.ensures.ok_part ∙ ap result_ok c.in_ok-start.was) in
    let some : 1 ≤ c.args.question.k = c.if-question-lt1.false in
    let few : c.args.question.k ≤ 32 = c.if-question-gt-MOST_ASKED.false in
    let alike : eqb c.args.sites m.sites ≡ true = eq-eqb c.args.sites m.sites (c.if-sites.false ∙ c.sites.ensures) in
    let room = ap (λ n. leb c.args.question.k c.args.room.answers && leb n c.args.room.ways && leb n c.args.room.marks && leb n c.args.room.queue) (sym n) ∙ sym c.serves.ensures ∙ c.if-not-serves.false in
    let three = and_parts (leb c.args.question.k c.args.room.answers && leb m.junctions c.args.room.ways && leb m.junctions c.args.room.marks) (leb m.junctions c.args.room.queue) room in
    let two = and_parts (leb c.args.question.k c.args.room.answers && leb m.junctions c.args.room.ways) (leb m.junctions c.args.room.marks) three.0 in
    let one = and_parts (leb c.args.question.k c.args.room.answers) (leb m.junctions c.args.room.ways) two.0 in
    record {
      not_refused = not_refused us c.args.sites q there _ starts some few alike room;
      starts = starts;
      there = there;
      some = some;
      few = few;
      answers_long = leb-true c.args.question.k c.args.room.answers one.0;
      ways_long = leb-true m.junctions c.args.room.ways one.1;
      marks_long = leb-true m.junctions c.args.room.marks two.1;
      queue_long = leb-true m.junctions c.args.room.queue three.1;
    }
