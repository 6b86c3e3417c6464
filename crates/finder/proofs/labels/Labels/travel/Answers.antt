use Rattle.std.proofs.Common.{◌≡◌, ◌+◌, ◌<◌, length, set, refl, sym, ap, ◌∙◌, subst, arith}
use Rattle.network.specs.declared.sites.SiteSet.{SiteSet}
use Rattle.queue.specs.Queues.{waiting}
use Rattle.network.specs.Sets.{has}
use Rattle.soonest.specs.Stages.{begin, least, step, potential, last_stage}
use Rattle.soonest.proofs.Ending.{potential_step}
use Rattle.finder.specs.Labels.{guidance, mark_in, key_in, stage_of}
use Rattle.finder.specs.Lists.{listed_in}
use Rattle.finder.proofs.Goings.{Going, going_first, going_on}
use Rattle.finder.proofs.Travels.{turned, broken, list_start, listed_long, hit, taken_stage, taken_reading, taken_next, none_here, waiters, moved, SoFar, listed_next, passed_next, yet_open, ended, ends_full, shows, next_none, now_full, removed_is}
use Rattle.std.proofs.lemmas.List.{length-set}
use Rattle.finder.proofs.labels.Labels.travel.Given.{Over}
use Rattle.finder.proofs.labels.Labels.travel.Goals as goal
use Rattle.finder.proofs.labels.Labels.travel.Goals.{then-is_wanted_at+else-count-answers, else-is_wanted_at, then-taken+else-loop-site-test, else-taken}

pub taking-init : goal.taking-init
taking-init g c =
    let guide = c.args.guide.now in
    let us = guidance (g.G.Network.roads guide) (g.G.Guide.guess guide) in
    let h = g.G.Network.height guide c.args.origin.reading in
    let k = length c.args.answers.now in
    let first = begin us k (has c.args.free) c.args.origin.junction h in (
      c.begin.ensures.sized,
      c.begin.ensures.sites,
      c.requires.some,
      λ i d l. refl,
      subst (Going us k first) (sym (c.begin.ensures.stage k)) (going_first us k (record { wellformed = g.met.G.Network.wellformed guide; lawful = g.met.G.Network.lawful guide; admissible = g.met.G.Guide.admissible guide }) (has c.args.free) c.args.origin.junction h c.requires.there (g.met.G.Network.reads guide c.args.origin.reading)),
    )

pub take_least-requires : goal.take_least-requires
take_least-requires g c =
    let guide = c.args.guide.now in
    let height = g.G.Network.height guide in
    record { read = waiters height (guidance (g.G.Network.roads guide) (g.G.Guide.guess guide)) c.taking.self c.taking.ways (has c.taking.wanted) (listed_in height c.taking.count c.taking.answers) c.taking.steps c.taking.invariant.4.sane }

pub loop-site-init : goal.loop-site-init
loop-site-init g c =
    let guide = c.args.guide.now in
    (c.taking.invariant.2, c.taking.invariant.3, list_start (guidance (g.G.Network.roads guide) (g.G.Guide.guess guide)) (length c.args.answers.now) c.in-Some.taken.junction (g.G.Network.height guide c.in-Some.taken.reading) _)

pub loop-site-preserved : goal.loop-site-preserved
loop-site-preserved g c =
    let guide = c.args.guide.now in
    let height = g.G.Network.height guide in
    let us = guidance (g.G.Network.roads guide) (g.G.Guide.guess guide) in
    let k = length c.args.answers.now in
    let r = c.in-Some.taken.reading in
    let v = c.in-Some.taken.junction in
    let i = c.loop-site.site in
    let l = c.take_least.new.self in
    let answers = c.loop-site.answers in
    let listed = set answers c.loop-site.count (record { site = i; reading = r }) in
    let u = stage_of height l c.taking.ways (has c.taking.wanted) (listed_in height c.taking.count c.taking.answers) (c.taking.steps + 1) in
    let long : length answers ≡ k = c.loop-site.auto.answers ∙ c.taking.auto.answers in
    let few = c.loop-site.invariant.0 in
    let after : length listed ≡ k = length-set answers c.loop-site.count _ ∙ long in
    elim c.if-is_wanted_at.branch [
      | then-is_wanted_at+else-count-answers w ↦
          moved (λ a (b : SiteSet) n. SoFar height us k l c.taking.ways (c.taking.steps + 1) c.args.answers.now v r u (i + 1) a (has b) n) listed c.if-is_wanted_at.answers w.remove.new.self c.if-is_wanted_at.wanted (c.loop-site.count + 1) c.if-is_wanted_at.count w.answers-is w.wanted-is w.count-is
          (listed_next height us k l c.taking.ways (c.taking.steps + 1) c.args.answers.now v r u i answers (has c.loop-site.wanted) c.loop-site.count long c.loop-site.invariant (has w.remove.new.self) (let more = w.if-count-answers.false in omega arith) (sym c.is_wanted_at.ensures ∙ w.if-is_wanted_at.true) (removed_is (has c.loop-site.wanted) (has w.remove.new.self) i w.remove.ensures))
      | else-is_wanted_at w ↦
          moved (λ a (b : SiteSet) n. SoFar height us k l c.taking.ways (c.taking.steps + 1) c.args.answers.now v r u (i + 1) a (has b) n) answers c.if-is_wanted_at.answers c.loop-site.wanted c.if-is_wanted_at.wanted c.loop-site.count c.if-is_wanted_at.count w.answers-is w.wanted-is w.count-is
          (passed_next height us k l c.taking.ways (c.taking.steps + 1) c.args.answers.now v r u i answers (has c.loop-site.wanted) c.loop-site.count long c.loop-site.invariant (sym c.is_wanted_at.ensures ∙ w.if-is_wanted_at.false))
    ]

listed_there : (g : Over) (c : goal.After-slice_known-in-Some-1 g) → SoFar (g.G.Network.height c.args.guide.now) (guidance (g.G.Network.roads c.args.guide.now) (g.G.Guide.guess c.args.guide.now)) (length c.args.answers.now) c.take_least.new.self c.taking.ways (c.taking.steps + 1) c.args.answers.now c.in-Some.taken.junction c.in-Some.taken.reading (stage_of (g.G.Network.height c.args.guide.now) c.take_least.new.self c.taking.ways (has c.taking.wanted) (listed_in (g.G.Network.height c.args.guide.now) c.taking.count c.taking.answers) (c.taking.steps + 1)) (g.G.Network.roads c.args.guide.now).sites c.if-taken.answers (has c.if-taken.wanted) c.if-taken.count
listed_there g c =
    let guide = c.args.guide.now in
    let m = g.G.Network.roads guide in
    let height = g.G.Network.height guide in
    let us = guidance m (g.G.Guide.guess guide) in
    let k = length c.args.answers.now in
    let t = c.in-Some.taken in
    let l = c.take_least.new.self in
    let steps = c.taking.steps + 1 in
    let before = listed_in height c.taking.count c.taking.answers in
    let u = stage_of height l c.taking.ways (has c.taking.wanted) before steps in
    elim c.if-taken.branch [
      | then-taken+else-loop-site-test w ↦
          moved (λ a (b : SiteSet) n. SoFar height us k l c.taking.ways steps c.args.answers.now t.junction t.reading u m.sites a (has b) n) w.loop-site.answers c.if-taken.answers w.loop-site.wanted c.if-taken.wanted w.loop-site.count c.if-taken.count w.answers-is w.wanted-is w.count-is
          (subst (λ i. SoFar height us k l c.taking.ways steps c.args.answers.now t.junction t.reading u i w.loop-site.answers (has w.loop-site.wanted) w.loop-site.count) (let a = w.loop-site-test.false in let b = w.loop-site.auto.site-end in let d = w.sites-site-end.ensures in omega arith) w.loop-site.invariant)
      | else-taken w ↦
          moved (λ a (b : SiteSet) n. SoFar height us k l c.taking.ways steps c.args.answers.now t.junction t.reading u m.sites a (has b) n) c.taking.answers c.if-taken.answers c.taking.wanted c.if-taken.wanted c.taking.count c.if-taken.count w.answers-is w.wanted-is w.count-is
          (c.taking.invariant.2, c.taking.invariant.3, none_here height us k c.taking.self l c.taking.ways (has c.taking.wanted) before c.taking.steps t c.in-Some.ensures.taken c.in-Some.ensures.marks u (height t.reading) c.taking.invariant.1 w.if-taken.false)
    ]

-- one turn of the loop is one step
stepped : (g : Over) (c : goal.After-slice_known-in-Some-1 g) → stage_of (g.G.Network.height c.args.guide.now) c.try_arcs.new.self c.try_arcs.new.ways (has c.if-taken.wanted) (listed_in (g.G.Network.height c.args.guide.now) c.if-taken.count c.if-taken.answers) (c.taking.steps + 1) ≡ step (guidance (g.G.Network.roads c.args.guide.now) (g.G.Guide.guess c.args.guide.now)) (length c.args.answers.now) c.in-Some.taken.junction (stage_of (g.G.Network.height c.args.guide.now) c.taking.self c.taking.ways (has c.taking.wanted) (listed_in (g.G.Network.height c.args.guide.now) c.taking.count c.taking.answers) c.taking.steps)
stepped g c =
    let guide = c.args.guide.now in
    let m = g.G.Network.roads guide in
    let height = g.G.Network.height guide in
    let us = guidance m (g.G.Guide.guess guide) in
    let k = length c.args.answers.now in
    let t = c.in-Some.taken in
    let l = c.take_least.new.self in
    let steps = c.taking.steps + 1 in
    let before = listed_in height c.taking.count c.taking.answers in
    let listed = listed_in height c.if-taken.count c.if-taken.answers in
    let u = stage_of height l c.taking.ways (has c.taking.wanted) before steps in
    let s = stage_of height c.taking.self c.taking.ways (has c.taking.wanted) before c.taking.steps in
    let from = c.in-Some.ensures.taken in
    let marks = c.in-Some.ensures.marks in
    let so_far = listed_there g c in
    let long : length c.if-taken.answers ≡ k = c.if-taken.auto.answers ∙ c.taking.auto.answers in
    turned us k s u (stage_of height l c.taking.ways (has c.if-taken.wanted) listed steps) t.junction (height t.reading) (taken_reading height us k c.taking.self l c.taking.ways (has c.taking.wanted) before c.taking.steps t from marks) (taken_stage height us k c.taking.self l c.taking.ways (has c.taking.wanted) before c.taking.steps t from marks) (stage_of height c.try_arcs.new.self c.try_arcs.new.ways (has c.if-taken.wanted) listed steps) so_far.2
    (yet_open height us k l c.taking.ways steps c.args.answers.now t.junction t.reading u m.sites c.if-taken.answers (has c.if-taken.wanted) c.if-taken.count long so_far)
    (c.try_arcs.ensures.stage k listed steps)

pub taking-smaller : goal.taking-smaller
taking-smaller g c =
    let guide = c.args.guide.now in
    let m = g.G.Network.roads guide in
    let height = g.G.Network.height guide in
    let us = guidance m (g.G.Guide.guess guide) in
    let k = length c.args.answers.now in
    let t = c.in-Some.taken in
    let before = listed_in height c.taking.count c.taking.answers in
    let s = stage_of height c.taking.self c.taking.ways (has c.taking.wanted) before c.taking.steps in
    let from = c.in-Some.ensures.taken in
    let few = c.taking.invariant.2 in
    let long : length c.taking.answers ≡ k = c.taking.auto.answers in
    let next = taken_next height us k c.taking.self c.take_least.new.self c.taking.ways (has c.taking.wanted) before c.taking.steps t from c.in-Some.ensures.marks (subst (λ n. n < k) (sym (listed_long height c.taking.count c.taking.answers (omega arith))) few) c.taking.invariant.0.queue in
    subst (λ x. potential us k x < potential us k s) (sym (stepped g c)) (potential_step us k (record { wellformed = g.met.G.Network.wellformed guide; lawful = g.met.G.Network.lawful guide; admissible = g.met.G.Guide.admissible guide }) s c.taking.invariant.4.sane (t.junction, from.key) next)

pub taking-preserved : goal.taking-preserved
taking-preserved g c =
    let guide = c.args.guide.now in
    let m = g.G.Network.roads guide in
    let height = g.G.Network.height guide in
    let us = guidance m (g.G.Guide.guess guide) in
    let k = length c.args.answers.now in
    let t = c.in-Some.taken in
    let before = listed_in height c.taking.count c.taking.answers in
    let s = stage_of height c.taking.self c.taking.ways (has c.taking.wanted) before c.taking.steps in
    let first = begin us k (has c.args.free) c.args.origin.junction (height c.args.origin.reading) in
    let from = c.in-Some.ensures.taken in
    let so_far = listed_there g c in
    let few = c.taking.invariant.2 in
    let long : length c.taking.answers ≡ k = c.taking.auto.answers in
    let next = taken_next height us k c.taking.self c.take_least.new.self c.taking.ways (has c.taking.wanted) before c.taking.steps t from c.in-Some.ensures.marks (subst (λ n. n < k) (sym (listed_long height c.taking.count c.taking.answers (omega arith))) few) c.taking.invariant.0.queue in (
      c.try_arcs.ensures.sized,
      λ i e. c.try_arcs.ensures.sites (m.place i) ∙ ap (λ ms. (mark_in ms (m.place i)).sited) c.in-Some.ensures.marks ∙ c.taking.invariant.1 i e,
      so_far.0,
      so_far.1,
      subst (Going us k first) (sym (stepped g c)) (going_on us k (record { wellformed = g.met.G.Network.wellformed guide; lawful = g.met.G.Network.lawful guide; admissible = g.met.G.Guide.admissible guide }) first s (t.junction, from.key) c.taking.invariant.4 next),
    )

pub returns-then-count-answers-clause-shown : goal.returns-then-count-answers-clause-shown
returns-then-count-answers-clause-shown g c =
    let guide = c.args.guide.now in
    let m = g.G.Network.roads guide in
    let height = g.G.Network.height guide in
    let us = guidance m (g.G.Guide.guess guide) in
    let k = length c.args.answers.now in
    let r = c.in-Some.taken.reading in
    let v = c.in-Some.taken.junction in
    let i = c.loop-site.site in
    let l = c.take_least.new.self in
    let answers = c.loop-site.answers in
    let listed = set answers c.loop-site.count (record { site = i; reading = r }) in
    let steps = c.taking.steps + 1 in
    let u = stage_of height l c.taking.ways (has c.taking.wanted) (listed_in height c.taking.count c.taking.answers) steps in
    let s = stage_of height c.taking.self c.taking.ways (has c.taking.wanted) (listed_in height c.taking.count c.taking.answers) c.taking.steps in
    let w = stage_of height l c.taking.ways (has c.remove.new.self) (listed_in height (c.loop-site.count + 1) listed) steps in
    let from = c.in-Some.ensures.taken in
    let here = taken_reading height us k c.taking.self l c.taking.ways (has c.taking.wanted) (listed_in height c.taking.count c.taking.answers) c.taking.steps c.in-Some.taken from c.in-Some.ensures.marks in
    let first = begin us k (has c.args.free) c.args.origin.junction (height c.args.origin.reading) in
    let before = listed_in height c.taking.count c.taking.answers in
    let t = c.in-Some.taken in
    let few = c.taking.invariant.2 in
    let long : length c.taking.answers ≡ k = c.taking.auto.answers in
    let still : length answers ≡ k = c.loop-site.auto.answers ∙ long in
    let after : length listed ≡ k = length-set answers c.loop-site.count _ ∙ still in
    let next = taken_next height us k c.taking.self l c.taking.ways (has c.taking.wanted) before c.taking.steps t from c.in-Some.ensures.marks (subst (λ n. n < k) (sym (listed_long height c.taking.count c.taking.answers (omega arith))) few) c.taking.invariant.0.queue in
    let all = hit height us k l c.taking.ways (has c.loop-site.wanted) answers c.loop-site.count steps v i r u c.loop-site.invariant.0 (sym still) c.loop-site.invariant.2 (has c.remove.new.self) (sym c.is_wanted_at.ensures ∙ c.if-is_wanted_at.true) (removed_is (has c.loop-site.wanted) (has c.remove.new.self) i c.remove.ensures) in
    let most = c.if-count-answers.true in
    let shut = now_full height us k l c.taking.ways (has c.remove.new.self) listed (c.loop-site.count + 1) steps (omega arith) (omega arith) in
    let taken = taken_stage height us k c.taking.self l c.taking.ways (has c.taking.wanted) before c.taking.steps t from c.in-Some.ensures.marks in
    let inside = c.loop-site-test.true in
    let sites = c.sites-site-end.ensures in
    let turn = broken us k s u w v (height r) here taken (i + 1) (omega arith) all shut in
    shows height us k l c.taking.ways (has c.remove.new.self) listed (c.loop-site.count + 1) steps (last_stage us k (has c.args.free) c.args.origin.junction (height c.args.origin.reading)) (ends_full height us k (record { wellformed = g.met.G.Network.wellformed guide; lawful = g.met.G.Network.lawful guide; admissible = g.met.G.Guide.admissible guide }) first s w (v, from.key) c.taking.invariant.4 next turn shut)

pub returns-in_default-clause-shown : goal.returns-in_default-clause-shown
returns-in_default-clause-shown g c =
    let guide = c.args.guide.now in
    let m = g.G.Network.roads guide in
    let height = g.G.Network.height guide in
    let us = guidance m (g.G.Guide.guess guide) in
    let k = length c.args.answers.now in
    let v = c.args.origin.junction in
    let h = height c.args.origin.reading in
    let listed = listed_in height c.taking.count c.taking.answers in
    let s = stage_of height c.taking.self c.taking.ways (has c.taking.wanted) listed c.taking.steps in
    let few = c.taking.invariant.2 in
    let long : length c.taking.answers ≡ k = c.taking.auto.answers in
    let none = next_none us k s (subst (λ n. n < k) (sym (listed_long height c.taking.count c.taking.answers (omega arith))) few) (ap (least (key_in (waiting c.taking.self.queue))) (sym c.taking.invariant.0.queue) ∙ c.in_default.ensures.taken) in
    shows height us k c.taking.self c.taking.ways (has c.taking.wanted) c.taking.answers c.taking.count c.taking.steps (last_stage us k (has c.args.free) v h) (ended height us k (begin us k (has c.args.free) v h) s c.taking.invariant.4 none)
