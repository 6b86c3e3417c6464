-- That the last stage of an asking lists the soonest sites. Assumes nothing.
use Rattle.std.proofs.Common.{◌≡◌, ℕ, ◌<◌, Bool, true, length, None, subst, arith}
use Rattle.std.proofs.lemmas.Bool.{lt-leb}
use Rattle.network.specs.Paths.{Path}
use Rattle.network.proofs.First.{clash}
use Rattle.soonest.specs.Claims.{Soonest, site_at, reading_at}
use Rattle.soonest.specs.Guidance.{Guidance, Sound}
use Rattle.soonest.specs.Stages.{Stage, begin, next, potential, finish, last_stage}
use Rattle.soonest.proofs.Courses.{Course, key_before, run_course, begin_course}
use Rattle.soonest.proofs.Ending.{sane_begin, run_rests}
use Rattle.soonest.proofs.Least.{next_none}
use Rattle.soonest.proofs.Leading.{ways_lead}

module _ (g : Guidance) (k : ℕ) (sound : Sound g) (free : ℕ → Bool) (v h : ℕ) where
  -- a stage on its course from which nothing is taken any more
  pub rest_lists : (s : Stage) (x : ℕ) → Course g k free v h s x g.roads.sites g.roads.arcs → next g k s ≡ None → Soonest g.roads free v h k s.listed s.way
  rest_lists s x on rest =
      let e = on.entered in
      record {
        at_most_k = e.few;
        each_is_free = e.each_free;
        each_once = e.once;
        readings_never_fall = e.rising;
        way_reads_it = λ i l.
            let own = e.held i l in
            let w = ways_lead g.roads sound.wellformed sound.lawful v h s.reading s.way on.reached (g.roads.place (site_at s.listed i)) own.0 own.1 in
            let same : w.1 ≡ reading_at s.listed i = let least = e.soonest i l w.1 w.0 w.3 in omega arith in
            (w.0, w.2, subst (Path g.roads v h w.0 (g.roads.place (site_at s.listed i))) same w.3);
        none_sooner = λ i q arcs l path. e.soonest i l q arcs path;
        no_other_sooner = λ t q i arcs low is_free out path l. e.before i l t q arcs low (e.wanted_else t is_free out) path;
        no_other_where_fewer = λ t q arcs fewer low is_free out path.
            let room = lt-leb k (length s.listed) fewer in
            let some = key_before g k sound free v h s x on room t q arcs low (e.wanted_else t is_free out) path in
            clash (s.key some.0) some.1 some.3 (next_none g k s rest room some.0 some.2);
      }

-- the last stage of an asking lists the k free sites that are reached soonest, with their readings and ways
pub soonest_listed : (g : Guidance) (k : ℕ) (free : ℕ → Bool) (v h : ℕ) → Sound g → v < g.roads.junctions → g.roads.reads h ≡ true → Soonest g.roads free v h k (last_stage g k free v h).listed (last_stage g k free v h).way
unfolding finish
soonest_listed g k free v h sound low reads =
    let first = begin g k free v h in
    let on = run_course g k sound free v h (potential g k first) first v (begin_course g k sound free v h low reads) in
    rest_lists g k sound free v h (last_stage g k free v h) on.0 on.1 (run_rests g k sound first (sane_begin g k sound free v h low reads))
