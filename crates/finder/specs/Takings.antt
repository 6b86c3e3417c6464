-- What taking the junction of least key answers, and leaves. Assumes nothing.
use Rattle.std.specs.Prelude.{◌≡◌, ℕ, Some, None}
use Rattle.queue.specs.Queues.{capacity, waiting}
use Rattle.soonest.specs.Stages.{upd, least}
use Rattle.finder.specs.Labels.{mark_in, key_in, sited_in}
use Rattle.finder.specs.declared.labels.Labels.{Labels}
use Rattle.finder.specs.declared.taking.Taken.{Taken}

-- the junction of least key with what is noted of it; it waits no more, and the others as before
pub record TakenFrom {R : Type 0} (before after : Labels R) (t : Taken R) : Type 0 where
  pub key : ℕ
  pub least_waits : least (key_in (waiting before.queue)) (capacity before.queue) ≡ Some (t.junction, key)
  pub its_reading : (mark_in before.marks.now t.junction).reading ≡ Some t.reading
  pub its_site : t.sited ≡ sited_in before t.junction
  pub waits_no_more : key_in (waiting after.queue) ≡ upd (key_in (waiting before.queue)) t.junction None
