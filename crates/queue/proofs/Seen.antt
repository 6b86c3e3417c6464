-- What callers may lean on: what waits belongs where it waits, and what a change does to the count. Assumes nothing.
use Rattle.std.proofs.Common.{◌≡◌, ℕ, ◌+◌, ◌<◌, ◌≤◌, Some, None, sym, ap, ◌∙◌, ⊎_elim, arith}
use Rattle.std.proofs.lemmas.Bool.{cases_lt}
use Rattle.queue.specs.declared.queue.Queue.{Queue}
use Rattle.queue.specs.Room.{held}
use Rattle.queue.specs.Queues.{capacity, waiting, waiting_count, Belongs}
use Rattle.std.specs.Option.{option_len}
use Rattle.queue.specs.Waiting.{Updated, least_of, count_of}
use Rattle.queue.proofs.Counting.{count_changed, count_same}
use Rattle.queue.proofs.Holding.{held_by}
use Rattle.queue.proofs.Least.{least_waits}

module _ {T : Type 0} {k : _} {o : _} {e : _} {p : _} where
  pub belongs : (q : Queue T k o e p) → Belongs q
  unfolding capacity waiting
  belongs q h x is =
      let w = held_by k.handled (held q.room) q.room.len h x (record { item = x; place = 0 }) q.whole.placed.fits is in
      (w.bears, w.within)

  -- r is q after a change
  module _ (q r : Queue T k o e p) (same : capacity r ≡ capacity q) where
    as_many : count_of (waiting r) (capacity q) ≡ waiting_count r
    as_many = ap (count_of (waiting r)) (sym same)

    pub set_count : {h : ℕ} {x : T} → h < capacity q → Updated (waiting q) (waiting r) h (Some x) → waiting_count r ≤ waiting_count q + 1
    set_count {h} l u =
        let a = count_changed (waiting q) (waiting r) (capacity q) h l u.1 in
        let b = ap option_len u.0 in
        let c = as_many in
        omega arith

    pub remove_count : {h : ℕ} → Updated (waiting q) (waiting r) h None → waiting_count r ≤ waiting_count q
    remove_count {h} u =
        let c = as_many in
        ⊎_elim
        (λ l. let a = count_changed (waiting q) (waiting r) (capacity q) h l u.1 in let b = ap option_len u.0 in omega arith)
        (λ l. let a = count_same (waiting q) (waiting r) (capacity q) (λ i m. u.1 i (λ e. omega arith)) in omega arith)
        (cases_lt h (capacity q))

    pub take_count : {x : T} → Some x ≡ least_of k.before (waiting q) (capacity q) → Updated (waiting q) (waiting r) (k.handled x) None → waiting_count r + 1 ≡ waiting_count q
    take_count {x} is u =
        let w = least_waits k.before (waiting q) (capacity q) x (sym is) in
        let here = (belongs q w.0 x w.2).0 in
        let l = w.1 in
        let a = count_changed (waiting q) (waiting r) (capacity q) (k.handled x) (omega arith) u.1 in
        let b = ap option_len u.0 in
        let c = ap option_len (ap (waiting q) here ∙ w.2) in
        let d = as_many in
        omega arith
