use Rattle.std.proofs.Common.{◌<◌, false, length, is_some, None, refl, sym, ap, ◌∙◌, rules}
use Rattle.std.specs.Option.{option_map}
use Rattle.std.proofs.lemmas.Bool.{false≢true}
use Rattle.std.proofs.lemmas.List.{get_or_default}
use Rattle.queue.proofs.Seen.{belongs}
use Rattle.queue.specs.Queues.{capacity, waiting}
use Rattle.finder.proofs.Bridges.{keys_updated, reads_within}
use Rattle.finder.proofs.Nexts.{as_pair, least_said, least_own, nothing_taken}
use Rattle.finder.proofs.labels.Labels.take_least.Goals as goal

pub returns-in_err-junction-clause-taken : goal.returns-in_err-junction-clause-taken
returns-in_err-junction-clause-taken g c =
    let q = c.args.self.now.queue in
    nothing_taken c.args.self.now _ c.from_residual.result c.from_residual.ensures
    (least_said (waiting q) (λ h x e. (belongs q h x e).0) (capacity q) ∙ ap (option_map as_pair) (sym c.take_least.ensures.least ∙ c.in_err-junction.was))

pub offset_bounds-self-junction : goal.offset_bounds-self-junction
offset_bounds-self-junction g c =
    let q = c.args.self.now.queue in
    let here = least_own (waiting q) (λ h x e. (belongs q h x e).0) (capacity q) c.in_ok-junction.field-0 (sym c.in_ok-junction.ensures.least) in
    let h : c.in_ok-junction.field-0.junction < length c.args.self.now.marks.now = reads_within c.args.self.now.marks.now c.in_ok-junction.field-0.junction (c.requires.read c.in_ok-junction.field-0.junction c.in_ok-junction.field-0 here.0) in
    search rules

pub bounds-self-junction : goal.bounds-self-junction
bounds-self-junction g c =
    let q = c.args.self.now.queue in
    let here = least_own (waiting q) (λ h x e. (belongs q h x e).0) (capacity q) c.in_ok-junction.field-0 (sym c.in_ok-junction.ensures.least) in
    reads_within c.args.self.now.marks.now c.in_ok-junction.field-0.junction (c.requires.read c.in_ok-junction.field-0.junction c.in_ok-junction.field-0 here.0)

pub unreachable-requires : goal.unreachable-requires
unreachable-requires g c =
    let q = c.args.self.now.queue in
    let marks = c.args.self.now.marks.now in
    let key = c.in_ok-junction.field-0 in
    let here = least_own (waiting q) (λ h x e. (belongs q h x e).0) (capacity q) key (sym c.in_ok-junction.ensures.least) in
    let read = c.requires.read key.junction key here.0 in
    let within = reads_within marks key.junction read in
    absurd (false≢true (sym (ap is_some (ap (λ m. m.reading) (get_or_default marks key.junction _ c.index-self-junction.result within) ∙ c.in_default.is)) ∙ read))

pub returns-clause-taken : goal.returns-clause-taken
returns-clause-taken g c =
    let q = c.args.self.now.queue in
    let marks = c.args.self.now.marks.now in
    let key = c.in_ok-junction.field-0 in
    let here = least_own (waiting q) (λ h x e. (belongs q h x e).0) (capacity q) key (sym c.in_ok-junction.ensures.least) in
    let within = reads_within marks key.junction (c.requires.read key.junction key here.0) in
    let same = get_or_default marks key.junction (record { reading = None; sited = false }) c.index-self-junction.result within in
    record {
      key = key.height;
      least_waits = least_said (waiting q) (λ h x e. (belongs q h x e).0) (capacity q) ∙ ap (option_map as_pair) (sym c.in_ok-junction.ensures.least);
      its_reading = ap (λ m. m.reading) same ∙ c.in-Some.is;
      its_site = sym (ap (λ m. m.sited) same);
      waits_no_more = keys_updated (waiting q) (waiting c.take_least.new.self) key.junction None None refl c.in_ok-junction.ensures.without;
    }
