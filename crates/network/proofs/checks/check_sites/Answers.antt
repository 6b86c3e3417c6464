use Rattle.std.proofs.Common.{sym, ap, ◌∙◌, arith}
use Rattle.std.specs.Option.{option_map}
use Rattle.network.specs.declared.refusals.Places.TheVariants.{One}
use Rattle.network.specs.Refused.{refusal}
use Rattle.network.proofs.Refusing.{sites_many, sites_then, first_past}
use Rattle.network.proofs.checks.check_sites.Goals as goal

pub returns-then-sites-gt-MOST_SITES : goal.returns-then-sites-gt-MOST_SITES
returns-then-sites-gt-MOST_SITES c = sym (sites_many c.args.junctions c.args.sites.now (omega arith))

pub returns-in-Some : goal.returns-in-Some
returns-in-Some c =
    let n = c.args.junctions in
    let s = c.args.sites.now in
    sym (sites_then n s (omega arith) ∙ first_past s n (λ k. refusal 8 (One k)) ∙ ap (option_map (λ k. refusal 8 (One k))) (sym c.first_past.ensures.first ∙ c.in-Some.is))

pub returns-in-None : goal.returns-in-None
returns-in-None c =
    let n = c.args.junctions in
    let s = c.args.sites.now in
    sym (sites_then n s (omega arith) ∙ first_past s n (λ k. refusal 8 (One k)) ∙ ap (option_map (λ k. refusal 8 (One k))) (sym c.first_past.ensures.first ∙ c.in-None.is))
