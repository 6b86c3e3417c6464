-- The sites alone are at rest, and wait.
use Rattle.std.proofs.Common.{◌≡◌, ℕ, suc, ◌+◌, List, [], refl, sym, ap, ◌∙◌, subst, ⊎_elim, arith}
use Rattle.std.proofs.lemmas.Bool.{cases_eq}
use Rattle.network.specs.Model.{Roads}
use Rattle.queue.specs.Waiting.{Updated}
use Rattle.rows.specs.Nearest.{entry}
use Rattle.rows.specs.Offering.{offer, offer_sites}
use Rattle.rows.specs.declared.entry.Entry.{Entry}
use Rattle.rows.proofs.Turning.{sites_none, sites_here, sites_elsewhere}
use Rattle.laying.specs.Settling.{IsAtRest}
use Rattle.laying.proofs.Relaxing.{starts}
use Rattle.laying.proofs.ShortTimes.{short_starts}

module _ (m : Roads) (C : ℕ) where
  pub no_site_yet : (rows : ℕ → List Entry) → ((v : ℕ) → rows v ≡ []) → (v : ℕ) → rows v ≡ offer_sites m C v 0
  no_site_yet rows e v = e v ∙ sym (sites_none m C v)

  -- one more site
  pub next_site : (rows after : ℕ → List Entry) (s v : ℕ) → m.place s ≡ v → Updated rows after v (offer C (rows v) (entry s 0)) → ((u : ℕ) → rows u ≡ offer_sites m C u s) → (u : ℕ) → after u ≡ offer_sites m C u (s + 1)
  next_site rows after s v here change so_far u =
      ⊎_elim
      (λ e. ap after e ∙ change.0 ∙ ap (λ r. offer C r (entry s 0)) (so_far v) ∙ sym (sites_here m C v s here) ∙ ap (λ w. offer_sites m C w (suc s)) (sym e) ∙ more u)
      (λ d. change.1 u d ∙ so_far u ∙ sym (sites_elsewhere m C u s (λ p. d (sym p ∙ here))) ∙ more u)
      (cases_eq u v)
    where
      more : (u : ℕ) → offer_sites m C u (suc s) ≡ offer_sites m C u (s + 1)
      more u = ap (offer_sites m C u) (let z : suc s ≡ s + 1 = omega arith in z)

  pub sites_rest : (longest : ℕ) (rows : ℕ → List Entry) (settled : ℕ → ℕ) → ((v : ℕ) → rows v ≡ offer_sites m C v m.sites) → ((v : ℕ) → settled v ≡ 0) → (f : ℕ → ℕ) → IsAtRest m f C longest rows settled
  sites_rest longest rows settled sites none f = subst (IsAtRest m f C longest rows) (λ i v. sym (none v) i) (record {
    relaxed = λ a. 0;
    level = 0;
    state = starts m f C rows sites;
    short = short_starts m f C longest rows sites;
    all = λ a n. refl;
  })
