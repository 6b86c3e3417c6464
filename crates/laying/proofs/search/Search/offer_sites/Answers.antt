-- One more site offers itself.
use Rattle.std.proofs.Common.{◌≡◌, ℕ, ◌+◌, ltb, refl, sym, ap, ◌∙◌, subst, arith}
use Rattle.std.proofs.lemmas.Bool.{lt-ltb}
use Rattle.network.specs.Model.{Roads}
use Rattle.network.proofs.First.{clash, provided_true}
use Rattle.network.proofs.Following.{provided_says}
use Rattle.rows.specs.Offering.{offer_sites}
use Rattle.laying.specs.Search.{IsQueued, IsSized, rows_of, settled_of}
use Rattle.laying.specs.declared.search.Search.{Search}
use Rattle.laying.proofs.Beginning.{no_site_yet, next_site, sites_rest}
use Rattle.laying.proofs.Stepping.{numbers}
use Rattle.laying.proofs.search.Search.offer_sites.Goals.{in-Some, in_default}
use Rattle.laying.proofs.search.Search.offer_sites.Goals as goal

-- what holds when so many sites have offered themselves
abbrev Offered : Roads → (first q : Search) → (n : ℕ) → Type 0
Offered m first q n = IsSized m.junctions q × (q.most ≡ first.most) × (q.settled ≡ first.settled) × ((v : ℕ) → rows_of q v ≡ offer_sites m q.most v n) × IsQueued q

pub loop-site-init : goal.loop-site-init
loop-site-init g c = (c.requires.sized, refl, refl, no_site_yet (g.N.Network.roads c.args.roads.now) c.args.self.now.most (rows_of c.args.self.now) c.requires.rows, c.requires.queued)

pub loop-site-preserved : goal.loop-site-preserved
loop-site-preserved g c =
    let m = g.N.Network.roads c.args.roads.now in
    let s = c.loop-site.site in
    let all = c.sites-site-end.ensures in
    let more = c.loop-site-test.true in
    let i = c.loop-site.invariant in
    elim c.match-place.branch [
      | in-Some w ↦
          let t = w.offer.new.self in
          let here = (provided_says (ltb s m.sites) (m.place s) w.in-Some.junction (sym c.place.ensures ∙ w.in-Some.is)).1 in
          subst (λ q. Offered m c.args.self.now q (s + 1)) (sym w.self-is) (
            subst (λ n. IsSized n t) i.0.rows w.offer.ensures.sized,
            w.offer.ensures.most ∙ i.1,
            w.offer.ensures.settled ∙ i.2,
            subst (λ C. (v : ℕ) → rows_of t v ≡ offer_sites m C v (s + 1)) (sym w.offer.ensures.most) (next_site m c.loop-site.self.most (rows_of c.loop-site.self) (rows_of t) s w.in-Some.junction here w.offer.ensures.rows i.3),
            w.offer.ensures.queued,
          )
      | in_default w ↦ clash c.place.result (m.place s) (c.place.ensures ∙ provided_true (ltb s m.sites) (m.place s) (lt-ltb s m.sites (omega arith))) w.in_default.is
    ]

pub returns-clause-rest : goal.returns-clause-rest
returns-clause-rest g c =
    let m = g.N.Network.roads c.args.roads.now in
    let s = c.loop-site.self in
    let i = c.loop-site.invariant in
    let all = c.sites-site-end.ensures in
    let last = c.loop-site-test.false in
    let within = c.loop-site.auto.site-end in
    sites_rest m s.most 172800 (rows_of s) (settled_of s)
    (λ v. i.3 v ∙ ap (offer_sites m s.most v) (omega arith))
    (λ v. ap (λ l. numbers l v) i.2 ∙ c.requires.settled v)
