-- Sets of sites. Assumes nothing.
use Rattle.std.specs.Prelude.{ℕ, Bool, false, ◌&&◌, nat_lt, slice_index_or}
use Rattle.network.specs.declared.sites.SiteSet.{SiteSet}

-- whether the site is in the set; no site past 64 is
abbrev pub has : SiteSet → ℕ → Bool
has set site = nat_lt site 64 && slice_index_or set.flags site false
