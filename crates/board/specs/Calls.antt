-- The calls on one board, and the holds that they grant and take back, counted from the calls alone. Assumes nothing.
use Rattle.std.specs.Prelude.{ℕ, suc, ◌+◌, ◌-◌, Bool, true, false, ◌&&◌, List, [], ◌∷◌, length, ◌==◌, nat_lt, slice_index}
use Rattle.network.specs.Layers.{Layer}
use Rattle.soonest.specs.Asking.{Asking}
use Rattle.soonest.specs.Guidance.{Guidance}

-- an asking brings its own guide under its own pile of layers; a hold that is handed back bears a number and a site
pub data Call : Type 0 where
  asking : Guidance → List Layer → Asking → Call
  holding : (site : ℕ) → Call
  handing_back : (number site : ℕ) → Call

-- a board in its first state: its number, and the bays of each site
pub record First : Type 0 where
  pub number : ℕ
  pub bays : List ℕ

-- how many holds were granted at a site, and how many taken back there
abbrev pub Tally : Type 0
Tally = ℕ × ℕ

-- one more granted, where there is such a site and a bay is free
abbrev pub grant : Bool → Tally → Tally
grant true t = (suc t.0, t.1)
grant false t = t

-- one more taken back, where it bears the board's number and more were granted at the site than taken back
abbrev pub take_back : Bool → Tally → Tally
take_back true t = (t.0, suc t.1)
take_back false t = t

module _ (first : First) where
  -- the bays of a site; a site that is not there has none
  abbrev pub bays_at : ℕ → ℕ
  bays_at s = slice_index first.bays s

  -- the count at a site after some calls, the newest first
  unfoldable pub tally : List Call → ℕ → Tally
  tally [] s = (0, 0)
  tally (asking g layers q ∷ past) s = tally past s
  tally (holding t ∷ past) s = grant (t == s && nat_lt s (length first.bays) && nat_lt (tally past s).0 (bays_at s + (tally past s).1)) (tally past s)
  tally (handing_back n t ∷ past) s = take_back (t == s && n == first.number && nat_lt s (length first.bays) && nat_lt (tally past s).1 (tally past s).0) (tally past s)

  abbrev pub granted_at : List Call → ℕ → ℕ
  granted_at past s = (tally past s).0

  abbrev pub taken_back_at : List Call → ℕ → ℕ
  taken_back_at past s = (tally past s).1

  -- the free bays: the site's bays, less the holds granted there, plus those taken back
  abbrev pub free_at : List Call → ℕ → ℕ
  free_at past s = bays_at s + taken_back_at past s - granted_at past s
