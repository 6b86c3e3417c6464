-- An asking as it goes on: how it begins, what a step makes of it, and where it ends. A reading stands as its height.
-- Assumes nothing.
use Rattle.std.specs.Prelude.{ℕ, zero, suc, ◌+◌, ◌^◌, Bool, true, false, not, ◌&&◌, List, [], ◌∷◌, ◌++◌, length, Some, None, Option, ◌==◌, nat_le, nat_lt}
use Rattle.network.specs.Model.{arrival}
use Rattle.soonest.specs.Guidance.{Guidance}

pub record Stage : Type 0 where
  -- by junction: its reading so far, the key by which it waits, and the arc by which it got its reading, 65535 for none
  pub reading : ℕ → Option ℕ
  pub key : ℕ → Option ℕ
  pub way : ℕ → ℕ
  -- the sites that are still wanted, those listed with their readings, and how many steps there were
  pub wanted : ℕ → Bool
  pub listed : List (ℕ × ℕ)
  pub steps : ℕ

-- f, but x at j
abbrev pub upd : {X : Type 0} → (ℕ → X) → ℕ → X → ℕ → X
upd f j x i = elim (i == j) [ true ↦ x | false ↦ f i ]

-- of the junction j and the best so far, each with its key, the one of lesser key; of equal keys the best so far
abbrev pub better : ℕ → Option ℕ → Option (ℕ × ℕ) → Option (ℕ × ℕ)
better j None best = best
better j (Some κ) None = Some (j, κ)
better j (Some κ) (Some b) = elim (nat_lt κ b.1) [ true ↦ Some (j, κ) | false ↦ Some b ]

-- of the junctions below n that wait, the one of least key, then least number, with its key
unfoldable pub least : (ℕ → Option ℕ) → ℕ → Option (ℕ × ℕ)
least key zero = None
least key (suc j) = better j (key j) (least key j)

-- whether q is below a reading, or there is none
abbrev pub below : ℕ → Option ℕ → Bool
below q None = true
below q (Some r) = nat_lt q r

-- asking a guide for k sites
module _ (g : Guidance) (k : ℕ) where
  -- the junction v waits with the reading h and its estimate as key, and no other has a reading
  abbrev pub begin : (free : ℕ → Bool) → (v h : ℕ) → Stage
  begin free v h = record {
    reading = upd (λ _. None) v (Some h);
    key = upd (λ _. None) v (g.estimate v h free);
    way = λ _. 65535;
    wanted = free;
    listed = [];
    steps = 0;
  }

  -- whether k are listed
  abbrev pub full : Stage → Bool
  full s = nat_le k (length s.listed)

  -- site i is listed at the reading r, and wanted no more
  abbrev pub list_site : (r i : ℕ) → Stage → Stage
  list_site r i s = record {
    reading = s.reading;
    key = s.key;
    way = s.way;
    wanted = upd s.wanted i false;
    listed = s.listed ++ (i, r) ∷ [];
    steps = s.steps;
  }

  -- site i, where it stands at v and is wanted, unless k are listed
  unfoldable pub list_one : (v r i : ℕ) → Stage → Stage
  list_one v r i s = elim (g.roads.place i == v && s.wanted i && not (full s)) [ true ↦ list_site r i s | false ↦ s ]

  -- the sites below n in turn
  unfoldable pub list_all : (v r n : ℕ) → Stage → Stage
  list_all v r zero s = s
  list_all v r (suc i) s = list_one v r i (list_all v r i s)

  -- the head of arc a gets the reading q by it, and waits with a new key, or not where the estimate is nothing
  abbrev pub reach : (a q : ℕ) → Stage → Stage
  reach a q s = record {
    reading = upd s.reading (g.roads.head a) (Some q);
    key = upd s.key (g.roads.head a) (g.estimate (g.roads.head a) q s.wanted);
    way = upd s.way (g.roads.head a) a;
    wanted = s.wanted;
    listed = s.listed;
    steps = s.steps;
  }

  -- what arrives by arc a counts where it is below the head's reading, or the head has none
  abbrev pub arrive : (a : ℕ) → Option ℕ → Stage → Stage
  arrive a None s = s
  arrive a (Some q) s = elim (below q (s.reading (g.roads.head a))) [ true ↦ reach a q s | false ↦ s ]

  -- arc a, where it leaves v, entered at r
  unfoldable pub try_one : (v r a : ℕ) → Stage → Stage
  try_one v r a s = elim (g.roads.tail a == v) [ true ↦ arrive a (arrival g.roads a r) s | false ↦ s ]

  -- the arcs below n in turn
  unfoldable pub try_all : (v r n : ℕ) → Stage → Stage
  try_all v r zero s = s
  try_all v r (suc a) s = try_one v r a (try_all v r a s)

  -- v is taken: it waits no more, and a step is counted
  abbrev pub taken : ℕ → Stage → Stage
  taken v s = record {
    reading = s.reading;
    key = upd s.key v None;
    way = s.way;
    wanted = s.wanted;
    listed = s.listed;
    steps = suc s.steps;
  }

  -- the outgoing arcs are tried unless k are listed
  abbrev pub onwards : (v r : ℕ) → Stage → Stage
  onwards v r s = elim (full s) [ true ↦ s | false ↦ try_all v r g.roads.arcs s ]

  -- at v with its reading: the wanted sites there are listed by number, then the outgoing arcs are tried in order
  abbrev pub visit : ℕ → Option ℕ → Stage → Stage
  visit v None s = s
  visit v (Some r) s = onwards v r (list_all v r g.roads.sites s)

  unfoldable pub step : ℕ → Stage → Stage
  step v s = visit v (s.reading v) (taken v s)

  -- what is taken next, with its key: nothing where k are listed or none waits
  unfoldable pub next : Stage → Option (ℕ × ℕ)
  next s = elim (full s) [ true ↦ None | false ↦ least s.key g.roads.junctions ]

  -- at most so many steps
  unfoldable pub run : ℕ → Stage → Stage
  run zero s = s
  run (suc fuel) s = elim (next s) [ None ↦ s | Some b ↦ run fuel (step b.0 s) ]

  -- every step lowers this number: the sum of the junctions' readings, 2^48 for none, and how many wait
  abbrev pub or_top : Option ℕ → ℕ
  or_top None = 2 ^ 48
  or_top (Some h) = h

  abbrev pub one_waits : Option ℕ → ℕ
  one_waits None = 0
  one_waits (Some κ) = 1

  unfoldable pub sum_below : (ℕ → ℕ) → ℕ → ℕ
  sum_below f zero = 0
  sum_below f (suc n) = sum_below f n + f n

  unfoldable pub potential : Stage → ℕ
  potential s = sum_below (λ v. or_top (s.reading v)) g.roads.junctions + sum_below (λ v. one_waits (s.key v)) g.roads.junctions

  -- where the steps from a stage end
  unfoldable pub finish : Stage → Stage
  finish s = run (potential s) s

  -- the last stage of an asking that begins at v with the reading h
  abbrev pub last_stage : (free : ℕ → Bool) → (v h : ℕ) → Stage
  last_stage free v h = finish (begin free v h)
