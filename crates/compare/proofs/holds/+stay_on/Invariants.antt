-- Each further stay is one less deep.
use Rattle.compare.proofs.holds.+stay_on.Given as goal

abbrev pub decreases-stay_on : goal.decreases-stay_on
decreases-stay_on g l = l.depth
