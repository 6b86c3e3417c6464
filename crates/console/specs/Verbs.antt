-- The names of the commands, and of the kinds of roads. Assumes nothing.
use Rattle.std.specs.Prelude.{ℕ, List, [], ◌∷◌, codes}
use Rattle.console.specs.declared.kinds.Kind.{Kind}
use Rattle.console.specs.declared.kinds.Kind.TheVariants.{Clock, Guided, Length}
use Rattle.console.specs.declared.verbs.Verb.{Verb}
use Rattle.console.specs.declared.verbs.Verb.TheVariants.{Carry, Drive, Estimate, Index, Close, Reopen, Detour, Lift, Ask, Ways, Trace, Hold, Back, Roads}

abbrev pub verb_name : Verb → List ℕ
verb_name Carry = codes "carry"
verb_name Drive = codes "drive"
verb_name Estimate = codes "estimate"
verb_name Index = codes "index"
verb_name Close = codes "close"
verb_name Reopen = codes "reopen"
verb_name Detour = codes "detour"
verb_name Lift = codes "lift"
verb_name Ask = codes "ask"
verb_name Ways = codes "ways"
verb_name Trace = codes "trace"
verb_name Hold = codes "hold"
verb_name Back = codes "back"
verb_name Roads = codes "roads"

-- every command
abbrev pub verbs : List Verb
verbs = Carry ∷ Drive ∷ Estimate ∷ Index ∷ Close ∷ Reopen ∷ Detour ∷ Lift ∷ Ask ∷ Ways ∷ Trace ∷ Hold ∷ Back ∷ Roads ∷ []

abbrev pub kind_name : Kind → List ℕ
kind_name Clock = codes "clock"
kind_name Guided = codes "guided"
kind_name Length = codes "length"

-- every kind of roads
abbrev pub kinds : List Kind
kinds = Clock ∷ Guided ∷ Length ∷ []
