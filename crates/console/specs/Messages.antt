-- What is said of a word of a command that is wrong. Assumes nothing.
use Rattle.std.specs.Prelude.{ℕ, List, codes}
use Rattle.console.specs.declared.messages.Misuse.{Misuse}
use Rattle.console.specs.declared.messages.Misuse.TheVariants.{NotACommand, NotAKind, Number, Takes}
use Rattle.console.specs.declared.verbs.Verb.{Verb}
use Rattle.console.specs.declared.verbs.Verb.TheVariants.{Carry, Drive, Estimate, Index, Close, Reopen, Detour, Lift, Ask, Ways, Trace, Hold, Back, Roads}
use Rattle.depot.specs.Messages as depots

-- what is to stand after a command's name
abbrev pub takes : Verb → List ℕ
takes Carry = codes "takes an arc and seconds, on length roads an arc, metres and arcs passed"
takes Drive = codes "takes a start number and then arcs"
takes Estimate = codes "takes a junction, seconds and then sites, on length roads a junction, metres, arcs passed and then sites"
takes Index = codes "takes a segment and a junction"
takes Close = codes "takes an arc"
takes Reopen = codes "takes an arc"
takes Detour = codes "takes an arc and units"
takes Lift = codes "takes an arc"
takes Ask = codes "takes a junction, a start number and how many sites"
takes Ways = codes "takes nothing"
takes Trace = codes "takes a junction, a start number and a junction"
takes Hold = codes "takes a site"
takes Back = codes "takes the number of a hold"
takes Roads = codes "takes clock, guided or length"

abbrev pub said : Misuse → List ℕ
said NotACommand = codes "is not a command"
said NotAKind = codes "is not a kind of roads: clock, guided or length"
said (Number what) = depots.said what
said (Takes verb) = takes verb
