use Rattle.std.proofs.Common.{◌≡◌, cond, [], Some, Ok, Err, sym, ap, ◌∙◌, rules}
use Rattle.std.proofs.lemmas.List.{map_push}
use Rattle.std.proofs.lemmas.Bool.{cond-true, cond-false}
use Rattle.depot.specs.declared.fault.What.TheVariants.{SecondNumber}
use Rattle.depot.specs.Cuts.{words, code}
use Rattle.depot.specs.Depots.{listed, surplus, grown}
use Rattle.depot.specs.Names.{name_of, names, singles}
use Rattle.depot.specs.Reads.{item, items}
use Rattle.depot.proofs.Lining.{line_in, line_over, none_first}
use Rattle.depot.proofs.Naming.{has_name}
use Rattle.depot.proofs.listing.Listings.add.Goals as goal
use Rattle.depot.proofs.listing.Listings.add.Goals.{In_ok-part, then-is_single+in_default-second_number, else-is_single}

has : (c : In_ok-part) → c.in-Some.name.now ≡ name_of c.in_ok-part.part
has c =
    let part : c.by_name.result ≡ Some c.in_ok-part.part = search rules in
    has_name c.in-Some.name.now _ (sym c.by_name.ensures ∙ part)

-- the part takes all the numbers of the line
room : (c : goal.In_ok-push) → cond (names singles (name_of c.in_ok-part.part)) (surplus (listed (name_of c.in_ok-part.part) (items c.args.self.now.lines.items)) (words c.in-Some.rest.now)) [] ≡ []
room c =
    elim c.if-is_single.branch [
      | then-is_single+in_default-second_number w ↦ cond-true _ _ _ (sym w.if-is_single.ensures) ∙ none_first _ (w.in_default-second_number.ensures)
      | else-is_single w ↦ cond-false _ _ _ (sym w.if-is_single.ensures)
    ]

pub returns : goal.returns
returns c =
    line_in _ _ _ _ _ _ c.in-Some.ensures.value (has (goal.at.returns c).In_ok-part) c.in_ok-numbers.ensures (room c)
    ∙ ap Ok (sym (ap items c.in_ok-push.ensures.items ∙ map_push item _ _))

pub returns-in-Some-second_number : goal.returns-in-Some-second_number
returns-in-Some-second_number c =
    let over : grown (items c.args.self.now.lines.items) (words (code c.args.line.now)) ≡ Err (c.in-Some-second_number.word.now, SecondNumber) =
    line_over _ _ _ _ _ _ c.in-Some.ensures.value (has (goal.at.returns-in-Some-second_number c).In_ok-part) c.in_ok-numbers.ensures _ c.if-is_single.ensures c.in-Some-second_number.ensures in
    search rules
