use Rattle.std.proofs.Common.{◌≡◌, ◌+◌, ◌*◌, ◌-◌, ◌^◌, ◌≤◌, get_or, Err, sym, ◌∙◌, rules}
use Rattle.depot.specs.declared.fault.What.TheVariants.{TooLarge}
use Rattle.depot.proofs.Numerals.{too_large, read}
use Rattle.depot.proofs.number.read_number.Goals as goal

pub returns-in_err-value : goal.returns-in_err-value
returns-in_err-value c =
    let e : c.from_residual.result ≡ Err TooLarge = search rules in
    let over : 2 ^ 32 ≤ c.loop-byte.value * 10 + (get_or c.args.word.now c.loop-byte.byte-index 0 - 48) = search rules in
    e ∙ sym (too_large c.loop-byte.invariant c.loop-byte-test.true (sym c.if-not-is_whole.ensures) over)

pub returns : goal.returns
returns c = sym (read (sym c.if-not-is_whole.ensures) c.loop-byte.invariant c.loop-byte-test.false)
