use Rattle.std.proofs.Common.{◌≡◌, ◌∙◌, Some, sym, ap₂}
use Rattle.mt_values.specs.Escapes.{hex_byte, hex_digit}
use Rattle.tsv_fields.proofs.texts.hex_byte.Goals as goal

pub returns : goal.returns
returns c =
    let high : hex_digit c.args.high ≡ Some c.in_ok-high.high = sym c.hex_digit.ensures.value ∙ c.in_ok-high.was in
    let low : hex_digit c.args.low ≡ Some c.in_ok-low.low = sym c.hex_digit-2.ensures.value ∙ c.in_ok-low.was in
    sym (ap₂ hex_byte high low)
