use Rattle.std.proofs.Common.{◌≡◌, ◌∙◌, ap, length, length-take-le, rules}
use Rattle.std.proofs.lemmas.Nat.{le_bytes_4}
use Rattle.byte_numbers.proofs.fixed.first_u32.Goals as goal

pub returns : goal.returns
returns c =
    let size : length c.front.result ≡ 4 = ap length c.front.ensures ∙ length-take-le 4 c.args.bytes.now c.requires in
    le_bytes_4 c.front.result c.from_le_bytes.result size (search rules) c.from_le_bytes.ensures ∙ c.front.ensures
