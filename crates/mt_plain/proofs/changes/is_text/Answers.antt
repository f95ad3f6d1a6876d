use Rattle.std.proofs.Common.{◌<◌, ◌^◌, ℕ, arith}
use Rattle.std.proofs.lemmas.List.Elements.{All-from_get_or}
use Rattle.mt_plain.proofs.Changing.{few_bytes}
use Rattle.mt_plain.proofs.changes.is_text.Goals as goal

pub returns : goal.returns
returns c = few_bytes c.args.bytes.now (All-from_get_or (λ (b : ℕ). b < 2 ^ 8) c.args.bytes.now 0 (λ i h. omega (arith, c.type_inv.bytes i)))
