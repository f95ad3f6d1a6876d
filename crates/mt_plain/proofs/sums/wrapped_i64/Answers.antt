use Rattle.std.proofs.Common.{ap, ◌∙◌, ℤ, w64}
use Rattle.std.proofs.lemmas.Int.{to_z-of_z}
use Rattle.std.specs.Int.{cast_signed, int_wrap}
use Rattle.part_history.specs.mt_model.Rules.{low_bits}
use Rattle.mt_plain.proofs.Summing.{signed_low}
use Rattle.mt_plain.proofs.sums.wrapped_i64.Goals as goal

pub returns : goal.returns
unfolding int_wrap
returns c =
    signed_low w64 c.args.number c.cast_signed.result
    (c.cast_signed.ensures ∙ ap (cast_signed w64) c.wrapped_u64.ensures ∙ ap (λ (z : ℤ). cast_signed w64 (low_bits 64 z)) (to_z-of_z _ c.args.number c.ranges.number))
