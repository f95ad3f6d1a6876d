use Rattle.std.proofs.Common.{◌∙◌, sym}
use Rattle.row_merge.proofs.streams.has_shape.Goals as goal

pub returns-then-own-schema : goal.returns-then-own-schema
returns-then-own-schema c = (λ e. cc, λ s. absurd (c.if-own-schema.true s.granularity))

pub returns : goal.returns
returns c =
    let own = c.as_slice.ensures ∙ c.in_ok-others.ensures in
    let table = c.as_slice-2.ensures ∙ c.in_ok-types.ensures in (
      λ e. record { types = sym own ∙ c.same_types.ensures.0 e ∙ table; granularity = c.if-own-schema.false },
      λ s. c.same_types.ensures.1 (own ∙ s.types ∙ sym table),
    )
