use Rattle.std.proofs.Common.{◌≡◌, ◌*◌, ◌↔◌, ◌∙◌, ap, sym, true}
use Rattle.std.specs.Int.{div_ceil}
use Rattle.std.proofs.lemmas.Bool.{false≢true}
use Rattle.std.proofs.lemmas.Result.{IfOk-weaker}
use Rattle.part_damage.proofs.SkipIndexBuilt.{positive}
use Rattle.part_reader.specs.Compared.{index_kept}
use Rattle.part_reader.proofs.IndexedBlocks.{by_blocks, kept_shape, never, wanted}
use Rattle.part_reader.proofs.indexed.is_kept.Goals as goal

pub returns-then-not-is_shape-clause-same : goal.returns-then-not-is_shape-clause-same
returns-then-not-is_shape-clause-same c = λ values s.
    let many = c.div_ceil-granules.ensures ∙ ap (λ n. div_ceil n c.args.granularity) (sym s.count_is) in
    never (λ e. false≢true (sym c.if-not-is_shape.true ∙ c.is_shape.ensures.1 (kept_shape c.args.granularity c.args.index.now values c.args.kept.now c.div_ceil-granules.result many e)))

pub are_blocks-requires : goal.are_blocks-requires
are_blocks-requires c = positive c.args.granularity c.args.index.now.granularity c.requires.granularity c.requires.span

pub returns-clause-same : goal.returns-clause-same
returns-clause-same c = λ values s.
    let many = c.div_ceil-granules.ensures ∙ ap (λ n. div_ceil n c.args.granularity) (sym s.count_is) in
    IfOk-weaker c.are_blocks.result
    (λ b. (b ≡ true) ↔ (c.as_slice.result.now ≡ wanted c.args.index.now.kind (c.args.granularity * c.args.index.now.granularity) values))
    (λ b. (b ≡ true) ↔ (c.args.kept.now ≡ index_kept c.args.granularity c.args.index.now values))
    (λ b h. by_blocks c.args.granularity c.args.index.now values c.args.kept.now b c.div_ceil-granules.result c.as_slice.result.now many c.as_slice.ensures (c.is_shape.ensures.0 c.if-not-is_shape.false) h) (c.are_blocks.ensures.same values s)
