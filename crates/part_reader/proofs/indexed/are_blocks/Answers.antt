use Rattle.std.proofs.Common.{◌+◌, ◌<◌, ◌≤◌, ◌∙◌, Some, ap, arith, length, refl, sym}
use Rattle.std.specs.Int.{div_ceil}
use Rattle.std.proofs.lemmas.Bool.{false≢true}
use Rattle.std.proofs.lemmas.Option.{slice_get_read}
use Rattle.part_damage.specs.column_file.Faults.{Explains}
use Rattle.part_reader.proofs.Gaining.{handed_on}
use Rattle.part_reader.proofs.IndexedBlocks.{all_alike, block_is, block_read, ends_within, never, none_read, other_block, other_length, room}
use Rattle.part_reader.proofs.indexed.are_blocks.Goals as goal
use Rattle.part_reader.proofs.indexed.are_blocks.Goals.{After-values_from}

pub loop-block-init : goal.loop-block-init
loop-block-init c = none_read c.args.column.now c.args.kind c.args.size c.args.kept.now c.requires

-- another number of blocks
pub returns-then-kept-blocks-clause-same : goal.returns-then-kept-blocks-clause-same
returns-then-kept-blocks-clause-same c = λ values s.
    never (other_length c.args.kind c.args.size values c.args.kept.now c.args.column.now.count s.count_is (λ e. c.if-kept-blocks.true (e ∙ sym c.div_ceil-blocks.ensures)))

pub values_from-requires : goal.values_from-requires
values_from-requires c = ends_within c.args.column.now c.loop-block.at c.loop-block.invariant.before c.loop-block.invariant.read

-- the block at hand is one of the values
below : (c : After-values_from) → c.loop-block.block < div_ceil c.args.column.now.count c.args.size
below c = omega (arith, c.loop-block-test.true, c.div_ceil-blocks.ensures)

-- and there is room for it
enough : (c : After-values_from) → length c.loop-block.invariant.before + c.min-count.result ≤ c.args.column.now.count
enough c = omega (arith, room c.args.column.now c.args.kind c.args.size c.args.kept.now c.requires c.loop-block.block c.loop-block.at c.loop-block.invariant (below c), c.min-count.ensures)

pub returns-in_err-values-clause-wrong : goal.returns-in_err-values-clause-wrong
returns-in_err-values-clause-wrong c =
    let column = c.args.column.now in
    let r = c.loop-block.invariant in
    handed_on (Explains column.col_type column.count column.bytes.now) c.from_residual.result c.in_err-values.field-0.0 c.from_residual.ensures.1
    (c.in_err-values.ensures r.before r.read (enough (goal.at.returns-in_err-values-clause-wrong c).After-values_from))

pub returns-then-not-branch-clause-same : goal.returns-then-not-branch-clause-same
returns-then-not-branch-clause-same c = λ values s.
    let column = c.args.column.now in
    let kept = c.args.kept.now in
    let r = c.loop-block.invariant in
    let block = c.loop-block.block in
    let after = (goal.at.returns-then-not-branch-clause-same c).After-values_from in
    let read = c.in_ok-values.ensures r.before r.read (enough after) in
    never (other_block c.args.kind c.args.size values kept column.count block c.in_ok-values.values.values _ s.count_is (below after)
    (block_is column c.args.kind c.args.size kept c.requires block c.loop-block.at r (below after) c.in_ok-values.values.values c.in_ok-values.end (read.0 ∙ c.min-count.ensures) read.1 values s)
    (slice_get_read kept (length kept) block c.index-kept-block.result refl (omega (arith, c.loop-block-test.true, c.if-kept-blocks.false)) c.index-kept-block.is)
    (λ e. false≢true (sym c.if-not-branch.true ∙ c.in_ok-is_block.ensures.same.1 e)))

pub loop-block-preserved : goal.loop-block-preserved
loop-block-preserved c =
    let column = c.args.column.now in
    let kept = c.args.kept.now in
    let r = c.loop-block.invariant in
    let block = c.loop-block.block in
    let after = (goal.at.loop-block-preserved c).After-values_from in
    let read = c.in_ok-values.ensures r.before r.read (enough after) in
    block_read column c.args.kind c.args.size kept c.requires block c.loop-block.at r (below after) c.in_ok-values.values.values c.in_ok-values.end (read.0 ∙ c.min-count.ensures) read.1
    (slice_get_read kept (length kept) block c.index-kept-block.result refl (omega (arith, c.loop-block-test.true, c.if-kept-blocks.false)) c.index-kept-block.is ∙ ap Some (c.in_ok-is_block.ensures.same.0 c.if-not-branch.false))

pub returns-clause-same : goal.returns-clause-same
returns-clause-same c = λ values s. (
  λ _.
      all_alike c.args.kind c.args.size values c.args.kept.now c.args.column.now.count s.count_is (omega (arith, c.if-kept-blocks.false, c.div_ceil-blocks.ensures))
      (λ k less. c.loop-block.invariant.alike values s k (omega (arith, less, c.loop-block-test.false, c.div_ceil-blocks.ensures))),
  λ _. refl,
)
