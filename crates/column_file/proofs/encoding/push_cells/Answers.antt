use Rattle.std.proofs.Common.{◌∙◌, ◌++◌, All, ap, map, subst}
use Rattle.std.specs.Slice.Iter.{chunks_size}
use Rattle.mt_values.specs.Cells.{value_of}
use Rattle.mt_values.specs.ColumnBytes.{column_bytes}
use Rattle.mt_values.specs.Values.{FitsType}
use Rattle.column_file.proofs.Ahead.{part_within, pushed_all, pushed_more, pushed_none}
use Rattle.column_file.proofs.encoding.push_cells.Goals as goal

pub loop-part-init : goal.loop-part-init
loop-part-init c =
    let e = c.into_iter-part-iterator.ensures.into_iter_gives in
    let none = pushed_none c.args.cells.now.values c.args.places.now c.args.bytes.now in
    record {
      size = ap chunks_size e ∙ c.chunks-part-items.ensures.size;
      pushed = rw (e, c.chunks-part-items.ensures.rest) none;
    }

pub cells_at-requires : goal.cells_at-requires
cells_at-requires c =
    part_within c.args.cells.now.values c.args.places.now c.args.bytes.now _ _ c.in-Some.part.now _ c.loop-part.invariant.pushed c.in-Some.ensures.steps.1.0 c.requires

pub loop-part-preserved : goal.loop-part-preserved
loop-part-preserved c =
    let steps = c.in-Some.ensures.steps in
    let looked = ap (map value_of) c.deref.ensures.value ∙ c.in_ok-ahead.ensures in
    record {
      size = steps.0 ∙ c.loop-part.invariant.size;
      pushed = pushed_more c.args.cells.now.values c.args.places.now c.args.bytes.now _ _ c.in-Some.part.now _ c.loop-part.invariant.pushed steps.1.0 _
          (c.in_ok-push_all.ensures.bytes ∙ ap (λ vs. c.loop-part.bytes ++ column_bytes vs) looked) (subst (All FitsType) looked c.in_ok-push_all.ensures.encodable);
    }

pub returns : goal.returns
returns c =
    let all = pushed_all c.args.cells.now.values c.args.places.now c.args.bytes.now _ _ c.loop-part.invariant.pushed c.in-None.ensures.steps.1.0 in
    record { bytes = all.0; encodable = all.1 }
