use Rattle.std.proofs.Common.{ap, ◌∙◌, min, length}
use Rattle.std.specs.Slice.Iter.{chunks_rest, chunks_size}
use Rattle.skip_index.proofs.Keeping.{kept_all, kept_more, kept_none, kept_within}
use Rattle.skip_index.proofs.building.kept_blocks.Goals as goal

pub loop-places-init : goal.loop-places-init
loop-places-init c =
    let e = c.into_iter-places-iterator.ensures.into_iter_gives in
    let none = kept_none c.args.kind c.args.cells.now.values c.args.order.now c.args.size c.requires.size in
    record {
      size = ap chunks_size e ∙ c.chunks-places-items.ensures.size;
      kept = rw (c.new-blocks.ensures, e, c.chunks-places-items.ensures.rest) none;
    }

pub kept_of-requires : goal.kept_of-requires
kept_of-requires c =
    kept_within c.args.kind c.args.cells.now.values c.args.order.now c.args.size _ _ c.in-Some.places.now _ c.loop-places.invariant.kept c.in-Some.ensures.steps.1.0 c.requires.places

pub loop-places-preserved : goal.loop-places-preserved
loop-places-preserved c =
    let steps = c.in-Some.ensures.steps in
    record {
      size = steps.0 ∙ c.loop-places.invariant.size;
      kept = kept_more c.args.kind c.args.cells.now.values c.args.order.now c.args.size _ _ c.in-Some.places.now _ _ _ c.loop-places.invariant.kept steps.1.0
          (steps.1.1 ∙ ap (λ n. min n (length (chunks_rest c.loop-places.places-iterator))) c.loop-places.invariant.size) steps.1.2
          c.in_ok-kept_of.ensures c.in_ok-push.ensures.ok;
    }

pub returns : goal.returns
returns c =
    kept_all c.args.kind c.args.cells.now.values c.args.order.now c.args.size _ _ c.loop-places.invariant.kept c.in-None.ensures.steps.1.0 c.requires.places c.requires.size
