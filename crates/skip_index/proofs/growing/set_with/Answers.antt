use Rattle.std.proofs.Common.{◌≡◌, ◌++◌, ap, filter_map, slice_get, sym, ◌∙◌}
use Rattle.std.proofs.lemmas.Result.{IfOk-weaker}
use Rattle.predicate.specs.declared.extent.Known.TheVariants as known
use Rattle.skip_index.specs.Blocks.{set_of}
use Rattle.skip_index.proofs.Distinct.{set_fuller, set_more}
use Rattle.skip_index.proofs.growing.set_with.Goals as goal

pub returns-in_default : goal.returns-in_default
returns-in_default c = λ values is. set_fuller c.args.limit values (filter_map (slice_get c.args.cells.now.values) c.args.places.now) c.args.begun.now c.in_default.not-List is

pub returns : goal.returns
returns c = λ values is.
    let more = filter_map (slice_get c.args.cells.now.values) c.args.places.now in
    let kept = c.as_slice.result.now in
    let parts = set_more c.args.limit values more kept (ap known.List c.as_slice.ensures ∙ sym c.in-List.is ∙ is) in
    IfOk-weaker c.set_from.result (λ k. k ≡ set_of c.args.limit (kept ++ more)) (λ k. k ≡ set_of c.args.limit (values ++ more)) (λ k e. e ∙ parts.1) (c.set_from.ensures parts.0)
