use Rattle.std.proofs.Common.{◌∙◌, ap, length, replicate}
use Rattle.row_merge.specs.Streams.{no_cursor}
use Rattle.row_merge.proofs.Opening.{none_ahead, opened_stream}
use Rattle.row_merge.proofs.streams.open_stream.Goals as goal

pub returns-clause-stream : goal.returns-clause-stream
returns-clause-stream g c =
    let i = c.args.inputs.now in
    let types = c.as_slice.ensures ∙ c.in_ok-types.ensures in
    opened_stream i c.requires.inputs _ c.requires.readers
    (c.in_ok-cursors.ensures ∙ ap (λ ts. replicate (length i.parts.now) (no_cursor ts)) types) c.new.ensures.items c.new-2.ensures

pub returns-clause-none : goal.returns-clause-none
returns-clause-none g c = none_ahead c.in_ok-cursors.cursors.items (length c.args.inputs.now.parts.now) c.as_slice.result.now c.in_ok-cursors.ensures
