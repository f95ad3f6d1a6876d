use Rattle.std.proofs.Common.{◌∙◌, ◌++◌, ◌∷◌, List, [], ap₂}
use Rattle.std.proofs.lemmas.List.{replicate_more}
use Rattle.mt_values.specs.Grid.{Grid}
use Rattle.row_merge.specs.declared.heads.Cursor.{Cursor}
use Rattle.row_merge.specs.Streams.{no_cursor}
use Rattle.row_merge.proofs.streams.no_cursors.Goals as goal

pub loop-cursor-preserved : goal.loop-cursor-preserved
loop-cursor-preserved c =
    let none = no_cursor c.args.types.now in
    c.in_ok-push.ensures.items
    ∙ ap₂ (λ (xs : List Cursor) (b : Grid). xs ++ (record { block = b; at = 0 }) ∷ []) c.loop-cursor.invariant c.in_ok-new.ensures
    ∙ replicate_more c.loop-cursor._cursor none
