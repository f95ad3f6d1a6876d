use Rattle.std.proofs.Common.{◌∙◌, List, ap, sym, subst}
use Rattle.std.specs.List.{All}
use Rattle.mt_values.specs.Grid.{AreRowsOf}
use Rattle.mt_values.specs.declared.value.ColType.{ColType}
use Rattle.row_merge.specs.Merged.{inputs_of}
use Rattle.row_merge.specs.TestTables.{letters}
use Rattle.row_merge.proofs.stream_tests.is_merged.Goals as goal

pub part_of-requires-clause-typed : goal.part_of-requires-clause-typed
part_of-requires-clause-typed c =
    let typed = subst (λ (inputs : List _). All (AreRowsOf letters) (inputs_of inputs)) (sym c.deref.ensures.value) c.in_ok-inputs.ensures in
    let wanted = c.in_ok-wanted.ensures.typed (subst (λ (types : List ColType). All (AreRowsOf types) (inputs_of c.deref.result.now)) (sym c.requires.types) typed) in
    subst (AreRowsOf letters) (sym c.deref-2.ensures.value) (subst (λ (types : List ColType). AreRowsOf types c.in_ok-wanted.wanted.items) c.requires.types wanted)
