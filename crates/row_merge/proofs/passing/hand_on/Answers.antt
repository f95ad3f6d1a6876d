use Rattle.std.proofs.Common.{◌++◌, List, subst, sym}
use Rattle.mt_values.specs.Grid.{AreRowsOf}
use Rattle.mt_values.specs.Schemas.{column_types}
use Rattle.mt_values.specs.Values.{Row}
use Rattle.mt_values.specs.declared.schema.Schema.{Schema}
use Rattle.part_reader.specs.part_writer.Growing.{HasRows}
use Rattle.row_merge.proofs.passing.hand_on.Goals as goal

pub append-requires-clause-typed : goal.append-requires-clause-typed
append-requires-clause-typed g c = λ κs within.
    let types = column_types c.args.inputs.now.schema.now in
    subst (λ (x : Schema). AreRowsOf (column_types x) c.deref.result.now) (sym c.requires.table)
    (subst (AreRowsOf types) (sym c.deref.ensures.value) (c.in_ok-kept.ensures.typed c.requires.current))

pub returns-clause-hands : goal.returns-clause-hands
returns-clause-hands g c = λ rows before left apart signed going t. record {
  done = going.done ++ c.in_ok-kept.kept.items;
  has = subst (λ (zs : List Row). HasRows c.append.new.out (going.done ++ zs)) c.deref.ensures.value (c.in_ok-append.ensures.rows going.done going.has);
  over = c.in_ok-kept.ensures.hands rows going.done before left apart signed going.over t;
}

pub returns-clause-current : goal.returns-clause-current
returns-clause-current g c = c.in_ok-kept.ensures.current c.requires.current
