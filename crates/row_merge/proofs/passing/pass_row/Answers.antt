use Rattle.std.proofs.Common.{◌≡◌, ◌+◌, ◌<◌, ◌≤◌, ◌∙◌, ◌++◌, [], All, List, Some, ap, arith, get_or, length, refl, slice_get, subst, sym, true}
use Rattle.std.proofs.lemmas.Option.{get_or_from_slice_get, slice_get_within}
use Rattle.std.proofs.lemmas.Result.{IfOk-weaker, on_ok_weaker}
use Rattle.mt_outside.specs.DiskCauses.{HasDiskCause}
use Rattle.mt_values.specs.Schemas.{column_types}
use Rattle.mt_values.specs.Tables.{has_sign}
use Rattle.mt_values.specs.Values.{types_of}
use Rattle.mt_values.specs.declared.schema.Schema.{Schema}
use Rattle.mt_values.specs.declared.value.ColType.{ColType}
use Rattle.part_reader.specs.part_writer.Growing.{HasRows}
use Rattle.row_merge.specs.declared.heads.Cursor.{Cursor}
use Rattle.row_merge.specs.Fates.{GivesWay, IsAlone}
use Rattle.row_merge.specs.Heads.{ahead_of}
use Rattle.row_merge.specs.Merging.{IsTaken, ahead_at}
use Rattle.row_merge.specs.Passing.{IsLeading}
use Rattle.row_merge.specs.Streams.{IsMerging}
use Rattle.row_merge.specs.Stretches.{rows_between}
use Rattle.row_merge.proofs.Copies.{cursor_at, read_cursor}
use Rattle.row_merge.proofs.Handing.{merge_counted, none_pending}
use Rattle.row_merge.proofs.Nexts.{counted_stream}
use Rattle.row_merge.proofs.Passed.{going_of, goes_on, goes_out, keeps_then, next_taken, none_of, one_between, row_is_taken, some_ranked, stays_out, taken_row}
use Rattle.row_merge.proofs.GoingOn.{on_ok_two}
use Rattle.row_merge.proofs.passing.pass_row.Goals as goal

-- ---- the row, and the one after it

pub index-requires : goal.index-requires
index-requires g c =
    let mid = c.take_ahead.new.stream in
    let t = c.in_ok-own.ensures.takes in
    omega (arith, mid.cursors.ok.0, slice_get_within mid.cursors.items c.in_ok-own.own.input t.cursor t.there)

pub leading-next-requires-clause-some : goal.leading-next-requires-clause-some
leading-next-requires-clause-some g c =
    let mid = c.take_ahead.new.stream in
    omega (arith, ap length c.deref-2.ensures.value, some_ranked c.args.inputs.now.places.now (ahead_of mid.cursors.items) mid.ranked.items c.in_ok-own.own.input c.in_ok-own.ensures.stream.ranked c.in_ok-own.ensures.takes.more)

pub leading-next-requires-clause-ahead : goal.leading-next-requires-clause-ahead
leading-next-requires-clause-ahead g c =
    let mid = c.take_ahead.new.stream in
    subst (λ (cs : List Cursor). All (λ x. 0 < length (ahead_at (ahead_of cs) x)) c.deref-2.result.now) (sym c.deref.ensures.value)
    (subst (All (λ x. 0 < length (ahead_at (ahead_of mid.cursors.items) x))) (sym c.deref-2.ensures.value) c.in_ok-own.ensures.stream.ranked.some)

pub fate_of-requires-clause-some : goal.fate_of-requires-clause-some
fate_of-requires-clause-some g c =
    let mid = c.take_ahead.new.stream in
    let own = c.in_ok-own.own in
    let t = c.in_ok-own.ensures.takes in
    let same = read_cursor mid.cursors.items own.input t.cursor c.index.result.now t.there c.index.ensures in
    subst (λ (x : Cursor). own.at < length x.block.rows) (sym same) t.within

pub fate_of-requires-clause-next : goal.fate_of-requires-clause-next
fate_of-requires-clause-next g c = c.leading-next.ensures.some

pub fate_of-requires-clause-own : goal.fate_of-requires-clause-own
fate_of-requires-clause-own g c =
    let i = c.args.inputs.now in
    let mid = c.take_ahead.new.stream in
    let own = c.in_ok-own.own in
    let t = c.in_ok-own.ensures.takes in
    let same = read_cursor mid.cursors.items own.input t.cursor c.index.result.now t.there c.index.ensures in
    subst (λ (x : Cursor). All (λ place. place < length x.block.types) i.places.now) (sym same)
    (subst (λ (ts : List ColType). All (λ place. place < length ts) i.places.now) (sym t.types) c.requires.on.stream.inputs.own)

pub fate_of-requires-clause-other : goal.fate_of-requires-clause-other
fate_of-requires-clause-other g c =
    let i = c.args.inputs.now in
    let mid = c.take_ahead.new.stream in
    let next = c.leading-next.result.now in
    let l = subst (λ (cs : List Cursor). IsLeading cs c.deref-2.result.now next) c.deref.ensures.value c.leading-next.ensures in
    let types = cursor_at (λ (x : Cursor). x.block.types ≡ column_types i.schema.now) mid.cursors.items l.input next l.there c.in_ok-own.ensures.stream.types in
    subst (λ (ts : List ColType). All (λ place. place < length ts) i.places.now) (sym types) c.requires.on.stream.inputs.own

-- ---- the row is copied

pub copy_rows-requires-clause-within : goal.copy_rows-requires-clause-within
copy_rows-requires-clause-within g c = λ κs within.
    let mid = c.take_ahead.new.stream in
    let own = c.in_ok-own.own in
    let t = c.in_ok-own.ensures.takes in
    let same = read_cursor mid.cursors.items own.input t.cursor c.index.result.now t.there c.index.ensures in
    subst (λ (x : Cursor). own.at + 1 ≤ length x.block.rows) (sym same) (omega (arith, t.within))

pub copy_rows-requires-clause-types : goal.copy_rows-requires-clause-types
copy_rows-requires-clause-types g c = λ κs within.
    let mid = c.take_ahead.new.stream in
    let own = c.in_ok-own.own in
    let t = c.in_ok-own.ensures.takes in
    let same = read_cursor mid.cursors.items own.input t.cursor c.index.result.now t.there c.index.ensures in
    ap (λ (x : Cursor). x.block.types) same ∙ t.types ∙ ap (λ (x : Schema). column_types x) (sym c.requires.on.table)

pub returns-in_ok-copy_rows-in-Copied-clause-merges : goal.returns-in_ok-copy_rows-in-Copied-clause-merges
returns-in_ok-copy_rows-in-Copied-clause-merges g c = λ rows apart m.
    let i = c.args.inputs.now in
    let rule = c.args.rule.now in
    let run = g.Q.RowRule.run rule in
    let holds = g.Q.RowRule.holds rule in
    let takes = g.Q.RowRule.takes rule in
    let old = c.args.stream.now in
    let mid = c.take_ahead.new.stream in
    let own = c.in_ok-own.own in
    let t = c.in_ok-own.ensures.takes in
    let next = c.leading-next.result.now in
    let same = read_cursor mid.cursors.items own.input t.cursor c.index.result.now t.there c.index.ensures in
    let l = subst (λ (cs : List Cursor). IsLeading cs mid.ranked.items next) c.deref.ensures.value (subst (λ rs. IsLeading c.deref.result.now rs next) c.deref-2.ensures.value c.leading-next.ensures) in
    let a = subst (λ (x : Cursor). IsAlone i.places.now takes run c.is_none-is_first.result (get_or x.block.rows own.at []) (get_or next.block.rows next.at [])) same c.in-Copied.ensures in
    let none = none_of c.args.current c.is_none-is_first.result c.is_none-is_first.ensures a.first in
    let here = subst (λ x. IsMerging run holds takes i rows old x c.args.out.now) none m in
    let has = subst (λ zs. HasRows c.copy_rows.new.out (here.done ++ zs)) (one_between t.cursor.block.rows own.at t.within)
    (subst (λ (x : Cursor). HasRows c.copy_rows.new.out (here.done ++ rows_between own.at (own.at + 1) x.block.rows)) same (c.in_ok-copy_rows-in-Copied.ensures.rows here.done here.has)) in
    goes_out run holds takes i rows old mid c.args.out.now own t c.take_ahead.ensures.readers here next c.in_ok-own.ensures.stream.ranked l c.is_none-is_first.result c.copy_rows.new.out c.requires.takes a has

pub returns-in_ok-copy_rows-in-Copied-clause-current : goal.returns-in_ok-copy_rows-in-Copied-clause-current
returns-in_ok-copy_rows-in-Copied-clause-current g c =
    let rule = c.args.rule.now in
    none_pending c.args.inputs.now.places.now (g.Q.RowRule.run rule) (g.Q.RowRule.holds rule) (g.Q.RowRule.takes rule) (column_types c.args.inputs.now.schema.now)

-- ---- the row is left out

pub returns-in-LeftOut-clause-merges : goal.returns-in-LeftOut-clause-merges
returns-in-LeftOut-clause-merges g c = λ rows apart m.
    let i = c.args.inputs.now in
    let rule = c.args.rule.now in
    let run = g.Q.RowRule.run rule in
    let holds = g.Q.RowRule.holds rule in
    let takes = g.Q.RowRule.takes rule in
    let old = c.args.stream.now in
    let mid = c.take_ahead.new.stream in
    let own = c.in_ok-own.own in
    let t = c.in_ok-own.ensures.takes in
    let next = c.leading-next.result.now in
    let same = read_cursor mid.cursors.items own.input t.cursor c.index.result.now t.there c.index.ensures in
    let l = subst (λ (cs : List Cursor). IsLeading cs mid.ranked.items next) c.deref.ensures.value (subst (λ rs. IsLeading c.deref.result.now rs next) c.deref-2.ensures.value c.leading-next.ensures) in
    let a = subst (λ (x : Cursor). GivesWay i.places.now run c.is_none-is_first.result (get_or x.block.rows own.at []) (get_or next.block.rows next.at [])) same c.in-LeftOut.ensures in
    let none = none_of c.args.current c.is_none-is_first.result c.is_none-is_first.ensures a.first in
    let here = subst (λ x. IsMerging run holds takes i rows old x c.args.out.now) none m in
    stays_out run holds takes i rows old mid c.args.out.now own t c.take_ahead.ensures.readers here next c.in_ok-own.ensures.stream.ranked l c.is_none-is_first.result a

pub returns-in-LeftOut-clause-current : goal.returns-in-LeftOut-clause-current
returns-in-LeftOut-clause-current g c =
    let rule = c.args.rule.now in
    none_pending c.args.inputs.now.places.now (g.Q.RowRule.run rule) (g.Q.RowRule.holds rule) (g.Q.RowRule.takes rule) (column_types c.args.inputs.now.schema.now)

-- ---- the rule gets the row

pub row-requires : goal.row-requires
row-requires g c =
    let mid = c.take_ahead.new.stream in
    let own = c.in_ok-own.own in
    let t = c.in_ok-own.ensures.takes in
    let same = read_cursor mid.cursors.items own.input t.cursor c.index.result.now t.there c.index.ensures in
    subst (λ (x : Cursor). own.at < length x.block.rows) (sym same) t.within

pub hand_on-requires-clause-typed : goal.hand_on-requires-clause-typed
hand_on-requires-clause-typed g c = λ κs within.
    let i = c.args.inputs.now in
    let mid = c.take_ahead.new.stream in
    let own = c.in_ok-own.own in
    let t = c.in_ok-own.ensures.takes in
    let same = read_cursor mid.cursors.items own.input t.cursor c.index.result.now t.there c.index.ensures in
    let read = get_or_from_slice_get t.cursor.block.rows own.at c.in_ok-row-in-Handed.row [] (subst (λ (x : Cursor). slice_get x.block.rows own.at ≡ Some c.in_ok-row-in-Handed.row) same c.in_ok-row-in-Handed.ensures) in
    subst (λ r. types_of r ≡ column_types i.schema.now) read t.taken.typed

pub hand_on-requires-clause-made : goal.hand_on-requires-clause-made
hand_on-requires-clause-made g c = λ κs within. c.in_ok-own.ensures.stream.none_made

pub returns-in_err-new-in-Handed-clause-most : goal.returns-in_err-new-in-Handed-clause-most
returns-in_err-new-in-Handed-clause-most g c =
    let i = c.args.inputs.now in
    c.hand_on.ensures.held.within (length i.parts.now) i.schema.now.granularity (c.take_ahead.ensures.most c.requires.on.shaped)

pub close_key-requires-clause-next : goal.close_key-requires-clause-next
close_key-requires-clause-next g c = λ κs within. c.leading-next.ensures.some

pub close_key-requires-clause-types : goal.close_key-requires-clause-types
close_key-requires-clause-types g c = λ κs within.
    let i = c.args.inputs.now in
    let mid = c.take_ahead.new.stream in
    let next = c.leading-next.result.now in
    let l = subst (λ (cs : List Cursor). IsLeading cs c.deref-2.result.now next) c.deref.ensures.value c.leading-next.ensures in
    cursor_at (λ (x : Cursor). x.block.types ≡ column_types i.schema.now) mid.cursors.items l.input next l.there c.in_ok-own.ensures.stream.types

pub close_key-requires-clause-table : goal.close_key-requires-clause-table
close_key-requires-clause-table g c = λ κs within. c.in_ok-new-in-Handed.ensures.grew.table ∙ c.requires.on.table

pub returns-in_ok-new-in-Handed-clause-merges : goal.returns-in_ok-new-in-Handed-clause-merges
returns-in_ok-new-in-Handed-clause-merges g c = λ rows apart m.
    let i = c.args.inputs.now in
    let places = i.places.now in
    let rule = c.args.rule.now in
    let run = g.Q.RowRule.run rule in
    let holds = g.Q.RowRule.holds rule in
    let takes = g.Q.RowRule.takes rule in
    let old = c.args.stream.now in
    let mid = c.take_ahead.new.stream in
    let own = c.in_ok-own.own in
    let row = c.in_ok-row-in-Handed.row in
    let t = c.in_ok-own.ensures.takes in
    let next = c.leading-next.result.now in
    let same = read_cursor mid.cursors.items own.input t.cursor c.index.result.now t.there c.index.ensures in
    let l = subst (λ (cs : List Cursor). IsLeading cs mid.ranked.items next) c.deref.ensures.value (subst (λ rs. IsLeading c.deref.result.now rs next) c.deref-2.ensures.value c.leading-next.ensures) in
    let read = get_or_from_slice_get t.cursor.block.rows own.at row [] (subst (λ (x : Cursor). slice_get x.block.rows own.at ≡ Some row) same c.in_ok-row-in-Handed.ensures) in
    let took = row_is_taken run holds takes i rows old mid c.args.current c.args.out.now own t c.take_ahead.ensures.readers m in
    let signed = subst (λ r. has_sign i.schema.now r ≡ true) read (taken_row run holds takes i rows old mid c.args.current c.args.out.now own t c.take_ahead.ensures.readers m).signed in
    let going = c.in_ok-new-in-Handed.ensures.hands rows m.left took.after apart signed (going_of run holds takes i rows old c.args.current c.args.out.now m) (subst (λ r. IsTaken places m.left r took.after) read took.taken) in
    let n = next_taken places mid rows took.after next took.left_is going.over.merging.sorted c.in_ok-own.ensures.stream.ranked l in
    IfOk-weaker c.close_key.result _ _
    (λ new on. merge_counted run holds takes i rows mid _ new c.close_key.new.out refl refl (goes_on run holds takes i rows old mid c.args.current c.args.out.now own t c.take_ahead.ensures.readers m new c.close_key.new.out on))
    (c.close_key.ensures.closes rows took.after n.0 apart going n.1)

pub returns-in_ok-new-in-Handed-clause-fewer : goal.returns-in_ok-new-in-Handed-clause-fewer
returns-in_ok-new-in-Handed-clause-fewer g c = on_ok_weaker c.close_key.result (λ none. c.in_ok-own.ensures.takes.fewer) c.close_key.ensures.made

pub returns-in_ok-new-in-Handed-clause-most : goal.returns-in_ok-new-in-Handed-clause-most
returns-in_ok-new-in-Handed-clause-most g c =
    let i = c.args.inputs.now in
    let mid = c.take_ahead.new.stream in
    (keeps_then mid.held c.hand_on.new.held c.close_key.new.held c.hand_on.ensures.held c.close_key.ensures.held).within (length i.parts.now) i.schema.now.granularity (c.take_ahead.ensures.most c.requires.on.shaped)

pub returns-in_ok-new-in-Handed-clause-cause : goal.returns-in_ok-new-in-Handed-clause-cause
returns-in_ok-new-in-Handed-clause-cause g c = subst (λ n. HasDiskCause n c.close_key.new.out.stage.failed c.close_key.result) c.in_ok-new-in-Handed.ensures.cause.ok c.close_key.ensures.cause

pub take_ahead-requires-clause-stream : goal.take_ahead-requires-clause-stream
take_ahead-requires-clause-stream g c = λ κs within. c.requires.on.stream

pub copy_rows-requires-clause-whole : goal.copy_rows-requires-clause-whole
copy_rows-requires-clause-whole g c = λ κs within. c.requires.on.whole

pub returns-in_ok-copy_rows-in-Copied-clause-on : goal.returns-in_ok-copy_rows-in-Copied-clause-on
returns-in_ok-copy_rows-in-Copied-clause-on g c =
    let copied = c.in_ok-copy_rows-in-Copied.ensures.grew in
    let may = c.requires.on in
    record {
      on = record { stream = c.in_ok-own.ensures.stream; shaped = may.shaped; whole = copied.whole; table = copied.table ∙ may.table };
      told = copied.told;
      rises = c.in_ok-own.ensures.rises;
    }

pub returns-in-LeftOut-clause-on : goal.returns-in-LeftOut-clause-on
returns-in-LeftOut-clause-on g c =
    let may = c.requires.on in
    record { on = record { stream = c.in_ok-own.ensures.stream; shaped = may.shaped; whole = may.whole; table = may.table }; told = refl; rises = c.in_ok-own.ensures.rises }

pub hand_on-requires-clause-inputs : goal.hand_on-requires-clause-inputs
hand_on-requires-clause-inputs g c = λ κs within. c.requires.on.stream.inputs

pub hand_on-requires-clause-whole : goal.hand_on-requires-clause-whole
hand_on-requires-clause-whole g c = λ κs within. c.requires.on.whole

pub hand_on-requires-clause-table : goal.hand_on-requires-clause-table
hand_on-requires-clause-table g c = λ κs within. c.requires.on.table

pub close_key-requires-clause-inputs : goal.close_key-requires-clause-inputs
close_key-requires-clause-inputs g c = λ κs within. c.requires.on.stream.inputs

pub returns-in_ok-new-in-Handed-clause-on : goal.returns-in_ok-new-in-Handed-clause-on
returns-in_ok-new-in-Handed-clause-on g c =
    let mid = c.take_ahead.new.stream in
    let s = c.in_ok-own.ensures.stream in
    let kept = keeps_then mid.held c.hand_on.new.held c.close_key.new.held c.hand_on.ensures.held c.close_key.ensures.held in
    let handed = c.in_ok-new-in-Handed.ensures.grew in
    on_ok_two c.close_key.result
    (λ none grew. record {
      on = record { stream = counted_stream c.args.inputs.now mid _ s refl s.readers s.ranked kept none; shaped = c.requires.on.shaped; whole = grew.whole; table = grew.table ∙ handed.table ∙ c.requires.on.table };
      told = grew.told ∙ handed.told;
      rises = omega (arith, c.in_ok-own.ensures.rises, c.hand_on.ensures.held.most, c.close_key.ensures.held.most);
    })
    c.close_key.ensures.made c.close_key.ensures.grew

pub returns-in_err-own-clause-most : goal.returns-in_err-own-clause-most
returns-in_err-own-clause-most g c = c.take_ahead.ensures.most c.requires.on.shaped

pub returns-in_err-copy_rows-in-Copied-clause-most : goal.returns-in_err-copy_rows-in-Copied-clause-most
returns-in_err-copy_rows-in-Copied-clause-most g c = c.take_ahead.ensures.most c.requires.on.shaped

pub returns-in_ok-copy_rows-in-Copied-clause-most : goal.returns-in_ok-copy_rows-in-Copied-clause-most
returns-in_ok-copy_rows-in-Copied-clause-most g c = c.take_ahead.ensures.most c.requires.on.shaped

pub returns-in-LeftOut-clause-most : goal.returns-in-LeftOut-clause-most
returns-in-LeftOut-clause-most g c = c.take_ahead.ensures.most c.requires.on.shaped

pub returns-in_err-row-in-Handed-clause-most : goal.returns-in_err-row-in-Handed-clause-most
returns-in_err-row-in-Handed-clause-most g c = c.take_ahead.ensures.most c.requires.on.shaped

pub close_key-requires-clause-whole : goal.close_key-requires-clause-whole
close_key-requires-clause-whole g c = λ κs within. c.in_ok-new-in-Handed.ensures.grew.whole
