use Rattle.std.proofs.Common.{◌≡◌, ◌+◌, ◌<◌, None, List, drop, length, ap, sym, ◌∙◌, subst, arith}
use Rattle.std.proofs.lemmas.List.{length-map}
use Rattle.std.specs.Int.{div_ceil}
use Rattle.mt_values.specs.Grid.{Cells}
use Rattle.column_file.specs.byte_numbers.declared.faults.FormatFault.TheVariants.{Malformed}
use Rattle.column_file.specs.Marks.{granules}
use Rattle.primary_marks.specs.Columns.{GainKey, key_types, wanted_key}
use Rattle.primary_marks.specs.KeyFaults.{ExplainsKey, ExplainsPrimary}
use Rattle.primary_marks.specs.Keys.{IsPrimaryOf, key_shape}
use Rattle.column_file.proofs.Fronts.{handed, handed_on}
use Rattle.primary_marks.proofs.KeysRead.{AreKeysRead, IsFinalTurn, all_have, all_len, all_past, all_read, all_spelled, final_turn, final_wrong, granule_wrong, keys_more, keys_within, length-gained, written_back}
use Rattle.primary_marks.proofs.reading.read_keys.Goals as goal

pub returns-in_err-at-clause-fault : goal.returns-in_err-at-clause-fault
returns-in_err-at-clause-fault c =
    let types = key_types c.args.columns.items in
    let count : c.div_ceil-granules.result ≡ granules c.args.granularity c.args.rows = c.div_ceil-granules.ensures ∙ ap (div_ceil c.args.rows) c.from.ensures in
    handed_on (ExplainsPrimary (key_shape types c.args.granularity c.args.rows) c.args.bytes.now) c.from_residual.result c.in_err-at.field-0.0 c.from_residual.ensures.1
    (granule_wrong c.args.granularity c.args.rows c.loop-granule.invariant.read c.in_err-at.field-0.0 (omega (arith, c.loop-granule-test.true, count))
    (subst (λ (cs : List Cells). ExplainsKey (key_types cs) None c.loop-granule.at (drop c.loop-granule.at c.args.bytes.now) c.in_err-at.field-0.0) c.as_mut_slice.ensures.value c.in_err-at.ensures.fault))

pub loop-granule-preserved : goal.loop-granule-preserved
loop-granule-preserved c =
    let types = key_types c.args.columns.items in
    let items = c.loop-granule.columns.items in
    let rest = drop c.loop-granule.at c.args.bytes.now in
    let gained = subst (λ (cs : List Cells). GainKey None rest c.in_ok-at.field-0 cs c.read_key.new.columns) c.as_mut_slice.ensures.value c.in_ok-at.ensures.read in
    let more = keys_more c.loop-granule.invariant.read None c.in_ok-at.field-0 c.read_key.new.columns gained in
    let back = written_back c.loop-granule.columns.len items c.read_key.new.columns c.loop-granule.columns.ok.0 (length-gained None rest c.in_ok-at.field-0 items c.read_key.new.columns gained) in
    record {
      within = keys_within more;
      read = subst (AreKeysRead types c.args.bytes.now (c.loop-granule.at + c.in_ok-at.field-0) (c.loop-granule._granule + 1)) (sym back) more;
    }

-- which key is wanted at the end
turn : (c : goal.After-drop-columns-in_err-at-2) → IsFinalTurn c.args.granularity c.args.rows c.loop-granule._granule (key_types c.args.columns.items) c.twin_of_final-wanted.result
turn c =
    final_turn (key_types c.args.columns.items) c.args.granularity c.args.rows c.loop-granule._granule c.div_ceil-granules.result c.from.result c.from-2.result c.twin_of_final-wanted.result c.requires.rows c.requires.granularity
    c.div_ceil-granules.ensures c.from.ensures c.from-2.ensures c.loop-granule.auto._granule-end c.loop-granule-test.false c.twin_of_final-wanted.ensures

pub returns-in_err-at-2-clause-fault : goal.returns-in_err-at-2-clause-fault
returns-in_err-at-2-clause-fault c =
    handed_on (ExplainsPrimary (key_shape (key_types c.args.columns.items) c.args.granularity c.args.rows) c.args.bytes.now) c.from_residual-in_err-at-2.result c.in_err-at-2.field-0.0 c.from_residual-in_err-at-2.ensures.1
    (final_wrong c.args.granularity c.args.rows c.loop-granule.invariant.read c.in_err-at-2.field-0.0 c.twin_of_final-wanted.result (turn c).count (turn c).some (turn c).there (turn c).twin
    (subst (λ (cs : List Cells). ExplainsKey (key_types cs) (wanted_key cs c.twin_of_final-wanted.result) c.loop-granule.at (drop c.loop-granule.at c.args.bytes.now) c.in_err-at-2.field-0.0) c.as_mut_slice-2.ensures.value c.in_err-at-2.ensures.fault))

pub returns-in_err-end_at-clause-fault : goal.returns-in_err-end_at-clause-fault
returns-in_err-end_at-clause-fault c =
    let types = key_types c.args.columns.items in
    let t = final_turn types c.args.granularity c.args.rows c.loop-granule._granule c.div_ceil-granules.result c.from.result c.from-2.result c.twin_of_final-wanted.result c.requires.rows c.requires.granularity
    c.div_ceil-granules.ensures c.from.ensures c.from-2.ensures c.loop-granule.auto._granule-end c.loop-granule-test.false c.twin_of_final-wanted.ensures in
    let all = all_read c.args.granularity c.args.rows types c.args.bytes.now c.loop-granule.at c.loop-granule._granule c.loop-granule.columns.items c.as_mut_slice-2.result.now c.twin_of_final-wanted.result c.in_ok-at-2.field-0
    c.loop-granule.columns.len c.read_key-2.new.columns c.loop-granule.invariant.read t c.as_mut_slice-2.ensures.value c.loop-granule.columns.ok.0 c.in_ok-at-2.ensures.read in
    handed (ExplainsPrimary (key_shape types c.args.granularity c.args.rows) c.args.bytes.now) c.from_residual-in_err-end_at.result c.in_err-end_at.field-0.0 (Malformed (c.loop-granule.at + c.in_ok-at-2.field-0)) c.from_residual-in_err-end_at.ensures.1 c.in_err-end_at.ensures.0
    (all_past all c.in_err-end_at.ensures.1)

pub of_columns-requires : goal.of_columns-requires
of_columns-requires c =
    let types = key_types c.args.columns.items in
    let t = final_turn types c.args.granularity c.args.rows c.loop-granule._granule c.div_ceil-granules.result c.from.result c.from-2.result c.twin_of_final-wanted.result c.requires.rows c.requires.granularity
    c.div_ceil-granules.ensures c.from.ensures c.from-2.ensures c.loop-granule.auto._granule-end c.loop-granule-test.false c.twin_of_final-wanted.ensures in
    let all = all_read c.args.granularity c.args.rows types c.args.bytes.now c.loop-granule.at c.loop-granule._granule c.loop-granule.columns.items c.as_mut_slice-2.result.now c.twin_of_final-wanted.result c.in_ok-at-2.field-0
    c.loop-granule.columns.len c.read_key-2.new.columns c.loop-granule.invariant.read t c.as_mut_slice-2.ensures.value c.loop-granule.columns.ok.0 c.in_ok-at-2.ensures.read in
    let wide : 0 < length types = omega (arith, c.requires.some, length-map c.args.columns.items (λ (x : Cells). x.col_type)) in
    all_have all c.len-keys.result (all_len all c.index.result.now wide c.index.ensures ∙ sym c.len-keys.ensures.count)

pub returns-clause-read : goal.returns-clause-read
returns-clause-read c =
    let types = key_types c.args.columns.items in
    let t = final_turn types c.args.granularity c.args.rows c.loop-granule._granule c.div_ceil-granules.result c.from.result c.from-2.result c.twin_of_final-wanted.result c.requires.rows c.requires.granularity
    c.div_ceil-granules.ensures c.from.ensures c.from-2.ensures c.loop-granule.auto._granule-end c.loop-granule-test.false c.twin_of_final-wanted.ensures in
    let all = all_read c.args.granularity c.args.rows types c.args.bytes.now c.loop-granule.at c.loop-granule._granule c.loop-granule.columns.items c.as_mut_slice-2.result.now c.twin_of_final-wanted.result c.in_ok-at-2.field-0
    c.loop-granule.columns.len c.read_key-2.new.columns c.loop-granule.invariant.read t c.as_mut_slice-2.ensures.value c.loop-granule.columns.ok.0 c.in_ok-at-2.ensures.read in
    let wide : 0 < length types = omega (arith, c.requires.some, length-map c.args.columns.items (λ (x : Cells). x.col_type)) in
    subst (IsPrimaryOf (key_shape types c.args.granularity c.args.rows) c.args.bytes.now) (sym c.of_columns.ensures)
    (all_spelled all c.len-keys.result (all_len all c.index.result.now wide c.index.ensures ∙ sym c.len-keys.ensures.count) c.in_ok-end_at.ensures)
