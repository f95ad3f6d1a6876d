use Rattle.std.proofs.Common.{◌≡◌, ◌+◌, ◌-◌, ◌<◌, ◌^◌, ◌∙◌, ◌++◌, All, Some, None, Ok, Err, List, ℕ, false, sym, ap, subst, append-nil, arith, length, take, drop, length-drop}
use Rattle.std.proofs.lemmas.List.{take_rest, take_all, drop-drop, drop_all}
use Rattle.std.proofs.lemmas.List.Elements.{All-from_get_or, All-weaker}
use Rattle.std.proofs.lemmas.Result.{err_from_is_err_and}
use Rattle.mt_values.specs.declared.row_fault.DataFault.TheVariants as data_fault
use Rattle.mt_values.specs.Engines.{keeps_sign}
use Rattle.mt_values.specs.Grid.{Cells, Grid, row_at}
use Rattle.mt_values.specs.Rows.{inserted_rows}
use Rattle.mt_values.specs.Script.{line_from}
use Rattle.mt_values.specs.Values.{AreValues}
use Rattle.mt_values.proofs.RowValues.{AreBytes, if_ok, inserted_values}
use Rattle.tsv_rows.proofs.DataRows.{Data, HaveRow, no_lines, lines_end, lines_unended, lines_many, lines_refused, lines_unsigned, lines_more, row_even, row_read}
use Rattle.tsv_rows.proofs.rows.read_rows.Goals as goal
use Rattle.tsv_rows.proofs.rows.read_rows.Goals.{In-Some, In_default, After-as_slice, After-of_columns}

-- all that was written is what stands
written_whole : {X : Type 0} (new old : List X) (n : ℕ) → length new ≡ length old → n ≡ length new → take n (new ++ drop (length new) old) ≡ new
written_whole new old n same all = ap (λ rest. take n (new ++ rest)) (drop_all (length new) old (omega arith)) ∙ ap (take n) (append-nil new) ∙ take_all n new (omega arith)

-- the line that was found, and what comes after it
found : (c : In-Some) → Some (take c.in-Some.len (drop c.lines.at c.args.lines.now), drop (c.in-Some.len + 1) (drop c.lines.at c.args.lines.now)) ≡ line_from false (drop c.lines.at c.args.lines.now)
found c = rw (take_rest, c.in-Some.is) at c.in_ok-len.ensures.line

-- it lies within the text
inside : (c : In-Some) → c.in-Some.len < length (drop c.lines.at c.args.lines.now)
inside c = rw (take_rest, c.in-Some.is) at c.in_ok-len.ensures.within

-- the size of the line that was found
line_size : (c : In-Some) → c.lines.at + c.in-Some.len - c.lines.at ≡ c.in-Some.len
line_size c = omega arith

-- out of memory says nothing of the data
pub returns-in_err-columns : goal.returns-in_err-columns
returns-in_err-columns c =
    let p = err_from_is_err_and c.from_residual.result c.from_residual.ensures.1 in
    rw (p.1, p.2) (record { rows = tt; types = tt; values = tt; refused = tt })

pub returns-in_err-len : goal.returns-in_err-len
returns-in_err-len c =
    let p = err_from_is_err_and c.from_residual-in_err-len.result c.from_residual-in_err-len.ensures.1 in
    rw (p.1, p.2) (record { rows = tt; types = tt; values = tt; refused = tt })

pub lines-init : goal.lines-init
lines-init c = record { kept = rw c.in_ok-columns.ensures (no_lines (record { types = c.args.types.now; sign = c.args.sign; lines = c.args.lines.now; ended = c.args.ended })); within = omega arith }

pub returns-then-count-ge-ROW_LIMIT : goal.returns-then-count-ge-ROW_LIMIT
returns-then-count-ge-ROW_LIMIT c =
    let e = (goal.at.returns-then-count-ge-ROW_LIMIT c).In-Some in
    let d : Data = record { types = c.args.types.now; sign = c.args.sign; lines = c.args.lines.now; ended = c.args.ended } in
    let text = drop c.lines.at c.args.lines.now in
    record {
      rows = tt;
      types = tt;
      values = tt;
      refused =
          lines_many d text c.lines.columns.items c.lines.count c.lines.invariant.kept (take c.in-Some.len text) (drop (c.in-Some.len + 1) text) (found e)
          c.if-count-ge-ROW_LIMIT.true;
    }

pub returns-in-Err-Refused : goal.returns-in-Err-Refused
returns-in-Err-Refused c =
    let told = rw (line_size (goal.at.returns-in-Err-Refused c).In-Some, c.deref_mut.ensures.value, c.in-Err-Refused.field-0-is) at c.in-Err-Refused.ensures in
    let d : Data = record { types = c.args.types.now; sign = c.args.sign; lines = c.args.lines.now; ended = c.args.ended } in
    let text = drop c.lines.at c.args.lines.now in
    record {
      rows = tt;
      types = tt;
      values = tt;
      refused =
          lines_refused d text c.lines.columns.items c.lines.count c.lines.invariant.kept (take c.in-Some.len text) (drop (c.in-Some.len + 1) text)
          (found (goal.at.returns-in-Err-Refused c).In-Some) c.if-count-ge-ROW_LIMIT.false c.in-Err-Refused.fault (sym told)
          ∙ ap (λ f. Err (data_fault.Row f)) (sym c.in-Err-Refused.fault-is);
    }

the_data : (c : After-as_slice) → Data
the_data c = record { types = c.args.types.now; sign = c.args.sign; lines = c.args.lines.now; ended = c.args.ended }

-- the line is a row, and its values come last in the columns
have_row : (c : After-as_slice) → HaveRow (the_data c) c.lines.columns.items c.lines.count (take c.in-Some.len (drop c.lines.at c.args.lines.now)) c.read_line.new.columns
unfolding the_data
have_row c =
    let e = (goal.at.keeps_sign-requires c).In-Some in
    let text = drop c.lines.at c.args.lines.now in
    let told = rw (line_size e, c.deref_mut.ensures.value) at c.in-Ok.ensures in
    row_read (the_data c) text c.lines.columns.items c.lines.count c.lines.invariant.kept (take c.in-Some.len text) (drop (c.in-Some.len + 1) text) (found e) c.read_line.new.columns (sym told)

-- what stands in the columns now
columns_whole : (c : After-as_slice) → take c.lines.columns.len (c.read_line.new.columns ++ drop (length c.read_line.new.columns) c.lines.columns.items) ≡ c.read_line.new.columns
columns_whole c =
    let new : List Cells = c.read_line.new.columns in
    let count : length new ≡ length c.lines.columns.items = omega (arith, ap length c.deref_mut.ensures.value) in
    written_whole new c.lines.columns.items c.lines.columns.len count (c.lines.columns.ok.0 ∙ sym count)

columns_now : (c : After-as_slice) → c.as_slice.result.now ≡ c.read_line.new.columns
columns_now c = c.as_slice.ensures.value ∙ columns_whole c

-- the sign of the row
sign_now : (c : After-as_slice) → keeps_sign c.args.sign (row_at c.read_line.new.columns c.lines.count) ≡ keeps_sign c.args.sign (row_at c.as_slice.result.now c.lines.count)
sign_now c = ap (λ (cs : List Cells). keeps_sign c.args.sign (row_at cs c.lines.count)) (sym (columns_now c))

pub keeps_sign-requires : goal.keeps_sign-requires
unfolding the_data
keeps_sign-requires c =
    let e = (goal.at.keeps_sign-requires c).In-Some in
    let text = drop c.lines.at c.args.lines.now in
    let new : List Cells = c.read_line.new.columns in
    let even = row_even (the_data c) text c.lines.columns.items c.lines.count c.lines.invariant.kept (take c.in-Some.len text) (drop (c.in-Some.len + 1) text) (found e) new (have_row c) in
    subst (All (λ (x : Cells). c.lines.count < length x.values)) (sym (columns_now c))
    (All-weaker (λ (x : Cells). length x.values ≡ c.lines.count + 1) (λ (x : Cells). c.lines.count < length x.values) (λ x same. omega arith) new even)

pub returns-then-not-keeps_sign : goal.returns-then-not-keeps_sign
unfolding the_data
returns-then-not-keeps_sign c =
    let s = (goal.at.returns-then-not-keeps_sign c).After-as_slice in
    let e = (goal.at.returns-then-not-keeps_sign c).In-Some in
    let text = drop c.lines.at c.args.lines.now in
    record {
      rows = tt;
      types = tt;
      values = tt;
      refused =
          lines_unsigned (the_data s) text c.lines.columns.items c.lines.count c.lines.invariant.kept (take c.in-Some.len text) (drop (c.in-Some.len + 1) text) (found e) c.read_line.new.columns (have_row s)
          c.if-count-ge-ROW_LIMIT.false (sign_now s ∙ sym c.keeps_sign.ensures ∙ c.if-not-keeps_sign.true);
    }

pub lines-preserved : goal.lines-preserved
unfolding the_data
lines-preserved c =
    let s = (goal.at.lines-preserved c).After-as_slice in
    let e = (goal.at.lines-preserved c).In-Some in
    let text = drop c.lines.at c.args.lines.now in
    let len = c.in-Some.len in
    let after : drop (len + 1) text ≡ drop (c.lines.at + (len + 1)) c.args.lines.now = drop-drop (len + 1) c.lines.at c.args.lines.now in
    record {
      kept =
          rw (columns_whole s, ← after)
          (lines_more (the_data s) text c.lines.columns.items c.lines.count c.lines.invariant.kept (take len text) (drop (len + 1) text) (found e) c.read_line.new.columns (have_row s)
          c.if-count-ge-ROW_LIMIT.false (sign_now s ∙ sym c.keeps_sign.ensures ∙ c.if-not-keeps_sign.false));
      within = omega (arith, inside e, length-drop c.lines.at c.args.lines.now);
    }

-- no line is left
last : (c : In_default) → None ≡ line_from false (drop c.lines.at c.args.lines.now)
last c = rw (take_rest, c.in_default.is) at c.in_ok-len.ensures.line

rows_are : (c : After-of_columns) → None ≡ line_from false (drop c.lines.at c.args.lines.now) → inserted_rows c.args.types.now c.args.sign c.args.lines.now c.args.ended ≡ Ok c.of_columns.result.rows
rows_are c none =
    let d : Data = record { types = c.args.types.now; sign = c.args.sign; lines = c.args.lines.now; ended = c.args.ended } in
    let text = drop c.lines.at c.args.lines.now in
    lines_end d text c.lines.columns.items c.lines.count c.lines.invariant.kept c.if-not-ended.false none
    ∙ ap (λ (g : Grid). Ok g.rows) (sym c.of_columns.ensures)

pub returns-then-not-ended : goal.returns-then-not-ended
returns-then-not-ended c =
    let d : Data = record { types = c.args.types.now; sign = c.args.sign; lines = c.args.lines.now; ended = c.args.ended } in
    let text = drop c.lines.at c.args.lines.now in
    record {
      rows = tt;
      types = tt;
      values = tt;
      refused =
          lines_unended d text c.lines.columns.items c.lines.count c.lines.invariant.kept c.if-not-ended.true
          (last (goal.at.returns-then-not-ended c).In_default);
    }

pub of_columns-requires-clause-even : goal.of_columns-requires-clause-even
of_columns-requires-clause-even c = c.lines.invariant.kept.even

pub returns : goal.returns
returns c =
    let types = c.args.types.now in
    let lines = c.args.lines.now in
    let bytes : AreBytes lines = All-from_get_or (λ (b : ℕ). b < 2 ^ 8) lines 0 (λ i h. omega (arith, c.type_inv.lines i)) in
    let rows = rows_are (goal.at.returns c).After-of_columns (last (goal.at.returns c).In_default) in
    record {
      rows = rows;
      types = ap (λ (g : Grid). g.types) c.of_columns.ensures ∙ c.lines.invariant.kept.typed;
      values = if_ok AreValues (inserted_rows types c.args.sign lines c.args.ended) c.of_columns.result.rows rows (inserted_values types c.args.sign lines c.args.ended bytes);
      refused = tt;
    }
