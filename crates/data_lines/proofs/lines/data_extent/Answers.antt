use Rattle.std.proofs.Common.{◌≡◌, ◌∙◌, ◌+◌, ◌-◌, sym, arith, drop, take, true, false, length-drop, refl}
use Rattle.std.proofs.lemmas.List.{take_rest}
use Rattle.mt_values.specs.Script.{ends_data}
use Rattle.data_lines.proofs.DataLines.{lines_more, lines_end, ended_more, ended_here}
use Rattle.data_lines.proofs.lines.data_extent.Goals as goal

pub returns-then-ends_data-clause-data : goal.returns-then-ends_data-clause-data
returns-then-ends_data-clause-data c =
    let text = c.args.text.now in
    let at = c.lines.lines in
    let len = c.in-Some.len in
    let found = sym (rw take_rest at c.in-Some.ensures.parts) in
    let size : at + len - at ≡ len = omega arith in
    let ends : ends_data (take len (drop at text)) ≡ true = sym (rw size at c.ends_data.ensures) ∙ c.if-ends_data.true in
    let inside = rw take_rest at c.in-Some.ensures.within in
    sym (lines_end text at len (at + len + 1) c.lines.invariant.2 inside refl found ends) ∙ c.lines.invariant.0

pub returns-then-ends_data-clause-closed : goal.returns-then-ends_data-clause-closed
returns-then-ends_data-clause-closed c =
    let text = c.args.text.now in
    let at = c.lines.lines in
    let len = c.in-Some.len in
    let found = sym (rw take_rest at c.in-Some.ensures.parts) in
    let size : at + len - at ≡ len = omega arith in
    let ends : ends_data (take len (drop at text)) ≡ true = sym (rw size at c.ends_data.ensures) ∙ c.if-ends_data.true in
    let inside = rw take_rest at c.in-Some.ensures.within in
    ended_here text at len (at + len + 1) c.lines.invariant.2 inside refl found ends ∙ c.lines.invariant.1

pub lines-preserved : goal.lines-preserved
lines-preserved c =
    let text = c.args.text.now in
    let at = c.lines.lines in
    let len = c.in-Some.len in
    let found = sym (rw take_rest at c.in-Some.ensures.parts) in
    let size : at + len - at ≡ len = omega arith in
    let more : ends_data (take len (drop at text)) ≡ false = sym (rw size at c.ends_data.ensures) ∙ c.if-ends_data.false in
    let inside = rw take_rest at c.in-Some.ensures.within in (
      lines_more text at len (at + (len + 1)) c.lines.invariant.2 inside (omega arith) found more ∙ c.lines.invariant.0,
      ended_more text at len (at + (len + 1)) c.lines.invariant.2 inside (omega arith) found more ∙ c.lines.invariant.1,
      omega (arith, inside, length-drop at text),
    )
