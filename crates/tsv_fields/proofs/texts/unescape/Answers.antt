use Rattle.std.proofs.Common.{◌≡◌, ◌+◌, ◌-◌, ◌<◌, ◌≤◌, ◌++◌, arith, take, drop, length, length-drop}
use Rattle.std.proofs.lemmas.List.{take_rest}
use Rattle.std.specs.List.{prefix_len}
use Rattle.std.proofs.lemmas.Result.{err_from_is_err_and}
use Rattle.tsv_fields.specs.Texts.{is_no_backslash}
use Rattle.tsv_fields.proofs.Unescaping.{run_ends, escape_refused, escape_read}
use Rattle.tsv_fields.proofs.texts.unescape.Goals as goal
use Rattle.tsv_fields.proofs.texts.unescape.Goals.{In_ok-extend_from_slice}

-- out of memory
pub returns-in_err-extend_from_slice : goal.returns-in_err-extend_from_slice
returns-in_err-extend_from_slice c = let p = err_from_is_err_and c.from_residual.result c.from_residual.ensures.1 in rw p.1 tt

pub returns-in_err-push : goal.returns-in_err-push
returns-in_err-push c = let p = err_from_is_err_and c.from_residual-in_err-push.result c.from_residual-in_err-push.ensures.1 in rw p.1 tt

run : (c : In_ok-extend_from_slice) → c.plain_len-plain.result ≡ prefix_len is_no_backslash (drop c.loop-at.at c.args.text.now)
run c = rw take_rest at c.plain_len-plain.ensures.value

out : (c : In_ok-extend_from_slice) → c.extend_from_slice.new.self.items ≡ c.loop-at.out.items ++ take c.plain_len-plain.result (drop c.loop-at.at c.args.text.now)
out c =
    let size : c.loop-at.at + c.plain_len-plain.result - c.loop-at.at ≡ c.plain_len-plain.result = omega arith in
    rw size at c.in_ok-extend_from_slice.ensures.items

-- the run stands within the text
inside : (c : In_ok-extend_from_slice) → c.loop-at.at + c.plain_len-plain.result ≤ length c.args.text.now
inside c =
    let short = rw take_rest at c.plain_len-plain.ensures.within in
    omega (arith, length-drop c.loop-at.at c.args.text.now, c.loop-at.invariant.within)

pub returns-then-at-text : goal.returns-then-at-text
returns-then-at-text c =
    let d = (goal.at.returns-then-at-text c).In_ok-extend_from_slice in
    rw (out d) (run_ends c.args.text.now c.loop-at.out.items c.loop-at.at c.plain_len-plain.result c.loop-at.invariant.said (run d) c.if-at-text.true)

pub returns-in_default : goal.returns-in_default
returns-in_default c =
    let d = (goal.at.returns-in_default c).In_ok-extend_from_slice in
    let more = inside d in
    let within : c.loop-at.at + c.plain_len-plain.result < length c.args.text.now = omega arith in
    escape_refused c.args.text.now c.loop-at.out.items c.loop-at.at c.plain_len-plain.result c.loop-at.invariant.said (run d) within (rw take_rest at c.in_default.ensures.value)

pub loop-at-preserved : goal.loop-at-preserved
loop-at-preserved c =
    let d = (goal.at.loop-at-preserved c).In_ok-extend_from_slice in
    let more = inside d in
    let within : c.loop-at.at + c.plain_len-plain.result < length c.args.text.now = omega arith in
    let taken = rw take_rest at c.in-Some.ensures.within in
    record {
      within = omega (arith, length-drop (c.loop-at.at + c.plain_len-plain.result + 1) c.args.text.now);
      said =
          rw (c.in_ok-push.ensures.items, out d)
          (escape_read c.args.text.now c.loop-at.out.items c.loop-at.at c.plain_len-plain.result c.loop-at.invariant.said (run d) c.in-Some.byte c.in-Some.used within (rw take_rest at c.in-Some.ensures.value));
    }
