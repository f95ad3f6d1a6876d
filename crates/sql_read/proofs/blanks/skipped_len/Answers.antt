use Rattle.std.proofs.Common.{◌≡◌, ◌∙◌, sym, drop, Some, arith}
use Rattle.std.proofs.lemmas.List.{take_rest}
use Rattle.sql_read.specs.Blanks.{is_skipped, comment_behind}
use Rattle.sql_read.proofs.Skipping.{goes_on}
use Rattle.sql_read.proofs.blanks.skipped_len.Goals as goal

pub skip-preserved : goal.skip-preserved
skip-preserved c =
    let here : comment_behind (is_skipped c.args.skipped) c.skip.comment (drop c.skip.at c.args.text.now) ≡ Some c.in-Some.inside = sym (rw take_rest at c.comment_behind.ensures) ∙ c.in-Some.is in
    let more = goes_on (is_skipped c.args.skipped) c.skip.comment c.in-Some.inside c.args.text.now c.skip.at here in
    (more.0 ∙ c.skip.invariant.0, omega arith)
