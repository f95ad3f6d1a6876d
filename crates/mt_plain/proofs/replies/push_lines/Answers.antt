use Rattle.std.proofs.Common.{◌∙◌, ℕ, List, ◌++◌, take, get_or, ap, sym, append_assoc}
use Rattle.std.specs.List.{concat}
use Rattle.part_history.proofs.MtModelLists.{concat_more}
use Rattle.mt_plain.proofs.replies.push_lines.Goals as goal

pub loop-line-preserved : goal.loop-line-preserved
loop-line-preserved c =
    let line = c.line-item.result in
    let lines = c.args.lines.now in
    let i = c.loop-line.line-index in
    let text = c.args.text.now.items in
    let so_far = concat (take i lines) in
    c.in_ok-extend_from_slice.ensures.items
    ∙ ap (λ (z : List ℕ). c.loop-line.text.items ++ z) (c.as_slice.ensures ∙ c.line-item.is)
    ∙ ap (λ (z : List ℕ). z ++ get_or lines i line) c.loop-line.invariant
    ∙ append_assoc text so_far (get_or lines i line)
    ∙ ap (λ (z : List ℕ). text ++ z) (sym (concat_more lines i line c.loop-line-test.true))
