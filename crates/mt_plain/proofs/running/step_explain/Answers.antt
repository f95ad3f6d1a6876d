use Rattle.std.proofs.Common.{◌≡◌, List, ℕ, None, ap, sym, ◌∙◌}
use Rattle.part_history.specs.mt_model.declared.refusal.Refusal.TheVariants as refusal
use Rattle.part_history.specs.mt_model.History.{schema_of}
use Rattle.part_history.specs.mt_model.Refusals.{refusal_line}
use Rattle.mt_plain.proofs.Steps.{when_ok, no_table_explained}
use Rattle.mt_plain.proofs.running.step_explain.Goals as goal

pub returns-in_default : goal.returns-in_default
returns-in_default c =
    let h = c.args.history.now in
    let t = c.args.asked.now in
    let none : schema_of t.table h ≡ None = sym c.in_default.ensures in
    let named = ap (λ (n : List ℕ). refusal_line (refusal.NoTable n)) c.in_ok-twin.ensures in
    when_ok c.refused.result (λ line. line.items ≡ refusal_line (refusal.NoTable c.in_ok-twin.field-0)) _ (λ line is. no_table_explained h t line.items none (is ∙ named)) c.refused.ensures
