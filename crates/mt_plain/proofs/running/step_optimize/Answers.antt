use Rattle.std.proofs.Common.{◌≡◌, List, ℕ, None, length, ap, sym, ◌∙◌}
use Rattle.part_history.specs.mt_model.declared.refusal.Refusal.TheVariants as refusal
use Rattle.part_history.specs.mt_model.History.{schema_of}
use Rattle.part_history.specs.mt_model.Refusals.{refusal_line}
use Rattle.part_history.specs.mt_model.Reply.{ok_line}
use Rattle.mt_plain.proofs.Steps.{when_ok, no_table_optimized, optimized}
use Rattle.mt_plain.proofs.running.step_optimize.Goals as goal

pub returns-in_default : goal.returns-in_default
returns-in_default c =
    let h = c.args.history.now in
    let o = c.args.asked.now in
    let none : schema_of o.table h ≡ None = sym c.in_default.ensures in
    let named = ap (λ (n : List ℕ). refusal_line (refusal.NoTable n)) c.in_ok-twin.ensures in
    when_ok c.refused.result (λ line. line.items ≡ refusal_line (refusal.NoTable c.in_ok-twin.field-0)) _ (λ line is. no_table_optimized h o line.items none (is ∙ named)) c.refused.ensures

pub returns : goal.returns
returns c =
    when_ok c.ok_line.result (λ line. line.items ≡ ok_line (length c.args.history.now)) _ (λ line is. optimized c.args.history.now c.args.asked.now c.in-Some._schema.now line.items (sym c.in-Some.ensures) is) c.ok_line.ensures
