use Rattle.std.proofs.Common.{IfOk, subst, sym}
use Rattle.mt_values.specs.declared.engine.Engine.{Engine}
use Rattle.part_history.specs.mt_model.Rules.{Run}
use Rattle.mt_plain.specs.Outcomes.{AreExactly}
use Rattle.mt_plain.proofs.rules.runs.Goals as goal

pub returns-in-Plain : goal.returns-in-Plain
returns-in-Plain c = subst (λ (e : Engine). IfOk c.plain_left.result (λ outs. AreExactly outs.items (Run e c.args.functions.now c.args.rows.now))) (sym c.in-Plain.is) c.plain_left.ensures

pub returns-in-Collapsing : goal.returns-in-Collapsing
returns-in-Collapsing c = subst (λ (e : Engine). IfOk c.collapsed_left.result (λ outs. AreExactly outs.items (Run e c.args.functions.now c.args.rows.now))) (sym c.in-Collapsing.is) c.collapsed_left.ensures

pub returns-in-Versioned : goal.returns-in-Versioned
returns-in-Versioned c = subst (λ (e : Engine). IfOk c.one_sign_left.result (λ outs. AreExactly outs.items (Run e c.args.functions.now c.args.rows.now))) (sym c.in-Versioned.is) c.one_sign_left.ensures
