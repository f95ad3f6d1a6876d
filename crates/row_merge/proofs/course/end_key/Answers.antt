use Rattle.std.proofs.lemmas.Result.{IfOk-weaker}
use Rattle.row_merge.proofs.Courses.{key_leaves, key_typed}
use Rattle.row_merge.proofs.course.end_key.Goals as goal

pub returns-in-Some-clause-leaves : goal.returns-in-Some-clause-leaves
returns-in-Some-clause-leaves g c =
    let rule = c.args.rule.now in
    IfOk-weaker c.end.result _ _
    (λ kept ends pending held all. key_leaves (g.Q.RowRule.holds rule) (g.Q.RowRule.run rule) (g.Q.RowRule.takes rule) c.args.current c.in-Some.held pending kept.items c.in-Some.is held all ends)
    c.end.ensures

pub returns-in-Some-clause-typed : goal.returns-in-Some-clause-typed
returns-in-Some-clause-typed g c =
    let rule = c.args.rule.now in
    IfOk-weaker c.end.result _ _
    (λ kept ends pending types held all typed.
    key_typed (g.Q.RowRule.holds rule) (g.Q.RowRule.run rule) (g.Q.RowRule.takes rule) c.args.current c.in-Some.held pending kept.items c.in-Some.is held all ends types typed (g.met.Q.RowRule.stays_taken rule))
    c.end.ensures
