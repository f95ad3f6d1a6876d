use Rattle.std.proofs.lemmas.Result.{IfOk-weaker}
use Rattle.std.proofs.Common.{◌≡◌, ◌∙◌, List, length, inl, sym, ap, subst, arith}
use Rattle.mt_base.specs.Stops.{Refuses}
use Rattle.mt_values.specs.declared.schema.Column.{Column}
use Rattle.replies.specs.mt_model.Queries.{query_of}
use Rattle.replies.specs.mt_model.Refusals.{refusal_line}
use Rattle.replies.proofs.MtModelCauses.{query_is_cause, undamaged_line}
use Rattle.replies.proofs.Causing.{says_script}
use Rattle.replies.proofs.Undamaged.{line_of}
use Rattle.replies.proofs.Refusing.{select_refused}
use Rattle.session.specs.Selects.{TellsOfDamage}
use Rattle.session.proofs.Accounting.{refused_as, accounts_still}
use Rattle.session.proofs.Asking.{query_is}
use Rattle.session.proofs.SelectStanding.{snap_schema}
use Rattle.session.proofs.selects.scan.Goals as goal

-- what it is refused for
pub returns-in-Err-Refused-clause-answers : goal.returns-in-Err-Refused-clause-answers
returns-in-Err-Refused-clause-answers g c = λ h store stands pinned.
    let there = snap_schema g.R.Dir.Dir.files h store stands c.args.text.now.table c.args.snap.now pinned in
    let chosen = ap (λ (cs : List Column). query_of cs c.args.text.now) (sym c.as_slice.ensures)
    ∙ subst (Refuses (query_of c.as_slice.result.now c.args.text.now)) c.in-Err-Refused.field-0-is c.in-Err-Refused.ensures in
    IfOk-weaker c.refused.result _ _ (λ line is. record {
      takes = λ n session f. select_refused n h session c.args.text.now line c.in-Err-Refused.refusal (query_is c.args.text.now h c.args.snap.now.schema there ∙ chosen) is;
      plain = λ _. inl (c.in-Err-Refused.refusal, is);
    }) (refused_as _ c.in-Err-Refused.refusal c.refused.result c.in-Err-Refused.refusal-is c.refused.ensures)

-- the columns of a table are not too many
pub query_of-requires : goal.query_of-requires
query_of-requires g c =
    let few = c.requires.few in
    omega (arith, few, ap length c.as_slice.ensures)

-- what is asked of the table
pub read_matches-requires-clause-query : goal.read_matches-requires-clause-query
read_matches-requires-clause-query g c κs within =
    ap (λ (cs : List Column). query_of cs c.args.text.now) (sym c.as_slice.ensures) ∙ c.in-Ok.ensures

-- what accounts for it
pub returns-in-Err-Refused-clause-accounts : goal.returns-in-Err-Refused-clause-accounts
returns-in-Err-Refused-clause-accounts g c = λ opened disk.
    let arm = g.R.Arm.failed c.args.arm.now in
    let why = c.in-Err-Refused.refusal in
    let chosen = ap (λ (cs : List Column). query_of cs c.args.text.now) (sym c.as_slice.ensures)
    ∙ subst (Refuses (query_of c.as_slice.result.now c.args.text.now)) c.in-Err-Refused.field-0-is c.in-Err-Refused.ensures in
    let caused = query_is_cause c.args.snap.now.schema.columns c.args.text.now why chosen in
    accounts_still (TellsOfDamage g.R.Dir.Dir.files c.args.snap.now c.args.text.now) opened disk arm c.refused.result (λ reply. reply ≡ refusal_line why) (refused_as _ why c.refused.result c.in-Err-Refused.refusal-is c.refused.ensures)
    (λ reply is. says_script opened disk disk arm arm reply why is caused) (λ reply is. line_of reply why is (undamaged_line why caused))
