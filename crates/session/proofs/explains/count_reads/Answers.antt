use Rattle.std.proofs.lemmas.Result.{IfOk-weaker}
use Rattle.std.proofs.Common.{◌≡◌, ◌∙◌, List, [], Ok, inl, inr, length, map, refl, sym, ap, subst, arith}
use Rattle.mt_base.specs.Stops.{Refuses}
use Rattle.mt_values.specs.declared.schema.Column.{Column}
use Rattle.replies.specs.mt_model.Explain.{Portion, counts_of, explain_line}
use Rattle.replies.specs.mt_model.Queries.{query_of}
use Rattle.replies.specs.mt_model.Refusals.{is_damage, refusal_line}
use Rattle.replies.proofs.MtModelCauses.{query_is_cause, undamaged_line}
use Rattle.final_fold.proofs.PartHistoryPortions.{portions_stand}
use Rattle.final_fold.specs.part_history.Parts.{portion_of}
use Rattle.replies.proofs.Causing.{says_answer, says_script}
use Rattle.replies.proofs.Refusing.{explain_refused, explains_all}
use Rattle.replies.proofs.Undamaged.{line_of}
use Rattle.merge_workers.specs.shared_store.root_store.Stores.{core_parts}
use Rattle.final_fold.specs.select_plan.Plans.{counts_over}
use Rattle.session.specs.Lapses.{Never}
use Rattle.session.proofs.Accounting.{refused_as, accounts_still}
use Rattle.session.proofs.Asking.{query_is}
use Rattle.session.proofs.Explaining.{counts_are, explains, plan_is}
use Rattle.session.proofs.SelectStanding.{snap_held, snap_schema}
use Rattle.session.proofs.explains.count_reads.Goals as goal

-- the columns of a table are not too many
pub query_of-requires : goal.query_of-requires
query_of-requires g c =
    let few = c.requires.few in
    omega (arith, few, ap length c.as_slice.ensures)

-- what it is refused for
pub returns-in-Err-Refused-clause-answers : goal.returns-in-Err-Refused-clause-answers
returns-in-Err-Refused-clause-answers g c = λ h store stands pinned.
    let text = c.args.text.now in
    let there = snap_schema g.F.Dir.files h store stands text.table c.args.snap.now pinned in
    let asked = ap (λ (cs : List Column). query_of cs text) (sym c.as_slice.ensures)
    ∙ subst (Refuses (query_of c.as_slice.result.now text)) c.in-Err-Refused.field-0-is c.in-Err-Refused.ensures in
    IfOk-weaker c.refused.result _ _ (λ line is n session. explain_refused n h session text line c.in-Err-Refused.refusal (query_is text h c.args.snap.now.schema there ∙ asked) is)
    (refused_as _ c.in-Err-Refused.refusal c.refused.result c.in-Err-Refused.refusal-is c.refused.ensures)

pub returns-in-Err-Refused-clause-accounts : goal.returns-in-Err-Refused-clause-accounts
returns-in-Err-Refused-clause-accounts g c = λ opened disk arm.
    let text = c.args.text.now in
    let why = c.in-Err-Refused.refusal in
    let asked = ap (λ (cs : List Column). query_of cs text) (sym c.as_slice.ensures)
    ∙ subst (Refuses (query_of c.as_slice.result.now text)) c.in-Err-Refused.field-0-is c.in-Err-Refused.ensures in
    let caused = query_is_cause c.args.snap.now.schema.columns text why asked in
    accounts_still Never opened disk arm c.refused.result (λ reply. reply ≡ refusal_line why) (refused_as _ why c.refused.result c.in-Err-Refused.refusal-is c.refused.ensures)
    (λ reply is. says_script opened disk disk arm arm reply why is caused) (λ reply is. line_of reply why is (undamaged_line why caused))

pub returns-in-Err-Refused-clause-counts : goal.returns-in-Err-Refused-clause-counts
returns-in-Err-Refused-clause-counts g c =
    IfOk-weaker c.refused.result _ _ (λ line is. inl (c.in-Err-Refused.refusal, is)) (refused_as _ c.in-Err-Refused.refusal c.refused.result c.in-Err-Refused.refusal-is c.refused.ensures)

pub returns-clause-counts : goal.returns-clause-counts
returns-clause-counts g c =
    let text = c.args.text.now in
    let snap = c.args.snap.now in
    let q = c.in-Ok.query in
    let asked : query_of snap.schema.columns text ≡ Ok q = ap (λ (cs : List Column). query_of cs text) (sym c.as_slice.ensures) ∙ c.in-Ok.ensures in
    let counted = c.in-Some.ensures ∙ ap counts_over c.in_ok-planned.ensures in
    IfOk-weaker c.explained.result _ _ (λ reply is. inr (record { query = q; asked = asked; reply_is = is ∙ ap (λ n. explain_line n snap.length) counted })) c.explained.ensures

-- the numbers of the plan
pub returns-clause-answers : goal.returns-clause-answers
returns-clause-answers g c = λ h store stands pinned.
    let files = g.F.Dir.files in
    let text = c.args.text.now in
    let snap = c.args.snap.now in
    let schema = snap.schema in
    let q = c.in-Ok.query in
    let there = snap_schema files h store stands text.table snap pinned in
    let held = snap_held files h store stands text.table snap pinned in
    let asked : query_of schema.columns text ≡ Ok q = ap (λ (cs : List Column). query_of cs text) (sym c.as_slice.ensures) ∙ c.in-Ok.ensures in
    let ps : List Portion = map portion_of (core_parts text.table snap.parts.items held.rows) in
    let counted : c.in-Some.counts ≡ counts_of schema [] text.is_final q.condition ps =
    c.in-Some.ensures ∙ ap counts_over (c.in_ok-planned.ensures ∙ plan_is files schema q.condition text.table text.is_final snap.parts.items held.rows held.hold)
    ∙ counts_are schema [] text.is_final q.condition ps in
    let place : snap.length ≡ length h = pinned.length_is ∙ stands.length_is in
    IfOk-weaker c.explained.result _ _ (λ reply is n session.
    explains_all n h session text reply (explains h text schema q ps c.in-Some.counts (length h) reply there asked
    (portions_stand h text.table schema there (core_parts text.table snap.parts.items held.rows) held.stand) (stands.unaltered text.table) counted (is ∙ ap (explain_line c.in-Some.counts) place))) c.explained.ensures

pub returns-clause-accounts : goal.returns-clause-accounts
returns-clause-accounts g c = λ opened disk arm.
    accounts_still Never opened disk arm c.explained.result _ c.explained.ensures (λ reply is. says_answer opened disk disk arm arm reply _ is refl) (λ reply is. ap is_damage is)
