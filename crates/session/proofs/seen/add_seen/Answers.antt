use Rattle.std.proofs.lemmas.Result.{IfOk-weaker}
use Rattle.std.proofs.Common.{◌≡◌, ◌∙◌, Bool, List, ℕ, IfErr, ap, arith, length, map, subst, sym}
use Rattle.mt_values.specs.Grid.{Cells}
use Rattle.replies.specs.mt_model.Live.{live}
use Rattle.merge_workers.specs.shared_store.part_reader.declared.reading.Part.{Part}
use Rattle.merge_workers.specs.shared_store.part_set.declared.kept.Kept.{Kept}
use Rattle.merge_workers.proofs.RootStoreTableMarks.{has_marks}
use Rattle.final_fold.specs.select_plan.Plans.{planned}
use Rattle.final_fold.specs.Folded.{AreAdded, AreOfPartitions, ExplainsFold, StandByPartition}
use Rattle.final_fold.specs.Matches.{ExplainsMatches, matching}
use Rattle.final_fold.specs.row_merge.MergedParts.{PartsHold}
use Rattle.final_fold.specs.Scans.{joined_rows, rows_kept, values_at}
use Rattle.session.specs.Selects.{ExplainsRead, IsSeen}
use Rattle.session.proofs.Seeing.{adds_seen, final_parts, ok_both, plain_parts}
use Rattle.session.proofs.seen.add_seen.Goals as goal

-- parts are merged by their keys
pub final_rows-requires-clause-marks : goal.final_rows-requires-clause-marks
final_rows-requires-clause-marks g c κs within = has_marks c.args.wanted.now.schema.now c.requires.wanted.table

-- with FINAL what a merge of all parts' rows leaves
pub returns-then-is_final-clause-seen : goal.returns-then-is_final-clause-seen
returns-then-is_final-clause-seen g c =
    let files = g.R.Dir.Dir.files in
    let snap = c.args.snap.now in
    let w = c.args.wanted.now in
    let new = c.final_rows.new.columns in
    let parts_are = c.as_slice-parts.ensures.value in
    let is = c.as_slice-chosen.ensures.value ∙ (c.requires.plan ∙ ap (λ (f : Bool). planned snap f w.condition.now) c.if-is_final.true) in
    adds_seen files snap c.args.is_final w c.args.columns.now new c.final_rows.result
    (λ h store table stands pinned empty.
    let asks = final_parts files snap w c.requires.wanted.schema c.requires.wanted.table c.requires.wanted.wanted h store table stands pinned c.as_slice-chosen.result.now is in
    IfOk-weaker c.final_rows.result _ _
    (λ count folded. subst (λ (f : Bool). IsSeen files snap.parts.items w f (live table w.schema.now h) new count) (sym c.if-is_final.true) (asks.seen new count folded))
    (c.final_rows.ensures.values asks.rows (subst (λ (ps : List (Kept (Part _))). StandByPartition ps) (sym parts_are) asks.stand)
    (subst (λ (ps : List (Kept (Part _))). PartsHold files w.schema.now ps asks.rows) (sym parts_are) asks.hold)
    (subst (λ (ps : List (Kept (Part _))). AreOfPartitions w.schema.now ps asks.rows) (sym parts_are) asks.own) asks.skip empty))
    (λ zero. IfOk-weaker c.final_rows.result _ _ (λ (count : ℕ) (added : AreAdded c.args.columns.now new count). added.even zero) c.final_rows.ensures.added)
    (IfOk-weaker c.final_rows.result _ _ (λ (count : ℕ) (added : AreAdded c.args.columns.now new count). added.types) c.final_rows.ensures.added)
    (IfOk-weaker c.final_rows.result _ _ (λ (count : ℕ) (added : AreAdded c.args.columns.now new count). added.few) c.final_rows.ensures.added)

pub returns-then-is_final-clause-fault : goal.returns-then-is_final-clause-fault
returns-then-is_final-clause-fault g c =
    let files = g.R.Dir.Dir.files in
    let snap = c.args.snap.now in
    let w = c.args.wanted.now in
    let parts_are = c.as_slice-parts.ensures.value in
    let is = c.as_slice-chosen.ensures.value ∙ c.requires.plan in
    (subst (λ (f : Bool). IfErr c.final_rows.result (ExplainsRead files f snap.parts.items (planned snap c.args.is_final w.condition.now) w)) (sym c.if-is_final.true)
    (subst (λ (ps : List (Kept (Part _))). IfErr c.final_rows.result (ExplainsFold files ps (planned snap c.args.is_final w.condition.now) w)) parts_are
    (subst (λ (ch : List (List Bool)). IfErr c.final_rows.result (ExplainsFold files c.as_slice-parts.result.now ch w)) is c.final_rows.ensures.damaged)))

-- without it the rows of the parts
pub returns-clause-seen : goal.returns-clause-seen
returns-clause-seen g c =
    let files = g.R.Dir.Dir.files in
    let snap = c.args.snap.now in
    let w = c.args.wanted.now in
    let new = c.add_matches.new.columns in
    let parts_are = c.as_slice-parts.ensures.value in
    let is = c.as_slice-chosen.ensures.value ∙ (c.requires.plan ∙ ap (λ (f : Bool). planned snap f w.condition.now) c.if-is_final.false) in
    adds_seen files snap c.args.is_final w c.args.columns.now new c.add_matches.result
    (λ h store table stands pinned empty.
    let asks = plain_parts files snap w c.requires.wanted.schema c.requires.wanted.table c.requires.wanted.wanted h store table stands pinned c.as_slice-parts.result.now c.as_slice-chosen.result.now parts_are is in
    let hold = subst (λ (ps : List (Kept (Part _))). PartsHold files w.schema.now ps asks.rows) (sym parts_are) asks.hold in
    let rows = matching w.condition.now (joined_rows asks.rows) in
    ok_both c.add_matches.result (map (λ (x : Cells). x.values) new ≡ values_at rows w.places.now) (λ count. count ≡ length rows) (IsSeen files snap.parts.items w c.args.is_final (live table w.schema.now h) new)
    (λ count values counted. subst (λ (f : Bool). IsSeen files snap.parts.items w f (live table w.schema.now h) new count) (sym c.if-is_final.false) (asks.seen new count values counted))
    (c.add_matches.ensures.values asks.rows hold asks.each asks.sure empty) (c.add_matches.ensures.counted asks.rows hold asks.each asks.sure))
    c.add_matches.ensures.even c.add_matches.ensures.types
    (IfOk-weaker c.add_matches.result _ _
    (λ count le. let small = c.requires.few in let same = ap (λ (ps : List (Kept (Part _))). rows_kept ps) parts_are in omega (arith, le, small, same)) c.add_matches.ensures.few)

pub returns-clause-fault : goal.returns-clause-fault
returns-clause-fault g c =
    let files = g.R.Dir.Dir.files in
    let snap = c.args.snap.now in
    let w = c.args.wanted.now in
    let parts_are = c.as_slice-parts.ensures.value in
    let is = c.as_slice-chosen.ensures.value ∙ c.requires.plan in
    (subst (λ (f : Bool). IfErr c.add_matches.result (ExplainsRead files f snap.parts.items (planned snap c.args.is_final w.condition.now) w)) (sym c.if-is_final.false)
    (subst (λ (ps : List (Kept (Part _))). IfErr c.add_matches.result (ExplainsMatches files ps (planned snap c.args.is_final w.condition.now) w)) parts_are
    (subst (λ (ch : List (List Bool)). IfErr c.add_matches.result (ExplainsMatches files c.as_slice-parts.result.now ch w)) is c.add_matches.ensures.damaged)))
