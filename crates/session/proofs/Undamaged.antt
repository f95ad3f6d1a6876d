-- No reply tells of damage of parts that hold rows.
use Rattle.std.proofs.Common.{◌≡◌, ℕ, Bool, true, false, List, Option, Ok, Err, length, sym, subst}
use Rattle.std.specs.List.{All, AllZip}
use Rattle.std.proofs.lemmas.List.Elements.{All-contains}
use Rattle.mt_values.specs.declared.expr.Test.{Test}
use Rattle.mt_values.specs.declared.schema.Schema.{Schema}
use Rattle.mt_values.specs.declared.statement.SelectText.{SelectText}
use Rattle.mt_values.specs.declared.statement.Statement.TheVariants as statement
use Rattle.mt_values.specs.Conditions.{Condition}
use Rattle.mt_values.specs.Granules.{granules}
use Rattle.mt_values.specs.Script.{Item}
use Rattle.mt_values.specs.Values.{Row}
use Rattle.mt_outside.specs.Files.{Files}
use Rattle.replies.specs.mt_model.History.{History, IsTableSchema}
use Rattle.merge_workers.specs.shared_store.part_name.declared.part.PartName.{PartName}
use Rattle.merge_workers.specs.shared_store.part_reader.declared.reading.Part.{Part}
use Rattle.merge_workers.specs.shared_store.part_reader.declared.reading.PartFault.{PartFault}
use Rattle.merge_workers.specs.shared_store.part_reader.declared.reading.PartFault.TheVariants as fault
use Rattle.merge_workers.specs.shared_store.part_reader.Faults.{IsNoDamage}
use Rattle.merge_workers.specs.shared_store.part_set.declared.kept.Kept.{Kept}
use Rattle.merge_workers.specs.shared_store.part_set.declared.kept.Snap.{Snap}
use Rattle.merge_workers.specs.shared_store.root_store.Soundness.{HoldsRows}
use Rattle.merge_workers.specs.shared_store.Sharing.{AtOpening}
use Rattle.merge_workers.specs.shared_store.Stood.{Premise, is_held, is_told}
use Rattle.merge_workers.proofs.RootStoreTableMarks.{has_marks}
use Rattle.final_fold.specs.select_plan.Plans.{planned}
use Rattle.final_fold.specs.declared.asking.Wanted.{Wanted}
use Rattle.final_fold.specs.Matches.{SayOfEach}
use Rattle.final_fold.specs.row_merge.MergedParts.{PartsHold}
use Rattle.final_fold.proofs.RowMergeSound.{whole_sound}
use Rattle.final_fold.proofs.Sound.{fold_sound, matches_sound}
use Rattle.session.specs.Answers.{TellsAt}
use Rattle.session.specs.Selects.{ExplainsRead, TellsOfDamage}
use Rattle.session.proofs.Damaged.{all_hold}
use Rattle.session.proofs.Matching.{reads_count}

-- what is told of a pinned table's parts, where they hold rows
pub read_sound : {F : Type 0} (files_of : F → Option Files) (snap : Snap (Part F)) (is_final : Bool) (c : Condition Test) (w : Wanted) (e : PartName × PartFault) → w.schema.now ≡ snap.schema → IsTableSchema snap.schema → All (HoldsRows files_of snap.schema) snap.parts.items
    → ExplainsRead files_of is_final snap.parts.items (planned snap is_final c) w e → IsNoDamage e.1
read_sound {F} files_of snap is_final c w e same fits sound why = by is_final why (said is_final)
  where
    held : (rows : List (List Row)) × PartsHold files_of snap.schema snap.parts.items rows
    held = all_hold files_of snap.schema snap.parts.items sound

    hold : PartsHold files_of w.schema.now snap.parts.items held.0
    hold = subst (λ (s : Schema). PartsHold files_of s snap.parts.items held.0) (sym same) held.1

    said : (f : Bool) → SayOfEach w (planned snap f c) held.0
    said f =
        subst (λ (s : Schema). AllZip (λ (b : List Bool) (r : List Row). length b ≡ granules s.granularity (length r)) (planned snap f c) held.0) (sym same)
        (reads_count files_of snap.schema c f snap.parts.items held.0 (has_marks snap.schema fits).granularity held.1)

    by : (f : Bool) → ExplainsRead files_of f snap.parts.items (planned snap f c) w e → SayOfEach w (planned snap f c) held.0 → IsNoDamage e.1
    by true why says = fold_sound files_of w snap.parts.items (planned snap true c) held.0 hold says e why
    by false why says = matches_sound files_of w snap.parts.items (planned snap false c) held.0 hold says e why

pub pinned_sound : {F : Type 0} (files_of : F → Option Files) (snap : Snap (Part F)) (text : SelectText) (reply : List ℕ) → All (HoldsRows files_of snap.schema) snap.parts.items → TellsOfDamage files_of snap text reply → ⊥
pinned_sound files_of snap text reply sound t = read_sound files_of snap text.is_final t.query.condition t.read (t.name, fault.Damaged t.file t.place t.wanted t.found) t.read_is.schema t.table sound t.part

-- ---- of what a session's seat knows

pub tells_not : {F : Type 0} (files_of : F → Option Files) (given : Premise → Type 0) (before : History) (o : AtOpening) (whole : ℕ) (list : History) (st : Item) (reply : List ℕ) → given is_told → given is_held → TellsAt files_of given before o whole list st reply → ⊥
tells_not files_of given before o whole list (Ok (statement.Create c)) reply told held tells = tells
tells_not files_of given before o whole list (Ok (statement.Insert i)) reply told held tells = tells
tells_not files_of given before o whole list (Ok (statement.Select s)) reply told held t = pinned_sound files_of t.0 s reply (t.1.held told held) t.2
tells_not files_of given before o whole list (Ok (statement.Explain s)) reply told held tells = tells
tells_not {F} files_of given before o whole list (Ok (statement.Optimize p)) reply told held t =
    let work = t.work in
    let part = t.tells in
    let own = All-contains (λ (k : Kept (Part F)). HoldsRows files_of work.schema k) work.sources.items part.kept (t.taken.handed.held told held) part.here in
    whole_sound files_of work.schema part.kept.part own.0 own.1 (fault.Damaged part.file part.place part.wanted part.found) part.explained
tells_not files_of given before o whole list (Err why) reply told held tells = tells
