-- Parts that hold rows, and what is told of damage.
use Rattle.std.proofs.Common.{◌≡◌, ℕ, Bool, List, [], ◌∷◌, Option, Ok, subst}
use Rattle.std.specs.List.{All}
use Rattle.std.proofs.lemmas.List.Elements.{All-cons, All-head, All-nil, All-tail}
use Rattle.mt_base.specs.declared.name.FileId.{FileId}
use Rattle.mt_base.specs.Files.{file_name}
use Rattle.mt_values.specs.declared.manifest.FileMark.{FileMark}
use Rattle.mt_values.specs.declared.schema.Schema.{Schema}
use Rattle.mt_values.specs.declared.statement.SelectText.{SelectText}
use Rattle.mt_values.specs.Values.{Row}
use Rattle.mt_outside.specs.Files.{Files}
use Rattle.replies.specs.mt_model.declared.query.Query.{Query}
use Rattle.replies.specs.mt_model.declared.refusal.Refusal.TheVariants as refusal
use Rattle.replies.specs.mt_model.History.{IsTableSchema}
use Rattle.replies.specs.mt_model.Queries.{query_of}
use Rattle.replies.specs.mt_model.Refusals.{refusal_line}
use Rattle.merge_workers.specs.shared_store.part_name.declared.part.PartName.{PartName}
use Rattle.merge_workers.specs.shared_store.part_name.PartNames.{part_text}
use Rattle.merge_workers.specs.shared_store.part_reader.declared.reading.Part.{Part}
use Rattle.merge_workers.specs.shared_store.part_reader.declared.reading.PartFault.{PartFault}
use Rattle.merge_workers.specs.shared_store.part_reader.declared.reading.PartFault.TheVariants as fault
use Rattle.merge_workers.specs.shared_store.part_set.declared.kept.Kept.{Kept}
use Rattle.merge_workers.specs.shared_store.part_set.declared.kept.Snap.{Snap}
use Rattle.merge_workers.specs.shared_store.root_store.Soundness.{HoldsRows}
use Rattle.final_fold.specs.declared.asking.Wanted.{Wanted}
use Rattle.final_fold.specs.row_merge.MergedParts.{PartsHold}
use Rattle.final_fold.specs.select_plan.Plans.{planned}
use Rattle.session.specs.Selects.{ExplainsRead, IsAskedOf, TellsOfDamage}

-- parts of which each holds rows hold a list of rows, one after another
pub all_hold : {F : Type 0} (files_of : F → Option Files) (schema : Schema) (parts : List (Kept (Part F))) → All (HoldsRows files_of schema) parts → (rows : List (List Row)) × PartsHold files_of schema parts rows
all_hold files_of schema [] held = ([], tt)
all_hold files_of schema (part ∷ parts) held =
    let first = All-head (HoldsRows files_of schema) part parts held in
    let rest = all_hold files_of schema parts (All-tail (HoldsRows files_of schema) part parts held) in
    (first.0 ∷ rest.0, (first.1, rest.1))

-- and where parts hold a list of rows, each holds rows
pub each_holds : {F : Type 0} (files_of : F → Option Files) (schema : Schema) (parts : List (Kept (Part F))) (rows : List (List Row)) → PartsHold files_of schema parts rows → All (HoldsRows files_of schema) parts
each_holds files_of schema [] [] hold = All-nil (HoldsRows files_of schema)
each_holds files_of schema [] (r ∷ rows) hold = absurd hold
each_holds files_of schema (part ∷ parts) [] hold = absurd hold
each_holds files_of schema (part ∷ parts) (r ∷ rows) hold = All-cons (HoldsRows files_of schema) part parts (r, hold.0) (each_holds files_of schema parts rows hold.1)

-- a part that is damaged where a plan has it read
pub tells_of_damage : {F : Type 0} (files_of : F → Option Files) (snap : Snap (Part F)) (text : SelectText) (reply : List ℕ) (query : Query) (read : Wanted) (parts : List (Kept (Part F))) (chosen : List (List Bool))
    (name : PartName) (file : FileId) (place : ℕ) (wanted found : FileMark) (why : PartFault)
    → IsTableSchema snap.schema → query_of snap.schema.columns text ≡ Ok query → ExplainsRead files_of text.is_final parts chosen read (name, why) → why ≡ fault.Damaged file place wanted found
    → parts ≡ snap.parts.items → chosen ≡ planned snap text.is_final query.condition → IsAskedOf snap query read → reply ≡ refusal_line (refusal.Damaged text.table (part_text name) (file_name file))
    → TellsOfDamage files_of snap text reply
tells_of_damage files_of snap text reply query read parts chosen name file place wanted found why table asked part why_is parts_are chosen_are read_is is =
    record {
      table = table;
      query = query;
      asked = asked;
      read = read;
      read_is = read_is;
      name = name;
      file = file;
      place = place;
      wanted = wanted;
      found = found;
      part = subst (λ (ps : List (Kept (Part _))). ExplainsRead files_of text.is_final ps (planned snap text.is_final query.condition) read (name, fault.Damaged file place wanted found)) parts_are
          (subst (λ (cs : List (List Bool)). ExplainsRead files_of text.is_final parts cs read (name, fault.Damaged file place wanted found)) chosen_are
          (subst (λ (w : PartFault). ExplainsRead files_of text.is_final parts chosen read (name, w)) why_is part));
      reply_is = is;
    }
