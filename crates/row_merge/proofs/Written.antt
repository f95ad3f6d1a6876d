-- The part that a merge writes, and the counts of faults of the arm and of the part's stage.
use Rattle.std.proofs.Common.{◌≡◌, ◌⊎◌, inl, inr, ℕ, ◌<◌, ◌≤◌, true, List, ◌++◌, Option, Some, None, Result, Ok, Err, IsErrAnd, IsErrOf, is_some, length, get_or, refl, sym, ap, ◌∙◌, subst, arith}
use Rattle.std.specs.List.{All}
use Rattle.std.specs.Option.{option_map}
use Rattle.std.proofs.lemmas.List.Elements.{All-append, All-same}
use Rattle.std.proofs.lemmas.Option.{slice_get_read}
use Rattle.sha2.specs.Sha256.{sha256}
use Rattle.mt_base.specs.declared.partition.Partition.{Partition}
use Rattle.mt_outside.specs.Causes.{Rose}
use Rattle.mt_outside.specs.Files.{Files}
use Rattle.mt_outside.specs.Leaves.{LeavesArm}
use Rattle.mt_outside.proofs.LeftArms.{arm_as}
use Rattle.mt_outside.specs.DiskCauses.{HasDiskCause, HasStageCause}
use Rattle.mt_outside.specs.declared.disk.Arm.{Ghosts}
use Rattle.mt_outside.specs.declared.disk.DiskError.{DiskError}
use Rattle.mt_outside.specs.declared.disk.DiskError.TheVariants as disk
use Rattle.mt_values.specs.declared.schema.Schema.{Schema}
use Rattle.mt_values.specs.Grid.{AreRowsOf}
use Rattle.mt_values.specs.Manifests.{manifest_bytes}
use Rattle.mt_values.specs.Schemas.{column_types}
use Rattle.mt_values.specs.Values.{FitsType, Row, types_of}
use Rattle.part_history.specs.part_name.declared.part.PartName.{PartName}
use Rattle.part_reader.specs.digest_file.Spellings.{IsManifestOf}
use Rattle.part_reader.specs.part_writer.declared.loaded.Loaded.{Loaded}
use Rattle.part_reader.specs.part_writer.Growing.{Growing, HasRows}
use Rattle.part_reader.specs.part_writer.PartFiles.{all_synced, files_of_part, loaded_of}
use Rattle.part_reader.specs.declared.reading.Part.{Part}
use Rattle.part_reader.specs.declared.reading.PartFault.{PartFault}
use Rattle.part_reader.specs.declared.reading.PartFault.TheVariants.{Fault, NoMemory}
use Rattle.part_reader.specs.Faults.{FaultOf}
use Rattle.part_reader.proofs.Holding.{sealed_folder}
use Rattle.part_set.specs.declared.kept.Kept.{Kept}
use Rattle.row_merge.specs.Merged.{IsMergedOf}
use Rattle.row_merge.specs.MergedParts.{ExplainsMerge, ExplainsPart, IsSealedMerge, IsSealedPart}
use Rattle.row_merge.specs.Streams.{LeavesBoth}

-- ---- what is sealed

-- where the files are told they are these
told_all : {X Y : Type 0} (y : Y) (o : Option X) → is_some o ≡ true → option_map (λ _. y) o ≡ Some y
told_all y None e = cc
told_all y (Some x) e = refl

-- rows of a part that is written are of the types of its table
pub rows_typed : (out : Growing) (rows : List Row) → HasRows out rows → AreRowsOf (column_types out.grown.schema) rows
rows_typed out rows has =
    All-same Typed rows (has.written ++ has.pending) has.rows_are (All-append Typed has.written has.pending has.keeps.typed has.keeps.typed_pending)
  where
    Typed : Row → Type 0
    Typed row = types_of row ≡ column_types out.grown.schema

module _ (schema : Schema) (out : Growing) (rows : List Row) (table : out.grown.schema ≡ schema) (told : is_some out.stage.files ≡ true) (has : HasRows out rows) (sealed : Option Files) (loaded : Loaded)
    (files_are : sealed ≡ option_map (λ _. all_synced (files_of_part out.grown.schema rows)) out.stage.files) (loaded_is : loaded ≡ loaded_of out.grown.schema rows) (fit : All (λ (row : Row). All FitsType row) rows)
    (readable : IsManifestOf (manifest_bytes sha256 loaded.manifest) loaded.manifest) where
  same : loaded ≡ loaded_of schema rows
  same = loaded_is ∙ ap (λ (s : Schema). loaded_of s rows) table

  -- it holds rows, whatever they were merged of
  pub sealed_rows : IsSealedPart schema sealed loaded
  sealed_rows = record {
    rows = rows;
    files = all_synced (files_of_part schema rows);
    sealed_are = files_are ∙ ap (λ (s : Schema). option_map (λ (_ : Files). all_synced (files_of_part s rows)) out.stage.files) table ∙ told_all (all_synced (files_of_part schema rows)) out.stage.files told;
    holds = sealed_folder schema rows (subst (λ (s : Schema). AreRowsOf (column_types s) rows) table (rows_typed out rows has)) fit (subst (λ (l : Loaded). IsManifestOf (manifest_bytes sha256 l.manifest) l.manifest) same readable);
    loaded_is = same;
  }

  pub sealed_merged : (partition : Partition) (inputs : List (List Row)) → IsMergedOf schema partition inputs rows → IsSealedMerge schema partition inputs sealed loaded
  sealed_merged partition inputs merged = record {
    rows = rows;
    merged = merged;
    files = all_synced (files_of_part schema rows);
    sealed_are = files_are ∙ ap (λ (s : Schema). option_map (λ (_ : Files). all_synced (files_of_part s rows)) out.stage.files) table ∙ told_all (all_synced (files_of_part schema rows)) out.stage.files told;
    holds = sealed_folder schema rows (subst (λ (s : Schema). AreRowsOf (column_types s) rows) table (rows_typed out rows has)) fit (subst (λ (l : Loaded). IsManifestOf (manifest_bytes sha256 l.manifest) l.manifest) same readable);
    loaded_is = same;
  }

-- ---- counts of faults

-- what rose before a count that is not below has risen
pub rose_later : (one two three : ℕ) → Rose one two → two ≤ three → Rose one three
rose_later one two three rose later = omega (arith, rose, later)

-- a result is no error where it is none, and one error else
no_error : {T E : Type 0} (r : Result T E) (x : T) (e : E) → r ≡ Ok x → r ≡ Err e → ⊥
no_error r x e ok err = cc

one_error : {T E : Type 0} (r : Result T E) (a b : E) → r ≡ Err a → r ≡ Err b → a ≡ b
one_error r a b first second = cc

-- out of memory is no fault
pub no_fault : NoMemory ≡ Fault → ⊥
no_fault e = cc

module _ {A S F : Type 0} {arms : Ghosts A S F} where
  -- the arm alone was used
  pub arm_alone : {one two : A} (stage : ℕ) {faults : Type 0} → LeavesArm arms one two faults → LeavesBoth arms one two stage stage faults
  arm_alone stage left = record {
    tells = left.tells;
    later = left.later;
    stage_later = omega arith;
    fault = λ f. inl (left.fault f);
    calm = λ none. (left.calm none, refl);
  }

  -- an error that is handed on
  pub handed_arm : {T : Type 0} {one two : A} (result : Result T (PartName × PartFault)) (e : PartName × PartFault) → IsErrAnd result (λ x. x ≡ e) → LeavesArm arms one two (e.1 ≡ Fault) → LeavesArm arms one two (IsErrAnd result (λ x. x.1 ≡ Fault))
  handed_arm (Ok x) e made left = absurd made
  handed_arm {one = one} {two = two} (Err x) e made left = subst (λ (y : PartName × PartFault). LeavesArm arms one two (y.1 ≡ Fault)) (sym made) left

  pub handed_both : {T : Type 0} {one two : A} {first now : ℕ} (result : Result T (PartName × PartFault)) (e : PartName × PartFault) → IsErrAnd result (λ x. x ≡ e) → LeavesBoth arms one two first now (e.1 ≡ Fault)
      → LeavesBoth arms one two first now (IsErrAnd result (λ x. x.1 ≡ Fault))
  handed_both (Ok x) e made left = absurd made
  handed_both {one = one} {two = two} {first = first} {now = now} (Err x) e made left = subst (λ (y : PartName × PartFault). LeavesBoth arms one two first now (y.1 ≡ Fault)) (sym made) left

  -- the stage alone, whose count rises where it answers a fault
  pub stage_alone : (arm : A) (before now : ℕ) (faults : Type 0) → before ≤ now → (faults → Rose before now) → ((faults → ⊥) → now ≡ before) → LeavesBoth arms arm arm before now faults
  stage_alone arm before now faults later rose calm = record {
    tells = refl;
    later = omega arith;
    stage_later = later;
    fault = λ f. inr (rose f);
    calm = λ none. (refl, calm none);
  }

  -- after calls that answered no fault
  pub both_then : {one two three : A} {a b c : ℕ} {first second : Type 0} → LeavesBoth arms one two a b first → (first → ⊥) → LeavesBoth arms two three b c second → LeavesBoth arms one three a c second
  both_then {three = three} {a = a} {c = c} left none more =
      let same = left.calm none in
      record {
        tells = more.tells ∙ left.tells;
        later = let l = more.later in omega (arith, same.0, l);
        stage_later = let l = more.stage_later in omega (arith, same.1, l);
        fault = λ f. risen same.0 same.1 (more.fault f);
        calm = λ calm. let last = more.calm calm in (last.0 ∙ same.0, last.1 ∙ same.1);
      }
    where
      risen : {x y : A} {p q : ℕ} → arms.failed y ≡ arms.failed x → q ≡ p → Rose (arms.failed y) (arms.failed three) ⊎ Rose q c → Rose (arms.failed x) (arms.failed three) ⊎ Rose p c
      risen arm stage (inl rose) = inl (subst (λ n. Rose n (arms.failed three)) arm rose)
      risen arm stage (inr rose) = inr (subst (λ n. Rose n c) stage rose)

  -- another answer that is a fault where the first is
  pub both_as : {one two : A} {a b : ℕ} {first second : Type 0} → LeavesBoth arms one two a b first → (second → first) → (first → second) → LeavesBoth arms one two a b second
  both_as left to from = record {
    tells = left.tells;
    later = left.later;
    stage_later = left.stage_later;
    fault = λ f. left.fault (to f);
    calm = λ none. left.calm (λ f. none (from f));
  }

  -- what was filled has no faults
  pub arm_only : {one two : A} {faults : Type 0} → LeavesBoth arms one two 0 0 faults → LeavesArm arms one two faults
  arm_only {one = one} {two = two} left = record {
    tells = left.tells;
    later = left.later;
    fault = λ f. by (left.fault f);
    calm = λ none. (left.calm none).0;
  }
    where
      by : Rose (arms.failed one) (arms.failed two) ⊎ Rose 0 0 → Rose (arms.failed one) (arms.failed two)
      by (inl rose) = rose
      by (inr rose) = absurd (omega (arith, rose))

  -- the part is given up: a fault of its stage becomes one of the arm
  pub given_up : {one two three : A} {first now : ℕ} {faults : Type 0} → first ≡ 0 → LeavesBoth arms one two first now faults → arms.tells three ≡ arms.tells two → (0 < now → Rose (arms.failed two) (arms.failed three))
      → (now ≡ 0 → arms.failed three ≡ arms.failed two) → arms.failed two ≤ arms.failed three → LeavesArm arms one three faults
  given_up {one = one} {two = two} {three = three} {first = first} {now = now} zeroed left tells taken none later = record {
    tells = tells ∙ left.tells;
    later = let l = left.later in omega (arith, l, later);
    fault = λ f. by (left.fault f);
    calm = λ calm. let last = left.calm calm in none (last.1 ∙ zeroed) ∙ last.0;
  }
    where
      by : Rose (arms.failed one) (arms.failed two) ⊎ Rose first now → Rose (arms.failed one) (arms.failed three)
      by (inl rose) = rose_later (arms.failed one) (arms.failed two) (arms.failed three) rose later
      by (inr rose) = let up = taken (omega (arith, rose)) in let l = left.later in omega (arith, up, l)

  -- a call of the part alone that failed, and what is said of it
  pub stage_failed : {T : Type 0} (arm : A) (before now : ℕ) (result : Result T DiskError) (error : DiskError) (fault : PartFault) → result ≡ Err error → FaultOf error fault → HasDiskCause before now result
      → LeavesBoth arms arm arm before now (fault ≡ Fault)
  stage_failed arm before now result disk.Fault said is f cause = record {
    tells = refl;
    later = omega arith;
    stage_later = cause.later;
    fault = λ e. inr (cause.failed (subst (λ r. IsErrOf r disk.Fault) (sym is) refl));
    calm = λ none. absurd (none f);
  }
  stage_failed arm before now result disk.NoMemory said is f cause = record {
    tells = refl;
    later = omega arith;
    stage_later = cause.later;
    fault = λ e. absurd (clash (sym f ∙ e));
    calm = λ none. (refl, cause.memory (subst (λ r. IsErrOf r disk.NoMemory) (sym is) refl));
  }
    where
      clash : NoMemory ≡ Fault → ⊥
      clash e = cc

  -- the part was not begun
  pub begin_failed : {T : Type 0} (one two : A) (result : Result T DiskError) (error : DiskError) (fault : PartFault) → result ≡ Err error → FaultOf error fault → arms.tells two ≡ arms.tells one
      → HasDiskCause (arms.failed one) (arms.failed two) result → LeavesArm arms one two (fault ≡ Fault)
  begin_failed one two result disk.Fault said is f tells cause = record {
    tells = tells;
    later = cause.later;
    fault = λ e. cause.failed (subst (λ r. IsErrOf r disk.Fault) (sym is) refl);
    calm = λ none. absurd (none f);
  }
  begin_failed one two result disk.NoMemory said is f tells cause = record {
    tells = tells;
    later = cause.later;
    fault = λ e. absurd (clash (sym f ∙ e));
    calm = λ none. cause.memory (subst (λ r. IsErrOf r disk.NoMemory) (sym is) refl);
  }
    where
      clash : NoMemory ≡ Fault → ⊥
      clash e = cc

  -- after the part was begun, which was no fault
  pub begun_then : {one two three : A} {a b : ℕ} {faults : Type 0} → arms.tells two ≡ arms.tells one → arms.failed two ≡ arms.failed one → LeavesBoth arms two three a b faults → LeavesBoth arms one three a b faults
  begun_then {one = one} {two = two} {three = three} {a = a} {b = b} tells same left = record {
    tells = left.tells ∙ tells;
    later = let l = left.later in omega (arith, same, l);
    stage_later = left.stage_later;
    fault = λ f. by (left.fault f);
    calm = λ none. let last = left.calm none in (last.0 ∙ same, last.1);
  }
    where
      by : Rose (arms.failed two) (arms.failed three) ⊎ Rose a b → Rose (arms.failed one) (arms.failed three) ⊎ Rose a b
      by (inl rose) = inl (subst (λ n. Rose n (arms.failed three)) same rose)
      by (inr rose) = inr rose

  -- the part is finished: what had not failed before fails for a fault of this call
  pub finished : {T : Type 0} {one two three : A} {before now : ℕ} {first : Type 0} (result : Result T DiskError) → before ≡ 0 → LeavesBoth arms one two before now first → (first → ⊥) → arms.tells three ≡ arms.tells two
      → HasStageCause now (arms.failed two) (arms.failed three) result → LeavesArm arms one three (IsErrOf result disk.Fault)
  finished {T} {two = two} {three = three} {now = now} result fresh left none tells cause =
      let same = left.calm none in
      record {
        tells = tells ∙ left.tells;
        later = let l = cause.later in omega (arith, same.0, l);
        fault = λ f. subst (λ n. Rose n (arms.failed three)) same.0 (cause.failed f);
        calm = λ calm. unrisen result (same.1 ∙ fresh) calm cause ∙ same.0;
      }
    where
      unrisen : (r : Result T DiskError) → now ≡ 0 → (IsErrOf r disk.Fault → ⊥) → HasStageCause now (arms.failed two) (arms.failed three) r → arms.failed three ≡ arms.failed two
      unrisen (Ok x) zeroed calm c = c.ok zeroed
      unrisen (Err disk.Fault) zeroed calm c = absurd (calm refl)
      unrisen (Err disk.NoMemory) zeroed calm c = c.memory zeroed refl

  -- what is said of an error of the part
  pub as_fault : {T : Type 0} {one two : A} (result : Result T DiskError) (error : DiskError) (fault : PartFault) → result ≡ Err error → FaultOf error fault → LeavesArm arms one two (IsErrOf result disk.Fault) → LeavesArm arms one two (fault ≡ Fault)
  as_fault result disk.Fault said is f left = arm_as left (λ e. is) (λ e. f)
  as_fault result disk.NoMemory said is f left = arm_as left (λ e. absurd (no_fault (sym f ∙ e))) (λ e. absurd (other (one_error result disk.NoMemory disk.Fault is e)))
    where
      other : disk.NoMemory ≡ disk.Fault → ⊥
      other e = cc

  -- it was none
  pub as_none : {T E : Type 0} {one two : A} (result : Result T E) (x : T) (e : E) → result ≡ Ok x → LeavesArm arms one two (IsErrOf result e) → LeavesArm arms one two ⊥
  as_none result x e is left = arm_as left (λ f. absurd f) (λ h. absurd (no_error result x e is h))

  -- a part could not be read
  pub as_read : {T : Type 0} {one two : A} (result : Result T PartFault) (fault : PartFault) → result ≡ Err fault → LeavesArm arms one two (IsErrOf result Fault) → LeavesArm arms one two (fault ≡ Fault)
  as_read result said is left = arm_as left (λ e. is ∙ ap Err e) (λ h. one_error result said Fault is h)

-- ---- a fault of the part that is written

-- the first part is named, and what is said is a fault, or that an allocation failed
module _ {F : Type 0} (files_of : F → Option Files) (schema : Schema) (parts : List (Kept (Part F))) (k : Kept (Part F)) (there : 0 < length parts) (is : k ≡ get_or parts 0 k) where
  pub first_says : (fault : PartFault) → ExplainsPart files_of schema k.part fault → ExplainsMerge files_of schema parts ((get_or parts 0 k).name, fault)
  first_says said explained = record { at = 0; kept = k; kept_is = slice_get_read parts (length parts) 0 k refl there is; name_is = ap (λ (q : Kept (Part F)). q.name) (sym is); explained = explained }
