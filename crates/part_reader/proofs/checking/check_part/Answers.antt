use Rattle.std.proofs.Common.{◌≡◌, ◌∙◌, ℕ, Option, Some, None, arith, get_or, subst, sym, inl, List}
use Rattle.mt_outside.proofs.LeftArms.{arm_as, arm_calm, arm_same}
use Rattle.mt_base.specs.declared.name.FileId.TheVariants as file
use Rattle.mt_outside.specs.Files.{Files}
use Rattle.mt_values.specs.Values.{Row}
use Rattle.mt_values.specs.declared.manifest.FileMark.{FileMark}
use Rattle.part_damage.specs.Marks.{mark_for}
use Rattle.part_damage.specs.primary_marks.Keys.{HasMarks}
use Rattle.part_damage.specs.part_writer.declared.loaded.Loaded.{Loaded}
use Rattle.part_damage.specs.part_writer.PartFiles.{HasIndexes, content_ids}
use Rattle.part_damage.proofs.PartWriterContents.{content_known, content_length, content_there}
use Rattle.part_reader.specs.declared.reading.PartFault.TheVariants.{Damaged, Fault, NoMemory}
use Rattle.part_reader.specs.Compared.{IsFirstFailing}
use Rattle.part_reader.specs.Damage.{ExplainsCheck, Tells}
use Rattle.part_reader.specs.DamagedFile.{damaged_file}
use Rattle.part_damage.specs.Sound.{FirstUnsound, IsLoadedOf}
use Rattle.part_reader.proofs.CheckedParts.{check_told, file_under, is_like, kept_unsound, no_check_fault, unlike_fault}
use Rattle.part_reader.proofs.ComparedColumns.{AreRowsCompared, IsIndexKept, counted_compared, gone_over_more, gone_over_none}
use Rattle.part_reader.proofs.Damages.{error_handed_on}
use Rattle.part_reader.proofs.Gaining.{handed_on}
use Rattle.part_reader.proofs.checking.check_part.Goals as goal
use Rattle.part_reader.proofs.checking.check_part.Given.{Over}

pub unreachable-requires : goal.unreachable-requires
unreachable-requires g c =
    let ids = content_ids c.deref-loaded.result.now.schema in
    let here = content_there c.deref-loaded.result.now.schema c.loop-place.place (omega (arith, c.content_count-place-end.ensures, content_length c.deref-loaded.result.now.schema)) in
    c.in_default.not-Some (get_or ids c.loop-place.place file.Entry) (c.content_file.ensures ∙ here)

pub check_file-requires-clause-content : goal.check_file-requires-clause-content
check_file-requires-clause-content g c = λ κs within. content_known c.deref-loaded.result.now.schema c.loop-place.place c.in-Some.file (sym c.in-Some.ensures)

pub returns-then-place-clause-damaged : goal.returns-then-place-clause-damaged
returns-then-place-clause-damaged g c =
    subst (λ (l : Loaded). ExplainsCheck (g.R.Dir.Dir.files c.args.part.now.dir) l.schema l NoMemory) c.deref-loaded.ensures
    (inl (record {
      place = c.loop-place.place;
      file = get_or (content_ids c.deref-loaded.result.now.schema) c.loop-place.place file.Entry;
      file_is = content_there c.deref-loaded.result.now.schema c.loop-place.place (omega (arith, c.content_count-place-end.ensures, content_length c.deref-loaded.result.now.schema));
      before = c.loop-place.invariant.gone.checked;
      explained = tt;
    }))

pub loop-place-init : goal.loop-place-init
loop-place-init g c = record {
  gone = gone_over_none (g.R.Dir.Dir.files c.args.part.now.dir) c.deref-loaded.result.now.schema c.deref-loaded.result.now c.shape-agreed.result c.shape-agreed.ensures.places c.shape-agreed.ensures.keys c.shape-agreed.ensures.index;
  few = omega arith;
  arm = arm_same c.args.arm.now;
}

pub loop-place-preserved : goal.loop-place-preserved
loop-place-preserved g c = record {
  gone = gone_over_more (g.R.Dir.Dir.files c.args.part.now.dir) c.deref-loaded.result.now.schema c.deref-loaded.result.now c.loop-place.place c.in-Some.file c.loop-place.agreed _ _ (sym c.in-Some.ensures)
      c.loop-place.invariant.gone c.in_ok-check_file.ensures.compared c.and-agreed.ensures;
  few = omega arith;
  arm = arm_calm c.loop-place.invariant.arm (λ none. none) c.in_ok-check_file.ensures.arm (λ fault. cc);
}

-- the fault is that of the file that was read last
fault_of : (g : Over) (c : goal.After-from_residual g) → ExplainsCheck (g.R.Dir.Dir.files c.args.part.now.dir) c.args.part.now.loaded.schema c.args.part.now.loaded c.in_err-check_file.field-0.0
fault_of g c =
    subst (λ (l : Loaded). ExplainsCheck (g.R.Dir.Dir.files c.args.part.now.dir) l.schema l c.in_err-check_file.field-0.0) c.deref-loaded.ensures
    (inl (record {
      place = c.loop-place.place;
      file = c.in-Some.file;
      file_is = sym c.in-Some.ensures;
      before = c.loop-place.invariant.gone.checked;
      explained = c.in_err-check_file.ensures.damaged;
    }))

pub returns-in_err-check_file-clause-damaged : goal.returns-in_err-check_file-clause-damaged
returns-in_err-check_file-clause-damaged g c =
    handed_on (ExplainsCheck (g.R.Dir.Dir.files c.args.part.now.dir) c.args.part.now.loaded.schema c.args.part.now.loaded) c.from_residual.result c.in_err-check_file.field-0.0 c.from_residual.ensures.1 (fault_of g c)

pub returns-in_err-check_file-clause-file : goal.returns-in_err-check_file-clause-file
returns-in_err-check_file-clause-file g c = λ files known is.
    let schema = c.args.part.now.loaded.schema in
    error_handed_on (λ _. damaged_file schema files ≡ None) (Tells (λ found. damaged_file schema files ≡ found)) c.from_residual.result c.in_err-check_file.field-0.0 c.from_residual.ensures.1
    (check_told (g.R.Dir.Dir.files c.args.part.now.dir) files schema c.args.part.now.loaded c.requires.marks c.requires.indexes known is c.in_err-check_file.field-0.0 (fault_of g c))

-- where none fails, it holds at each place
kept_all : (Holds : ℕ → Type 0) (o : Option ℕ) → o ≡ None → IsFirstFailing Holds o → (n : ℕ) → Holds n
kept_all Holds o none first = subst (IsFirstFailing Holds) none first

-- at the end all files are compared
rows_found : (g : Over) (c : goal.In-None g) → (rows : List Row) × AreRowsCompared (g.R.Dir.Dir.files c.args.part.now.dir) c.args.part.now.loaded.schema c.args.part.now.loaded c.loop-place.agreed rows
rows_found g c =
    subst (λ (l : Loaded). (rows : List Row) × AreRowsCompared (g.R.Dir.Dir.files c.args.part.now.dir) l.schema l c.loop-place.agreed rows) c.deref-loaded.ensures
    (counted_compared (g.R.Dir.Dir.files c.args.part.now.dir) c.deref-loaded.result.now.schema c.deref-loaded.result.now c.loop-place.agreed
    (subst (λ (l : Loaded). HasMarks l.schema) (sym c.deref-loaded.ensures) c.requires.marks) (subst (λ (l : Loaded). HasIndexes l.schema) (sym c.deref-loaded.ensures) c.requires.indexes)
    c.loop-place.place c.content_count-place-end.result c.content_count-place-end.ensures (omega arith) (omega arith)
    c.loop-place.invariant.few c.loop-place.invariant.gone)

pub returns-in-None-clause-checked : goal.returns-in-None-clause-checked
returns-in-None-clause-checked g c =
    let found = rows_found g c in
    let like = is_like c.loop-place.agreed.places c.loop-place.agreed.keys c.loop-place.agreed.index (sym c.unlike.ensures ∙ c.in-None.is) in
    (found.0, found.1.read, found.1.places.0 like.0, found.1.keys.0 like.1, kept_all (IsIndexKept c.args.part.now.loaded.schema c.args.part.now.loaded found.0) c.loop-place.agreed.index like.2 found.1.index)

-- and no file is unsound where what is kept is that of the rows
unsound : (g : Over) (c : goal.In-None g) (files : Files) → g.R.Dir.Dir.files c.args.part.now.dir ≡ Some files → IsLoadedOf c.args.part.now.loaded.schema files c.args.part.now.loaded → FirstUnsound c.args.part.now.loaded.schema c.args.part.now.loaded.manifest files None
unsound g c files known is =
    let found = rows_found g c in
    let like = is_like c.loop-place.agreed.places c.loop-place.agreed.keys c.loop-place.agreed.index (sym c.unlike.ensures ∙ c.in-None.is) in
    kept_unsound (g.R.Dir.Dir.files c.args.part.now.dir) files c.args.part.now.loaded.schema c.args.part.now.loaded c.requires.marks c.requires.indexes known is found.0 found.1.read (found.1.places.0 like.0) (found.1.keys.0 like.1)
    (kept_all (IsIndexKept c.args.part.now.loaded.schema c.args.part.now.loaded found.0) c.loop-place.agreed.index like.2 found.1.index)

pub returns-in-None-clause-file : goal.returns-in-None-clause-file
returns-in-None-clause-file g c = λ files known is.
    file_under (g.R.Dir.Dir.files c.args.part.now.dir) files c.args.part.now.loaded.schema c.args.part.now.loaded c.requires.marks c.requires.indexes known is None (unsound g c files known is)

-- and where what is kept is not that of the rows
rows_unlike : (g : Over) (c : goal.After-unlike_rows g) → (rows : List Row) × AreRowsCompared (g.R.Dir.Dir.files c.args.part.now.dir) c.args.part.now.loaded.schema c.args.part.now.loaded c.loop-place.agreed rows
rows_unlike g c =
    subst (λ (l : Loaded). (rows : List Row) × AreRowsCompared (g.R.Dir.Dir.files c.args.part.now.dir) l.schema l c.loop-place.agreed rows) c.deref-loaded.ensures
    (counted_compared (g.R.Dir.Dir.files c.args.part.now.dir) c.deref-loaded.result.now.schema c.deref-loaded.result.now c.loop-place.agreed
    (subst (λ (l : Loaded). HasMarks l.schema) (sym c.deref-loaded.ensures) c.requires.marks) (subst (λ (l : Loaded). HasIndexes l.schema) (sym c.deref-loaded.ensures) c.requires.indexes)
    c.loop-place.place c.content_count-place-end.result c.content_count-place-end.ensures (omega arith) (omega arith)
    c.loop-place.invariant.few c.loop-place.invariant.gone)

-- what is told has the mark of the manifest
unlike_is : (g : Over) (c : goal.After-unlike_rows g) (mark : FileMark) → mark_for c.args.part.now.loaded.schema c.args.part.now.loaded.manifest c.in-Some-unlike.file ≡ Some mark → c.unlike_rows.result ≡ Damaged c.in-Some-unlike.file 0 mark mark
unlike_is g c = subst (λ (l : Loaded). (mark : FileMark) → mark_for l.schema l.manifest c.in-Some-unlike.file ≡ Some mark → c.unlike_rows.result ≡ Damaged c.in-Some-unlike.file 0 mark mark) c.deref-loaded.ensures c.unlike_rows.ensures

-- what is told of a file of granules
unlike_of : (g : Over) (c : goal.After-unlike_rows g) → ExplainsCheck (g.R.Dir.Dir.files c.args.part.now.dir) c.args.part.now.loaded.schema c.args.part.now.loaded c.unlike_rows.result
unlike_of g c =
    let found = rows_unlike g c in
    unlike_fault (g.R.Dir.Dir.files c.args.part.now.dir) c.args.part.now.loaded.schema c.args.part.now.loaded c.loop-place.agreed found.0 found.1 c.in-Some-unlike.file c.unlike_rows.result (sym c.unlike.ensures ∙ c.in-Some-unlike.is) (unlike_is g c)

pub returns-in-Some-unlike-clause-damaged : goal.returns-in-Some-unlike-clause-damaged
returns-in-Some-unlike-clause-damaged g c = unlike_of g c

pub returns-in-Some-unlike-clause-file : goal.returns-in-Some-unlike-clause-file
returns-in-Some-unlike-clause-file g c = λ files known is.
    check_told (g.R.Dir.Dir.files c.args.part.now.dir) files c.args.part.now.loaded.schema c.args.part.now.loaded c.requires.marks c.requires.indexes known is c.unlike_rows.result (unlike_of g c)

pub returns-in-Some-unlike-clause-arm : goal.returns-in-Some-unlike-clause-arm
returns-in-Some-unlike-clause-arm g c =
    arm_as c.loop-place.invariant.arm
    (λ e. no_check_fault (g.R.Dir.Dir.files c.args.part.now.dir) c.args.part.now.loaded.schema c.args.part.now.loaded c.loop-place.agreed (rows_unlike g c).0 (rows_unlike g c).1 c.in-Some-unlike.file c.unlike_rows.result (sym c.unlike.ensures ∙ c.in-Some-unlike.is) (unlike_is g c) (let same : c.unlike_rows.result ≡ Fault = cc in same))
    (λ none. absurd none)
