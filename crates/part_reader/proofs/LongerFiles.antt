-- A file that is longer than its mark says, and is not read.
use Rattle.std.proofs.Common.{◌≡◌, ℕ, ◌+◌, ◌<◌, List, Option, Some, None, IfErr, IfSome, IsErrAnd, MatchResult, Result, inl, inr, refl, ap, length, replicate, subst, arith}
use Rattle.std.proofs.lemmas.List.{length-replicate}
use Rattle.mt_base.specs.declared.name.FileId.{FileId}
use Rattle.mt_values.specs.declared.manifest.FileMark.{FileMark}
use Rattle.mt_outside.specs.Files.{Files, bytes_of, ReadsAt}
use Rattle.part_damage.specs.part_writer.PartFiles.{mark_of}
use Rattle.part_reader.specs.declared.reading.PartFault.{PartFault}
use Rattle.part_reader.specs.declared.reading.PartFault.TheVariants.{Fault, NoMemory, Damaged}
use Rattle.part_reader.specs.declared.reading.TheConstants.{NO_MARK}
use Rattle.part_reader.specs.Faults.{ExplainsBytes, ExplainsFile, IsNoDamage}
use Rattle.part_reader.proofs.Damages.{damage_there, error_handed_on, not_refused, unmarked}
use Rattle.part_reader.proofs.Gaining.{handed_on}

-- what is told of more bytes than the mark says
longer_explained : (f : FileId) (mark : FileMark) (WrongAt : ℕ → Type 0) (bytes : List ℕ) → mark.size < length bytes → ExplainsBytes (Some mark) f WrongAt bytes (Damaged f 0 mark NO_MARK)
longer_explained f mark WrongAt bytes longer = (refl, inr (longer, refl), (refl, inl ((λ same. let size : mark.size ≡ length bytes = ap (λ (m : FileMark). m.size) same in omega (arith, size, longer)), refl)))

-- a read past the size that the mark says gave a byte
pub longer_told : (told : Option Files) (f : FileId) (mark : FileMark) (count : ℕ) (buf : List ℕ) → IfSome told (λ fs. ReadsAt (bytes_of f fs) mark.size count buf) → 0 < count → ExplainsFile told (Some mark) f (λ bytes place. ⊥) (Damaged f 0 mark NO_MARK)
longer_told None f mark count buf reads some =
    let bytes : List ℕ = replicate (mark.size + 1) 0 in
    record { bytes = bytes; read = λ files known. absurd cc; explained = longer_explained f mark (λ place. ⊥) bytes (omega (arith, length-replicate {A = ℕ} (mark.size + 1) 0)) }
longer_told (Some fs) f mark count buf reads some =
    record { bytes = bytes_of f fs; read = λ files known. let same : fs ≡ files = cc in ap (bytes_of f) same; explained = longer_explained f mark (λ place. ⊥) (bytes_of f fs) (omega (arith, reads.count_is, some)) }

-- what is told of a file that was not read, whatever its bytes spell
unread_told : (told : Option Files) (marked : Option FileMark) (f : FileId) (WrongAt : List ℕ → ℕ → Type 0) (why : PartFault) → ExplainsFile told marked f (λ bytes place. ⊥) why → ExplainsFile told marked f WrongAt why
unread_told told marked f WrongAt Fault explained = tt
unread_told told marked f WrongAt NoMemory explained = tt
unread_told told marked f WrongAt (Damaged g place wanted found) explained =
    record { bytes = explained.bytes; read = explained.read; explained = unmarked marked f (WrongAt explained.bytes) explained.bytes (Damaged g place wanted found) explained.explained }

-- no damage is told of one that has its mark
unread_marked : (told : Option Files) (files : Files) (marked : Option FileMark) (f : FileId) (why : PartFault) → told ≡ Some files → marked ≡ Some (mark_of (bytes_of f files)) → ExplainsFile told marked f (λ bytes place. ⊥) why → IsNoDamage why
unread_marked told files marked f Fault known has explained = tt
unread_marked told files marked f NoMemory known has explained = tt
unread_marked told files marked f (Damaged g place wanted found) known has explained =
    absurd (not_refused marked f g (λ place. ⊥) (bytes_of f files) place wanted found (damage_there files marked f g (λ bytes place. ⊥) place wanted found told known explained) has (λ wrong. wrong))

-- ---- an error that is handed on

-- what it says of the file, where the mark is the one that the manifest has
pub unread_explained : {T : Type 0} (told : Option Files) (marked own : Option FileMark) (f : FileId) (WrongAt : List ℕ → ℕ → Type 0) (result : Result T PartFault) (why : PartFault) → marked ≡ own → IsErrAnd result (λ e. e ≡ why) → ExplainsFile told marked f (λ bytes place. ⊥) why → IfErr result (ExplainsFile told own f WrongAt)
unread_explained told marked own f WrongAt result why same made explained =
    handed_on (ExplainsFile told own f WrongAt) result why made (unread_told told own f WrongAt why (subst (λ (o : Option FileMark). ExplainsFile told o f (λ bytes place. ⊥) why) same explained))

-- it is no damage where the file has its mark
pub unread_sound : {T : Type 0} (told : Option Files) (files : Files) (marked own : Option FileMark) (f : FileId) (R : T → Type 0) (result : Result T PartFault) (why : PartFault) → told ≡ Some files → marked ≡ own → own ≡ Some (mark_of (bytes_of f files)) → IsErrAnd result (λ e. e ≡ why)
    → ExplainsFile told marked f (λ bytes place. ⊥) why → MatchResult result R IsNoDamage
unread_sound told files marked own f R result why known same has made explained =
    error_handed_on R IsNoDamage result why made (unread_marked told files own f why known has (subst (λ (o : Option FileMark). ExplainsFile told o f (λ bytes place. ⊥) why) same explained))
