-- What a fault says of a part (docs/formats.md, "Parts").
use Rattle.std.specs.Prelude.{◌≡◌, ◌≢◌, ◌⊎◌, ℕ, ◌+◌, ◌^◌, ◌<◌, List, length, slice_get, Option, Some, None, IsSomeAnd, ⊤}
use Rattle.std.specs.Option.{ForSome}
use Rattle.mt_values.specs.declared.manifest.FileMark.{FileMark}
use Rattle.mt_base.specs.declared.name.FileId.{FileId}
use Rattle.mt_base.specs.declared.name.FileId.TheVariants as file
use Rattle.mt_values.specs.declared.value.ColType.{ColType}
use Rattle.mt_values.specs.Grid.{Cells}
use Rattle.mt_outside.specs.declared.disk.DiskError.{DiskError}
use Rattle.mt_outside.specs.declared.disk.DiskError.TheVariants as disk
use Rattle.mt_outside.specs.Files.{Files, bytes_of}
use Rattle.part_damage.specs.byte_numbers.declared.faults.FormatFault.{FormatFault}
use Rattle.part_damage.specs.byte_numbers.declared.faults.FormatFault.TheVariants as format
use Rattle.part_damage.specs.column_file.Faults.{IsFirstFault}
use Rattle.part_damage.specs.part_writer.PartFiles.{mark_of}
use Rattle.part_damage.specs.part_writer.declared.loaded.Loaded.{Loaded}
use Rattle.part_damage.specs.Marks.{mark_for}
use Rattle.part_reader.specs.declared.reading.PartFault.{PartFault}
use Rattle.part_reader.specs.declared.reading.PartFault.TheVariants.{Fault, NoMemory, Damaged}
use Rattle.part_reader.specs.declared.reading.TheConstants.{NO_MARK}

-- a fault stays a fault, and out of memory stays that
abbrev pub FaultOf : DiskError → PartFault → Type 0
FaultOf disk.Fault e = e ≡ Fault
FaultOf disk.NoMemory e = e ≡ NoMemory

-- what an error says of a file whose bytes have the mark of the manifest
abbrev pub fault_of : FileId → FileMark → FormatFault → PartFault
fault_of f mark format.NoMemory = NoMemory
fault_of f mark (format.Malformed place) = Damaged f place mark mark

-- a fault that says nothing of the part's files
abbrev pub IsNoDamage : PartFault → Type 0
IsNoDamage Fault = ⊤
IsNoDamage NoMemory = ⊤
IsNoDamage (Damaged file place wanted found) = ⊥

-- bytes are refused by what the manifest has as their mark: nothing, or another mark, or the bytes have the mark and go wrong at the place
abbrev pub IsRefused : Option FileMark → (ℕ → Type 0) → List ℕ → ℕ → FileMark → Type 0
IsRefused None WrongAt bytes place wanted = (wanted ≡ NO_MARK) × (place ≡ 0)
IsRefused (Some mark) WrongAt bytes place wanted =
    (wanted ≡ mark) × (((mark ≢ mark_of bytes) × (place ≡ 0)) ⊎ ((mark ≡ mark_of bytes) × WrongAt place))

-- what is told as found of bytes: their mark; or none, where they are more than the manifest's mark says, and were not read
abbrev pub IsFound : Option FileMark → List ℕ → FileMark → Type 0
IsFound marked bytes found = (found ≡ mark_of bytes) ⊎ (IsSomeAnd marked (λ mark. mark.size < length bytes) × (found ≡ NO_MARK))

-- what a fault says of the bytes of a file, which go wrong at some places; the manifest has this mark of it, or none
abbrev pub ExplainsBytes : Option FileMark → FileId → (ℕ → Type 0) → List ℕ → PartFault → Type 0
ExplainsBytes marked f WrongAt bytes Fault = ⊥
ExplainsBytes marked f WrongAt bytes NoMemory = ⊤
ExplainsBytes marked f WrongAt bytes (Damaged g place wanted found) = (g ≡ f) × IsFound marked bytes found × IsRefused marked WrongAt bytes place wanted

-- damage is told of the bytes of a file: those that the folder tells, where it does
pub record IsDamage (told : Option Files) (marked : Option FileMark) (f : FileId) (WrongAt : List ℕ → ℕ → Type 0) (damage : PartFault) : Type 0 where
  pub bytes : List ℕ
  pub read : ForSome told (λ files. bytes ≡ bytes_of f files)
  pub explained : ExplainsBytes marked f (WrongAt bytes) bytes damage

-- what a fault says of a file that was read, of which the manifest has this mark, or none
abbrev pub ExplainsFile : Option Files → Option FileMark → FileId → (List ℕ → ℕ → Type 0) → PartFault → Type 0
ExplainsFile told marked f WrongAt Fault = ⊤
ExplainsFile told marked f WrongAt NoMemory = ⊤
ExplainsFile told marked f WrongAt (Damaged g place wanted found) = IsDamage told marked f WrongAt (Damaged g place wanted found)

-- ---- values that are read without a comparison of marks

-- what is called wanted of a file: the mark that the part's manifest has of it, or none
abbrev pub wanted_of : Loaded → FileId → FileMark
wanted_of loaded f = or_none (mark_for loaded.schema loaded.manifest f)
  where
    or_none : Option FileMark → FileMark
    or_none (Some mark) = mark
    or_none None = NO_MARK

-- what an error says of bytes that were read from a place of a file
abbrev pub fault_after : ℕ → Loaded → FileId → List ℕ → FormatFault → PartFault
fault_after start loaded f bytes format.NoMemory = NoMemory
fault_after start loaded f bytes (format.Malformed place) = Damaged f (start + place) (wanted_of loaded f) (mark_of bytes)

-- the place of an error in the file is one that 64 bits count
abbrev pub FitsAfter : ℕ → FormatFault → Type 0
FitsAfter start format.NoMemory = ⊤
FitsAfter start (format.Malformed place) = start + place < 2 ^ 64

-- values of a part's column that were to be read: what is kept of the part, the column's number, their type, and how many
pub record WantedValues : Type 0 where
  pub loaded : Loaded
  pub number : ℕ
  pub col_type : ColType
  pub count : ℕ

-- bytes that were read from a place of the column's file go wrong as a spelling of these values, and the fault says where
pub record IsMisread (w : WantedValues) (start : ℕ) (bytes : List ℕ) (fault : PartFault) : Type 0 where
  pub place : ℕ
  pub wrong : IsFirstFault w.col_type w.count bytes place
  pub fault_is : fault ≡ fault_after start w.loaded (file.Column w.number) bytes (format.Malformed place)

-- these bytes were read, those of the whole file where the folder tells, and go wrong as a spelling of the values
pub record IsColumnDamage (told : Option Files) (w : WantedValues) (fault : PartFault) : Type 0 where
  pub bytes : List ℕ
  pub read : ForSome told (λ files. bytes ≡ bytes_of (file.Column w.number) files)
  pub misread : IsMisread w 0 bytes fault

-- what a fault says of the part's column with this number, of which a value of this type was to be read for each row
abbrev pub ExplainsColumn : Option Files → Loaded → ℕ → ColType → PartFault → Type 0
ExplainsColumn told loaded number t Fault = ⊤
ExplainsColumn told loaded number t NoMemory = ⊤
ExplainsColumn told loaded number t (Damaged f place wanted found) =
    IsColumnDamage told (record { loaded = loaded; number = number; col_type = t; count = loaded.manifest.rows }) (Damaged f place wanted found)

-- the fault is one of these columns, each of which was read from its place as one of its type
pub record ExplainsEach (Explains : ℕ → ColType → PartFault → Type 0) (places : List ℕ) (columns : List Cells) (fault : PartFault) : Type 0 where
  pub at : ℕ
  pub number : ℕ
  pub column : Cells
  pub number_is : slice_get places at ≡ Some number
  pub column_is : slice_get columns at ≡ Some column
  pub explained : Explains number column.col_type fault

-- damage of one of the columns at these places, each of which was read as one of its type
pub record IsDamageAt (Explains : ℕ → ColType → PartFault → Type 0) (types : List ColType) (places : List ℕ) (damage : PartFault) : Type 0 where
  pub at : ℕ
  pub number : ℕ
  pub col_type : ColType
  pub number_is : slice_get places at ≡ Some number
  pub type_is : slice_get types number ≡ Some col_type
  pub explained : Explains number col_type damage

-- what a fault says of columns that were read at these places
abbrev pub ExplainsAt : (ℕ → ColType → PartFault → Type 0) → List ColType → List ℕ → PartFault → Type 0
ExplainsAt Explains types places Fault = ⊤
ExplainsAt Explains types places NoMemory = ⊤
ExplainsAt Explains types places (Damaged f place wanted found) = IsDamageAt Explains types places (Damaged f place wanted found)
