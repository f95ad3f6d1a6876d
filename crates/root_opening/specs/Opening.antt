-- What is told of a root that is not opened (docs/replies.md, "Damage").
use Rattle.std.specs.Prelude.{◌≡◌, ⊤, ℕ, ◌≤◌, List, length, filter, slice_get, Some, Result, MatchResult}
use Rattle.mt_base.specs.declared.name.FileId.{FileId}
use Rattle.mt_outside.specs.Disk.{Names}
use Rattle.root_store.specs.part_set.declared.root_name.RootName.{RootName}
use Rattle.root_store.specs.part_set.RootNames.{root_text}
use Rattle.root_store.specs.part_set.Visible.{HasNoOrphan, HasNoOverlap, IsFirstOrphan, IsFirstOverlap}
use Rattle.root_opening.specs.declared.opening.Damage.{Damage}
use Rattle.root_opening.specs.declared.opening.Damage.TheVariants as damage
use Rattle.root_opening.specs.declared.opening.OpenFault.{OpenFault}
use Rattle.root_opening.specs.declared.opening.OpenFault.TheVariants as fault
use Rattle.root_store.specs.Damage.{IsFirstBadName, IsFirstDamaged, is_entry_name, most_tables}
use Rattle.root_store.specs.Roots.{AreNamesRead}

-- no name of the root is bad: these are its names, and not too many of them are tables
pub record AreGood (names : Names) (read : List RootName) : Type 0 where
  pub are : AreNamesRead names read
  pub few : length (filter is_entry_name read) ≤ most_tables

-- the name at a place is spelled so
pub record IsSpelledAt (read : List RootName) (place : ℕ) (text : List ℕ) : Type 0 where
  pub name : RootName
  pub here : slice_get read place ≡ Some name
  pub spelled : root_text name ≡ text

-- the first bad name
pub record IsBadNameOf (names : Names) (name : List ℕ) : Type 0 where
  pub place : ℕ
  pub first : IsFirstBadName names place name

-- no name is bad, and this is the first orphan
pub record IsOrphanOf (names : Names) (name : List ℕ) : Type 0 where
  pub read : List RootName
  pub good : AreGood names read
  pub place : ℕ
  pub first : IsFirstOrphan read place
  pub spelled : IsSpelledAt read place name

-- no name is bad or an orphan, and these are the first two parts that overlap
pub record IsOverlapOf (names : Names) (a b : List ℕ) : Type 0 where
  pub read : List RootName
  pub good : AreGood names read
  pub no_orphan : HasNoOrphan read
  pub i : ℕ
  pub j : ℕ
  pub first : IsFirstOverlap read i j
  pub spelled : IsSpelledAt read i a
  pub spelled_too : IsSpelledAt read j b

-- no name is bad or an orphan, no parts overlap, and this is the first name with a damaged file, and its first one
pub record IsDamagedFileOf (names : Names) (name : List ℕ) (f : FileId) : Type 0 where
  pub read : List RootName
  pub good : AreGood names read
  pub no_orphan : HasNoOrphan read
  pub no_overlap : HasNoOverlap read
  pub place : ℕ
  pub first : IsFirstDamaged names read place f
  pub spelled : IsSpelledAt read place name

-- what keeps a root from being opened: in this order of checking, of each kind the first name in byte order
abbrev pub IsRootDamage : Names → Damage → Type 0
IsRootDamage names (damage.Name name) = IsBadNameOf names name
IsRootDamage names (damage.Orphan name) = IsOrphanOf names name
IsRootDamage names (damage.Overlap a b) = IsOverlapOf names a b
IsRootDamage names (damage.File name f) = IsDamagedFileOf names name f

-- a fault that tells damage tells what keeps the root from being opened
abbrev pub TellsDamage : Names → OpenFault → Type 0
TellsDamage names fault.NoMemory = ⊤
TellsDamage names fault.Disk = ⊤
TellsDamage names (fault.Damaged d) = IsRootDamage names d

-- a fault that tells no damage
abbrev pub IsNotDamaged : OpenFault → Type 0
IsNotDamaged fault.NoMemory = ⊤
IsNotDamaged fault.Disk = ⊤
IsNotDamaged (fault.Damaged d) = ⊥

-- nothing keeps the root from being opened
abbrev pub IsUndamaged : Names → Type 0
IsUndamaged names = (d : Damage) → IsRootDamage names d → ⊥

-- what is answered of damage: a root is opened where nothing keeps it from that, and else what is told of damage is what does
abbrev pub AnswersDamage : {T : Type 0} → Names → Result T OpenFault → Type 0
AnswersDamage names result = MatchResult result (λ _. IsUndamaged names) (TellsDamage names)
