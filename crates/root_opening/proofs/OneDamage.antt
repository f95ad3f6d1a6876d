-- What keeps a root from being opened is one, and of a root that stands for a history nothing does.
use Rattle.std.proofs.Common.{◌≡◌, ℕ, ◌<◌, ◌≤◌, ◌⊎◌, List, map, sym, ap, ap₂, ◌∙◌, subst, inl, inr, arith, Some, IsSomeAnd}
use Rattle.std.proofs.lemmas.Bool.{cases_lt}
use Rattle.std.proofs.lemmas.Option.{same_Some}
use Rattle.std.specs.List.{slice_get}
use Rattle.mt_base.specs.declared.name.FileId.{FileId}
use Rattle.mt_values.specs.declared.schema.Schema.{Schema}
use Rattle.mt_values.specs.RootNames.{create_name}
use Rattle.mt_outside.specs.Disk.{Names, Told, files_at, names_of}
use Rattle.mt_outside.specs.Files.{Files}
use Rattle.root_store.specs.mt_model.History.{History}
use Rattle.root_store.specs.part_set.declared.root_name.RootName.{RootName}
use Rattle.root_store.specs.part_set.declared.root_name.RootName.TheVariants as root
use Rattle.root_store.specs.part_set.declared.root_name.TablePart.{TablePart}
use Rattle.root_store.specs.part_set.RootNames.{root_text}
use Rattle.root_store.specs.part_set.Visible.{HasNoOrphan, HasNoOverlap, IsFirstOrphan, IsFirstOverlap, IsOrphan, OverlapAt, Overlapping, OrphanAt}
use Rattle.root_store.proofs.PartSetPasses.{there}
use Rattle.root_opening.specs.declared.opening.Damage.{Damage}
use Rattle.root_opening.specs.declared.opening.Damage.TheVariants as damage
use Rattle.root_opening.specs.declared.opening.OpenFault.{OpenFault}
use Rattle.root_opening.specs.declared.opening.OpenFault.TheVariants as fault
use Rattle.root_store.specs.ByteOrder.{AreInByteOrder}
use Rattle.root_store.specs.Damage.{DamagedAt, IsDamaged, IsFirstDamaged, PartDamaged}
use Rattle.root_opening.specs.Opening.{AreGood, IsBadNameOf, IsDamagedFileOf, IsNotDamaged, IsOrphanOf, IsOverlapOf, IsRootDamage, IsSpelledAt, IsUndamaged, TellsDamage}
use Rattle.root_store.specs.Roots.{Stands}
use Rattle.root_store.proofs.Clear as clear
use Rattle.root_opening.proofs.FirstNames.{none_bad, same_place}
use Rattle.root_opening.proofs.NamesTold.{text_of, told_first, told_read}
use Rattle.root_store.proofs.Orphaned as orphaned
use Rattle.root_store.proofs.Readings.{item_at, one_reading}
use Rattle.root_store.proofs.Rising.{told_rise}
use Rattle.root_store.proofs.Tabled.{few_tables}
use Rattle.root_store.proofs.Undamaged as undamaged
use Rattle.root_store.proofs.Undamaged.{folders_agree}

-- ---- one of a kind

-- two places, neither below the other, are one
one_place : (i j : ℕ) → (i < j → ⊥) → (j < i → ⊥) → i ≡ j
one_place i j first second = by (cases_lt i j) (cases_lt j i)
  where
    by : (i < j) ⊎ (j ≤ i) → (j < i) ⊎ (i ≤ j) → i ≡ j
    by (inl lt) other = absurd (first lt)
    by (inr le) (inl lt) = absurd (second lt)
    by (inr le) (inr also) = omega (arith, le, also)

one_spelled : (read : List RootName) (place : ℕ) (a b : List ℕ) → IsSpelledAt read place a → IsSpelledAt read place b → a ≡ b
one_spelled read place a b x y =
    let same : x.name ≡ y.name = same_Some x.name y.name (sym x.here ∙ y.here) in
    sym x.spelled ∙ (ap root_text same ∙ y.spelled)

one_read : (names : Names) (a b : List RootName) → AreGood names a → AreGood names b → a ≡ b
one_read names a b x y = one_reading names a b x.are y.are

bad_name_one : (names : Names) (a b : List ℕ) → IsBadNameOf names a → IsBadNameOf names b → a ≡ b
bad_name_one names a b x y =
    let place : x.place ≡ y.place = same_place (map text_of names) x.place y.place (told_first names x.place a x.first) (told_first names y.place b y.first) in
    let here : Some (a, x.first.files) ≡ Some (b, y.first.files) = sym x.first.here ∙ (ap (slice_get names) place ∙ y.first.here) in
    ap (λ (e : List ℕ × Files). e.0) (same_Some (a, x.first.files) (b, y.first.files) here)

orphan_one : (names : Names) (a b : List ℕ) → IsOrphanOf names a → IsOrphanOf names b → a ≡ b
orphan_one names a b x y =
    let same : x.read ≡ y.read = one_read names x.read y.read x.good y.good in
    let first = subst (λ (r : List RootName). IsFirstOrphan r x.place) same x.first in
    let place : x.place ≡ y.place = one_place x.place y.place (λ lt. y.first.first x.place lt first.is) (λ lt. first.first y.place lt y.first.is) in
    one_spelled y.read y.place a b (subst (λ k. IsSpelledAt y.read k a) place (subst (λ (r : List RootName). IsSpelledAt r x.place a) same x.spelled)) y.spelled

overlap_one : (names : Names) (a b c d : List ℕ) → IsOverlapOf names a b → IsOverlapOf names c d → damage.Overlap a b ≡ damage.Overlap c d
overlap_one names a b c d x y =
    let same : x.read ≡ y.read = one_read names x.read y.read x.good y.good in
    let first = subst (λ (r : List RootName). IsFirstOverlap r x.i x.j) same x.first in
    let low = first.first y.i y.j y.first.is in
    let high = y.first.first x.i x.j first.is in
    let i_is : x.i ≡ y.i = omega (arith, low, high) in
    let moved = subst (λ k. IsFirstOverlap y.read k x.j) i_is first in
    let least = moved.second y.j y.first.is in
    let most = y.first.second x.j moved.is in
    let j_is : x.j ≡ y.j = omega (arith, least, most) in
    let one = one_spelled y.read y.i a c (subst (λ k. IsSpelledAt y.read k a) i_is (subst (λ (r : List RootName). IsSpelledAt r x.i a) same x.spelled)) y.spelled in
    let two = one_spelled y.read y.j b d (subst (λ k. IsSpelledAt y.read k b) j_is (subst (λ (r : List RootName). IsSpelledAt r x.j b) same x.spelled_too)) y.spelled_too in
    ap₂ damage.Overlap one two

-- a part has one file that is damaged first
part_file_one : (schema : Schema) (part : TablePart) (files : Files) (f g : FileId) → PartDamaged schema part files f → PartDamaged schema part files g → f ≡ g
part_file_one schema part files f g (inl x) (inl y) = x.1 ∙ sym y.1
part_file_one schema part files f g (inl x) (inr y) = absurd (x.0 y.0)
part_file_one schema part files f g (inr x) (inl y) = absurd (y.0 x.0)
part_file_one schema part files f g (inr x) (inr y) = same_Some f g (sym x.1 ∙ y.1)

-- so has a name
file_one : (names : Names) (read : List RootName) (n : RootName) (files : Files) (f g : FileId) → IsDamaged names read n files f → IsDamaged names read n files g → f ≡ g
file_one names read (root.Create table) files f g x y = x.1 ∙ sym y.1
file_one names read (root.Part part) files f g x y =
    let schema : x.1.0 ≡ y.1.0 = folders_agree names (create_name part.table) part.table x.1.0 y.1.0 x.1.1 y.1.1 in
    part_file_one y.1.0 part files f g (subst (λ (s : Schema). PartDamaged s part files f) schema x.1.2) y.1.2

-- and so has a place
file_at_one : (names : Names) (read : List RootName) (place : ℕ) (f g : FileId) → DamagedAt names read place f → DamagedAt names read place g → f ≡ g
file_at_one names read place f g x y =
    let name : x.0 ≡ y.0 = same_Some x.0 y.0 (sym x.2 ∙ y.2) in
    let files : x.1 ≡ y.1 = same_Some x.1 y.1 (sym x.3 ∙ (ap (λ (n : RootName). files_at (root_text n) names) name ∙ y.3)) in
    file_one names read y.0 y.1 f g (subst (λ (fs : Files). IsDamaged names read y.0 fs f) files (subst (λ (n : RootName). IsDamaged names read n x.1 f) name x.4)) y.4

damaged_file_one : (names : Names) (a b : List ℕ) (f g : FileId) → IsDamagedFileOf names a f → IsDamagedFileOf names b g → damage.File a f ≡ damage.File b g
damaged_file_one names a b f g x y =
    let same : x.read ≡ y.read = one_read names x.read y.read x.good y.good in
    let first = subst (λ (r : List RootName). IsFirstDamaged names r x.place f) same x.first in
    let place : x.place ≡ y.place = one_place x.place y.place (λ lt. y.first.first x.place f lt first.here) (λ lt. first.first y.place g lt y.first.here) in
    let name = one_spelled y.read y.place a b (subst (λ k. IsSpelledAt y.read k a) place (subst (λ (r : List RootName). IsSpelledAt r x.place a) same x.spelled)) y.spelled in
    let files = file_at_one names y.read y.place f g (subst (λ k. DamagedAt names y.read k f) place first.here) y.first.here in
    ap₂ damage.File name files

-- ---- one kind

-- where all names are good none is bad
good_none_bad : (names : Names) (read : List RootName) (name : List ℕ) → AreGood names read → IsBadNameOf names name → ⊥
good_none_bad names read name good bad = none_bad (map text_of names) bad.place read (told_read names read good.are) good.few (told_first names bad.place name bad.first)

orphan_at : (read : List RootName) (place : ℕ) → HasNoOrphan read → OrphanAt read place → ⊥
orphan_at read place none is =
    let found = there (slice_get read place) (IsOrphan read) is in
    none found.0 (item_at read place found.0 found.1) found.2

overlapping : (read : List RootName) (a b : RootName) → HasNoOverlap read → Overlapping read a b → ⊥
overlapping read (root.Create t) b none is = is
overlapping read (root.Part a) (root.Create u) none is = is
overlapping read (root.Part a) (root.Part b) none is = none a b is

overlap_at : (read : List RootName) (i j : ℕ) → HasNoOverlap read → OverlapAt read i j → ⊥
overlap_at read i j none is =
    let a = there (slice_get read i) (λ a. IsSomeAnd (slice_get read j) (Overlapping read a)) is in
    let b = there (slice_get read j) (Overlapping read a.0) a.2 in
    overlapping read a.0 b.0 none b.2

no_orphan_of : (names : Names) (read : List RootName) (name : List ℕ) → AreGood names read → HasNoOrphan read → IsOrphanOf names name → ⊥
no_orphan_of names read name good none o =
    orphan_at read o.place none (subst (λ (r : List RootName). OrphanAt r o.place) (one_read names o.read read o.good good) o.first.is)

no_overlap_of : (names : Names) (read : List RootName) (a b : List ℕ) → AreGood names read → HasNoOverlap read → IsOverlapOf names a b → ⊥
no_overlap_of names read a b good none o =
    overlap_at read o.i o.j none (subst (λ (r : List RootName). OverlapAt r o.i o.j) (one_read names o.read read o.good good) o.first.is)

-- what keeps a root from being opened is one
pub one_damage : (names : Names) (d e : Damage) → IsRootDamage names d → IsRootDamage names e → d ≡ e
one_damage names (damage.Name a) (damage.Name b) x y = ap damage.Name (bad_name_one names a b x y)
one_damage names (damage.Name a) (damage.Orphan b) x y = absurd (good_none_bad names y.read a y.good x)
one_damage names (damage.Name a) (damage.Overlap b c) x y = absurd (good_none_bad names y.read a y.good x)
one_damage names (damage.Name a) (damage.File b g) x y = absurd (good_none_bad names y.read a y.good x)
one_damage names (damage.Orphan a) (damage.Name b) x y = absurd (good_none_bad names x.read b x.good y)
one_damage names (damage.Orphan a) (damage.Orphan b) x y = ap damage.Orphan (orphan_one names a b x y)
one_damage names (damage.Orphan a) (damage.Overlap b c) x y = absurd (no_orphan_of names y.read a y.good y.no_orphan x)
one_damage names (damage.Orphan a) (damage.File b g) x y = absurd (no_orphan_of names y.read a y.good y.no_orphan x)
one_damage names (damage.Overlap a c) (damage.Name b) x y = absurd (good_none_bad names x.read b x.good y)
one_damage names (damage.Overlap a c) (damage.Orphan b) x y = absurd (no_orphan_of names x.read b x.good x.no_orphan y)
one_damage names (damage.Overlap a c) (damage.Overlap b d) x y = overlap_one names a c b d x y
one_damage names (damage.Overlap a c) (damage.File b g) x y = absurd (no_overlap_of names y.read a c y.good y.no_overlap x)
one_damage names (damage.File a f) (damage.Name b) x y = absurd (good_none_bad names x.read b x.good y)
one_damage names (damage.File a f) (damage.Orphan b) x y = absurd (no_orphan_of names x.read b x.good x.no_orphan y)
one_damage names (damage.File a f) (damage.Overlap b d) x y = absurd (no_overlap_of names x.read b d x.good x.no_overlap y)
one_damage names (damage.File a f) (damage.File b g) x y = damaged_file_one names a b f g x y

-- ---- none

-- nothing keeps a root from being opened whose names are good, without orphans, parts that overlap and damaged files
pub none_damages : (names : Names) (read : List RootName) → AreGood names read → HasNoOrphan read → HasNoOverlap read → ((place : ℕ) (f : FileId) → DamagedAt names read place f → ⊥) → IsUndamaged names
none_damages names read good orphan overlap sound (damage.Name a) x = good_none_bad names read a good x
none_damages names read good orphan overlap sound (damage.Orphan a) x = no_orphan_of names read a good orphan x
none_damages names read good orphan overlap sound (damage.Overlap a b) x = no_overlap_of names read a b good overlap x
none_damages names read good orphan overlap sound (damage.File a f) x = sound x.place f (subst (λ (r : List RootName). DamagedAt names r x.place f) (one_read names x.read read x.good good) x.first.here)

-- nor a root that stands for a history
pub no_root_damage : (names : Names) (h : History) (d : Damage) → AreInByteOrder names → Stands names h → IsRootDamage names d → ⊥
no_root_damage names h d rise s = none_damages names s.read (record { are = s.are; few = few_tables names h s rise }) (orphaned.no_orphan names h s) (clear.no_overlap names h s) (undamaged.no_damage names h s) d

-- so none is told of it
pub none_told : (names : Names) (h : History) (e : OpenFault) → AreInByteOrder names → Stands names h → TellsDamage names e → IsNotDamaged e
none_told names h fault.NoMemory rise s told = tt
none_told names h fault.Disk rise s told = tt
none_told names h (fault.Damaged d) rise s told = no_root_damage names h d rise s told

-- of the names that a disk tells
pub none_told_of : (told : Told) (h : History) (e : OpenFault) → Stands (names_of told) h → TellsDamage (names_of told) e → IsNotDamaged e
none_told_of told h e s tells = none_told (names_of told) h e (told_rise told) s tells
