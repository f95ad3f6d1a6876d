-- What a root is opened as whose names were all gone over, and what is answered of its damage.
use Rattle.std.proofs.Common.{◌≡◌, ℕ, ◌+◌, List, Err, Ok, Option, Result, sym, subst}
use Rattle.std.specs.BTreeMap.{IsOrdered}
use Rattle.std.specs.Cmp.Lexicographic.{slice_cmp}
use Rattle.std.specs.List.{sum_by}
use Rattle.std.specs.Ordering.{nat_cmp}
use Rattle.std.specs.Result.{IsErrAnd}
use Rattle.mt_base.specs.declared.name.FileId.{FileId}
use Rattle.mt_outside.specs.declared.disk.DiskError.{DiskError}
use Rattle.mt_outside.specs.declared.disk.DiskError.TheVariants as failure
use Rattle.mt_outside.specs.Disk.{Names, Told, names_of}
use Rattle.mt_outside.specs.Files.{Files}
use Rattle.root_store.specs.part_set.declared.root_name.RootName.{RootName}
use Rattle.root_store.specs.part_set.Visible.{HasNoOrphan}
use Rattle.root_opening.specs.declared.opening.OpenFault.{OpenFault}
use Rattle.root_opening.specs.declared.steps.Root.{Root}
use Rattle.root_store.specs.declared.store.CoreStore.{CoreStore}
use Rattle.root_store.specs.declared.store.Table.{Table}
use Rattle.root_store.specs.Damage.{DamagedAt}
use Rattle.root_opening.specs.Keeping.{IsNamedRoot, IsTextsOf, Keeps, KeepsTold, OpenFaultOf}
use Rattle.root_opening.specs.Opened.{IsOpenedOf, Opens, SettlesNames}
use Rattle.root_opening.specs.Opening.{AnswersDamage, IsUndamaged, TellsDamage}
use Rattle.root_store.proofs.Fitting.{fits_store}
use Rattle.root_opening.proofs.Held.{held_opened}
use Rattle.root_opening.proofs.NextNames.{Whole_, are_read, none_damaged, sound_store, store_is}
use Rattle.root_opening.proofs.OneDamage.{none_damages}
use Rattle.root_store.proofs.Readings.{item_at, one_reading}

module _ {F : Type 0} (r : Root) (named : IsNamedRoot r) (files_of : F → Option Files) (told : Told) (listed : IsTextsOf r told) (store : CoreStore F) (kept : KeepsTold files_of (names_of told) r.names.items r.names.items store) where
  -- no file is damaged, so nothing keeps the root from being opened
  all_sound : (place : ℕ) (f : FileId) → DamagedAt (names_of told) r.names.items place f → ⊥
  all_sound place f bad = none_damaged r named told listed files_of r.names.items store kept place f (λ n at. item_at r.names.items place n at) bad

  pub undamaged_root : IsUndamaged (names_of told)
  undamaged_root = none_damages (names_of told) r.names.items (record { are = are_read r named told listed; few = named.few }) named.shows.no_orphan named.shows.no_overlap all_sound

  -- the store with its length is what the names make
  pub opened_of : (n : ℕ) (keeps : Keeps r.names.items r.names.items store) → IsOrdered (slice_cmp nat_cmp) store.tables → n ≡ sum_by (λ (e : List ℕ × Table). 1 + e.1.drawn) store.tables.entries → IsOpenedOf files_of (Whole_ r named store n keeps) told
  opened_of n keeps ordered sum =
      let o = store_is r named store n keeps files_of told listed kept ordered sum in
      let same = one_reading (names_of told) r.names.items o.read (are_read r named told listed) o.are in
      record {
        store_of = o;
        held = held_opened files_of (names_of told) (Whole_ r named store n keeps) o (sound_store r named store n keeps) (λ place f bad. all_sound place f (subst (λ (read : List RootName). DamagedAt (names_of told) read place f) (sym same) bad));
        names = fits_store files_of told (Whole_ r named store n keeps) o (subst HasNoOrphan same named.shows.no_orphan);
      }

-- the same disk and the same count by other words
pub opens_moved : {F : Type 0} {files_of : F → Option Files} {store : CoreStore F} (disk was : Option Told) (failed count : ℕ) → disk ≡ was → failed ≡ count → Opens files_of disk failed store → Opens files_of was count store
opens_moved {files_of = files_of} {store = store} disk was failed count same is o =
    subst (λ (d : Option Told). Opens files_of d count store) same (subst (λ (n : ℕ). Opens files_of disk n store) is o)

-- ---- errors that are handed on

-- damage that was told is told
pub tells_handed : {T : Type 0} (names : Names) (e : OpenFault) (result : Result T OpenFault) → IsErrAnd result (λ f. f ≡ e) → TellsDamage names e → AnswersDamage names result
tells_handed names e (Ok x) made tells = absurd made
tells_handed names e (Err f) made tells = subst (TellsDamage names) (sym made) tells

-- a call of the disk that failed tells none
pub tells_none : {T : Type 0} (names : Names) (e : DiskError) (result : Result T OpenFault) → IsErrAnd result (OpenFaultOf e) → AnswersDamage names result
tells_none names e (Ok x) made = absurd made
tells_none names failure.Fault (Err f) made = subst (TellsDamage names) (sym made) tt
tells_none names failure.NoMemory (Err f) made = subst (TellsDamage names) (sym made) tt

-- the mark stays
pub mark_stays : {T : Type 0} (disk : Option Told) (before now : ℕ) (Is : OpenFault → Type 0) (result : Result T OpenFault) → IsErrAnd result Is → now ≡ before → SettlesNames disk before now result
mark_stays disk before now Is (Ok x) made same = absurd made
mark_stays disk before now Is (Err f) made same = same
