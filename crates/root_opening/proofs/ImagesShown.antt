-- What a crash leaves of a root that was opened: what was noted, and the store's visible parts.
use Rattle.std.proofs.Common.{◌≡◌, inl, ℕ, ◌+◌, List, [], ◌∷◌, map, Err, Ok, Option, Result, Some, is_some, refl, sym, ap, ◌∙◌, subst}
use Rattle.std.specs.List.{Contains as HasItem}
use Rattle.mt_values.specs.declared.annals.Noted.{Noted}
use Rattle.mt_outside.specs.Disk.{Image, Names, Survive, Told, names_of}
use Rattle.mt_outside.specs.Files.{Files}
use Rattle.mt_outside.proofs.Changes.{at_clock-none, before_clock-all}
use Rattle.mt_outside.proofs.Crashes.{stamped_by}
use Rattle.root_store.specs.mt_model.History.{History}
use Rattle.root_store.specs.part_name.declared.part.PartName.{PartName}
use Rattle.root_store.specs.part_set.declared.root_name.RootName.{RootName}
use Rattle.root_store.specs.part_set.declared.root_name.RootName.TheVariants as root
use Rattle.root_store.specs.part_set.declared.root_name.TablePart.{TablePart}
use Rattle.root_store.specs.part_set.Parts.{HasName}
use Rattle.root_store.specs.part_set.Sets.{parts_of}
use Rattle.root_store.specs.part_set.Visible.{IsVisible}
use Rattle.root_store.proofs.PartSetItems.{item_none}
use Rattle.root_store.specs.declared.store.CoreStore.{CoreStore}
use Rattle.root_store.specs.Crashes.{AllStand, IsCrashSafe, entries_of, none_begun}
use Rattle.root_store.specs.Roots.{AreNamesRead, Stands}
use Rattle.root_store.specs.Shown.{AreShown, ImagesShow, part_called}
use Rattle.root_store.specs.Stores.{StoreOf}
use Rattle.root_opening.specs.declared.opening.OpenFault.{OpenFault}
use Rattle.root_opening.specs.Opened.{SettlesNames, mark_settled}
use Rattle.root_store.proofs.CrashMarks.{safe_opened, some_one, stands_as_read}
use Rattle.root_store.proofs.CrashOrder.{same_names}
use Rattle.root_store.proofs.Orphaned.{of_core}
use Rattle.root_store.proofs.Tabled.{table_here}

-- what a root is opened as has the visible parts among its names
pub shown_opened : {F : Type 0} (files_of : F → Option Files) (names : Names) (store : CoreStore F) → StoreOf files_of names store → AreShown store names
shown_opened files_of names store o = record { read = o.read; are = o.are; parts = o.parts }

-- names that read alike show the same parts
shown_alike : {F : Type 0} (store : CoreStore F) (names other : Names) → map (λ (n : List ℕ × Files). n.0) names ≡ map (λ (n : List ℕ × Files). n.0) other → AreShown store names → AreShown store other
shown_alike store names other same s = record { read = s.read; are = record { sound = s.are.sound; spelled = s.are.spelled ∙ same }; parts = s.parts }

-- no name is read of none
none_read : (read : List RootName) → AreNamesRead [] read → read ≡ []
none_read [] are = refl
none_read (n ∷ read) are = let spelled = are.spelled in cc

-- a root without names, and one that stands for the same history, show no parts
module _ {F : Type 0} (store : CoreStore F) (h : History) (empty : Stands [] h) (s : AreShown store []) (names : Names) (other : Stands names h) where
  none_kept : (table : List ℕ) (name : PartName) → HasName (parts_of store.set table) name → ⊥
  none_kept table name has =
      let visible = (s.parts table name).1 has in
      item_none (root.Part (part_called table name)) (subst (λ (read : List RootName). HasItem read (root.Part (part_called table name))) (none_read s.read s.are) visible.here)

  none_visible : (part : TablePart) → IsVisible other.read part → ⊥
  none_visible part visible =
      let core = of_core names h other part visible in
      let here = table_here [] h empty core.core.table (ap is_some core.there.schema_is) in
      item_none (root.Create core.core.table) (subst (λ (read : List RootName). HasItem read (root.Create core.core.table)) (none_read empty.read empty.are) here)

  pub none_shown : AreShown store names
  none_shown = record {
    read = other.read;
    are = other.are;
    parts = λ table name. (λ visible. absurd (none_visible (part_called table name) visible), λ has. absurd (none_kept table name has));
  }

module _ {F : Type 0} (files_of : F → Option Files) (store : CoreStore F) (told : Told) (clock now : ℕ) (h : History) (all : AllStand told clock h) (o : StoreOf files_of (names_of told) store) where
  -- the names were settled
  settled_shown : now ≡ clock + 1 → (names : Names) → Image told now names → AreShown store names
  settled_shown raised names image =
      let by = stamped_by told clock all.stamped in
      let kept : Survive (names_of told) names = rw (before_clock-all told clock by, at_clock-none told clock by) at (subst (λ (c : ℕ). Image told c names) raised image) in
      shown_alike store (names_of told) names (same_names (names_of told) names kept) (shown_opened files_of (names_of told) store o)

  -- there was none to settle, or they were
  by_names : (read : Names) → names_of told ≡ read → now ≡ mark_settled read clock → (names : Names) → Image told now names → AreShown store names
  by_names [] is stays names image =
      none_shown store h (subst (λ (ns : Names). Stands ns h) is (stands_as_read told clock h all)) (subst (AreShown store) is (shown_opened files_of (names_of told) store o)) names
      (all.images names (subst (λ (c : ℕ). Image told c names) stays image))
  by_names (n ∷ read) is raised names image = settled_shown raised names image

  -- what is told by other words is shown too
  pub images_opened : now ≡ mark_settled (names_of told) clock → (disk : Option Told) → disk ≡ Some told → ImagesShow disk now store
  images_opened settled disk known = λ root is.
      let same : told ≡ root = some_one told root (sym known ∙ is) in
      subst (λ (t : Told). (names : Names) → Image t now names → AreShown store names) same (by_names (names_of told) refl settled)

-- an opening leaves a crash what was noted, whatever it answers
pub safe_settled : {T : Type 0} (disk : Option Told) (told : Told) (before now : ℕ) (result : Result T OpenFault) (list : List Noted) → SettlesNames disk before now result → AllStand told before (entries_of list) → IsCrashSafe told now (none_begun list) list before
safe_settled disk told before now (Ok store) list settled all = safe_opened told before now list all settled.upto
safe_settled disk told before now (Err e) list stays all = safe_opened told before now list all (inl stays)
