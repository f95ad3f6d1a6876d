-- What a crash leaves of the disk alone, as a name is published and settled.
use Rattle.std.proofs.Common.{◌≡◌, ◌⊎◌, inl, inr, ℕ, ◌+◌, List, [], Option, Some, sym, ap, ◌∙◌, subst}
use Rattle.std.specs.BTreeMap.{insert_entry}
use Rattle.std.specs.Cmp.Lexicographic.{slice_cmp}
use Rattle.std.specs.Ordering.{nat_cmp}
use Rattle.mt_outside.specs.declared.disk.Change.TheVariants.{Publish}
use Rattle.mt_outside.specs.Disk.{Image, IsStamped, MayBecome, MayPut, Names, Since, Survive, Told, WithPublished, names_of, put, with_change}
use Rattle.mt_outside.specs.Files.{Files}
use Rattle.mt_outside.proofs.Changes.{at_clock-none, before_clock-all, names_after_last, since-sync, since-with_change}
use Rattle.mt_outside.proofs.Crashes.{image_as_read, image_published, stamped_by, stamped_change, stamped_sync, survive_inserted}
use Rattle.root_store.specs.mt_model.History.{History}
use Rattle.root_store.specs.declared.store.CoreStore.{CoreStore}
use Rattle.root_store.specs.ByteOrder.{AreInByteOrder}
use Rattle.root_store.specs.Crashes.{AllStand}
use Rattle.root_store.specs.Roots.{Stands}
use Rattle.root_store.specs.Shown.{AreShown}
use Rattle.root_store.proofs.CrashMarks.{now_is_image}
use Rattle.root_store.proofs.CrashOrder.{image_rise}
use Rattle.root_commits.specs.Commits.{SameStore}
use Rattle.root_commits.specs.Images.{LeavesEither, LeavesOne}
use Rattle.root_commits.specs.Turns.{Root}
use Rattle.root_commits.proofs.Shown.{shown_same}

-- What holds of whatever a crash could leave, once a name was put there, holds of all that it leaves once that is settled.
module _ (told : Told) (clock : ℕ) (stamped : IsStamped clock told) (name : List ℕ) (files : Files) (P : Names → Type 0)
    (given : (old : Names) (left : Files) → Image told clock old → MayBecome files left → P (insert_entry (slice_cmp nat_cmp) old name left)) where
  pub with_it_holds : (names : Names) → WithPublished (Image told clock) name files names → P names
  with_it_holds names w = subst P (sym w.is) (given w.old w.left w.before w.become)

  pub settled_holds : (names : Names) → Image (with_change clock (Publish name files) told) (clock + 1) names → P names
  settled_holds names image =
      let published = with_change clock (Publish name files) told in
      let by = stamped_by published clock (stamped_change told clock (Publish name files) stamped) in
      let kept : Survive (names_of published) names = rw (before_clock-all published clock by, at_clock-none published clock by) at image in
      let read = subst (λ (ns : Names). Survive ns names) (names_after_last [] told (record { clock = clock; change = Publish name files })) kept in
      let w = survive_inserted (names_of told) names name files read in
      with_it_holds names (record { old = w.old; left = w.left; before = image_as_read told clock w.old stamped w.before; become = w.become; is = w.is })

-- A name is published that makes of whatever a crash could leave, which stands for the one history, what stands for the other.
module _ (told : Told) (clock : ℕ) (h later : History) (all : AllStand told clock h) (name : List ℕ) (files : Files)
    (grows : (old : Names) (left : Files) → Image told clock old → MayBecome files left → Stands (insert_entry (slice_cmp nat_cmp) old name left) later) where
  abbrev published : Told
  published = with_change clock (Publish name files) told

  pub with_it : (names : Names) → WithPublished (Image told clock) name files names → Stands names later
  with_it = with_it_holds told clock all.stamped name files (λ (ns : Names). Stands ns later) grows

  either_published : (names : Names) → Since published clock clock names → Stands names h ⊎ Stands names later
  either_published names left = elim (since-with_change told clock clock (Publish name files) names left) [
    | inl old ↦ inl (all.images names (now_is_image told clock names old))
    | inr image ↦ elim (image_published told clock name files names image) [
      | inl was ↦ inl (all.images names was)
      | inr new ↦ inr (with_it names new)
    ]
  ]

  -- once the names were settled, a crash leaves it
  pub settled_with_it : (names : Names) → Image published (clock + 1) names → Stands names later
  settled_with_it = settled_holds told clock all.stamped name files (λ (ns : Names). Stands ns later) grows

  either_settled : (names : Names) → Since published (clock + 1) clock names → Stands names h ⊎ Stands names later
  either_settled names left = elim (since-sync published clock clock names left) [
    | inl before ↦ either_published names before
    | inr image ↦ inr (settled_with_it names image)
  ]

  all_settled : AllStand published (clock + 1) later
  all_settled = record { stamped = stamped_sync published clock (stamped_change told clock (Publish name files) all.stamped); images = settled_with_it }

-- ---- the turn of a command

-- the disk is as it was, and the store has the same parts
module _ {F : Type 0} (was now : Root F) (h : History) (one : LeavesOne was h) (same : now.storage.disk ≡ was.storage.disk) (stays : now.storage.clock ≡ was.storage.clock) where
  pub one_same : SameStore was.store now.store → LeavesOne now h
  one_same kept = record {
    told = one.told;
    disk_is = same ∙ one.disk_is;
    all = subst (λ (c : ℕ). AllStand one.told c h) (sym stays) one.all;
    shown = λ names image. shown_same was.store now.store kept names (one.shown names (subst (λ (c : ℕ). Image one.told c names) stays image));
  }

  pub either_same : (later : History) → LeavesEither now.storage.disk now.storage.clock was.storage.clock h later
  either_same later = record {
    told = one.told;
    disk_is = same ∙ one.disk_is;
    images = λ names left. inl (one.all.images names (now_is_image one.told was.storage.clock names (subst (λ (c : ℕ). Since one.told c was.storage.clock names) stays left)));
  }

-- what a name that is published makes of each root that stands for the history and shows the store's parts: one that stands for a later one
abbrev pub Grows : {F : Type 0} → CoreStore F → List ℕ → Files → History → History → Type 0
Grows store name files h later =
    (old : Names) (left : Files) → AreInByteOrder old → Stands old h → AreShown store old → MayBecome files left → Stands (insert_entry (slice_cmp nat_cmp) old name left) later

-- one that shows the parts of the later store
abbrev pub Shows : {F : Type 0} → CoreStore F → List ℕ → Files → History → CoreStore F → Type 0
Shows store name files h now =
    (old : Names) (left : Files) → AreInByteOrder old → Stands old h → AreShown store old → MayBecome files left → AreShown now (insert_entry (slice_cmp nat_cmp) old name left)

-- sealed files were given to the disk
module _ {F : Type 0} (was now : Root F) (name : List ℕ) (sealed : Option Files) (files : Files) (sealed_is : sealed ≡ Some files) (h later : History) (one : LeavesOne was h)
    (grows : Grows was.store name files h later) where
  abbrev told : Told
  told = with_change was.storage.clock (Publish name files) one.told

  told_is : now.storage.disk ≡ put was.storage.clock name sealed was.storage.disk → now.storage.disk ≡ Some told
  told_is put_is = put_is ∙ (ap (λ (fs : Option Files). put was.storage.clock name fs was.storage.disk) sealed_is ∙ ap (put was.storage.clock name (Some files)) one.disk_is)

  grown : (old : Names) (left : Files) → Image one.told was.storage.clock old → MayBecome files left → Stands (insert_entry (slice_cmp nat_cmp) old name left) later
  grown old left image become = grows old left (image_rise one.told was.storage.clock old image) (one.all.images old image) (one.shown old image) become

  -- its name is there or not
  pub either_failed : now.storage.clock ≡ was.storage.clock → MayPut was.storage.clock name sealed was.storage.disk now.storage.disk → LeavesEither now.storage.disk now.storage.clock was.storage.clock h later
  either_failed stays (inl same) = either_same was now h one same stays later
  either_failed stays (inr put_is) = record {
    told = told;
    disk_is = told_is put_is;
    images = λ names left. either_published one.told was.storage.clock h later one.all name files grown names (subst (λ (c : ℕ). Since told c was.storage.clock names) stays left);
  }

  -- it was settled
  module _ (raised : now.storage.clock ≡ was.storage.clock + 1) (put_is : now.storage.disk ≡ put was.storage.clock name sealed was.storage.disk) where
    pub either_committed : LeavesEither now.storage.disk now.storage.clock was.storage.clock h later
    either_committed = record {
      told = told;
      disk_is = told_is put_is;
      images = λ names left. either_settled one.told was.storage.clock h later one.all name files grown names (subst (λ (c : ℕ). Since told c was.storage.clock names) raised left);
    }

    pub one_committed : Shows was.store name files h now.store → LeavesOne now later
    one_committed shows = record {
      told = told;
      disk_is = told_is put_is;
      all = subst (λ (c : ℕ). AllStand told c later) (sym raised) (all_settled one.told was.storage.clock h later one.all name files grown);
      shown = λ names image.
          settled_holds one.told was.storage.clock one.all.stamped name files (AreShown now.store)
          (λ old left before become. shows old left (image_rise one.told was.storage.clock old before) (one.all.images old before) (one.shown old before) become)
          names (subst (λ (c : ℕ). Image told c names) raised image);
    }
