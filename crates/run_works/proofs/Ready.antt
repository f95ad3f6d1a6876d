-- A root that was opened is ready for a turn.
use Rattle.std.proofs.Common.{◌≡◌, ℕ, Option, Some, refl, sym, ◌∙◌, arith}
use Rattle.mt_outside.specs.Disk.{Names, Told, names_of}
use Rattle.mt_outside.specs.Files.{Files}
use Rattle.mt_program.proofs.RootOpeningImagesShown.{shown_opened}
use Rattle.mt_program.specs.root_log.root_opening.Opened.{Opens}
use Rattle.mt_program.specs.root_log.root_store.Shown.{AreShown, GreatestAreShown}
use Rattle.mt_program.specs.root_log.root_store.Soundness.{IsReady}
use Rattle.mt_program.specs.root_log.root_store.declared.store.CoreStore.{CoreStore}

-- the parts of the greatest level are shown, as all are
greatest : {F : Type 0} (store : CoreStore F) (names : Names) → AreShown store names → GreatestAreShown store names
greatest store names s = λ table name has level. record {
  one = name;
  shown = record { read = s.read; are = s.are; visible = (s.parts table name).1 has };
  partition = refl;
  min_block = refl;
  max_block = refl;
  level = refl;
}

-- a root without a fault so far
pub ready : {F : Type 0} (files_of : F → Option Files) (store : CoreStore F) (disk now : Option Told) (count failed : ℕ)
    → Opens files_of disk count store → now ≡ disk → count ≡ 0 → IsReady failed now store
ready files_of store disk now count failed o same none =
    let shown : (t : Told) → now ≡ Some t → AreShown store (names_of t) =
    λ t is. shown_opened files_of (names_of t) store (o.told t (sym same ∙ is)).store_of in
    let opened = o.opened in
    record {
      names = λ still t is. (o.told t (sym same ∙ is)).names;
      shown = λ still t is. shown t is;
      greatest = λ t is. greatest store (names_of t) (shown t is);
      sound = o.sound;
      opened = omega (arith, opened, none);
      below = omega (arith, opened, none);
    }
