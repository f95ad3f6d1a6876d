-- A store whose count of faults at opening is the one before the disk was started.
use Rattle.std.proofs.Common.{◌≡◌, ◌+◌, ◌-◌, ◌<◌, ◌≤◌, ◌^◌, ℕ, Bool, true, List, map, Option, Some, refl, sym, subst, ◌∙◌}
use Rattle.std.proofs.lemmas.List.Elements.{All-weaker}
use Rattle.std.specs.Map.{keys_of}
use Rattle.mt_base.specs.Limits.{level_limit}
use Rattle.mt_outside.specs.Disk.{Image, IsStamped, Names, Survive, Told, names_of}
use Rattle.mt_outside.specs.Files.{Files}
use Rattle.mt_outside.proofs.Changes.{at_clock-none, before_clock-all}
use Rattle.mt_outside.proofs.Crashes.{stamped_by}
use Rattle.session.specs.mt_model.History.{History}
use Rattle.root_log.specs.root_store.declared.store.CoreStore.{CoreStore}
use Rattle.root_log.specs.part_set.Sets.{parts_of}
use Rattle.session.specs.shared_store.Levels.{has_greatest}
use Rattle.session.proofs.SharedStoreLevels.{greatest_there, name_here}
use Rattle.root_log.specs.root_opening.Opened.{Opens}
use Rattle.root_log.specs.root_store.Roots.{Stands}
use Rattle.root_log.specs.root_store.Shown.{AreShown, GreatestAreShown, ImagesShow, part_called}
use Rattle.root_log.proofs.RootOpeningImagesShown.{shown_opened}
use Rattle.root_log.proofs.RootOpeningStanding.{core_stands}
use Rattle.root_log.proofs.RootStoreCrashOrder.{same_names}
use Rattle.root_log.specs.root_store.Soundness.{IsNameUnder, IsReady, IsSoundStore, NamesFit}
use Rattle.root_log.specs.root_store.Crashes.{Storage}
use Rattle.mt_program.specs.Serving.{Stretch}
use Rattle.mt_program.specs.Worlds.{HasFullPart}
use Rattle.root_log.specs.root_store.Stores.{CoreStands}

abbrev pub reopened : {F : Type 0} → CoreStore F → ℕ → CoreStore F
reopened store opened = record { tables = store.tables; set = store.set; mutations = store.mutations; length = store.length; opened = opened }

module _ {F : Type 0} (store : CoreStore F) (opened : ℕ) where
  sound_reopened : IsSoundStore store → IsSoundStore (reopened store opened)
  sound_reopened s = record {
    tables = λ table t at. let one = s.tables table t at in record { named = one.named; schema = one.schema; order = one.order; ends = one.ends; may = one.may };
    no_other = s.no_other;
    mutations = s.mutations;
  }

  names_reopened : (told : Told) → NamesFit store told → NamesFit (reopened store opened) told
  names_reopened told fit =
      All-weaker (IsNameUnder store) (IsNameUnder (reopened store opened)) (λ name one. record { table = one.table; kept = one.kept; there = one.there; is = one.is }) (keys_of (names_of told)) fit

  stands_reopened : (files_of : F → Option Files) (h : History) → CoreStands files_of h store → CoreStands files_of h (reopened store opened)
  stands_reopened files_of h s = record {
    legal = s.legal;
    length_is = s.length_is;
    tables = s.tables;
    count = s.count;
    drawn = s.drawn;
    parts = λ table t at. let one = s.parts table t at in record { rows = one.rows; hold = one.hold; stand = one.stand; order = one.order };
    no_other = s.no_other;
    mutations = s.mutations;
    unaltered = s.unaltered;
  }

  pub shown_reopened : (names : Names) → AreShown store names → AreShown (reopened store opened) names
  shown_reopened names s = record { read = s.read; are = s.are; parts = s.parts }

  greatest_reopened : (names : Names) → AreShown store names → GreatestAreShown (reopened store opened) names
  greatest_reopened names s = λ table name has level. record {
    one = name;
    shown = record { read = s.read; are = s.are; visible = (s.parts table name).1 has };
    partition = refl;
    min_block = refl;
    max_block = refl;
    level = refl;
  }

  -- a root that was opened is ready for a turn
  pub ready_opened : (files_of : F → Option Files) (disk now : Option Told) (count failed : ℕ) → Opens files_of disk count store → now ≡ disk → opened ≤ failed → opened < 2 ^ 64 - 1 → IsReady failed now (reopened store opened)
  ready_opened files_of disk now count failed o same low below =
      let shown : (t : Told) → now ≡ Some t → AreShown store (names_of t) = λ t is. shown_opened files_of (names_of t) store (o.told t (sym same ∙ is)).store_of in
      record {
        names = λ still t is. names_reopened t (o.told t (sym same ∙ is)).names;
        shown = λ still t is. shown_reopened (names_of t) (shown t is);
        greatest = λ t is. greatest_reopened (names_of t) (shown t is);
        sound = sound_reopened o.sound;
        opened = low;
        below = below;
      }

  -- and stands for what the root stands for
  pub stands_opened : (files_of : F → Option Files) (disk : Option Told) (count : ℕ) (told : Told) (h : History) → Opens files_of disk count store → disk ≡ Some told → Stands (names_of told) h → CoreStands files_of h (reopened store opened)
  stands_opened files_of disk count told h o is stands = stands_reopened files_of h (core_stands files_of (names_of told) h store (o.told told is).store_of stands)

  pub images_reopened : (disk : Option Told) (clock : ℕ) → ImagesShow disk clock store → ImagesShow disk clock (reopened store opened)
  images_reopened disk clock show = λ told is names image. shown_reopened names (show told is names image)

-- names that read alike show the same parts
shown_alike : {F : Type 0} (store : CoreStore F) (names other : Names) → map (λ (n : List ℕ × Files). n.0) names ≡ map (λ (n : List ℕ × Files). n.0) other → AreShown store names → AreShown store other
shown_alike store names other same s = record { read = s.read; are = record { sound = s.are.sound; spelled = s.are.spelled ∙ same }; parts = s.parts }

-- the names that were read are settled
pub images_settled : {F : Type 0} (store : CoreStore F) (told : Told) (clock : ℕ) (disk : Option Told) (now : ℕ) → disk ≡ Some told → now ≡ clock + 1 → IsStamped clock told → AreShown store (names_of told) → ImagesShow disk now store
images_settled store told clock disk now known raised stamped shown = λ root is names image.
    let by = stamped_by told clock stamped in
    let both : Some root ≡ Some told = sym is ∙ known in
    let same : root ≡ told = cc in
    let here : Image told (clock + 1) names = subst (λ (t : Told). Image t (clock + 1) names) same (subst (λ (c : ℕ). Image root c names) raised image) in
    let kept : Survive (names_of told) names = rw (before_clock-all told clock by, at_clock-none told clock by) at here in
    shown_alike store (names_of told) names (same_names (names_of told) names kept) shown

-- a stretch by what it met and left
abbrev pub stretch : ℕ → Option Told → Storage → ℕ → Bool → Stretch
stretch opened root now arm full = record { opened = opened; root = root; now = now; arm = arm; full = full }

-- ---- at the end

-- where the store has a part of the greatest level, one of that level is visible among the names
pub shows_full : {F : Type 0} (store : CoreStore F) (failed : ℕ) (told : Told) (disk : Option Told) → IsReady failed disk store → has_greatest store ≡ true → disk ≡ Some told → HasFullPart (names_of told)
shows_full store failed told disk ready is there =
    let has = greatest_there store is in
    let found = ready.greatest told there has.table has.kept.name (name_here (parts_of store.set has.table) has.kept has.here) has.is in
    let shown = found.shown in
    record { read = shown.read; are = shown.are; part = part_called has.table found.one; visible = shown.visible; full = subst (λ (n : ℕ). level_limit ≤ n) (sym found.level) has.is }
