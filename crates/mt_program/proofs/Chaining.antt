-- A run after a run, and after a crash.
use Rattle.std.proofs.Common.{◌≡◌, ℕ, List, [], ◌∷◌, ◌++◌, None, Some, false, length, map, refl, sym, ap, ◌∙◌, subst}
use Rattle.std.proofs.lemmas.List.Elements.{All-nil}
use Rattle.mt_values.specs.declared.annals.Noted.{Noted}
use Rattle.mt_values.specs.declared.command.Entry.{Entry}
use Rattle.mt_values.specs.Annals.{Told}
use Rattle.mt_outside.specs.Disk as root
use Rattle.session.specs.mt_model.History.{History}
use Rattle.session.specs.part_history.declared.part.CorePart.{CorePart}
use Rattle.session.specs.part_history.Parts.{PartStands}
use Rattle.root_log.specs.part_set.declared.root_name.RootName.TheVariants as root_name
use Rattle.root_log.proofs.PartSetItems.{item_none}
use Rattle.root_log.specs.part_set.RootNames.{IsRootName}
use Rattle.root_log.specs.root_store.Crashes.{AllStand, IsFirstOf, IsMarkAfter, Storage, entries_of, none_begun}
use Rattle.root_log.specs.root_store.Roots.{PartIsThere, Stands}
use Rattle.root_log.proofs.RootStoreCrashMarks.{safe_stands}
use Rattle.root_log.proofs.RootCommitsStartedAgain.{started_again as one_again}
use Rattle.session.specs.replies.Foreseen.{history}
use Rattle.mt_program.specs.declared.status.Status.{Status}
use Rattle.mt_program.specs.Crashes.{LeavesForCrashes}
use Rattle.mt_program.specs.Courses.{Item, any_unsettles}
use Rattle.mt_program.specs.Headline.{Headline}
use Rattle.mt_program.specs.Worlds.{BeginsAfter, Starts, World}

-- ---- an empty disk

none_placed : (before : History) (e : Entry) (after : History) → [] ≡ before ++ e ∷ after → ⊥
none_placed [] e after is = cc
none_placed (b ∷ before) e after is = cc

empty_root : Stands [] []
empty_root = record {
  legal = tt;
  read = [];
  are = record { sound = All-nil IsRootName; spelled = refl };
  unmutated = λ part has. absurd (item_none (root_name.Part part) has);
  unaltered = λ table. refl;
  entries = λ p name is. absurd (none_placed p.before p.entry p.after p.is);
  no_other = λ n has of. absurd (item_none n has);
  parts = [];
  visible = λ part. (λ shown. absurd (item_none (root_name.Part part) shown.here), λ has. absurd (item_none part has));
  stand = λ table. record {
    own = All-nil (λ (p : CorePart). p.table ≡ table);
    each = All-nil (PartStands []);
    once = λ partition n of. let none : None ≡ Some _ = of.there in cc;
  };
  there = All-nil (PartIsThere [] []);
}

-- whatever a crash leaves of it is empty
pub empty_stands : (clock : ℕ) → AllStand [] clock []
empty_stands clock = record { stamped = refl; images = left }
  where
    left : (names : root.Names) → root.Image [] clock names → Stands names []
    left [] image = empty_root
    left (n ∷ names) image = absurd image

pub begins_empty : (w : World) (script : List ℕ) → w.storage.disk ≡ Some [] → w.storage.annals ≡ Some (none_begun []) → w.source ≡ Some script → w.sink ≡ Some [] → Starts w (none_begun []) script []
begins_empty w script disk annals source sink = record { told = []; disk_is = disk; annals_is = annals; stands = empty_root; source_is = source; sink_is = sink }

-- ---- after a run

-- no reply said that the commit of a command failed
pub starts_next : (ended : Status) (before after w : World) (kept : Told) (script written more said : List ℕ) (left : Headline ended before after kept script written) → any_unsettles left.course.ran left.course.replies ≡ false → BeginsAfter after w more said
    → Starts w left.now more said
starts_next ended before after w kept script written more said left calm begins =
    let root = left.settled calm in
    record { told = root.0; disk_is = begins.disk_is ∙ root.1; annals_is = begins.annals_is ∙ left.annals_is; stands = root.2; source_is = begins.source_is; sink_is = begins.sink_is }

-- the disk's count of faults is the one at opening
pub stands_calm : (statements : List Item) (opened : ℕ) (now : Storage) (first : Told) (start : ℕ) (left : LeavesForCrashes statements opened now first start) (told : root.Told) (kept : Told) → now.failed ≡ opened → now.disk ≡ Some told
    → now.annals ≡ Some kept → AllStand told now.clock (history kept)
stands_calm statements opened now first start left told kept still disk annals =
    let calm = left.calm still in
    let one : Some calm.told ≡ Some told = sym calm.disk_is ∙ disk in
    let two : Some calm.kept ≡ Some kept = sym calm.annals_is ∙ annals in
    let told_is : calm.told ≡ told = cc in
    let kept_is : calm.kept ≡ kept = cc in
    let stands : AllStand calm.told now.clock (entries_of calm.kept.list) = safe_stands calm.told now.clock calm.kept.list first.list start calm.settled in
    subst (λ (t : root.Told). AllStand t now.clock (history kept)) told_is (subst (λ (k : Told). AllStand calm.told now.clock (history k)) kept_is stands)

-- the changes of the disk stand in the order of their marks
pub stamped_still : (statements : List Item) (opened : ℕ) (now : Storage) (first : Told) (start : ℕ) (left : LeavesForCrashes statements opened now first start) (told : root.Told) → now.disk ≡ Some told → root.IsStamped now.clock told
stamped_still statements opened now first start left told disk =
    let one : Some left.safe.told ≡ Some told = sym left.safe.disk_is ∙ disk in
    let told_is : left.safe.told ≡ told = cc in
    subst (root.IsStamped now.clock) told_is left.safe.safe.stamped

-- ---- after a crash

-- annals with these entries
listed : History → List Noted
listed h = map (λ (e : Entry). record { entry = e; mark = 0 }) h

listed_are : (h : History) → entries_of (listed h) ≡ h
unfolding listed
listed_are [] = refl
listed_are (e ∷ h) = ap (λ (es : History). e ∷ es) (listed_are h)

pub started_again : (statements : List Item) (opened : ℕ) (now : Storage) (first : Told) (start m mark : ℕ) (left : LeavesForCrashes statements opened now first start) (again : root.Told) (later : ℕ)
    → IsMarkAfter (length first.list) start left.safe.kept.list m mark → root.IsStartedAgain left.safe.told now.clock mark again later
    → (kept : Told) × IsFirstOf m left.safe.kept.list left.safe.kept.begun (history kept) × AllStand again later (history kept)
started_again statements opened now first start m mark left again later after anew =
    let safe = left.safe in
    let goes = one_again safe.told again now.clock mark later anew m safe.kept.list safe.kept.begun first.list start safe.safe after in
    let same : history (none_begun (listed goes.0)) ≡ goes.0 = listed_are goes.0 in (
      none_begun (listed goes.0),
      subst (IsFirstOf m safe.kept.list safe.kept.begun) (sym same) goes.1,
      subst (AllStand again later) (sym same) goes.2,
    )
