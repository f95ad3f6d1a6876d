-- What crashes leave under one name.
use Rattle.std.proofs.Common.{◌≡◌, ◌⊎◌, inl, inr, ℕ, zero, suc, ◌+◌, ◌-◌, ◌<◌, ◌≤◌, Bool, true, false, cond, All, List, [], ◌∷◌, ◌++◌, length, take, filter, Option, Some, None, IsSomeAnd, refl, sym, ap, ◌∙◌, subst, arith, append_assoc, append-nil, nat_lt, ◌==◌}
use Rattle.std.specs.Ordering.{nat_cmp}
use Rattle.std.specs.BTreeMap.{is_at}
use Rattle.std.specs.Cmp.Lexicographic.{slice_cmp}
use Rattle.std.proofs.lemmas.Bool.{cases_lt, cond-false, le-ltb}
use Rattle.std.proofs.lemmas.List.Elements.{All-head, All-tail, filter-append}
use Rattle.mt_base.specs.declared.name.FileId.{FileId}
use Rattle.mt_base.specs.Files.{same_file}
use Rattle.mt_outside.specs.declared.disk.Written.{Written}
use Rattle.mt_outside.specs.declared.disk.Stamped.{Stamped}
use Rattle.mt_outside.specs.declared.disk.Change.{Change}
use Rattle.mt_outside.specs.declared.disk.Change.TheVariants.{Publish}
use Rattle.mt_outside.specs.Files.{Files, bytes_of, is_synced}
use Rattle.mt_outside.specs.Disk.{AllBy, Image, LeftAt, MayBecome, MayLead, Names, Since, Survive, Told, at_clock, before_clock, changed, files_at, names_after, with_change}
use Rattle.mt_outside.proofs.Changes.{at_clock-none, at_clock-with_change, before_clock-all, before_clock-with_change, lead_none, left_at_all, names_after_last, survive_same}
use Rattle.mt_outside.proofs.Crashes.{all_by-append, names_after-append}
use Rattle.stage_dir.specs.Stages.{AreSealed}
use Rattle.stage_dir.specs.Crashes.{AreOfOthers, HoldsExactly, IsOfOther, WasPublished}
use Rattle.stage_dir.proofs.Lookups.{other_kept, published_at}

-- ---- one name among others

-- the folder of a name as a crash may leave it
abbrev pub KeptAs : Option Files → Option Files → Type 0
KeptAs None None = Unit {0}
KeptAs None (Some new) = ⊥
KeptAs (Some old) None = ⊥
KeptAs (Some old) (Some new) = MayBecome old new

survive_at : (name : List ℕ) (from to : Names) → Survive from to → KeptAs (files_at name from) (files_at name to)
survive_at name [] [] kept = tt
survive_at name [] (n ∷ to) kept = absurd kept
survive_at name (o ∷ from) [] kept = absurd kept
survive_at name (o ∷ from) (n ∷ to) kept = by (survive_at name from to kept.2) (is_at (slice_cmp nat_cmp name) o.0) refl
  where
    by : KeptAs (files_at name from) (files_at name to) → (b : Bool) → is_at (slice_cmp nat_cmp name) o.0 ≡ b → KeptAs (files_at name (o ∷ from)) (files_at name (n ∷ to))
    by rest true e = let too : is_at (slice_cmp nat_cmp name) n.0 ≡ true = ap (is_at (slice_cmp nat_cmp name)) (sym kept.0) ∙ e in rw (e, too) kept.1
    by rest false e = let too : is_at (slice_cmp nat_cmp name) n.0 ≡ false = ap (is_at (slice_cmp nat_cmp name)) (sym kept.0) ∙ e in rw (e, too) rest

-- changes of other names lead to the same folder, as a crash may leave it
lead_others : (clock : ℕ) (name : List ℕ) (from to : Names) (ss : Told) → AreOfOthers clock name ss → MayLead from ss to → KeptAs (files_at name from) (files_at name to)
lead_others clock name from to [] others leads = survive_at name from to leads
lead_others clock name from to (s ∷ ss) others (inl leads) = lead_others clock name from to ss others.2 leads
lead_others clock name from to (s ∷ ss) others (inr leads) =
    subst (λ (o : Option Files). KeptAs o (files_at name to)) (other_kept name s.change from others.1) (lead_others clock name (changed from s.change) to ss others.2 leads)

after_others : (clock : ℕ) (name : List ℕ) (names : Names) (ss : Told) → AreOfOthers clock name ss → files_at name (names_after names ss) ≡ files_at name names
after_others clock name names [] others = refl
after_others clock name names (s ∷ ss) others = after_others clock name (changed names s.change) ss others.2 ∙ other_kept name s.change names others.1

-- ---- some of the changes of others

others-filter : (p : Stamped Files → Bool) (clock : ℕ) (name : List ℕ) (ss : Told) → AreOfOthers clock name ss → AreOfOthers clock name (filter p ss)
others-filter p clock name [] others = tt
others-filter p clock name (s ∷ ss) others = by (others-filter p clock name ss others.2) (p s)
  where
    by : AreOfOthers clock name (filter p ss) → (b : Bool) → AreOfOthers clock name (cond b (s ∷ filter p ss) (filter p ss))
    by rest true = (others.0, others.1, rest)
    by rest false = rest

others-take : (n clock : ℕ) (name : List ℕ) (ss : Told) → AreOfOthers clock name ss → AreOfOthers clock name (take n ss)
others-take zero clock name ss others = tt
others-take (suc n) clock name [] others = tt
others-take (suc n) clock name (s ∷ ss) others = (others.0, others.1, others-take n clock name ss others.2)

others-append : (clock : ℕ) (name : List ℕ) (xs ys : Told) → AreOfOthers clock name xs → AreOfOthers clock name ys → AreOfOthers clock name (xs ++ ys)
others-append clock name [] ys others more = more
others-append clock name (x ∷ xs) ys others more = (others.0, others.1, others-append clock name xs ys others.2 more)

-- none of them was made before the mark
others-before : (clock : ℕ) (name : List ℕ) (ss : Told) → AreOfOthers clock name ss → before_clock clock ss ≡ []
others-before clock name [] others = refl
others-before clock name (s ∷ ss) others = cond-false (nat_lt s.clock clock) (s ∷ before_clock clock ss) (before_clock clock ss) (le-ltb s.clock clock others.0) ∙ others-before clock name ss others.2

-- what is not there a crash does not make
none_kept : (o : Option Files) → KeptAs None o → o ≡ None
none_kept None kept = refl
none_kept (Some files) kept = absurd kept

lead_absent : (clock : ℕ) (name : List ℕ) (from to : Names) (ss : Told) → AreOfOthers clock name ss → files_at name from ≡ None → MayLead from ss to → files_at name to ≡ None
lead_absent clock name from to ss others none leads = none_kept (files_at name to) (subst (λ (o : Option Files). KeptAs o (files_at name to)) none (lead_others clock name from to ss others leads))

-- a name that nothing published is not there
pub never_there : (told : Told) (clock : ℕ) (name : List ℕ) (names : Names) → AreOfOthers 0 name told → Image told clock names → files_at name names ≡ None
never_there told clock name names others image =
    lead_absent 0 name (names_after [] (before_clock clock told)) names (at_clock clock told) (others-filter (λ (s : Stamped Files). s.clock == clock) 0 name told others)
    (after_others 0 name [] (before_clock clock told) (others-filter (λ (s : Stamped Files). nat_lt s.clock clock) 0 name told others))
    image

-- ---- sealed files

synced_all : (files : Files) (file : FileId) → All (λ (w : Written). w.synced ≡ true) files → is_synced file files ≡ true
synced_all [] file all = refl
synced_all (w ∷ ws) file all = by (All-head (λ (v : Written). v.synced ≡ true) w ws all) (synced_all ws file (All-tail (λ (v : Written). v.synced ≡ true) w ws all)) (same_file w.file file)
  where
    by : w.synced ≡ true → is_synced file ws ≡ true → (b : Bool) → cond b w.synced (is_synced file ws) ≡ true
    by here rest true = here
    by here rest false = rest

pub is_synced-sealed : (files : Files) (file : FileId) → AreSealed files → is_synced file files ≡ true
is_synced-sealed files file sealed = synced_all files file sealed.synced

-- sealed files keep their bytes
holds_kept : (name : List ℕ) (files : Files) (names : Names) → AreSealed files → KeptAs (Some files) (files_at name names) → HoldsExactly name files names
holds_kept name files names sealed kept = by (files_at name names) kept
  where
    by : (o : Option Files) → KeptAs (Some files) o → IsSomeAnd o (λ found. (file : FileId) → bytes_of file found ≡ bytes_of file files)
    by None k = absurd k
    by (Some found) k = λ file. k.kept file (is_synced-sealed files file sealed)

lead_holds : (clock : ℕ) (name : List ℕ) (files : Files) (from to : Names) (ss : Told) → AreSealed files → AreOfOthers clock name ss → files_at name from ≡ Some files → MayLead from ss to → HoldsExactly name files to
lead_holds clock name files from to ss sealed others there leads = holds_kept name files to sealed (subst (λ (o : Option Files). KeptAs o (files_at name to)) there (lead_others clock name from to ss others leads))

-- ---- marks

all_by-later : (told : Told) (mark later : ℕ) → mark ≤ later → AllBy mark told → AllBy later told
all_by-later [] mark later le by = tt
all_by-later (s ∷ ss) mark later le by = (omega (arith, by.0), all_by-later ss mark later le by.1)

-- ---- published files

module _ (before : Told) (clock : ℕ) (name : List ℕ) (files : Files) (now : Told) (was : WasPublished before clock name files now) where
  -- one more change of another name
  pub after_change : (mark : ℕ) (change : Change Files) → clock ≤ mark → IsOfOther name change → WasPublished before clock name files (with_change mark change now)
  after_change mark change later other =
      record {
        marks = was.marks;
        sealed = was.sealed;
        since = was.since ++ record { clock = mark; change = change } ∷ [];
        others = others-append clock name was.since (record { clock = mark; change = change } ∷ []) was.others (later, other, tt);
        told = ap (with_change mark change) was.told ∙ append_assoc (with_change clock (Publish name files) before) was.since (record { clock = mark; change = change } ∷ []);
      }

  first : Told
  first = with_change clock (Publish name files) before

  first_by : (mark : ℕ) → clock ≤ mark → AllBy mark first
  unfolding first
  first_by mark later = all_by-append before (record { clock = clock; change = Publish name files } ∷ []) mark (all_by-later before clock mark later was.marks) (later, tt)

  first_there : files_at name (names_after [] first) ≡ Some files
  unfolding first
  first_there = ap (files_at name) (names_after_last [] before (record { clock = clock; change = Publish name files })) ∙ published_at name files (names_after [] before)

  -- above the mark the publish has happened
  before_later : (mark : ℕ) → clock ≤ mark → before_clock (mark + 1) now ≡ first ++ before_clock (mark + 1) was.since
  unfolding first
  before_later mark later =
      ap (before_clock (mark + 1)) was.told ∙ filter-append (λ (s : Stamped Files). nat_lt s.clock (mark + 1)) first was.since
      ∙ ap (λ (ss : Told). ss ++ before_clock (mark + 1) was.since) (before_clock-all first mark (first_by mark later))

  at_later : (mark : ℕ) → clock ≤ mark → at_clock (mark + 1) now ≡ at_clock (mark + 1) was.since
  unfolding first
  at_later mark later =
      ap (at_clock (mark + 1)) was.told ∙ filter-append (λ (s : Stamped Files). s.clock == mark + 1) first was.since
      ∙ ap (λ (ss : Told). ss ++ at_clock (mark + 1) was.since) (at_clock-none first mark (first_by mark later))

  left_later : (mark n : ℕ) (names : Names) → clock ≤ mark → LeftAt now (mark + 1) n names → HoldsExactly name files names
  left_later mark n names later left =
      let settled_then : AreOfOthers clock name (before_clock (mark + 1) was.since) = others-filter (λ (s : Stamped Files). nat_lt s.clock (mark + 1)) clock name was.since was.others in
      let there : files_at name (names_after [] (before_clock (mark + 1) now)) ≡ Some files =
      ap (λ (ss : Told). files_at name (names_after [] ss)) (before_later mark later)
      ∙ ap (files_at name) (names_after-append [] first (before_clock (mark + 1) was.since))
      ∙ after_others clock name (names_after [] first) (before_clock (mark + 1) was.since) settled_then ∙ first_there in
      let others : AreOfOthers clock name (take n (at_clock (mark + 1) now)) =
      others-take n clock name (at_clock (mark + 1) now) (subst (AreOfOthers clock name) (sym (at_later mark later)) (others-filter (λ (s : Stamped Files). s.clock == mark + 1) clock name was.since was.others)) in
      lead_holds clock name files (names_after [] (before_clock (mark + 1) now)) names (take n (at_clock (mark + 1) now)) was.sealed others there left

  -- the name has its files at each moment above the mark
  pub left_above : (c n : ℕ) (names : Names) → clock < c → LeftAt now c n names → HoldsExactly name files names
  left_above c n names above left =
      let mark : c ≡ (c - 1) + 1 = omega arith in
      left_later (c - 1) n names (omega arith) (subst (λ (m : ℕ). LeftAt now m n names) mark left)

  -- at the mark the publish is one of the changes that may have happened
  before_now : before_clock clock now ≡ before_clock clock before
  before_now =
      ap (before_clock clock) was.told ∙ filter-append (λ (s : Stamped Files). nat_lt s.clock clock) (with_change clock (Publish name files) before) was.since
      ∙ ap (λ (ss : Told). before_clock clock (with_change clock (Publish name files) before) ++ ss) (others-before clock name was.since was.others)
      ∙ append-nil (before_clock clock (with_change clock (Publish name files) before))
      ∙ before_clock-with_change before clock clock (Publish name files) (omega arith)

  at_now : at_clock clock now ≡ at_clock clock before ++ record { clock = clock; change = Publish name files } ∷ at_clock clock was.since
  at_now =
      ap (at_clock clock) was.told ∙ filter-append (λ (s : Stamped Files). s.clock == clock) (with_change clock (Publish name files) before) was.since
      ∙ ap (λ (ss : Told). ss ++ at_clock clock was.since) (at_clock-with_change before clock (Publish name files))
      ∙ append_assoc (at_clock clock before) (record { clock = clock; change = Publish name files } ∷ []) (at_clock clock was.since)

  -- of some first changes, the publish is among them or not
  lead_now : (from to : Names) (n : ℕ) (xs ys : Told) → AreOfOthers clock name ys → ((old : Names) → MayLead from xs old → files_at name old ≡ None)
      → MayLead from (take n (xs ++ record { clock = clock; change = Publish name files } ∷ ys)) to → (files_at name to ≡ None) ⊎ HoldsExactly name files to
  lead_now from to zero xs ys others absent leads =
      inl (lead_absent clock name from to [] tt (absent from (lead_none from from xs (survive_same from))) leads)
  lead_now from to (suc n) [] ys others absent (inl leads) = inl (lead_absent clock name from to (take n ys) (others-take n clock name ys others) (absent from (survive_same from)) leads)
  lead_now from to (suc n) [] ys others absent (inr leads) =
      inr (lead_holds clock name files (changed from (Publish name files)) to (take n ys) was.sealed (others-take n clock name ys others) (published_at name files from) leads)
  lead_now from to (suc n) (x ∷ xs) ys others absent (inl leads) = lead_now from to n xs ys others (λ old l. absent old (inl l)) leads
  lead_now from to (suc n) (x ∷ xs) ys others absent (inr leads) = lead_now (changed from x.change) to n xs ys others (λ old l. absent old (inr l)) leads

  -- the name has its files or is not there at each moment of the mark
  pub left_at : (n : ℕ) (names : Names) → ((old : Names) → Image before clock old → files_at name old ≡ None) → LeftAt now clock n names → (files_at name names ≡ None) ⊎ HoldsExactly name files names
  left_at n names absent left =
      lead_now (names_after [] (before_clock clock before)) names n (at_clock clock before) (at_clock clock was.since) (others-filter (λ (s : Stamped Files). s.clock == clock) clock name was.since was.others) absent
      (subst (λ (ss : Told). MayLead (names_after [] (before_clock clock before)) (take n ss) names) at_now (subst (λ (ss : Told). MayLead (names_after [] ss) (take n (at_clock clock now)) names) before_now left))

  pub since_above : (mark : ℕ) (names : Names) → Since now mark (clock + 1) names → HoldsExactly name files names
  since_above mark names left = left_above left.0 left.1 names (omega (arith, left.2)) left.4

  pub since_at : (mark : ℕ) (names : Names) → ((old : Names) → Image before clock old → files_at name old ≡ None) → Since now mark clock names → (files_at name names ≡ None) ⊎ HoldsExactly name files names
  since_at mark names absent left =
      elim (cases_lt clock left.0) [
        | inl above ↦ inr (left_above left.0 left.1 names above left.4)
        | inr within ↦ (
            let same : left.0 ≡ clock = omega (arith, left.2) in
            left_at left.1 names absent (subst (λ (m : ℕ). LeftAt now m left.1 names) same left.4)
            )
      ]

  pub image_above : (mark : ℕ) (names : Names) → clock < mark → Image now mark names → HoldsExactly name files names
  image_above mark names above image = left_above mark (length (at_clock mark now)) names above (left_at_all now mark names image)
