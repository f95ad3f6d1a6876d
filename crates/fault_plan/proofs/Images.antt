-- An image of a disk is one that a crash may leave.
use Rattle.std.proofs.Common.{◌≡◌, inl, inr, ℕ, ◌+◌, ◌-◌, ◌<◌, ◌≤◌, nat_lt, ◌==◌, arith, Bool, true, false, cond, List, [], ◌∷◌, ◌++◌, append-nil, map, length, replicate, ◌/◌, refl, sym, ap, ◌∙◌, subst}
use Rattle.std.proofs.lemmas.Bool.{cases_Bool, cases_lt, cond-true, cond-false, cond_both, ltb-true, eqb-true, lt-ltb, le-ltb, eq-eqb, ne_eqb}
use Rattle.std.proofs.lemmas.List.{map-append}
use Rattle.std.proofs.lemmas.List.Elements.{filter-append}
use Rattle.std.specs.Ordering.{nat_cmp, match_ordering}
use Rattle.std.specs.declared.cmp.Ordering.{Ordering}
use Rattle.std.specs.declared.cmp.Ordering.TheVariants.{Less, Equal, Greater}
use Rattle.std.specs.Cmp.Lexicographic.{slice_cmp}
use Rattle.std.specs.Map.{remove_entry}
use Rattle.std.specs.BTreeMap.{insert_entry, is_at}
use Rattle.mt_base.specs.declared.name.FileId.{FileId}
use Rattle.mt_base.specs.Files.{same_file}
use Rattle.mt_outside.specs.declared.disk.Written.{Written}
use Rattle.mt_outside.specs.declared.disk.Stamped.{Stamped}
use Rattle.mt_outside.specs.declared.disk.Change.{Change}
use Rattle.mt_outside.specs.declared.disk.Change.TheVariants.{Publish, Remove}
use Rattle.mt_outside.specs.Files.{Files, bytes_of, is_synced}
use Rattle.mt_outside.specs.Disk.{Told, Names, AllBy, Image, IsStamped, IsStartedAgain, MayLead, MayBecome, Survive, changed, names_after, names_of, before_clock, at_clock}
use Rattle.mt_outside.proofs.Changes.{survive_same, before_clock-all, at_clock-none, left_at_all}
use Rattle.mt_outside.proofs.Crashes.{names_after-append, image_as_read, stamped_by}
use Rattle.fault_plan.specs.Images.{loses, has_happened, happened, lost_file, left_files, left_change, left_stamped, image_told}

-- a file without its bytes
abbrev zeros_of : Written → Written
zeros_of w = record { file = w.file; bytes = replicate (length w.bytes / 2) 0; synced = false }

pub kept_file : (w : Written) → w.synced ≡ true → lost_file w ≡ w
kept_file w is = cond-true w.synced w (zeros_of w) is

lost_file-file : (w : Written) → (lost_file w).file ≡ w.file
lost_file-file w = elim (cases_Bool w.synced) [ inl is ↦ ap (λ (v : Written). v.file) (kept_file w is) | inr isnt ↦ ap (λ (v : Written). v.file) (cond-false w.synced w (zeros_of w) isnt) ]

-- a synced file keeps its bytes
lost_bytes : (file : FileId) (files : Files) → is_synced file files ≡ true → bytes_of file (map lost_file files) ≡ bytes_of file files
lost_bytes file [] synced = refl
lost_bytes file (w ∷ ws) synced =
    elim (cases_Bool (same_file w.file file)) [
      | inl here ↦ (
          let is : w.synced ≡ true = sym (cond-true (same_file w.file file) w.synced (is_synced file ws) here) ∙ synced in
          ap (λ (v : Written). cond (same_file v.file file) v.bytes (bytes_of file (map lost_file ws))) (kept_file w is)
          ∙ (cond-true (same_file w.file file) w.bytes (bytes_of file (map lost_file ws)) here ∙ sym (cond-true (same_file w.file file) w.bytes (bytes_of file ws) here))
          )
      | inr later ↦ (
          let is : is_synced file ws ≡ true = sym (cond-false (same_file w.file file) w.synced (is_synced file ws) later) ∙ synced in
          let other : same_file (lost_file w).file file ≡ false = ap (λ (id : FileId). same_file id file) (lost_file-file w) ∙ later in
          cond-false (same_file (lost_file w).file file) (lost_file w).bytes (bytes_of file (map lost_file ws)) other
          ∙ (lost_bytes file ws is ∙ sym (cond-false (same_file w.file file) w.bytes (bytes_of file ws) later))
          )
    ]

-- a file counts as synced after a crash where it did before
lost_file-synced : (w : Written) → (lost_file w).synced ≡ w.synced
lost_file-synced w = elim (cases_Bool w.synced) [ inl is ↦ ap (λ (v : Written). v.synced) (kept_file w is) | inr isnt ↦ ap (λ (v : Written). v.synced) (cond-false w.synced w (zeros_of w) isnt) ∙ sym isnt ]

lost_synced : (file : FileId) (files : Files) → is_synced file (map lost_file files) ≡ is_synced file files
lost_synced file [] = refl
lost_synced file (w ∷ ws) =
    ap (λ (id : FileId). cond (same_file id file) (lost_file w).synced (is_synced file (map lost_file ws))) (lost_file-file w)
    ∙ (ap (λ (b : Bool). cond (same_file w.file file) b (is_synced file (map lost_file ws))) (lost_file-synced w)
    ∙ ap (λ (b : Bool). cond (same_file w.file file) w.synced b) (lost_synced file ws))

-- what the files of a folder may become after a crash, they might have become before it
left_become : (lose : Bool) (files new : Files) → MayBecome (left_files lose files) new → MayBecome files new
left_become true files new become = record { kept = λ file synced. become.kept file (lost_synced file files ∙ synced) ∙ lost_bytes file files synced }
left_become false files new become = become

-- names, each with its files after a crash
abbrev pub left_names : Bool → Names → Names
left_names lose names = map (λ (n : List ℕ × Files). (n.0, left_files lose n.1)) names

survive_left : (lose : Bool) (names to : Names) → Survive (left_names lose names) to → Survive names to
survive_left lose [] to kept = kept
survive_left lose (n ∷ names) [] kept = absurd kept
survive_left lose (n ∷ names) (m ∷ to) kept = (kept.0, left_become lose n.1 m.1 kept.1, survive_left lose names to kept.2)

-- the same choice on both sides
left_ordered : (o : Ordering) (lose : Bool) (a b c : Names) → match_ordering o (left_names lose a) (left_names lose b) (left_names lose c) ≡ left_names lose (match_ordering o a b c)
left_ordered Less lose a b c = refl
left_ordered Equal lose a b c = refl
left_ordered Greater lose a b c = refl

left_cond : (b : Bool) (lose : Bool) (a c : Names) → cond b (left_names lose a) (left_names lose c) ≡ left_names lose (cond b a c)
left_cond true lose a c = refl
left_cond false lose a c = refl

-- a publish of the files as they are after the crash
left_insert : (lose : Bool) (names : Names) (name : List ℕ) (files : Files)
    → insert_entry (slice_cmp nat_cmp) (left_names lose names) name (left_files lose files) ≡ left_names lose (insert_entry (slice_cmp nat_cmp) names name files)
left_insert lose [] name files = refl
left_insert lose (n ∷ names) name files =
    ap (λ (rest : Names). match_ordering (slice_cmp nat_cmp name n.0) ((name, left_files lose files) ∷ left_names lose (n ∷ names)) ((n.0, left_files lose files) ∷ left_names lose names) ((n.0, left_files lose n.1) ∷ rest))
    (left_insert lose names name files)
    ∙ left_ordered (slice_cmp nat_cmp name n.0) lose ((name, files) ∷ n ∷ names) ((n.0, files) ∷ names) (n ∷ insert_entry (slice_cmp nat_cmp) names name files)

left_remove : (lose : Bool) (names : Names) (name : List ℕ) → remove_entry (is_at (slice_cmp nat_cmp name)) (left_names lose names) ≡ left_names lose (remove_entry (is_at (slice_cmp nat_cmp name)) names)
left_remove lose [] name = refl
left_remove lose (n ∷ names) name =
    ap (λ (rest : Names). cond (is_at (slice_cmp nat_cmp name) n.0) (left_names lose names) ((n.0, left_files lose n.1) ∷ rest)) (left_remove lose names name)
    ∙ left_cond (is_at (slice_cmp nat_cmp name) n.0) lose names (n ∷ remove_entry (is_at (slice_cmp nat_cmp name)) names)

left_changed : (lose : Bool) (names : Names) (change : Change Files) → changed (left_names lose names) (left_change lose change) ≡ left_names lose (changed names change)
left_changed lose names (Publish name files) = left_insert lose names name files
left_changed lose names (Remove name) = left_remove lose names name

left_after : (lose : Bool) (names : Names) (ss : Told) → names_after (left_names lose names) (map (left_stamped lose) ss) ≡ left_names lose (names_after names ss)
left_after lose names [] = refl
left_after lose names (s ∷ ss) = ap (λ (ns : Names). names_after ns (map (left_stamped lose) ss)) (left_changed lose names s.change) ∙ left_after lose (changed names s.change) ss

-- an image has the names that the changes which happened make, each with its files after the crash
pub image_names : (choice clock : ℕ) (told : Told)
    → names_of (image_told choice clock told) ≡ left_names (loses choice) (names_after (names_after [] (before_clock clock told)) (happened choice 0 (at_clock clock told)))
image_names choice clock told =
    let settled : Told = before_clock clock told in
    let rest : Told = happened choice 0 (at_clock clock told) in
    left_after (loses choice) [] (settled ++ rest) ∙ ap (left_names (loses choice)) (names_after-append [] settled rest)

-- ---- the marks of an image

-- each of the changes is stamped with such a mark
abbrev Each : (ℕ → Type 0) → Told → Type 0
Each P [] = Unit {0}
Each P (s ∷ ss) = P s.clock × Each P ss

each_cond : (P : ℕ → Type 0) (b : Bool) (s : Stamped Files) (ss : Told) → (b ≡ true → P s.clock) → Each P ss → Each P (cond b (s ∷ ss) ss)
each_cond P b s ss here rest = cond_both b (s ∷ ss) ss (Each P) (λ is. (here is, rest)) (λ isnt. rest)

each_before : (clock : ℕ) (told : Told) → Each (λ mark. mark < clock) (before_clock clock told)
each_before clock [] = tt
each_before clock (s ∷ ss) = each_cond (λ mark. mark < clock) (nat_lt s.clock clock) s (before_clock clock ss) (λ is. ltb-true s.clock clock is) (each_before clock ss)

each_at : (clock : ℕ) (told : Told) → Each (λ mark. mark ≡ clock) (at_clock clock told)
each_at clock [] = tt
each_at clock (s ∷ ss) = each_cond (λ mark. mark ≡ clock) (s.clock == clock) s (at_clock clock ss) (λ is. eqb-true s.clock clock is) (each_at clock ss)

each_happened : (P : ℕ → Type 0) (choice number : ℕ) (ss : Told) → Each P ss → Each P (happened choice number ss)
each_happened P choice number [] each = tt
each_happened P choice number (s ∷ ss) each =
    each_cond P (has_happened choice number) s (happened choice (number + 1) ss) (λ did. each.0) (each_happened P choice (number + 1) ss each.1)

each_left : (P : ℕ → Type 0) (lose : Bool) (ss : Told) → Each P ss → Each P (map (left_stamped lose) ss)
each_left P lose [] each = tt
each_left P lose (s ∷ ss) each = (each.0, each_left P lose ss each.1)

-- the settled changes of an image, and the others
each_settled : (choice clock : ℕ) (told : Told) → Each (λ mark. mark < clock) (map (left_stamped (loses choice)) (before_clock clock told))
each_settled choice clock told = each_left (λ mark. mark < clock) (loses choice) (before_clock clock told) (each_before clock told)

each_rest : (choice clock : ℕ) (told : Told) → Each (λ mark. mark ≡ clock) (map (left_stamped (loses choice)) (happened choice 0 (at_clock clock told)))
each_rest choice clock told =
    each_left (λ mark. mark ≡ clock) (loses choice) (happened choice 0 (at_clock clock told)) (each_happened (λ mark. mark ≡ clock) choice 0 (at_clock clock told) (each_at clock told))

-- changes before a mark, and changes at it
before_all : (clock : ℕ) (ss : Told) → Each (λ mark. mark < clock) ss → before_clock clock ss ≡ ss
before_all clock [] each = refl
before_all clock (s ∷ ss) each = cond-true (nat_lt s.clock clock) (s ∷ before_clock clock ss) (before_clock clock ss) (lt-ltb s.clock clock each.0) ∙ ap (λ (rest : Told). s ∷ rest) (before_all clock ss each.1)

before_none : (clock : ℕ) (ss : Told) → Each (λ mark. mark ≡ clock) ss → before_clock clock ss ≡ []
before_none clock [] each = refl
before_none clock (s ∷ ss) each =
    cond-false (nat_lt s.clock clock) (s ∷ before_clock clock ss) (before_clock clock ss) (le-ltb s.clock clock (omega (arith, each.0))) ∙ before_none clock ss each.1

at_all : (clock : ℕ) (ss : Told) → Each (λ mark. mark ≡ clock) ss → at_clock clock ss ≡ ss
at_all clock [] each = refl
at_all clock (s ∷ ss) each = cond-true (s.clock == clock) (s ∷ at_clock clock ss) (at_clock clock ss) (eq-eqb s.clock clock each.0) ∙ ap (λ (rest : Told). s ∷ rest) (at_all clock ss each.1)

at_none : (clock : ℕ) (ss : Told) → Each (λ mark. mark < clock) ss → at_clock clock ss ≡ []
at_none clock [] each = refl
at_none clock (s ∷ ss) each =
    cond-false (s.clock == clock) (s ∷ at_clock clock ss) (at_clock clock ss) (ne_eqb s.clock clock (λ same. omega (arith, each.0, same))) ∙ at_none clock ss each.1

-- what is settled of an image is what was, and the rest is what happened of the rest
image_before : (choice clock : ℕ) (told : Told) → before_clock clock (image_told choice clock told) ≡ map (left_stamped (loses choice)) (before_clock clock told)
image_before choice clock told =
    let settled : Told = map (left_stamped (loses choice)) (before_clock clock told) in
    let rest : Told = map (left_stamped (loses choice)) (happened choice 0 (at_clock clock told)) in
    ap (before_clock clock) (map-append (left_stamped (loses choice)) (before_clock clock told) (happened choice 0 (at_clock clock told)))
    ∙ (filter-append (λ (s : Stamped Files). nat_lt s.clock clock) settled rest
    ∙ (ap (λ (ss : Told). ss ++ before_clock clock rest) (before_all clock settled (each_settled choice clock told))
    ∙ (ap (λ (ss : Told). settled ++ ss) (before_none clock rest (each_rest choice clock told)) ∙ append-nil settled)))

image_at : (choice clock : ℕ) (told : Told) → at_clock clock (image_told choice clock told) ≡ map (left_stamped (loses choice)) (happened choice 0 (at_clock clock told))
image_at choice clock told =
    let settled : Told = map (left_stamped (loses choice)) (before_clock clock told) in
    let rest : Told = map (left_stamped (loses choice)) (happened choice 0 (at_clock clock told)) in
    ap (at_clock clock) (map-append (left_stamped (loses choice)) (before_clock clock told) (happened choice 0 (at_clock clock told)))
    ∙ (filter-append (λ (s : Stamped Files). s.clock == clock) settled rest
    ∙ (ap (λ (ss : Told). ss ++ at_clock clock rest) (at_none clock settled (each_settled choice clock told)) ∙ at_all clock rest (each_rest choice clock told)))

-- an image is stamped with marks up to the old one, in their order
image_stamped : (choice clock : ℕ) (told : Told) → IsStamped clock (image_told choice clock told)
image_stamped choice clock told =
    rw (image_before choice clock told, image_at choice clock told) (map-append (left_stamped (loses choice)) (before_clock clock told) (happened choice 0 (at_clock clock told)))

all_by_up : (clock m : ℕ) (ss : Told) → clock ≤ m → AllBy clock ss → AllBy m ss
all_by_up clock m [] up by = tt
all_by_up clock m (s ∷ ss) up by = (omega (arith, up, by.0), all_by_up clock m ss up by.1)

pub image_by : (choice clock m : ℕ) (told : Told) → clock ≤ m → AllBy m (image_told choice clock told)
image_by choice clock m told up =
    let image : Told = image_told choice clock told in
    all_by_up clock m image up (stamped_by image clock (image_stamped choice clock told))

-- ---- what a crash may leave of an image

-- of the changes that happened, each may have happened or not
lead_again : (lose : Bool) (choice number : ℕ) (from to : Names) (ss : Told) → MayLead (left_names lose from) (map (left_stamped lose) (happened choice number ss)) to → MayLead from ss to
lead_again lose choice number from to [] kept = survive_left lose from to kept
lead_again lose choice number from to (s ∷ ss) leads =
    let later : Told = happened choice (number + 1) ss in
    elim (cases_Bool (has_happened choice number)) [
      | inl did ↦ elim (subst (λ (all : Told). MayLead (left_names lose from) (map (left_stamped lose) all) to) (cond-true (has_happened choice number) (s ∷ later) later did) leads) [
        | inl without ↦ inl (lead_again lose choice (number + 1) from to ss without)
        | inr done ↦ inr (
            lead_again lose choice (number + 1) (changed from s.change) to ss
            (subst (λ (names : Names). MayLead names (map (left_stamped lose) later) to) (left_changed lose from s.change) done)
            )
      ]
      | inr didnt ↦ inl (
          lead_again lose choice (number + 1) from to ss
          (subst (λ (all : Told). MayLead (left_names lose from) (map (left_stamped lose) all) to) (cond-false (has_happened choice number) (s ∷ later) later didnt) leads)
          )
    ]

-- a crash of an image leaves nothing else at the same mark
image_at_once : (choice clock : ℕ) (told : Told) (names : Names) → Image (image_told choice clock told) clock names → Image told clock names
image_at_once choice clock told names image =
    let here = rw (image_before choice clock told, image_at choice clock told, left_after (loses choice) [] (before_clock clock told)) at image in
    lead_again (loses choice) choice 0 (names_after [] (before_clock clock told)) names (at_clock clock told) here

-- what a crash may do to the files of an image, a crash of the first disk may do
image_survives : (choice clock : ℕ) (told : Told) (names : Names) → Survive (names_of (image_told choice clock told)) names → Image told clock names
image_survives choice clock told names kept =
    image_at_once choice clock told names (image_as_read (image_told choice clock told) clock names (image_stamped choice clock told) kept)

-- what an image tells, a crash may leave
pub image_leads : (choice clock : ℕ) (told : Told) → Image told clock (names_of (image_told choice clock told))
image_leads choice clock told = image_survives choice clock told (names_of (image_told choice clock told)) (survive_same (names_of (image_told choice clock told)))

-- an image of an image is one of the first disk
pub image_again : (told : Told) (clock choice later : ℕ) (names : Names) → clock ≤ later → Image (image_told choice clock told) later names → Image told clock names
image_again told clock choice later names up image =
    elim (cases_lt clock later) [
      | inl above ↦ (
          let all : Told = image_told choice clock told in
          let next : later ≡ later - 1 + 1 = omega arith in
          let by : AllBy (later - 1) all = image_by choice clock (later - 1) told (omega arith) in
          let settled : Image all (later - 1 + 1) names = subst (λ (mark : ℕ). Image all mark names) next image in
          image_survives choice clock told names (rw (before_clock-all all (later - 1) by, at_clock-none all (later - 1) by) at settled)
          )
      | inr within ↦ (
          let same : later ≡ clock = omega arith in
          image_at_once choice clock told names (subst (λ (mark : ℕ). Image (image_told choice clock told) mark names) same image)
          )
    ]

-- an image, with the mark one above, is the disk started again
pub started_again : (told : Told) (clock choice since : ℕ) → since ≤ clock → IsStartedAgain told clock since (image_told choice clock told) (clock + 1)
started_again told clock choice since past =
    let now = image_told choice clock told in
    let by = image_by choice clock clock told (omega arith) in
    record {
      stamped = rw (before_clock-all now clock by, at_clock-none now clock by) (sym (append-nil now));
      settled = at_clock-none now clock by;
      images = λ names image. (clock, length (at_clock clock told), past, omega arith, left_at_all told clock names (image_again told clock choice (clock + 1) names (omega arith) image));
    }
