-- What crashes leave, as commands are published, settled and noted.
use Rattle.std.proofs.Common.{◌≡◌, ◌⊎◌, inl, inr, ℕ, ◌+◌, ◌≤◌, List, [], ◌∷◌, ◌++◌, length, take, slice_get, Some, None, refl, sym, ap, ◌∙◌, subst, append_assoc, length-append}
use Rattle.std.specs.BTreeMap.{insert_entry}
use Rattle.std.specs.Cmp.Lexicographic.{slice_cmp}
use Rattle.std.specs.Ordering.{nat_cmp}
use Rattle.std.proofs.lemmas.Bool.{cases_lt}
use Rattle.std.proofs.lemmas.List.{length-map, map_push, take-append-le}
use Rattle.std.proofs.lemmas.Option.{slice_get_within}
use Rattle.mt_values.specs.declared.annals.Noted.{Noted}
use Rattle.mt_values.specs.declared.command.Entry.{Entry}
use Rattle.mt_values.specs.Annals.{began}
use Rattle.mt_outside.specs.declared.disk.Change.TheVariants.{Publish}
use Rattle.mt_outside.specs.Disk.{Image, LeftAt, MayBecome, MayLead, Names, Since, Told, WithPublished, names_after, with_change}
use Rattle.mt_outside.specs.Files.{Files}
use Rattle.mt_outside.proofs.Changes.{before_clock-with_change, since-sync, since-with_change}
use Rattle.mt_outside.proofs.Crashes.{image_published, stamped_change, stamped_sync}
use Rattle.root_store.specs.Crashes.{HoldsFirst, IsCrashSafe, IsFirstOf, IsMarkAfter, entries_of, none_begun}
use Rattle.root_store.specs.Roots.{Stands}
use Rattle.root_store.proofs.CrashMarks.{all_entries, begun_too, image_is_since, last_place, no_shorter, now_is_image, one_more, safe_stands, same_least, slice_get-append_front, slice_get-append_seam, some_one, within_list}
use Rattle.root_commits.proofs.CrashImages.{settled_with_it, with_it}

module _ (told : Told) (clock : ℕ) (list first : List Noted) (start : ℕ) (safe : IsCrashSafe told clock (none_begun list) first start) where
  abbrev base : ℕ
  base = length first

  least : base ≤ length list
  least = no_shorter first list safe.begins

  -- a name is published whose command makes of whatever a crash could leave, which stands for the list, what stands for it with the command
  module _ (name : List ℕ) (files : Files) (e : Entry)
      (grows : (old : Names) (left : Files) → Image told clock old → MayBecome files left → Stands (insert_entry (slice_cmp nat_cmp) old name left) (entries_of list ++ e ∷ [])) where
    abbrev published : Told
    published = with_change clock (Publish name files) told

    after_it : (names : Names) → WithPublished (Image told clock) name files names → Stands names (entries_of list ++ e ∷ [])
    after_it names w = with_it told clock (entries_of list) (entries_of list ++ e ∷ []) (safe_stands told clock list first start safe) name files grows names w

    after_sync : (names : Names) → Image published (clock + 1) names → Stands names (entries_of list ++ e ∷ [])
    after_sync names image = settled_with_it told clock (entries_of list) (entries_of list ++ e ∷ []) (safe_stands told clock list first start safe) name files grows names image

    -- what was settled at the start is so still
    same_start : (names : Names) → LeftAt published start 0 names → Stands names (entries_of first)
    same_start names left =
        let past : start ≤ clock = safe.past base start (inl (refl, refl)) in
        safe.at_start names (subst (λ (settled : Told). MayLead (names_after [] settled) [] names) (before_clock-with_change told start clock (Publish name files) past) left)

    -- the command is begun
    pub safe_published : IsCrashSafe published clock (began e (none_begun list)) first start
    safe_published = record {
      stamped = stamped_change told clock (Publish name files) safe.stamped;
      begins = safe.begins;
      at_start = same_start;
      past = safe.past;
      images = λ m mark names after left. elim (since-with_change told clock mark (Publish name files) names left) [
        | inl old ↦ begun_too m list (Some e) names (safe.images m mark names after old)
        | inr image ↦ elim (image_published told clock name files names image) [
          | inl was ↦ begun_too m list (Some e) names (safe.images m mark names after (image_is_since told clock mark names (safe.past m mark after) was))
          | inr new ↦ (entries_of list ++ e ∷ [], inr (e, refl, refl), after_it names new)
        ]
      ];
    }

    abbrev last : Noted
    last = record { entry = e; mark = clock + 1 }

    entries_last : entries_of (list ++ last ∷ []) ≡ entries_of list ++ e ∷ []
    entries_last = map_push (λ (n : Noted). n.entry) list last

    count_last : length (list ++ last ∷ []) ≡ length list + 1
    count_last = length-append list (last ∷ [])

    -- the mark after entries of the longer list: it is the new one's, or the old list has it
    after_last : (m mark : ℕ) → IsMarkAfter base start (list ++ last ∷ []) m mark → IsMarkAfter base start list m mark ⊎ ((m ≡ length list + 1) × (mark ≡ clock + 1))
    after_last m mark (inl first) = inl (inl first)
    after_last m mark (inr later) = elim (cases_lt later.0 (length list)) [
      | inl old ↦ inl (inr (later.0, later.1, later.2, later.3, sym (slice_get-append_front list (last ∷ []) later.0 old) ∙ later.4, later.5))
      | inr new ↦ (
          let within = slice_get_within (list ++ last ∷ []) later.0 later.1 later.4 in
          let place = last_place later.0 (length (list ++ last ∷ [])) (length list) new within count_last in
          let same : Some last ≡ Some later.1 = sym (slice_get-append_seam list last) ∙ subst (λ (n : ℕ). slice_get (list ++ last ∷ []) n ≡ Some later.1) place later.4 in
          let is = some_one last later.1 same in
          inr (later.3 ∙ ap (λ n. n + 1) place, later.5 ∙ sym (ap (λ (x : Noted). x.mark) is)))
    ]

    all_last : take (length list + 1) (entries_of (list ++ last ∷ [])) ≡ entries_of list ++ e ∷ []
    all_last = ap (λ (n : ℕ). take n (entries_of (list ++ last ∷ []))) (sym count_last) ∙ (all_entries (list ++ last ∷ []) ∙ entries_last)

    longer : (m : ℕ) (names : Names) → m ≤ length list → HoldsFirst m list (Some e) names → HoldsFirst m (list ++ last ∷ []) None names
    longer m names few held = (held.0, by held.1, held.2)
      where
        by : IsFirstOf m list (Some e) held.0 → IsFirstOf m (list ++ last ∷ []) None held.0
        by (inl first) =
            let fits = subst (λ (n : ℕ). first.0 ≤ n) (sym (length-map list (λ (n : Noted). n.entry))) first.2 in
            inl (first.0, first.1, subst (λ (n : ℕ). first.0 ≤ n) (sym count_last) (one_more first.0 (length list) first.2), first.3 ∙ sym (ap (take first.0) entries_last ∙ take-append-le first.0 (entries_of list) (e ∷ []) fits))
        by (inr all) =
            let same = some_one e all.0 all.1 in
            inl (length list + 1, one_more m (length list) few, same_least _ _ (sym count_last), all.2 ∙ (ap (λ (x : Entry). entries_of list ++ x ∷ []) (sym same) ∙ sym all_last))

    holds_last : (m : ℕ) (names : Names) → m ≤ length list + 1 → Stands names (entries_of list ++ e ∷ []) → HoldsFirst m (list ++ last ∷ []) None names
    holds_last m names few stands = (entries_of list ++ e ∷ [], inl (length list + 1, few, same_least _ _ (sym count_last), sym all_last), stands)

    -- and it is noted with that mark
    pub safe_noted : IsCrashSafe published (clock + 1) (none_begun (list ++ last ∷ [])) first start
    safe_noted = record {
      stamped = stamped_sync published clock (stamped_change told clock (Publish name files) safe.stamped);
      begins = (safe.begins.0 ++ last ∷ [], ap (λ (ns : List Noted). ns ++ last ∷ []) safe.begins.1 ∙ append_assoc first safe.begins.0 (last ∷ []));
      at_start = same_start;
      past = λ m mark after. elim (after_last m mark after) [
        | inl old ↦ one_more mark clock (safe.past m mark old)
        | inr new ↦ same_least _ _ new.1
      ];
      images = λ m mark names after left. elim (after_last m mark after) [
        | inl old ↦ (
            let few = within_list base start list m mark least old in
            elim (since-sync published clock mark names left) [
              | inl before ↦ longer m names few (safe_published.images m mark names old before)
              | inr image ↦ holds_last m names (one_more m (length list) few) (after_sync names image)
            ])
        | inr new ↦ (
            let image = now_is_image published (clock + 1) names (subst (λ (c : ℕ). Since published (clock + 1) c names) new.1 left) in
            holds_last m names (same_least _ _ new.0) (after_sync names image))
      ];
    }

  -- a name is published that leaves each root standing for the list
  module _ (name : List ℕ) (files : Files)
      (keeps : (old : Names) (left : Files) → Image told clock old → MayBecome files left → Stands (insert_entry (slice_cmp nat_cmp) old name left) (entries_of list)) where
    abbrev merged : Told
    merged = with_change clock (Publish name files) told

    settled_start : (names : Names) → LeftAt merged start 0 names → Stands names (entries_of first)
    settled_start names left =
        let past : start ≤ clock = safe.past base start (inl (refl, refl)) in
        safe.at_start names (subst (λ (settled : Told). MayLead (names_after [] settled) [] names) (before_clock-with_change told start clock (Publish name files) past) left)

    pub safe_merged : IsCrashSafe merged clock (none_begun list) first start
    safe_merged = record {
      stamped = stamped_change told clock (Publish name files) safe.stamped;
      begins = safe.begins;
      at_start = settled_start;
      past = safe.past;
      images = λ m mark names after left. elim (since-with_change told clock mark (Publish name files) names left) [
        | inl old ↦ safe.images m mark names after old
        | inr image ↦ elim (image_published told clock name files names image) [
          | inl was ↦ safe.images m mark names after (image_is_since told clock mark names (safe.past m mark after) was)
          | inr new ↦ (
            entries_of list,
            inl (length list, within_list base start list m mark least after, same_least _ _ refl, sym (all_entries list)),
            with_it told clock (entries_of list) (entries_of list) (safe_stands told clock list first start safe) name files keeps names new,
          )
        ]
      ];
    }
