-- A root that stands for a history stands for it with one part in place of those that it contains.
use Rattle.std.proofs.Common.{◌≡◌, ℕ, ◌+◌, Bool, true, false, cond, List, [], ◌∷◌, ◌++◌, Some, None, filter, map, nat_le, not, refl, sym, ap, ◌∙◌, subst, append-nil, arith, inl, inr, get_or}
use Rattle.std.proofs.lemmas.Bool.{cases_lt, false≢true}
use Rattle.std.proofs.lemmas.Bool.Decides.{nat_tests}
use Rattle.std.proofs.lemmas.List.{map-append}
use Rattle.std.proofs.lemmas.List.Elements.{All-contains, Contains-append_left, Contains-get_or, Contains-push, Contains-push_cases, filter-append}
use Rattle.std.proofs.lemmas.List.Sums.{sum_by-cons}
use Rattle.std.specs.List.{Contains as HasItem, count_by}
use Rattle.mt_base.specs.declared.partition.Partition.{Partition}
use Rattle.mt_values.specs.declared.schema.Schema.{Schema}
use Rattle.mt_values.specs.Grammar.{same_bytes}
use Rattle.mt_values.specs.Tables.{same_partition}
use Rattle.mt_values.specs.Values.{Row}
use Rattle.mt_outside.specs.Disk.{Names, files_at}
use Rattle.mt_outside.specs.Files.{Files}
use Rattle.root_store.specs.mt_model.History.{History, schema_of}
use Rattle.root_store.specs.mt_model.Numbers.{IsNumberOfInsert}
use Rattle.root_store.proofs.MtModelCommands.{partition_is, same_itself}
use Rattle.root_store.proofs.MtModelTables.{itself_same, same_is}
use Rattle.root_store.specs.part_name.declared.part.PartName.{PartName}
use Rattle.root_store.specs.part_name.PartNames.{Meet}
use Rattle.root_store.specs.part_set.declared.root_name.RootName.{RootName}
use Rattle.root_store.specs.part_set.declared.root_name.RootName.TheVariants as root
use Rattle.root_store.specs.part_set.declared.root_name.TablePart.{TablePart}
use Rattle.root_store.specs.part_set.RootNames.{IsRootName, root_text}
use Rattle.root_store.specs.part_set.Visible.{Covers, HasPart, IsVisible}
use Rattle.root_store.proofs.PartSetItems.{item_first}
use Rattle.root_store.proofs.PartSetMaps.{true_or_false}
use Rattle.root_store.proofs.PartSetOrphans.{item_more}
use Rattle.root_store.specs.part_history.declared.part.CorePart.{CorePart}
use Rattle.root_store.specs.part_history.Parts.{PartStands, TableStands, core_parts_of, has_block}
use Rattle.root_store.proofs.PartHistoryGrowing.{count_push}
use Rattle.root_store.specs.Entries.{HoldsEntry}
use Rattle.root_store.specs.Roots.{FolderHolds, IsOfEntry, PartIsThere, Stands, named}
use Rattle.root_store.proofs.Blocks.{blocks}
use Rattle.root_store.proofs.Clear.{block_here, part_stands}
use Rattle.root_store.proofs.Items.{counted_one, filtered, map_item, mapped, unfiltered}
use Rattle.root_commits.proofs.Added.{are_read, folder_kept, new_folder, new_read, read_or_new, with_name}
use Rattle.root_commits.proofs.Hiding.{MayReplace, covered_meets, hides, names_with, new_visible, not_covered, part_or_new, still_visible, was_visible}

-- ---- counts

module _ {X : Type 0} (f : X → Bool) where
  -- where none passes none is counted
  none_counted : (xs : List X) → ((x : X) → HasItem xs x → f x ≡ true → ⊥) → count_by f xs ≡ 0
  none_counted xs none = elim (cases_lt 0 (count_by f xs)) [
    | inl some ↦ (let found = counted_one f xs (omega (arith, some)) in absurd (none found.0 found.1 found.2))
    | inr zero ↦ omega (arith, zero)
  ]

  -- of those of a kind as many pass among those that are left, where each that passes is left
  left_counted : (kind left : X → Bool) (xs : List X) → ((x : X) → HasItem xs x → kind x ≡ true → f x ≡ true → left x ≡ true) → count_by f (filter kind (filter left xs)) ≡ count_by f (filter kind xs)
  left_counted kind left [] all = refl
  left_counted kind left (x ∷ xs) all = by (left x) refl (kind x) refl (left_counted kind left xs (λ y has. all y (item_more x y xs has)))
    where
      one : (ys : List X) → count_by f (x ∷ ys) ≡ cond (f x) 1 0 + count_by f ys
      one ys = sum_by-cons (λ (y : X). cond (f y) 1 0) x ys

      not_passed : kind x ≡ true → left x ≡ false → f x ≡ false
      not_passed own gone = elim (true_or_false (f x)) [
        | inl passes ↦ absurd (false≢true (sym gone ∙ all x (item_first x xs) own passes))
        | inr fails ↦ fails
      ]

      by : (b : Bool) → left x ≡ b → (c : Bool) → kind x ≡ c → count_by f (filter kind (filter left xs)) ≡ count_by f (filter kind xs)
          → count_by f (filter kind (cond b (x ∷ filter left xs) (filter left xs))) ≡ count_by f (cond c (x ∷ filter kind xs) (filter kind xs))
      by true stays true own rest =
          ap (λ (b : Bool). count_by f (cond b (x ∷ filter kind (filter left xs)) (filter kind (filter left xs)))) own
          ∙ (one (filter kind (filter left xs)) ∙ (ap (λ (n : ℕ). cond (f x) 1 0 + n) rest ∙ sym (one (filter kind xs))))
      by true stays false other rest = ap (λ (b : Bool). count_by f (cond b (x ∷ filter kind (filter left xs)) (filter kind (filter left xs)))) other ∙ rest
      by false gone true own rest =
          let none : ◌≡◌ {A = ℕ} (cond (f x) 1 0) 0 = ap (λ (b : Bool). cond {A = ℕ} b 1 0) (not_passed own gone) in
          let more = one (filter kind xs) in
          omega (arith, rest, none, more)
      by false gone false other rest = rest

-- ---- names with a block in common

abbrev touches : PartName → PartName → Bool
touches a b = cond (same_partition a.partition b.partition) (cond (nat_le a.min_block b.max_block) (nat_le b.min_block a.max_block) false) false

module _ (a b : PartName) where
  touches_meets : touches a b ≡ true → Meet a b
  touches_meets is = by (same_partition a.partition b.partition) refl (nat_le a.min_block b.max_block) refl is
    where
      by : (p : Bool) → same_partition a.partition b.partition ≡ p → (low : Bool) → nat_le a.min_block b.max_block ≡ low → cond p (cond low (nat_le b.min_block a.max_block) false) false ≡ true → Meet a b
      by false other low low_is is = cc
      by true same false low_is is = cc
      by true same true low_is is = record {
        partition = partition_is a.partition b.partition same;
        low = grind (arith, nat_tests, low_is);
        high = grind (arith, nat_tests, is);
      }

  meets_touches : Meet a b → touches a b ≡ true
  meets_touches meet =
      let low = meet.low in
      let high = meet.high in
      let low_is : nat_le a.min_block b.max_block ≡ true = grind (arith, nat_tests, low) in
      let high_is : nat_le b.min_block a.max_block ≡ true = grind (arith, nat_tests, high) in
      let same : same_partition a.partition b.partition ≡ true = ap (λ (p : Partition). same_partition p b.partition) meet.partition ∙ same_itself b.partition in
      ap (λ (p : Bool). cond p (cond (nat_le a.min_block b.max_block) (nat_le b.min_block a.max_block) false) false) same
      ∙ (ap (λ (p : Bool). cond p (nat_le b.min_block a.max_block) false) low_is ∙ high_is)

-- ---- the root with the part

module _ (names : Names) (h : History) (s : Stands names h) (new : TablePart) (rows : List Row) (schema : Schema) (files : Files) (may : MayReplace s.read new) where
  abbrev core : CorePart
  core = record { table = new.table; name = new.name; rows = rows }

  abbrev text : List ℕ
  text = root_text (root.Part new)

  abbrev read : List RootName
  read = names_with s.read new

  -- whether a part stays visible
  abbrev stays : CorePart → Bool
  stays p = cond (same_bytes p.table new.table) (not (touches p.name new.name)) true

  visible_part : (p : CorePart) → HasItem s.parts p → IsVisible s.read (named p)
  visible_part p has = (s.visible (named p)).1 (map_item named s.parts p has)

  gone_covered : (p : CorePart) → HasItem s.parts p → stays p ≡ false → Covers new (named p)
  gone_covered p has gone = by (same_bytes p.table new.table) refl (touches p.name new.name) refl gone
    where
      by : (t : Bool) → same_bytes p.table new.table ≡ t → (u : Bool) → touches p.name new.name ≡ u → cond t (not u) true ≡ false → Covers new (named p)
      by false other u is gone = cc
      by true own false is gone = cc
      by true own true is gone = (may.within (named p) (visible_part p has) (same_is p.table new.table own) (touches_meets p.name new.name is)).0

  -- a part that stays has no block in common with the new one
  staying_apart : (p : CorePart) → p.table ≡ new.table → stays p ≡ true → Meet p.name new.name → ⊥
  staying_apart p own stay meet =
      let here : same_bytes p.table new.table ≡ true = ap (λ (t : List ℕ). same_bytes t new.table) own ∙ itself_same new.table in
      let touch = meets_touches p.name new.name meet in
      let gone : stays p ≡ false = ap (λ (b : Bool). cond b (not (touches p.name new.name)) true) here ∙ ap not touch in
      false≢true (sym gone ∙ stay)

  staying_uncovered : (p : CorePart) → HasItem s.parts p → stays p ≡ true → Covers new (named p) → ⊥
  staying_uncovered p has stay covers = staying_apart p (sym covers.table) stay (covered_meets new (named p) (part_stands names h s p has).stands.order covers)

  abbrev left : List CorePart
  left = filter stays s.parts

  module _ (word : IsRootName (root.Part new)) where
    there_now : HasPart read new
    there_now = new_read (root.Part new) word s.read s.are.sound

    visible_there : (part : TablePart) → IsVisible read part → HasItem (map named (left ++ core ∷ [])) part
    visible_there part visible = subst (λ (ps : List TablePart). HasItem ps part) (sym (map-append named left (core ∷ []))) (elim (part_or_new s.read new part visible.here) [
      | inl old ↦ (
          let found = mapped named s.parts part ((s.visible part).0 (was_visible s.read new part old visible)) in
          elim (true_or_false (stays found.0)) [
            | inl stay ↦ Contains-append_left (map named left) (named core ∷ []) part (subst (HasItem (map named left)) found.2 (map_item named left found.0 (filtered stays s.parts found.0 found.1 stay)))
            | inr gone ↦ absurd (hides s.read new may part old (subst (Covers new) found.2 (gone_covered found.0 found.1 gone)) visible there_now)
          ])
      | inr same ↦ subst (HasItem (map named left ++ named core ∷ [])) same (Contains-push (map named left) (named core))
    ])

    there_visible : (part : TablePart) → HasItem (map named (left ++ core ∷ [])) part → IsVisible read part
    there_visible part has = elim (Contains-push_cases (map named left) (named core) part (subst (λ (ps : List TablePart). HasItem ps part) (map-append named left (core ∷ [])) has)) [
      | inl old ↦ (
          let found = mapped named left part old in
          let was = unfiltered stays s.parts found.0 found.1 in
          subst (IsVisible read) found.2 (still_visible s.read new (named found.0) (visible_part found.0 was.0) (staying_uncovered found.0 was.0 was.1)))
      | inr same ↦ subst (IsVisible read) same (new_visible s.read new (not_covered s.read new may) there_now)
    ]

  module _ (own : PartStands h core) where
    -- each part stands
    each_stands : (p : CorePart) → HasItem (left ++ core ∷ []) p → PartStands h p
    each_stands p has = elim (Contains-push_cases left core p has) [
      | inl old ↦ part_stands names h s p (unfiltered stays s.parts p old).0
      | inr same ↦ subst (PartStands h) same own
    ]

    module _ (t : List ℕ) where
      abbrev of : CorePart → Bool
      of p = same_bytes p.table t

      more : core_parts_of t (left ++ core ∷ []) ≡ core_parts_of t left ++ cond (of core) (core ∷ []) []
      more = filter-append of left (core ∷ [])

      -- each number of an INSERT is in one of them
      module _ (partition : Partition) (n : ℕ) (is : IsNumberOfInsert t partition n h) where
        abbrev f : CorePart → Bool
        f = has_block partition n

        before : count_by f (core_parts_of t s.parts) ≡ 1
        before = (s.stand t).once partition n is

        -- of another table
        apart_count : of core ≡ false → count_by f (core_parts_of t left) ≡ 1
        apart_count other =
            left_counted f of stays s.parts (λ p has own passes. elim (true_or_false (stays p)) [
              | inl stay ↦ stay
              | inr gone ↦ (
                  let covers = gone_covered p has gone in
                  let here : of core ≡ true = ap (λ (u : List ℕ). same_bytes u t) (covers.table) ∙ own in
                  absurd (false≢true (sym other ∙ here)))
            ]) ∙ before

        -- the new part has it: no other that stays does
        inside_count : of core ≡ true → f core ≡ true → count_by f (core_parts_of t left) ≡ 0
        inside_count here passes =
            none_counted f (core_parts_of t left) (λ p has also.
            let was = unfiltered of left p has in
            let stay = (unfiltered stays s.parts p was.0).1 in
            let table : p.table ≡ new.table = same_is p.table t was.1 ∙ sym (same_is new.table t here) in
            let a = blocks partition n p also in
            let b = blocks partition n core passes in
            staying_apart p table stay (record { partition = a.same ∙ sym b.same; low = omega (arith, a.low, b.high); high = omega (arith, b.low, a.high) }))

        -- the new part has it not: what it hides has it not
        outside_count : f core ≡ false → count_by f (core_parts_of t left) ≡ 1
        outside_count fails =
            left_counted f of stays s.parts (λ p has own passes. elim (true_or_false (stays p)) [
              | inl stay ↦ stay
              | inr gone ↦ (
                  let covers = gone_covered p has gone in
                  let a = blocks partition n p passes in
                  let low = covers.name.min_block in
                  let high = covers.name.max_block in
                  let also = block_here core partition n (covers.name.partition ∙ a.same) (omega (arith, low, a.low)) (omega (arith, high, a.high)) in
                  absurd (false≢true (sym fails ∙ also)))
            ]) ∙ before

        one_each : count_by f (core_parts_of t (left ++ core ∷ [])) ≡ 1
        one_each = ap (count_by f) more ∙ by (of core) refl (f core) refl
          where
            by : (b : Bool) → of core ≡ b → (c : Bool) → f core ≡ c → count_by f (core_parts_of t left ++ cond b (core ∷ []) []) ≡ 1
            by false other c is = ap (count_by f) (append-nil (core_parts_of t left)) ∙ apart_count other
            by true here true passes =
                let push = count_push f (core_parts_of t left) core in
                let none = inside_count here passes in
                let one : ◌≡◌ {A = ℕ} (cond (f core) 1 0) 1 = ap (λ (b : Bool). cond {A = ℕ} b 1 0) passes in
                omega (arith, push, none, one)
            by true here false fails =
                let push = count_push f (core_parts_of t left) core in
                let all = outside_count fails in
                let none : ◌≡◌ {A = ℕ} (cond (f core) 1 0) 0 = ap (λ (b : Bool). cond {A = ℕ} b 1 0) fails in
                omega (arith, push, all, none)

      table_stands : TableStands t (core_parts_of t (left ++ core ∷ [])) h
      table_stands = record {
        own = λ i d inside. same_is (get_or (core_parts_of t (left ++ core ∷ [])) i d).table t (unfiltered of (left ++ core ∷ []) (get_or (core_parts_of t (left ++ core ∷ [])) i d) (Contains-get_or (core_parts_of t (left ++ core ∷ [])) i d inside)).1;
        each = λ i d inside. each_stands (get_or (core_parts_of t (left ++ core ∷ [])) i d) (unfiltered of (left ++ core ∷ []) (get_or (core_parts_of t (left ++ core ∷ [])) i d) (Contains-get_or (core_parts_of t (left ++ core ∷ [])) i d inside)).0;
        once = one_each;
      }

  module _ (known : schema_of new.table h ≡ Some schema) (holds : FolderHolds schema rows files) (free : files_at text names ≡ None) where
    new_there : PartIsThere (with_name names text files) h core
    new_there = record { schema = schema; schema_is = known; folder = record { files = files; there = new_folder names text files; holds = holds } }

    old_there : (p : CorePart) → PartIsThere names h p → PartIsThere (with_name names text files) h p
    old_there p there = record {
      schema = there.schema;
      schema_is = there.schema_is;
      folder = folder_kept names text files (root_text (root.Part (named p))) (FolderHolds there.schema p.rows) free there.folder;
    }

    part_there : (p : CorePart) → HasItem (left ++ core ∷ []) p → PartIsThere (with_name names text files) h p
    part_there p has = elim (Contains-push_cases left core p has) [
      | inl old ↦ old_there p (All-contains (PartIsThere names h) s.parts p s.there (unfiltered stays s.parts p old).0)
      | inr same ↦ subst (PartIsThere (with_name names text files) h) same new_there
    ]

  pub stands_with_merge : IsRootName (root.Part new) → new.name.mutation ≡ None → PartStands h core → schema_of new.table h ≡ Some schema → FolderHolds schema rows files → files_at text names ≡ None → Stands (with_name names text files) h
  stands_with_merge word plain own known holds free = record {
    legal = s.legal;
    read = read;
    are = are_read (root.Part new) word names files s.read s.are;
    unmutated = λ part has. elim (part_or_new s.read new part has) [
      | inl old ↦ s.unmutated part old
      | inr same ↦ ap (λ (p : TablePart). p.name.mutation) (sym same) ∙ plain
    ];
    unaltered = s.unaltered;
    entries = λ p name named_is. folder_kept names text files name (HoldsEntry p.before p.entry.command) free (s.entries p name named_is);
    no_other = λ n has of_entry. elim (read_or_new (root.Part new) s.read n has) [
      | inl old ↦ s.no_other n old of_entry
      | inr same ↦ absurd (subst IsOfEntry (sym same) of_entry)
    ];
    parts = left ++ core ∷ [];
    visible = λ part. (visible_there word part, there_visible word part);
    stand = table_stands own;
    there = λ i d inside. part_there known holds free (get_or (left ++ core ∷ []) i d) (Contains-get_or (left ++ core ∷ []) i d inside);
  }
