-- Which names are free in a root that stands for a history.
use Rattle.std.proofs.Common.{◌≡◌, ℕ, ◌≤◌, List, Option, Some, None, length, refl, sym, ap, ◌∙◌, subst, arith}
use Rattle.std.specs.List.{Contains as HasItem}
use Rattle.std.proofs.lemmas.List.Elements.{All-contains}
use Rattle.mt_base.specs.declared.partition.Partition.{Partition}
use Rattle.mt_values.specs.RootNames.{create_name, part_name}
use Rattle.mt_outside.specs.Disk.{Names, files_at}
use Rattle.mt_outside.specs.Files.{Files}
use Rattle.root_store.specs.mt_model.History.{History, schema_of}
use Rattle.root_store.specs.mt_model.Numbers.{numbered}
use Rattle.root_store.specs.part_name.PartNames.{IsPartition, part_text}
use Rattle.root_store.specs.part_set.declared.root_name.RootName.{RootName}
use Rattle.root_store.specs.part_set.declared.root_name.RootName.TheVariants as root
use Rattle.root_store.specs.part_set.RootNames.{IsRootName, root_text}
use Rattle.root_store.specs.part_history.Entered.{next_number}
use Rattle.root_commits.specs.Commits.{fresh_part}
use Rattle.root_store.specs.Roots.{Stands}
use Rattle.root_commits.proofs.FreeNames.{entries_differ, entry_is_no_part, fresh_named, parts_differ}
use Rattle.root_commits.proofs.Growing.{parts_end_by}
use Rattle.root_store.proofs.EntriesOf.{entry_known}
use Rattle.root_store.proofs.Readings.{name_read}

module _ (names : Names) (h : History) (s : Stands names h) where
  some_or_none : (o : Option Files) → ((files : Files) → o ≡ Some files → ⊥) → o ≡ None
  some_or_none None not = refl
  some_or_none (Some files) not = absurd (not files refl)

  -- the entry of a table that the history does not have
  pub entry_free_in : (table : List ℕ) → schema_of table h ≡ None → files_at (create_name table) names ≡ None
  entry_free_in table none = some_or_none (files_at (create_name table) names) (λ files at. let found = name_read names s.read (create_name table) files s.are.spelled at in by found.0 found.1 found.2)
    where
      by : (n : RootName) → HasItem s.read n → root_text n ≡ create_name table → ⊥
      by (root.Create t) has is =
          let known = entry_known names h s t has in
          let same : schema_of t h ≡ None = subst (λ (u : List ℕ). schema_of u h ≡ None) (sym (entries_differ t table is)) none in
          let both : None ≡ Some known.0 = sym same ∙ known.1 in
          cc
      by (root.Part part) has is =
          entry_is_no_part table part.table part.name (All-contains IsRootName s.read (root.Part part) s.are.sound has).1 (sym is)

  -- the part of the next number of a table
  pub part_free_in : (table : List ℕ) (partition : Partition) → IsPartition partition → next_number table h ≤ 4294967295
      → files_at (part_name table (part_text (fresh_part partition (next_number table h)))) names ≡ None
  part_free_in table partition fits few =
      some_or_none (files_at (part_name table (part_text (fresh_part partition (next_number table h)))) names) (λ files at.
      let found = name_read names s.read (part_name table (part_text (fresh_part partition (next_number table h)))) files s.are.spelled at in
      by found.0 found.1 found.2)
    where
      by : (n : RootName) → HasItem s.read n → root_text n ≡ part_name table (part_text (fresh_part partition (next_number table h))) → ⊥
      by (root.Create t) has is = entry_is_no_part t table (fresh_part partition (next_number table h)) (fresh_named partition (length (numbered table h)) fits (omega (arith, few))) is
      by (root.Part part) has is =
          let differ = parts_differ part.table table part.name (fresh_part partition (next_number table h)) (All-contains IsRootName s.read (root.Part part) s.are.sound has).1
          (fresh_named partition (length (numbered table h)) fits (omega (arith, few))) is in
          let ends = parts_end_by names h s table part has differ.0 in
          let block : part.name.max_block ≡ next_number table h = ap (λ p. p.max_block) differ.1 in
          absurd (omega (arith, ends, block))
