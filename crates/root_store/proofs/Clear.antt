-- A root that stands for a history has no parts that overlap.
use Rattle.std.proofs.Common.{◌≡◌, ℕ, ◌≤◌, true, List, refl, sym, ap, ◌∙◌, subst, inl, inr, arith}
use Rattle.std.proofs.lemmas.Bool.{cases_lt}
use Rattle.std.proofs.lemmas.List.Elements.{All-contains}
use Rattle.std.specs.List.{Contains as HasItem}
use Rattle.mt_base.specs.declared.partition.Partition.{Partition}
use Rattle.mt_values.specs.Grammar.{same_bytes}
use Rattle.mt_outside.specs.Disk.{Names}
use Rattle.table_core.specs.mt_model.History.{History}
use Rattle.table_core.proofs.MtModelTables.{itself_same}
use Rattle.table_core.specs.part_set.declared.root_name.TablePart.{TablePart}
use Rattle.table_core.specs.part_set.Visible.{Overlap}
use Rattle.table_core.specs.part_history.declared.part.CorePart.{CorePart}
use Rattle.table_core.specs.part_history.Parts.{PartStands, has_block, core_parts_of}
use Rattle.table_core.proofs.PartHistoryApart.{has_at}
use Rattle.root_store.specs.Roots.{Stands, named}
use Rattle.root_store.proofs.Items.{filtered, two_count}
use Rattle.root_store.proofs.Orphaned.{of_core, part_named}

-- a part has a block of its partition
pub block_here : (part : CorePart) (partition : Partition) (n : ℕ) → part.name.partition ≡ partition → part.name.min_block ≤ n → n ≤ part.name.max_block → has_block partition n part ≡ true
block_here part partition n same low high = has_at partition n part same low high

-- a part of a table is among its parts
pub of_table : (table : List ℕ) (parts : List CorePart) (part : CorePart) → HasItem parts part → part.table ≡ table → HasItem (core_parts_of table parts) part
of_table table parts part here is = filtered (λ (p : CorePart). same_bytes p.table table) parts part here (ap (λ (t : List ℕ). same_bytes t table) is ∙ itself_same table)

module _ (names : Names) (h : History) (s : Stands names h) where
  pub part_stands : (part : CorePart) → HasItem s.parts part → PartStands h part
  part_stands part here = All-contains (PartStands h) (core_parts_of part.table s.parts) part (s.stand part.table).each (of_table part.table s.parts part here refl)

  -- no two parts of a table have the least block of one of them
  one_block : (x y : CorePart) → HasItem s.parts x → HasItem s.parts y → x.table ≡ y.table → (x ≡ y → ⊥) → x.name.partition ≡ y.name.partition
      → x.name.min_block ≤ y.name.min_block → y.name.min_block ≤ x.name.max_block → y.name.min_block ≤ y.name.max_block → ⊥
  one_block x y first second same apart partition low high own =
      let n = y.name.min_block in
      let test = has_block y.name.partition n in
      let once = (s.stand y.table).once y.name.partition n (part_stands y second).stands.least in
      let twice = two_count test (core_parts_of y.table s.parts) x y apart (of_table y.table s.parts x first same) (of_table y.table s.parts y second refl)
      (block_here x y.name.partition n partition low high) (block_here y y.name.partition n refl (omega arith) own) in
      omega (arith, once, twice)

  core_apart : (x y : CorePart) → HasItem s.parts x → HasItem s.parts y → Overlap s.read (named x) (named y) → ⊥
  core_apart x y first second o =
      let long = (part_named names h s (named x) o.first.here).order in
      let also = (part_named names h s (named y) o.second.here).order in
      elim (cases_lt x.name.min_block y.name.min_block) [
        | inl lt ↦ one_block x y first second o.table (λ same. o.apart (ap named same)) o.meet.partition (omega (arith, lt)) o.meet.high also
        | inr le ↦ one_block y x second first (sym o.table) (λ same. o.apart (ap named (sym same))) (sym o.meet.partition) le o.meet.low long
      ]

  pub no_overlap : (a b : TablePart) → Overlap s.read a b → ⊥
  no_overlap a b o =
      let x = of_core names h s a o.first in
      let y = of_core names h s b o.second in
      core_apart x.core y.core x.here y.here (subst (Overlap s.read (named x.core)) (sym y.name_is) (subst (λ (p : TablePart). Overlap s.read p b) (sym x.name_is) o))
