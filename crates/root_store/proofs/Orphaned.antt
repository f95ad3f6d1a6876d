-- A root that stands for a history has no orphan.
use Rattle.std.proofs.Common.{◌≡◌, ◌≢◌, ℕ, ◌+◌, ◌-◌, ◌<◌, ◌≤◌, Option, Some, None, sym, ap, ◌∙◌, subst, inl, inr, arith, zero, suc}
use Rattle.std.proofs.lemmas.Bool.{cases_lt, false≢true}
use Rattle.std.proofs.lemmas.List.Elements.{All-contains}
use Rattle.std.specs.List.{Contains as HasItem}
use Rattle.std.specs.Option.{IsSome}
use Rattle.mt_outside.specs.Disk.{Names}
use Rattle.table_core.specs.mt_model.History.{History}
use Rattle.table_core.specs.part_set.part_name.declared.part.PartName.{PartName}
use Rattle.table_core.specs.part_set.part_name.PartNames.{IsPartName}
use Rattle.table_core.specs.part_set.declared.root_name.RootName.{RootName}
use Rattle.table_core.specs.part_set.declared.root_name.RootName.TheVariants.{Create, Part}
use Rattle.table_core.specs.part_set.declared.root_name.TablePart.{TablePart}
use Rattle.table_core.specs.part_set.RootNames.{IsRootName}
use Rattle.table_core.specs.part_set.Visible.{Covers, HasPart, HasTable, IsOrphan, IsVisible}
use Rattle.table_core.specs.part_history.declared.part.CorePart.{CorePart}
use Rattle.root_store.specs.Roots.{PartIsThere, Stands, named}
use Rattle.root_store.proofs.EntriesOf.{table_entry}
use Rattle.root_store.proofs.Items.{mapped}
use Rattle.root_store.proofs.Readings.{table_read}

-- how wide a part is, with its level
abbrev size_of : PartName → ℕ
size_of p = p.max_block + (4294967295 - p.min_block) + p.level

size_bound : (p : PartName) → IsPartName p → size_of p ≤ 12884901885
size_bound p named = omega (arith, named.max_block.1, named.level)

-- a part that covers another is greater
grows : (a b : TablePart) → IsPartName a.name → IsPartName b.name → a.name.mutation ≡ None → b.name.mutation ≡ None → Covers a b → a ≢ b → size_of b.name < size_of a.name
grows a b first second plain also covers apart = elim (cases_lt (size_of b.name) (size_of a.name)) [
  | inl lt ↦ lt
  | inr le ↦ (
      let c = covers.name in
      let least : a.name.min_block ≡ b.name.min_block = omega (arith, le, c.min_block, c.max_block, c.level, first.min_block.1, second.min_block.1) in
      let greatest : a.name.max_block ≡ b.name.max_block = omega (arith, le, c.min_block, c.max_block, c.level, first.min_block.1, second.min_block.1) in
      let level : a.name.level ≡ b.name.level = omega (arith, le, c.min_block, c.max_block, c.level, first.min_block.1, second.min_block.1) in
      let mutation : a.name.mutation ≡ b.name.mutation = plain ∙ sym also in
      absurd (apart (λ i. record {
        table = covers.table i;
        name = record { partition = c.partition i; min_block = least i; max_block = greatest i; level = level i; mutation = mutation i };
      })))
]

no_mutation : (m : Option ℕ) → m ≡ None → IsSome m → ⊥
no_mutation None e some = false≢true some
no_mutation (Some n) e some = cc

-- the part of the core that a visible part is
pub record IsOfCore {names : Names} {h : History} (s : Stands names h) (part : TablePart) : Type 0 where
  pub core : CorePart
  pub here : HasItem s.parts core
  pub name_is : named core ≡ part
  pub there : PartIsThere names h core

module _ (names : Names) (h : History) (s : Stands names h) where
  pub of_core : (part : TablePart) → IsVisible s.read part → IsOfCore s part
  of_core part visible =
      let found = mapped named s.parts part ((s.visible part).0 visible) in
      record { core = found.0; here = found.1; name_is = found.2; there = All-contains (PartIsThere names h) s.parts found.0 s.there found.1 }

  pub part_named : (part : TablePart) → HasPart s.read part → IsPartName part.name
  part_named part here = (All-contains IsRootName s.read (Part part) s.are.sound here).1

  -- the table of a visible part is there
  table_there : (part : TablePart) → IsVisible s.read part → HasTable s.read part.table
  table_there part visible =
      let c = of_core part visible in
      let folder = table_entry names h s c.core.table c.there.schema c.there.schema_is in
      subst (HasTable s.read) (ap (λ (p : TablePart). p.table) c.name_is) (table_read names s.read c.core.table folder.files s.are folder.there)

  -- nor can that of a hidden one be missing, since a greater part covers it
  not_missing : (k : ℕ) (part : TablePart) → HasPart s.read part → 12884901885 < size_of part.name + k → (HasTable s.read part.table → ⊥) → ⊥
  not_missing zero part here more none = let bound = size_bound part.name (part_named part here) in omega (arith, bound, more)
  not_missing (suc k) part here more none =
      none (table_there part (record {
        here = here;
        shows = λ hidden.
            let greater = grows hidden.by part (part_named hidden.by hidden.here) (part_named part here) (s.unmutated hidden.by hidden.here) (s.unmutated part here) hidden.covers hidden.other in
            not_missing k hidden.by hidden.here (omega (arith, greater, more)) (λ has. none (subst (HasTable s.read) hidden.covers.table has));
      }))

  pub no_orphan : (name : RootName) → HasItem s.read name → IsOrphan s.read name → ⊥
  no_orphan (Create table) has is = is
  no_orphan (Part part) has (inl none) = not_missing 12884901886 part has (omega arith) none
  no_orphan (Part part) has (inr some) = no_mutation part.name.mutation (s.unmutated part has) some
