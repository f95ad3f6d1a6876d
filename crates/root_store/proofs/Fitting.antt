-- The names of a root fit the store that it is opened as.
use Rattle.std.proofs.Common.{◌≡◌, ◌≢◌, ℕ, ◌+◌, ◌-◌, ◌<◌, ◌≤◌, List, Option, Some, None, is_some, All, get_or, true, refl, sym, ◌∙◌, subst, inl, inr, arith, zero, suc}
use Rattle.std.proofs.lemmas.Bool.{cases_lt}
use Rattle.std.proofs.lemmas.List.Elements.{All-contains, All-map, Contains-get_or}
use Rattle.std.specs.List.{Contains as HasItem}
use Rattle.std.specs.Option.{IsSome}
use Rattle.mt_outside.specs.Disk.{Told, names_of}
use Rattle.mt_outside.specs.Files.{Files}
use Rattle.table_core.specs.part_set.part_name.declared.part.PartName.{PartName}
use Rattle.table_core.specs.part_set.part_name.PartNames.{Contains, IsPartName}
use Rattle.table_core.specs.part_set.declared.root_name.RootName.{RootName}
use Rattle.table_core.specs.part_set.declared.root_name.RootName.TheVariants.{Create, Part}
use Rattle.table_core.specs.part_set.declared.root_name.TablePart.{TablePart}
use Rattle.table_core.specs.part_set.RootNames.{IsRootName, root_text}
use Rattle.table_core.specs.part_set.Visible.{HasNoOrphan, HasPart, HasTable, IsVisible}
use Rattle.table_core.proofs.PartSetOrphans.{table_found}
use Rattle.table_core.proofs.PartSetVisibles.{table_there}
use Rattle.root_store.specs.declared.store.CoreStore.{CoreStore}
use Rattle.root_store.specs.declared.store.Table.{Table}
use Rattle.root_store.specs.Soundness.{IsNameUnder, NamesFit}
use Rattle.root_store.specs.Stores.{StoreOf, table_at}

-- how many blocks a part may have up to its last one, with its level
abbrev extent : PartName → ℕ
extent p = p.max_block + (4294967295 - p.min_block) + p.level

extent_bound : (p : PartName) → IsPartName p → extent p ≤ 12884901885
extent_bound p named = omega (arith, named.max_block.1, named.level)

-- a part that contains another one of no other mutation, and is not it, has a greater extent
wider : (a b : PartName) → IsPartName a → IsPartName b → a.mutation ≡ b.mutation → Contains a b → a ≢ b → extent b < extent a
wider a b first second mutation c apart = elim (cases_lt (extent b) (extent a)) [
  | inl lt ↦ lt
  | inr le ↦ (
      let least : a.min_block ≡ b.min_block = omega (arith, le, c.min_block, c.max_block, c.level, first.min_block.1, second.min_block.1) in
      let greatest : a.max_block ≡ b.max_block = omega (arith, le, c.min_block, c.max_block, c.level, first.min_block.1, second.min_block.1) in
      let level : a.level ≡ b.level = omega (arith, le, c.min_block, c.max_block, c.level, first.min_block.1, second.min_block.1) in
      absurd (apart (λ i. record { partition = c.partition i; min_block = least i; max_block = greatest i; level = level i; mutation = mutation i })))
]

module _ (read : List RootName) (sound : All IsRootName read) (plain : (part : TablePart) → HasPart read part → part.name.mutation ≡ None) where
  named_part : (part : TablePart) → HasPart read part → IsPartName part.name
  named_part part here = (All-contains IsRootName read (Part part) sound here).1

  module _ (table : List ℕ) (n : ℕ) (most : (part : TablePart) → IsVisible read part → part.table ≡ table → part.name.max_block ≤ n) where
    not_above : (k : ℕ) (part : TablePart) → HasPart read part → part.table ≡ table → 12884901885 < extent part.name + k → n < part.name.max_block → ⊥
    not_above zero part here own more above = let bound = extent_bound part.name (named_part part here) in omega (arith, bound, more)
    not_above (suc k) part here own more above =
        let ends = most part (record {
          here = here;
          shows = λ hidden.
              let by = hidden.by in
              let covers = hidden.covers in
              let apart = λ (same : by.name ≡ part.name). hidden.other (λ i. record { table = covers.table i; name = same i }) in
              let greater = wider by.name part.name (named_part by hidden.here) (named_part part here) (plain by hidden.here ∙ sym (plain part here)) covers.name apart in
              let later = covers.name.max_block in
              not_above k by hidden.here (covers.table ∙ own) (omega (arith, greater, more)) (omega (arith, later, above));
        }) own in
        omega (arith, ends, above)

    -- the blocks of a table's hidden parts end by where those of its visible parts do, since what covers a part ends no sooner
    pub ends_by : (part : TablePart) → HasPart read part → part.table ≡ table → part.name.max_block ≤ n
    ends_by part here own = elim (cases_lt n part.name.max_block) [
      | inl above ↦ absurd (not_above 12884901886 part here own (omega arith) above)
      | inr le ↦ le
    ]

no_mutation : (m : Option ℕ) → (IsSome m → ⊥) → m ≡ None
no_mutation None none = refl
no_mutation (Some n) none = absurd (none refl)

module _ {F : Type 0} (files_of : F → Option Files) (told : Told) (store : CoreStore F) (o : StoreOf files_of (names_of told) store) (sound : HasNoOrphan o.read) where
  unmutated : (part : TablePart) → HasPart o.read part → part.name.mutation ≡ None
  unmutated part here = no_mutation part.name.mutation (λ some. sound (Part part) here (inr some))

  -- what is kept of a table that is among the names
  kept_of : (table : List ℕ) → HasTable o.read table → (t : Table) × (table_at store table ≡ Some t)
  kept_of table here = by (table_at store table) (o.all table here) refl
    where
      by : (found : Option Table) → is_some found ≡ true → table_at store table ≡ found → (t : Table) × (table_at store table ≡ Some t)
      by None none at = cc
      by (Some t) some at = (t, at)

  fits : (name : RootName) → HasItem o.read name → IsNameUnder store (root_text name)
  fits (Create table) here = let kept = kept_of table here in record { table = table; kept = kept.0; there = kept.1; is = inl refl }
  fits (Part part) here =
      let kept = kept_of part.table (table_found o.read part.table (table_there o.read sound part here)) in
      let ends = ends_by o.read o.are.sound unmutated part.table kept.0.drawn (o.tables part.table kept.0 kept.1).drawn.most part here refl in
      record { table = part.table; kept = kept.0; there = kept.1; is = inr (part.name, named_part o.read o.are.sound unmutated part here, ends, refl) }

  -- where no name of the root is an orphan, each is one that it may have under the store
  pub fits_store : NamesFit store told
  fits_store = subst (All (IsNameUnder store)) o.are.spelled (All-map (IsNameUnder store) root_text o.read (λ k d inside. fits (get_or o.read k d) (Contains-get_or o.read k d inside)))
