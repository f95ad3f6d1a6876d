-- The parts of a store hold rows as commands enter it.
use Rattle.std.proofs.Common.{◌≡◌, ◌≢◌, true, false, ◌+◌, ℕ, List, [], Option, Some, sym, ap, ◌∙◌, subst, inl, inr}
use Rattle.std.specs.BTreeMap.{is_at}
use Rattle.std.specs.Cmp.Lexicographic.{slice_cmp}
use Rattle.std.specs.List.{All}
use Rattle.std.specs.Map.{lookup}
use Rattle.std.specs.Ordering.{nat_cmp}
use Rattle.std.proofs.lemmas.Bool.{false≢true}
use Rattle.std.proofs.lemmas.List.Elements.{All-nil}
use Rattle.mt_values.specs.declared.schema.Schema.{Schema}
use Rattle.mt_values.specs.Grammar.{same_bytes}
use Rattle.mt_values.specs.Grid.{Grid}
use Rattle.mt_outside.specs.Files.{Files}
use Rattle.root_store.proofs.MtModelTables.{itself_same}
use Rattle.root_store.specs.part_writer.declared.loaded.Loaded.{Loaded}
use Rattle.root_store.proofs.PartReaderHolding.{written_holds}
use Rattle.root_store.specs.part_reader.declared.reading.Part.{Part}
use Rattle.root_store.specs.part_set.declared.kept.Kept.{Kept}
use Rattle.root_store.specs.part_set.declared.set.PartSet.{PartSet}
use Rattle.root_store.specs.part_set.Sets.{parts_of}
use Rattle.root_store.specs.declared.store.CoreStore.{CoreStore}
use Rattle.root_store.specs.declared.store.Table.{Table}
use Rattle.root_store.specs.Stores.{fresh_table}
use Rattle.root_commits.specs.Commits.{EntersSealed, EntersTable, IsSealedOf, SameStore, fresh_part, part_rows, partition_of_block}
use Rattle.root_store.specs.Soundness.{HasSoundParts, HoldsRows, IsSoundStore}
use Rattle.root_store.specs.Stores.{table_at}
use Rattle.root_commits.proofs.Placed.{all_added}
use Rattle.root_commits.proofs.Updated.{it_or, one_some}

module _ {F : Type 0} (files_of : F → Option Files) where
  -- the same store
  pub held_same : (old new : CoreStore F) → SameStore old new → HasSoundParts files_of old → HasSoundParts files_of new
  held_same old new same held = λ table t at.
      subst (All (HoldsRows files_of t.schema)) (sym (same.parts table)) (held table t (sym (ap (λ (es : List (List ℕ × Table)). lookup (is_at (slice_cmp nat_cmp table)) es) same.tables) ∙ at))

  -- one table more
  pub held_made : (old new : CoreStore F) (table : List ℕ) (schema : Schema) → EntersTable table schema old new → IsSoundStore old → HasSoundParts files_of old → HasSoundParts files_of new
  held_made old new table schema enters sound held = λ u t at. elim (it_or old new table (Some (fresh_table schema)) enters.updates u) [
    | inl same ↦ subst (All (HoldsRows files_of t.schema)) (sym (parts u ∙ subst (λ (v : List ℕ). parts_of old.set v ≡ []) same (sound.no_other table enters.absent))) (All-nil (HoldsRows files_of t.schema))
    | inr other ↦ subst (All (HoldsRows files_of t.schema)) (sym (parts u)) (held u t (sym other.1 ∙ at))
  ]
    where
      parts : (u : List ℕ) → parts_of new.set u ≡ parts_of old.set u
      parts u = ap (λ (s : PartSet (Part F)). parts_of s u) enters.set_is

  -- one part more
  pub held_added : (old new : CoreStore F) (table : List ℕ) (t : Table) (block : Grid) (sealed : Option Files) (loaded : Loaded) → IsSealedOf t.schema block sealed loaded → EntersSealed files_of sealed loaded table (partition_of_block t.schema block) t old new
      → HasSoundParts files_of old → HasSoundParts files_of new
  held_added old new table t block sealed loaded is a held = λ u x at. elim (it_or old new table (Some (record { schema = t.schema; drawn = t.drawn + 1 })) a.enters.updates u) [
    | inl same ↦ (
        let now : table_at new table ≡ Some x = subst (λ (v : List ℕ). table_at new v ≡ Some x) (sym same) at in
        let kept = one_some (table_at new table) (record { schema = t.schema; drawn = t.drawn + 1 }) x a.enters.updates.1 now in
        let new_part : Kept (Part F) = record { name = fresh_part (partition_of_block t.schema block) (t.drawn + 1); part = a.part; busy = false } in
        let own : HoldsRows files_of t.schema new_part = (part_rows t.schema block, written_holds files_of t.schema a.part (part_rows t.schema block) is.files (a.files_are ∙ is.sealed_are) (a.loaded_is ∙ is.loaded_is) is.holds) in
        let all = all_added (HoldsRows files_of t.schema) (parts_of old.set table) (parts_of new.set table) new_part a.enters.added (held table t a.enters.there) own in
        subst (λ (v : List ℕ). All (HoldsRows files_of x.schema) (parts_of new.set v)) same
        (subst (λ (y : Table). All (HoldsRows files_of y.schema) (parts_of new.set table)) kept all))
    | inr other ↦ subst (All (HoldsRows files_of x.schema)) (sym (a.enters.others u (apart u other.0))) (held u x (sym other.1 ∙ at))
  ]
    where
      apart : (u : List ℕ) → same_bytes table u ≡ false → u ≢ table
      apart u differ e = let same : same_bytes table u ≡ true = ap (same_bytes table) e ∙ itself_same table in false≢true (sym differ ∙ same)
