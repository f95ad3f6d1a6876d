-- A work stands where it was taken up.
use Rattle.std.proofs.Common.{◌≡◌, ◌≢◌, ℕ, true, false, List, map, Option, Some, None, refl, sym, ap, ◌∙◌, subst, arith}
use Rattle.std.proofs.lemmas.Bool.{false≢true}
use Rattle.std.specs.BTreeMap.{is_at}
use Rattle.std.specs.Cmp.Lexicographic.{slice_cmp}
use Rattle.std.specs.List.{All}
use Rattle.std.specs.Map.{lookup}
use Rattle.std.specs.Ordering.{nat_cmp}
use Rattle.mt_values.specs.Grammar.{same_bytes}
use Rattle.root_commits.proofs.MtModelTables.{itself_same}
use Rattle.root_commits.specs.part_name.declared.part.PartName.{PartName}
use Rattle.root_commits.specs.part_reader.declared.reading.Part.{Part}
use Rattle.root_commits.specs.part_set.declared.kept.Kept.{Kept}
use Rattle.root_commits.specs.part_set.declared.run.Run.{Run}
use Rattle.root_commits.specs.part_set.Parts.{IsInBlockOrder}
use Rattle.root_commits.specs.part_set.Runs.{EndsInOrder, parts_of_run, with_mark}
use Rattle.root_commits.specs.part_set.Sets.{parts_of}
use Rattle.root_commits.specs.root_store.declared.store.CoreStore.{CoreStore}
use Rattle.root_commits.specs.root_store.declared.store.Table.{Table}
use Rattle.root_commits.specs.root_store.Soundness.{IsSoundStore}
use Rattle.root_commits.specs.root_store.Stores.{table_at}
use Rattle.shared_store.specs.declared.work.Work.{Work}
use Rattle.shared_store.specs.Works.{SourcesStand, TakesUp, WorkStands, parts_beside}
use Rattle.shared_store.proofs.Standing.{all_marked, is_run_marked, marked_named, mine_long, mine_ordered, named_long, names_marked, ordered_before, run_marked}

-- a table that bytes tell apart is another
pub other_by_bytes : (t u : List ℕ) → same_bytes t u ≡ false → u ≢ t
other_by_bytes t u differ same = let yes : same_bytes t u ≡ true = ap (same_bytes t) same ∙ itself_same t in false≢true (sym differ ∙ yes)

module _ {F : Type 0} where
  abbrev name_of : Kept (Part F) → PartName
  name_of k = k.name

  abbrev Idle : Kept (Part F) → Type 0
  Idle k = k.busy ≡ false

  -- the parts of a table begin no later than they end
  pub long_in : (store : CoreStore F) → IsSoundStore store → (table : List ℕ) (t : Table) → table_at store table ≡ Some t → All EndsInOrder (parts_of store.set table)
  long_in store sound table t at = (sound.tables table t at).order

  -- of no table it is the same: it has no parts
  pub long_of : (store : CoreStore F) → IsSoundStore store → (table : List ℕ) → All EndsInOrder (parts_of store.set table)
  long_of store sound table = by (table_at store table) refl
    where
      by : (o : Option Table) → table_at store table ≡ o → All EndsInOrder (parts_of store.set table)
      by (Some t) at = long_in store sound table t at
      by None none = subst (All EndsInOrder) (sym (sound.no_other table none)) (λ i d inside. absurd (omega (arith, inside)))

  -- ---- a work that was taken up

  module _ (old new : CoreStore F) (work : Work F) (run : Run) (t : TakesUp old new work run) (sound : IsSoundStore new) where
    abbrev sources : List (Kept (Part F))
    sources = parts_of_run run (parts_beside old work)

    ordered_old : IsInBlockOrder (parts_of old.set work.table)
    ordered_old = ordered_before work.partition run true (parts_of old.set work.table) (parts_of new.set work.table) t.marks.marked t.marks.ordered

    long_new : All EndsInOrder (parts_of new.set work.table)
    long_new = long_of new sound work.table

    long_old : All EndsInOrder (parts_of old.set work.table)
    long_old =
        named_long (parts_of old.set work.table) (parts_of new.set work.table)
        (names_marked work.partition run true (parts_of old.set work.table) (parts_of new.set work.table) t.marks.marked) long_new

    mine_in_order : IsInBlockOrder (parts_beside old work)
    mine_in_order = mine_ordered work.partition (parts_of old.set work.table) ordered_old

    mine_in_ends : All EndsInOrder (parts_beside old work)
    mine_in_ends = mine_long work.partition (parts_of old.set work.table) long_old

    -- the parts that it has bear marks where they stand
    pub sources_marked : parts_of_run run (parts_beside new work) ≡ map (with_mark true) sources
    sources_marked = run_marked work.partition run (parts_of old.set work.table) t.is mine_in_order mine_in_ends true (parts_of new.set work.table) t.marks.marked

    -- it stands where it was taken up
    pub taken_stands : SourcesStand new work run
    taken_stands = record {
      is = is_run_marked work.partition run (parts_of old.set work.table) t.is mine_in_order mine_in_ends true (parts_of new.set work.table) t.marks.marked;
      named = ap (λ (ks : List (Kept (Part F))). map name_of ks) sources_marked ∙ (marked_named true sources ∙ ap (λ (ks : List (Kept (Part F))). map name_of ks) (sym t.sources_are));
      busy = subst (All (λ (k : Kept (Part F)). k.busy ≡ true)) (sym sources_marked) (all_marked true sources);
    }

    -- with its table and its schema
    pub taken_work : WorkStands new work run
    taken_work = record {
      sources = taken_stands;
      made = t.made;
      there = ap (λ (es : List (List ℕ × Table)). lookup (is_at (slice_cmp nat_cmp work.table)) es) t.marks.tables ∙ t.there;
      schema_is = t.schema_is;
    }
