-- A store with the same tables, parts and mutations stands for the same history.
use Rattle.std.proofs.Common.{◌≡◌, ℕ, List, Option, length, refl, sym, ap, ◌∙◌, subst}
use Rattle.std.specs.BTreeMap.{is_at}
use Rattle.std.specs.Cmp.Lexicographic.{slice_cmp}
use Rattle.std.specs.List.{AllZip}
use Rattle.std.specs.Map.{lookup}
use Rattle.std.specs.Option.{option_map}
use Rattle.std.specs.Ordering.{nat_cmp}
use Rattle.mt_values.specs.declared.schema.Schema.{Schema}
use Rattle.mt_values.specs.Values.{Row}
use Rattle.mt_outside.specs.Files.{Files}
use Rattle.root_store.specs.mt_model.History.{History}
use Rattle.root_store.specs.mutation_queue.declared.mutations.Mutations.{Mutations}
use Rattle.root_store.specs.mutation_queue.Queue.{mutations_of}
use Rattle.root_store.specs.part_reader.declared.reading.Part.{Part}
use Rattle.root_store.specs.part_reader.Parts.{PartHolds}
use Rattle.root_store.specs.part_set.declared.kept.Kept.{Kept}
use Rattle.root_store.specs.part_history.Parts.{AreInBlockOrder, TableStands}
use Rattle.root_store.specs.declared.store.CoreStore.{CoreStore}
use Rattle.root_store.specs.declared.store.Table.{Table}
use Rattle.root_commits.specs.Commits.{SameStore}
use Rattle.root_store.specs.Stores.{CoreStands, HasNoMutation, core_parts, table_at}

-- each store is the same as itself
pub same_itself : {F : Type 0} (store : CoreStore F) → SameStore store store
same_itself store = record { tables = refl; parts = λ t. refl; mutations_are = refl; length_is = refl; opened_is = refl }

-- the same queues have the same mutations
pub same_queue : {F : Type 0} (old new : CoreStore F) → new.mutations ≡ old.mutations → (t : List ℕ) → mutations_of new.mutations t ≡ mutations_of old.mutations t
same_queue old new same t = ap (λ (queue : Mutations). mutations_of queue t) same

-- so they have none where there was none
pub no_mutation : {F : Type 0} (old new : CoreStore F) → new.mutations ≡ old.mutations → HasNoMutation old → HasNoMutation new
no_mutation old new same none = λ t. same_queue old new same t ∙ none t

module _ {F : Type 0} (files_of : F → Option Files) where
  abbrev Hold : Schema → List (Kept (Part F)) → List (List Row) → Type 0
  Hold schema ks rows = AllZip (λ (k : Kept (Part F)) (r : List Row). PartHolds files_of schema k.part r) ks rows

  pub stands_same : (h : History) (old new : CoreStore F) → CoreStands files_of h old → SameStore old new → CoreStands files_of h new
  stands_same h old new s same = record {
    legal = s.legal;
    length_is = same.length_is ∙ s.length_is;
    tables = λ t. ap (option_map (λ (x : Table). x.schema)) (here t) ∙ s.tables t;
    count = ap length same.tables ∙ s.count;
    drawn = λ t x is. s.drawn t x (sym (here t) ∙ is);
    parts = λ t x is.
        let p = s.parts t x (sym (here t) ∙ is) in
        record {
          rows = p.rows;
          hold = subst (λ (ks : List (Kept (Part F))). Hold x.schema ks p.rows) (sym (same.parts t)) p.hold;
          stand = subst (λ (ks : List (Kept (Part F))). TableStands t (core_parts t ks p.rows) h) (sym (same.parts t)) p.stand;
          order = subst (λ (ks : List (Kept (Part F))). AreInBlockOrder (core_parts t ks p.rows)) (sym (same.parts t)) p.order;
        };
    no_other = λ t none. same.parts t ∙ s.no_other t (sym (here t) ∙ none);
    mutations = λ t. same_queue old new same.mutations_are t ∙ s.mutations t;
    unaltered = s.unaltered;
  }
    where
      here : (t : List ℕ) → table_at new t ≡ table_at old t
      here t = ap (λ es. lookup (is_at (slice_cmp nat_cmp t)) es) same.tables
