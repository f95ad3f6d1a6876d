-- What a store keeps of its tables, as commands enter it.
use Rattle.std.proofs.Common.{◌≡◌, ◌≢◌, ℕ, ◌+◌, ◌<◌, ◌≤◌, ◌^◌, ◌-◌, List, [], true, false, Option, Some, IsTrue, refl, sym, ap, ◌∙◌, subst, arith, inl, inr}
use Rattle.std.specs.BTreeMap.{is_at}
use Rattle.std.specs.Cmp.Lexicographic.{slice_cmp}
use Rattle.std.specs.List.{All}
use Rattle.std.specs.Map.{lookup}
use Rattle.std.specs.Option.{ForSome}
use Rattle.std.specs.Ordering.{nat_cmp}
use Rattle.std.proofs.lemmas.Bool.{false≢true}
use Rattle.root_store.proofs.PartSetMaps.{true_or_false}
use Rattle.std.proofs.lemmas.List.Elements.{All-nil, All-weaker}
use Rattle.mt_base.specs.declared.partition.Partition.{Partition}
use Rattle.mt_values.specs.declared.schema.Schema.{Schema}
use Rattle.mt_values.specs.Grammar.{same_bytes}
use Rattle.mt_values.specs.Tables.{MayHavePartition}
use Rattle.mt_outside.specs.Causes.{Rose}
use Rattle.mt_outside.specs.Disk.{Told, names_of}
use Rattle.root_store.specs.mt_model.History.{IsTableSchema}
use Rattle.root_store.proofs.MtModelTables.{itself_same, same_is}
use Rattle.root_store.specs.part_reader.declared.reading.Part.{Part}
use Rattle.root_store.specs.part_set.declared.kept.Kept.{Kept}
use Rattle.root_store.specs.part_set.declared.set.PartSet.{PartSet}
use Rattle.root_store.specs.part_set.RootNames.{is_table}
use Rattle.root_store.specs.part_set.Sets.{parts_of}
use Rattle.root_store.specs.durable_commit.declared.causes.Refused.{Refused}
use Rattle.root_store.specs.durable_commit.declared.causes.Refused.TheVariants as refused
use Rattle.root_store.specs.declared.store.CoreStore.{CoreStore}
use Rattle.root_store.specs.declared.store.Table.{Table}
use Rattle.root_store.specs.Stores.{fresh_table}
use Rattle.root_commits.specs.Commits.{EntersPart, EntersTable, SameStore, fresh_part}
use Rattle.root_store.specs.Soundness.{IsNameUnder, IsReady, IsSoundStore, IsSoundTable, NamesFit}
use Rattle.root_store.specs.Shown.{AreShown, GreatestAreShown, HasNoMark}
use Rattle.root_store.specs.Stores.{table_at}
use Rattle.root_commits.proofs.Placed.{all_added}
use Rattle.root_commits.proofs.Shown.{greatest_same, shown_same}
use Rattle.root_commits.proofs.Updated.{it_or, no_some, one_some}
use Rattle.root_commits.proofs.SameStores.{no_mutation}

module _ {F : Type 0} where
  abbrev Ends : ℕ → Kept (Part F) → Type 0
  Ends n k = k.name.max_block ≤ n

  abbrev May : Schema → Kept (Part F) → Type 0
  May schema k = MayHavePartition schema k.name.partition

  abbrev Rises : Kept (Part F) → Type 0
  Rises k = k.name.min_block ≤ k.name.max_block

  abbrev IsIdle : Kept (Part F) → Type 0
  IsIdle k = k.busy ≡ false

  -- a table with the same parts
  moved : (old new : CoreStore F) (table : List ℕ) (t : Table) → parts_of new.set table ≡ parts_of old.set table → IsSoundTable old table t → IsSoundTable new table t
  moved old new table t same sound = record {
    named = sound.named;
    schema = sound.schema;
    ends = subst (All (Ends t.drawn)) (sym same) sound.ends;
    may = subst (All (May t.schema)) (sym same) sound.may;
    order = subst (All Rises) (sym same) sound.order;
  }

  module _ (old new : CoreStore F) where
    module _ (same : SameStore old new) where
      same_table : (table : List ℕ) → table_at new table ≡ table_at old table
      same_table table = ap (λ (es : List (List ℕ × Table)). lookup (is_at (slice_cmp nat_cmp table)) es) same.tables

      -- the same store is as sound
      pub sound_same : IsSoundStore old → IsSoundStore new
      sound_same sound = record {
        tables = λ table t at. moved old new table t (same.parts table) (sound.tables table t (sym (same_table table) ∙ at));
        no_other = λ table none. same.parts table ∙ sound.no_other table (sym (same_table table) ∙ none);
        mutations = no_mutation old new same.mutations_are sound.mutations;
      }

      under_same : (name : List ℕ) → IsNameUnder old name → IsNameUnder new name
      under_same name under = record { table = under.table; kept = under.kept; there = same_table under.table ∙ under.there; is = under.is }

      names_same : (told : Told) → NamesFit old told → NamesFit new told
      names_same told fit = λ k d lt. under_same _ (fit k d lt)

      -- where the disk is as it was, or its count has risen, what held as long as it had not risen holds so of the same store
      pub unless_kept : (P Q : Told → Type 0) → ((t : Told) → P t → Q t) → (before after : ℕ) (told now : Option Told) (cause : Refused) → old.opened ≤ before → old.opened < 2 ^ 64 - 1 → before ≤ after
          → (cause ≡ refused.Disk → Rose before after) → (cause ≢ refused.Disk → now ≡ told) → (before ≡ old.opened → ForSome told P) → after ≡ new.opened → ForSome now Q
      unless_kept P Q moves before after told now cause low below later rose unchanged held = λ is. by cause rose unchanged is
        where
          still : after ≡ new.opened → now ≡ told → (x : Told) → now ≡ Some x → Q x
          still is stays x told_is =
              let opened = same.opened_is in
              moves x (held (omega (arith, is, opened, low, later)) x (sym stays ∙ told_is))

          risen : after ≡ new.opened → Rose before after → ⊥
          risen is up = let opened = same.opened_is in absurd (omega (arith, is, up, opened, low, below))

          by : (r : Refused) → (r ≡ refused.Disk → Rose before after) → (r ≢ refused.Disk → now ≡ told) → after ≡ new.opened → (x : Told) → now ≡ Some x → Q x
          by refused.Disk up stays is = absurd (risen is (up refl))
          by refused.NoMemory up stays is = still is (stays (λ e. cc))
          by (refused.Stopped opened at) up stays is = still is (stays (λ e. cc))
          by refused.Exists up stays is = still is (stays (λ e. cc))
          by (refused.Limit l) up stays is = still is (stays (λ e. cc))

      -- turns may follow the same store as they might follow it before
      pub ready_same : (failed : ℕ) (told : Option Told) → IsReady failed told old → IsReady failed told new
      ready_same failed told ready = record {
        names = λ is x there. names_same x (ready.names (is ∙ same.opened_is) x there);
        shown = λ is x there. shown_same old new same (names_of x) (ready.shown (is ∙ same.opened_is) x there);
        greatest = λ x there. greatest_same old new same (names_of x) (ready.greatest x there);
        sound = sound_same ready.sound;
        opened = (let opened = same.opened_is in let low = ready.opened in omega (arith, opened, low));
        below = (let opened = same.opened_is in let low = ready.below in omega (arith, opened, low));
      }

      -- also after a commit that failed
      pub ready_kept : (before after : ℕ) (told now : Option Told) (cause : Refused) → before ≤ after → (cause ≡ refused.Disk → Rose before after) → (cause ≢ refused.Disk → now ≡ told)
          → ForSome now (λ (t : Told). GreatestAreShown old (names_of t)) → IsReady before told old → IsReady after now new
      ready_kept before after told now cause later rose unchanged greatest ready = record {
        names = unless_kept (NamesFit old) (NamesFit new) names_same before after told now cause ready.opened ready.below later rose unchanged ready.names;
        shown = unless_kept (λ (t : Told). AreShown old (names_of t)) (λ (t : Told). AreShown new (names_of t)) (λ t. shown_same old new same (names_of t)) before after told now cause ready.opened ready.below later rose unchanged ready.shown;
        greatest = λ x there. greatest_same old new same (names_of x) (greatest x there);
        sound = sound_same ready.sound;
        opened = (let opened = same.opened_is in let low = ready.opened in omega (arith, opened, low, later));
        below = (let opened = same.opened_is in let low = ready.below in omega (arith, opened, low));
      }

    -- the same store has no marks where it had none
    pub idle_same : SameStore old new → HasNoMark old → HasNoMark new
    idle_same same idle = λ u. subst (All IsIdle) (sym (same.parts u)) (idle u)

    -- nor has it with one part more
    pub idle_added : (table : List ℕ) (partition : Partition) (part : Part F) (t : Table) → EntersPart table partition part t old new → HasNoMark old → HasNoMark new
    idle_added table partition part t a idle = λ u. elim (true_or_false (same_bytes table u)) [
      | inl same ↦ subst (λ (v : List ℕ). All IsIdle (parts_of new.set v)) (same_is table u same)
          (all_added IsIdle (parts_of old.set table) (parts_of new.set table) (record { name = fresh_part partition (t.drawn + 1); part = part; busy = false }) a.added (idle table) refl)
      | inr differ ↦ subst (All IsIdle) (sym (a.others u (λ is. let same : same_bytes table u ≡ true = ap (same_bytes table) is ∙ itself_same table in false≢true (sym differ ∙ same)))) (idle u)
    ]

    -- one table more
    pub sound_made : (table : List ℕ) (schema : Schema) → EntersTable table schema old new → IsTrue (is_table table) → IsTableSchema schema → IsSoundStore old → IsSoundStore new
    sound_made table schema enters word fits sound = record {
      tables = λ u t at. elim (it_or old new table (Some (fresh_table schema)) enters.updates u) [
        | inl same ↦ here u t same (one_some (table_at new u) (fresh_table schema) t (subst (λ (v : List ℕ). table_at new v ≡ Some (fresh_table schema)) same enters.updates.1) at)
        | inr other ↦ moved old new u t (parts u) (sound.tables u t (sym other.1 ∙ at))
      ];
      no_other = λ u none. elim (it_or old new table (Some (fresh_table schema)) enters.updates u) [
        | inl same ↦ subst (λ (v : List ℕ). parts_of new.set v ≡ []) same no_parts
        | inr other ↦ parts u ∙ sound.no_other u (sym other.1 ∙ none)
      ];
      mutations = no_mutation old new enters.mutations_are sound.mutations;
    }
      where
        parts : (u : List ℕ) → parts_of new.set u ≡ parts_of old.set u
        parts u = ap (λ (s : PartSet (Part F)). parts_of s u) enters.set_is

        no_parts : parts_of new.set table ≡ []
        no_parts = parts table ∙ sound.no_other table enters.absent

        fresh : IsSoundTable new table (fresh_table schema)
        fresh = record {
          named = word;
          schema = fits;
          ends = subst (All (Ends 0)) (sym no_parts) (All-nil (Ends 0));
          may = subst (All (May schema)) (sym no_parts) (All-nil (May schema));
          order = subst (All Rises) (sym no_parts) (All-nil Rises);
        }

        here : (u : List ℕ) (t : Table) → table ≡ u → fresh_table schema ≡ t → IsSoundTable new u t
        here u t same is = subst (IsSoundTable new u) is (subst (λ (v : List ℕ). IsSoundTable new v (fresh_table schema)) same fresh)

    -- one part more
    module _ (table : List ℕ) (partition : Partition) (part : Part F) (t : Table) (a : EntersPart table partition part t old new) (may : MayHavePartition t.schema partition) where
      abbrev kept : Kept (Part F)
      kept = record { name = fresh_part partition (t.drawn + 1); part = part; busy = false }

      abbrev more : Table
      more = record { schema = t.schema; drawn = t.drawn + 1 }

      apart : (u : List ℕ) → same_bytes table u ≡ false → u ≢ table
      apart u differ is = let same : same_bytes table u ≡ true = ap (same_bytes table) is ∙ itself_same table in cc

      abbrev parts_new : (P : Kept (Part F) → Type 0) → All P (parts_of old.set table) → P kept → All P (parts_of new.set table)
      parts_new P all one = all_added P (parts_of old.set table) (parts_of new.set table) kept a.added all one

      grown : IsSoundTable old table t → IsSoundTable new table more
      grown was = record {
        named = was.named;
        schema = was.schema;
        ends = parts_new (Ends (t.drawn + 1)) (All-weaker (Ends t.drawn) (Ends (t.drawn + 1)) (λ k le. omega (arith, le)) (parts_of old.set table) was.ends) (omega arith);
        may = parts_new (May t.schema) was.may may;
        order = parts_new Rises was.order (omega arith);
      }

      pub sound_added : IsSoundStore old → IsSoundStore new
      sound_added sound = record {
        tables = λ u x at. elim (it_or old new table (Some more) a.updates u) [
          | inl same ↦ subst (IsSoundTable new u) (one_some (table_at new u) more x (subst (λ (v : List ℕ). table_at new v ≡ Some more) same a.updates.1) at)
              (subst (λ (v : List ℕ). IsSoundTable new v more) same (grown (sound.tables table t a.there)))
          | inr other ↦ moved old new u x (a.others u (apart u other.0)) (sound.tables u x (sym other.1 ∙ at))
        ];
        no_other = λ u none. elim (it_or old new table (Some more) a.updates u) [
          | inl same ↦ absurd (no_some (table_at new u) more none (subst (λ (v : List ℕ). table_at new v ≡ Some more) same a.updates.1))
          | inr other ↦ a.others u (apart u other.0) ∙ sound.no_other u (sym other.1 ∙ none)
        ];
        mutations = no_mutation old new a.mutations_are sound.mutations;
      }
