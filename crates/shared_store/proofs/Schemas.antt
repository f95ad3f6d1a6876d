-- The tables of a root that is shared: those that it was opened with, and those that the lock's list made.
use Rattle.std.proofs.Common.{◌≡◌, ℕ, ◌+◌, Bool, false, cond, List, [], ◌∷◌, ◌++◌, length, length-append, Option, Some, None, inl, inr, refl, sym, ap, ◌∙◌, subst, arith}
use Rattle.std.specs.BTreeMap.{is_at}
use Rattle.std.specs.Cmp.Lexicographic.{slice_cmp}
use Rattle.std.specs.Map.{lookup}
use Rattle.std.specs.Ordering.{nat_cmp}
use Rattle.mt_base.specs.declared.partition.Partition.{Partition}
use Rattle.mt_values.specs.declared.command.Command.TheVariants as command
use Rattle.mt_values.specs.declared.command.Create.{Create}
use Rattle.mt_values.specs.declared.command.Entry.{Entry}
use Rattle.mt_values.specs.declared.command.Insert.{Insert}
use Rattle.mt_values.specs.declared.schema.Schema.{Schema}
use Rattle.mt_values.specs.Grammar.{same_bytes}
use Rattle.history_seat.specs.Views.{Begins}
use Rattle.root_commits.specs.durable_commit.Commits.{entry_of}
use Rattle.root_commits.specs.mt_model.History.{History, first_of, schema_of}
use Rattle.root_commits.proofs.MtModelHistories.{schema_more}
use Rattle.root_commits.proofs.MtModelTables.{itself_same}
use Rattle.root_commits.specs.part_reader.declared.reading.Part.{Part}
use Rattle.root_commits.specs.root_store.declared.store.CoreStore.{CoreStore}
use Rattle.root_commits.specs.root_store.declared.store.Table.{Table}
use Rattle.root_commits.specs.root_store.Stores.{fresh_table, table_at}
use Rattle.root_commits.specs.Commits.{EntersPart, EntersTable}
use Rattle.root_commits.proofs.Updated.{IsItOr, it_or}
use Rattle.shared_store.specs.Engines.{schema_kept}
use Rattle.shared_store.specs.Sharing.{Fits, schema_there}

-- ---- the schema of a table, as a list goes on

first_three : {X : Type 0} (a b c : Option X) → first_of a (first_of b c) ≡ first_of (first_of a b) c
first_three None b c = refl
first_three (Some x) b c = refl

pub first_none : {X : Type 0} (a : Option X) → first_of a None ≡ a
first_none None = refl
first_none (Some x) = refl

module _ (tables : List ℕ → Option Schema) where
  pub there_with : (list more : History) (table : List ℕ) → schema_there tables (list ++ more) table ≡ first_of (schema_there tables list table) (schema_of table more)
  there_with list more table = ap (first_of (tables table)) (schema_more table list more) ∙ first_three (tables table) (schema_of table list) (schema_of table more)

  -- what is there stays there
  pub there_more : (list more : History) (table : List ℕ) (schema : Schema) → schema_there tables list table ≡ Some schema → schema_there tables (list ++ more) table ≡ Some schema
  there_more list more table schema is = there_with list more table ∙ ap (λ (o : Option Schema). first_of o (schema_of table more)) is

  pub there_begins : (front list : History) (table : List ℕ) (schema : Schema) → Begins front list → schema_there tables front table ≡ Some schema → schema_there tables list table ≡ Some schema
  there_begins front list table schema b is = subst (λ (l : History). schema_there tables l table ≡ Some schema) b.1 (there_more front b.0 table schema is)

-- what a CREATE gives its table, and others
made_schema : (session : ℕ) (create : Create) → schema_of create.table (entry_of session (command.Create create) ∷ []) ≡ Some create.schema
made_schema session create = ap (λ (b : Bool). first_of (cond b (Some create.schema) None) None) (itself_same create.table)

other_schema : (session : ℕ) (create : Create) (table : List ℕ) → same_bytes create.table table ≡ false → schema_of table (entry_of session (command.Create create) ∷ []) ≡ None
other_schema session create table differ = ap (λ (b : Bool). first_of (cond b (Some create.schema) None) None) differ

-- ---- whether a store fits

module _ {F : Type 0} (before : History) (tables : List ℕ → Option Schema) (list : History) (old new : CoreStore F) (fits : Fits before tables list old) where
  -- the same tables
  pub fits_kept : new.tables.entries ≡ old.tables.entries → new.length ≡ old.length → Fits before tables list new
  fits_kept same long = record {
    length_is = long ∙ fits.length_is;
    schemas = λ u. ap (λ (es : List (List ℕ × Table)). schema_kept (lookup (is_at (slice_cmp nat_cmp u)) es)) same ∙ fits.schemas u;
  }

  longer : (e : Entry) → new.length ≡ old.length + 1 → new.length ≡ length before + length (list ++ e ∷ [])
  longer e long = let l = length-append list (e ∷ []) in let was = fits.length_is in omega (arith, long, was, l)

  -- a table more
  module _ (session : ℕ) (create : Create) (enters : EntersTable create.table create.schema old new) where
    abbrev made : Entry
    made = entry_of session (command.Create create)

    pub fits_created : Fits before tables (list ++ made ∷ []) new
    fits_created = record { length_is = longer made enters.length_is; schemas = λ u. by u (it_or old new create.table (Some (fresh_table create.schema)) enters.updates u) }
      where
        absent : schema_there tables list create.table ≡ None
        absent = sym (fits.schemas create.table) ∙ ap schema_kept enters.absent

        here : schema_kept (table_at new create.table) ≡ schema_there tables (list ++ made ∷ []) create.table
        here =
            ap schema_kept enters.updates.1
            ∙ sym (there_with tables list (made ∷ []) create.table ∙ (ap (λ (o : Option Schema). first_of o (schema_of create.table (made ∷ []))) absent ∙ made_schema session create))

        by : (u : List ℕ) → IsItOr old new create.table (Some (fresh_table create.schema)) enters.updates u → schema_kept (table_at new u) ≡ schema_there tables (list ++ made ∷ []) u
        by u (inl same) = subst (λ (v : List ℕ). schema_kept (table_at new v) ≡ schema_there tables (list ++ made ∷ []) v) same here
        by u (inr other) =
            ap schema_kept other.1 ∙ (fits.schemas u
            ∙ sym (there_with tables list (made ∷ []) u ∙ (ap (first_of (schema_there tables list u)) (other_schema session create u other.0) ∙ first_none (schema_there tables list u))))

  -- a number more was drawn
  module _ (session : ℕ) (i : Insert) (partition : Partition) (part : Part F) (t : Table) (table : List ℕ) (enters : EntersPart table partition part t old new) where
    abbrev added : Entry
    added = entry_of session (command.Insert i)

    pub fits_added : Fits before tables (list ++ added ∷ []) new
    fits_added = record { length_is = longer added enters.length_is; schemas = λ u. by u (it_or old new table (Some more) enters.updates u) }
      where
        more : Table
        more = record { schema = t.schema; drawn = t.drawn + 1 }

        stays : (u : List ℕ) → schema_there tables list u ≡ schema_there tables (list ++ added ∷ []) u
        stays u = sym (there_with tables list (added ∷ []) u ∙ first_none (schema_there tables list u))

        by : (u : List ℕ) → IsItOr old new table (Some more) enters.updates u → schema_kept (table_at new u) ≡ schema_there tables (list ++ added ∷ []) u
        by u (inl same) =
            subst (λ (v : List ℕ). schema_kept (table_at new v) ≡ schema_there tables (list ++ added ∷ []) v) same
            (ap schema_kept enters.updates.1 ∙ (sym (ap schema_kept enters.there) ∙ (fits.schemas table ∙ stays table)))
        by u (inr other) = ap schema_kept other.1 ∙ (fits.schemas u ∙ stays u)

-- ---- tables by what is there

pub table_of : {F : Type 0} (store : CoreStore F) (table : List ℕ) (schema : Schema) → schema_kept (table_at store table) ≡ Some schema → (t : Table) × (table_at store table ≡ Some t) × (t.schema ≡ schema)
table_of store table schema is = by (table_at store table) refl is
  where
    by : (o : Option Table) → table_at store table ≡ o → schema_kept o ≡ Some schema → (t : Table) × (table_at store table ≡ Some t) × (t.schema ≡ schema)
    by (Some t) at some = (t, at, (let same : t.schema ≡ schema = cc in same))
    by None none some = cc
