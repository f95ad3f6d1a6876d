-- Which commands may come next: the schema that a CREATE writes is one that a table may have, and the rows of an INSERT are its table's.
use Rattle.std.proofs.Common.{◌≡◌, ℕ, ◌<◌, Bool, true, false, cond, List, [], ◌∷◌, ◌++◌, Option, Some, None, Result, Ok, Err, filter, length, All, refl, ap, subst, arith, suc, nat_lt, is_some}
use Rattle.std.proofs.lemmas.Bool.{leb-true}
use Rattle.std.proofs.lemmas.List.Elements.{All-nil, All-cons, All-filter, All-weaker, filter_passes}
use Rattle.std.proofs.lemmas.List.Quantifiers.{position-Some}
use Rattle.std.specs.List.{cons_option}
use Rattle.std.specs.Option.{option_map}
use Rattle.std.specs.Cmp.Lexicographic.{pointwise_decides}
use Rattle.std.proofs.lemmas.Bool.Decides.{Decides-eqb}
use Rattle.mt_values.specs.declared.command.Command.TheVariants as command
use Rattle.mt_base.specs.declared.partition.Partition.{Partition}
use Rattle.mt_values.specs.declared.schema.Column.{Column}
use Rattle.mt_values.specs.declared.schema.KeyOrder.TheVariants.{SortingFirst}
use Rattle.mt_values.specs.declared.schema.Schema.{Schema}
use Rattle.mt_values.specs.declared.schema.SchemaFault.{SchemaFault}
use Rattle.mt_values.specs.declared.value.ColType.TheVariants.{UInt8}
use Rattle.mt_values.specs.declared.statement.CreateText.{CreateText}
use Rattle.mt_values.specs.Values.{AreValues, IsValue, Row, types_of}
use Rattle.mt_values.specs.Tables.{has_sign, partition_of, same_partition}
use Rattle.mt_values.specs.Grammar.{columns_of, same_bytes}
use Rattle.mt_values.specs.Grid.{AreRowsOf}
use Rattle.mt_values.specs.Schemas.{schema_fault_as}
use Rattle.mt_values.proofs.KeyOrders.{sound_in_any_order}
use Rattle.mt_model.specs.declared.refusal.Bound.{Bound}
use Rattle.mt_model.specs.declared.refusal.Bound.TheVariants as bound
use Rattle.mt_model.specs.declared.refusal.Refusal.{Refusal}
use Rattle.mt_model.specs.declared.refusal.Refusal.TheVariants as refusal
use Rattle.mt_model.specs.Commands.{insert_command, rows_in}
use Rattle.mt_model.specs.History.{History, schema_of, creates, column_types, IsAllowed, IsTableSchema}
use Rattle.mt_model.proofs.Commands.{partition_is}
use Rattle.mt_model.specs.Clauses.{NamesKeys, column_place, first_key, first_unknown, indexed_names, mentioned, names_of_engine, names_of_text, places_named, primary_names, schema_of_create, sorting_names}
use Rattle.mt_model.specs.Reply.{first_passed, first_refusal, refusal_of_schema, unless_refused, schema_of_text, create_turn}
use Rattle.mt_model.proofs.ElementLists.{few_elements, written_few, written_own}
use Rattle.mt_model.proofs.Naming.{primary_known, rest_known, sorting_known}

-- ---- keys

-- what is given is so
abbrev Gives : {A : Type 0} → (A → Type 0) → Result A Refusal → Type 0
Gives P (Ok x) = P x
Gives P (Err why) = Unit {0}

given : {A : Type 0} (P : A → Type 0) (r : Result A Refusal) (x : A) → r ≡ Ok x → Gives P r → P x
given {A} P r x is h = subst (λ (z : Result A Refusal). Gives P z) is h

pub same_is : (a b : List ℕ) → same_bytes a b ≡ true → a ≡ b
same_is a b same = (pointwise_decides Decides-eqb a b).0 same

pub itself_same : (a : List ℕ) → same_bytes a a ≡ true
itself_same a = (pointwise_decides Decides-eqb a a).1 refl

any_column : Column
any_column = record { name = []; col_type = UInt8; function = None }

-- the places of names are below the number of columns
places_below : (columns : List Column) (names : List (List ℕ)) → All (λ place. place < length columns) (places_named columns names)
places_below columns [] = All-nil (λ place. place < length columns)
places_below columns (name ∷ names) = by (column_place columns name) refl (places_below columns names)
  where
    by : (o : Option ℕ) → column_place columns name ≡ o → All (λ place. place < length columns) (places_named columns names) → All (λ place. place < length columns) (cons_option o (places_named columns names))
    by None is rest = rest
    by (Some place) is rest =
        All-cons (λ p. p < length columns) place (places_named columns names) (position-Some (λ (c : Column). same_bytes c.name name) columns place any_column is).0 rest

-- each name has one, where each is a column's
as_many : (columns : List Column) (names : List (List ℕ)) → first_unknown columns names ≡ None → length (places_named columns names) ≡ length names
as_many columns [] none = refl
as_many columns (name ∷ names) none = by (column_place columns name) (as_many columns names) none
  where
    by : (o : Option ℕ) → (first_unknown columns names ≡ None → length (places_named columns names) ≡ length names) → cond (is_some o) (first_unknown columns names) (Some name) ≡ None → length (cons_option o (places_named columns names)) ≡ suc (length names)
    by None more none = cc
    by (Some place) more none = ap suc (more none)

-- ---- the schema of a CREATE

-- the schema that a CREATE writes is one that a table may have, where each of its keys names a column
pub schema_is : (c : CreateText) (schema : Schema) → schema_of_text c ≡ Ok schema → NamesKeys c.clauses → IsTableSchema schema
schema_is c schema is keys =
    given IsTableSchema (schema_of_text c) schema is
    (by (first_unknown (columns_of c.elements) (names_of_text c)) (schema_fault_as (first_key c.clauses) (schema_of_create c)) (first_passed [] c.elements) refl refl refl)
  where
    by : (o : Option (List ℕ)) (f : Option SchemaFault) (p : Option Bound) → first_unknown (columns_of c.elements) (names_of_text c) ≡ o → schema_fault_as (first_key c.clauses) (schema_of_create c) ≡ f → first_passed [] c.elements ≡ p
        → Gives IsTableSchema (unless_refused (first_refusal (option_map refusal.NoColumn o) (first_refusal (option_map (refusal_of_schema (schema_of_create c)) f) (option_map refusal.Past p))) (schema_of_create c))
    by (Some name) f p d e g = tt
    by None (Some fault) p d e g = tt
    by None None (Some passed) d e g = tt
    by None None None d e g =
        let columns : List Column = columns_of c.elements in
        let in_clauses : first_unknown columns (mentioned c.clauses) ≡ None = rest_known columns (names_of_engine c.engine) (mentioned c.clauses) (rest_known columns (indexed_names c.elements) (names_of_engine c.engine ++ mentioned c.clauses) d) in
        let sorting_long = as_many columns (sorting_names c.clauses) (sorting_known columns c.clauses in_clauses) in
        let primary_long = as_many columns (primary_names c.clauses) (primary_known columns c.clauses in_clauses) in
        let few = few_elements c.elements g in
        record {
          sound = sound_in_any_order (first_key c.clauses) SortingFirst (schema_of_create c) e;
          key = omega (arith, sorting_long, keys.sorting);
          primary = omega (arith, primary_long, keys.primary);
          own = places_below columns (sorting_names c.clauses);
          few = few.columns;
          indexed = written_own columns c.elements;
          few_indexes = omega (arith, written_few columns c.elements, few.indexes);
        }

-- ---- commands

turn_is : (table : List ℕ) (h : History) → create_turn table h ≡ None → (schema_of table h ≡ None) × (creates h < 64)
turn_is table h none = by (schema_of table h) (nat_lt (creates h) 64) refl refl none
  where
    by : (o : Option Schema) (b : Bool) → schema_of table h ≡ o → nat_lt (creates h) 64 ≡ b → cond (is_some o) (Some (refusal.TableExists table)) (cond b None (Some (refusal.Past bound.Tables))) ≡ None → (schema_of table h ≡ None) × (creates h < 64)
    by (Some schema) b e f none = cc
    by None false e f none = cc
    by None true e f none = (e, leb-true (suc (creates h)) 64 f)

-- a CREATE whose text and turn refuse nothing is allowed
pub create_allowed : (c : CreateText) (h : History) (schema : Schema) → schema_of_text c ≡ Ok schema → create_turn c.table h ≡ None → NamesKeys c.clauses → IsAllowed h (command.Create (record { table = c.table; schema = schema }))
create_allowed c h schema is turn keys =
    let free = turn_is c.table h turn in
    let few : creates h < 64 = free.1 in
    (free.0, omega arith, schema_is c schema is keys)

-- so is the command that adds to a table those of some rows that are of a partition, where there are any
pub command_allowed : (h : History) (table : List ℕ) (schema : Schema) (rows : List Row) (partition : Partition) → schema_of table h ≡ Some schema → 0 < length (rows_in schema partition rows) → AreRowsOf (column_types schema) rows → AreValues rows → All (λ (row : Row). has_sign schema row ≡ true) rows
    → IsAllowed h (insert_command schema table rows partition)
command_allowed h table schema rows partition there some typed values signed =
    let own : Row → Bool = λ (row : Row). same_partition (partition_of schema row) partition in (
      schema,
      there,
      record {
        some = some;
        types = refl;
        rows = All-filter own (λ (row : Row). types_of row ≡ column_types schema) rows typed;
        values = All-filter own (λ (row : Row). All IsValue row) rows values;
        signed = All-filter own (λ (row : Row). has_sign schema row ≡ true) rows signed;
        own = All-weaker (λ (row : Row). own row ≡ true) (λ (row : Row). partition_of schema row ≡ partition) (λ row is. partition_is (partition_of schema row) partition is) (filter own rows) (filter_passes own rows);
      },
    )
