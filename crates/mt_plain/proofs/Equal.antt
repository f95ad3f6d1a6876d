-- What `==` of values, rows and schemas says.
use Rattle.std.proofs.Common.{◌≡◌, ℕ, Bool, true, false, Decides, List, Option, Some, None, ap, ap₂, nat_eq, refl, ◌&&◌, ◌∙◌}
use Rattle.std.specs.Option.{option_eq}
use Rattle.std.specs.Cmp.Lexicographic.{pointwise, pointwise_decides}
use Rattle.std.proofs.lemmas.Bool.Decides.{Decides-eqb, Decides-int_eq, Decides-like, Decides-and, Decides-at}
use Rattle.mt_values.specs.declared.value.ColType.{ColType}
use Rattle.mt_values.specs.declared.command.Create.{Create}
use Rattle.mt_values.specs.declared.engine.Aggregate.{Aggregate}
use Rattle.mt_values.specs.declared.engine.Aggregate.TheVariants as aggregate
use Rattle.mt_values.specs.declared.engine.Engine.{Engine}
use Rattle.mt_values.specs.declared.engine.Engine.TheVariants as engine
use Rattle.mt_values.specs.declared.schema.Column.{Column}
use Rattle.mt_values.specs.declared.schema.IndexKind.{IndexKind}
use Rattle.mt_values.specs.declared.schema.IndexKind.TheVariants as kind
use Rattle.mt_values.specs.declared.schema.Schema.{Schema}
use Rattle.mt_values.specs.declared.schema.SkipIndex.{SkipIndex}
use Rattle.mt_values.specs.declared.value.Value.{Value}
use Rattle.mt_values.specs.declared.value.Value.TheVariants.{UInt8, UInt16, UInt32, UInt64, Int8, Int16, Int32, Int64, Text}
use Rattle.mt_values.specs.Values.{Row}
use Rattle.mt_values.proofs.SameTypes.{type_same}
use Rattle.mt_values.specs.contracts.value.ValuePartialEq.TheImpl as values
use Rattle.mt_values.specs.contracts.value.ColTypePartialEq.TheImpl as types
use Rattle.mt_values.specs.contracts.engine.AggregatePartialEq.TheImpl as aggregates
use Rattle.mt_values.specs.contracts.engine.EnginePartialEq.TheImpl as engines
use Rattle.mt_values.specs.contracts.schema.ColumnPartialEq.TheImpl as columns
use Rattle.mt_values.specs.contracts.schema.IndexKindPartialEq.TheImpl as kinds
use Rattle.mt_values.specs.contracts.schema.SkipIndexPartialEq.TheImpl as indexes
use Rattle.mt_values.specs.contracts.schema.SchemaPartialEq.TheImpl as schemas

-- two names
pub texts_same : (a b : List ℕ) → Decides (pointwise nat_eq a b) (a ≡ b)
texts_same a b = pointwise_decides Decides-eqb a b

pub value_same : (x y : Value) → Decides (values.eq-value.it x y) (x ≡ y)
value_same (UInt8 m) (UInt8 n) = Decides-like (nat_eq m n) (ap UInt8) (λ e. cc) (Decides-eqb m n)
value_same (UInt16 m) (UInt16 n) = Decides-like (nat_eq m n) (ap UInt16) (λ e. cc) (Decides-eqb m n)
value_same (UInt32 m) (UInt32 n) = Decides-like (nat_eq m n) (ap UInt32) (λ e. cc) (Decides-eqb m n)
value_same (UInt64 m) (UInt64 n) = Decides-like (nat_eq m n) (ap UInt64) (λ e. cc) (Decides-eqb m n)
value_same (Int8 m) (Int8 n) = Decides-like _ (ap Int8) (λ e. cc) (Decides-int_eq m n)
value_same (Int16 m) (Int16 n) = Decides-like _ (ap Int16) (λ e. cc) (Decides-int_eq m n)
value_same (Int32 m) (Int32 n) = Decides-like _ (ap Int32) (λ e. cc) (Decides-int_eq m n)
value_same (Int64 m) (Int64 n) = Decides-like _ (ap Int64) (λ e. cc) (Decides-int_eq m n)
value_same (Text m) (Text n) = Decides-like _ (ap Text) (λ e. cc) (texts_same m n)
value_same x y = (λ e. cc, λ e. cc)

row_same : (a b : Row) → Decides (pointwise values.eq-value.it a b) (a ≡ b)
row_same a b = pointwise_decides value_same a b

-- two lists of rows
pub rows_same : (a b : List Row) → Decides (pointwise (pointwise values.eq-value.it) a b) (a ≡ b)
rows_same a b = pointwise_decides row_same a b

-- two functions of columns, or none
aggregate_same : (x y : Aggregate) → Decides (aggregates.eq-value.it x y) (x ≡ y)
aggregate_same aggregate.Any aggregate.Any = (λ e. refl, λ e. refl)
aggregate_same aggregate.AnyLast aggregate.AnyLast = (λ e. refl, λ e. refl)
aggregate_same aggregate.Min aggregate.Min = (λ e. refl, λ e. refl)
aggregate_same aggregate.Max aggregate.Max = (λ e. refl, λ e. refl)
aggregate_same aggregate.Sum aggregate.Sum = (λ e. refl, λ e. refl)
aggregate_same aggregate.BitAnd aggregate.BitAnd = (λ e. refl, λ e. refl)
aggregate_same aggregate.BitOr aggregate.BitOr = (λ e. refl, λ e. refl)
aggregate_same aggregate.BitXor aggregate.BitXor = (λ e. refl, λ e. refl)
aggregate_same x y = (λ e. cc, λ e. cc)

function_same : (a b : Option Aggregate) → Decides (option_eq aggregates.eq-value.it a b) (a ≡ b)
function_same None None = (λ e. refl, λ e. refl)
function_same None (Some f) = (λ e. cc, λ e. cc)
function_same (Some f) None = (λ e. cc, λ e. cc)
function_same (Some f) (Some g) = Decides-like (aggregates.eq-value.it f g) (ap Some) (λ e. cc) (aggregate_same f g)

-- columns with the same fields
record SameColumns (x y : Column) : Type 0 where
  name : x.name ≡ y.name
  col_type : x.col_type ≡ y.col_type
  function : x.function ≡ y.function

one_column : (x y : Column) → SameColumns x y → x ≡ y
one_column x y s =
    let with : List ℕ → ColType → Option Aggregate → Column = λ n t f. record { name = n; col_type = t; function = f } in
    ap₂ (λ (n : List ℕ) (t : ColType). with n t x.function) s.name s.col_type
    ∙ ap (λ (f : Option Aggregate). with y.name y.col_type f) s.function

column_same : (x y : Column) → Decides (columns.eq-value.it x y) (x ≡ y)
column_same x y =
    let names_are = pointwise nat_eq x.name y.name in
    let types_are = types.eq-value.it x.col_type y.col_type in
    let functions_are = option_eq aggregates.eq-value.it x.function y.function in
    Decides-like (names_are && (types_are && functions_are))
    (λ p. one_column x y (record { name = p.0; col_type = p.1.0; function = p.1.1 }))
    (λ e. (ap (λ (c : Column). c.name) e, (ap (λ (c : Column). c.col_type) e, ap (λ (c : Column). c.function) e)))
    (Decides-and names_are (types_are && functions_are) (texts_same x.name y.name)
    (Decides-and types_are functions_are (type_same x.col_type y.col_type) (function_same x.function y.function)))

-- two kinds of indexes
kind_same : (x y : IndexKind) → Decides (kinds.eq-value.it x y) (x ≡ y)
kind_same kind.MinMax kind.MinMax = (λ e. refl, λ e. refl)
kind_same (kind.Set m) (kind.Set n) = Decides-like (nat_eq m n) (ap kind.Set) (λ e. cc) (Decides-eqb m n)
kind_same x y = (λ e. cc, λ e. cc)

-- indexes with the same fields
record SameIndexes (x y : SkipIndex) : Type 0 where
  name : x.name ≡ y.name
  column : x.column ≡ y.column
  kind : x.kind ≡ y.kind
  granularity : x.granularity ≡ y.granularity

one_index : (x y : SkipIndex) → SameIndexes x y → x ≡ y
one_index x y s =
    let with : List ℕ → ℕ → IndexKind → ℕ → SkipIndex = λ n c k g. record { name = n; column = c; kind = k; granularity = g } in
    ap₂ (λ (n : List ℕ) (c : ℕ). with n c x.kind x.granularity) s.name s.column
    ∙ ap₂ (λ (k : IndexKind) (g : ℕ). with y.name y.column k g) s.kind s.granularity

-- two indexes
index_same : (x y : SkipIndex) → Decides (indexes.eq-value.it x y) (x ≡ y)
index_same x y =
    let names_are = pointwise nat_eq x.name y.name in
    let columns_are = nat_eq x.column y.column in
    let kinds_are = kinds.eq-value.it x.kind y.kind in
    let granules_are = nat_eq x.granularity y.granularity in
    Decides-like (names_are && (columns_are && (kinds_are && granules_are)))
    (λ p. one_index x y (record { name = p.0; column = p.1.0; kind = p.1.1.0; granularity = p.1.1.1 }))
    (λ e. (ap (λ (i : SkipIndex). i.name) e, (ap (λ (i : SkipIndex). i.column) e, (ap (λ (i : SkipIndex). i.kind) e, ap (λ (i : SkipIndex). i.granularity) e))))
    (Decides-and names_are (columns_are && (kinds_are && granules_are)) (texts_same x.name y.name)
    (Decides-and columns_are (kinds_are && granules_are) (Decides-eqb x.column y.column)
    (Decides-and kinds_are granules_are (kind_same x.kind y.kind) (Decides-eqb x.granularity y.granularity))))

-- two places of a partition column, or none
partition_same : (a b : Option ℕ) → Decides (option_eq nat_eq a b) (a ≡ b)
partition_same None None = (λ e. refl, λ e. refl)
partition_same None (Some n) = (λ e. cc, λ e. cc)
partition_same (Some m) None = (λ e. cc, λ e. cc)
partition_same (Some m) (Some n) = Decides-like (nat_eq m n) (ap Some) (λ e. cc) (Decides-eqb m n)

-- two engines
engine_same : (x y : Engine) → Decides (engines.eq-value.it x y) (x ≡ y)
engine_same engine.Plain engine.Plain = (λ e. refl, λ e. refl)
engine_same (engine.Replacing m) (engine.Replacing n) = Decides-like (option_eq nat_eq m n) (ap engine.Replacing) (λ e. cc) (partition_same m n)
engine_same (engine.Summing m) (engine.Summing n) = Decides-like (pointwise nat_eq m n) (ap engine.Summing) (λ e. cc) (texts_same m n)
engine_same (engine.Collapsing m) (engine.Collapsing n) = Decides-like (nat_eq m n) (ap engine.Collapsing) (λ e. cc) (Decides-eqb m n)
engine_same (engine.Versioned m v) (engine.Versioned n w) =
    Decides-like (nat_eq m n && nat_eq v w) (λ p. ap₂ engine.Versioned p.0 p.1) (λ e. (cc, cc))
    (Decides-and (nat_eq m n) (nat_eq v w) (Decides-eqb m n) (Decides-eqb v w))
engine_same engine.Aggregating engine.Aggregating = (λ e. refl, λ e. refl)
engine_same x y = (λ e. cc, λ e. cc)

-- schemas with the same fields
record SameFields (x y : Schema) : Type 0 where
  columns : x.columns ≡ y.columns
  engine : x.engine ≡ y.engine
  key : x.key ≡ y.key
  primary : x.primary ≡ y.primary
  partition : x.partition ≡ y.partition
  granularity : x.granularity ≡ y.granularity
  indexes : x.indexes ≡ y.indexes

one_schema : (x y : Schema) → SameFields x y → x ≡ y
one_schema x y s =
    let with : List Column → Engine → List ℕ → List ℕ → Option ℕ → ℕ → List SkipIndex → Schema = λ c e k p o g is. record { columns = c; engine = e; key = k; primary = p; partition = o; granularity = g; indexes = is } in
    ap₂ (λ (c : List Column) (e : Engine). with c e x.key x.primary x.partition x.granularity x.indexes) s.columns s.engine
    ∙ (ap₂ (λ (k p : List ℕ). with y.columns y.engine k p x.partition x.granularity x.indexes) s.key s.primary
    ∙ (ap₂ (λ (o : Option ℕ) (g : ℕ). with y.columns y.engine y.key y.primary o g x.indexes) s.partition s.granularity
    ∙ ap (λ (is : List SkipIndex). with y.columns y.engine y.key y.primary y.partition y.granularity is) s.indexes))

-- two schemas
schema_same : (x y : Schema) → Decides (schemas.eq-value.it x y) (x ≡ y)
schema_same x y =
    let columns_are = pointwise columns.eq-value.it x.columns y.columns in
    let engines_are = engines.eq-value.it x.engine y.engine in
    let keys_are = pointwise nat_eq x.key y.key in
    let primaries_are = pointwise nat_eq x.primary y.primary in
    let partitions_are = option_eq nat_eq x.partition y.partition in
    let granules_are = nat_eq x.granularity y.granularity in
    let indexes_are = pointwise indexes.eq-value.it x.indexes y.indexes in
    let rest_are = keys_are && (primaries_are && (partitions_are && (granules_are && indexes_are))) in
    Decides-like (columns_are && (engines_are && rest_are))
    (λ p. one_schema x y (record { columns = p.0; engine = p.1.0; key = p.1.1.0; primary = p.1.1.1.0; partition = p.1.1.1.1.0; granularity = p.1.1.1.1.1.0; indexes = p.1.1.1.1.1.1 }))
    (λ e. (ap (λ (c : Schema). c.columns) e, (ap (λ (c : Schema). c.engine) e, (ap (λ (c : Schema). c.key) e, (ap (λ (c : Schema). c.primary) e, (ap (λ (c : Schema). c.partition) e, (ap (λ (c : Schema). c.granularity) e, ap (λ (c : Schema). c.indexes) e)))))))
    (Decides-and columns_are (engines_are && rest_are) (pointwise_decides column_same x.columns y.columns)
    (Decides-and engines_are rest_are (engine_same x.engine y.engine)
    (Decides-and keys_are (primaries_are && (partitions_are && (granules_are && indexes_are))) (texts_same x.key y.key)
    (Decides-and primaries_are (partitions_are && (granules_are && indexes_are)) (texts_same x.primary y.primary)
    (Decides-and partitions_are (granules_are && indexes_are) (partition_same x.partition y.partition)
    (Decides-and granules_are indexes_are (Decides-eqb x.granularity y.granularity) (pointwise_decides index_same x.indexes y.indexes)))))))

-- two tables to be made, of one name or of two
pub creates_alike : (x y : Create) (r : Bool) → pointwise nat_eq x.table y.table ≡ true → r ≡ schemas.eq-value.it x.schema y.schema → Decides r (x ≡ y)
creates_alike x y r named is =
    let table : x.table ≡ y.table = (texts_same x.table y.table).0 named in
    Decides-at r (schemas.eq-value.it x.schema y.schema) is
    (Decides-like (schemas.eq-value.it x.schema y.schema) (λ s. ap₂ (λ (t : List ℕ) (s : Schema). record { table = t; schema = s }) table s) (ap (λ (c : Create). c.schema)) (schema_same x.schema y.schema))

pub creates_apart : (x y : Create) (r : Bool) → r ≡ pointwise nat_eq x.table y.table → r ≡ false → Decides r (x ≡ y)
creates_apart x y r is other = (λ e. cc, λ e. is ∙ (texts_same x.table y.table).1 (ap (λ (c : Create). c.table) e))
