-- The statements of the grammar, production by production (docs/grammar.md, "Statements").
use Rattle.std.specs.Prelude.{ℕ, zero, suc, Bool, true, false, not, ◌&&◌, ◌||◌, ◌==◌, nat_le, nat_lt, List, [], ◌∷◌, ◌++◌, length, Option, Some, None, Result, Ok, Err, if◌then◌else◌, codes}
use Rattle.std.specs.Cmp.Lexicographic.{pointwise}
use Rattle.std.specs.List.{filter_map, list_any}
use Rattle.mt_values.specs.declared.expr.Comparison.{Comparison}
use Rattle.mt_values.specs.declared.expr.Comparison.TheVariants as comparison
use Rattle.mt_values.specs.declared.expr.Literal.{Literal}
use Rattle.mt_values.specs.declared.expr.LiteralText.TheVariants as literal_text
use Rattle.mt_values.specs.declared.expr.TestText.{TestText}
use Rattle.mt_values.specs.declared.value.ColType.{ColType}
use Rattle.mt_values.specs.declared.value.ColType.TheVariants as type
use Rattle.mt_values.specs.declared.schema.Column.{Column}
use Rattle.mt_values.specs.declared.token.Placed.{Placed}
use Rattle.mt_values.specs.declared.token.Symbol.{Symbol}
use Rattle.mt_values.specs.declared.token.Symbol.TheVariants as symbol
use Rattle.mt_values.specs.declared.token.Token.{Token}
use Rattle.mt_values.specs.declared.token.Token.TheVariants as token
use Rattle.mt_values.specs.declared.statement.Cause.{Cause}
use Rattle.mt_values.specs.declared.statement.Cause.TheVariants as cause
use Rattle.mt_values.specs.declared.statement.Clause.{Clause}
use Rattle.mt_values.specs.declared.statement.Clause.TheVariants as clause
use Rattle.mt_values.specs.declared.engine.Aggregate.{Aggregate}
use Rattle.mt_values.specs.declared.engine.Aggregate.TheVariants as aggregate
use Rattle.mt_values.specs.declared.statement.EngineText.{EngineText}
use Rattle.mt_values.specs.declared.statement.EngineText.TheVariants as engine_text
use Rattle.mt_values.specs.declared.statement.Element.{Element}
use Rattle.mt_values.specs.declared.statement.Element.TheVariants as element
use Rattle.mt_values.specs.declared.statement.IndexText.{IndexText}
use Rattle.mt_values.specs.declared.statement.KindText.{KindText}
use Rattle.mt_values.specs.declared.statement.KindText.TheVariants as kind
use Rattle.mt_values.specs.declared.statement.SelectText.{SelectText}
use Rattle.mt_values.specs.declared.statement.Selected.{Selected}
use Rattle.mt_values.specs.declared.statement.Selected.TheVariants as selected
use Rattle.mt_values.specs.declared.statement.Slip.{Slip}
use Rattle.mt_values.specs.declared.statement.Slip.TheVariants as slip
use Rattle.mt_values.specs.declared.statement.Statement.{Statement}
use Rattle.mt_values.specs.declared.statement.Statement.TheVariants as statement
pub use Rattle.mt_base.specs.Limits.{statement_limit}
use Rattle.mt_base.specs.Limits.{depth_limit, name_limit}
use Rattle.mt_values.specs.Tokens.{is_keyword, tokens_of}
use Rattle.mt_values.specs.Conditions.{Condition, Always, And, Holds, Not, Or}
use Rattle.mt_values.specs.Readers.{Reader, Reading, Test, Part, done, either, expect, choose, here, listed}

-- equal bytes
abbrev pub same_bytes : List ℕ → List ℕ → Bool
same_bytes a b = pointwise ◌==◌ a b

-- words that are no names, in any case of their letters
abbrev pub is_reserved : List ℕ → Bool
is_reserved word =
    is_keyword (codes "AND") word || is_keyword (codes "OR") word || is_keyword (codes "NOT") word || is_keyword (codes "IN") word
    || is_keyword (codes "FROM") word || is_keyword (codes "FINAL") word || is_keyword (codes "WHERE") word || is_keyword (codes "INDEX") word

-- a name is not too long
abbrev pub fits_name : List ℕ → Bool
fits_name name = nat_le (length name) name_limit

-- ---- single tokens

-- a word that passes a test
abbrev pub is_word : (List ℕ → Bool) → Token → Bool
is_word test (token.Word w) = test w
is_word test (token.Number n) = false
is_word test (token.Text t) = false
is_word test (token.Symbol s) = false
is_word test token.Stray = false

-- both are one symbol
abbrev pub same_symbol : Symbol → Symbol → Bool
same_symbol symbol.Open symbol.Open = true
same_symbol symbol.Close symbol.Close = true
same_symbol symbol.Comma symbol.Comma = true
same_symbol symbol.Equal symbol.Equal = true
same_symbol symbol.NotEqual symbol.NotEqual = true
same_symbol symbol.Less symbol.Less = true
same_symbol symbol.LessOrEqual symbol.LessOrEqual = true
same_symbol symbol.Greater symbol.Greater = true
same_symbol symbol.GreaterOrEqual symbol.GreaterOrEqual = true
same_symbol symbol.Star symbol.Star = true
same_symbol symbol.Plus symbol.Plus = true
same_symbol symbol.Minus symbol.Minus = true
same_symbol symbol.Semicolon symbol.Semicolon = true
same_symbol s t = false

abbrev pub is_symbol : Symbol → Token → Bool
is_symbol s (token.Word w) = false
is_symbol s (token.Number n) = false
is_symbol s (token.Text t) = false
is_symbol s (token.Symbol t) = same_symbol s t
is_symbol s token.Stray = false

-- a token that passes, or a faulty one
abbrev pub passing : Bool → Result (Unit {0}) Slip
passing true = Ok tt
passing false = Err slip.Wrong

-- a keyword, in any case of its letters
abbrev pub keyword : List ℕ → Test (Unit {0})
keyword k t = passing (is_word (is_keyword k) t)

-- a word as it is written
abbrev pub exactly : List ℕ → Test (Unit {0})
exactly w t = passing (is_word (same_bytes w) t)

abbrev pub the : Symbol → Test (Unit {0})
the s t = passing (is_symbol s t)

abbrev pub name_of : List ℕ → Result (List ℕ) Slip
name_of word =
    if is_reserved word then Err slip.Wrong
    else if fits_name word then Ok word
    else Err slip.LongName

-- a name: a word that is not reserved, and not too long
abbrev pub name : Test (List ℕ)
name (token.Word w) = name_of w
name (token.Number n) = Err slip.Wrong
name (token.Text t) = Err slip.Wrong
name (token.Symbol s) = Err slip.Wrong
name token.Stray = Err slip.Wrong

-- a type as it is written
abbrev pub type_named : List ℕ → Result ColType Slip
type_named word =
    if same_bytes word (codes "UInt8") then Ok type.UInt8
    else if same_bytes word (codes "UInt16") then Ok type.UInt16
    else if same_bytes word (codes "UInt32") then Ok type.UInt32
    else if same_bytes word (codes "UInt64") then Ok type.UInt64
    else if same_bytes word (codes "Int8") then Ok type.Int8
    else if same_bytes word (codes "Int16") then Ok type.Int16
    else if same_bytes word (codes "Int32") then Ok type.Int32
    else if same_bytes word (codes "Int64") then Ok type.Int64
    else if same_bytes word (codes "String") then Ok type.Text
    else Err slip.Wrong

abbrev pub plain : Test ColType
plain (token.Word w) = type_named w
plain (token.Number n) = Err slip.Wrong
plain (token.Text t) = Err slip.Wrong
plain (token.Symbol s) = Err slip.Wrong
plain token.Stray = Err slip.Wrong

-- the digits of a number
abbrev pub number : Test (List ℕ)
number (token.Word w) = Err slip.Wrong
number (token.Number digits) = Ok digits
number (token.Text t) = Err slip.Wrong
number (token.Symbol s) = Err slip.Wrong
number token.Stray = Err slip.Wrong

-- ---- parts of statements

-- x { "," x }
abbrev pub list_of : {S X : Type 0} → Part S X → Part S (List X)
list_of item = listed (is_symbol symbol.Comma) (the symbol.Comma) item

-- x { k x }, joined from the left: what follows those that came, at most so many
abbrev pub joined_within : {S X : Type 0} → ℕ → List ℕ → (X → X → X) → Part S X → X → Part S X
joined_within zero k join item front next = next front
joined_within (suc n) k join item front next =
    choose (is_word (is_keyword k)) (expect (keyword k) (λ _. item (λ x. joined_within n k join item (join front x) next))) (next front)

-- there are no more of them than tokens
abbrev pub joined_from : {S X : Type 0} → List ℕ → (X → X → X) → Part S X → X → Part S X
joined_from k join item front next ts = joined_within (length ts) k join item front next ts

-- x { k x }, joined from the left
abbrev pub joined_by : {S X : Type 0} → List ℕ → (X → X → X) → Part S X → Part S X
joined_by k join item next = item (λ x. joined_from k join item x next)

abbrev pub one_name : {S : Type 0} → Part S (List ℕ)
one_name next = expect name next

-- a function as it is written
abbrev pub function_named : List ℕ → Result Aggregate Slip
function_named word =
    if same_bytes word (codes "any") then Ok aggregate.Any
    else if same_bytes word (codes "anyLast") then Ok aggregate.AnyLast
    else if same_bytes word (codes "min") then Ok aggregate.Min
    else if same_bytes word (codes "max") then Ok aggregate.Max
    else if same_bytes word (codes "sum") then Ok aggregate.Sum
    else if same_bytes word (codes "groupBitAnd") then Ok aggregate.BitAnd
    else if same_bytes word (codes "groupBitOr") then Ok aggregate.BitOr
    else if same_bytes word (codes "groupBitXor") then Ok aggregate.BitXor
    else Err slip.Wrong

abbrev pub function : Test Aggregate
function (token.Word w) = function_named w
function (token.Number n) = Err slip.Wrong
function (token.Text t) = Err slip.Wrong
function (token.Symbol s) = Err slip.Wrong
function token.Stray = Err slip.Wrong

-- SimpleAggregateFunction "(" function "," plain ")"
abbrev pub aggregated_type : {S : Type 0} → Part S (ColType × Option Aggregate)
aggregated_type next =
    expect (exactly (codes "SimpleAggregateFunction")) (λ _. expect (the symbol.Open) (λ _. expect function (λ f.
    expect (the symbol.Comma) (λ _. expect plain (λ t. expect (the symbol.Close) (λ _. next (t, Some f)))))))

-- plain
abbrev pub plain_type : {S : Type 0} → Part S (ColType × Option Aggregate)
plain_type next = expect plain (λ t. next (t, None))

-- type = plain | SimpleAggregateFunction "(" function "," plain ")"
abbrev pub column_type : {S : Type 0} → Part S (ColType × Option Aggregate)
column_type next = choose (is_word (same_bytes (codes "SimpleAggregateFunction"))) (aggregated_type next) (plain_type next)

-- column = name type
abbrev pub column : {S : Type 0} → Part S Element
column next = expect name (λ n. column_type (λ t. next (element.Column (record { name = n; col_type = t.0; function = t.1 }))))

-- set "(" number ")"
abbrev pub set_kind : {S : Type 0} → Part S KindText
set_kind next =
    expect (exactly (codes "set")) (λ _. expect (the symbol.Open) (λ _. expect number (λ digits. expect (the symbol.Close) (λ _. next (kind.Set digits)))))

-- kind = minmax | set "(" number ")"
abbrev pub index_kind : {S : Type 0} → Part S KindText
index_kind next = choose (is_word (same_bytes (codes "minmax"))) (expect (exactly (codes "minmax")) (λ _. next kind.MinMax)) (set_kind next)

-- index = INDEX name name TYPE kind GRANULARITY number
abbrev pub index : {S : Type 0} → Part S Element
index next =
    expect (keyword (codes "INDEX")) (λ _. expect name (λ n. expect name (λ c.
    expect (keyword (codes "TYPE")) (λ _. index_kind (λ k.
    expect (keyword (codes "GRANULARITY")) (λ _. expect number (λ digits.
    next (element.Index (record { name = n; column = c; kind = k; granularity = digits })))))))))

-- element = column | index
abbrev pub table_element : {S : Type 0} → Part S Element
table_element next = choose (is_word (is_keyword (codes "INDEX"))) (index next) (column next)

abbrev pub column_in : Element → Option Column
column_in (element.Column c) = Some c
column_in (element.Index i) = None

-- the columns among some elements
abbrev pub columns_of : List Element → List Column
columns_of elements = filter_map column_in elements

abbrev pub index_in : Element → Option IndexText
index_in (element.Column c) = None
index_in (element.Index i) = Some i

-- the indexes among some elements
abbrev pub indexes_of : List Element → List IndexText
indexes_of elements = filter_map index_in elements

-- key = name | "(" name { "," name } ")"
abbrev pub key : {S : Type 0} → Part S (List (List ℕ))
key next =
    choose (is_symbol symbol.Open)
    (expect (the symbol.Open) (λ _. list_of one_name (λ names. expect (the symbol.Close) (λ _. next names))))
    (expect name (λ n. next (n ∷ [])))

-- what stands between parentheses
abbrev pub enclosed : {S X : Type 0} → Part S X → Part S X
enclosed inner next = expect (the symbol.Open) (λ _. inner (λ x. expect (the symbol.Close) (λ _. next x)))

-- [ "(" [ x ] ")" ], where what is not there is told by a value
abbrev pub optional : {S X : Type 0} → X → Part S X → Part S X
optional none inner next =
    choose (is_symbol symbol.Open)
    (expect (the symbol.Open) (λ _. choose (is_symbol symbol.Close) (expect (the symbol.Close) (λ _. next none)) (inner (λ x. expect (the symbol.Close) (λ _. next x)))))
    (next none)

-- [ "(" ")" ]
abbrev pub no_arguments : {S : Type 0} → EngineText → Part S EngineText
no_arguments e next = choose (is_symbol symbol.Open) (expect (the symbol.Open) (λ _. expect (the symbol.Close) (λ _. next e))) (next e)

-- MergeTree [ "(" ")" ]
abbrev pub plain_engine : {S : Type 0} → Part S EngineText
plain_engine next = expect (exactly (codes "MergeTree")) (λ _. no_arguments engine_text.Plain next)

-- AggregatingMergeTree [ "(" ")" ]
abbrev pub aggregating_engine : {S : Type 0} → Part S EngineText
aggregating_engine next = expect (exactly (codes "AggregatingMergeTree")) (λ _. no_arguments engine_text.Aggregating next)

-- a name, where there is one
abbrev pub some_name : {S : Type 0} → Part S (Option (List ℕ))
some_name next = expect name (λ n. next (Some n))

-- ReplacingMergeTree [ "(" [ name ] ")" ]
abbrev pub replacing_engine : {S : Type 0} → Part S EngineText
replacing_engine next = expect (exactly (codes "ReplacingMergeTree")) (λ _. optional None some_name (λ version. next (engine_text.Replacing version)))

-- SummingMergeTree [ "(" [ key ] ")" ]
abbrev pub summing_engine : {S : Type 0} → Part S EngineText
summing_engine next = expect (exactly (codes "SummingMergeTree")) (λ _. optional [] key (λ names. next (engine_text.Summing names)))

-- CollapsingMergeTree "(" name ")"
abbrev pub collapsing_engine : {S : Type 0} → Part S EngineText
collapsing_engine next = expect (exactly (codes "CollapsingMergeTree")) (λ _. enclosed one_name (λ sign. next (engine_text.Collapsing sign)))

-- name "," name
abbrev pub two_names : {S : Type 0} → Part S (List ℕ × List ℕ)
two_names next = expect name (λ m. expect (the symbol.Comma) (λ _. expect name (λ n. next (m, n))))

-- VersionedCollapsingMergeTree "(" name "," name ")"
abbrev pub versioned_engine : {S : Type 0} → Part S EngineText
versioned_engine next = expect (exactly (codes "VersionedCollapsingMergeTree")) (λ _. enclosed two_names (λ names. next (engine_text.Versioned names.0 names.1)))

-- engine = one of the six
unfoldable pub engine : {S : Type 0} → Part S EngineText
engine next =
    choose (is_word (same_bytes (codes "ReplacingMergeTree"))) (replacing_engine next)
    (choose (is_word (same_bytes (codes "SummingMergeTree"))) (summing_engine next)
    (choose (is_word (same_bytes (codes "CollapsingMergeTree"))) (collapsing_engine next)
    (choose (is_word (same_bytes (codes "VersionedCollapsingMergeTree"))) (versioned_engine next)
    (choose (is_word (same_bytes (codes "AggregatingMergeTree"))) (aggregating_engine next) (plain_engine next)))))

-- order_by = ORDER BY key
abbrev pub order_by : {S : Type 0} → Part S Clause
order_by next = expect (keyword (codes "ORDER")) (λ _. expect (keyword (codes "BY")) (λ _. key (λ names. next (clause.OrderBy names))))

-- partition_by = PARTITION BY name
abbrev pub partition_by : {S : Type 0} → Part S Clause
partition_by next = expect (keyword (codes "PARTITION")) (λ _. expect (keyword (codes "BY")) (λ _. expect name (λ n. next (clause.PartitionBy n))))

-- primary_key = PRIMARY KEY key
abbrev pub primary_key : {S : Type 0} → Part S Clause
primary_key next = expect (keyword (codes "PRIMARY")) (λ _. expect (keyword (codes "KEY")) (λ _. key (λ names. next (clause.PrimaryKey names))))

-- settings = SETTINGS index_granularity "=" number
abbrev pub settings : {S : Type 0} → Part S Clause
settings next =
    expect (keyword (codes "SETTINGS")) (λ _. expect (exactly (codes "index_granularity")) (λ _.
    expect (the symbol.Equal) (λ _. expect number (λ digits. next (clause.Granularity digits)))))

-- whether a clause is an ORDER BY
abbrev pub is_order_by : Clause → Bool
is_order_by (clause.OrderBy names) = true
is_order_by c = false

-- whether a clause is a PARTITION BY
abbrev pub is_partition_by : Clause → Bool
is_partition_by (clause.PartitionBy n) = true
is_partition_by c = false

-- whether a clause is a PRIMARY KEY
abbrev pub is_primary_key : Clause → Bool
is_primary_key (clause.PrimaryKey names) = true
is_primary_key c = false

-- whether a clause says the granularity
abbrev pub is_granularity : Clause → Bool
is_granularity (clause.Granularity digits) = true
is_granularity c = false

-- the keyword begins a clause of a kind of which there is none yet
abbrev pub begins : List ℕ → (Clause → Bool) → List Clause → Token → Bool
begins k kind seen t = is_word (is_keyword k) t && not (list_any kind seen)

-- one more clause, of a kind of which there is none yet; or what follows the clauses, where ORDER BY is among them
abbrev pub clause_or_over : {S : Type 0} → List Clause → (Clause → Reader S) → Reader S → Reader S
clause_or_over seen more over =
    choose (begins (codes "PARTITION") is_partition_by seen) (partition_by more)
    (choose (begins (codes "PRIMARY") is_primary_key seen) (primary_key more)
    (choose (begins (codes "SETTINGS") is_granularity seen) (settings more)
    (either (list_any is_order_by seen) over (order_by more))))

-- at most so many clauses after those that came
abbrev pub clauses_within : {S : Type 0} → ℕ → List Clause → Part S (List Clause)
clauses_within zero seen next = next seen
clauses_within (suc n) seen next = clause_or_over seen (λ c. clauses_within n (seen ++ c ∷ []) next) (next seen)

-- clauses = order_by once, and partition_by, primary_key and settings each at most once, in any order
abbrev pub clauses : {S : Type 0} → Part S (List Clause)
clauses next = clauses_within 4 [] next

-- the semicolon that ends a statement
abbrev pub ends : {S : Type 0} → S → Reader S
ends s = expect (the symbol.Semicolon) (λ _. done s)

-- format = TabSeparated | TSV
abbrev pub is_format : List ℕ → Bool
is_format w = same_bytes w (codes "TabSeparated") || same_bytes w (codes "TSV")

abbrev pub format : Test (Unit {0})
format t = passing (is_word is_format t)

-- ---- conditions

-- a string
abbrev pub is_text : Token → Bool
is_text (token.Text bytes) = true
is_text t = false

abbrev pub string : Test (List ℕ)
string (token.Text bytes) = Ok bytes
string (token.Word w) = Err slip.Wrong
string (token.Number n) = Err slip.Wrong
string (token.Symbol s) = Err slip.Wrong
string token.Stray = Err slip.Wrong

-- the comparison that a symbol says
abbrev pub comparison_of : Symbol → Result Comparison Slip
comparison_of symbol.Equal = Ok comparison.Equal
comparison_of symbol.NotEqual = Ok comparison.NotEqual
comparison_of symbol.Less = Ok comparison.Less
comparison_of symbol.LessOrEqual = Ok comparison.LessOrEqual
comparison_of symbol.Greater = Ok comparison.Greater
comparison_of symbol.GreaterOrEqual = Ok comparison.GreaterOrEqual
comparison_of s = Err slip.Wrong

-- op = "=" | "!=" | "<>" | "<" | "<=" | ">" | ">="
abbrev pub operator : Test Comparison
operator (token.Symbol s) = comparison_of s
operator (token.Word w) = Err slip.Wrong
operator (token.Number n) = Err slip.Wrong
operator (token.Text t) = Err slip.Wrong
operator token.Stray = Err slip.Wrong

-- [ "+" | "-" ]: whether it is a minus
abbrev pub sign : {S : Type 0} → Part S Bool
sign next =
    choose (is_symbol symbol.Plus) (expect (the symbol.Plus) (λ _. next false))
    (choose (is_symbol symbol.Minus) (expect (the symbol.Minus) (λ _. next true)) (next false))

-- a string, as a literal that begins at a place
abbrev pub text_at : {S : Type 0} → ℕ → Part S Literal
text_at place next = expect string (λ bytes. next (record { at = place; text = literal_text.Text bytes }))

-- [ "+" | "-" ] number, as a literal that begins at a place
abbrev pub number_at : {S : Type 0} → ℕ → Part S Literal
number_at place next = sign (λ negative. expect number (λ digits. next (record { at = place; text = literal_text.Number negative digits })))

-- literal = [ "+" | "-" ] number | string
abbrev pub literal : {S : Type 0} → Part S Literal
literal next = here (λ place. choose is_text (text_at place next) (number_at place next))

-- IN "(" literal { "," literal } ")", which is "=" with one of several
abbrev pub membership : {S : Type 0} → Part S (Comparison × List Literal)
membership next =
    expect (keyword (codes "IN")) (λ _. expect (the symbol.Open) (λ _. list_of literal (λ literals. expect (the symbol.Close) (λ _.
    next (comparison.Equal, literals)))))

-- op literal
abbrev pub comparing : {S : Type 0} → Part S (Comparison × List Literal)
comparing next = expect operator (λ found. literal (λ l. next (found, l ∷ [])))

-- what follows the column of a test
abbrev pub compared : {S : Type 0} → Part S (Comparison × List Literal)
compared next = choose (is_word (is_keyword (codes "IN"))) (membership next) (comparing next)

-- test = name op literal | name IN "(" literal { "," literal } ")"
abbrev pub test : {S : Type 0} → Part S TestText
test next = expect name (λ column. compared (λ found. next (record { column = column; comparison = found.0; literals = found.1 })))

-- conj = term { AND term }
abbrev pub all_of : {S : Type 0} → Part S (Condition TestText) → Part S (Condition TestText)
all_of term = joined_by (codes "AND") And term

-- expr = conj { OR conj }
abbrev pub some_of : {S : Type 0} → Part S (Condition TestText) → Part S (Condition TestText)
some_of term = joined_by (codes "OR") Or (all_of term)

-- the condition that is one test
abbrev pub holding : {S : Type 0} → Part S (Condition TestText)
holding next = test (λ t. next (Holds t))

-- the tokens that open a parenthesis or a NOT
abbrev pub opens : Token → Bool
opens t = is_word (is_keyword (codes "NOT")) t || is_symbol symbol.Open t

-- NOT term | "(" expr ")"
abbrev pub opened : {S : Type 0} → Part S (Condition TestText) → Part S (Condition TestText)
opened term next =
    choose (is_word (is_keyword (codes "NOT"))) (expect (keyword (codes "NOT")) (λ _. term (λ c. next (Not c))))
    (expect (the symbol.Open) (λ _. some_of term (λ c. expect (the symbol.Close) (λ _. next c))))

-- a token that opens one more than may be open
abbrev pub too_deep : Test (Unit {0})
too_deep t = Err slip.TooDeep

-- term = NOT term | "(" expr ")" | test, with so many parentheses and NOTs that may still be opened
unfoldable pub term_within : {S : Type 0} → ℕ → Part S (Condition TestText)
term_within zero next = choose opens (expect too_deep (λ _. next Always)) (holding next)
term_within (suc n) next = choose opens (opened (term_within n) next) (holding next)

-- expr, of which at most a bound of parentheses and NOTs are open at once
abbrev pub expr : {S : Type 0} → Part S (Condition TestText)
expr = some_of (term_within depth_limit)

-- [ WHERE expr ]
abbrev pub where_part : {S : Type 0} → Part S (Condition TestText)
where_part next = choose (is_word (is_keyword (codes "WHERE"))) (expect (keyword (codes "WHERE")) (λ _. expr next)) (next Always)

-- selected = "*" | name { "," name }
abbrev pub selection : {S : Type 0} → Part S Selected
selection next =
    choose (is_symbol symbol.Star)
    (expect (the symbol.Star) (λ _. next selected.All))
    (list_of one_name (λ names. next (selected.Named names)))

-- ---- statements, each with the semicolon that ends it

-- create = CREATE TABLE name "(" element { "," element } ")" ENGINE "=" engine clauses
abbrev pub create : List ℕ → Reader Statement
create text =
    expect (keyword (codes "CREATE")) (λ _. expect (keyword (codes "TABLE")) (λ _. expect name (λ table.
    expect (the symbol.Open) (λ _. list_of table_element (λ elements. expect (the symbol.Close) (λ _.
    expect (keyword (codes "ENGINE")) (λ _. expect (the symbol.Equal) (λ _. engine (λ e. clauses (λ cs.
    ends (statement.Create (record { text = text; table = table; elements = elements; engine = e; clauses = cs }))))))))))))

-- insert = INSERT INTO name [ FORMAT format ]
abbrev pub insert : List ℕ → Bool → Reader Statement
insert lines ended =
    expect (keyword (codes "INSERT")) (λ _. expect (keyword (codes "INTO")) (λ _. expect name (λ table.
    choose (is_word (is_keyword (codes "FORMAT")))
    (expect (keyword (codes "FORMAT")) (λ _. expect format (λ _. ends (statement.Insert (record { table = table; lines = lines; ended = ended })))))
    (ends (statement.Insert (record { table = table; lines = lines; ended = ended }))))))

-- [ FINAL ]: whether it is there
abbrev pub final : {S : Type 0} → Part S Bool
final next = choose (is_word (is_keyword (codes "FINAL"))) (expect (keyword (codes "FINAL")) (λ _. next true)) (next false)

-- select = SELECT selected FROM name [ FINAL ] [ WHERE expr ]
abbrev pub select_text : {S : Type 0} → Part S SelectText
select_text next =
    expect (keyword (codes "SELECT")) (λ _. selection (λ columns. expect (keyword (codes "FROM")) (λ _. expect name (λ table.
    final (λ is_final. where_part (λ condition. next (record { columns = columns; table = table; is_final = is_final; condition = condition })))))))

abbrev pub select : Reader Statement
select = select_text (λ asked. ends (statement.Select asked))

-- explain = EXPLAIN select
abbrev pub explain : Reader Statement
explain = expect (keyword (codes "EXPLAIN")) (λ _. select_text (λ asked. ends (statement.Explain asked)))

-- [ PARTITION ID string ]
abbrev pub partition_id : {S : Type 0} → Part S (Option (List ℕ))
partition_id next =
    choose (is_word (is_keyword (codes "PARTITION")))
    (expect (keyword (codes "PARTITION")) (λ _. expect (keyword (codes "ID")) (λ _. expect string (λ id. next (Some id)))))
    (next None)

-- optimize = OPTIMIZE TABLE name [ PARTITION ID string ] [ FINAL ]
abbrev pub optimize : Reader Statement
optimize =
    expect (keyword (codes "OPTIMIZE")) (λ _. expect (keyword (codes "TABLE")) (λ _. expect name (λ table. partition_id (λ id. final (λ whole.
    ends (statement.Optimize (record { table = table; partition = id; whole = whole })))))))

-- a statement of this text, with its data
abbrev pub statement_reader : List ℕ → List ℕ → Bool → Reader Statement
statement_reader text lines ended =
    choose (is_word (is_keyword (codes "CREATE"))) (create text)
    (choose (is_word (is_keyword (codes "INSERT"))) (insert lines ended)
    (choose (is_word (is_keyword (codes "EXPLAIN"))) explain
    (choose (is_word (is_keyword (codes "OPTIMIZE"))) optimize select)))

-- ---- texts

-- the tokens of a statement's text, and the semicolon that ends it, where one does
abbrev pub tokens_and_end : List ℕ → Bool → List Placed
tokens_and_end text true = tokens_of text ++ record { at = length text; token = token.Symbol symbol.Semicolon } ∷ []
tokens_and_end text false = tokens_of text

-- the place of the first of these tokens, or else the end of a text of this size
abbrev pub place_of_first : ℕ → List Placed → ℕ
place_of_first size [] = size
place_of_first size (p ∷ ps) = p.at

abbrev pub cause_at : Slip → ℕ → Cause
cause_at slip.Wrong place = cause.Grammar place
cause_at slip.LongName place = cause.LongName
cause_at slip.TooDeep place = cause.TooDeep

-- the bound on a statement's length stands before the fault; where both stand at one place, a fault of the grammar comes first
abbrev pub is_behind_limit : Slip → ℕ → Bool
is_behind_limit slip.Wrong place = nat_lt statement_limit place
is_behind_limit slip.LongName place = nat_le statement_limit place
is_behind_limit slip.TooDeep place = nat_le statement_limit place

abbrev pub refused_at : ℕ → Slip → ℕ → Cause
refused_at size s place = if nat_lt statement_limit size && is_behind_limit s place then cause.LongStatement else cause_at s place

-- the statement that a text of this size is; what it is refused for is what comes first in it
abbrev pub statement_read : ℕ → Reading Statement → Result Statement Cause
statement_read size (Ok s) = if nat_lt statement_limit size then Err cause.LongStatement else Ok s
statement_read size (Err fault) = Err (refused_at size fault.0 (place_of_first size fault.1))

-- the statement that a text is, from its first token up to the semicolon that ends it, where one does, with its data
abbrev pub statement_of : List ℕ → Bool → List ℕ → Bool → Result Statement Cause
statement_of text terminated lines ended = statement_read (length text) (statement_reader text lines ended (tokens_and_end text terminated))

-- data follows a statement whose first token is INSERT, whatever else is wrong with it
abbrev pub begins_insert : List Placed → Bool
begins_insert [] = false
begins_insert (p ∷ ps) = is_word (is_keyword (codes "INSERT")) p.token

abbrev pub takes_data : List ℕ → Bool
takes_data text = begins_insert (tokens_of text)
