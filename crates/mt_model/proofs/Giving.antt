-- The statements that the grammar's readers give.
use Rattle.std.proofs.Common.{ℕ, ◌+◌, ◌<◌, Bool, true, false, List, [], ◌∷◌, ◌++◌, IfOk, None, Some, Result, Ok, Err, length, All, arith, zero, suc, length-append, codes}
use Rattle.std.proofs.lemmas.List.Elements.{All-head, All-tail}
use Rattle.mt_values.specs.declared.statement.Element.TheVariants as element
use Rattle.mt_values.specs.declared.statement.EngineText.{EngineText}
use Rattle.mt_values.specs.declared.statement.EngineText.TheVariants as engine_text
use Rattle.mt_values.specs.declared.statement.KindText.TheVariants as kind_text
use Rattle.mt_values.specs.declared.statement.InsertText.{InsertText}
use Rattle.mt_values.specs.declared.statement.OptimizeText.{OptimizeText}
use Rattle.mt_values.specs.declared.statement.SelectText.{SelectText}
use Rattle.mt_values.specs.declared.statement.Selected.TheVariants as selected
use Rattle.mt_values.specs.declared.statement.Slip.{Slip}
use Rattle.mt_values.specs.declared.statement.Statement.{Statement}
use Rattle.mt_values.specs.declared.statement.Statement.TheVariants as statement
use Rattle.mt_values.specs.declared.token.Placed.{Placed}
use Rattle.mt_values.specs.declared.token.Symbol.TheVariants as symbol
use Rattle.mt_values.specs.declared.token.Token.{Token}
use Rattle.mt_values.specs.Tokens.{is_keyword}
use Rattle.mt_values.specs.Readers.{Reader, Reading, Test, Part, done, taken, expect, either, choose, listed_within, place_of_next}
use Rattle.mt_values.specs.Conditions.{Condition, Always, And, Holds, Not, Or}
use Rattle.mt_values.specs.declared.expr.Comparison.TheVariants as comparison
use Rattle.mt_values.specs.declared.expr.LiteralText.TheVariants as literal_text
use Rattle.mt_values.specs.declared.expr.TestText.{TestText}
use Rattle.mt_values.specs.Grammar.{engine, term_within}
use Rattle.mt_values.specs.Grammar as grammar

any_ok : {X : Type 0} (r : Result X Slip) → IfOk r (λ _. Unit {0})
any_ok (Ok x) = tt
any_ok (Err s) = tt

-- the statements that readers give, of tokens of which this is known
module _ (T : Token → Type 0) (Good : Statement → Type 0) where
  -- a reader gives such statements alone
  abbrev pub Gives : Reading Statement → Type 0
  Gives (Ok s) = Good s
  Gives (Err fault) = Unit {0}

  abbrev pub GivesAll : Reader Statement → Type 0
  GivesAll reader = (ts : List Placed) → All (λ p. T p.token) ts → Gives (reader ts)

  taken_gives : {X : Type 0} (Says : X → Type 0) (r : Result X Slip) (next : X → Reader Statement) → IfOk r Says → ((x : X) → Says x → GivesAll (next x)) → (p : Placed) (ps : List Placed) → All (λ p. T p.token) ps → Gives (taken r next p ps)
  taken_gives Says (Ok x) next says each p ps known = each x says ps known
  taken_gives Says (Err s) next says each p ps known = tt

  pub expect_says : {X : Type 0} (test : Test X) (next : X → Reader Statement) (Says : X → Type 0) → ((t : Token) → T t → IfOk (test t) Says) → ((x : X) → Says x → GivesAll (next x)) → GivesAll (expect test next)
  expect_says test next Says says each [] known = tt
  expect_says test next Says says each (p ∷ ps) known =
      taken_gives Says (test p.token) next (says p.token (All-head (λ q. T q.token) p ps known)) each p ps (All-tail (λ q. T q.token) p ps known)

  pub expect_gives : {X : Type 0} (test : Test X) (next : X → Reader Statement) → ((x : X) → GivesAll (next x)) → GivesAll (expect test next)
  expect_gives test next each = expect_says test next (λ _. Unit {0}) (λ t _. any_ok (test t)) (λ x _. each x)

  either_gives : (b : Bool) (this other : Reader Statement) → GivesAll this → GivesAll other → GivesAll (either b this other)
  either_gives true this other h k = h
  either_gives false this other h k = k

  pub choose_gives : (test : Token → Bool) (this other : Reader Statement) → GivesAll this → GivesAll other → GivesAll (choose test this other)
  choose_gives test this other h k [] known = k [] known
  choose_gives test this other h k (p ∷ ps) known = either_gives (test p.token) this other h k (p ∷ ps) known

  done_gives : (s : Statement) → Good s → GivesAll (done s)
  done_gives s h [] known = h
  done_gives s h (p ∷ ps) known = tt

  -- the semicolon may say something too
  pub ends_says : (s : Statement) → ((t : Token) → T t → IfOk (grammar.the symbol.Semicolon t) (λ _. Good s)) → GivesAll (grammar.ends s)
  ends_says s says = expect_says _ (λ _. done s) (λ _. Good s) says (λ _ h. done_gives s h)

  ends_gives : (s : Statement) → Good s → GivesAll (grammar.ends s)
  ends_gives s h = expect_gives _ (λ _. done s) (λ _. done_gives s h)

  -- a part after which each reader gives such statements gives them too
  abbrev Passes : {X : Type 0} → Part Statement X → Type 0
  Passes {X} part = (next : X → Reader Statement) → ((x : X) → GivesAll (next x)) → GivesAll (part next)

  longer : {X : Type 0} (xs : List X) (x : X) → 0 < length (xs ++ x ∷ [])
  longer xs x = omega (arith, length-append xs (x ∷ []))

  -- a list of parts is not empty
  within_gives : {X Y : Type 0} (n : ℕ) (more : Token → Bool) (between : Test Y) (item : Part Statement X) (front : List X) (next : List X → Reader Statement)
      → Passes item → ((xs : List X) → 0 < length xs → GivesAll (next xs)) → GivesAll (listed_within n more between item front next)
  within_gives zero more between item front next passes each ts known = tt
  within_gives (suc n) more between item front next passes each ts known =
      passes (λ x. choose more (expect between (λ y. listed_within n more between item (front ++ x ∷ []) next)) (next (front ++ x ∷ [])))
      (λ x.
      choose_gives more (expect between (λ y. listed_within n more between item (front ++ x ∷ []) next)) (next (front ++ x ∷ []))
      (expect_gives between (λ y. listed_within n more between item (front ++ x ∷ []) next) (λ y. within_gives n more between item (front ++ x ∷ []) next passes each)) (each (front ++ x ∷ []) (longer front x)))
      ts known

  pub list_gives : {X : Type 0} (item : Part Statement X) (next : List X → Reader Statement) → Passes item → ((xs : List X) → 0 < length xs → GivesAll (next xs)) → GivesAll (grammar.list_of item next)
  list_gives item next passes each ts known = within_gives (length ts + 1) _ _ item [] next passes each ts known

  name_passes : Passes grammar.one_name
  name_passes next each = expect_gives grammar.name next each

  type_passes : Passes grammar.column_type
  type_passes next each =
      choose_gives (grammar.is_word (grammar.same_bytes (codes "SimpleAggregateFunction"))) _ _
      (expect_gives (grammar.exactly (codes "SimpleAggregateFunction")) _ (λ _. expect_gives (grammar.the symbol.Open) _ (λ _. expect_gives grammar.function _ (λ f.
      expect_gives (grammar.the symbol.Comma) _ (λ _. expect_gives grammar.plain _ (λ t. expect_gives (grammar.the symbol.Close) _ (λ _. each (t, Some f))))))))
      (expect_gives grammar.plain _ (λ t. each (t, None)))

  column_passes : Passes grammar.column
  column_passes next each = expect_gives grammar.name _ (λ n. type_passes _ (λ t. each (element.Column (record { name = n; col_type = t.0; function = t.1 }))))

  kind_passes : Passes grammar.index_kind
  kind_passes next each =
      choose_gives (grammar.is_word (grammar.same_bytes (codes "minmax"))) _ _
      (expect_gives (grammar.exactly (codes "minmax")) _ (λ _. each kind_text.MinMax))
      (expect_gives (grammar.exactly (codes "set")) _ (λ _. expect_gives (grammar.the symbol.Open) _ (λ _.
      expect_gives grammar.number _ (λ digits. expect_gives (grammar.the symbol.Close) _ (λ _. each (kind_text.Set digits))))))

  index_passes : Passes grammar.index
  index_passes next each =
      expect_gives (grammar.keyword (codes "INDEX")) _ (λ _. expect_gives grammar.name _ (λ n. expect_gives grammar.name _ (λ c.
      expect_gives (grammar.keyword (codes "TYPE")) _ (λ _. kind_passes _ (λ k.
      expect_gives (grammar.keyword (codes "GRANULARITY")) _ (λ _. expect_gives grammar.number _ (λ digits.
      each (element.Index (record { name = n; column = c; kind = k; granularity = digits })))))))))

  pub element_passes : Passes grammar.table_element
  element_passes next each = choose_gives (grammar.is_word (is_keyword (codes "INDEX"))) (grammar.index next) (grammar.column next) (index_passes next each) (column_passes next each)

  pub key_gives : (next : List (List ℕ) → Reader Statement) → ((names : List (List ℕ)) → 0 < length names → GivesAll (next names)) → GivesAll (grammar.key next)
  key_gives next each =
      choose_gives (grammar.is_symbol symbol.Open) _ _
      (expect_gives (grammar.the symbol.Open) _ (λ _.
      list_gives grammar.one_name (λ names. expect (grammar.the symbol.Close) (λ _. next names)) name_passes
      (λ names some. expect_gives (grammar.the symbol.Close) (λ _. next names) (λ _. each names some))))
      (expect_gives grammar.name (λ n. next (n ∷ [])) (λ n. each (n ∷ []) (omega arith)))

  -- ---- engines

  no_arguments_give : (e : EngineText) (next : EngineText → Reader Statement) → GivesAll (next e) → GivesAll (grammar.no_arguments e next)
  no_arguments_give e next each =
      choose_gives (grammar.is_symbol symbol.Open) _ _ (expect_gives (grammar.the symbol.Open) _ (λ _. expect_gives (grammar.the symbol.Close) (λ _. next e) (λ _. each))) each

  optional_gives : {X : Type 0} (none : X) (inner : Part Statement X) (next : X → Reader Statement) → Passes inner → ((x : X) → GivesAll (next x)) → GivesAll (grammar.optional none inner next)
  optional_gives none inner next passes each =
      choose_gives (grammar.is_symbol symbol.Open) _ _
      (expect_gives (grammar.the symbol.Open) _ (λ _.
      choose_gives (grammar.is_symbol symbol.Close) _ _ (expect_gives (grammar.the symbol.Close) (λ _. next none) (λ _. each none))
      (passes (λ x. expect (grammar.the symbol.Close) (λ _. next x)) (λ x. expect_gives (grammar.the symbol.Close) (λ _. next x) (λ _. each x)))))
      (each none)

  enclosed_gives : {X : Type 0} (inner : Part Statement X) (next : X → Reader Statement) → Passes inner → ((x : X) → GivesAll (next x)) → GivesAll (grammar.enclosed inner next)
  enclosed_gives inner next passes each =
      expect_gives (grammar.the symbol.Open) _ (λ _.
      passes (λ x. expect (grammar.the symbol.Close) (λ _. next x)) (λ x. expect_gives (grammar.the symbol.Close) (λ _. next x) (λ _. each x)))

  some_name_passes : Passes grammar.some_name
  some_name_passes next each = expect_gives grammar.name _ (λ n. each (Some n))

  two_names_pass : Passes grammar.two_names
  two_names_pass next each = expect_gives grammar.name _ (λ m. expect_gives (grammar.the symbol.Comma) _ (λ _. expect_gives grammar.name _ (λ n. each (m, n))))

  key_passes : Passes grammar.key
  key_passes next each = key_gives next (λ names some. each names)

  pub engine_gives : (next : EngineText → Reader Statement) → ((e : EngineText) → GivesAll (next e)) → GivesAll (grammar.engine next)
  unfolding engine
  engine_gives next each =
      choose_gives (grammar.is_word (grammar.same_bytes (codes "ReplacingMergeTree"))) _ _
      (expect_gives (grammar.exactly (codes "ReplacingMergeTree")) _ (λ _. optional_gives None grammar.some_name _ some_name_passes (λ version. each (engine_text.Replacing version))))
      (choose_gives (grammar.is_word (grammar.same_bytes (codes "SummingMergeTree"))) _ _
      (expect_gives (grammar.exactly (codes "SummingMergeTree")) _ (λ _. optional_gives [] grammar.key _ key_passes (λ names. each (engine_text.Summing names))))
      (choose_gives (grammar.is_word (grammar.same_bytes (codes "CollapsingMergeTree"))) _ _
      (expect_gives (grammar.exactly (codes "CollapsingMergeTree")) _ (λ _. enclosed_gives grammar.one_name _ name_passes (λ sign. each (engine_text.Collapsing sign))))
      (choose_gives (grammar.is_word (grammar.same_bytes (codes "VersionedCollapsingMergeTree"))) _ _
      (expect_gives (grammar.exactly (codes "VersionedCollapsingMergeTree")) _ (λ _. enclosed_gives grammar.two_names _ two_names_pass (λ names. each (engine_text.Versioned names.0 names.1))))
      (choose_gives (grammar.is_word (grammar.same_bytes (codes "AggregatingMergeTree"))) _ _
      (expect_gives (grammar.exactly (codes "AggregatingMergeTree")) _ (λ _. no_arguments_give engine_text.Aggregating next (each engine_text.Aggregating)))
      (expect_gives (grammar.exactly (codes "MergeTree")) _ (λ _. no_arguments_give engine_text.Plain next (each engine_text.Plain)))))))

  pub insert_gives : (lines : List ℕ) (ended : Bool) → ((i : InsertText) → Good (statement.Insert i)) → GivesAll (grammar.insert lines ended)
  insert_gives lines ended good =
      expect_gives _ _ (λ _. expect_gives _ _ (λ _. expect_gives grammar.name _ (λ table.
      choose_gives (grammar.is_word (is_keyword (codes "FORMAT"))) _ _
      (expect_gives (grammar.keyword (codes "FORMAT")) _ (λ _. expect_gives grammar.format _ (λ _. ends_gives (statement.Insert (record { table = table; lines = lines; ended = ended })) (good _))))
      (ends_gives (statement.Insert (record { table = table; lines = lines; ended = ended })) (good _)))))

  -- ---- conditions

  sign_passes : Passes grammar.sign
  sign_passes next each =
      choose_gives (grammar.is_symbol symbol.Plus) _ _
      (expect_gives (grammar.the symbol.Plus) _ (λ _. each false))
      (choose_gives (grammar.is_symbol symbol.Minus) _ _ (expect_gives (grammar.the symbol.Minus) _ (λ _. each true)) (each false))

  number_passes : (place : ℕ) → Passes (grammar.number_at place)
  number_passes place next each =
      sign_passes _ (λ negative. expect_gives grammar.number _ (λ digits. each (record { at = place; text = literal_text.Number negative digits })))

  literal_passes : Passes grammar.literal
  literal_passes next each ts known =
      choose_gives grammar.is_text (grammar.text_at (place_of_next ts) next) (grammar.number_at (place_of_next ts) next)
      (expect_gives grammar.string _ (λ bytes. each (record { at = place_of_next ts; text = literal_text.Text bytes })))
      (number_passes (place_of_next ts) next each) ts known

  compared_passes : Passes grammar.compared
  compared_passes next each =
      choose_gives (grammar.is_word (is_keyword (codes "IN"))) _ _
      (expect_gives (grammar.keyword (codes "IN")) _ (λ _. expect_gives (grammar.the symbol.Open) _ (λ _.
      list_gives grammar.literal _ literal_passes (λ literals some. expect_gives (grammar.the symbol.Close) _ (λ _. each (comparison.Equal, literals))))))
      (expect_gives grammar.operator _ (λ found. literal_passes _ (λ l. each (found, l ∷ []))))

  holding_passes : Passes grammar.holding
  holding_passes next each =
      expect_gives grammar.name _ (λ column. compared_passes _ (λ found. each (Holds (record { column = column; comparison = found.0; literals = found.1 }))))

  joined_gives : {X : Type 0} (n : ℕ) (k : List ℕ) (join : X → X → X) (item : Part Statement X) (front : X) (next : X → Reader Statement)
      → Passes item → ((x : X) → GivesAll (next x)) → GivesAll (grammar.joined_within n k join item front next)
  joined_gives zero k join item front next passes each = each front
  joined_gives (suc n) k join item front next passes each =
      choose_gives (grammar.is_word (is_keyword k)) _ _
      (expect_gives (grammar.keyword k) _ (λ _. passes _ (λ x. joined_gives n k join item (join front x) next passes each))) (each front)

  joined_passes : {X : Type 0} (k : List ℕ) (join : X → X → X) (item : Part Statement X) → Passes item → Passes (grammar.joined_by k join item)
  joined_passes k join item passes next each = passes _ (λ x ts known. joined_gives (length ts) k join item x next passes each ts known)

  some_passes : (term : Part Statement (Condition TestText)) → Passes term → Passes (grammar.some_of term)
  some_passes term passes = joined_passes (codes "OR") Or (grammar.all_of term) (joined_passes (codes "AND") And term passes)

  opened_passes : (term : Part Statement (Condition TestText)) → Passes term → Passes (grammar.opened term)
  opened_passes term passes next each =
      choose_gives (grammar.is_word (is_keyword (codes "NOT"))) _ _
      (expect_gives (grammar.keyword (codes "NOT")) _ (λ _. passes _ (λ c. each (Not c))))
      (expect_gives (grammar.the symbol.Open) _ (λ _. some_passes term passes _ (λ c. expect_gives (grammar.the symbol.Close) _ (λ _. each c))))

  term_passes : (n : ℕ) → Passes (grammar.term_within n)
  unfolding term_within
  term_passes zero next each = choose_gives grammar.opens _ _ (expect_gives grammar.too_deep _ (λ _. each Always)) (holding_passes next each)
  term_passes (suc n) next each = choose_gives grammar.opens _ _ (opened_passes (term_within n) (term_passes n) next each) (holding_passes next each)

  where_passes : Passes grammar.where_part
  where_passes next each =
      choose_gives (grammar.is_word (is_keyword (codes "WHERE"))) _ _
      (expect_gives (grammar.keyword (codes "WHERE")) _ (λ _. some_passes (term_within 64) (term_passes 64) next each)) (each Always)

  -- ---- SELECT and EXPLAIN

  selection_passes : Passes grammar.selection
  selection_passes next each =
      choose_gives (grammar.is_symbol symbol.Star) _ _
      (expect_gives (grammar.the symbol.Star) _ (λ _. each selected.All))
      (list_gives grammar.one_name _ name_passes (λ names some. each (selected.Named names)))

  final_passes : Passes grammar.final
  final_passes next each = choose_gives (grammar.is_word (is_keyword (codes "FINAL"))) _ _ (expect_gives (grammar.keyword (codes "FINAL")) _ (λ _. each true)) (each false)

  select_passes : Passes grammar.select_text
  select_passes next each =
      expect_gives (grammar.keyword (codes "SELECT")) _ (λ _. selection_passes _ (λ columns.
      expect_gives (grammar.keyword (codes "FROM")) _ (λ _. expect_gives grammar.name _ (λ table.
      final_passes _ (λ is_final. where_passes _ (λ condition. each (record { columns = columns; table = table; is_final = is_final; condition = condition })))))))

  select_gives : ((s : SelectText) → Good (statement.Select s)) → GivesAll grammar.select
  select_gives good = select_passes _ (λ asked. ends_gives (statement.Select asked) (good asked))

  explain_gives : ((s : SelectText) → Good (statement.Explain s)) → GivesAll grammar.explain
  explain_gives good = expect_gives (grammar.keyword (codes "EXPLAIN")) _ (λ _. select_passes _ (λ asked. ends_gives (statement.Explain asked) (good asked)))

  -- ---- OPTIMIZE

  partition_passes : Passes grammar.partition_id
  partition_passes next each =
      choose_gives (grammar.is_word (is_keyword (codes "PARTITION"))) _ _
      (expect_gives (grammar.keyword (codes "PARTITION")) _ (λ _. expect_gives (grammar.keyword (codes "ID")) _ (λ _. expect_gives grammar.string _ (λ id. each (Some id)))))
      (each None)

  optimize_gives : ((o : OptimizeText) → Good (statement.Optimize o)) → GivesAll grammar.optimize
  optimize_gives good =
      expect_gives (grammar.keyword (codes "OPTIMIZE")) _ (λ _. expect_gives (grammar.keyword (codes "TABLE")) _ (λ _. expect_gives grammar.name _ (λ table.
      partition_passes _ (λ id. final_passes _ (λ whole. ends_gives (statement.Optimize (record { table = table; partition = id; whole = whole })) (good _))))))

  -- an EXPLAIN, an OPTIMIZE or a SELECT
  pub others_give : ((s : SelectText) → Good (statement.Explain s)) → ((o : OptimizeText) → Good (statement.Optimize o)) → ((s : SelectText) → Good (statement.Select s))
      → GivesAll (choose (grammar.is_word (is_keyword (codes "EXPLAIN"))) grammar.explain (choose (grammar.is_word (is_keyword (codes "OPTIMIZE"))) grammar.optimize grammar.select))
  others_give explain optimize select =
      choose_gives (grammar.is_word (is_keyword (codes "EXPLAIN"))) grammar.explain _ (explain_gives explain)
      (choose_gives (grammar.is_word (is_keyword (codes "OPTIMIZE"))) grammar.optimize grammar.select (optimize_gives optimize) (select_gives select))
