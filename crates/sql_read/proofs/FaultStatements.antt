-- The productions of the grammar tell their first faults, one by one.
use Rattle.std.proofs.Common.{◌≡◌, ℕ, zero, suc, ◌+◌, Bool, true, false, ◌&&◌, cond, nat_lt, List, [], ◌∷◌, ◌++◌, length, Option, Some, None, Result, Ok, Err, refl, arith, ◌∙◌, ap, codes}
use Rattle.std.specs.List.{list_any}
use Rattle.mt_values.specs.Conditions.{Condition}
use Rattle.mt_values.specs.declared.expr.TestText.{TestText}
use Rattle.mt_values.specs.declared.statement.Cause.{Cause}
use Rattle.mt_values.specs.declared.statement.Cause.TheVariants as cause
use Rattle.mt_values.specs.declared.statement.Clause.{Clause}
use Rattle.mt_values.specs.declared.statement.Clause.TheVariants as clause
use Rattle.mt_values.specs.declared.statement.Element.{Element}
use Rattle.mt_values.specs.declared.statement.EngineText.{EngineText}
use Rattle.mt_values.specs.declared.statement.SelectText.{SelectText}
use Rattle.mt_values.specs.declared.statement.Selected.{Selected}
use Rattle.mt_values.specs.declared.statement.Selected.TheVariants as selected
use Rattle.mt_values.specs.declared.statement.Slip.{Slip}
use Rattle.mt_values.specs.declared.statement.Slip.TheVariants as slip
use Rattle.mt_values.specs.declared.statement.Statement.{Statement}
use Rattle.mt_values.specs.declared.statement.Statement.TheVariants as statement
use Rattle.mt_values.specs.declared.token.Placed.{Placed}
use Rattle.mt_values.specs.declared.token.Symbol.TheVariants as symbol
use Rattle.mt_values.specs.declared.token.Token.{Token}
use Rattle.mt_values.specs.declared.token.Token.TheVariants as token
use Rattle.mt_values.specs.Grammar.{cause_at, is_behind_limit, place_of_first, statement_limit, statement_of, statement_read, tokens_and_end, clause_or_over, clauses, clauses_within, create, ends, engine, exactly, explain, final, format, insert, is_format, is_order_by, is_symbol, is_word, key, keyword, list_of, name, number, one_name, optimize, order_by, partition_by, partition_id, primary_key, same_bytes, select, selection, settings, string, statement_reader, table_element, the, where_part}
use Rattle.mt_values.specs.Readers.{Reader, Reading, choose, done, either, expect}
use Rattle.mt_values.specs.Tokens.{is_keyword}
use Rattle.sql_read.proofs.TableElements.{element_takes}
use Rattle.sql_read.proofs.FaultElements.{element_sound}
use Rattle.sql_read.proofs.FaultEngines.{engine_sound, key_sound}
use Rattle.sql_read.proofs.Listed.{one_name_takes}
use Rattle.sql_read.specs.Places.{GoesOn, DeepFault, FirstFault, LongFault}
use Rattle.sql_read.proofs.NextClauses.{by_partition, by_primary, by_settings, last_way, no_partition_way, no_primary_way}
use Rattle.sql_read.proofs.Faults.{Told, done_good}
use Rattle.sql_read.proofs.FaultConditions.{where_begun}
use Rattle.sql_read.proofs.FaultTokens.{Begun, a_name, a_number, a_string, begun, choose_begun, digits_live, ends_begun, keyword_then, names_live, names_then, one_name_sound, passes, passing_apart, strings_live}
use Rattle.sql_read.proofs.FaultParts.{Live, Sound, choose_this_sound, ends_sound, list_sound, live_of, symbol_apart}

-- ---- parts, by the token that begins what follows them

module _ {S : Type 0} (n : ℕ) where
  selection_sound : (next : Selected → Reader S) (u : Token) → is_symbol symbol.Comma u ≡ false → ((c : Selected) → Sound n (next c) u) → Sound n (selection next) (token.Symbol symbol.Star)
  selection_sound next u no_comma sound =
      let star = passes n (is_symbol symbol.Star) (token.Symbol symbol.Star) refl (λ v. next selected.All) u (sound selected.All) in
      let names = list_sound one_name a_name one_name_takes one_name_sound (λ names. next (selected.Named names)) u no_comma n (λ names. sound (selected.Named names)) in
      choose_this_sound n (is_symbol symbol.Star) (expect (the symbol.Star) (λ v. next selected.All)) (list_of one_name (λ names. next (selected.Named names))) (token.Symbol symbol.Star) a_name refl star names
      (symbol_apart n symbol.Star (expect (the symbol.Star) (λ v. next selected.All))) (symbol_apart n symbol.Star (list_of one_name (λ names. next (selected.Named names))))

  format_sound : (s : S) → Sound n (choose (is_word (is_keyword (codes "FORMAT"))) (expect (keyword (codes "FORMAT")) (λ v. expect format (λ v. ends s))) (ends s)) (token.Word (codes "FORMAT"))
  format_sound s =
      let named = passes n (is_word is_format) (token.Word (codes "TSV")) refl (λ v. ends s) (token.Symbol symbol.Semicolon) (ends_sound n s) in
      choose_this_sound n (is_word (is_keyword (codes "FORMAT"))) (expect (keyword (codes "FORMAT")) (λ v. expect format (λ v. ends s))) (ends s) (token.Word (codes "FORMAT")) (token.Symbol symbol.Semicolon) refl
      (keyword_then n (codes "FORMAT") refl (expect format (λ v. ends s)) (token.Word (codes "TSV")) named) (ends_sound n s)
      (passing_apart n (is_word (is_keyword (codes "FORMAT"))) (is_word (is_keyword (codes "FORMAT"))) (λ v. expect format (λ v. ends s)) named.good)
      (passing_apart n (is_word (is_keyword (codes "FORMAT"))) (is_symbol symbol.Semicolon) (λ v. done s) (done_good n s))

-- ---- the clauses of a CREATE

-- what begins the last of the ways, where an ORDER BY came and where none did
start : Bool → Token
start true = token.Symbol symbol.Semicolon
start false = token.Word (codes "ORDER")

no_partition : (seen : List Clause) (has : Bool) → by_partition seen (start has) ≡ false
unfolding start
no_partition seen true = refl
no_partition seen false = refl

no_primary : (seen : List Clause) (has : Bool) → by_primary seen (start has) ≡ false
unfolding start
no_primary seen true = refl
no_primary seen false = refl

no_settings : (seen : List Clause) (has : Bool) → by_settings seen (start has) ≡ false
unfolding start
no_settings seen true = refl
no_settings seen false = refl

module _ {S : Type 0} (n : ℕ) where
  -- one clause more, whichever it is
  module _ (more : Clause → Reader S) (live : (c : Clause) → Live n (more c)) where
    order_by_begun : Begun n (order_by more) (token.Word (codes "ORDER"))
    order_by_begun =
        begun n (codes "ORDER") refl (expect (keyword (codes "BY")) (λ v. key (λ names. more (clause.OrderBy names)))) (token.Word (codes "BY"))
        (keyword_then n (codes "BY") refl (key (λ names. more (clause.OrderBy names))) (token.Symbol symbol.Open) (key_sound n (λ names. more (clause.OrderBy names)) (λ names. live (clause.OrderBy names))))

    partition_by_begun : Begun n (partition_by more) (token.Word (codes "PARTITION"))
    partition_by_begun =
        begun n (codes "PARTITION") refl (expect (keyword (codes "BY")) (λ v. expect name (λ w. more (clause.PartitionBy w)))) (token.Word (codes "BY"))
        (keyword_then n (codes "BY") refl (expect name (λ w. more (clause.PartitionBy w))) a_name (names_live n (λ w. more (clause.PartitionBy w)) (λ w. live (clause.PartitionBy w))))

    primary_key_begun : Begun n (primary_key more) (token.Word (codes "PRIMARY"))
    primary_key_begun =
        begun n (codes "PRIMARY") refl (expect (keyword (codes "KEY")) (λ v. key (λ names. more (clause.PrimaryKey names)))) (token.Word (codes "KEY"))
        (keyword_then n (codes "KEY") refl (key (λ names. more (clause.PrimaryKey names))) (token.Symbol symbol.Open) (key_sound n (λ names. more (clause.PrimaryKey names)) (λ names. live (clause.PrimaryKey names))))

    settings_begun : Begun n (settings more) (token.Word (codes "SETTINGS"))
    settings_begun =
        let digits = digits_live n (λ d. more (clause.Granularity d)) (λ d. live (clause.Granularity d)) in
        let equal = passes n (is_symbol symbol.Equal) (token.Symbol symbol.Equal) refl (λ v. expect number (λ d. more (clause.Granularity d))) a_number digits in
        let named = passes n (is_word (same_bytes (codes "index_granularity"))) (token.Word (codes "index_granularity")) refl (λ v. expect (the symbol.Equal) (λ v. expect number (λ d. more (clause.Granularity d)))) (token.Symbol symbol.Equal) equal in
        begun n (codes "SETTINGS") refl (expect (exactly (codes "index_granularity")) (λ v. expect (the symbol.Equal) (λ v. expect number (λ d. more (clause.Granularity d))))) (token.Word (codes "index_granularity")) named

    last_begun : (has : Bool) (over : Reader S) → Begun n over (token.Symbol symbol.Semicolon) → Begun n (either has over (order_by more)) (start has)
    unfolding start
    last_begun true over ending = ending
    last_begun false over ending = order_by_begun

    clause_begun : (seen : List Clause) (over : Reader S) → Begun n over (token.Symbol symbol.Semicolon) → Begun n (clause_or_over seen more over) (start (list_any is_order_by seen))
    clause_begun seen over ending =
        let has = list_any is_order_by seen in
        choose_begun n (by_partition seen) (partition_by more) (no_partition_way seen more over) (token.Word (codes "PARTITION")) (start has) (no_partition seen has) partition_by_begun
        (choose_begun n (by_primary seen) (primary_key more) (no_primary_way seen more over) (token.Word (codes "PRIMARY")) (start has) (no_primary seen has) primary_key_begun
        (choose_begun n (by_settings seen) (settings more) (last_way seen more over) (token.Word (codes "SETTINGS")) (start has) (no_settings seen has) settings_begun (last_begun has over ending)))

  -- all clauses, and then the statement's end
  module _ (next : List Clause → Reader S) (ending : (cs : List Clause) → Begun n (next cs) (token.Symbol symbol.Semicolon)) where
    clauses_live : (count : ℕ) (seen : List Clause) → Live n (clauses_within count seen next)
    clauses_live zero seen = live_of n (next seen) (token.Symbol symbol.Semicolon) (ending seen).sound
    clauses_live (suc count) seen =
        let more = λ (c : Clause). clauses_within count (seen ++ c ∷ []) next in
        let live = λ (c : Clause). clauses_live count (seen ++ c ∷ []) in
        live_of n (clause_or_over seen more (next seen)) (start (list_any is_order_by seen)) (clause_begun more live seen (next seen) (ending seen)).sound

    clauses_sound : Sound n (clauses next) (token.Word (codes "ORDER"))
    unfolding start
    clauses_sound = (clause_begun (λ c. clauses_within 3 (c ∷ []) next) (λ c. clauses_live 3 (c ∷ [])) [] (next []) (ending [])).sound

-- ---- statements, each after its first keyword

module _ (n : ℕ) where
  elements_sound : (next : List Element → Reader Statement) (u : Token) → ((elements : List Element) → Sound n (next elements) u) → Sound n (expect (the symbol.Open) (λ v. list_of table_element (λ elements. expect (the symbol.Close) (λ v. next elements)))) (token.Symbol symbol.Open)
  elements_sound next u sound =
      passes n (is_symbol symbol.Open) (token.Symbol symbol.Open) refl (λ v. list_of table_element (λ elements. expect (the symbol.Close) (λ v. next elements))) a_name
      (list_sound table_element a_name element_takes element_sound (λ elements. expect (the symbol.Close) (λ v. next elements)) (token.Symbol symbol.Close) refl n
      (λ elements. passes n (is_symbol symbol.Close) (token.Symbol symbol.Close) refl (λ v. next elements) u (sound elements)))

  -- what follows the elements of a CREATE
  engine_read : (EngineText → List Clause → Statement) → Reader Statement
  engine_read made = expect (keyword (codes "ENGINE")) (λ v. expect (the symbol.Equal) (λ v. engine (λ e. clauses (λ cs. ends (made e cs)))))

  engine_read_sound : (made : EngineText → List Clause → Statement) → Sound n (engine_read made) (token.Word (codes "ENGINE"))
  unfolding engine_read
  engine_read_sound made =
      let all = λ (e : EngineText). clauses_sound n (λ cs. ends (made e cs)) (λ cs. ends_begun n (made e cs)) in
      let engines = engine_sound n (token.Word (codes "ORDER")) refl (λ e. clauses (λ cs. ends (made e cs))) all in
      keyword_then n (codes "ENGINE") refl (expect (the symbol.Equal) (λ v. engine (λ e. clauses (λ cs. ends (made e cs))))) (token.Symbol symbol.Equal)
      (passes n (is_symbol symbol.Equal) (token.Symbol symbol.Equal) refl (λ v. engine (λ e. clauses (λ cs. ends (made e cs)))) (token.Word (codes "MergeTree")) engines)

  -- what follows CREATE
  create_read : List ℕ → Reader Statement
  create_read text =
      expect (keyword (codes "TABLE")) (λ v. expect name (λ table. expect (the symbol.Open) (λ v. list_of table_element (λ elements. expect (the symbol.Close) (λ v.
      engine_read (λ e cs. statement.Create (record { text = text; table = table; elements = elements; engine = e; clauses = cs })))))))

  create_read_sound : (text : List ℕ) → Sound n (create_read text) (token.Word (codes "TABLE"))
  unfolding create_read
  create_read_sound text =
      let made = λ (table : List ℕ) (elements : List Element) (e : EngineText) (cs : List Clause). statement.Create (record { text = text; table = table; elements = elements; engine = e; clauses = cs }) in
      let elements_then = λ (table : List ℕ) (elements : List Element). engine_read (made table elements) in
      let sound = λ (table : List ℕ). elements_sound (elements_then table) (token.Word (codes "ENGINE")) (λ elements. engine_read_sound (made table elements)) in
      keyword_then n (codes "TABLE") refl (expect name (λ table. expect (the symbol.Open) (λ v. list_of table_element (λ elements. expect (the symbol.Close) (λ v. elements_then table elements))))) a_name
      (names_then n (λ table. expect (the symbol.Open) (λ v. list_of table_element (λ elements. expect (the symbol.Close) (λ v. elements_then table elements)))) (token.Symbol symbol.Open) sound)

  -- what follows INSERT
  insert_read : List ℕ → Bool → Reader Statement
  insert_read lines ended =
      expect (keyword (codes "INTO")) (λ v. expect name (λ table.
      choose (is_word (is_keyword (codes "FORMAT")))
      (expect (keyword (codes "FORMAT")) (λ v. expect format (λ v. ends (statement.Insert (record { table = table; lines = lines; ended = ended })))))
      (ends (statement.Insert (record { table = table; lines = lines; ended = ended })))))

  insert_read_sound : (lines : List ℕ) (ended : Bool) → Sound n (insert_read lines ended) (token.Word (codes "INTO"))
  unfolding insert_read
  insert_read_sound lines ended =
      let rest = λ (table : List ℕ).
      choose (is_word (is_keyword (codes "FORMAT")))
      (expect (keyword (codes "FORMAT")) (λ v. expect format (λ v. ends (statement.Insert (record { table = table; lines = lines; ended = ended })))))
      (ends (statement.Insert (record { table = table; lines = lines; ended = ended }))) in
      keyword_then n (codes "INTO") refl (expect name rest) a_name
      (names_then n rest (token.Word (codes "FORMAT")) (λ table. format_sound n (statement.Insert (record { table = table; lines = lines; ended = ended }))))

  -- FINAL may be left out, where a semicolon begins what follows it
  final_begun : (next : Bool → Reader Statement) → ((whole : Bool) → Begun n (next whole) (token.Symbol symbol.Semicolon)) → Begun n (final next) (token.Symbol symbol.Semicolon)
  final_begun next ending =
      choose_begun n (is_word (is_keyword (codes "FINAL"))) (expect (keyword (codes "FINAL")) (λ v. next true)) (next false) (token.Word (codes "FINAL")) (token.Symbol symbol.Semicolon) refl
      (begun n (codes "FINAL") refl (next true) (token.Symbol symbol.Semicolon) (ending true).sound) (ending false)

  -- what follows the columns of a SELECT, from which a statement is made
  rows_read : (SelectText → Statement) → Selected → Reader Statement
  rows_read made columns =
      expect (keyword (codes "FROM")) (λ v. expect name (λ table. final (λ is_final. where_part (λ condition.
      ends (made (record { columns = columns; table = table; is_final = is_final; condition = condition }))))))

  rows_read_sound : (made : SelectText → Statement) (columns : Selected) → Sound n (rows_read made columns) (token.Word (codes "FROM"))
  unfolding rows_read
  rows_read_sound made columns =
      let of = λ (table : List ℕ) (is_final : Bool) (condition : Condition TestText). made (record { columns = columns; table = table; is_final = is_final; condition = condition }) in
      let rest = λ (table : List ℕ). final (λ is_final. where_part (λ condition. ends (of table is_final condition))) in
      keyword_then n (codes "FROM") refl (expect name rest) a_name
      (names_then n rest (token.Symbol symbol.Semicolon)
      (λ table. (final_begun (λ is_final. where_part (λ condition. ends (of table is_final condition)))
      (λ is_final. where_begun n (λ condition. ends (of table is_final condition)) (λ condition. ends_begun n (of table is_final condition)))).sound))

  -- what follows SELECT
  select_read : (SelectText → Statement) → Reader Statement
  select_read made = selection (rows_read made)

  select_read_sound : (made : SelectText → Statement) → Sound n (select_read made) (token.Symbol symbol.Star)
  unfolding select_read
  select_read_sound made = selection_sound n (rows_read made) (token.Word (codes "FROM")) refl (rows_read_sound made)

  -- what follows EXPLAIN
  explain_read : Reader Statement
  explain_read = expect (keyword (codes "SELECT")) (λ v. select_read (λ asked. statement.Explain asked))

  explain_read_sound : Sound n explain_read (token.Word (codes "SELECT"))
  unfolding explain_read
  explain_read_sound =
      let made = λ (asked : SelectText). statement.Explain asked in
      keyword_then n (codes "SELECT") refl (select_read made) (token.Symbol symbol.Star) (select_read_sound made)

  -- a partition may be left out, where a semicolon begins what follows it
  partition_begun : (next : Option (List ℕ) → Reader Statement) → ((id : Option (List ℕ)) → Begun n (next id) (token.Symbol symbol.Semicolon)) → Begun n (partition_id next) (token.Symbol symbol.Semicolon)
  partition_begun next ending =
      let id = strings_live n (λ id. next (Some id)) (λ id. live_of n (next (Some id)) (token.Symbol symbol.Semicolon) (ending (Some id)).sound) in
      let named = keyword_then n (codes "ID") refl (expect string (λ id. next (Some id))) a_string id in
      choose_begun n (is_word (is_keyword (codes "PARTITION"))) (expect (keyword (codes "PARTITION")) (λ v. expect (keyword (codes "ID")) (λ v. expect string (λ id. next (Some id))))) (next None)
      (token.Word (codes "PARTITION")) (token.Symbol symbol.Semicolon) refl
      (begun n (codes "PARTITION") refl (expect (keyword (codes "ID")) (λ v. expect string (λ id. next (Some id)))) (token.Word (codes "ID")) named) (ending None)

  -- what follows OPTIMIZE
  optimize_read : Reader Statement
  optimize_read =
      expect (keyword (codes "TABLE")) (λ v. expect name (λ table. partition_id (λ id. final (λ whole.
      ends (statement.Optimize (record { table = table; partition = id; whole = whole }))))))

  optimize_read_sound : Sound n optimize_read (token.Word (codes "TABLE"))
  unfolding optimize_read
  optimize_read_sound =
      let made = λ (table : List ℕ) (id : Option (List ℕ)) (whole : Bool). statement.Optimize (record { table = table; partition = id; whole = whole }) in
      let rest = λ (table : List ℕ). partition_id (λ id. final (λ whole. ends (made table id whole))) in
      keyword_then n (codes "TABLE") refl (expect name rest) a_name
      (names_then n rest (token.Symbol symbol.Semicolon)
      (λ table. (partition_begun (λ id. final (λ whole. ends (made table id whole))) (λ id. final_begun (λ whole. ends (made table id whole)) (λ whole. ends_begun n (made table id whole)))).sound))

  -- an OPTIMIZE or a SELECT, by the first keyword
  merging_begun : Begun n (choose (is_word (is_keyword (codes "OPTIMIZE"))) optimize select) (token.Word (codes "SELECT"))
  unfolding optimize_read select_read rows_read
  merging_begun =
      let made = λ (asked : SelectText). statement.Select asked in
      choose_begun n (is_word (is_keyword (codes "OPTIMIZE"))) optimize select (token.Word (codes "OPTIMIZE")) (token.Word (codes "SELECT")) refl
      (begun n (codes "OPTIMIZE") refl optimize_read (token.Word (codes "TABLE")) optimize_read_sound)
      (begun n (codes "SELECT") refl (select_read made) (token.Symbol symbol.Star) (select_read_sound made))

  -- or an EXPLAIN
  asking_begun : Begun n (choose (is_word (is_keyword (codes "EXPLAIN"))) explain (choose (is_word (is_keyword (codes "OPTIMIZE"))) optimize select)) (token.Word (codes "SELECT"))
  unfolding explain_read select_read rows_read
  asking_begun =
      choose_begun n (is_word (is_keyword (codes "EXPLAIN"))) explain (choose (is_word (is_keyword (codes "OPTIMIZE"))) optimize select) (token.Word (codes "EXPLAIN")) (token.Word (codes "SELECT")) refl
      (begun n (codes "EXPLAIN") refl explain_read (token.Word (codes "SELECT")) explain_read_sound) merging_begun

  statement_sound : (text lines : List ℕ) (ended : Bool) → Sound n (statement_reader text lines ended) (token.Word (codes "SELECT"))
  unfolding create_read insert_read engine_read
  statement_sound text lines ended =
      let by_create = is_word (is_keyword (codes "CREATE")) in
      let by_insert = is_word (is_keyword (codes "INSERT")) in
      let asking = choose (is_word (is_keyword (codes "EXPLAIN"))) explain (choose (is_word (is_keyword (codes "OPTIMIZE"))) optimize select) in
      (choose_begun n by_create (create text) (choose by_insert (insert lines ended) asking) (token.Word (codes "CREATE")) (token.Word (codes "SELECT")) refl
      (begun n (codes "CREATE") refl (create_read text) (token.Word (codes "TABLE")) (create_read_sound text))
      (choose_begun n by_insert (insert lines ended) asking (token.Word (codes "INSERT")) (token.Word (codes "SELECT")) refl
      (begun n (codes "INSERT") refl (insert_read lines ended) (token.Word (codes "INTO")) (insert_read_sound lines ended)) asking_begun)).sound

-- ---- any number of tokens

told : (text lines : List ℕ) (ended : Bool) (tokens : List Placed) (r : Reading Statement) → statement_reader text lines ended tokens ≡ r → Told (statement_reader text lines ended) tokens r
told text lines ended tokens r e = (statement_sound (length tokens + 1) text lines ended).good tokens r (omega arith) e

pub wrong_is_first : (text lines : List ℕ) (ended : Bool) (tokens rest : List Placed) → statement_reader text lines ended tokens ≡ Err (slip.Wrong, rest) → FirstFault (statement_reader text lines ended) tokens rest
wrong_is_first text lines ended tokens rest e = told text lines ended tokens (Err (slip.Wrong, rest)) e

pub long_is_first : (text lines : List ℕ) (ended : Bool) (tokens rest : List Placed) → statement_reader text lines ended tokens ≡ Err (slip.LongName, rest) → LongFault (statement_reader text lines ended) tokens rest
long_is_first text lines ended tokens rest e = told text lines ended tokens (Err (slip.LongName, rest)) e

pub deep_is_first : (text lines : List ℕ) (ended : Bool) (tokens rest : List Placed) → statement_reader text lines ended tokens ≡ Err (slip.TooDeep, rest) → DeepFault (statement_reader text lines ended) tokens rest
deep_is_first text lines ended tokens rest e = told text lines ended tokens (Err (slip.TooDeep, rest)) e

pub nothing_follows : (text lines : List ℕ) (ended : Bool) (tokens : List Placed) (s : Statement) → statement_reader text lines ended tokens ≡ Ok s → (p : Placed) → ¬ GoesOn (statement_reader text lines ended) (tokens ++ p ∷ [])
nothing_follows text lines ended tokens s e = told text lines ended tokens (Ok s) e

-- ---- why a text is refused

kept : (long : Bool) (s : Statement) (c : Cause) → cond long (Err cause.LongStatement) (Ok s) ≡ Err c → c ≡ cause.LongStatement
kept true s c e = cc
kept false s c e = cc

refused : (long : Bool) (s : Slip) (place : ℕ) (c : Cause) → ◌≡◌ {A = Result Statement Cause} (Err (cond long cause.LongStatement (cause_at s place))) (Err c) → (c ≡ cause.LongStatement → ⊥) → cause_at s place ≡ c
refused true s place c e short = absurd (short (by e))
  where
    by : ◌≡◌ {A = Result Statement Cause} (Err cause.LongStatement) (Err c) → c ≡ cause.LongStatement
    by e = cc
refused false s place c e short = cc

grammar_at : (s : Slip) (place other : ℕ) → cause_at s place ≡ cause.Grammar other → (s ≡ slip.Wrong) × (other ≡ place)
grammar_at slip.Wrong place other e = (refl, cc)
grammar_at slip.LongName place other e = cc
grammar_at slip.TooDeep place other e = cc

long_at : (s : Slip) (place : ℕ) → cause_at s place ≡ cause.LongName → s ≡ slip.LongName
long_at slip.Wrong place e = cc
long_at slip.LongName place e = refl
long_at slip.TooDeep place e = cc

deep_at : (s : Slip) (place : ℕ) → cause_at s place ≡ cause.TooDeep → s ≡ slip.TooDeep
deep_at slip.Wrong place e = cc
deep_at slip.LongName place e = cc
deep_at slip.TooDeep place e = refl

-- the fault that a text is refused for, where it is not its length
cause_parts : (size : ℕ) (r : Reading Statement) (c : Cause) → statement_read size r ≡ Err c → (c ≡ cause.LongStatement → ⊥) → (s : Slip) × (rest : List Placed) × (r ≡ Err (s, rest)) × (cause_at s (place_of_first size rest) ≡ c)
cause_parts size (Ok s) c e short = absurd (short (kept (nat_lt statement_limit size) s c e))
cause_parts size (Err fault) c e short =
    (fault.0, fault.1, refl, refused (nat_lt statement_limit size && is_behind_limit fault.0 (place_of_first size fault.1)) fault.0 (place_of_first size fault.1) c e short)

pub grammar_is_first : (text lines : List ℕ) (terminated ended : Bool) (place : ℕ) → statement_of text terminated lines ended ≡ Err (cause.Grammar place) →
    (rest : List Placed) × FirstFault (statement_reader text lines ended) (tokens_and_end text terminated) rest × (place ≡ place_of_first (length text) rest)
grammar_is_first text lines terminated ended place e =
    let found = cause_parts (length text) (statement_reader text lines ended (tokens_and_end text terminated)) (cause.Grammar place) e apart in
    let is = grammar_at found.0 (place_of_first (length text) found.1) place found.3 in
    (found.1, wrong_is_first text lines ended (tokens_and_end text terminated) found.1 (found.2 ∙ ap (λ (s : Slip). Err (s, found.1)) is.0), is.1)
  where
    apart : cause.Grammar place ≡ cause.LongStatement → ⊥
    apart e = cc

pub long_name_is_first : (text lines : List ℕ) (terminated ended : Bool) → statement_of text terminated lines ended ≡ Err cause.LongName →
    (rest : List Placed) × LongFault (statement_reader text lines ended) (tokens_and_end text terminated) rest
long_name_is_first text lines terminated ended e =
    let found = cause_parts (length text) (statement_reader text lines ended (tokens_and_end text terminated)) cause.LongName e apart in
    let is = long_at found.0 (place_of_first (length text) found.1) found.3 in
    (found.1, long_is_first text lines ended (tokens_and_end text terminated) found.1 (found.2 ∙ ap (λ (s : Slip). Err (s, found.1)) is))
  where
    apart : cause.LongName ≡ cause.LongStatement → ⊥
    apart e = cc

pub depth_is_first : (text lines : List ℕ) (terminated ended : Bool) → statement_of text terminated lines ended ≡ Err cause.TooDeep →
    (rest : List Placed) × DeepFault (statement_reader text lines ended) (tokens_and_end text terminated) rest
depth_is_first text lines terminated ended e =
    let found = cause_parts (length text) (statement_reader text lines ended (tokens_and_end text terminated)) cause.TooDeep e apart in
    let is = deep_at found.0 (place_of_first (length text) found.1) found.3 in
    (found.1, deep_is_first text lines ended (tokens_and_end text terminated) found.1 (found.2 ∙ ap (λ (s : Slip). Err (s, found.1)) is))
  where
    apart : cause.TooDeep ≡ cause.LongStatement → ⊥
    apart e = cc
