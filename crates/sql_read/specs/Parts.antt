-- The parts of statements (docs/grammar.md, "Statements") that the code reads one by one, each with what may follow it.
use Rattle.std.specs.Prelude.{ℕ, List, Option, Some, None, codes}
use Rattle.mt_values.specs.declared.statement.Clause.{Clause}
use Rattle.mt_values.specs.declared.statement.Element.{Element}
use Rattle.mt_values.specs.declared.statement.EngineText.{EngineText}
use Rattle.mt_values.specs.declared.statement.KindText.{KindText}
use Rattle.mt_values.specs.declared.statement.KindText.TheVariants as kind
use Rattle.mt_values.specs.declared.token.Symbol.TheVariants as symbol
use Rattle.mt_values.specs.Grammar.{clause_or_over, engine, exactly, format, index_kind, is_symbol, is_word, key, keyword, list_of, name, number, table_element, the}
use Rattle.mt_values.specs.Readers.{Part, Reader, choose, expect}
use Rattle.mt_values.specs.Tokens.{is_keyword}

-- two keywords and a name, as CREATE TABLE name
abbrev pub name_after : {S : Type 0} → List ℕ → List ℕ → Part S (List ℕ)
name_after first second next = expect (keyword first) (λ _. expect (keyword second) (λ _. expect name next))

-- two keywords and a key, as ORDER BY key
abbrev pub key_after : {S : Type 0} → List ℕ → List ℕ → Part S (List (List ℕ))
key_after first second next = expect (keyword first) (λ _. expect (keyword second) (λ _. key next))

-- minmax
abbrev pub minmax_kind : {S : Type 0} → Part S KindText
minmax_kind next = expect (exactly (codes "minmax")) (λ _. next kind.MinMax)

-- TYPE kind
abbrev pub index_type : {S : Type 0} → Part S KindText
index_type next = expect (keyword (codes "TYPE")) (λ _. index_kind next)

-- GRANULARITY number
abbrev pub index_granularity : {S : Type 0} → Part S (List ℕ)
index_granularity next = expect (keyword (codes "GRANULARITY")) (λ _. expect number next)

-- "(" element { "," element } ")"
abbrev pub created_elements : {S : Type 0} → Part S (List Element)
created_elements next = expect (the symbol.Open) (λ _. list_of table_element (λ elements. expect (the symbol.Close) (λ _. next elements)))

-- a clause that came next
abbrev pub found_clause : {S : Type 0} → Part S Clause → Part S (Option Clause)
found_clause part next = part (λ c. next (Some c))

-- one more clause after these, or none
abbrev pub next_clause : {S : Type 0} → List Clause → Part S (Option Clause)
next_clause seen next = clause_or_over seen (λ c. next (Some c)) (next None)

-- ENGINE "=" engine
abbrev pub created_engine : {S : Type 0} → Part S EngineText
created_engine next = expect (keyword (codes "ENGINE")) (λ _. expect (the symbol.Equal) (λ _. engine next))

-- [ "(" ")" ]
abbrev pub empty_arguments : {S : Type 0} → Part S (Unit {0})
empty_arguments next = choose (is_symbol symbol.Open) (expect (the symbol.Open) (λ _. expect (the symbol.Close) next)) (next tt)

-- [ "(" [ what is given first ] ], where else what is given second follows
abbrev pub argument_or : {S : Type 0} → Reader S → Reader S → Reader S
argument_or argument none =
    choose (is_symbol symbol.Open)
    (expect (the symbol.Open) (λ _. choose (is_symbol symbol.Close) (expect (the symbol.Close) (λ _. none)) argument))
    none

-- [ FORMAT format ]
abbrev pub inserted_format : {S : Type 0} → Part S (Unit {0})
inserted_format next =
    choose (is_word (is_keyword (codes "FORMAT"))) (expect (keyword (codes "FORMAT")) (λ _. expect format next)) (next tt)

-- FROM name
abbrev pub selected_table : {S : Type 0} → Part S (List ℕ)
selected_table next = expect (keyword (codes "FROM")) (λ _. expect name next)
