-- A CREATE of a script names at least one column in each of its keys, its table's name is a name, and its text is read again as it alone.
use Rattle.std.proofs.Common.{◌≡◌, ℕ, ◌+◌, Bool, true, false, cond, List, [], ◌∷◌, ◌++◌, Option, Some, None, IfOk, Result, Ok, Err, length, All, zero, suc, nat_lt, refl, sym, ap, ◌∙◌, codes}
use Rattle.std.specs.List.{list_all}
use Rattle.std.proofs.lemmas.List.Elements.{All-nil, All-cons}
use Rattle.mt_values.specs.declared.script.Place.TheVariants.{Outside}
use Rattle.mt_values.specs.declared.statement.Cause.{Cause}
use Rattle.mt_values.specs.declared.statement.Cause.TheVariants as cause
use Rattle.mt_values.specs.declared.statement.CreateText.{CreateText}
use Rattle.mt_values.specs.declared.statement.Slip.{Slip}
use Rattle.mt_values.specs.declared.statement.Statement.{Statement}
use Rattle.mt_values.specs.declared.statement.Statement.TheVariants as statement
use Rattle.mt_values.specs.declared.token.Placed.{Placed}
use Rattle.mt_values.specs.declared.token.Symbol.TheVariants as symbol
use Rattle.mt_values.specs.declared.token.Token.{Token}
use Rattle.mt_values.specs.Tokens.{behind, is_keyword, is_space, tokens_of}
use Rattle.mt_values.specs.Readers.{Reader, Reading, either, choose}
use Rattle.mt_values.specs.Grammar as grammar
use Rattle.mt_values.specs.Script.{ended_from, Data, refused_behind, with_line_rest, line_rest, behind_line, data_of, complete, complete_or_cut, is_between, next_from, next_statement, Step, statement_and, statements_within, statements_of}
use Rattle.mt_model.specs.Clauses.{NamesKeys}
use Rattle.mt_model.specs.Written.{IsName, IsWritten}
use Rattle.mt_model.proofs.Again.{BeginsText, behind_begins, next_alone}
use Rattle.mt_model.proofs.Unended.{IsOpen, open_no_ends}
use Rattle.mt_model.proofs.Words.{IsWordToken, tokens_words, name_says}
use Rattle.mt_model.proofs.ClauseKeys.{clauses_give}
use Rattle.mt_model.proofs.Giving.{Gives, GivesAll, expect_says, expect_gives, choose_gives, ends_says, list_gives, element_passes, engine_gives, insert_gives, others_give}

-- ---- what a CREATE says

-- a token of a text: its words are words, and it is no semicolon where no semicolon ends the text
pub record IsTokenOf (terminated : Bool) (t : Token) : Type 0 where
  pub word : IsWordToken t
  pub inner : terminated ≡ false → grammar.is_symbol symbol.Semicolon t ≡ false

-- a CREATE that was read from a text
pub record IsCreateOf (text : List ℕ) (terminated : Bool) (c : CreateText) : Type 0 where
  pub is : c.text ≡ text
  pub keys : NamesKeys c.clauses
  pub named : IsName c.table
  pub ended : terminated ≡ true

abbrev IsStatementOf : List ℕ → Bool → Statement → Type 0
IsStatementOf text terminated (statement.Create c) = IsCreateOf text terminated c
IsStatementOf text terminated (statement.Insert i) = Unit {0}
IsStatementOf text terminated (statement.Select s) = Unit {0}
IsStatementOf text terminated (statement.Explain s) = Unit {0}
IsStatementOf text terminated (statement.Optimize o) = Unit {0}

tokens_are : (text : List ℕ) (terminated : Bool) → (terminated ≡ false → IsOpen Outside text) → All (λ p. IsTokenOf terminated p.token) (grammar.tokens_and_end text terminated)
tokens_are text true whole = λ k d lt. record { word = tokens_words text true k d lt; inner = λ e. cc }
tokens_are text false whole = λ k d lt. record { word = tokens_words text false k d lt; inner = λ e. open_no_ends text (whole refl) k d lt }

name_is : (terminated : Bool) (t : Token) → IsTokenOf terminated t → IfOk (grammar.name t) IsName
name_is terminated t h = name_says t h.word

close_cases : (terminated semicolon : Bool) → (terminated ≡ false → semicolon ≡ false) → IfOk (grammar.passing semicolon) (λ _. terminated ≡ true)
close_cases true true inner = refl
close_cases true false inner = tt
close_cases false true inner = absurd (clash (inner refl))
  where
    clash : true ≡ false → ⊥
    clash e = cc
close_cases false false inner = tt

-- where a semicolon comes, it ends the text
close_is : (terminated : Bool) (t : Token) → IsTokenOf terminated t → IfOk (grammar.the symbol.Semicolon t) (λ _. terminated ≡ true)
close_is terminated t h = close_cases terminated (grammar.is_symbol symbol.Semicolon t) h.inner

ok_weaker : {X : Type 0} (P Q : X → Type 0) (r : Result X Slip) → ((x : X) → P x → Q x) → IfOk r P → IfOk r Q
ok_weaker P Q (Ok x) weaker h = weaker x h
ok_weaker P Q (Err s) weaker h = tt

-- an EXPLAIN, an OPTIMIZE or a SELECT
abbrev others : Reader Statement
others = choose (grammar.is_word (is_keyword (codes "EXPLAIN"))) grammar.explain (choose (grammar.is_word (is_keyword (codes "OPTIMIZE"))) grammar.optimize grammar.select)

module _ (text : List ℕ) (terminated : Bool) where
  abbrev Known : Token → Type 0
  Known t = IsTokenOf terminated t

  abbrev Read : Statement → Type 0
  Read s = IsStatementOf text terminated s

  create_gives : GivesAll Known Read (grammar.create text)
  create_gives =
      expect_gives Known Read _ _ (λ _. expect_gives Known Read _ _ (λ _. expect_says Known Read grammar.name _ IsName (name_is terminated) (λ table named.
      expect_gives Known Read _ _ (λ _. list_gives Known Read grammar.table_element _ (element_passes Known Read) (λ elements some. expect_gives Known Read _ _ (λ _.
      expect_gives Known Read _ _ (λ _. expect_gives Known Read _ _ (λ _. engine_gives Known Read _ (λ e. clauses_give Known Read _ (λ clauses keyed.
      ends_says Known Read (statement.Create (record { text = text; table = table; elements = elements; engine = e; clauses = clauses })) (λ t h.
      ok_weaker (λ _. terminated ≡ true) _ (grammar.the symbol.Semicolon t) (λ _ ended. record { is = refl; keys = keyed; named = named; ended = ended }) (close_is terminated t h))))))))))))

  reader_gives : (lines : List ℕ) (ended : Bool) → GivesAll Known Read (grammar.statement_reader text lines ended)
  reader_gives lines ended =
      choose_gives Known Read (grammar.is_word (is_keyword (codes "CREATE"))) (grammar.create text) _ create_gives
      (choose_gives Known Read (grammar.is_word (is_keyword (codes "INSERT"))) (grammar.insert lines ended) others (insert_gives Known Read lines ended (λ _. tt)) (others_give Known Read (λ _. tt) (λ _. tt) (λ _. tt)))

-- ---- a CREATE does not depend on data

abbrev IsNoCreate : Statement → Type 0
IsNoCreate (statement.Create c) = ⊥
IsNoCreate (statement.Insert i) = Unit {0}
IsNoCreate (statement.Select s) = Unit {0}
IsNoCreate (statement.Explain s) = Unit {0}
IsNoCreate (statement.Optimize o) = Unit {0}

-- where one gives a CREATE, the other gives the same
abbrev SameCreate : Reading Statement → Reading Statement → Type 0
SameCreate (Ok (statement.Create c)) r = r ≡ Ok (statement.Create c)
SameCreate (Ok (statement.Insert i)) r = Unit {0}
SameCreate (Ok (statement.Select s)) r = Unit {0}
SameCreate (Ok (statement.Explain s)) r = Unit {0}
SameCreate (Ok (statement.Optimize o)) r = Unit {0}
SameCreate (Err fault) r = Unit {0}

same_as_itself : (r : Reading Statement) → SameCreate r r
same_as_itself (Ok (statement.Create c)) = refl
same_as_itself (Ok (statement.Insert i)) = tt
same_as_itself (Ok (statement.Select s)) = tt
same_as_itself (Ok (statement.Explain s)) = tt
same_as_itself (Ok (statement.Optimize o)) = tt
same_as_itself (Err fault) = tt

abbrev AnyToken : Token → Type 0
AnyToken t = Unit {0}

same_as_none : (r q : Reading Statement) → Gives AnyToken IsNoCreate r → SameCreate r q
same_as_none (Ok (statement.Create c)) q h = absurd h
same_as_none (Ok (statement.Insert i)) q h = tt
same_as_none (Ok (statement.Select s)) q h = tt
same_as_none (Ok (statement.Explain s)) q h = tt
same_as_none (Ok (statement.Optimize o)) q h = tt
same_as_none (Err fault) q h = tt

either_same : (b : Bool) (this other another : Reader Statement) (ts : List Placed) → GivesAll AnyToken IsNoCreate other → SameCreate (either b this other ts) (either b this another ts)
either_same true this other another ts h = same_as_itself (this ts)
either_same false this other another ts h = same_as_none (other ts) (another ts) (h ts (λ _ _ _. tt))

choose_same : (test : Token → Bool) (this other another : Reader Statement) (ts : List Placed) → GivesAll AnyToken IsNoCreate other → SameCreate (choose test this other ts) (choose test this another ts)
choose_same test this other another [] h = same_as_none (other []) (another []) (h [] (λ _ _ _. tt))
choose_same test this other another (p ∷ ps) h = either_same (test p.token) this other another (p ∷ ps) h

reader_same : (text lines : List ℕ) (ended : Bool) (ts : List Placed) → SameCreate (grammar.statement_reader text lines ended ts) (grammar.statement_reader text [] false ts)
reader_same text lines ended ts =
    choose_same (grammar.is_word (is_keyword (codes "CREATE"))) (grammar.create text) _ (choose (grammar.is_word (is_keyword (codes "INSERT"))) (grammar.insert [] false) others) ts
    (choose_gives AnyToken IsNoCreate (grammar.is_word (is_keyword (codes "INSERT"))) (grammar.insert lines ended) others (insert_gives AnyToken IsNoCreate lines ended (λ _. tt)) (others_give AnyToken IsNoCreate (λ _. tt) (λ _. tt) (λ _. tt)))

-- ---- statements of texts

-- a CREATE of a text that a semicolon ends, whatever its data
pub record IsCreateAlone (text : List ℕ) (c : CreateText) : Type 0 where
  pub of_text : IsCreateOf text true c
  pub alone : grammar.statement_of text true [] false ≡ Ok (statement.Create c)

abbrev IsAlone : List ℕ → Result Statement Cause → Type 0
IsAlone text (Ok (statement.Create c)) = IsCreateAlone text c
IsAlone text (Ok (statement.Insert i)) = Unit {0}
IsAlone text (Ok (statement.Select s)) = Unit {0}
IsAlone text (Ok (statement.Explain s)) = Unit {0}
IsAlone text (Ok (statement.Optimize o)) = Unit {0}
IsAlone text (Err why) = Unit {0}

alone_if : (text : List ℕ) (b : Bool) (r q : Result Statement Cause) → IsAlone text r → IsAlone text q → IsAlone text (cond b r q)
alone_if text true r q h k = h
alone_if text false r q h k = k

read_alone : (text : List ℕ) (r q : Reading Statement) → q ≡ grammar.statement_reader text [] false (grammar.tokens_and_end text true) → Gives (λ t. IsTokenOf true t) (IsStatementOf text true) r → SameCreate r q → IsAlone text (grammar.statement_read (length text) r)
read_alone text (Ok (statement.Create c)) q is h same = by (nat_lt grammar.statement_limit (length text)) refl
  where
    by : (b : Bool) → nat_lt grammar.statement_limit (length text) ≡ b → IsAlone text (cond b (Err cause.LongStatement) (Ok (statement.Create c)))
    by true e = tt
    by false e = record { of_text = h; alone = ap (grammar.statement_read (length text)) (sym is ∙ same) ∙ ap (λ b. cond b (Err cause.LongStatement) (Ok (statement.Create c))) e }
read_alone text (Ok (statement.Insert i)) q is h same = alone_if text (nat_lt grammar.statement_limit (length text)) (Err cause.LongStatement) (Ok (statement.Insert i)) tt tt
read_alone text (Ok (statement.Select s)) q is h same = alone_if text (nat_lt grammar.statement_limit (length text)) (Err cause.LongStatement) (Ok (statement.Select s)) tt tt
read_alone text (Ok (statement.Explain s)) q is h same = alone_if text (nat_lt grammar.statement_limit (length text)) (Err cause.LongStatement) (Ok (statement.Explain s)) tt tt
read_alone text (Ok (statement.Optimize o)) q is h same = alone_if text (nat_lt grammar.statement_limit (length text)) (Err cause.LongStatement) (Ok (statement.Optimize o)) tt tt
read_alone text (Err fault) q is h same = tt

statement_alone : (text lines : List ℕ) (ended : Bool) → IsAlone text (grammar.statement_of text true lines ended)
statement_alone text lines ended =
    let ts = grammar.tokens_and_end text true in
    read_alone text (grammar.statement_reader text lines ended ts) (grammar.statement_reader text [] false ts) refl
    (reader_gives text true lines ended ts (tokens_are text true (λ e. cc))) (reader_same text lines ended ts)

behind_alone : (text : List ℕ) (place : ℕ) (r : Result Statement Cause) → IsAlone text (refused_behind place r)
behind_alone text place (Ok s) = tt
behind_alone text place (Err why) = tt

with_rest_alone : (text line : List ℕ) (d : Data) → IsAlone text (with_line_rest text line d)
with_rest_alone text line d = alone_if text (list_all is_space line) _ _ (statement_alone text d.lines d.ended) (behind_alone text _ (grammar.statement_of text true d.lines d.ended))

complete_alone : (found : List ℕ × List ℕ) → IsAlone found.0 (complete found).0
complete_alone found = by (grammar.takes_data found.0) refl
  where
    by : (b : Bool) → grammar.takes_data found.0 ≡ b → IsAlone found.0 (complete found).0
    by true e = rw e (with_rest_alone found.0 (line_rest found.1) (data_of (behind_line found.1)))
    by false e = rw e (statement_alone found.0 [] false)

-- ---- statements of a script

alone_written : (text : List ℕ) (r : Result Statement Cause) → IsAlone text r → next_statement (text ++ 59 ∷ []) ≡ Some (grammar.statement_of text true [] false, []) → IsWritten r
alone_written text (Ok (statement.Create c)) h next = record {
  keys = h.of_text.keys;
  named = h.of_text.named;
  again = ap (λ t. next_statement (t ++ 59 ∷ [])) h.of_text.is ∙ (next ∙ ap (λ (s : Result Statement Cause). Some (s, [])) h.alone);
}
alone_written text (Ok (statement.Insert i)) h next = tt
alone_written text (Ok (statement.Select s)) h next = tt
alone_written text (Ok (statement.Explain s)) h next = tt
alone_written text (Ok (statement.Optimize o)) h next = tt
alone_written text (Err why) h next = tt

written_if : (b : Bool) (r q : Result Statement Cause) → IsWritten r → IsWritten q → IsWritten (cond b r q)
written_if true r q h k = h
written_if false r q h k = k

read_cut : (text : List ℕ) (r : Reading Statement) → Gives (λ t. IsTokenOf false t) (IsStatementOf text false) r → IsWritten (grammar.statement_read (length text) r)
read_cut text (Ok (statement.Create c)) h = absurd (clash h.ended)
  where
    clash : false ≡ true → ⊥
    clash e = cc
read_cut text (Ok (statement.Insert i)) h = written_if (nat_lt grammar.statement_limit (length text)) (Err cause.LongStatement) (Ok (statement.Insert i)) tt tt
read_cut text (Ok (statement.Select s)) h = written_if (nat_lt grammar.statement_limit (length text)) (Err cause.LongStatement) (Ok (statement.Select s)) tt tt
read_cut text (Ok (statement.Explain s)) h = written_if (nat_lt grammar.statement_limit (length text)) (Err cause.LongStatement) (Ok (statement.Explain s)) tt tt
read_cut text (Ok (statement.Optimize o)) h = written_if (nat_lt grammar.statement_limit (length text)) (Err cause.LongStatement) (Ok (statement.Optimize o)) tt tt
read_cut text (Err fault) h = tt

-- a text that no semicolon ends is no CREATE
cut_written : (text : List ℕ) → IsOpen Outside text → IsWritten (grammar.statement_of text false [] false)
cut_written text whole = read_cut text (grammar.statement_reader text [] false (tokens_of text)) (reader_gives text false [] false (tokens_of text) (tokens_are text false (λ _. whole)))

first_written : (b : ℕ) (bs : List ℕ) (o : Option (List ℕ × List ℕ)) → BeginsText is_between (b ∷ bs) → ended_from Outside (b ∷ bs) ≡ o → IsWritten (complete_or_cut (b ∷ bs) o).0
first_written b bs None first e = cut_written (b ∷ bs) e
first_written b bs (Some found) first e = alone_written found.0 (complete found).0 (complete_alone found) (next_alone b bs found first e)

abbrev IsWrittenStep : Option Step → Type 0
IsWrittenStep None = Unit {0}
IsWrittenStep (Some step) = IsWritten step.0

next_is : (text : List ℕ) → BeginsText is_between text → IsWrittenStep (next_from text)
next_is [] first = tt
next_is (b ∷ bs) first = first_written b bs (ended_from Outside (b ∷ bs)) first refl

and_are : (more : List ℕ → List (Result Statement Cause)) (o : Option Step) → ((script : List ℕ) → All IsWritten (more script)) → IsWrittenStep o → All IsWritten (statement_and more o)
and_are more None each h = All-nil IsWritten
and_are more (Some step) each h = All-cons IsWritten step.0 (more step.1) h (each step.1)

within_are : (n : ℕ) (script : List ℕ) → All IsWritten (statements_within n script)
within_are zero script = All-nil IsWritten
within_are (suc n) script = and_are (statements_within n) (next_statement script) (within_are n) (next_is (behind is_between false script) (behind_begins is_between false script))

-- each statement of a script is as the grammar gives it
pub statements_are : (script : List ℕ) → All IsWritten (statements_of script)
statements_are script = within_are (length script + 1) script
