-- The parts of conditions take at least one token each.
use Rattle.std.proofs.Common.{◌≡◌, ℕ, zero, suc, ◌+◌, ◌<◌, ◌≤◌, Bool, true, false, List, [], ◌∷◌, ◌++◌, length, refl, arith, codes}
use Rattle.mt_values.specs.declared.expr.Comparison.{Comparison}
use Rattle.mt_values.specs.declared.expr.Comparison.TheVariants as comparison
use Rattle.mt_values.specs.declared.expr.Literal.{Literal}
use Rattle.mt_values.specs.declared.expr.LiteralText.TheVariants as literal_text
use Rattle.mt_values.specs.declared.expr.TestText.{TestText}
use Rattle.mt_values.specs.declared.token.Placed.{Placed}
use Rattle.mt_values.specs.declared.token.Symbol.TheVariants as symbol
use Rattle.mt_values.specs.declared.token.Token.{Token}
use Rattle.mt_values.specs.Conditions.{Condition, Always, And, Holds, Not, Or}
use Rattle.mt_values.specs.Grammar.{all_of, compared, comparing, holding, is_symbol, is_text, is_word, keyword, list_of, literal, membership, name, number, number_at, opened, opens, operator, sign, some_of, string, term_within, test, text_at, the, too_deep}
use Rattle.mt_values.specs.Readers.{Reader, Test, Part, choose, expect, listed_within, place_of_next}
use Rattle.mt_values.specs.Tokens.{is_keyword}
use Rattle.sql_read.proofs.Joined.{choose_both, joined_takes}
use Rattle.sql_read.proofs.Listed.{TakesToken, expect_takes}

-- ---- lists

module _ {S X Y : Type 0} (more : Token → Bool) (between : Test Y) (item : Part S X) (takes : TakesToken item) (next other : List X → Reader S) where
  listed_same : (n : ℕ) (front : List X) (ts : List Placed) → ((xs : List X) (us : List Placed) → length us < length ts → next xs us ≡ other xs us) →
      listed_within n more between item front next ts ≡ listed_within n more between item front other ts
  listed_same zero front ts same = refl
  listed_same (suc n) front ts same =
      takes (λ x. choose more (expect between (λ y. listed_within n more between item (front ++ x ∷ []) next)) (next (front ++ x ∷ [])))
      (λ x. choose more (expect between (λ y. listed_within n more between item (front ++ x ∷ []) other)) (other (front ++ x ∷ []))) ts
      (λ x us less.
      choose_both more (expect between (λ y. listed_within n more between item (front ++ x ∷ []) next)) (expect between (λ y. listed_within n more between item (front ++ x ∷ []) other)) (next (front ++ x ∷ [])) (other (front ++ x ∷ [])) us
      (expect_takes between (λ y. listed_within n more between item (front ++ x ∷ []) next) (λ y. listed_within n more between item (front ++ x ∷ []) other) us
      (λ y vs fewer. listed_same n (front ++ x ∷ []) vs (λ xs ws least. same xs ws (omega arith))))
      (same (front ++ x ∷ []) us less))

list_takes : {S X : Type 0} (item : Part S X) → TakesToken item → TakesToken (list_of item)
list_takes item takes next other ts same = listed_same (is_symbol symbol.Comma) (the symbol.Comma) item takes next other (length ts + 1) [] ts same

module _ {S : Type 0} where
  -- ---- literals

  sign_same : (next other : Bool → Reader S) (ts : List Placed) → ((b : Bool) (us : List Placed) → length us ≤ length ts → next b us ≡ other b us) → sign next ts ≡ sign other ts
  sign_same next other ts same =
      choose_both (is_symbol symbol.Plus) (expect (the symbol.Plus) (λ u. next false)) (expect (the symbol.Plus) (λ u. other false))
      (choose (is_symbol symbol.Minus) (expect (the symbol.Minus) (λ u. next true)) (next false)) (choose (is_symbol symbol.Minus) (expect (the symbol.Minus) (λ u. other true)) (other false)) ts
      (expect_takes (the symbol.Plus) (λ u. next false) (λ u. other false) ts (λ u us less. same false us (omega arith)))
      (choose_both (is_symbol symbol.Minus) (expect (the symbol.Minus) (λ u. next true)) (expect (the symbol.Minus) (λ u. other true)) (next false) (other false) ts
      (expect_takes (the symbol.Minus) (λ u. next true) (λ u. other true) ts (λ u us less. same true us (omega arith)))
      (same false ts (omega arith)))

  text_at_takes : (place : ℕ) → TakesToken {S = S} (text_at place)
  text_at_takes place next other ts same =
      expect_takes string (λ bytes. next (record { at = place; text = literal_text.Text bytes })) (λ bytes. other (record { at = place; text = literal_text.Text bytes })) ts
      (λ bytes us less. same (record { at = place; text = literal_text.Text bytes }) us less)

  number_at_takes : (place : ℕ) → TakesToken {S = S} (number_at place)
  number_at_takes place next other ts same =
      sign_same (λ b. expect number (λ digits. next (record { at = place; text = literal_text.Number b digits }))) (λ b. expect number (λ digits. other (record { at = place; text = literal_text.Number b digits }))) ts
      (λ b us most.
      expect_takes number (λ digits. next (record { at = place; text = literal_text.Number b digits })) (λ digits. other (record { at = place; text = literal_text.Number b digits })) us
      (λ digits vs fewer. same (record { at = place; text = literal_text.Number b digits }) vs (omega arith)))

  pub literal_takes : TakesToken {S = S} literal
  literal_takes next other ts same =
      choose_both is_text (text_at (place_of_next ts) next) (text_at (place_of_next ts) other) (number_at (place_of_next ts) next) (number_at (place_of_next ts) other) ts
      (text_at_takes (place_of_next ts) next other ts same) (number_at_takes (place_of_next ts) next other ts same)

  -- ---- tests

  membership_takes : TakesToken {S = S} membership
  membership_takes next other ts same =
      let closed = λ (f : Comparison × List Literal → Reader S) (ls : List Literal). expect (the symbol.Close) (λ v. f (comparison.Equal, ls)) in
      expect_takes (keyword (codes "IN")) (λ u. expect (the symbol.Open) (λ v. list_of literal (closed next))) (λ u. expect (the symbol.Open) (λ v. list_of literal (closed other))) ts
      (λ u us less.
      expect_takes (the symbol.Open) (λ v. list_of literal (closed next)) (λ v. list_of literal (closed other)) us
      (λ v vs fewer.
      list_takes literal literal_takes (closed next) (closed other) vs
      (λ ls ws least.
      expect_takes (the symbol.Close) (λ v. next (comparison.Equal, ls)) (λ v. other (comparison.Equal, ls)) ws
      (λ v xs last. same (comparison.Equal, ls) xs (omega arith)))))

  comparing_takes : TakesToken {S = S} comparing
  comparing_takes next other ts same =
      expect_takes operator (λ found. literal (λ l. next (found, l ∷ []))) (λ found. literal (λ l. other (found, l ∷ []))) ts
      (λ found us less. literal_takes (λ l. next (found, l ∷ [])) (λ l. other (found, l ∷ [])) us (λ l vs fewer. same (found, l ∷ []) vs (omega arith)))

  compared_takes : TakesToken {S = S} compared
  compared_takes next other ts same =
      choose_both (is_word (is_keyword (codes "IN"))) (membership next) (membership other) (comparing next) (comparing other) ts
      (membership_takes next other ts same) (comparing_takes next other ts same)

  test_takes : TakesToken {S = S} test
  test_takes next other ts same =
      let made = λ (f : TestText → Reader S) (column : List ℕ) (found : Comparison × List Literal). f (record { column = column; comparison = found.0; literals = found.1 }) in
      expect_takes name (λ column. compared (made next column)) (λ column. compared (made other column)) ts
      (λ column us less.
      compared_takes (made next column) (made other column) us
      (λ found vs fewer. same (record { column = column; comparison = found.0; literals = found.1 }) vs (omega arith)))

  holding_takes : TakesToken {S = S} holding
  holding_takes next other ts same = test_takes (λ t. next (Holds t)) (λ t. other (Holds t)) ts (λ t us less. same (Holds t) us less)

  -- ---- terms

  pub all_of_takes : (term : Part S (Condition TestText)) → TakesToken term → TakesToken (all_of term)
  all_of_takes term takes = joined_takes (codes "AND") And term takes

  some_of_takes : (term : Part S (Condition TestText)) → TakesToken term → TakesToken (some_of term)
  some_of_takes term takes = joined_takes (codes "OR") Or (all_of term) (all_of_takes term takes)

  opened_takes : (term : Part S (Condition TestText)) → TakesToken term → TakesToken (opened term)
  opened_takes term takes next other ts same =
      choose_both (is_word (is_keyword (codes "NOT"))) (expect (keyword (codes "NOT")) (λ u. term (λ c. next (Not c)))) (expect (keyword (codes "NOT")) (λ u. term (λ c. other (Not c))))
      (expect (the symbol.Open) (λ u. some_of term (λ c. expect (the symbol.Close) (λ v. next c)))) (expect (the symbol.Open) (λ u. some_of term (λ c. expect (the symbol.Close) (λ v. other c)))) ts
      (expect_takes (keyword (codes "NOT")) (λ u. term (λ c. next (Not c))) (λ u. term (λ c. other (Not c))) ts
      (λ u us less. takes (λ c. next (Not c)) (λ c. other (Not c)) us (λ c vs fewer. same (Not c) vs (omega arith))))
      (expect_takes (the symbol.Open) (λ u. some_of term (λ c. expect (the symbol.Close) (λ v. next c))) (λ u. some_of term (λ c. expect (the symbol.Close) (λ v. other c))) ts
      (λ u us less.
      some_of_takes term takes (λ c. expect (the symbol.Close) (λ v. next c)) (λ c. expect (the symbol.Close) (λ v. other c)) us
      (λ c vs fewer. expect_takes (the symbol.Close) (λ v. next c) (λ v. other c) vs (λ v ws least. same c ws (omega arith)))))

  pub term_takes : (n : ℕ) → TakesToken {S = S} (term_within n)
  unfolding term_within
  term_takes zero next other ts same =
      choose_both opens (expect too_deep (λ u. next Always)) (expect too_deep (λ u. other Always)) (holding next) (holding other) ts
      (expect_takes too_deep (λ u. next Always) (λ u. other Always) ts (λ u us less. same Always us less)) (holding_takes next other ts same)
  term_takes (suc n) next other ts same =
      choose_both opens (opened (term_within n) next) (opened (term_within n) other) (holding next) (holding other) ts
      (opened_takes (term_within n) (term_takes n) next other ts same) (holding_takes next other ts same)
