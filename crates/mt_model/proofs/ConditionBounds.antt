-- Each term of a condition and each literal takes a token, so the counts that bound their readers cut nothing off.
use Rattle.std.proofs.Common.{◌≡◌, ℕ, ◌+◌, ◌<◌, ◌≤◌, Bool, true, false, List, [], ◌∷◌, ◌++◌, length, refl, arith, zero, suc, codes}
use Rattle.mt_values.specs.declared.expr.Literal.{Literal}
use Rattle.mt_values.specs.declared.expr.LiteralText.TheVariants as literal_text
use Rattle.mt_values.specs.declared.expr.TestText.{TestText}
use Rattle.mt_values.specs.declared.statement.Statement.{Statement}
use Rattle.mt_values.specs.declared.token.Placed.{Placed}
use Rattle.mt_values.specs.declared.token.Symbol.TheVariants as symbol
use Rattle.mt_values.specs.declared.token.Token.{Token}
use Rattle.mt_values.specs.Tokens.{is_keyword}
use Rattle.mt_values.specs.Readers.{Reader, Test, Part, expect, choose, listed_within, place_of_next}
use Rattle.mt_values.specs.Conditions.{Condition, Always, And, Holds, Not, Or}
use Rattle.mt_values.specs.Grammar.{all_of, compared, comparing, holding, is_symbol, is_text, is_word, joined_by, joined_within, keyword, list_of, literal, membership, name, number, number_at, opened, opens, operator, sign, some_of, string, term_within, text_at, the, too_deep}
use Rattle.mt_model.proofs.TextBounds.{Alike, ReadsOn, choose_same, expect_same, listed_same}

-- ---- lists

-- a list of parts reads on after itself
within_on : {X Y : Type 0} (n : ℕ) (more : Token → Bool) (between : Test Y) (item : Part Statement X) (front : List X) (f g : List X → Reader Statement) (ts : List Placed)
    → ReadsOn item → ((xs : List X) → Alike (length ts) (f xs) (g xs)) → listed_within n more between item front f ts ≡ listed_within n more between item front g ts
within_on zero more between item front f g ts on same = refl
within_on (suc n) more between item front f g ts on same =
    on _ _ ts (λ x rest less.
    choose_same more (expect between (λ y. listed_within n more between item (front ++ x ∷ []) f)) (expect between (λ y. listed_within n more between item (front ++ x ∷ []) g))
    (f (front ++ x ∷ [])) (g (front ++ x ∷ [])) rest
    (expect_same between _ _ rest (λ y last lesser. within_on n more between item (front ++ x ∷ []) f g last on (λ xs r l. same xs r (omega arith))))
    (same (front ++ x ∷ []) rest (omega arith)))

list_on : {X : Type 0} (item : Part Statement X) → ReadsOn item → ReadsOn (list_of item)
list_on item on f g ts same = within_on (length ts + 1) _ _ item [] f g ts on same

-- ---- parts that a word joins

joined_on : {X : Type 0} (n : ℕ) (k : List ℕ) (join : X → X → X) (item : Part Statement X) (front : X) (f g : X → Reader Statement) (ts : List Placed)
    → ReadsOn item → ((x : X) → Alike (length ts) (f x) (g x)) → joined_within n k join item front f ts ≡ joined_within n k join item front g ts
joined_on zero k join item front f g ts on same = same front ts (omega arith)
joined_on (suc n) k join item front f g ts on same =
    choose_same (is_word (is_keyword k)) (expect (keyword k) (λ _. item (λ x. joined_within n k join item (join front x) f)))
    (expect (keyword k) (λ _. item (λ x. joined_within n k join item (join front x) g))) (f front) (g front) ts
    (expect_same (keyword k) _ _ ts (λ _ rest less. on _ _ rest (λ x last lesser. joined_on n k join item (join front x) f g last on (λ y r l. same y r (omega arith)))))
    (same front ts (omega arith))

by_on : {X : Type 0} (k : List ℕ) (join : X → X → X) (item : Part Statement X) → ReadsOn item → ReadsOn (joined_by k join item)
by_on k join item on f g ts same = on _ _ ts (λ x rest less. joined_on (length rest) k join item x f g rest on (λ y r l. same y r (omega arith)))

joined_same : {X : Type 0} (n m : ℕ) (k : List ℕ) (join : X → X → X) (item : Part Statement X) (front : X) (next : X → Reader Statement) (ts : List Placed)
    → ReadsOn item → length ts ≤ n → length ts ≤ m → joined_within n k join item front next ts ≡ joined_within m k join item front next ts
joined_same zero zero k join item front next ts on low high = refl
joined_same zero (suc m) k join item front next [] on low high = refl
joined_same zero (suc m) k join item front next (p ∷ ps) on low high = absurd (omega arith)
joined_same (suc n) zero k join item front next [] on low high = refl
joined_same (suc n) zero k join item front next (p ∷ ps) on low high = absurd (omega arith)
joined_same (suc n) (suc m) k join item front next ts on low high =
    choose_same (is_word (is_keyword k)) (expect (keyword k) (λ _. item (λ x. joined_within n k join item (join front x) next)))
    (expect (keyword k) (λ _. item (λ x. joined_within m k join item (join front x) next))) (next front) (next front) ts
    (expect_same (keyword k) _ _ ts (λ _ rest less. on _ _ rest (λ x last lesser. joined_same n m k join item (join front x) next last on (omega arith) (omega arith))))
    refl

-- ---- terms

abbrev minus_or : (Bool → Reader Statement) → Reader Statement
minus_or f = choose (is_symbol symbol.Minus) (expect (the symbol.Minus) (λ _. f true)) (f false)

sign_on : ReadsOn sign
sign_on f g ts same =
    choose_same (is_symbol symbol.Plus) (expect (the symbol.Plus) (λ _. f false)) (expect (the symbol.Plus) (λ _. g false)) (minus_or f) (minus_or g) ts
    (expect_same (the symbol.Plus) (λ _. f false) (λ _. g false) ts (λ _ rest less. same false rest (omega arith)))
    (choose_same (is_symbol symbol.Minus) (expect (the symbol.Minus) (λ _. f true)) (expect (the symbol.Minus) (λ _. g true)) (f false) (g false) ts
    (expect_same (the symbol.Minus) (λ _. f true) (λ _. g true) ts (λ _ rest less. same true rest (omega arith)))
    (same false ts (omega arith)))

abbrev number_as : ℕ → Bool → List ℕ → Literal
number_as place negative digits = record { at = place; text = literal_text.Number negative digits }

number_on : (place : ℕ) → ReadsOn (number_at place)
number_on place f g ts same =
    sign_on (λ negative. expect number (λ digits. f (number_as place negative digits))) (λ negative. expect number (λ digits. g (number_as place negative digits))) ts
    (λ negative rest less. expect_same number (λ digits. f (number_as place negative digits)) (λ digits. g (number_as place negative digits)) rest
    (λ digits last lesser. same (number_as place negative digits) last (omega arith)))

literal_on : ReadsOn literal
literal_on f g ts same =
    choose_same is_text (text_at (place_of_next ts) f) (text_at (place_of_next ts) g) (number_at (place_of_next ts) f) (number_at (place_of_next ts) g) ts
    (expect_same string _ _ ts (λ bytes rest less. same _ rest (omega arith)))
    (number_on (place_of_next ts) f g ts same)

compared_on : ReadsOn compared
compared_on f g ts same =
    choose_same (is_word (is_keyword (codes "IN"))) (membership f) (membership g) (comparing f) (comparing g) ts
    (expect_same (keyword (codes "IN")) _ _ ts (λ _ a la. expect_same (the symbol.Open) _ _ a (λ _ b lb. list_on literal literal_on _ _ b (λ ls c lc.
    expect_same (the symbol.Close) _ _ c (λ _ d ld. same _ d (omega arith))))))
    (expect_same operator _ _ ts (λ found a la. literal_on _ _ a (λ l b lb. same (found, l ∷ []) b (omega arith))))

holding_on : ReadsOn holding
holding_on f g ts same =
    expect_same name _ _ ts (λ column rest less. compared_on _ _ rest (λ found last lesser.
    same (Holds (record { column = column; comparison = found.0; literals = found.1 })) last (omega arith)))

some_on : (term : Part Statement (Condition TestText)) → ReadsOn term → ReadsOn (some_of term)
some_on term on = by_on (codes "OR") Or (all_of term) (by_on (codes "AND") And term on)

opened_on : (term : Part Statement (Condition TestText)) → ReadsOn term → ReadsOn (opened term)
opened_on term on f g ts same =
    choose_same (is_word (is_keyword (codes "NOT"))) (expect (keyword (codes "NOT")) (λ _. term (λ c. f (Not c)))) (expect (keyword (codes "NOT")) (λ _. term (λ c. g (Not c))))
    (expect (the symbol.Open) (λ _. some_of term (λ c. expect (the symbol.Close) (λ _. f c)))) (expect (the symbol.Open) (λ _. some_of term (λ c. expect (the symbol.Close) (λ _. g c)))) ts
    (expect_same (keyword (codes "NOT")) _ _ ts (λ _ rest less. on _ _ rest (λ c last lesser. same _ last (omega arith))))
    (expect_same (the symbol.Open) _ _ ts (λ _ rest less. some_on term on _ _ rest (λ c last lesser. expect_same (the symbol.Close) _ _ last (λ _ r l. same c r (omega arith)))))

term_on : (n : ℕ) → ReadsOn (term_within n)
unfolding term_within
term_on zero f g ts same =
    choose_same opens (expect too_deep (λ _. f Always)) (expect too_deep (λ _. g Always)) (holding f) (holding g) ts (expect_same too_deep _ _ ts (λ _ rest less. same Always rest (omega arith))) (holding_on f g ts same)
term_on (suc n) f g ts same =
    choose_same opens (opened (term_within n) f) (opened (term_within n) g) (holding f) (holding g) ts (opened_on (term_within n) (term_on n) f g ts same) (holding_on f g ts same)

-- ---- conditions

pub ands_same : (n m depth : ℕ) (front : Condition TestText) (next : Condition TestText → Reader Statement) (ts : List Placed) → length ts ≤ n → length ts ≤ m
    → joined_within n (codes "AND") And (term_within depth) front next ts ≡ joined_within m (codes "AND") And (term_within depth) front next ts
ands_same n m depth front next ts low high = joined_same n m (codes "AND") And (term_within depth) front next ts (term_on depth) low high

pub ors_same : (n m depth : ℕ) (front : Condition TestText) (next : Condition TestText → Reader Statement) (ts : List Placed) → length ts ≤ n → length ts ≤ m
    → joined_within n (codes "OR") Or (all_of (term_within depth)) front next ts ≡ joined_within m (codes "OR") Or (all_of (term_within depth)) front next ts
ors_same n m depth front next ts low high = joined_same n m (codes "OR") Or (all_of (term_within depth)) front next ts (by_on (codes "AND") And (term_within depth) (term_on depth)) low high

pub literals_same : {Y : Type 0} (n m : ℕ) (more : Token → Bool) (between : Test Y) (next : List Literal → Reader Statement) (ts : List Placed) → length ts < n → length ts < m
    → listed_within n more between literal [] next ts ≡ listed_within m more between literal [] next ts
literals_same n m more between next ts low high = listed_same n m more between literal [] next ts literal_on low high
