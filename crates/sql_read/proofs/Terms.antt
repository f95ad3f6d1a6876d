-- Which way a term goes, by the next token and by what may still be opened.
use Rattle.std.proofs.Common.{◌≡◌, ℕ, zero, suc, Bool, true, false, ◌||◌, List, [], ◌∷◌, Result, Err, refl, arith, ◌∙◌, sym, ap, codes}
use Rattle.mt_base.specs.declared.stop.Stop.{Stop}
use Rattle.mt_values.specs.declared.expr.Comparison.{Comparison}
use Rattle.mt_values.specs.declared.expr.Literal.{Literal}
use Rattle.mt_values.specs.declared.expr.TestText.{TestText}
use Rattle.mt_values.specs.declared.statement.Slip.{Slip}
use Rattle.mt_values.specs.declared.statement.Slip.TheVariants as slip
use Rattle.mt_values.specs.declared.token.Placed.{Placed}
use Rattle.mt_values.specs.declared.token.Token.{Token}
use Rattle.mt_values.specs.Conditions.{Condition, Always}
use Rattle.mt_values.specs.Grammar.{compared, comparing, holding, is_text, is_word, literal, membership, number_at, opened, opens, term_within, text_at, too_deep}
use Rattle.mt_values.specs.Readers.{Reader, either, expect, place_of_next}
use Rattle.mt_values.specs.Tokens.{is_keyword}
use Rattle.sql_read.specs.Reads.{Reads, first_is}
use Rattle.sql_read.proofs.Chains.{reads_rest}
use Rattle.sql_read.proofs.Choices.{choose_other, choose_this}

-- the next token passes one of two tests
pub first_is_either : (this other : Token → Bool) (ts : List Placed) → first_is this ts || first_is other ts ≡ first_is (λ t. this t || other t) ts
first_is_either this other [] = refl
first_is_either this other (p ∷ ps) = refl

module _ {S : Type 0} (next : Condition TestText → Reader S) (ts : List Placed) where
  -- a test comes next
  pub term_holds : (n : ℕ) → first_is opens ts ≡ false → term_within n next ts ≡ holding next ts
  unfolding term_within
  term_holds zero fails = choose_other opens (expect too_deep (λ u. next Always)) (holding next) ts fails
  term_holds (suc n) fails = choose_other opens (opened (term_within n) next) (holding next) ts fails

  -- a parenthesis or a NOT does
  pub term_opens : (n m : ℕ) → n ≡ suc m → first_is opens ts ≡ true → term_within n next ts ≡ opened (term_within m) next ts
  unfolding term_within
  term_opens n m is passes = ap (λ (k : ℕ). term_within k next ts) is ∙ choose_this opens (opened (term_within m) next) (holding next) ts passes

-- and none may be opened
pub term_is_deep : {S : Type 0} (next : Condition TestText → Reader S) (ts : List Placed) (n : ℕ) → n ≡ 0 → first_is opens ts ≡ true → term_within n next ts ≡ Err (slip.TooDeep, ts)
unfolding term_within
term_is_deep next ts (suc n) none passes = absurd (omega arith)
term_is_deep next [] zero none passes = cc
term_is_deep next (p ∷ ps) zero none passes = choose_this opens (expect too_deep (λ u. next Always)) (holding next) (p ∷ ps) passes

-- ---- literals and comparisons

module _ (from : List Placed) (at : ℕ) (place : at ≡ place_of_next from) (r : Result Literal (Stop Slip)) (to : List Placed) where
  -- a string comes next
  pub reads_text : first_is is_text from ≡ true → Reads (text_at at) from r to → Reads literal from r to
  reads_text here read =
      reads_rest literal (text_at at) from from
      (λ next.
      choose_this is_text (text_at (place_of_next from) next) (number_at (place_of_next from) next) from here
      ∙ ap (λ (k : ℕ). text_at k next from) (sym place))
      r to read

  -- a number does, or none comes
  pub reads_number : first_is is_text from ≡ false → Reads (number_at at) from r to → Reads literal from r to
  reads_number none read =
      reads_rest literal (number_at at) from from
      (λ next.
      choose_other is_text (text_at (place_of_next from) next) (number_at (place_of_next from) next) from none
      ∙ ap (λ (k : ℕ). number_at k next from) (sym place))
      r to read

module _ (from : List Placed) (r : Result (Comparison × List Literal) (Stop Slip)) (to : List Placed) where
  -- IN comes next
  pub reads_membership : first_is (is_word (is_keyword (codes "IN"))) from ≡ true → Reads membership from r to → Reads compared from r to
  reads_membership here read = reads_rest compared membership from from (λ next. choose_this (is_word (is_keyword (codes "IN"))) (membership next) (comparing next) from here) r to read

  -- it doesn't
  pub reads_comparing : first_is (is_word (is_keyword (codes "IN"))) from ≡ false → Reads comparing from r to → Reads compared from r to
  reads_comparing none read = reads_rest compared comparing from from (λ next. choose_other (is_word (is_keyword (codes "IN"))) (membership next) (comparing next) from none) r to read
