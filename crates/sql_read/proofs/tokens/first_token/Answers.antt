use Rattle.std.proofs.Common.{◌≡◌, ◌∙◌, sym, false, ◌==◌, get_or, arith}
use Rattle.std.proofs.lemmas.Bool.Decides.{nat_tests}
use Rattle.std.proofs.lemmas.List.{take_rest}
use Rattle.sql_read.proofs.TokenSteps.{first_word, first_digits, first_quoted, first_symbol}
use Rattle.sql_read.proofs.tokens.first_token.Goals as goal

pub returns-then-starts_word : goal.returns-then-starts_word
returns-then-starts_word c =
    rw (← first_word c.args.text.now c.in-len1-up.len_at_least (sym c.starts_word.ensures ∙ c.if-starts_word.true)) c.word.ensures

pub returns-then-is_ascii_digit : goal.returns-then-is_ascii_digit
returns-then-is_ascii_digit c =
    rw (← first_digits c.args.text.now c.in-len1-up.len_at_least (sym c.starts_word.ensures ∙ c.if-starts_word.false) (sym c.is_ascii_digit.ensures.value ∙ c.if-is_ascii_digit.true)) c.number.ensures

pub returns-then-byte-eq39 : goal.returns-then-byte-eq39
returns-then-byte-eq39 c =
    rw (← first_quoted c.args.text.now c.in-len1-up.len_at_least (sym c.starts_word.ensures ∙ c.if-starts_word.false) (sym c.is_ascii_digit.ensures.value ∙ c.if-is_ascii_digit.false) c.if-byte-eq39.true) (rw take_rest at c.quoted.ensures)

pub returns : goal.returns
returns c =
    let no_quote : (get_or c.args.text.now 0 0 == 39) ≡ false = grind (arith, nat_tests, c.if-byte-eq39.false) in
    rw take_rest at c.symbol.ensures
    ∙ first_symbol c.args.text.now c.in-len1-up.len_at_least (sym c.starts_word.ensures ∙ c.if-starts_word.false) (sym c.is_ascii_digit.ensures.value ∙ c.if-is_ascii_digit.false) no_quote
