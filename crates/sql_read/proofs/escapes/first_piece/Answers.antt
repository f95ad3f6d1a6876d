use Rattle.std.proofs.Common.{◌≡◌, ◌∙◌, sym, ap, false, ◌==◌, get_or, arith}
use Rattle.std.specs.Option.{option_and_then}
use Rattle.std.proofs.lemmas.Bool.Decides.{nat_tests}
use Rattle.std.proofs.lemmas.List.{take_rest}
use Rattle.mt_values.specs.Tokens.{escape_onto}
use Rattle.sql_read.proofs.Pieces.{piece_none, piece_quote, piece_slash, piece_byte}
use Rattle.sql_read.proofs.escapes.first_piece.Goals as goal

pub returns-in_default : goal.returns-in_default
returns-in_default c = λ more. piece_none more c.args.text.now c.in_default.len_below

pub returns-then-byte-eq39 : goal.returns-then-byte-eq39
returns-then-byte-eq39 c = λ more.
    rw take_rest at (c.quote.ensures more) ∙ sym (piece_quote more c.args.text.now c.in-len1-up.len_at_least c.if-byte-eq39.true)

pub returns-in-Some : goal.returns-in-Some
returns-in-Some c = λ more.
    ap (option_and_then (escape_onto more)) (rw take_rest at c.in-Some.ensures)
    ∙ sym (piece_slash more c.args.text.now c.in-len1-up.len_at_least c.if-byte-eq92.true)

pub returns-in-None : goal.returns-in-None
returns-in-None c = λ more.
    ap (option_and_then (escape_onto more)) (rw take_rest at c.in-None.ensures)
    ∙ sym (piece_slash more c.args.text.now c.in-len1-up.len_at_least c.if-byte-eq92.true)

pub returns : goal.returns
returns c = λ more.
    let no_quote : (get_or c.args.text.now 0 0 == 39) ≡ false = grind (arith, nat_tests, c.if-byte-eq39.false) in
    let no_slash : (get_or c.args.text.now 0 0 == 92) ≡ false = grind (arith, nat_tests, c.if-byte-eq92.false) in
    rw take_rest (sym (piece_byte more c.args.text.now c.in-len1-up.len_at_least no_quote no_slash))
