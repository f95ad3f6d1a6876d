use Rattle.std.proofs.Common.{sym, ◌∙◌, arith}
use Rattle.std.specs.Fmt.{decimal}
use Rattle.part_name.proofs.Pieces.{no_bar_in, none_read, same_pieces, same_read, decimal_no_bar}
use Rattle.part_name.proofs.reading.block_in_front.Goals as goal

pub returns-in_err-front-clause-read : goal.returns-in_err-front-clause-read
returns-in_err-front-clause-read c = λ n rest fits is. absurd (no_bar_in (decimal n) rest c.args.text.now c.in_err-front.ensures.none is)

pub returns-in_err-number-clause-read : goal.returns-in_err-number-clause-read
returns-in_err-number-clause-read c = λ n rest fits is.
    let pieces = same_pieces (decimal n) c.in_ok-front.front.now rest c.in_ok-front.rest.now (decimal_no_bar n (omega arith)) c.in_ok-front.ensures.found.0 (is ∙ sym c.in_ok-front.ensures.found.1) in
    none_read n (c.in_err-number.ensures.read n fits pieces.0)

pub returns-clause-read : goal.returns-clause-read
returns-clause-read c = λ n rest fits is.
    let pieces = same_pieces (decimal n) c.in_ok-front.front.now rest c.in_ok-front.rest.now (decimal_no_bar n (omega arith)) c.in_ok-front.ensures.found.0 (is ∙ sym c.in_ok-front.ensures.found.1) in
    (same_read c.in_ok-number.number n (c.in_ok-number.ensures.read n fits pieces.0), sym pieces.1)
