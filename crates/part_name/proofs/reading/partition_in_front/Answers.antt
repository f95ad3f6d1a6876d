use Rattle.std.proofs.Common.{sym, ◌∙◌}
use Rattle.part_name.specs.PartNames.{partition_text}
use Rattle.part_name.proofs.Pieces.{no_bar_in, none_read, same_pieces, same_read, partition_no_bar}
use Rattle.part_name.proofs.reading.partition_in_front.Goals as goal

pub returns-in_err-front-clause-read : goal.returns-in_err-front-clause-read
returns-in_err-front-clause-read c = λ p rest fits is. absurd (no_bar_in (partition_text p) rest c.args.text.now c.in_err-front.ensures.none is)

pub returns-in_err-found-clause-read : goal.returns-in_err-found-clause-read
returns-in_err-found-clause-read c = λ p rest fits is.
    let pieces = same_pieces (partition_text p) c.in_ok-front.front.now rest c.in_ok-front.rest.now (partition_no_bar p fits) c.in_ok-front.ensures.found.0 (is ∙ sym c.in_ok-front.ensures.found.1) in
    none_read p (c.in_err-found.ensures.read p fits pieces.0)

pub returns-clause-read : goal.returns-clause-read
returns-clause-read c = λ p rest fits is.
    let pieces = same_pieces (partition_text p) c.in_ok-front.front.now rest c.in_ok-front.rest.now (partition_no_bar p fits) c.in_ok-front.ensures.found.0 (is ∙ sym c.in_ok-front.ensures.found.1) in
    (same_read c.in_ok-found.found p (c.in_ok-found.ensures.read p fits pieces.0), sym pieces.1)
