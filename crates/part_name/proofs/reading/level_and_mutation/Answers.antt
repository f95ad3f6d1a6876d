use Rattle.std.proofs.Common.{arith}
use Rattle.part_name.proofs.Pieces.{alone_read, both_read, last_alone, last_both, none_read}
use Rattle.part_name.proofs.reading.level_and_mutation.Goals as goal

pub returns-in_default-clause-read : goal.returns-in_default-clause-read
returns-in_default-clause-read c = λ n mutation fits fits_too is.
    let alone = last_alone c.args.text.now c.in_default.ensures.none n mutation is in
    alone_read _ n mutation (c.in_ok-level.ensures.read n fits alone.1) alone.0

pub returns-in_err-level-clause-read : goal.returns-in_err-level-clause-read
returns-in_err-level-clause-read c = λ n mutation fits fits_too is.
    let alone = last_alone c.args.text.now c.in_default.ensures.none n mutation is in
    none_read n (c.in_err-level.ensures.read n fits alone.1)

pub returns-in_err-number-clause-read : goal.returns-in_err-number-clause-read
returns-in_err-number-clause-read c = λ n mutation fits fits_too is.
    let both = last_both c.in-Some.front.now c.in-Some.rest.now c.args.text.now c.in-Some.ensures.found.0 c.in-Some.ensures.found.1 n mutation (omega arith) fits_too is in
    none_read n (c.in_err-number.ensures.read n fits both.3)

pub returns-in_err-mutation-clause-read : goal.returns-in_err-mutation-clause-read
returns-in_err-mutation-clause-read c = λ n mutation fits fits_too is.
    let both = last_both c.in-Some.front.now c.in-Some.rest.now c.args.text.now c.in-Some.ensures.found.0 c.in-Some.ensures.found.1 n mutation (omega arith) fits_too is in
    none_read both.0 (c.in_err-mutation.ensures.read both.0 both.2 both.4)

pub returns-clause-read : goal.returns-clause-read
returns-clause-read c = λ n mutation fits fits_too is.
    let both = last_both c.in-Some.front.now c.in-Some.rest.now c.args.text.now c.in-Some.ensures.found.0 c.in-Some.ensures.found.1 n mutation (omega arith) fits_too is in
    both_read _ _ n both.0 mutation (c.in_ok-number.ensures.read n fits both.3) (c.in_ok-mutation.ensures.read both.0 both.2 both.4) both.1

pub returns-clause-spelled : goal.returns-clause-spelled
returns-clause-spelled c =
    (c.in_ok-number.ensures.spelled.0, c.in_ok-mutation.ensures.spelled.0, rw (c.in_ok-number.ensures.spelled.1, c.in_ok-mutation.ensures.spelled.1) c.in-Some.ensures.found.1)
