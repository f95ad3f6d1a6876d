use Rattle.std.proofs.Common.{ap, slice_get, sym, ◌∙◌}
use Rattle.predicate.specs.Boxes.{can_some, only_column}
use Rattle.predicate.proofs.Beside.{known_there, none_beside}
use Rattle.predicate.proofs.boxes.can_beside.Goals as goal

pub returns-then-test-column : goal.returns-then-test-column
returns-then-test-column c =
    c.can_of.ensures
    ∙ sym (ap (λ n. can_some c.args.test.now (slice_get (only_column c.args.column c.args.known.now).columns n)) c.if-test-column.true
    ∙ ap (can_some c.args.test.now) (known_there c.args.column c.args.known.now))

pub returns : goal.returns
returns c = sym (none_beside c.args.test.now c.args.column c.args.known.now c.args.test.now.column c.if-test-column.false)
