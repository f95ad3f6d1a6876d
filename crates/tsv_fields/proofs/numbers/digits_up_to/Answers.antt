use Rattle.std.proofs.lemmas.List.{take_rest}
use Rattle.tsv_fields.proofs.Digits.{digits_split, up_to_refused}
use Rattle.tsv_fields.proofs.numbers.digits_up_to.Goals as goal

pub loop-digit-init : goal.loop-digit-init
loop-digit-init c = rw take_rest (digits_split c.args.most c.args.digits.now c.min-first.result c.in-Some.number c.in-Some.ensures)

pub returns-in_default-clause-value : goal.returns-in_default-clause-value
returns-in_default-clause-value c = up_to_refused c.args.most c.args.digits.now c.min-first.result c.in_default.ensures
