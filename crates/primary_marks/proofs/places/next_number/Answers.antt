use Rattle.std.proofs.Common.{refl, ap, ◌∙◌, take, drop, IsTrue}
use Rattle.std.proofs.lemmas.List.{take_rest}
use Rattle.primary_marks.proofs.Starts.{next_there, next_other}
use Rattle.primary_marks.proofs.places.next_number.Goals as goal

pub returns-then-may_follow : goal.returns-then-may_follow
returns-then-may_follow c =
    next_there c.args.before.now c.first_u64-number.result (drop c.args.at c.args.bytes.now) c.first_u64-number.type_inv
    (c.first_u64-number.ensures ∙ ap (take 8) (take_rest c.args.bytes.now c.args.at)) (rw (← c.as_slice.ensures) (c.may_follow.ensures.0 (rw c.if-may_follow.true refl)))

pub returns-else-may_follow : goal.returns-else-may_follow
returns-else-may_follow c = (
  refl,
  next_other c.args.before.now c.first_u64-number.result (drop c.args.at c.args.bytes.now) c.first_u64-number.type_inv
      (c.first_u64-number.ensures ∙ ap (take 8) (take_rest c.args.bytes.now c.args.at)) (λ rise.
      let t : IsTrue c.may_follow.result = c.may_follow.ensures.1 (rw c.as_slice.ensures rise) in
      let f = rw c.if-may_follow.false at t in
      cc),
)
