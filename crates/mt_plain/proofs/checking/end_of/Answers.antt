use Rattle.std.proofs.Common.{◌+◌, ◌-◌, ◌≤◌, drop, length, refl, take, arith}
use Rattle.std.specs.Cmp.Lexicographic.{same_text, other_text}
use Rattle.mt_plain.proofs.Allowing.{ends_here, ends_nowhere}
use Rattle.mt_plain.proofs.checking.end_of.Goals as goal

pub returns-then-eq : goal.returns-then-eq
returns-then-eq c =
    let text = c.args.text.now in
    let at = c.args.at in
    let reply = c.args.reply.now in
    let part = take (at + length reply - at) (drop at text) in
    let fits : at + length reply ≤ length text = omega (arith, c.if-text-at.false, c.requires) in
    ends_here text at (at + length reply) part reply c.requires refl fits refl (same_text part reply c.if-eq.ensures)

pub returns-else-eq : goal.returns-else-eq
returns-else-eq c =
    let text = c.args.text.now in
    let at = c.args.at in
    let reply = c.args.reply.now in
    let part = take (at + length reply - at) (drop at text) in
    let fits : at + length reply ≤ length text = omega (arith, c.if-text-at.false, c.requires) in
    ends_nowhere text at (at + length reply) part reply c.requires refl fits refl (other_text part reply c.if-eq.ensures)
