use Rattle.std.proofs.Common.{subst}
use Rattle.std.specs.List.{Contains}
use Rattle.mt_plain.proofs.Merging.{adds_known, adds_one}
use Rattle.mt_plain.proofs.merges.add_new.Goals as goal

pub returns-then-is_among : goal.returns-then-is_among
returns-then-is_among c =
    let own = c.is_among.ensures.0 c.if-is_among.true in
    adds_known c.args.found.now.items c.args.list (subst (λ zs. Contains zs c.args.list) c.deref.ensures.value (subst (Contains c.deref.result.now) c.as_slice.ensures own))

pub returns : goal.returns
returns c = adds_one c.args.found.now.items c.push.new.self.items c.args.list c.in_ok-push.ensures.items
