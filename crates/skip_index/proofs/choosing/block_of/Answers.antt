use Rattle.std.proofs.Common.{◌≡◌, ◌∙◌, ◌/◌, ap, rules, sym}
use Rattle.std.proofs.Math.Nat.{div-zero}
use Rattle.skip_index.proofs.choosing.block_of.Goals as goal

pub returns-then-span-eq0 : goal.returns-then-span-eq0
returns-then-span-eq0 c =
    let none : c.args.span ≡ 0 = search rules in
    sym (ap (λ n. c.args.granule / n) none ∙ div-zero c.args.granule)
