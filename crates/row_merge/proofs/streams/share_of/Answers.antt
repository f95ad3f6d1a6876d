use Rattle.std.proofs.Common.{◌≡◌, ◌-◌, ◌*◌, ◌/◌, ◌^◌, ◌≤◌, ap, arith, max, min, subst, sym}
use Rattle.row_merge.specs.Streams.{share}
use Rattle.row_merge.proofs.Shares.{share_within}
use Rattle.row_merge.proofs.streams.share_of.Goals as goal

pub returns-clause-exact : goal.returns-clause-exact
returns-clause-exact c =
    let many : c.max.result ≡ max (min (c.args.parts * c.args.columns) (2 ^ 64 - 1)) 1 = omega (arith, c.max.ensures, c.saturating_mul-shares.ensures) in
    ap (λ n. 2 ^ 24 / n) many

pub returns-clause-within : goal.returns-clause-within
returns-clause-within c =
    let many : c.max.result ≡ max (min (c.args.parts * c.args.columns) (2 ^ 64 - 1)) 1 = omega (arith, c.max.ensures, c.saturating_mul-shares.ensures) in
    let exact : 2 ^ 24 / c.max.result ≡ share c.args.parts c.args.columns = ap (λ n. 2 ^ 24 / n) many in
    subst (λ n. n * (c.args.parts * c.args.columns) ≤ 2 ^ 24) (sym exact) (share_within c.args.parts c.args.columns)
