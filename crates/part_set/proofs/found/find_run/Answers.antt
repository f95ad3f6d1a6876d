use Rattle.std.proofs.Common.{◌≡◌, ℕ, length, subst, arith}
use Rattle.part_set.specs.declared.kept.Kept.{Kept}
use Rattle.part_set.specs.Runs.{IsMissing, names_of_parts}
use Rattle.part_set.proofs.Founds.{IsMost, missing_found}
use Rattle.part_set.proofs.found.find_run.Goals as goal

-- no more begin at any part
pub returns-clause-missing : goal.returns-clause-missing
returns-clause-missing g c =
    let parts = c.args.parts.now in
    let sources = c.args.sources.now in
    let most = c.loop-first.most in
    let all : c.loop-first.first ≡ length parts = omega arith in
    subst (λ (k : Kept g.row.P.Denot). IsMissing (names_of_parts sources) parts k.name) c.index-sources-most.is
    (missing_found most sources parts c.index-sources-most.result (subst (λ (n : ℕ). IsMost n most sources parts) all c.loop-first.invariant) c.index-sources-most.is)
