use Rattle.std.proofs.Common.{◌+◌, refl, ap, arith}
use Rattle.table_core.proofs.Neighbours.{sources_stand}
use Rattle.table_core.proofs.store.run_of.Goals as goal

pub returns-then-not-has_neighbours-clause-none : goal.returns-then-not-has_neighbours-clause-none
returns-then-not-has_neighbours-clause-none c = λ has.
    let count = c.run_of_partition-all.ensures.count in
    let within = has.within in
    let yes = c.has_neighbours.ensures.1 (has.some, omega (arith, within, count)) in
    absurd (let never = c.if-not-has_neighbours.true in cc)

pub returns-clause-there : goal.returns-clause-there
returns-clause-there c =
    let all = c.run_of_partition-all.ensures in
    let has = c.has_neighbours.ensures.0 c.if-not-has_neighbours.false in
    let count = all.count in
    let within = has.1 in
    sources_stand c.args.parts.now c.args.sources.now (record { from = c.run_of_partition-all.result.from + c.args.sources.now.first; count = c.args.sources.now.count }) c.requires
    (record { some = has.0; within = omega (arith, within, count) }) (ap (λ n. n + c.args.sources.now.first) all.from) refl
