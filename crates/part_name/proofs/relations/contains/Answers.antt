use Rattle.std.proofs.Common.{◌≡◌, rules}
use Rattle.part_name.specs.PartNames.{mutation_number}
use Rattle.part_name.proofs.relations.contains.Goals as goal

pub returns-then-b-a-2 : goal.returns-then-b-a-2
returns-then-b-a-2 c =
    let contained : c.mutation_number.result ≡ mutation_number c.args.b.now = c.mutation_number.ensures in
    let containing : c.mutation_number-then-b-a-2.result ≡ mutation_number c.args.a.now = c.mutation_number-then-b-a-2.ensures in
    search rules
