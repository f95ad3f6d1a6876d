use Rattle.std.proofs.Common.{refl}
use Rattle.mutation_queue.proofs.Maps.{told_here}
use Rattle.mutation_queue.proofs.mutations.Mutations.put.Goals as goal

pub returns-clause-ok : goal.returns-clause-ok
returns-clause-ok c =
    told_here c.args.self.now.tables c.args.self.now.tables c.insert.new.self c.args.table.now c.in_ok-twin.field-0 _ refl c.in_ok-twin.ensures c.in_ok-insert.ensures.updates
