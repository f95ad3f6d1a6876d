use Rattle.std.proofs.Common.{false, subst, sym}
use Rattle.std.specs.List.{All}
use Rattle.part_set.specs.Runs.{EndsInOrder, Spans, parts_of_run}
use Rattle.part_set.specs.Shelf.{Shelf}
use Rattle.part_set.proofs.Swaps.{run_ordered}
use Rattle.part_set.proofs.shelf.PartitionParts.swap.Goals as goal

pub invariant_of-self : goal.invariant_of-self
invariant_of-self g c =
    let named = subst (λ (s : Shelf g.row.P.Denot). All EndsInOrder s.parts) (sym c.self.view_is) c.requires.named in
    let spans = subst (λ (s : Shelf g.row.P.Denot). Spans c.args.name (parts_of_run c.args.run s.parts)) (sym c.self.view_is) c.requires.spans in
    rw c.replace_run.ensures.items (run_ordered c.args.run c.self.inside.parts.items (record { name = c.args.name; part = c.args.part; busy = false }) c.self.invariant named spans)

pub returns-clause-ordered : goal.returns-clause-ordered
returns-clause-ordered g c =
    let named = subst (λ (s : Shelf g.row.P.Denot). All EndsInOrder s.parts) (sym c.self.view_is) c.requires.named in
    let spans = subst (λ (s : Shelf g.row.P.Denot). Spans c.args.name (parts_of_run c.args.run s.parts)) (sym c.self.view_is) c.requires.spans in
    rw c.replace_run.ensures.items (run_ordered c.args.run c.self.inside.parts.items (record { name = c.args.name; part = c.args.part; busy = false }) c.self.invariant named spans)
