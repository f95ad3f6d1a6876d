use Rattle.std.proofs.Common.{Global, List, Vec, ap, arith, subst, sym, ◌∙◌}
use Rattle.part_set.specs.declared.kept.Kept.{Kept}
use Rattle.part_set.specs.Parts.{IsInBlockOrder}
use Rattle.part_set.proofs.set.PartSet.pin.Goals as goal
use Rattle.part_set.proofs.set.PartSet.pin.Goals.{in-Some+in_ok-parts-in-Some, in-None}

pub returns-clause-ordered : goal.returns-clause-ordered
returns-clause-ordered g c = elim c.match-get.branch [
  | in-Some+in_ok-parts-in-Some w ↦ subst (λ (v : Vec (Kept g.row.P.Denot) Global). IsInBlockOrder v.items) (sym w.parts-is) w.in_ok-parts-in-Some.ensures.ordered
  | in-None w ↦ subst (λ (parts : List (Kept g.row.P.Denot)). IsInBlockOrder parts) (sym (ap (λ (v : Vec (Kept g.row.P.Denot) Global). v.items) w.parts-is ∙ w.new-parts.ensures.items)) (λ i j d less inside. absurd (omega (arith, inside)))
]
