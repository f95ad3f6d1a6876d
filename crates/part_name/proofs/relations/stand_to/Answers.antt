use Rattle.std.proofs.Common.{◌≡◌, true, false, refl}
use Rattle.part_name.proofs.relations.stand_to.Goals as goal

pub returns-then-meet : goal.returns-then-meet
returns-then-meet c =
    (c.if-meet.ensures.0 refl, (λ covered. let never : false ≡ true = c.if-contains.ensures.1 covered in cc))
