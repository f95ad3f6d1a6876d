use Rattle.part_set.proofs.NamePlaces.{places_told}
use Rattle.part_set.proofs.laws.places_are_in_byte_order.Goals as goal

pub returns : goal.returns
returns c = places_told
