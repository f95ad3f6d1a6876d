use Rattle.root_opening.proofs.OneDamage.{no_root_damage, none_told, one_damage}
use Rattle.root_opening.proofs.laws.damage_of_a_root_is_one.Goals as goal

pub returns : goal.returns
returns c = record { one = one_damage; none = no_root_damage; untold = none_told }
