use Rattle.std.proofs.Common.{◌≤◌, List, filter, length, subst}
use Rattle.root_store.specs.part_set.declared.root_name.RootName.{RootName}
use Rattle.root_store.specs.part_set.Visible.{HasNoOrphan, HasNoOverlap}
use Rattle.root_store.specs.Damage.{DamagedAt, is_entry_name, most_tables}
use Rattle.root_opening.specs.declared.opening.Damage.TheVariants as damage
use Rattle.root_opening.proofs.OneDamage.{no_root_damage}
use Rattle.root_store.proofs.Clear as clear
use Rattle.root_store.proofs.Orphaned as orphaned
use Rattle.root_store.proofs.Readings.{one_reading}
use Rattle.root_store.proofs.Tabled as tabled
use Rattle.root_store.proofs.Undamaged as undamaged
use Rattle.root_opening.proofs.laws.sound_roots_are_not_damaged.Goals as goal

pub returns-clause-one : goal.returns-clause-one
returns-clause-one c = one_reading

pub returns-clause-no_orphan : goal.returns-clause-no_orphan
returns-clause-no_orphan c = λ names h read s are. subst HasNoOrphan (one_reading names s.read read s.are are) (orphaned.no_orphan names h s)

pub returns-clause-no_overlap : goal.returns-clause-no_overlap
returns-clause-no_overlap c = λ names h read s are. subst HasNoOverlap (one_reading names s.read read s.are are) (clear.no_overlap names h s)

pub returns-clause-no_damage : goal.returns-clause-no_damage
returns-clause-no_damage c = λ names h read place f s are bad.
    undamaged.no_damage names h s place f (subst (λ (r : List RootName). DamagedAt names r place f) (one_reading names read s.read are s.are) bad)

pub returns-clause-few : goal.returns-clause-few
returns-clause-few c = λ names h read rise s are.
    subst (λ (r : List RootName). length (filter is_entry_name r) ≤ most_tables) (one_reading names s.read read s.are are) (tabled.few_tables names h s rise)

pub returns-clause-no_bad_name : goal.returns-clause-no_bad_name
returns-clause-no_bad_name c = λ names h place name rise s bad. no_root_damage names h (damage.Name name) rise s (record { place = place; first = bad })
