use Rattle.std.proofs.Common.{◌≡◌, ◌≤◌, ◌⊎◌, List, ℕ, refl, subst, sym, rules}
use Rattle.mt_outside.specs.Disk.{names_of}
use Rattle.root_store.specs.part_set.declared.root_name.RootName.TheVariants as root
use Rattle.root_store.specs.Damage.{IsDamaged, PartDamaged}
use Rattle.root_opening.specs.Keeping.{IsPartRead, TellsFile}
use Rattle.root_opening.proofs.Checked.{told_weaker}
use Rattle.root_opening.proofs.KeptNames.{part_damaged, part_kept, part_told}
use Rattle.root_opening.proofs.keeping.keep_part.Goals as goal

pub check_table_part-requires-clause-schema : goal.check_table_part-requires-clause-schema
check_table_part-requires-clause-schema g c κs within = c.requires.schema c.in-Some.table.now (sym c.in-Some.ensures.value)

pub returns-in_err-checked-clause-damaged : goal.returns-in_err-checked-clause-damaged
returns-in_err-checked-clause-damaged g c = λ told read seen is visible tells.
    let part = c.args.part.now in
    let table = c.in-Some.table.now in
    let damaged : TellsFile (names_of told) c.args.text.now (IsDamaged (names_of told) read (root.Part part)) c.in_err-checked.field-0.0 =
    told_weaker (names_of told) c.args.text.now (PartDamaged table.schema part) (IsDamaged (names_of told) read (root.Part part))
    (λ files f there bad. part_damaged g.D.Arm.Dir.Dir.files (names_of told) read seen c.args.store.now part table (sym c.in-Some.ensures.value) visible tells files f bad)
    c.in_err-checked.field-0.0 (c.in_err-checked.ensures.damaged told is) in
    search rules

pub returns-clause-keeps : goal.returns-clause-keeps
returns-clause-keeps g c = λ read seen visible k.
    let part = c.args.part.now in
    let table = c.in-Some.table.now in
    let n = c.max-table.result in
    let updates = (c.get_mut.follows.holds (record { schema = table.schema; drawn = n })).3 (search rules) in
    let above : table.drawn ≤ n = search rules in
    let ends : part.name.max_block ≤ n = search rules in
    let is : (n ≡ table.drawn) ⊎ (n ≡ part.name.max_block) = search rules in
    part_kept read seen c.args.store.now _ part c.in_ok-checked.checked table n (sym c.in-Some.ensures.value) updates c.in_ok-add.ensures.ok c.in_ok-add.ensures.others c.in_ok-checked.ensures.may visible k above ends is c.in_ok-add.ensures.ordered refl

pub returns-clause-keeps_told : goal.returns-clause-keeps_told
returns-clause-keeps_told g c = λ told read seen is tells.
    let part = c.args.part.now in
    let table = c.in-Some.table.now in
    let n = c.max-table.result in
    let updates = (c.get_mut.follows.holds (record { schema = table.schema; drawn = n })).3 (search rules) in
    let checked = subst (λ (t : List ℕ). IsPartRead g.D.Arm.Dir.Dir.files (names_of told) t table.schema c.in_ok-checked.checked) c.requires.text (c.in_ok-checked.ensures.read told is) in
    part_told read seen c.args.store.now _ part c.in_ok-checked.checked table n (sym c.in-Some.ensures.value) updates c.in_ok-add.ensures.ok c.in_ok-add.ensures.others c.in_ok-checked.ensures.may g.D.Arm.Dir.Dir.files (names_of told) checked tells
