use Rattle.std.proofs.Common.{◌∙◌, ap, refl, inl, rules}
use Rattle.mt_base.specs.declared.name.FileId.TheVariants as file
use Rattle.mt_values.specs.Tables.{MayHavePartition}
use Rattle.mt_outside.specs.Disk.{names_of}
use Rattle.root_store.specs.Damage.{PartDamaged}
use Rattle.root_opening.proofs.Checked.{damage_told, folder_of}
use Rattle.root_opening.proofs.checking.check_table_part.Goals as goal

pub returns-then-not-may_have-clause-damaged : goal.returns-then-not-may_have-clause-damaged
returns-then-not-may_have-clause-damaged g c = λ told is.
    let folder = folder_of (g.D.Disk.told c.args.disk.now) c.args.text.now told is c.requires.there in
    let other : MayHavePartition c.args.schema.now c.args.part.now.name.partition → ⊥ = search rules in
    damage_told (names_of told) c.args.text.now (PartDamaged c.args.schema.now c.args.part.now) folder.files file.Manifest c.damaged.result folder.there (inl (other, refl)) c.damaged.ensures

pub returns-in-Ok-clause-read : goal.returns-in-Ok-clause-read
returns-in-Ok-clause-read g c = λ told is.
    let folder = folder_of (g.D.Disk.told c.args.disk.now) c.args.text.now told is c.requires.there in
    let known = c.in_ok-dir.ensures.files ∙ folder.is in
    record { files = folder.files; there = folder.there; told = ap g.D.Arm.Dir.Dir.files c.in-Ok.ensures.dir ∙ known; loaded = c.in-Ok.ensures.loaded folder.files known; sound = c.in-Ok.ensures.sound folder.files known }
