use Rattle.std.proofs.Common.{◌≡◌, refl, ◌∙◌}
use Rattle.std.proofs.lemmas.Option.{MatchOption-at_some}
use Rattle.mt_base.specs.declared.name.FileId.TheVariants as file
use Rattle.mt_outside.specs.Disk.{names_of}
use Rattle.root_store.specs.Damage.{EntryDamaged}
use Rattle.root_opening.proofs.Checked.{damage_told, folder_of}
use Rattle.root_opening.proofs.checking.check_table.Goals as goal

pub returns-in-Some-clause-holds : goal.returns-in-Some-clause-holds
returns-in-Some-clause-holds g c = λ told is.
    let folder = folder_of (g.D.Disk.told c.args.disk.now) c.args.text.now told is c.requires in
    let known = c.in_ok-dir.ensures.files ∙ folder.is in
    record {
      files = folder.files;
      there = folder.there;
      holds = MatchOption-at_some _ _ c.in-Some.schema c.in-Some.is (c.in_ok-schema.ensures.holds folder.files known);
    }

pub returns-clause-damaged : goal.returns-clause-damaged
returns-clause-damaged g c = λ told is.
    let folder = folder_of (g.D.Disk.told c.args.disk.now) c.args.text.now told is c.requires in
    let known = c.in_ok-dir.ensures.files ∙ folder.is in
    damage_told (names_of told) c.args.text.now (λ files f. EntryDamaged (names_of told) c.args.table.now files × (f ≡ file.Entry)) folder.files file.Entry c.damaged.result folder.there
    ((λ schema holds. let only = c.in_ok-schema.ensures.only folder.files schema known holds in absurd cc), refl) c.damaged.ensures
