use Rattle.std.proofs.Common.{◌∙◌, arith, map, refl, subst, sym}
use Rattle.mt_base.specs.declared.name.FileId.TheVariants as file
use Rattle.part_damage.specs.part_writer.declared.loaded.Loaded.{Loaded}
use Rattle.part_reader.specs.Ahead.{AreAhead}
use Rattle.part_reader.specs.Parts.{HoldsAt}
use Rattle.part_reader.proofs.LeftGranules.{granule_within, own_schema}
use Rattle.part_reader.proofs.granules.read_granule.Goals as goal

pub prove-unreachable-requires : goal.prove-unreachable-requires
prove-unreachable-requires g c =
    let loaded = c.args.part.now.loaded in
    omega (arith, granule_within loaded.schema.granularity loaded.manifest.rows c.args.number c.requires.number, c.rows.ensures, c.if-prove.true)

pub read_block-requires-clause-ahead : goal.read_block-requires-clause-ahead
read_block-requires-clause-ahead g c κs within =
    let told = g.R.Dir.Dir.files c.args.part.now.dir in
    let places = c.args.places.now in
    subst (AreAhead told 0 places) (sym c.deref_mut.ensures.value) (c.in-Ok.ensures told 0 places refl)

pub returns-in-Ok-rows_of_block-clause-rows : goal.returns-in-Ok-rows_of_block-clause-rows
returns-in-Ok-rows_of_block-clause-rows g c = λ schema rows holds. c.in-Ok-rows_of_block.ensures ∙ c.in_ok-block.ensures.rows rows
    (subst (λ (l : Loaded). HoldsAt g.R.Dir.Dir.files l.schema c.args.part.now (map file.Column c.args.places.now) rows) (sym c.deref.ensures) (own_schema g.R.Dir.Dir.files schema c.args.part.now c.args.places.now rows holds))
