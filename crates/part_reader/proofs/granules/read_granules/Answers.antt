use Rattle.std.proofs.Common.{subst}
use Rattle.mt_outside.proofs.LeftArms.{arm_calm}
use Rattle.part_reader.specs.Faults.{ExplainsAt}
use Rattle.part_reader.specs.Granules.{ExplainsChosen, column_in}
use Rattle.part_reader.specs.Readings.{GivesNext}
use Rattle.mt_values.specs.Schemas.{column_types}
use Rattle.part_reader.proofs.Gaining.{handed_on}
use Rattle.part_reader.proofs.LeftGranules.{given_all, given_explained, given_fewer, given_more, own_schema}
use Rattle.part_reader.proofs.granules.read_granules.Goals as goal

pub returns-in_err-block-clause-damaged : goal.returns-in_err-block-clause-damaged
returns-in_err-block-clause-damaged g c =
    let part = c.args.part.now in
    handed_on (ExplainsAt (λ number t. ExplainsChosen (column_in g.R.Dir.Dir.files part number) c.args.chosen.now t) (column_types part.loaded.schema) c.args.places.now) c.from_residual.result c.in_err-block.field-0.0 c.from_residual.ensures.1
    (given_explained g.R.Dir.Dir.files part.loaded.schema part c.args.places.now c.args.chosen.now c.given.reader c.given.rows.items c.given.invariant.given c.in_err-block.field-0.0 c.in_err-block.ensures.damaged)

pub given-smaller : goal.given-smaller
given-smaller g c =
    let files = g.R.Dir.Dir.files in
    given_fewer files c.args.part.now.loaded.schema c.args.part.now c.args.places.now c.args.chosen.now c.given.reader c.given.rows.items c.given.invariant.given c.next.new.self c.in-Some.block
    (subst (GivesNext files c.given.reader c.next.new.self) c.in-Some.is c.in_ok-block.ensures.gives)

pub given-preserved : goal.given-preserved
given-preserved g c =
    let files = g.R.Dir.Dir.files in
    record {
      given = given_more files c.args.part.now.loaded.schema c.args.part.now c.args.places.now c.args.chosen.now c.given.reader c.given.rows.items c.given.invariant.given c.next.new.self c.in-Some.block c.add_rows.new.rows.items
          (subst (GivesNext files c.given.reader c.next.new.self) c.in-Some.is c.in_ok-block.ensures.gives) c.in-Ok-add_rows.ensures;
      arm = arm_calm c.given.invariant.arm (λ none. none) c.in_ok-block.ensures.arm (λ fault. cc);
    }

pub returns-clause-rows : goal.returns-clause-rows
returns-clause-rows g c = λ schema rows holds.
    let files = g.R.Dir.Dir.files in
    let part = c.args.part.now in
    given_all files part.loaded.schema part c.args.places.now c.args.chosen.now c.given.reader c.given.rows.items c.given.invariant.given
    (subst (GivesNext files c.given.reader c.next.new.self) c.in_default-2.is c.in_ok-block.ensures.gives).1 rows (own_schema files schema part c.args.places.now rows holds)
