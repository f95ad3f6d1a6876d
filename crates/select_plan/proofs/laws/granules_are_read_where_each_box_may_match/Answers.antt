use Rattle.std.proofs.Common.{[]}
use Rattle.part_reader.specs.skip_index.Choosing.{chosen_by}
use Rattle.mt_model.specs.predicate.Granules.{chosen_in}
use Rattle.select_plan.proofs.EachBox.{chosen_by_each}
use Rattle.select_plan.proofs.laws.granules_are_read_where_each_box_may_match.Goals as goal

pub returns : goal.returns
returns g c = λ schema asked kept granule. chosen_by_each (λ index. chosen_by index asked []) granule (chosen_in schema kept.name.partition asked kept.part.loaded.marks) kept.part.loaded.indexes
