use Rattle.part_name.proofs.Merging.{merged_another, merged_contains, merged_greatest, merged_least, merged_named}
use Rattle.part_name.proofs.laws.merged_parts_contain_their_sources.Goals as goal

pub returns : goal.returns
returns c = record { contains = merged_contains; another = merged_another; least = merged_least; greatest = merged_greatest; named = merged_named }
