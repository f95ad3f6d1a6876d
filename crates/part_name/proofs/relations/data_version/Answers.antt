use Rattle.part_name.proofs.relations.data_version.Goals as goal

pub returns : goal.returns
returns c = c.unwrap_or.ensures
