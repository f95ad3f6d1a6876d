use Rattle.std.proofs.Common.{◌∙◌}
use Rattle.run_memory.proofs.Grown.{none_at}
use Rattle.run_memory.proofs.growing.published.Goals as goal

pub publish-requires : goal.publish-requires
publish-requires c = none_at c.new-name.result c.take_back.new.self.told (c.take_back.ensures.told ∙ c.requires)
