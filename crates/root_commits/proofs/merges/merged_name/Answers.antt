use Rattle.std.proofs.Common.{◌+◌, ◌-◌, arith}
use Rattle.root_commits.proofs.Joining.{merged_is}
use Rattle.root_commits.proofs.merges.merged_name.Goals as goal

pub returns : goal.returns
returns g c =
    merged_is c.args.parts.now c.args.run.first c.args.run.count (c.args.run.first + c.args.run.count - (c.args.run.first + 1)) c.index-parts-run.result c.joined.result c.raise.result c.requires.some c.requires.within (omega arith)
    c.joined.ensures c.raise.ensures
