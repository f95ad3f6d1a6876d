-- what is left of the names decides
use Rattle.std.proofs.Common.{◌≡◌, drop}
use Rattle.stage_dir.specs.Stages.{has_file}
use Rattle.stage_dir.proofs.filling.is_among.Given as goal

abbrev pub invariant-loop-name : goal.invariant-loop-name
invariant-loop-name l = has_file l.file (drop l.name-index l.names) ≡ has_file l.file l.names
