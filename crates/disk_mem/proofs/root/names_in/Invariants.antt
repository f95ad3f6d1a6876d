use Rattle.std.proofs.Common.{◌≡◌, ◌++◌, map}
use Rattle.disk_mem.proofs.root.names_in.Given as goal

abbrev pub invariant-loop-name : goal.invariant-loop-name
invariant-loop-name l = l.list.items ++ l.name-iterator ≡ map (λ e. e.0) l.names.entries
