-- the names so far, joined
use Rattle.std.proofs.Common.{◌≡◌, map, take}
use Rattle.std.specs.List.{fold}
use Rattle.root_store.specs.part_name.Merged.{joined_name}
use Rattle.root_commits.proofs.merges.joined.Given as goal

abbrev pub invariant-loop-kept : goal.invariant-loop-kept
invariant-loop-kept g l = l.name ≡ fold joined_name l.fn.first (map (λ k. k.name) (take l.kept-index l.rest))
