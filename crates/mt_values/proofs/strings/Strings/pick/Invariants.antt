-- the texts at the places gone over
use Rattle.std.proofs.Common.{◌≡◌, take, slice_get}
use Rattle.std.specs.List.{filter_map}
use Rattle.mt_values.proofs.strings.Strings.pick.Given as goal

abbrev pub invariant-loop-place : goal.invariant-loop-place
invariant-loop-place l = l.texts ≡ filter_map (slice_get l.self) (take l.place-index l.order)
