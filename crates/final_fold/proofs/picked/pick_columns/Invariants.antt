-- what is read and shown of the places gone over
use Rattle.std.proofs.Common.{◌≡◌, All, Some, length, map, slice_get, take}
use Rattle.std.specs.List.{Contains as HasItem}
use Rattle.final_fold.specs.Picks.{AreFound}
use Rattle.final_fold.proofs.picked.pick_columns.Given as goal

abbrev pub invariant-loop-place : goal.invariant-loop-place
invariant-loop-place l = record {
  width : length l.found.items ≡ l.width;
  found : AreFound l.found.items l.read.items;
  shown : map (slice_get l.read.items) l.shown.items ≡ map Some (take l.place-index l.places);
  selected : All (HasItem l.places) l.read.items;
}
