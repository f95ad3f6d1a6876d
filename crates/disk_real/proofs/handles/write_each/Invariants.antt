-- the files are the same, and of those gone over nothing is gathered
use Rattle.std.proofs.Common.{◌≡◌, [], All, map, take}
use Rattle.disk_real.proofs.handles.write_each.Given as goal

abbrev pub invariant-loop-place : goal.invariant-loop-place
invariant-loop-place l = record {
  same : map (λ o. o.0) l.files ≡ map (λ o. o.0) l.initial.files;
  written : All (λ o. o.1.bytes ≡ []) (take l.place l.files);
}
