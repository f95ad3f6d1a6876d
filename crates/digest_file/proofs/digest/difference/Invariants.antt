-- the bytes gone over are alike
use Rattle.std.proofs.Common.{◌≡◌, ◌≤◌, length, take}
use Rattle.digest_file.proofs.digest.difference.Given as goal

abbrev pub invariant-loop-place : goal.invariant-loop-place
invariant-loop-place l = record {
  within : l.place ≤ length l.bytes;
  alike : take l.place l.bytes ≡ take l.place l.wanted;
}
