-- the conditions gone over are asked
use Rattle.std.proofs.Common.{◌≡◌, length, take}
use Rattle.part_reader.proofs.SiftedRows.{answers}
use Rattle.part_reader.proofs.sieves.sift.Given as goal

abbrev pub invariant-loop-sieve : goal.invariant-loop-sieve
invariant-loop-sieve l = record {
  count : length l.mask.items ≡ l.rows;
  met : l.mask.items ≡ answers l.columns l.rows l.granule (take l.sieve-index l.sieves);
}
