-- the bytes of the marks gone over are added
use Rattle.std.proofs.Common.{◌≡◌, ◌++◌, All, flat_map, take}
use Rattle.mt_values.specs.Manifests.{mark_bytes}
use Rattle.digest_file.specs.Spellings.{IsMark}
use Rattle.digest_file.proofs.manifest.push_marks.Given as goal

abbrev pub invariant-loop-file : goal.invariant-loop-file
invariant-loop-file l = record {
  written : l.bytes ≡ l.initial.bytes ++ flat_map mark_bytes (take l.file-index l.files);
  marks : All IsMark (take l.file-index l.files);
}
