-- what is left of the bytes decides
use Rattle.std.proofs.Common.{◌≡◌, drop}
use Rattle.std.specs.List.{list_all}
use Rattle.mt_values.specs.Tokens.{in_word}
use Rattle.part_set.proofs.word.all_in_word.Given as goal

abbrev pub invariant-loop-byte : goal.invariant-loop-byte
invariant-loop-byte l = list_all in_word (drop l.byte-index l.bytes) ≡ list_all in_word l.bytes
