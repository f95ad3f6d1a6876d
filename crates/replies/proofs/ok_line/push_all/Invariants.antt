-- the bytes so far are added, in place
use Rattle.std.proofs.Common.{◌≡◌, ◌+◌, ◌++◌, take, vec_capacity, vec_len}
use Rattle.replies.proofs.ok_line.push_all.Given as goal

abbrev pub invariant-loop-byte : goal.invariant-loop-byte
invariant-loop-byte l = record {
  items : l.bytes.items ≡ l.initial.bytes.items ++ take l.byte-index l.more;
  len : vec_len l.bytes ≡ vec_len l.initial.bytes + l.byte-index;
  room : vec_capacity l.bytes ≡ vec_capacity l.initial.bytes;
}
