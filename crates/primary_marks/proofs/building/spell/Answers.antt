use Rattle.std.proofs.Common.{◌<◌, length, arith}
use Rattle.primary_marks.proofs.KeyRows.{fits_more, keys_more}
use Rattle.primary_marks.proofs.building.spell.Goals as goal

pub loop-key-preserved : goal.loop-key-preserved
loop-key-preserved c =
    let keys = c.args.marks.now in
    let below : c.loop-key.key < length keys = omega (arith, c.loop-key-test.true, c.len-key-end.ensures) in
    record {
      written = keys_more keys c.loop-key.key c.loop-key.bytes c.push_key.new.bytes below c.loop-key.invariant.written c.in_ok-push_key.ensures.bytes;
      encodable = fits_more keys c.loop-key.key below c.loop-key.invariant.encodable c.in_ok-push_key.ensures.encodable;
    }
