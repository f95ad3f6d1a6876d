use Rattle.std.proofs.Common.{◌≡◌, refl, ◌∙◌, arith}
use Rattle.block_split.specs.declared.blocks.PartitionBlock.{PartitionBlock}
use Rattle.replies.specs.mt_model.History.{column_types}
use Rattle.session.specs.declared.sealing.SealedBlock.{SealedBlock}
use Rattle.session.specs.Turns.{IsPartFor, NoneFailed}
use Rattle.session.proofs.Stacking.{all_have, one_sealed, others_have}
use Rattle.session.proofs.sealing.seal_blocks.Goals as goal

pub unsealed-preserved : goal.unsealed-preserved
unsealed-preserved g c =
    let schema = c.args.schema.now in
    let block = c.in-Some.field-0 in
    let left = c.pop.new.self.items in
    let made : SealedBlock _ = record { part = c.in-Ok-seal_block.part; block = block.block } in
    let taken = c.in-Some.ensures.items in
    let added = c.push_reserved.ensures.items in
    let before = c.unsealed.sealed.items in
    let sealed = c.push_reserved.new.self.items in
    let kept = c.unsealed.invariant in
    let done = c.in-Ok-seal_block.ensures in
    record {
      types = others_have (λ (b : PartitionBlock). b.block.types ≡ column_types schema) c.unsealed.blocks.items left block taken kept.types;
      split = one_sealed c.unsealed.blocks.items left block before sealed made _ taken added refl kept.split;
      sealed = λ tells. all_have (IsPartFor schema) sealed before made added (done.sealed (kept.tells ∙ tells)) (kept.sealed tells);
      none_failed = all_have NoneFailed sealed before made added done.none_failed kept.none_failed;
      room = let room = kept.room in let fewer = c.in-Some.ensures.len in let one = c.push_reserved.ensures.len in let same = c.push_reserved.ensures.capacity in omega (arith, room, fewer, one, same);
      tells = done.tells ∙ kept.tells;
      count = done.cause.ok ∙ kept.count;
    }
