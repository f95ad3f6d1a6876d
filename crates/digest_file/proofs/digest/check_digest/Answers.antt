use Rattle.std.proofs.Common.{length, take, subst₂, ap, ◌∙◌, refl, arith}
use Rattle.std.proofs.lemmas.List.{take_rest}
use Rattle.sha2.proofs.Facts256.{length-sha256}
use Rattle.digest_file.specs.Frames.{PartAt}
use Rattle.digest_file.proofs.Pieces.{goes_on}
use Rattle.digest_file.proofs.digest.check_digest.Goals as goal

pub returns-then-behind-gt32 : goal.returns-then-behind-gt32
returns-then-behind-gt32 c = (
  32,
  refl,
  omega arith,
  subst₂ (λ t d. PartAt t d 32) (take_rest c.args.bytes.now c.args.end) c.digest_of-digest.ensures
      (goes_on _ c.digest_of-digest.result 32 (ap length c.digest_of-digest.ensures ∙ length-sha256 (take c.args.end c.args.bytes.now)) c.if-behind-gt32.true c.in_default.ensures),
)
