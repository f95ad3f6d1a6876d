use Rattle.std.proofs.Common.{◌≡◌, ℕ, length, subst, arith}
use Rattle.mt_outside.specs.Disk.{LeftAt, at_clock}
use Rattle.mt_outside.proofs.Changes.{left_at_all, image_from_left}
use Rattle.mt_outside.proofs.laws.images_now.Goals as goal

pub returns : goal.returns
returns c = λ told clock names. (
  (λ since. let same : since.0 ≡ clock = omega (arith, since.2, since.3) in
      image_from_left told clock since.1 names (subst (λ (m : ℕ). LeftAt told m since.1 names) same since.4)),
  (λ image. (clock, length (at_clock clock told), omega arith, omega arith, left_at_all told clock names image)),
)
