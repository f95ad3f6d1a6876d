use Rattle.root_opening.proofs.ImagesShown.{images_opened, safe_settled}
use Rattle.root_opening.proofs.laws.openings_leave_what_was_noted.Goals as goal

pub returns : goal.returns
returns g c = record {
  crashes = λ disk told before now result list known settles all. safe_settled disk told before now result list settles all;
  images = λ disk told before now store h known settled o all. images_opened g.D.Dir.files store told before now h all o (settled.told told known) disk known;
}
