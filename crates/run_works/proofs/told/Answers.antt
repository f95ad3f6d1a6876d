use Rattle.run_works.proofs.Ready.{ready}
use Rattle.run_works.proofs.told.Goals as goal

pub new-requires-2-after_bounds : goal.new-requires-2-after_bounds
new-requires-2-after_bounds g c κs =
    let done = c.in-Ok.ensures in
    let made = c.in_ok-disk.ensures in
    let stays = c.in_ok-arm.ensures.cause.ok in
    ready _ c.in-Ok.store _ _ _ _ done.opens done.disk.told cc
