use Rattle.std.proofs.Common.{Some, ap, ◌∙◌}
use Rattle.run_shared.proofs.Ready.{ready}
use Rattle.run_shared.proofs.told.Goals as goal

pub show_opened-shown-requires-clause-ready : goal.show_opened-shown-requires-clause-ready
show_opened-shown-requires-clause-ready g c κs within =
    let done = c.in-Ok.ensures in
    let made = c.in_ok-disk.ensures in
    let stays = c.in_ok-sessions.ensures.cause.ok in
    ready _ c.in-Ok.store _ _ _ _ done.opens (ap Some c.in-Ok-arm.ensures.told ∙ done.disk.told) cc
