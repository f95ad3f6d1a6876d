use Rattle.mt_outside.specs.Disk.{names_of}
use Rattle.root_opening.proofs.NextNames.{sound_store}
use Rattle.root_opening.proofs.OpenedRoots.{opened_of, tells_handed, undamaged_root}
use Rattle.root_opening.proofs.keeping.keep_root.Goals as goal

pub returns-clause-opens : goal.returns-clause-opens
returns-clause-opens g c =
    let kept = c.in_ok-store.ensures in
    record {
      told = λ told is.
          opened_of c.args.root.now c.requires.named g.D.Arm.Dir.Dir.files told (c.requires.listed told is) c.in_ok-store.store (kept.keeps_told told is) c.in_ok-store-2.field-0 kept.keeps c.in_ok-store-2.ensures.ordered c.in_ok-store-2.ensures.sum;
      sound = sound_store c.args.root.now c.requires.named c.in_ok-store.store c.in_ok-store-2.field-0 kept.keeps;
      idle = kept.keeps.idle;
      opened = kept.opened;
    }

pub returns-clause-damage : goal.returns-clause-damage
returns-clause-damage g c = λ told is.
    undamaged_root c.args.root.now c.requires.named g.D.Arm.Dir.Dir.files told (c.requires.listed told is) c.in_ok-store.store (c.in_ok-store.ensures.keeps_told told is)

pub returns-in_err-store-clause-damage : goal.returns-in_err-store-clause-damage
returns-in_err-store-clause-damage g c = λ told is.
    tells_handed (names_of told) c.in_err-store.field-0.0 c.from_residual.result c.from_residual.ensures.1 (c.in_err-store.ensures.damaged told is)
