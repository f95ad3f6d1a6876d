use Rattle.std.proofs.Common.{◌≡◌, ◌∙◌, Err, Ok}
use Rattle.std.proofs.lemmas.Option.{MatchOption-at_some}
use Rattle.mt_outside.proofs.LeftDisks.{disk_then}
use Rattle.mt_outside.specs.Disk.{names_of}
use Rattle.root_opening.specs.Keeping.{OpenFaultOf}
use Rattle.root_opening.proofs.Leaving.{disk_calm, disk_failed, disk_gave, disk_handed}
use Rattle.root_opening.proofs.OpenedRoots.{mark_stays, opens_moved, tells_handed, tells_none}
use Rattle.root_opening.proofs.Settled.{has_settled}
use Rattle.root_store.proofs.Rising.{told_rise}
use Rattle.root_opening.proofs.opening.open.Goals as goal

pub returns-clause-opens : goal.returns-clause-opens
returns-clause-opens g c =
    opens_moved (g.D.Disk.told c.list.new.self) (g.D.Disk.told c.args.disk.now) c.faults-opened.result (g.D.Disk.failed c.args.disk.now) c.in_ok-list.ensures.told c.faults-opened.ensures c.in_ok-store.ensures.opens

-- what is told of damage
pub returns-in_err-list-clause-damage : goal.returns-in_err-list-clause-damage
returns-in_err-list-clause-damage g c = λ told known. tells_none (names_of told) c.in_err-list.field-0.0 c.from_residual.result c.from_residual.ensures.1

pub returns-in_err-root-clause-damage : goal.returns-in_err-root-clause-damage
returns-in_err-root-clause-damage g c = λ told known.
    let are = MatchOption-at_some _ _ told known c.in_ok-list.ensures.names in
    tells_handed (names_of told) c.in_err-root.field-0.0 c.from_residual-in_err-root.result c.from_residual-in_err-root.ensures.1 (c.in_err-root.ensures.damaged (names_of told) (told_rise told) are)

pub returns-in_err-store-clause-damage : goal.returns-in_err-store-clause-damage
returns-in_err-store-clause-damage g c = λ told known.
    tells_handed (names_of told) c.in_err-store.field-0.0 c.from_residual-in_err-store.result c.from_residual-in_err-store.ensures.1 (c.in_err-store.ensures.damage told (c.in_ok-list.ensures.told ∙ known))

pub returns-in_err-settle-clause-damage : goal.returns-in_err-settle-clause-damage
returns-in_err-settle-clause-damage g c = λ told known. tells_none (names_of told) c.in_err-settle.field-0.0 c.from_residual-in_err-settle.result c.from_residual-in_err-settle.ensures.1

pub returns-clause-damage : goal.returns-clause-damage
returns-clause-damage g c = λ told known. c.in_ok-store.ensures.damage told (c.in_ok-list.ensures.told ∙ known)

-- the mark
pub returns-in_err-list-clause-mark : goal.returns-in_err-list-clause-mark
returns-in_err-list-clause-mark g c = mark_stays _ _ _ (OpenFaultOf c.in_err-list.field-0.0) c.from_residual.result c.from_residual.ensures.1 c.in_err-list.ensures.clock

pub returns-in_err-root-clause-mark : goal.returns-in_err-root-clause-mark
returns-in_err-root-clause-mark g c = mark_stays _ _ _ (λ f. f ≡ c.in_err-root.field-0.0) c.from_residual-in_err-root.result c.from_residual-in_err-root.ensures.1 c.in_ok-list.ensures.clock

pub returns-in_err-store-clause-mark : goal.returns-in_err-store-clause-mark
returns-in_err-store-clause-mark g c = mark_stays _ _ _ (λ f. f ≡ c.in_err-store.field-0.0) c.from_residual-in_err-store.result c.from_residual-in_err-store.ensures.1 (c.in_err-store.ensures.clock ∙ c.in_ok-list.ensures.clock)

pub returns-in_err-settle-clause-mark : goal.returns-in_err-settle-clause-mark
returns-in_err-settle-clause-mark g c =
    mark_stays _ _ _ (OpenFaultOf c.in_err-settle.field-0.0) c.from_residual-in_err-settle.result c.from_residual-in_err-settle.ensures.1 (c.in_err-settle.ensures.mark_err ∙ (c.in_ok-store.ensures.clock ∙ c.in_ok-list.ensures.clock))

pub returns-clause-mark : goal.returns-clause-mark
returns-clause-mark g c =
    has_settled (g.D.Disk.told c.args.disk.now) c.deref.result.now (g.D.Disk.clock c.args.disk.now) (g.D.Disk.clock c.settle.new.disk) (g.D.Disk.clock c.keep_root.new.disk) c.in_ok-settle.ensures.mark (c.in_ok-store.ensures.clock ∙ c.in_ok-list.ensures.clock)
    (λ told known. c.deref.ensures.value ∙ (c.in_ok-root.ensures.texts ∙ MatchOption-at_some _ _ told known c.in_ok-list.ensures.names))

-- what the disk and the arm are then
pub returns-in_err-list-clause-disk : goal.returns-in_err-list-clause-disk
returns-in_err-list-clause-disk g c =
    disk_failed _ _ c.args.arm.now c.in_err-list.field-0.0 c.from_residual.result c.from_residual.ensures.1 c.in_err-list.ensures.told c.in_err-list.ensures.started c.in_err-list.ensures.cause

pub returns-in_err-root-clause-disk : goal.returns-in_err-root-clause-disk
returns-in_err-root-clause-disk g c =
    disk_handed c.in_err-root.field-0.0 c.from_residual-in_err-root.result c.from_residual-in_err-root.ensures.1
    (disk_calm (Err c.in_err-root.field-0.0) c.in_err-root.ensures.fault (disk_gave _ _ c.args.arm.now _ c.in_ok-list.ensures.told c.in_ok-list.ensures.started c.in_ok-list.ensures.cause))

pub returns-in_err-store-clause-disk : goal.returns-in_err-store-clause-disk
returns-in_err-store-clause-disk g c =
    disk_handed c.in_err-store.field-0.0 c.from_residual-in_err-store.result c.from_residual-in_err-store.ensures.1
    (disk_then (disk_gave _ _ c.args.arm.now _ c.in_ok-list.ensures.told c.in_ok-list.ensures.started c.in_ok-list.ensures.cause) (λ f. f) c.in_err-store.ensures.disk)

pub returns-in_err-settle-clause-disk : goal.returns-in_err-settle-clause-disk
returns-in_err-settle-clause-disk g c =
    disk_then (disk_then (disk_gave _ _ c.args.arm.now _ c.in_ok-list.ensures.told c.in_ok-list.ensures.started c.in_ok-list.ensures.cause) (λ f. f) c.in_ok-store.ensures.disk) (λ f. cc)
    (disk_failed _ _ c.keep_root.new.arm c.in_err-settle.field-0.0 c.from_residual-in_err-settle.result c.from_residual-in_err-settle.ensures.1 c.in_err-settle.ensures.told c.in_err-settle.ensures.started c.in_err-settle.ensures.cause)

pub returns-clause-disk : goal.returns-clause-disk
returns-clause-disk g c =
    disk_calm (Ok c.in_ok-store.store) (λ f. cc)
    (disk_then (disk_then (disk_gave _ _ c.args.arm.now _ c.in_ok-list.ensures.told c.in_ok-list.ensures.started c.in_ok-list.ensures.cause) (λ f. f) c.in_ok-store.ensures.disk) (λ f. cc)
    (disk_gave _ _ c.keep_root.new.arm _ c.in_ok-settle.ensures.told c.in_ok-settle.ensures.started c.in_ok-settle.ensures.cause))
