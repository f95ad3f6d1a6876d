use Rattle.std.proofs.Common.{◌∙◌, refl}
use Rattle.mt_outside.proofs.LeftDisks.{disk_as, disk_same, disk_then}
use Rattle.mt_outside.specs.Disk.{names_of}
use Rattle.root_opening.proofs.NextNames.{keeps_none, told_none}
use Rattle.root_opening.proofs.keeping.keep_names.Goals as goal

pub loop-place-init : goal.loop-place-init
loop-place-init g c =
    let files_of = g.D.Arm.Dir.Dir.files in
    let stands = c.new-store.ensures.stands files_of in
    record {
      keeps = keeps_none c.args.root.now.names.items c.new-store.result files_of stands;
      keeps_told = λ told is. told_none c.args.root.now.names.items c.new-store.result files_of stands (names_of told);
      opened = c.new-store.ensures.opened;
      disk = disk_same c.args.disk.now c.args.arm.now;
      clock = refl;
    }

-- one name more is gone over
pub loop-place-preserved : goal.loop-place-preserved
loop-place-preserved g c = record {
  keeps = c.in_ok-keep_name.ensures.keeps;
  keeps_told = λ told is. c.in_ok-keep_name.ensures.keeps_told told (c.loop-place.invariant.disk.told ∙ is) (c.loop-place.invariant.keeps_told told is);
  opened = c.in_ok-keep_name.ensures.opened ∙ c.loop-place.invariant.opened;
  disk = disk_as (disk_then c.loop-place.invariant.disk (λ none. none) c.in_ok-keep_name.ensures.disk) (λ none. absurd none) (λ fault. cc);
  clock = c.in_ok-keep_name.ensures.clock ∙ c.loop-place.invariant.clock;
}

-- the disk
pub returns-in_err-keep_name-clause-clock : goal.returns-in_err-keep_name-clause-clock
returns-in_err-keep_name-clause-clock g c = c.in_err-keep_name.ensures.clock ∙ c.loop-place.invariant.clock

pub returns-clause-damaged : goal.returns-clause-damaged
returns-clause-damaged g c = λ told is. tt

pub returns-clause-opened : goal.returns-clause-opened
returns-clause-opened g c = c.loop-place.invariant.opened

pub returns-clause-clock : goal.returns-clause-clock
returns-clause-clock g c = c.loop-place.invariant.clock
