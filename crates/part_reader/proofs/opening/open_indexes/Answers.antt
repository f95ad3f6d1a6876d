use Rattle.std.proofs.Common.{◌≡◌, ◌<◌, ap, arith, length, subst, sym}
use Rattle.std.proofs.lemmas.List.{length_push}
use Rattle.mt_outside.proofs.LeftArms.{arm_calm, arm_same}
use Rattle.mt_base.specs.declared.name.FileId.TheVariants as file
use Rattle.part_damage.specs.Sound.{AreBlocksUnder, IsReadAs}
use Rattle.part_reader.specs.Damage.{IsSkipFault}
use Rattle.part_reader.specs.Faults.{IsNoDamage}
use Rattle.part_reader.proofs.Damages.{error_handed_on, index_under, indexes_found, skip_more, skip_wrong}
use Rattle.part_reader.proofs.Gaining.{handed_on}
use Rattle.part_reader.proofs.SameLists.{at_push, none_at}
use Rattle.part_reader.proofs.opening.open_indexes.Goals as goal

pub loop-place-init : goal.loop-place-init
loop-place-init g c = record {
  many = ap length c.new-indexes.ensures;
  read = λ n index here. absurd (none_at c.new-indexes.result n index c.new-indexes.ensures here);
  before = tt;
  arm = arm_same c.args.arm.now;
}

pub loop-place-preserved : goal.loop-place-preserved
loop-place-preserved g c =
    let told = g.R.Dir.Dir.files c.args.dir.now in
    let schema = c.args.schema.now in
    let manifest = c.args.manifest.now in
    let place = c.loop-place.place in
    let i = c.loop-place.invariant in
    let below : place < length schema.indexes = omega (arith, c.loop-place-test.true, c.len-place-end.ensures) in
    let read = c.in_ok-index.ensures.read in
    record {
      many = omega (arith, ap length c.in-Ok.ensures.ok, length_push c.loop-place.indexes c.in_ok-index.index, i.many);
      read = at_push (λ n index. IsReadAs told (file.Skip n) (λ bytes. AreBlocksUnder schema manifest n bytes index)) c.loop-place.indexes _ c.in_ok-index.index c.in-Ok.ensures.ok i.read
          (subst (λ n. IsReadAs told (file.Skip n) (λ bytes. AreBlocksUnder schema manifest n bytes c.in_ok-index.index)) (sym i.many) read);
      before = skip_more told schema manifest place c.in_ok-index.index below i.before read;
      arm = arm_calm i.arm (λ none. none) c.in_ok-index.ensures.arm (λ fault. cc);
    }

pub returns-then-place-clause-damaged : goal.returns-then-place-clause-damaged
returns-then-place-clause-damaged g c = record {
  number = c.loop-place.place;
  below = omega (arith, c.loop-place-test.true, c.len-place-end.ensures);
  before = c.loop-place.invariant.before;
  explained = tt;
}

pub returns-in_err-index-clause-damaged : goal.returns-in_err-index-clause-damaged
returns-in_err-index-clause-damaged g c =
    let told = g.R.Dir.Dir.files c.args.dir.now in
    handed_on (IsSkipFault told c.args.schema.now c.args.manifest.now) c.from_residual.result c.in_err-index.field-0.0 c.from_residual.ensures.1
    (skip_wrong told c.args.schema.now c.args.manifest.now c.loop-place.place c.in_err-index.field-0.0 (omega (arith, c.loop-place-test.true, c.len-place-end.ensures)) c.loop-place.invariant.before c.in_err-index.ensures.damaged)

pub returns-in_err-index-clause-spelled : goal.returns-in_err-index-clause-spelled
returns-in_err-index-clause-spelled g c = λ files indexes known under.
    let told = g.R.Dir.Dir.files c.args.dir.now in
    let own = index_under told c.args.schema.now c.args.manifest.now files indexes c.loop-place.place (omega (arith, c.loop-place-test.true, c.len-place-end.ensures)) under in
    error_handed_on (λ found. found ≡ indexes) IsNoDamage c.from_residual.result c.in_err-index.field-0.0 c.from_residual.ensures.1 (c.in_err-index.ensures.spelled files own.0 known own.1)

pub returns-clause-read : goal.returns-clause-read
returns-clause-read g c = record { count_is = omega (arith, c.loop-place.invariant.many, c.loop-place-test.false, c.loop-place.auto.place-end, c.len-place-end.ensures); each = c.loop-place.invariant.read }

pub returns-clause-spelled : goal.returns-clause-spelled
returns-clause-spelled g c = λ files indexes known under.
    indexes_found (g.R.Dir.Dir.files c.args.dir.now) c.args.schema.now c.args.manifest.now files c.loop-place.indexes indexes known (returns-clause-read g c) under
