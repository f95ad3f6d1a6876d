use Rattle.std.proofs.Common.{◌∙◌, List, ℕ, Option, Ok, None, true, get_or, refl, subst, arith}
use Rattle.std.specs.List.{All}
use Rattle.std.proofs.lemmas.List.{take_all}
use Rattle.std.proofs.lemmas.List.Elements.{All-more, All-nil}
use Rattle.mt_base.specs.declared.partition.Partition.{Partition}
use Rattle.mt_base.specs.declared.partition.Partition.TheVariants.{Whole}
use Rattle.session.specs.Answers.{IsFinalAt, IsOf, IsThat, MergesAt, TellsOfBusy, TellsOfHanded}
use Rattle.session.proofs.Merges.{busy_of, merges_none, merges_then_done, merges_then_ended, merges_then_refused, tells_of}
use Rattle.session.proofs.optimizes.merge_partitions.Goals as goal

pub loop-partition-init : goal.loop-partition-init
loop-partition-init g c = record { merges = merges_none g.B.Names.given g.B.Names.opening g.B.Names.ledgers.parts c.args.share.now (g.R.Arm.failed c.args.arm.now) true _ _ _ (All-nil (IsFinalAt g.F.Dir.files g.B.Names.given g.B.Room.before g.B.Names.opening g.B.Names.ledgers.parts c.args.table.now)); out = refl; tells = refl }

pub merge_partition-requires-clause-parts : goal.merge_partition-requires-clause-parts
merge_partition-requires-clause-parts g c κs within = let same = c.loop-partition.invariant.merges.parts in omega (arith, same, c.requires.parts)

pub merge_partition-requires-clause-out : goal.merge_partition-requires-clause-out
merge_partition-requires-clause-out g c κs within = c.loop-partition.invariant.out ∙ c.requires.out

pub merge_partition-requires-clause-tells : goal.merge_partition-requires-clause-tells
merge_partition-requires-clause-tells g c κs within = λ told. c.loop-partition.invariant.tells ∙ c.requires.tells told

pub loop-partition-preserved : goal.loop-partition-preserved
loop-partition-preserved g c =
    let before = c.loop-partition.invariant in
    let here = c.loop-partition.share in
    let now = c.merge_partition.new.share in
    let x = g.R.Arm.failed c.loop-partition.arm in
    let y = g.R.Arm.failed c.merge_partition.new.arm in
    let table = c.args.table.now in
    let p : Partition = get_or c.args.partitions.now c.loop-partition.partition-index Whole in
    let step = subst (λ (o : Option (List ℕ)). MergesAt g.B.Names.given g.B.Names.opening g.B.Names.ledgers.parts here now x y true (TellsOfHanded g.F.Dir.files g.B.Names.given g.B.Room.before g.B.Names.opening g.B.Names.ledgers.parts (IsThat table p)) (TellsOfBusy g.F.Dir.files g.B.Names.given g.B.Room.before g.B.Names.opening g.B.Names.ledgers.parts (IsThat table p)) (IsFinalAt g.F.Dir.files g.B.Names.given g.B.Room.before g.B.Names.opening g.B.Names.ledgers.parts table p) (Ok o)) c.in-Ok-None.field-0-is c.in-Ok-None.ensures.merges in
    record {
      merges = merges_then_done g.B.Names.given g.B.Names.opening g.B.Names.ledgers.parts c.args.share.now here now (g.R.Arm.failed c.args.arm.now) x y _ _ _ _ _ _ _ before.merges (tells_of g.F.Dir.files g.B.Names.given g.B.Room.before g.B.Names.opening g.B.Names.ledgers.parts (IsThat table p) (IsOf table) (λ t q is. is.0)) (busy_of g.F.Dir.files g.B.Names.given g.B.Room.before g.B.Names.opening g.B.Names.ledgers.parts (IsThat table p) (IsOf table) (λ t q is. is.0)) (All-more (IsFinalAt g.F.Dir.files g.B.Names.given g.B.Room.before g.B.Names.opening g.B.Names.ledgers.parts table) c.args.partitions.now c.loop-partition.partition-index Whole c.loop-partition-test.true) step;
      out = c.merge_partition.ensures.out ∙ before.out;
      tells = c.merge_partition.ensures.tells ∙ before.tells;
    }

-- one was refused
pub returns-in-Ok-Some-clause-merges : goal.returns-in-Ok-Some-clause-merges
returns-in-Ok-Some-clause-merges g c =
    let before = c.loop-partition.invariant in
    let here = c.loop-partition.share in
    let now = c.merge_partition.new.share in
    let x = g.R.Arm.failed c.loop-partition.arm in
    let y = g.R.Arm.failed c.merge_partition.new.arm in
    let table = c.args.table.now in
    let p : Partition = get_or c.args.partitions.now c.loop-partition.partition-index Whole in
    let step = subst (λ (o : Option (List ℕ)). MergesAt g.B.Names.given g.B.Names.opening g.B.Names.ledgers.parts here now x y true (TellsOfHanded g.F.Dir.files g.B.Names.given g.B.Room.before g.B.Names.opening g.B.Names.ledgers.parts (IsThat table p)) (TellsOfBusy g.F.Dir.files g.B.Names.given g.B.Room.before g.B.Names.opening g.B.Names.ledgers.parts (IsThat table p)) (IsFinalAt g.F.Dir.files g.B.Names.given g.B.Room.before g.B.Names.opening g.B.Names.ledgers.parts table p) (Ok o)) c.in-Ok-Some.field-0-is c.in-Ok-Some.ensures.merges in
    merges_then_refused g.B.Names.given g.B.Names.opening g.B.Names.ledgers.parts c.args.share.now here now (g.R.Arm.failed c.args.arm.now) x y _ _ _ _ _ _ _ before.merges (tells_of g.F.Dir.files g.B.Names.given g.B.Room.before g.B.Names.opening g.B.Names.ledgers.parts (IsThat table p) (IsOf table) (λ t q is. is.0)) (busy_of g.F.Dir.files g.B.Names.given g.B.Room.before g.B.Names.opening g.B.Names.ledgers.parts (IsThat table p) (IsOf table) (λ t q is. is.0)) c.in-Ok-Some.refused step

-- memory ran out
pub returns-in-Err-clause-merges : goal.returns-in-Err-clause-merges
returns-in-Err-clause-merges g c =
    let before = c.loop-partition.invariant in
    let here = c.loop-partition.share in
    let now = c.merge_partition.new.share in
    let x = g.R.Arm.failed c.loop-partition.arm in
    let y = g.R.Arm.failed c.merge_partition.new.arm in
    let table = c.args.table.now in
    let p : Partition = get_or c.args.partitions.now c.loop-partition.partition-index Whole in
    merges_then_ended g.B.Names.given g.B.Names.opening g.B.Names.ledgers.parts c.args.share.now here now (g.R.Arm.failed c.args.arm.now) x y _ _ _ _ _ _ _ before.merges (tells_of g.F.Dir.files g.B.Names.given g.B.Room.before g.B.Names.opening g.B.Names.ledgers.parts (IsThat table p) (IsOf table) (λ t q is. is.0)) (busy_of g.F.Dir.files g.B.Names.given g.B.Room.before g.B.Names.opening g.B.Names.ledgers.parts (IsThat table p) (IsOf table) (λ t q is. is.0)) c.in-Err.field-0 c.in-Err.ensures.merges

pub returns-in-Ok-Some-clause-out : goal.returns-in-Ok-Some-clause-out
returns-in-Ok-Some-clause-out g c = c.merge_partition.ensures.out ∙ c.loop-partition.invariant.out

pub returns-in-Ok-Some-clause-tells : goal.returns-in-Ok-Some-clause-tells
returns-in-Ok-Some-clause-tells g c = c.merge_partition.ensures.tells ∙ c.loop-partition.invariant.tells

pub returns-in-Err-clause-out : goal.returns-in-Err-clause-out
returns-in-Err-clause-out g c = c.merge_partition.ensures.out ∙ c.loop-partition.invariant.out

pub returns-in-Err-clause-tells : goal.returns-in-Err-clause-tells
returns-in-Err-clause-tells g c = c.merge_partition.ensures.tells ∙ c.loop-partition.invariant.tells

-- all were done
pub returns-clause-merges : goal.returns-clause-merges
returns-clause-merges g c =
    let front = take_all c.loop-partition.partition-index c.args.partitions.now (c.loop-partition-test.false) in
    subst (λ (ps : List Partition). MergesAt g.B.Names.given g.B.Names.opening g.B.Names.ledgers.parts c.args.share.now c.loop-partition.share (g.R.Arm.failed c.args.arm.now) (g.R.Arm.failed c.loop-partition.arm) true (TellsOfHanded g.F.Dir.files g.B.Names.given g.B.Room.before g.B.Names.opening g.B.Names.ledgers.parts (IsOf c.args.table.now)) (TellsOfBusy g.F.Dir.files g.B.Names.given g.B.Room.before g.B.Names.opening g.B.Names.ledgers.parts (IsOf c.args.table.now)) (All (IsFinalAt g.F.Dir.files g.B.Names.given g.B.Room.before g.B.Names.opening g.B.Names.ledgers.parts c.args.table.now) ps) (Ok None)) front c.loop-partition.invariant.merges

pub returns-clause-out : goal.returns-clause-out
returns-clause-out g c = c.loop-partition.invariant.out

pub returns-clause-tells : goal.returns-clause-tells
returns-clause-tells g c = c.loop-partition.invariant.tells
