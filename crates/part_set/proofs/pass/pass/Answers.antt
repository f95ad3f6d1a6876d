use Rattle.std.proofs.Common.{None, get_or, length, ap, arith}
use Rattle.std.proofs.lemmas.List.{get_or_default}
use Rattle.mt_base.specs.declared.partition.Partition.TheVariants.{Whole}
use Rattle.part_name.specs.declared.part.PartName.{PartName}
use Rattle.part_set.specs.Shelf.{all_parts}
use Rattle.part_set.proofs.Passes.{none_meets, pass_clash, passed_added, passed_all, passed_covered, passed_none}
use Rattle.part_set.proofs.pass.pass.Goals as goal

-- what stands for a part past the end
abbrev no_part : PartName
no_part = record { partition = Whole; min_block = 0; max_block = 0; level = 0; mutation = None }

pub loop-part-preserved-in-Covered : goal.loop-part-preserved-in-Covered
loop-part-preserved-in-Covered c =
    let parts = c.args.parts.now in
    let i = c.loop-part.part-index in
    let at = λ (d : PartName). get_or_default parts i d no_part c.loop-part-test.true in
    let passed = passed_covered parts c.requires.order c.requires.plain i (omega arith) (all_parts c.loop-part.kept) c.loop-part.invariant.passed c.loop-part.invariant.ordered c.loop-part-test.true (get_or parts i no_part) at (rw c.parts_in.ensures.parts at c.in-Covered.ensures) in
    record { passed = passed; ordered = c.loop-part.invariant.ordered }

pub returns-in-Overlapping-clause-clash : goal.returns-in-Overlapping-clause-clash
returns-in-Overlapping-clause-clash c =
    let parts = c.args.parts.now in
    let i = c.loop-part.part-index in
    let at = λ (d : PartName). get_or_default parts i d no_part c.loop-part-test.true in
    pass_clash parts c.requires.order c.requires.plain i (omega arith) (all_parts c.loop-part.kept) c.loop-part.invariant.passed c.loop-part.invariant.ordered c.loop-part-test.true (get_or parts i no_part) at (rw c.parts_in.ensures.parts at c.in-Overlapping.ensures)

pub add-requires : goal.add-requires
add-requires c =
    let parts = c.args.parts.now in
    let i = c.loop-part.part-index in
    let at = λ (d : PartName). get_or_default parts i d no_part c.loop-part-test.true in
    none_meets parts c.requires.order c.requires.plain i (omega arith) (all_parts c.loop-part.kept) c.loop-part.invariant.passed c.loop-part.invariant.ordered c.loop-part-test.true (get_or parts i no_part) at (rw c.parts_in.ensures.parts at c.in-Clear.ensures)

pub loop-part-preserved : goal.loop-part-preserved
loop-part-preserved c =
    let parts = c.args.parts.now in
    let i = c.loop-part.part-index in
    let at = λ (d : PartName). get_or_default parts i d no_part c.loop-part-test.true in
    let passed = passed_added parts c.requires.order c.requires.plain i (omega arith) (all_parts c.loop-part.kept) c.loop-part.invariant.passed c.loop-part.invariant.ordered c.loop-part-test.true (get_or parts i no_part) at (all_parts c.add.new.self) c.in_ok-add.ensures.ok in
    record { passed = passed; ordered = c.in_ok-add.ensures.ordered }

pub loop-part-init : goal.loop-part-init
loop-part-init c = record {
  passed = passed_none c.args.parts.now (all_parts c.new-kept.result) (ap all_parts c.new-kept.ensures);
  ordered = λ i j d less inside. absurd (omega (arith, ap length (ap all_parts c.new-kept.ensures)));
}

pub returns : goal.returns
returns c = record {
  shown = passed_all c.args.parts.now c.requires.order c.requires.plain c.loop-part.part-index (omega arith) (all_parts c.loop-part.kept) c.loop-part.invariant.passed c.loop-part.invariant.ordered c.loop-part-test.false;
  clash = tt;
}
