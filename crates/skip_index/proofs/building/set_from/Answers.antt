use Rattle.std.proofs.Common.{◌≡◌, ◌<◌, ◌+◌, ◌++◌, ap, length, map, take, sym, ◌∙◌, arith}
use Rattle.std.proofs.lemmas.List.{length-map}
use Rattle.mt_values.specs.Cells.{value_of}
use Rattle.column_file.proofs.Writing.{values_at}
use Rattle.skip_index.specs.Blocks.{distinct_of, most_kept}
use Rattle.skip_index.proofs.Distinct.{seen_more, set_full}
use Rattle.skip_index.proofs.building.set_from.Goals as goal
use Rattle.skip_index.proofs.building.set_from.Goals.{In_ok-see}

-- the values that are seen with the next one
seen : (c : In_ok-see) → map value_of c.see.new.seen.keys ≡ distinct_of (c.args.first.now ++ values_at c.args.cells.now.values (take (c.loop-place.place-index + 1) c.args.places.now))
seen c = seen_more c.args.first.now c.args.cells.now.values c.args.places.now c.loop-place.place-index c.at.result c.loop-place.distinct.keys c.see.new.seen.keys c.loop-place-test.true c.at.ensures c.loop-place.invariant.seen c.in_ok-see.ensures.values

pub returns-then-len-most : goal.returns-then-len-most
returns-then-len-most c =
    let count = sym (length-map c.see.new.seen.keys value_of) ∙ ap length (seen (goal.at.returns-then-len-most c).In_ok-see) in
    let many : most_kept c.args.limit < length (distinct_of (c.args.first.now ++ values_at c.args.cells.now.values (take (c.loop-place.place-index + 1) c.args.places.now))) =
    omega (arith, count, c.if-len-most.true, c.len.ensures, c.most_kept-most.ensures) in
    λ few. set_full c.args.limit c.args.first.now c.args.cells.now.values c.args.places.now (c.loop-place.place-index + 1) many

pub loop-place-preserved : goal.loop-place-preserved
loop-place-preserved c = record {
  seen = seen (goal.at.loop-place-preserved c).In_ok-see;
  few = λ first_few. omega (arith, c.if-len-most.false, c.len.ensures, c.most_kept-most.ensures);
}
