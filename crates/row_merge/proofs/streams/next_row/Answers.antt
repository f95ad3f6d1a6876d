use Rattle.std.proofs.Common.{ℕ, ◌<◌, List, arith, drop, length, subst, sym}
use Rattle.std.proofs.lemmas.List.{length-map}
use Rattle.mt_outside.proofs.LeftArms.{arm_as, arm_same}
use Rattle.mt_values.specs.Values.{Row}
use Rattle.part_reader.specs.Readings.{Reading}
use Rattle.row_merge.specs.declared.heads.Cursor.{Cursor}
use Rattle.row_merge.specs.Heads.{ahead_of}
use Rattle.row_merge.specs.Streams.{AreLater, ExplainsStream, MayTake}
use Rattle.row_merge.proofs.Explaining.{all_stay}
use Rattle.row_merge.proofs.Nexts.{has_ahead, none_gives, none_has, taken_fewer, taken_in, takes_last, takes_row}
use Rattle.row_merge.proofs.Refilling.{first_fails}
use Rattle.row_merge.proofs.Failing.{handed_fails}
use Rattle.row_merge.proofs.Written.{no_fault}
use Rattle.row_merge.proofs.streams.next_row.Goals as goal

-- an allocation failed
pub returns-in_default-clause-fails : goal.returns-in_default-clause-fails
returns-in_default-clause-fails g c = record {
  damaged = first_fails g.R.Dir.Dir.files c.args.inputs.now c.args.stream.now c.requires.stream c.requires.stream.inputs.some c.index-inputs-0.result c.index-inputs-0.is;
  leaves = arm_as (arm_same c.args.arm.now) no_fault (λ none. absurd none);
}

-- no row is left
pub returns-in_default-found-clause-gives : goal.returns-in_default-found-clause-gives
returns-in_default-found-clause-gives g c = λ rows left holds at sorted.
    none_gives c.args.stream.now rows left at (subst (MayTake c.args.inputs.now c.args.stream.now c.take_next.new.stream) c.in_default-found.is c.in-Ok.ensures.takes).none

pub returns-in_default-found-clause-idle : goal.returns-in_default-found-clause-idle
returns-in_default-found-clause-idle g c = λ shaped is.
    (subst (MayTake c.args.inputs.now c.args.stream.now c.take_next.new.stream) c.in_default-found.is c.in-Ok.ensures.takes).idle shaped

-- the row's part has more rows in memory
pub index-requires : goal.index-requires
index-requires g c =
    let i = c.args.inputs.now in
    let s = c.args.stream.now in
    let mid = c.take_next.new.stream in
    let taken : ℕ × Row = (c.in-Some.number, c.in-Some.row) in
    let t = subst (MayTake i s mid) c.in-Some.is c.in-Ok.ensures.takes in
    omega (arith, mid.cursors.ok.0, taken_in i.places.now (ahead_of s.cursors.items) (ahead_of mid.cursors.items) taken.0 taken.1 t.first, length-map mid.cursors.items (λ (x : Cursor). drop x.at x.block.rows))

pub returns-then-has_row-clause-gives : goal.returns-then-has_row-clause-gives
returns-then-has_row-clause-gives g c = λ rows left holds at sorted.
    let i = c.args.inputs.now in
    let s = c.args.stream.now in
    let mid = c.take_next.new.stream in
    let taken : ℕ × Row = (c.in-Some.number, c.in-Some.row) in
    let t = subst (MayTake i s mid) c.in-Some.is c.in-Ok.ensures.takes in
    let below : taken.0 < length mid.cursors.items = omega (arith, taken_in i.places.now (ahead_of s.cursors.items) (ahead_of mid.cursors.items) taken.0 taken.1 t.first, length-map mid.cursors.items (λ (x : Cursor). drop x.at x.block.rows)) in
    takes_row i.places.now s mid rows left taken.0 taken.1 at t.first sorted c.take_next.ensures.readers
    (has_ahead mid.cursors.items taken.0 c.index.result.now below c.index.ensures c.has_row.result c.has_row.ensures c.if-has_row.true)

pub returns-then-has_row-clause-typed : goal.returns-then-has_row-clause-typed
returns-then-has_row-clause-typed g c = (subst (MayTake c.args.inputs.now c.args.stream.now c.take_next.new.stream) c.in-Some.is c.in-Ok.ensures.takes).typed

pub returns-then-has_row-clause-fewer : goal.returns-then-has_row-clause-fewer
returns-then-has_row-clause-fewer g c =
    let i = c.args.inputs.now in
    let s = c.args.stream.now in
    let mid = c.take_next.new.stream in
    let taken : ℕ × Row = (c.in-Some.number, c.in-Some.row) in
    let t = subst (MayTake i s mid) c.in-Some.is c.in-Ok.ensures.takes in
    taken_fewer i s mid taken t c.take_next.ensures.readers

-- the part is read on
pub refill-requires-clause-within : goal.refill-requires-clause-within
refill-requires-clause-within g c = λ κs within.
    let i = c.args.inputs.now in
    let s = c.args.stream.now in
    let mid = c.take_next.new.stream in
    let taken : ℕ × Row = (c.in-Some.number, c.in-Some.row) in
    let t = subst (MayTake i s mid) c.in-Some.is c.in-Ok.ensures.takes in
    let below : taken.0 < length mid.cursors.items = omega (arith, taken_in i.places.now (ahead_of s.cursors.items) (ahead_of mid.cursors.items) taken.0 taken.1 t.first, length-map mid.cursors.items (λ (x : Cursor). drop x.at x.block.rows)) in
    omega (arith, below, c.in-Ok.ensures.stream.count)

pub refill-requires-clause-none : goal.refill-requires-clause-none
refill-requires-clause-none g c = λ κs within.
    let i = c.args.inputs.now in
    let s = c.args.stream.now in
    let mid = c.take_next.new.stream in
    let taken : ℕ × Row = (c.in-Some.number, c.in-Some.row) in
    let t = subst (MayTake i s mid) c.in-Some.is c.in-Ok.ensures.takes in
    let below : taken.0 < length mid.cursors.items = omega (arith, taken_in i.places.now (ahead_of s.cursors.items) (ahead_of mid.cursors.items) taken.0 taken.1 t.first, length-map mid.cursors.items (λ (x : Cursor). drop x.at x.block.rows)) in
    let none = none_has mid.cursors.items taken.0 c.index.result.now below c.index.ensures c.has_row.result c.has_row.ensures c.if-has_row.false in
    none

pub returns-in_err-refill-clause-fails : goal.returns-in_err-refill-clause-fails
returns-in_err-refill-clause-fails g c =
    let files = g.R.Dir.Dir.files in
    let i = c.args.inputs.now in
    handed_fails c.from_residual.result c.in_err-refill.field-0.0 c.from_residual.ensures.1
    (subst (λ (rs : List (Reading _)). ExplainsStream files i rs c.in_err-refill.field-0.0) c.take_next.ensures.readers c.in_err-refill.ensures.fails.damaged)
    c.in_err-refill.ensures.fails.leaves

pub returns-in_default-found-clause-goes_on : goal.returns-in_default-found-clause-goes_on
returns-in_default-found-clause-goes_on g c =
    let olds = c.args.stream.now.readers.items in
    subst (AreLater olds) (sym c.take_next.ensures.readers) (all_stay olds)

pub returns-then-has_row-clause-goes_on : goal.returns-then-has_row-clause-goes_on
returns-then-has_row-clause-goes_on g c =
    let olds = c.args.stream.now.readers.items in
    subst (AreLater olds) (sym c.take_next.ensures.readers) (all_stay olds)

pub returns-clause-goes_on : goal.returns-clause-goes_on
returns-clause-goes_on g c = subst (λ (rs : List (Reading _)). AreLater rs c.refill.new.stream.readers.items) c.take_next.ensures.readers c.in_ok-refill.ensures.goes_on

pub returns-clause-gives : goal.returns-clause-gives
returns-clause-gives g c = λ rows left holds at sorted.
    let i = c.args.inputs.now in
    let s = c.args.stream.now in
    let mid = c.take_next.new.stream in
    let taken : ℕ × Row = (c.in-Some.number, c.in-Some.row) in
    let t = subst (MayTake i s mid) c.in-Some.is c.in-Ok.ensures.takes in
    let below : taken.0 < length mid.cursors.items = omega (arith, taken_in i.places.now (ahead_of s.cursors.items) (ahead_of mid.cursors.items) taken.0 taken.1 t.first, length-map mid.cursors.items (λ (x : Cursor). drop x.at x.block.rows)) in
    let none = none_has mid.cursors.items taken.0 c.index.result.now below c.index.ensures c.has_row.result c.has_row.ensures c.if-has_row.false in
    takes_last i.places.now s mid rows left taken.0 taken.1 at t.first sorted c.take_next.ensures.readers c.refill.new.stream none (c.in_ok-refill.ensures.rows rows holds)

pub returns-clause-typed : goal.returns-clause-typed
returns-clause-typed g c = (subst (MayTake c.args.inputs.now c.args.stream.now c.take_next.new.stream) c.in-Some.is c.in-Ok.ensures.takes).typed

pub returns-clause-fewer : goal.returns-clause-fewer
returns-clause-fewer g c =
    let i = c.args.inputs.now in
    let s = c.args.stream.now in
    let mid = c.take_next.new.stream in
    let taken : ℕ × Row = (c.in-Some.number, c.in-Some.row) in
    let t = subst (MayTake i s mid) c.in-Some.is c.in-Ok.ensures.takes in
    omega (arith, taken_fewer i s mid taken t c.take_next.ensures.readers, c.in_ok-refill.ensures.count)

pub returns-in_default-found-clause-rises : goal.returns-in_default-found-clause-rises
returns-in_default-found-clause-rises g c = c.in-Ok.ensures.rises

pub returns-then-has_row-clause-rises : goal.returns-then-has_row-clause-rises
returns-then-has_row-clause-rises g c = c.in-Ok.ensures.rises

pub returns-clause-rises : goal.returns-clause-rises
returns-clause-rises g c = omega (arith, c.in-Ok.ensures.rises, c.in_ok-refill.ensures.reads.most)

pub returns-in_default-found-clause-fails : goal.returns-in_default-found-clause-fails
returns-in_default-found-clause-fails g c = record {
  damaged = tt;
  leaves = arm_same c.args.arm.now;
}

pub returns-then-has_row-clause-fails : goal.returns-then-has_row-clause-fails
returns-then-has_row-clause-fails g c = record {
  damaged = tt;
  leaves = arm_same c.args.arm.now;
}

pub returns-clause-fails : goal.returns-clause-fails
returns-clause-fails g c = record {
  damaged = tt;
  leaves = c.in_ok-refill.ensures.fails.leaves;
}
