use Rattle.std.proofs.Common.{◌≢◌, ℕ, ◌<◌, ◌^◌, List, drop, inl, inr, subst, sym}
use Rattle.std.proofs.lemmas.List.{take_rest}
use Rattle.std.specs.Int.{w32, to_le_bytes}
use Rattle.column_file.specs.byte_numbers.Fronts.{Begins}
use Rattle.column_file.proofs.Fronts.{handed_on}
use Rattle.skip_index.specs.declared.shapes.BlockShape.{BlockShape}
use Rattle.skip_index.specs.Faults.{ExplainsSet}
use Rattle.skip_index.specs.Files.{MayCount, MayKeepSome}
use Rattle.skip_index.proofs.BlocksRead.{set_spelled, set_wrong}
use Rattle.skip_index.proofs.reading.read_set.Goals as goal

pub returns-in_err-values-clause-fault : goal.returns-in_err-values-clause-fault
returns-in_err-values-clause-fault c =
    let small : c.in-Some.count < 2 ^ 32 = search in
    let begins = subst (λ (l : List ℕ). Begins (to_le_bytes w32 c.in-Some.count) 4 l) (take_rest c.args.bytes.now c.args.at) c.in-Some.ensures in
    handed_on (ExplainsSet c.args.block c.args.limit c.args.at (drop c.args.at c.args.bytes.now)) c.from_residual.result c.in_err-values.field-0.0 c.from_residual.ensures.1
    (set_wrong c.args.block c.args.limit c.args.at c.args.bytes.now c.in-Some.count c.in_err-values.field-0.0 small begins (c.may_count.ensures.0 c.if-not-may_count.false) c.in_err-values.ensures.fault)

-- a block that tells some values keeps them
keeps_some : (block : BlockShape) (limit count : ℕ) → MayCount block limit count → count ≢ 0 → MayKeepSome block limit count
keeps_some block limit count (inl none) some = absurd (some none.0)
keeps_some block limit count (inr may) some = may

pub returns-clause-kept : goal.returns-clause-kept
returns-clause-kept c =
    let read = c.in_ok-values.ensures.read in (
      subst (MayKeepSome c.args.block c.args.limit) (sym read.count_is)
          (keeps_some c.args.block c.args.limit c.in-Some.count (c.may_count.ensures.0 c.if-not-may_count.false) c.if-count-eq0.false),
      read.sound,
    )

pub returns-clause-spelled : goal.returns-clause-spelled
returns-clause-spelled c =
    let begins = subst (λ (l : List ℕ). Begins (to_le_bytes w32 c.in-Some.count) 4 l) (take_rest c.args.bytes.now c.args.at) c.in-Some.ensures in
    set_spelled c.in_ok-values.values c.in-Some.count c.in_ok-values.size c.args.at c.args.bytes.now c.in_ok-values.ensures.read.count_is begins c.in_ok-values.ensures.read.begins
