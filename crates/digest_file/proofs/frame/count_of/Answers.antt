use Rattle.std.proofs.Common.{◌+◌, length, take, subst, sym, ap, ◌∙◌, arith}
use Rattle.std.proofs.lemmas.List.{take_rest}
use Rattle.digest_file.specs.Faults.{Locates}
use Rattle.digest_file.specs.Frames.{IsFrame}
use Rattle.digest_file.proofs.Frames.{wrong_first, cut_head, opened}
use Rattle.byte_numbers.proofs.Numbers.{are_bytes}
use Rattle.digest_file.proofs.frame.count_of.Goals as goal

pub returns-in-Some : goal.returns-in-Some
returns-in-Some c = λ unit.
    wrong_first c.args.first.now c.args.gap unit c.args.bytes.now c.in-Some.place (are_bytes c.args.first.now c.type_inv.first) c.in-Some.ensures.0 c.in-Some.ensures.1

pub returns-then-bytes-number_at : goal.returns-then-bytes-number_at
returns-then-bytes-number_at c = λ unit.
    subst (Locates (IsFrame c.args.first.now c.args.gap unit) c.args.bytes.now) (sym c.ends_early.ensures)
    (cut_head c.args.first.now c.args.gap unit c.args.bytes.now _ (are_bytes c.args.bytes.now c.type_inv.bytes) c.in_default.ensures (omega arith))

pub returns : goal.returns
returns c =
    opened c.args.first.now c.args.bytes.now c.args.gap c.first_u32.result c.in_default.ensures (omega arith) (omega arith)
    (c.first_u32.ensures ∙ ap (take 4) (take_rest c.args.bytes.now (length c.args.first.now + c.args.gap)))
