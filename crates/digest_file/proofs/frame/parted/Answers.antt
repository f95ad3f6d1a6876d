use Rattle.std.proofs.Common.{subst, sym}
use Rattle.digest_file.specs.Faults.{Locates}
use Rattle.digest_file.specs.Frames.{IsFrame}
use Rattle.digest_file.proofs.FirstFaults.{handed_on}
use Rattle.digest_file.proofs.Frames.{opened_cut, opened_missed}
use Rattle.byte_numbers.proofs.Numbers.{are_bytes}
use Rattle.digest_file.proofs.frame.parted.Goals as goal

pub returns-in_err-count : goal.returns-in_err-count
returns-in_err-count c = handed_on _ _ c.from_residual.result c.in_err-count.field-0.0 c.from_residual.ensures.1 (c.in_err-count.ensures c.args.unit)

pub returns-then-bytes-head : goal.returns-then-bytes-head
returns-then-bytes-head c =
    subst (Locates (IsFrame c.args.first.now c.args.gap c.args.unit) c.args.bytes.now) (sym c.ends_early.ensures)
    (opened_cut c.args.first.now c.args.bytes.now c.args.gap c.args.unit c.in_ok-count.count (are_bytes c.args.bytes.now c.type_inv.bytes) c.in_ok-count.ensures c.if-bytes-head.true)

pub returns-in_err-check_digest : goal.returns-in_err-check_digest
returns-in_err-check_digest c =
    handed_on _ _ c.from_residual-in_err-check_digest.result c.in_err-check_digest.field-0.0 c.from_residual-in_err-check_digest.ensures.1
    (opened_missed c.args.first.now c.args.bytes.now c.args.gap c.args.unit c.in_ok-count.count (are_bytes c.args.bytes.now c.type_inv.bytes) c.in_ok-count.ensures c.if-bytes-head.false
    c.in_err-check_digest.field-0.0 c.in_err-check_digest.ensures)
