use Rattle.digest_file.specs.Frames.{IsFrame}
use Rattle.digest_file.specs.Spellings.{IsEntry}
use Rattle.digest_file.proofs.Entries.{entry_first, entry_from_frame, entry_is_frame, frame_is_entry, one_text}
use Rattle.digest_file.proofs.FirstFaults.{handed_on, located_none, same_located}
use Rattle.byte_numbers.proofs.Numbers.{are_bytes}
use Rattle.digest_file.proofs.entry.read_entry.Goals as goal

pub returns-in_err-frame-clause-spelled : goal.returns-in_err-frame-clause-spelled
returns-in_err-frame-clause-spelled c = λ text is.
    absurd (located_none (IsFrame entry_first 0 1) c.args.bytes.now c.in_err-frame.field-0.0 c.in_err-frame.ensures
    (entry_is_frame c.args.bytes.now record { bytes_are = are_bytes c.args.bytes.now c.type_inv.bytes; text = text; entry = is }))

pub returns-in_err-frame-clause-fault : goal.returns-in_err-frame-clause-fault
returns-in_err-frame-clause-fault c =
    handed_on _ _ c.from_residual.result c.in_err-frame.field-0.0 c.from_residual.ensures.1
    (same_located (IsFrame entry_first 0 1) IsEntry frame_is_entry entry_is_frame c.args.bytes.now c.in_err-frame.field-0.0 c.in_err-frame.ensures)

pub returns-clause-spelled : goal.returns-clause-spelled
returns-clause-spelled c = λ text is.
    one_text c.args.bytes.now c.in_ok-frame.frame.items.now text
    (entry_from_frame c.args.bytes.now c.in_ok-frame.frame.middle.now c.in_ok-frame.frame.count c.in_ok-frame.frame.items.now c.in_ok-frame.ensures) is
