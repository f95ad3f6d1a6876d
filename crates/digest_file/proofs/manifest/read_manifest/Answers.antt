use Rattle.std.proofs.Common.{◌∙◌, arith}
use Rattle.std.proofs.lemmas.List.{take_all}
use Rattle.digest_file.specs.Frames.{IsFrame}
use Rattle.digest_file.specs.Spellings.{IsManifest}
use Rattle.digest_file.proofs.FirstFaults.{handed_on, located_explains, located_none, same_located}
use Rattle.digest_file.proofs.Manifests.{manifest_first, manifest_from_frame, manifest_is_frame, frame_is_manifest, one_manifest}
use Rattle.byte_numbers.proofs.Numbers.{are_bytes}
use Rattle.digest_file.proofs.manifest.read_manifest.Goals as goal

pub returns-in_err-frame-clause-spelled : goal.returns-in_err-frame-clause-spelled
returns-in_err-frame-clause-spelled c = λ manifest is.
    absurd (located_none (IsFrame manifest_first 8 40) c.args.bytes.now c.in_err-frame.field-0.0 c.in_err-frame.ensures
    (manifest_is_frame c.args.bytes.now record { bytes_are = are_bytes c.args.bytes.now c.type_inv.bytes; manifest = manifest; of = is }))

pub returns-in_err-frame-clause-fault : goal.returns-in_err-frame-clause-fault
returns-in_err-frame-clause-fault c =
    handed_on _ _ c.from_residual.result c.in_err-frame.field-0.0 c.from_residual.ensures.1
    (located_explains IsManifest c.args.bytes.now c.in_err-frame.field-0.0
    (same_located (IsFrame manifest_first 8 40) IsManifest frame_is_manifest manifest_is_frame c.args.bytes.now c.in_err-frame.field-0.0 c.in_err-frame.ensures))

pub returns-clause-read : goal.returns-clause-read
returns-clause-read c =
    let frame = c.in_ok-frame.frame in
    manifest_from_frame c.args.bytes.now frame.middle.now frame.count frame.items.now c.first_u64-rows.result c.in_ok-files.files c.in_ok-frame.ensures (omega arith)
    (c.first_u64-rows.ensures ∙ take_all 8 frame.middle.now (omega (arith, c.in_ok-frame.ensures.fit.middle_fits))) c.in_ok-files.ensures

pub returns-clause-spelled : goal.returns-clause-spelled
returns-clause-spelled c = λ manifest is. one_manifest c.args.bytes.now _ manifest (returns-clause-read c) is
