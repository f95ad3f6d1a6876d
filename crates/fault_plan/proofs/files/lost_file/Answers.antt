use Rattle.std.proofs.Common.{ap, ◌∙◌, sym, true, Bool, List, ℕ}
use Rattle.fault_plan.proofs.Images.{kept_file}
use Rattle.fault_plan.proofs.files.lost_file.Goals as goal

pub returns-then-written : goal.returns-then-written
returns-then-written c =
    let written = c.args.written.now in
    ap (λ (bytes : List ℕ). record { file = written.file; bytes = bytes; synced = true }) c.in_ok-bytes.ensures
    ∙ (ap (λ (synced : Bool). record { file = written.file; bytes = written.bytes; synced = synced }) (sym c.if-written.true)
    ∙ sym (kept_file written c.if-written.true))
