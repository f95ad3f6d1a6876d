use Rattle.std.proofs.Common.{ℕ, Vec, append_assoc, ap, ◌∙◌}
use Rattle.std.specs.declared.alloc.Global.{Global}
use Rattle.mt_model.proofs.lines.explain_line.Goals as goal

pub returns : goal.returns
returns c = simp append_assoc (ap (λ (line : Vec ℕ Global). line.items) c.into_bytes.ensures.value ∙ c.in_ok-line.ensures.ok)
