use Rattle.std.proofs.Common.{◌≡◌, All, ℕ, length, sym, ◌∙◌, subst}
use Rattle.mt_values.specs.Values.{Row}
use Rattle.primary_marks.proofs.KeyRows.{seen_width}
use Rattle.primary_marks.proofs.marks.Marks.width.Goals as goal

pub returns : goal.returns
returns c =
    subst (λ (n : ℕ). All (λ (key : Row). length key ≡ n) c.args.self.now) (sym (c.len.ensures ∙ c.self.inside.columns.ok.0))
    (seen_width c.self.inside.columns.items c.self.inside.keys c.args.self.now c.self.view_is c.self.invariant.0)
