use Rattle.std.proofs.Common.{◌≡◌, ℕ, Bool, true, false, cond, List, [], ◌∷◌, nat_eq, sym, ap, ◌∙◌}
use Rattle.std.specs.List.{list_any}
use Rattle.mt_values.specs.declared.engine.Engine.TheVariants as engine
use Rattle.mt_values.specs.Engines.{added_version}
use Rattle.mt_values.proofs.schema.Schema.added_version.Goals as goal

-- the version is added where the key lacks it
added : (key shown : List ℕ) (sign version : ℕ) (has answer : Bool) → shown ≡ key → answer ≡ list_any (λ own. nat_eq own version) shown → answer ≡ has
    → cond has [] (version ∷ []) ≡ added_version (engine.Versioned sign version) key
added key shown sign version has answer same is told = ap (λ b. cond b [] (version ∷ [])) (sym told ∙ is ∙ ap (list_any (λ own. nat_eq own version)) same)

pub returns-then-is_among : goal.returns-then-is_among
returns-then-is_among c =
    added c.args.self.now.key c.as_slice.result.now c.in-Versioned.sign c.in-Versioned.version true c.is_among.result c.as_slice.ensures c.is_among.ensures c.if-is_among.true
    ∙ ap (λ e. added_version e c.args.self.now.key) (sym c.in-Versioned.is)

pub returns : goal.returns
returns c =
    added c.args.self.now.key c.as_slice.result.now c.in-Versioned.sign c.in-Versioned.version false c.is_among.result c.as_slice.ensures c.is_among.ensures c.if-is_among.false
    ∙ ap (λ e. added_version e c.args.self.now.key) (sym c.in-Versioned.is)
