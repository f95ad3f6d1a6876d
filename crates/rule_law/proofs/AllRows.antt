-- Merges of MergeTree leave all rows.
use Rattle.std.proofs.Common.{◌≡◌, ◌<◌, List, [], ◌++◌, length, refl, sym, ap, ◌∙◌}
use Rattle.mt_values.specs.Values.{Row}
use Rattle.mt_values.specs.declared.engine.Engine.TheVariants as engine
use Rattle.mt_model.specs.Folding.{Merges, ComesFrom, Leaves}
use Rattle.mt_model.specs.Rules.{Folds, Run}
use Rattle.rule_law.proofs.Merging.{function_leaves, leaves_function, law_of_merges}

-- a merge leaves the rows as they are
plain_merge_same : (before after : List Row) → Merges (Run engine.Plain []) before after → after ≡ before
plain_merge_same before after m = m.after_is ∙ ap (λ rows. m.front ++ (rows ++ m.back)) m.folded ∙ sym m.before_is

plain_absorbs : (before after out : List Row) → Unit {0} → Merges (Run engine.Plain []) before after → Leaves (Run engine.Plain []) after out → Leaves (Run engine.Plain []) before out
plain_absorbs before after out fits m leaves =
    leaves_function (λ rows. rows) (Run engine.Plain []) refl (λ row rows other is. is) before out
    (function_leaves (λ rows. rows) (Run engine.Plain []) refl (λ row rows other is. is) after out leaves ∙ plain_merge_same before after m)

pub plain_law : (rows x out : List Row) → 0 < length rows → ComesFrom (Run engine.Plain []) rows x → Leaves (Run engine.Plain []) x out → Folds engine.Plain [] rows out
plain_law rows x out some comes leaves = law_of_merges (Run engine.Plain []) (λ rows. Unit {0}) (λ before after fits m. tt) plain_absorbs rows x out some tt comes leaves
