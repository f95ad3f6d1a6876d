-- Which of two rows stays (docs/engines.md, "ReplacingMergeTree").
use Rattle.std.specs.Prelude.{ℕ, Bool, true, nat_le, Option, None, Some}
use Rattle.rule_law.specs.mt_model.Rules.{version_at}
use Rattle.mt_values.specs.Values.{Row}

-- a later row takes the place of an earlier one, where there is a version only if the later has no lesser one (docs/engines.md, "ReplacingMergeTree")
abbrev pub replaces : Option ℕ → Row → Row → Bool
replaces None kept row = true
replaces (Some place) kept row = nat_le (version_at place kept) (version_at place row)
