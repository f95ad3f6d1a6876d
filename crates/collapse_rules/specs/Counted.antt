-- What is kept of the rows of a collapsing key (docs/engines.md, "CollapsingMergeTree").
use Rattle.std.specs.Prelude.{◌≡◌, ℕ, List, filter, length, option_to_list}
use Rattle.mt_values.specs.Values.{Row}
use Rattle.rule_law.specs.mt_model.Rules.{ends_with_state, first_of, is_cancel, is_state, last_of}
use Rattle.collapse_rules.specs.declared.collapsing.Counted.{Counted}

-- the numbers of both signs, the first cancel, the last state, and whether the last row is a state (docs/engines.md, "CollapsingMergeTree")
pub record IsCounted (sign : ℕ) (rows : List Row) (c : Counted) : Type 0 where
  pub states : c.states ≡ length (filter (is_state sign) rows)
  pub cancels : c.cancels ≡ length (filter (is_cancel sign) rows)
  pub first : option_to_list c.first_cancel ≡ first_of (filter (is_cancel sign) rows)
  pub last : option_to_list c.last_state ≡ last_of (filter (is_state sign) rows)
  pub ended : c.ended ≡ ends_with_state sign rows
