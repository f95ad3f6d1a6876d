use Rattle.std.proofs.Common.{◌≡◌, ◌++◌, ◌≤◌, length}
use Rattle.mt_values.specs.Tokens.{tokens_of}
use Rattle.sql_read.proofs.TokenSteps.{tokens_here}
use Rattle.sql_read.proofs.tokens.tokens.Given as goal

abbrev pub invariant-tokens : goal.invariant-tokens
invariant-tokens l = (l.found.items ++ tokens_here (length l.text) l.rest ≡ tokens_of l.text) × (length l.rest ≤ length l.text)

abbrev pub decreases-tokens : goal.decreases-tokens
decreases-tokens l = length l.rest
