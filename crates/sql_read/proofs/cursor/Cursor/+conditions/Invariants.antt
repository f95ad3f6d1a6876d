use Rattle.std.proofs.Common.{◌≡◌, ◌+◌, ◌*◌, ◌<◌, ◌≤◌, length, codes}
use Rattle.mt_values.specs.declared.expr.TestText.{TestText}
use Rattle.mt_values.specs.declared.statement.Statement.{Statement}
use Rattle.mt_values.specs.Conditions.{Condition, And, Or, height}
use Rattle.mt_values.specs.Grammar.{all_of, joined_from, some_of, term_within}
use Rattle.mt_values.specs.Readers.{Reader}
use Rattle.sql_read.proofs.cursor.Cursor.+conditions.Given as goal

-- only an open parenthesis or a NOT goes deeper, so the bound falls
abbrev pub decreases-term : goal.decreases-term
decreases-term l = 4 * l.within

abbrev pub decreases-all_of : goal.decreases-all_of
decreases-all_of l = 4 * l.within + 1

abbrev pub decreases-some_of : goal.decreases-some_of
decreases-some_of l = 4 * l.within + 2

abbrev pub decreases-opened : goal.decreases-opened
decreases-opened l = 4 * l.within + 3

-- the terms so far, joined, were read of the whole
abbrev pub invariant-all_of-terms : goal.invariant-all_of-terms
invariant-all_of-terms l =
    ((next : Condition TestText → Reader Statement) → joined_from (codes "AND") And (term_within l.within) l.found next l.self ≡ all_of (term_within l.within) next l.fn.self)
    × (height l.found ≤ 2 * l.within + 2) × (length l.self < length l.fn.self)

abbrev pub decreases-all_of-terms : goal.decreases-all_of-terms
decreases-all_of-terms l = length l.self

abbrev pub invariant-some_of-parts : goal.invariant-some_of-parts
invariant-some_of-parts l =
    ((next : Condition TestText → Reader Statement) → joined_from (codes "OR") Or (all_of (term_within l.within)) l.found next l.self ≡ some_of (term_within l.within) next l.fn.self)
    × (height l.found ≤ 2 * l.within + 3) × (length l.self < length l.fn.self)

abbrev pub decreases-some_of-parts : goal.decreases-some_of-parts
decreases-some_of-parts l = length l.self
