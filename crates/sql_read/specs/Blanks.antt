-- What is skipped between tokens and between statements (docs/grammar.md, "Tokens" and "Scripts").
use Rattle.std.specs.Prelude.{ℕ, Bool, true, false, not, ◌&&◌, ◌==◌, List, [], ◌∷◌, Option, Some, None, if◌then◌else◌}
use Rattle.mt_values.specs.Tokens.{is_space, begins_with}
use Rattle.mt_values.specs.Script.{is_between}
use Rattle.sql_read.specs.declared.blanks.Skipped.{Skipped}
use Rattle.sql_read.specs.declared.blanks.Skipped.TheVariants.{Blanks, Between}

-- a byte that is skipped, outside comments
abbrev pub is_skipped : Skipped → ℕ → Bool
is_skipped Blanks = is_space
is_skipped Between = is_between

-- whether a comment goes on after the first byte of a text; none where that byte is not skipped
abbrev pub comment_behind : (ℕ → Bool) → Bool → List ℕ → Option Bool
comment_behind blank comment [] = None
comment_behind blank true (b ∷ bs) = Some (not (b == 10))
comment_behind blank false (b ∷ bs) =
    if blank b then Some false
    else if b == 45 && begins_with 45 bs then Some true
    else None
