-- Where the statements of a script end, and which data they have (docs/grammar.md, "Scripts").
use Rattle.std.specs.Prelude.{ℕ, suc, zero, ◌+◌, Bool, true, false, not, ◌&&◌, ◌||◌, ◌==◌, List, [], ◌∷◌, ◌++◌, length, drop, take_while, Option, Some, None, Result, Ok, Err, if◌then◌else◌, codes}
use Rattle.std.specs.List.{list_all, prefix_len}
use Rattle.std.specs.Option.{option_map}
use Rattle.mt_values.specs.declared.statement.Cause.{Cause}
use Rattle.mt_values.specs.declared.statement.Cause.TheVariants as cause
use Rattle.mt_values.specs.declared.statement.Statement.{Statement}
use Rattle.mt_values.specs.declared.script.Place.{Place}
use Rattle.mt_values.specs.declared.script.Place.TheVariants.{Outside, InString, BehindBackslash, InComment}
use Rattle.mt_values.specs.Tokens.{is_space, begins_with, behind}
use Rattle.mt_values.specs.Grammar.{statement_of, takes_data, same_bytes}

abbrev pub onto : ℕ → List ℕ × List ℕ → List ℕ × List ℕ
onto b found = (b ∷ found.0, found.1)

-- Where the next byte stands, after this byte. A string goes from quote to quote, a backslash in it takes the next byte,
-- and a comment goes from two dashes up to a line feed.
abbrev pub place_behind : Place → ℕ → List ℕ → Place
place_behind Outside b rest =
    if b == 39 then InString
    else if b == 45 && begins_with 45 rest then InComment
    else Outside
place_behind InString b rest =
    if b == 39 then Outside
    else if b == 92 then BehindBackslash
    else InString
place_behind BehindBackslash b rest = InString
place_behind InComment b rest = if b == 10 then Outside else InComment

-- a semicolon outside strings and comments ends a statement
abbrev pub ends_at : Place → ℕ → Bool
ends_at Outside b = b == 59
ends_at place b = false

-- the text up to the semicolon that ends it, and what follows that; none where the text has no end
abbrev pub ended_from : Place → List ℕ → Option (List ℕ × List ℕ)
ended_from place [] = None
ended_from place (b ∷ bs) =
    if ends_at place b then Some ([], bs)
    else option_map (onto b) (ended_from (place_behind place b bs) bs)

-- the byte takes the next one: it is a backslash that is not itself taken
abbrev pub takes_next : Bool → ℕ → Bool
takes_next taken b = not taken && b == 92

-- a line of data up to its line feed, which no backslash takes, and what follows that; none where no line feed ends it
abbrev pub line_from : Bool → List ℕ → Option (List ℕ × List ℕ)
line_from taken [] = None
line_from taken (b ∷ bs) =
    if not taken && b == 10 then Some ([], bs)
    else option_map (onto b) (line_from (takes_next taken b) bs)

-- the line that ends data
abbrev pub ends_data : List ℕ → Bool
ends_data line = same_bytes line (codes "\\.")

-- The lines of data with their line feeds; the last has none where the script ends in it. Whether the line that ends data came, and the script after it.
pub record Data : Type 0 where
  pub lines : List ℕ
  pub ended : Bool
  pub rest : List ℕ

-- one more line before data
abbrev pub with_line : List ℕ → Data → Data
with_line line d = record { lines = line ++ 10 ∷ d.lines; ended = d.ended; rest = d.rest }

-- the data that a text begins with, by its first line and what the rest gives
abbrev pub data_behind : (List ℕ → Data) → List ℕ → Option (List ℕ × List ℕ) → Data
data_behind more text None = if ends_data text then record { lines = []; ended = true; rest = [] } else record { lines = text; ended = false; rest = [] }
data_behind more text (Some found) = if ends_data found.0 then record { lines = []; ended = true; rest = found.1 } else with_line found.0 (more found.1)

-- the lines of a text up to the one that ends data, which may be the last without a line feed; at most so many of them
abbrev pub data_within : ℕ → List ℕ → Data
data_within zero text = record { lines = text; ended = false; rest = [] }
data_within (suc n) text = data_behind (data_within n) text (line_from false text)

-- a text has no more lines than bytes
abbrev pub data_of : List ℕ → Data
data_of text = data_within (length text + 1) text

-- the rest of the line of an INSERT's semicolon
abbrev pub is_line_byte : ℕ → Bool
is_line_byte b = not (b == 10)

abbrev pub line_rest : List ℕ → List ℕ
line_rest text = take_while is_line_byte text

-- the data begins after that line's line feed
abbrev pub behind_line : List ℕ → List ℕ
behind_line text = drop (prefix_len is_line_byte text + 1) text

-- an item of a script: a statement, or why its text is refused
abbrev pub Item : Type 0
Item = Result Statement Cause

-- A text after which a byte stands, at this place, that may not. What is faulty before it comes first.
abbrev pub refused_behind : ℕ → Item → Item
refused_behind place (Ok s) = Err (cause.Grammar place)
refused_behind place (Err c) = Err c

-- An INSERT of this text with its data. After its semicolon only blanks may stand on this rest of its line.
abbrev pub with_line_rest : List ℕ → List ℕ → Data → Item
with_line_rest text line d =
    if list_all is_space line then statement_of text true d.lines d.ended
    else refused_behind (length text + 1 + prefix_len is_space line) (statement_of text true d.lines d.ended)

-- the item that a script begins with; and the script after it and its data
abbrev pub Step : Type 0
Step = Item × List ℕ

abbrev pub with_data : List ℕ → List ℕ → Data → Step
with_data text line d = (with_line_rest text line d, d.rest)

-- a text up to the semicolon that ends it, and what follows that
abbrev pub complete : List ℕ × List ℕ → Step
complete found =
    if takes_data found.0 then with_data found.0 (line_rest found.1) (data_of (behind_line found.1))
    else (statement_of found.0 true [] false, found.1)

-- a text that no semicolon ends is refused, and nothing follows it
abbrev pub complete_or_cut : List ℕ → Option (List ℕ × List ℕ) → Step
complete_or_cut text None = (statement_of text false [] false, [])
complete_or_cut text (Some found) = complete found

-- between statements stand blanks, comments and semicolons
abbrev pub is_between : ℕ → Bool
is_between b = is_space b || b == 59

-- the next statement of a script and the script after it; none at the end of the script
abbrev pub next_from : List ℕ → Option Step
next_from [] = None
next_from (b ∷ bs) = Some (complete_or_cut (b ∷ bs) (ended_from Outside (b ∷ bs)))

abbrev pub next_statement : List ℕ → Option Step
next_statement script = next_from (behind is_between false script)

-- a statement before those that the rest of the script gives
abbrev pub statement_and : (List ℕ → List Item) → Option Step → List Item
statement_and more None = []
statement_and more (Some found) = found.0 ∷ more found.1

-- at most so many statements of a script
abbrev pub statements_within : ℕ → List ℕ → List Item
statements_within zero script = []
statements_within (suc n) script = statement_and (statements_within n) (next_statement script)

-- the statements of a script, in order; a script has no more of them than bytes
abbrev pub statements_of : List ℕ → List Item
statements_of script = statements_within (length script + 1) script

-- ---- a script of which more bytes may come

-- some line of the text, with its line feed, is the one that ends data
abbrev pub data_ended_behind : (List ℕ → Bool) → Option (List ℕ × List ℕ) → Bool
data_ended_behind more None = false
data_ended_behind more (Some found) = ends_data found.0 || more found.1

abbrev pub data_ended_within : ℕ → List ℕ → Bool
data_ended_within zero text = false
data_ended_within (suc n) text = data_ended_behind (data_ended_within n) (line_from false text)

abbrev pub data_ended : List ℕ → Bool
data_ended text = data_ended_within (length text + 1) text

-- a text up to its semicolon is a whole statement, but for an INSERT, whose line and data must have come to their ends too
abbrev pub is_whole : Option (List ℕ × List ℕ) → Bool
is_whole None = false
is_whole (Some found) = not (takes_data found.0) || (not (list_all is_line_byte found.1) && data_ended (behind_line found.1))

-- some byte of a script so far ends its first statement, whatever comes after
abbrev pub has_whole : List ℕ → Bool
has_whole script = is_whole (ended_from Outside (behind is_between false script))
