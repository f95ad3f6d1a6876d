-- What the code that reads data found, by numbers of bytes, and what a part of a script is.
use Rattle.std.specs.Prelude.{ℕ, ◌+◌, List, length, take, drop, if◌then◌else◌}
use Rattle.std.specs.List.{list_all, prefix_len}
use Rattle.mt_values.specs.Tokens.{is_space}
use Rattle.mt_values.specs.Grammar.{statement_of}
use Rattle.mt_values.specs.Script.{Data, Item, refused_behind}
use Rattle.data_lines.specs.declared.lines.Extent.{Extent}
use Rattle.data_lines.specs.declared.section.Section.{Section}

-- the data that a text begins with
abbrev pub data_in : List ℕ → Extent → Data
data_in text e = record { lines = take e.lines text; ended = e.ended; rest = drop e.used text }

-- what a part of a script is, by what its text is
abbrev pub line_said : Section → Item → Item
line_said s found =
    if list_all is_space s.line.now then found
    else refused_behind (length s.text.now + 1 + prefix_len is_space s.line.now) found

-- the statement that a part of a script is, or why it is refused
abbrev pub section_said : Section → Item
section_said s = line_said s (statement_of s.text.now s.terminated s.lines.now s.ended)
