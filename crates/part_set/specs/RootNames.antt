-- What the names of the root say (docs/formats.md, "Names").
use Rattle.std.specs.Prelude.{◌≢◌, ℕ, Bool, false, not, ◌&&◌, List, [], ◌∷◌, IsTrue, All}
use Rattle.std.specs.List.{list_all}
use Rattle.mt_values.specs.Grammar.{is_reserved}
use Rattle.mt_values.specs.RootNames.{create_name, part_name}
use Rattle.mt_values.specs.Tokens.{starts_word, in_word}
use Rattle.part_name.specs.PartNames.{IsPartName, part_text}
use Rattle.part_set.specs.declared.root_name.RootName.{RootName}
use Rattle.part_set.specs.declared.root_name.RootName.TheVariants.{Create, Part}

-- a letter or an underscore, and then letters, digits and underscores
abbrev pub is_one_word : List ℕ → Bool
is_one_word [] = false
is_one_word (b ∷ bs) = starts_word b && list_all in_word bs

-- a table's name: a word that is not reserved, of any length
abbrev pub is_table : List ℕ → Bool
is_table name = is_one_word name && not (is_reserved name)

-- a name as it is spelled
abbrev pub root_text : RootName → List ℕ
root_text (Create table) = create_name table
root_text (Part part) = part_name part.table (part_text part.name)

-- the names that the root may have
abbrev pub IsRootName : RootName → Type 0
IsRootName (Create table) = IsTrue (is_table table)
IsRootName (Part part) = IsTrue (is_table part.table) × IsPartName part.name

-- no byte is a dot
abbrev pub HasNoDot : List ℕ → Type 0
HasNoDot text = All (λ b. b ≢ 46) text
