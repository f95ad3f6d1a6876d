-- A name of the root is its table's name, a dot, and what comes after it.
use Rattle.std.proofs.Common.{◌≡◌, ◌≢◌, ℕ, Bool, true, false, not, ◌&&◌, List, [], ◌∷◌, ◌++◌, refl, sym, ap, ◌∙◌, append_assoc, get_or, Option, Some, None, arith, codes}
use Rattle.std.specs.List.{list_all}
use Rattle.std.proofs.lemmas.List.Elements.{All-nil, All-cons}
use Rattle.mt_values.specs.Grammar.{is_reserved}
use Rattle.mt_values.specs.Tokens.{starts_word, in_word}
use Rattle.part_name.specs.PartNames.{IsPartName, part_text}
use Rattle.part_name.specs.declared.part.PartName.{PartName}
use Rattle.part_set.specs.declared.root_name.RootName.{RootName}
use Rattle.part_set.specs.declared.root_name.RootName.TheVariants.{Create, Part}
use Rattle.part_set.specs.RootNames.{root_text, is_one_word, is_table, IsRootName, HasNoDot}
use Rattle.part_set.proofs.Dots.{no_dot_in, same_parts}

-- the table, and what comes after the dot
abbrev pub table_of : RootName → List ℕ
table_of (Create table) = table
table_of (Part part) = part.table

abbrev pub behind_dot : RootName → List ℕ
behind_dot (Create table) = codes "create"
behind_dot (Part part) = codes "part_" ++ part_text part.name

pub parted : (n : RootName) → table_of n ++ 46 ∷ behind_dot n ≡ root_text n
parted (Create table) = refl
parted (Part part) = sym (append_assoc part.table (codes ".part_") (part_text part.name))

both : (x y : Bool) → (x && y) ≡ true → (x ≡ true) × (y ≡ true)
both true y h = (refl, h)
both false y h = absurd cc

starts_apart : (b : ℕ) → starts_word b ≡ true → b ≢ 46
starts_apart b starts dot = let bad : starts_word 46 ≡ true = ap starts_word (sym dot) ∙ starts in cc

in_apart : (b : ℕ) → in_word b ≡ true → b ≢ 46
in_apart b within dot = let bad : in_word 46 ≡ true = ap in_word (sym dot) ∙ within in cc

all_apart : (bs : List ℕ) → list_all in_word bs ≡ true → HasNoDot bs
all_apart [] all = All-nil (λ (b : ℕ). b ≢ 46)
all_apart (b ∷ bs) all =
    let parts = both (in_word b) (list_all in_word bs) all in
    All-cons (λ (d : ℕ). d ≢ 46) b bs (in_apart b parts.0) (all_apart bs parts.1)

-- a word has no dot
word_no_dot : (word : List ℕ) → is_one_word word ≡ true → HasNoDot word
word_no_dot [] is = absurd cc
word_no_dot (b ∷ bs) is =
    let parts = both (starts_word b) (list_all in_word bs) is in
    All-cons (λ (d : ℕ). d ≢ 46) b bs (starts_apart b parts.0) (all_apart bs parts.1)

-- nor has a table's name
pub table_no_dot : (name : List ℕ) → is_table name ≡ true → HasNoDot name
table_no_dot name is = word_no_dot name (both (is_one_word name) (not (is_reserved name)) is).0

-- the table's name is one
pub has_table : (n : RootName) → IsRootName n → is_table (table_of n) ≡ true
has_table (Create table) named = named
has_table (Part part) named = named.0

-- a text without a dot spells no name
pub no_name : (n : RootName) (text : List ℕ) → HasNoDot text → root_text n ≡ text → ⊥
no_name n text none is = no_dot_in (table_of n) (behind_dot n) text none (parted n ∙ is)

-- a text that is parted at its first dot spells only a name of these parts
pub name_parts : (n : RootName) (front rest text : List ℕ) → IsRootName n → HasNoDot front → front ++ 46 ∷ rest ≡ text → root_text n ≡ text → (table_of n ≡ front) × (behind_dot n ≡ rest)
name_parts n front rest text named none parts is =
    same_parts (table_of n) front (behind_dot n) rest (table_no_dot (table_of n) (has_table n named)) none (parted n ∙ (is ∙ sym parts))

-- after the dot of a table's own name stands `create`
pub only_create : (n : RootName) (front rest : List ℕ) → table_of n ≡ front → behind_dot n ≡ rest → rest ≡ codes "create" → n ≡ Create front
only_create (Create table) front rest same behind create = ap Create same
only_create (Part part) front rest same behind create = let first : ◌≡◌ {A = ℕ} 112 99 = ap (λ (t : List ℕ). get_or t 0 0) (behind ∙ create) in absurd (omega arith)

-- else the name of a part, with the name that is read there
pub only_part : (n : RootName) (front rest : List ℕ) (found : Option PartName) → IsRootName n → table_of n ≡ front → behind_dot n ≡ rest → (rest ≡ codes "create" → ⊥)
    → ((p : PartName) → IsPartName p → codes "part_" ++ part_text p ≡ rest → found ≡ Some p)
    → (p : PartName) × (found ≡ Some p) × (n ≡ Part (record { table = front; name = p }))
only_part (Create table) front rest found named same behind other read = absurd (other (sym behind))
only_part (Part part) front rest found named same behind other read =
    (part.name, read part.name named.1 behind, ap (λ (t : List ℕ). Part (record { table = t; name = part.name })) same)

-- none was read
pub no_part : (p : PartName) → None ≡ Some p → ⊥
no_part p e = cc

-- the part that was read, with the table that was read
pub part_is : (n : RootName) (table front : List ℕ) (name p : PartName) → table ≡ front → Some name ≡ Some p → n ≡ Part (record { table = front; name = p }) → Some (Part (record { table = table; name = name })) ≡ Some n
part_is n table front name p same read is = cc
