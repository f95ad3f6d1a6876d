-- What the folders of a root are called on a real disk (docs/formats.md, "Names").
use Rattle.std.specs.Prelude.{ℕ, List, [], ◌∷◌, ◌++◌, Bool, false, ◌||◌, ◌&&◌, ◌==◌, nat_le, not, Option, None, Some, slice_get, filter, if◌then◌else◌}
use Rattle.std.specs.List.{list_all}

-- a letter, a digit, an underscore or a dot
abbrev pub is_name_byte : ℕ → Bool
is_name_byte b =
    (nat_le 65 b && nat_le b 90) || (nat_le 97 b && nat_le b 122) || (nat_le 48 b && nat_le b 57) || (b == 95) || (b == 46)

-- no dot
abbrev pub is_first_byte : Option ℕ → Bool
is_first_byte None = false
is_first_byte (Some b) = not (b == 46)

-- a name that a folder of the root may have: such bytes, and there is a first one, which is no dot
abbrev pub is_root_name : List ℕ → Bool
is_root_name name = is_first_byte (slice_get name 0) && list_all is_name_byte name

-- a name that a folder shows: it has bytes, and the first of them is no dot
abbrev pub is_shown : List ℕ → Bool
is_shown name = is_first_byte (slice_get name 0)

-- the names in bytes in which a NUL ends each of them, where the first has begun with these; what no NUL ends is no name
abbrev pub ended_names : List ℕ → List ℕ → List (List ℕ)
ended_names begun [] = []
ended_names begun (b ∷ bytes) = if b == 0 then begun ∷ ended_names [] bytes else ended_names (begun ++ b ∷ []) bytes

-- those of these names that a folder shows
abbrev pub shown_names : List ℕ → List (List ℕ)
shown_names ended = filter is_shown (ended_names [] ended)
