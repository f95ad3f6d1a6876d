-- Names of the root are texts.
use Rattle.std.proofs.Common.{◌≡◌, ◌<◌, ◌&&◌, ℕ, Bool, true, false, List, All, get_or, slice_get, arith}
use Rattle.std.specs.List.{list_all, AllPass}
use Rattle.std.specs.Str.{IsUtf8}
use Rattle.std.proofs.lemmas.List.Sums.{AllPass-from_list_all}
use Rattle.std.proofs.lemmas.Str.{IsUtf8-from_ascii}
use Rattle.std.proofs.lemmas.Str.Ascii.{IsAscii-from_all}
use Rattle.file_names.specs.Names.{is_name_byte, is_first_byte, is_root_name}

-- such a byte is ASCII
is_ascii : (b : ℕ) → is_name_byte b ≡ true → b < 128
is_ascii b is = grind arith

are_ascii : (bs : List ℕ) → AllPass is_name_byte bs → All (λ b. b < 128) bs
are_ascii bs are = λ k d within. is_ascii (get_or bs k d) (are k d within)

second : (a b : Bool) → (a && b) ≡ true → b ≡ true
second true b are = are
second false b are = cc

pub names_are_texts : (name : List ℕ) → is_root_name name ≡ true → IsUtf8 name
names_are_texts name is =
    IsUtf8-from_ascii name (IsAscii-from_all name (are_ascii name (AllPass-from_list_all is_name_byte name (second (is_first_byte (slice_get name 0)) (list_all is_name_byte name) is))))
