-- Keywords, in any case of their letters.
use Rattle.std.proofs.Common.{◌≡◌, ℕ, Bool, ◌&&◌, ◌↔◌, IsTrue, List, [], ◌∷◌, map, refl, ap, ◌∙◌}
use Rattle.std.proofs.lemmas.Slice.Eq.{bytes_eq-Decides}
use Rattle.std.proofs.lemmas.Bool.Decides.{same_from_decides}
use Rattle.std.specs.Str.{bytes_eq}
use Rattle.std.specs.Char.{to_ascii_lowercase, eq_ignore_ascii_case}
use Rattle.mt_values.specs.Tokens.{is_keyword}

-- a word is a keyword where their small letters are equal
in_small_letters : (word keyword : List ℕ) → bytes_eq (map to_ascii_lowercase word) (map to_ascii_lowercase keyword) ≡ is_keyword keyword word
in_small_letters [] [] = refl
in_small_letters [] (k ∷ ks) = refl
in_small_letters (w ∷ ws) [] = refl
in_small_letters (w ∷ ws) (k ∷ ks) = ap (λ more. eq_ignore_ascii_case w k && more) (in_small_letters ws ks)

-- what decides whether the small letters are equal tells a keyword
pub keyword_told : (told : Bool) (keyword word : List ℕ) → IsTrue told ↔ (map to_ascii_lowercase word ≡ map to_ascii_lowercase keyword) → told ≡ is_keyword keyword word
keyword_told told keyword word tells =
    let by_bytes = bytes_eq-Decides (map to_ascii_lowercase word) (map to_ascii_lowercase keyword) in
    same_from_decides told (bytes_eq (map to_ascii_lowercase word) (map to_ascii_lowercase keyword)) tells by_bytes ∙ in_small_letters word keyword
