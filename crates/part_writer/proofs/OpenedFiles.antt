-- The files that are read where a part is opened, while they are written one after another.
use Rattle.std.proofs.Common.{◌≡◌, ◌≢◌, ℕ, zero, suc, ◌+◌, ◌<◌, ◌≤◌, Bool, true, false, cond, List, [], ◌++◌, Some, refl, sym, ap, ◌∙◌, length, slice_get, get_or, nat_lt, arith}
use Rattle.std.specs.Option.{option_map}
use Rattle.std.proofs.lemmas.Bool.{le-ltb, lt-ltb}
use Rattle.std.proofs.lemmas.Option.{same_Some, slice_get-get_or}
use Rattle.mt_base.specs.declared.name.FileId.{FileId}
use Rattle.mt_base.specs.declared.name.FileId.TheVariants as file
use Rattle.mt_outside.specs.Files.{appended}
use Rattle.mt_values.specs.declared.schema.Schema.{Schema}
use Rattle.mt_values.specs.ColumnBytes.{column_bytes}
use Rattle.mt_values.specs.Grid.{column_of}
use Rattle.mt_values.specs.Values.{Row}
use Rattle.stage_dir.specs.Stages.{Filling, IsIntact, with_file}
use Rattle.part_writer.specs.Growing.{HasFiles, grown_bytes}
use Rattle.part_writer.specs.PartFiles.{IsContent, content_bytes, content_ids, opened_ids}
use Rattle.part_writer.proofs.ColumnFiles.{not_below}
use Rattle.part_writer.proofs.Contents.{content_all, content_known, content_place, file_place, opened_content, opened_length, skip_is}
use Rattle.part_writer.proofs.Growth.{has_same, noted_grows}

-- the first few of them are written
abbrev pub opened_below : Schema → List Row → ℕ → FileId → List ℕ
opened_below schema rows n f = cond (nat_lt (file_place schema f) n) (content_bytes schema rows f) (grown_bytes rows f)

cond_same : (b : Bool) (xs : List ℕ) → cond b xs xs ≡ xs
cond_same true xs = refl
cond_same false xs = refl

-- they have no bytes before
grown_opened : (schema : Schema) (rows : List Row) (n : ℕ) (f : FileId) → slice_get (opened_ids schema) n ≡ Some f → grown_bytes rows f ≡ []
grown_opened schema rows zero f here = ap (grown_bytes rows) (sym (same_Some file.Marks f here))
grown_opened schema rows (suc zero) f here = ap (grown_bytes rows) (sym (same_Some file.Primary f here))
grown_opened schema rows (suc (suc n)) f here = ap (grown_bytes rows) (skip_is schema n f here).0

pub opened_begun : (schema : Schema) (rows : List Row) (filling : Filling) → HasFiles schema (grown_bytes rows) filling → HasFiles schema (opened_below schema rows 0) filling
opened_begun schema rows filling has =
    has_same schema (grown_bytes rows) (opened_below schema rows 0) filling has
    (λ f there. ap (λ b. cond b (content_bytes schema rows f) (grown_bytes rows f)) (le-ltb (file_place schema f) 0 (omega arith)))

-- one more is written
pub opened_more : (schema : Schema) (rows : List Row) (n : ℕ) (f : FileId) (old new : Filling) (bytes : List ℕ) → HasFiles schema (opened_below schema rows n) old → slice_get (opened_ids schema) n ≡ Some f → new.names ≡ with_file f old.names
    → new.files ≡ option_map (appended f bytes) old.files → IsIntact new → bytes ≡ content_bytes schema rows f → HasFiles schema (opened_below schema rows (n + 1)) new
opened_more schema rows n f old new bytes has here names files intact are =
    let first : slice_get (content_ids schema) n ≡ Some f = opened_content schema n f here in
    let place : file_place schema f ≡ n = content_place schema n f first in
    let after : opened_below schema rows (n + 1) f ≡ content_bytes schema rows f =
    ap (λ b. cond b (content_bytes schema rows f) (grown_bytes rows f)) (lt-ltb (file_place schema f) (n + 1) (omega (arith, place))) in
    let before : opened_below schema rows n f ≡ [] =
    ap (λ b. cond b (content_bytes schema rows f) (grown_bytes rows f)) (le-ltb (file_place schema f) n (omega (arith, place))) ∙ grown_opened schema rows n f here in
    noted_grows schema (opened_below schema rows n) (opened_below schema rows (n + 1)) old new f bytes has (content_known schema n f first) names files intact
    (after ∙ sym are ∙ ap (λ (bs : List ℕ). bs ++ bytes) (sym before)) others
  where
    others : (g : FileId) → IsContent schema g → f ≢ g → opened_below schema rows (n + 1) g ≡ opened_below schema rows n g
    others g there other =
        let at = content_all schema g there in
        let place : file_place schema g ≡ at.0 = content_place schema at.0 g at.1 in
        let first : slice_get (content_ids schema) n ≡ Some f = opened_content schema n f here in
        ap (λ b. cond b (content_bytes schema rows g) (grown_bytes rows g))
        (not_below (file_place schema g) n (λ e. other (same_Some f g (sym first ∙ ap (slice_get (content_ids schema)) (e ∙ place) ∙ at.1))))

all_opened : (schema : Schema) (rows : List Row) (n : ℕ) → length (opened_ids schema) ≤ n → (f : FileId) → IsContent schema f → content_bytes schema rows f ≡ opened_below schema rows n f
all_opened schema rows n past (file.Column k) there = sym (cond_same (nat_lt (file_place schema (file.Column k)) n) (column_bytes (column_of k rows)))
all_opened schema rows n past (file.Skip k) there =
    ap (λ b. cond b (content_bytes schema rows (file.Skip k)) []) (sym (lt-ltb (k + 2) n (omega (arith, there, past, opened_length schema))))
all_opened schema rows n past file.Marks there = ap (λ b. cond b (content_bytes schema rows file.Marks) []) (sym (lt-ltb 0 n (omega (arith, past, opened_length schema))))
all_opened schema rows n past file.Primary there = ap (λ b. cond b (content_bytes schema rows file.Primary) []) (sym (lt-ltb 1 n (omega (arith, past, opened_length schema))))
all_opened schema rows n past f there = absurd there

pub opened_done : (schema : Schema) (rows : List Row) (n : ℕ) (filling : Filling) → length (opened_ids schema) ≤ n → HasFiles schema (opened_below schema rows n) filling → HasFiles schema (content_bytes schema rows) filling
opened_done schema rows n filling past has = has_same schema (opened_below schema rows n) (content_bytes schema rows) filling has (all_opened schema rows n past)

-- the first few of all files are those
pub content_opened : (schema : Schema) (n : ℕ) (f : FileId) → n < length (opened_ids schema) → slice_get (content_ids schema) n ≡ Some f → slice_get (opened_ids schema) n ≡ Some f
content_opened schema n f below here =
    let own = slice_get-get_or (opened_ids schema) n f below in
    own ∙ sym (opened_content schema n (get_or (opened_ids schema) n f) own) ∙ here
