-- A write to the first file with an id.
use Rattle.std.proofs.Common.{◌≡◌, ℕ, suc, ◌<◌, ◌++◌, ◌∷◌, true, false, List, length, take, drop, get_or, set, refl, ap, sym, ◌∙◌}
use Rattle.std.proofs.lemmas.List.{set_split, get_or_default}
use Rattle.std.proofs.Math.Seq.{drop-cons}
use Rattle.mt_base.specs.declared.name.FileId.{FileId}
use Rattle.mt_base.specs.Files.{same_file}
use Rattle.mt_outside.specs.declared.disk.Written.{Written}
use Rattle.mt_outside.specs.Files.{appended, settled_file}

-- two reads of one place give one file
same_read : (files : List Written) (place : ℕ) (v w : Written) → place < length files → v ≡ get_or files place v → w ≡ get_or files place w → v ≡ w
same_read files place v w within at_v at_w = at_v ∙ (get_or_default files place v w within ∙ sym at_w)

-- bytes that went to the end of the first file with the id
pub append_at : (files : List Written) (place : ℕ) (file : FileId) (bytes all : List ℕ) (seen w : Written) → place < length files → seen ≡ get_or files place seen → w ≡ get_or files place w
    → same_file seen.file file ≡ true → all ≡ w.bytes ++ bytes
    → take place files ++ appended file bytes (drop place files) ≡ appended file bytes files
    → set files place (record { file = w.file; bytes = all; synced = false }) ≡ appended file bytes files
append_at files place file bytes all seen w within at_seen at_w is all_is passed =
    let there : same_file w.file file ≡ true = ap (λ (v : Written). same_file v.file file) (sym (same_read files place seen w within at_seen at_w)) ∙ is in
    let now : Written = record { file = w.file; bytes = all; synced = false } in
    let here : appended file bytes (drop place files) ≡ now ∷ drop (suc place) files = rw (drop-cons files place w within, ← at_w, there, all_is) refl in
    set_split files place now within ∙ (ap (λ (rest : List Written). take place files ++ rest) (sym here) ∙ passed)

-- the first file with the id that was marked
pub settle_at : (files : List Written) (place : ℕ) (file : FileId) (seen w : Written) → place < length files → seen ≡ get_or files place seen → w ≡ get_or files place w
    → same_file seen.file file ≡ true
    → take place files ++ settled_file file (drop place files) ≡ settled_file file files
    → set files place (record { file = w.file; bytes = w.bytes; synced = true }) ≡ settled_file file files
settle_at files place file seen w within at_seen at_w is passed =
    let there : same_file w.file file ≡ true = ap (λ (v : Written). same_file v.file file) (sym (same_read files place seen w within at_seen at_w)) ∙ is in
    let now : Written = record { file = w.file; bytes = w.bytes; synced = true } in
    let here : settled_file file (drop place files) ≡ now ∷ drop (suc place) files = rw (drop-cons files place w within, ← at_w, there) refl in
    set_split files place now within ∙ (ap (λ (rest : List Written). take place files ++ rest) (sym here) ∙ passed)
