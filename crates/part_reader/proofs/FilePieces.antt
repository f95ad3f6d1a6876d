-- The bytes of a file that is read piece by piece.
use Rattle.std.proofs.Common.{◌≡◌, ℕ, ◌+◌, ◌-◌, ◌<◌, ◌≤◌, min, List, ◌++◌, Option, Some, IfSome, sym, ap, ap₂, ◌∙◌, subst, length, take, drop, arith, length-take}
use Rattle.std.proofs.lemmas.List.{drop-drop, take-append-le, take_all}
use Rattle.std.proofs.Math.Seq.{take-add}
use Rattle.mt_base.specs.declared.name.FileId.{FileId}
use Rattle.mt_outside.specs.Files.{Files, bytes_of, ReadsAt}

-- one piece more
pub piece_more : (told : Option Files) (files : Files) (file : FileId) (at place count next : ℕ) (front buf new : List ℕ) → told ≡ Some files → IfSome told (λ fs. ReadsAt (bytes_of file fs) place count buf) → count ≤ length buf → place ≡ at → next ≡ at + length (take count buf) → take at (bytes_of file files) ≡ front → new ≡ front ++ take count buf → take next (bytes_of file files) ≡ new
piece_more told files file at place count next front buf new known reads bound here more so_far e =
    let bytes = bytes_of file files in
    let read : ReadsAt bytes place count buf = subst (λ o. IfSome o (λ fs. ReadsAt (bytes_of file fs) place count buf)) known reads in
    let n : next ≡ at + count = omega (arith, length-take count buf) in
    let piece : take count (drop at bytes) ≡ take count buf = ap (λ p. take count (drop p bytes)) (sym here) ∙ sym read.bytes_are in
    ap (λ m. take m bytes) n ∙ take-add at count bytes ∙ ap₂ ◌++◌ so_far piece ∙ sym e

-- where nothing is left, all was read
pub piece_last : (told : Option Files) (files : Files) (file : FileId) (at place count : ℕ) (front buf : List ℕ) → told ≡ Some files → IfSome told (λ fs. ReadsAt (bytes_of file fs) place count buf) → count ≡ 0 → 0 < length buf → place ≡ at → take at (bytes_of file files) ≡ front → front ≡ bytes_of file files
piece_last told files file at place count front buf known reads none some here so_far =
    let bytes = bytes_of file files in
    let read : ReadsAt bytes place count buf = subst (λ o. IfSome o (λ fs. ReadsAt (bytes_of file fs) place count buf)) known reads in
    let past : length bytes ≤ at = omega (arith, read.count_is) in
    sym so_far ∙ take_all at bytes past

-- ---- between two places

-- one piece more, of a buffer that is longer
pub span_more : (told : Option Files) (files : Files) (file : FileId) (start at place count next : ℕ) (front buf rest new : List ℕ) → told ≡ Some files → IfSome told (λ fs. ReadsAt (bytes_of file fs) place count buf) → count ≤ length buf → place ≡ start + at → next ≡ at + length (take count (buf ++ rest))
    → take at (drop start (bytes_of file files)) ≡ front → new ≡ front ++ take count (buf ++ rest) → take next (drop start (bytes_of file files)) ≡ new
span_more told files file start at place count next front buf rest new known reads bound here more so_far e =
    let bytes = bytes_of file files in
    let read : ReadsAt bytes place count buf = subst (λ o. IfSome o (λ fs. ReadsAt (bytes_of file fs) place count buf)) known reads in
    let own : take count (buf ++ rest) ≡ take count buf = take-append-le count buf rest bound in
    let n : next ≡ at + count = omega (arith, more, ap length own, length-take count buf) in
    let piece : take count (drop at (drop start bytes)) ≡ take count buf = ap (take count) (drop-drop at start bytes) ∙ ap (λ p. take count (drop p bytes)) (sym here) ∙ sym read.bytes_are in
    ap (λ m. take m (drop start bytes)) n ∙ take-add at count (drop start bytes) ∙ ap₂ ◌++◌ so_far (piece ∙ sym own) ∙ sym e

-- no more is read than stands between them
pub span_within : (at before size room most count next : ℕ) (buf rest : List ℕ) → next ≡ at + length (take count (buf ++ rest)) → count ≤ length buf → length buf ≤ most → most ≡ min (size - before) room → before ≡ at → at ≤ size → next ≤ size
span_within at before size room most count next buf rest more bound long is same within =
    let own : length (take count (buf ++ rest)) ≡ min count (length buf) = ap length (take-append-le count buf rest bound) ∙ length-take count buf in
    omega (arith, more, own, bound, long, is, same, within)
