-- The bytes of entry.bin and of manifest.bin (docs/formats.md, "Entries" and "Manifests"). They end with the digest of all bytes before,
-- which is SHA-256 wherever these are used.
use Rattle.std.specs.Prelude.{◌≡◌, ℕ, List, ◌++◌, length, flat_map, codes}
use Rattle.std.specs.Int.{w16, w32, w64, to_le_bytes}
use Rattle.mt_values.specs.declared.manifest.FileMark.{FileMark}
use Rattle.mt_values.specs.declared.manifest.Manifest.{Manifest}

-- bytes, and after them their digest
abbrev pub with_digest : (List ℕ → List ℕ) → List ℕ → List ℕ
with_digest digest bytes = bytes ++ digest bytes

-- the entry of a statement, from its first token up to its semicolon
abbrev pub entry_body : List ℕ → List ℕ
entry_body text = codes "MTS1" ++ to_le_bytes w32 (length text) ++ text

abbrev pub entry_bytes : (List ℕ → List ℕ) → List ℕ → List ℕ
entry_bytes digest text = with_digest digest (entry_body text)

-- the size and the digest of a file's bytes
abbrev pub IsMarkOf : (List ℕ → List ℕ) → FileMark → List ℕ → Type 0
IsMarkOf digest mark bytes = (mark.size ≡ length bytes) × (mark.digest ≡ digest bytes)

abbrev pub mark_bytes : FileMark → List ℕ
mark_bytes mark = to_le_bytes w64 mark.size ++ mark.digest

-- the head of a manifest: version 1, the number of rows, the number of other files
abbrev pub manifest_head : Manifest → List ℕ
manifest_head m = codes "MTP1" ++ to_le_bytes w16 1 ++ to_le_bytes w64 m.rows ++ to_le_bytes w32 (length m.files)

abbrev pub manifest_body : Manifest → List ℕ
manifest_body m = manifest_head m ++ flat_map mark_bytes m.files

abbrev pub manifest_bytes : (List ℕ → List ℕ) → Manifest → List ℕ
manifest_bytes digest m = with_digest digest (manifest_body m)
