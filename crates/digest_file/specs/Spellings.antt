-- Bytes that are an entry or a manifest, with SHA-256 as their digest (docs/formats.md, "Entries" and "Manifests").
use Rattle.std.specs.Prelude.{◌≡◌, ℕ, ◌^◌, ◌<◌, List, length, All, flat_map}
use Rattle.sha2.specs.Sha256.{sha256}
use Rattle.mt_values.specs.declared.manifest.FileMark.{FileMark}
use Rattle.mt_values.specs.declared.manifest.Manifest.{Manifest}
use Rattle.mt_values.specs.Manifests.{entry_bytes, manifest_bytes, mark_bytes}
use Rattle.digest_file.specs.Faults.{AreBytes}

-- the bytes are the entry of this text
pub record IsEntryOf (bytes text : List ℕ) : Type 0 where
  pub few : length text < 2 ^ 32
  pub spelled : bytes ≡ entry_bytes sha256 text

-- the bytes are the entry of some text
pub record IsEntry (bytes : List ℕ) : Type 0 where
  pub bytes_are : AreBytes bytes
  pub text : List ℕ
  pub entry : IsEntryOf bytes text

-- a size of 64 bits and a digest of 32 bytes
abbrev pub IsMark : FileMark → Type 0
IsMark mark = (mark.size < 2 ^ 64) × (length mark.digest ≡ 32)

-- the bytes are those of this manifest
pub record IsManifestOf (bytes : List ℕ) (manifest : Manifest) : Type 0 where
  pub rows : manifest.rows < 2 ^ 64
  pub few : length manifest.files < 2 ^ 32
  pub marks : All IsMark manifest.files
  pub spelled : bytes ≡ manifest_bytes sha256 manifest

-- the bytes are those of some manifest
pub record IsManifest (bytes : List ℕ) : Type 0 where
  pub bytes_are : AreBytes bytes
  pub manifest : Manifest
  pub of : IsManifestOf bytes manifest

-- the bytes are those of these marks, so many of them
pub record AreMarks (bytes : List ℕ) (count : ℕ) (files : List FileMark) : Type 0 where
  pub count_is : length files ≡ count
  pub marks : All IsMark files
  pub spelled : flat_map mark_bytes files ≡ bytes
