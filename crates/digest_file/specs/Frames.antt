-- What an entry and a manifest have in common: first bytes of their own, some bytes, a number of items, the items, and the digest of all
-- that (docs/formats.md, "Entries" and "Manifests").
use Rattle.std.specs.Prelude.{◌≡◌, ℕ, ◌+◌, ◌*◌, ◌^◌, ◌<◌, ◌≤◌, List, ◌++◌, length, take, drop, slice_get}
use Rattle.std.specs.Int.{w32, to_le_bytes}
use Rattle.sha2.specs.Sha256.{sha256}
use Rattle.mt_values.specs.Manifests.{with_digest}
use Rattle.byte_numbers.specs.declared.faults.FormatFault.{FormatFault}
use Rattle.byte_numbers.specs.declared.faults.FormatFault.TheVariants.{NoMemory, Malformed}
use Rattle.digest_file.specs.Faults.{AreBytes}

-- the bytes before the digest
abbrev pub framed : List ℕ → List ℕ → ℕ → List ℕ → List ℕ
framed first middle count items = first ++ middle ++ to_le_bytes w32 count ++ items

-- pieces of a file whose items have `unit` bytes each, with `gap` bytes before their number
pub record Fit (gap unit : ℕ) (middle : List ℕ) (count : ℕ) (items : List ℕ) : Type 0 where
  pub middle_fits : length middle ≡ gap
  pub count_fits : count < 2 ^ 32
  pub items_fit : length items ≡ unit * count

-- the bytes are these pieces and their digest
pub record IsFrameOf (first : List ℕ) (gap unit : ℕ) (bytes middle : List ℕ) (count : ℕ) (items : List ℕ) : Type 0 where
  pub fit : Fit gap unit middle count items
  pub spelled : bytes ≡ with_digest sha256 (framed first middle count items)

-- the bytes are some pieces and their digest
pub record IsFrame (first : List ℕ) (gap unit : ℕ) (bytes : List ℕ) : Type 0 where
  pub bytes_are : AreBytes bytes
  pub middle : List ℕ
  pub count : ℕ
  pub items : List ℕ
  pub frame : IsFrameOf first gap unit bytes middle count items

-- the bytes begin with the first ones, and the number of items after the next `gap` bytes is this
pub record Opens (first : List ℕ) (gap : ℕ) (bytes : List ℕ) (count : ℕ) : Type 0 where
  pub within : length first + gap + 4 ≤ length bytes
  pub count_fits : count < 2 ^ 32
  pub parted : bytes ≡ framed first (take gap (drop (length first) bytes)) count (drop (length first + gap + 4) bytes)

-- up to the place the bytes are as the others, and there they end or go on otherwise
pub record PartAt (bytes wanted : List ℕ) (place : ℕ) : Type 0 where
  pub alike : take place bytes ≡ take place wanted
  pub apart : slice_get bytes place ≡ slice_get wanted place → ⊥

-- the error is at the first byte from the end of the pieces on that is not their digest's, or at the first after the digest
abbrev pub MissesDigest : List ℕ → ℕ → FormatFault → Type 0
MissesDigest bytes end NoMemory = ⊥
MissesDigest bytes end (Malformed place) = (k : ℕ) × (place ≡ end + k) × (k ≤ 32) × PartAt (drop end bytes) (sha256 (take end bytes)) k
