-- Bytes of a part's columns that are read ahead of the granule that is asked for (docs/formats.md, "Parts").
use Rattle.std.specs.Prelude.{◌≡◌, ◌≤◌, ◌<◌, ℕ, List, length, get_or, slice_range, Option}
use Rattle.std.specs.Option.{ForSome}
use Rattle.mt_base.specs.declared.name.FileId.TheVariants as file
use Rattle.mt_outside.specs.Files.{Files, bytes_of}
use Rattle.part_reader.specs.declared.ahead.Ahead.{Ahead}
use Rattle.part_reader.specs.declared.files.Span.{Span}

-- what stands between two places of a file is among what was read
pub record IsCovered (ahead : Ahead) (span : Span) : Type 0 where
  pub start : ahead.span.start ≤ span.start
  pub end : span.end ≤ ahead.span.end

-- bytes of a column's file were read, no more than may be: those between two places, where the folder tells
pub record IsAhead (told : Option Files) (most number : ℕ) (ahead : Ahead) : Type 0 where
  pub few : length ahead.bytes.items ≤ most
  pub read : ForSome told (λ files. ahead.bytes.items ≡ slice_range (bytes_of (file.Column number) files) ahead.span.start ahead.span.end)

-- the same of the columns at these places, each by itself
pub record AreAhead (told : Option Files) (most : ℕ) (places : List ℕ) (aheads : List Ahead) : Type 0 where
  pub even : length aheads ≡ length places
  pub each : (k : ℕ) (d : Ahead) → k < length places → IsAhead told most (get_or places k 0) (get_or aheads k d)
