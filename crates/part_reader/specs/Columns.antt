-- What columns get from the files of a part (docs/formats.md, "Parts").
use Rattle.std.specs.Prelude.{◌≡◌, ℕ, List, [], ◌∷◌, Option}
use Rattle.std.specs.Option.{ForSome}
use Rattle.mt_values.specs.declared.manifest.Manifest.{Manifest}
use Rattle.mt_base.specs.declared.name.FileId.TheVariants as file
use Rattle.mt_values.specs.Grid.{Cells}
use Rattle.mt_outside.specs.Files.{Files, bytes_of}
use Rattle.part_damage.specs.column_file.Spellings.{GainsAll}

-- bytes were read, those of the file of the part's column with this number where the folder tells, and a column got the values that they
-- spell, one for each row
pub record IsRead (told : Option Files) (manifest : Manifest) (number : ℕ) (old new : Cells) : Type 0 where
  pub bytes : List ℕ
  pub read : ForSome told (λ files. bytes ≡ bytes_of (file.Column number) files)
  pub gained : GainsAll manifest.rows bytes old new

-- each of these columns got something of the part's column at its place
abbrev pub AreEach : (ℕ → Cells → Cells → Type 0) → List ℕ → List Cells → List Cells → Type 0
AreEach Gained [] [] [] = Unit {0}
AreEach Gained (place ∷ places) (old ∷ olds) (new ∷ news) = Gained place old new × AreEach Gained places olds news
AreEach Gained places olds news = ⊥

-- so it is for each of these columns, from its place
abbrev pub AreRead : Option Files → Manifest → List ℕ → List Cells → List Cells → Type 0
AreRead told manifest = AreEach (IsRead told manifest)
