-- What a choice makes of a crash.
use Rattle.std.specs.Prelude.{ℕ, ◌+◌, ◌/◌, ◌==◌, ◌||◌, Bool, false, List, [], ◌∷◌, ◌++◌, length, map, replicate, nat_le, if◌then◌else◌}
use Rattle.std.specs.Int.{bit_at}
use Rattle.mt_outside.specs.declared.disk.Written.{Written}
use Rattle.mt_outside.specs.declared.disk.Stamped.{Stamped}
use Rattle.mt_outside.specs.declared.disk.Change.{Change}
use Rattle.mt_outside.specs.declared.disk.Change.TheVariants.{Publish, Remove}
use Rattle.mt_outside.specs.Files.{Files}
use Rattle.mt_outside.specs.Disk.{Told, before_clock, at_clock}

-- bit 63: files whose last append wasn't synced lose their bytes
abbrev pub loses : ℕ → Bool
loses choice = bit_at choice 63 == 1

-- whether the unsettled change with this number, from 0, has happened: by its bit, and from the 63rd on always
abbrev pub has_happened : ℕ → ℕ → Bool
has_happened choice number = nat_le 63 number || (bit_at choice number == 1)

-- those of the unsettled changes that have happened, where the first of them has this number
abbrev pub happened : ℕ → ℕ → List (Stamped Files) → List (Stamped Files)
happened choice number [] = []
happened choice number (s ∷ ss) = if has_happened choice number then s ∷ happened choice (number + 1) ss else happened choice (number + 1) ss

-- a file whose last append wasn't synced has zero bytes, as many as half its length
abbrev pub lost_file : Written → Written
lost_file w = if w.synced then w else record { file = w.file; bytes = replicate (length w.bytes / 2) 0; synced = false }

-- files after a crash
abbrev pub left_files : Bool → Files → Files
left_files lose files = if lose then map lost_file files else files

-- a change that happened, with its files after the crash
abbrev pub left_change : Bool → Change Files → Change Files
left_change lose (Publish name files) = Publish name (left_files lose files)
left_change lose (Remove name) = Remove name

abbrev pub left_stamped : Bool → Stamped Files → Stamped Files
left_stamped lose s = record { clock = s.clock; change = left_change lose s.change }

-- what an image tells: the settled changes and those of the others that have happened, with their files after the crash
abbrev pub image_told : ℕ → ℕ → Told → Told
image_told choice clock told = map (left_stamped (loses choice)) (before_clock clock told ++ happened choice 0 (at_clock clock told))
