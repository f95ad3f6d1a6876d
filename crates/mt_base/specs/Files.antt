-- Which file of a folder is which, and what it is called (docs/formats.md, "Files").
use Rattle.std.specs.Prelude.{List, ℕ, ◌++◌, Bool, true, false, nat_eq, codes, decimal}
use Rattle.mt_base.specs.declared.name.FileId.{FileId}
use Rattle.mt_base.specs.declared.name.FileId.TheVariants as file

-- both are one file
abbrev pub same_file : FileId → FileId → Bool
same_file file.Entry file.Entry = true
same_file file.Manifest file.Manifest = true
same_file file.Marks file.Marks = true
same_file file.Primary file.Primary = true
same_file (file.Skip m) (file.Skip n) = nat_eq m n
same_file (file.Column m) (file.Column n) = nat_eq m n
same_file f g = false

-- the name of a file in its folder
abbrev pub file_name : FileId → List ℕ
file_name file.Entry = codes "entry.bin"
file_name file.Manifest = codes "manifest.bin"
file_name file.Marks = codes "marks.bin"
file_name file.Primary = codes "primary.bin"
file_name (file.Skip number) = codes "s" ++ decimal number ++ codes ".bin"
file_name (file.Column number) = codes "c" ++ decimal number ++ codes ".bin"
