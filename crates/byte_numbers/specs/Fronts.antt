-- What bytes begin with (docs/formats.md, "Column files").
use Rattle.std.specs.Prelude.{◌≡◌, ℕ, List, ◌++◌, length, drop}

-- the bytes begin with these, which are so many
pub record Begins (front : List ℕ) (size : ℕ) (bytes : List ℕ) : Type 0 where
  pub size_is : size ≡ length front
  pub parted : bytes ≡ front ++ drop size bytes
