-- What is written where a sink fails, and what is read where a source goes on too long.
use Rattle.std.specs.Prelude.{◌≡◌, ℕ, ◌^◌, List, ◌++◌, length, Option}
use Rattle.std.specs.Io.KnownBytes.{Appends, Consumes}

-- known bytes grow by a front of these
abbrev pub AppendsFront : Option (List ℕ) → Option (List ℕ) → List ℕ → Type 0
AppendsFront old new bytes = (front rest : List ℕ) × (bytes ≡ front ++ rest) × Appends old new front

-- known bytes are less by 2 ^ 40 of them
abbrev pub ConsumesMost : Option (List ℕ) → Option (List ℕ) → Type 0
ConsumesMost old new = (bytes : List ℕ) × (length bytes ≡ 2 ^ 40) × Consumes old new bytes
