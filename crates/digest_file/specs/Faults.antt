-- Where bytes stop being the bytes of a file of its format (docs/formats.md, "Entries").
use Rattle.std.specs.Prelude.{◌≡◌, ℕ, ◌+◌, ◌<◌, List, ◌++◌, length, take, All, ◌⊎◌, ⊤}
use Rattle.byte_numbers.specs.declared.faults.FormatFault.{FormatFault}
use Rattle.byte_numbers.specs.declared.faults.FormatFault.TheVariants.{NoMemory, Malformed}

-- each number is one byte
abbrev pub AreBytes : List ℕ → Type 0
AreBytes bytes = All (λ b. b < 256) bytes

-- some spelling begins with these bytes
abbrev pub BeginsSome : (List ℕ → Type 0) → List ℕ → Type 0
BeginsSome IsSpelled front = (rest : List ℕ) × IsSpelled (front ++ rest)

-- A spelling begins with the bytes before the place. There they end, and are no spelling by themselves; or no spelling begins with one byte more.
pub record IsFirstFault (IsSpelled : List ℕ → Type 0) (bytes : List ℕ) (place : ℕ) : Type 0 where
  pub before : BeginsSome IsSpelled (take place bytes)
  pub here : ((place ≡ length bytes) × (IsSpelled bytes → ⊥)) ⊎ ((place < length bytes) × (BeginsSome IsSpelled (take (place + 1) bytes) → ⊥))

-- the error is the first fault of the bytes
abbrev pub Locates : (List ℕ → Type 0) → List ℕ → FormatFault → Type 0
Locates IsSpelled bytes NoMemory = ⊥
Locates IsSpelled bytes (Malformed place) = IsFirstFault IsSpelled bytes place

-- the error is out of memory, or the first fault of the bytes
abbrev pub Explains : (List ℕ → Type 0) → List ℕ → FormatFault → Type 0
Explains IsSpelled bytes NoMemory = ⊤
Explains IsSpelled bytes (Malformed place) = IsFirstFault IsSpelled bytes place
