-- Bytes that are marks.bin, and where others go wrong (docs/formats.md, "Marks").
use Rattle.std.specs.Prelude.{◌≡◌, ◌≢◌, ℕ, ◌+◌, ◌*◌, ◌^◌, ◌<◌, ◌≤◌, List, [], ◌∷◌, ◌++◌, length, All, ◌⊎◌, ⊤}
use Rattle.std.specs.Int.{w64, to_le_bytes}
use Rattle.column_file.specs.byte_numbers.declared.faults.FormatFault.{FormatFault}
use Rattle.column_file.specs.byte_numbers.declared.faults.FormatFault.TheVariants.{NoMemory, Malformed}
use Rattle.column_file.specs.byte_numbers.Fronts.{Begins}
use Rattle.column_file.specs.Marks.{numbers_bytes, places_bytes}

-- each number is above the one before it, the first above this one
abbrev pub RiseAbove : ℕ → List ℕ → Type 0
RiseAbove low [] = ⊤
RiseAbove low (n ∷ ns) = (low < n) × RiseAbove n ns

-- where granules begin, each with some bytes: the first at 0, and each other one after the one before it
abbrev pub AreStarts : List ℕ → Type 0
AreStarts [] = ⊤
AreStarts (n ∷ ns) = (n ≡ 0) × RiseAbove n ns

-- where this many granules of a column begin, and the end of the last
pub record AreStartsOf (granules : ℕ) (numbers : List ℕ) : Type 0 where
  pub count_is : length numbers ≡ granules + 1
  pub rise : AreStarts numbers
  pub fit : All (λ n. n < 2 ^ 64) numbers

-- the bytes are those of these numbers, a list for each of this many columns
pub record AreMarksOf (columns granules : ℕ) (bytes : List ℕ) (places : List (List ℕ)) : Type 0 where
  pub count_is : length places ≡ columns
  pub each : All (AreStartsOf granules) places
  pub spelled : bytes ≡ places_bytes places

-- ---- the numbers of one column

-- the bytes begin with the numbers of a column
pub record BeginStarts (granules : ℕ) (bytes numbers : List ℕ) : Type 0 where
  pub starts : AreStartsOf granules numbers
  pub begins : Begins (numbers_bytes numbers) (8 * length numbers) bytes

-- the bytes begin with a number that may come after these of its column
pub record IsNextStart (before : List ℕ) (number : ℕ) (bytes : List ℕ) : Type 0 where
  pub fits : number < 2 ^ 64
  pub rise : AreStarts (before ++ number ∷ [])
  pub begins : Begins (to_le_bytes w64 number) 8 bytes

-- the bytes begin with no such number
abbrev pub NoStartFollows : List ℕ → List ℕ → Type 0
NoStartFollows before bytes = (n : ℕ) (left : List ℕ) → n < 2 ^ 64 → AreStarts (before ++ n ∷ []) → bytes ≡ to_le_bytes w64 n ++ left → ⊥

-- the bytes, which begin at a place of others, go on with a few numbers of a column, and at this place with no further one
pub record AreStuckAt (granules at : ℕ) (bytes : List ℕ) (place : ℕ) : Type 0 where
  pub begun : List ℕ
  pub rest : List ℕ
  pub few : length begun ≤ granules
  pub rise : AreStarts begun
  pub fit : All (λ n. n < 2 ^ 64) begun
  pub parted : bytes ≡ numbers_bytes begun ++ rest
  pub place_is : place ≡ at + length (numbers_bytes begun)
  pub stuck : NoStartFollows begun rest

-- the error is out of memory, or the place at which the numbers of a column go wrong
abbrev pub ExplainsStarts : ℕ → ℕ → List ℕ → FormatFault → Type 0
ExplainsStarts granules at bytes NoMemory = ⊤
ExplainsStarts granules at bytes (Malformed place) = AreStuckAt granules at bytes place

-- ---- the numbers of all columns

-- the bytes after the numbers of some columns go wrong at the place: in the next column, or after the last
abbrev pub GoOnWrong : ℕ → ℕ → List (List ℕ) → List ℕ → ℕ → Type 0
GoOnWrong columns granules whole rest place =
    ((length whole < columns) × AreStuckAt granules (length (places_bytes whole)) rest place) ⊎ ((length whole ≡ columns) × (place ≡ length (places_bytes whole)) × (rest ≢ []))

-- the bytes begin with the numbers of some columns, and then go wrong at the place
pub record IsMarksFault (columns granules : ℕ) (bytes : List ℕ) (place : ℕ) : Type 0 where
  pub whole : List (List ℕ)
  pub rest : List ℕ
  pub each : All (AreStartsOf granules) whole
  pub parted : bytes ≡ places_bytes whole ++ rest
  pub wrong : GoOnWrong columns granules whole rest place

-- the error is out of memory, or the first fault of the bytes
abbrev pub ExplainsMarks : ℕ → ℕ → List ℕ → FormatFault → Type 0
ExplainsMarks columns granules bytes NoMemory = ⊤
ExplainsMarks columns granules bytes (Malformed place) = IsMarksFault columns granules bytes place
