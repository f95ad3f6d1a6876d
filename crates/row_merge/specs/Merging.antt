-- A merge that is on its way: rows are taken one by one from inputs of which the first rows are in memory, and what is left of a key goes out once its last row
-- was taken (docs/engines.md, "Merges").
use Rattle.std.specs.Prelude.{◌≡◌, ◌≢◌, ◌⊎◌, ℕ, ◌<◌, false, List, [], ◌∷◌, ◌++◌, length, take, All, IsSorted}
use Rattle.std.specs.List.{AllZip, Contains, slice_index_or}
use Rattle.std.specs.Ordering.{is_lt, nat_cmp, ordering_then}
use Rattle.std.specs.declared.cmp.Ordering.{Ordering}
use Rattle.std.specs.declared.cmp.Ordering.TheVariants.{Less}
use Rattle.mt_values.specs.declared.value.Value.{Value}
use Rattle.mt_values.specs.Order.{key_cmp, key_of}
use Rattle.mt_values.specs.Values.{Row}
use Rattle.row_merge.specs.Merged.{IsFoldOf, rows_of_all}

-- ---- rows out, rows of the key that is current, and rows left

-- none of the later rows comes before one of the earlier ones
abbrev pub NoneBefore : List ℕ → List Row → List Row → Type 0
NoneBefore places earlier later = All (λ a. All (λ b. is_lt (key_cmp places b a) ≡ false) later) earlier

-- Of the rows of inputs some were taken: what folds leave of them is out, but for the rows of one key, which is current; the others are left. Whatever folds leave
-- of the current rows and those that are left, after what is out it is what they leave of all.
pub record Merging (places : List ℕ) (run : List Row → List Row → Type 0) (inputs : List (List Row)) (out current : List Row) (left : List (List Row)) : Type 0 where
  pub sorted : All (IsSorted (key_cmp places)) left
  pub key : List Value
  pub one_key : All (λ row. key_of places row ≡ key) current
  pub first : NoneBefore places current (rows_of_all left)
  pub folds : (rest : List Row) → IsFoldOf places run (current ++ rows_of_all left) rest → IsFoldOf places run (rows_of_all inputs) (out ++ rest)

-- a row is taken from one of the inputs: it comes before all rows of the earlier ones, and none of the others comes before it
pub record IsTaken (places : List ℕ) (left : List (List Row)) (row : Row) (new : List (List Row)) : Type 0 where
  pub front : List (List Row)
  pub rows : List Row
  pub back : List (List Row)
  pub left_is : left ≡ front ++ (row ∷ rows) ∷ back
  pub new_is : new ≡ front ++ rows ∷ back
  pub before : All (λ other. key_cmp places row other ≡ Less) (rows_of_all front)
  pub after : All (λ other. is_lt (key_cmp places other row) ≡ false) (rows ++ rows_of_all back)

-- a row comes before all rows of the earlier inputs, and none of the later inputs has one before it
pub record Leads (places : List ℕ) (front back : List (List Row)) (row : Row) : Type 0 where
  pub before : All (λ x. key_cmp places row x ≡ Less) (rows_of_all front)
  pub after : All (λ x. is_lt (key_cmp places x row) ≡ false) (rows_of_all back)

-- the first rows of one of the inputs are taken, each of which comes before those of the others in this way
pub record AreTaken (places : List ℕ) (left : List (List Row)) (some : List Row) (new : List (List Row)) : Type 0 where
  pub front : List (List Row)
  pub rows : List Row
  pub back : List (List Row)
  pub left_is : left ≡ front ++ (some ++ rows) ∷ back
  pub new_is : new ≡ front ++ rows ∷ back
  pub lead : All (Leads places front back) some

-- ---- rows in memory

-- the rows of each input: those in memory, and then the rest
abbrev pub joined : List (List Row) → List (List Row) → List (List Row)
joined [] rests = []
joined (rows ∷ ahead) [] = []
joined (rows ∷ ahead) (rest ∷ rests) = (rows ++ rest) ∷ joined ahead rests

-- an input without a row in memory has none left
abbrev pub AreReady : List (List Row) → List (List Row) → Type 0
AreReady ahead rests = AllZip (λ rows rest. rows ≡ [] → rest ≡ []) ahead rests

-- The first row in memory of an input is taken: it comes before that of each earlier input, and those of the others do not come before it.
pub record TakesFirst (places : List ℕ) (ahead : List (List Row)) (input : ℕ) (row : Row) (new : List (List Row)) : Type 0 where
  pub front : List (List Row)
  pub rows : List Row
  pub back : List (List Row)
  pub input_is : input ≡ length front
  pub ahead_is : ahead ≡ front ++ (row ∷ rows) ∷ back
  pub new_is : new ≡ front ++ rows ∷ back
  pub before : All (λ others. All (λ other. key_cmp places row other ≡ Less) (take 1 others)) front
  pub after : All (λ others. All (λ other. is_lt (key_cmp places other row) ≡ false) (take 1 others)) back

-- a row comes before the first row in memory of each earlier input, and those of the later ones do not come before it
pub record LeadsFirst (places : List ℕ) (front back : List (List Row)) (row : Row) : Type 0 where
  pub before : All (λ others. All (λ other. key_cmp places row other ≡ Less) (take 1 others)) front
  pub after : All (λ others. All (λ other. is_lt (key_cmp places other row) ≡ false) (take 1 others)) back

-- the first rows in memory of an input are taken, each of which comes before the first ones of the others in this way
pub record TakesRows (places : List ℕ) (ahead : List (List Row)) (input : ℕ) (some : List Row) (new : List (List Row)) : Type 0 where
  pub front : List (List Row)
  pub rows : List Row
  pub back : List (List Row)
  pub input_is : input ≡ length front
  pub ahead_is : ahead ≡ front ++ (some ++ rows) ∷ back
  pub new_is : new ≡ front ++ rows ∷ back
  pub lead : All (LeadsFirst places front back) some

-- ---- the choice of the next row

-- the rows in memory of an input, and the first of them
abbrev pub ahead_at : List (List Row) → ℕ → List Row
ahead_at ahead input = slice_index_or ahead input []

abbrev pub lead_at : List (List Row) → ℕ → Row
lead_at ahead input = slice_index_or (ahead_at ahead input) 0 []

-- the order of two inputs by their first rows, and by their numbers where these are alike
abbrev pub lead_cmp : List ℕ → List (List Row) → ℕ → ℕ → Ordering
lead_cmp places ahead a b = ordering_then (key_cmp places (lead_at ahead a) (lead_at ahead b)) (nat_cmp a b)

-- a row that an input may have first comes before the first rows of others
abbrev pub RowLeads : List ℕ → List (List Row) → ℕ → List ℕ → Row → Type 0
RowLeads places ahead input others row = All (λ x. ordering_then (key_cmp places row (lead_at ahead x)) (nat_cmp input x) ≡ Less) others

-- each number comes before those earlier in the list
abbrev pub Falls : (ℕ → ℕ → Ordering) → List ℕ → Type 0
Falls cmp [] = Unit {0}
Falls cmp (n ∷ ns) = All (λ m. cmp m n ≡ Less) ns × Falls cmp ns

-- the inputs that have a row in memory, in the order by their first rows, the last of them first
pub record AreRanked (places : List ℕ) (ahead : List (List Row)) (ranks : List ℕ) : Type 0 where
  pub some : All (λ input. 0 < length (ahead_at ahead input)) ranks
  pub all : (input : ℕ) → 0 < length (ahead_at ahead input) → Contains ranks input
  pub falls : Falls (lead_cmp places ahead) ranks

-- the inputs that have rows, but for one, are ranked
pub record AreOthersRanked (places : List ℕ) (ahead : List (List Row)) (input : ℕ) (ranked : List ℕ) : Type 0 where
  pub some : All (λ x. 0 < length (ahead_at ahead x)) ranked
  pub all : (x : ℕ) → 0 < length (ahead_at ahead x) → Contains ranked x ⊎ (input ≡ x)
  pub falls : Falls (lead_cmp places ahead) ranked
  pub differ : All (λ x. x ≢ input) ranked
