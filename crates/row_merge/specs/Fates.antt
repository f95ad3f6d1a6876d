-- What becomes of a row before the rule gets it (docs/engines.md, "Merges").
use Rattle.std.specs.Prelude.{◌≡◌, ℕ, Bool, false, true, List, [], ◌∷◌, All, ⊤}
use Rattle.std.specs.Ordering.{is_ne}
use Rattle.mt_values.specs.Order.{key_cmp}
use Rattle.mt_values.specs.Values.{FitsType, Row}
use Rattle.row_merge.specs.declared.fates.Fate.{Fate}
use Rattle.row_merge.specs.declared.fates.Fate.TheVariants as fate

-- the rule has no row of a key that has not ended, the next row has another key, and the rule leaves such a row as it is
pub record IsAlone (places : List ℕ) (takes : Row → Type 0) (run : List Row → List Row → Type 0) (is_first : Bool) (row next : Row) : Type 0 where
  pub first : is_first ≡ true
  pub other : is_ne (key_cmp places row next) ≡ true
  pub stays : All FitsType row → takes row → run (row ∷ []) (row ∷ [])

-- the rule has no row of a key that has not ended, the next row has its key, and whatever comes then, nothing is left of it
pub record GivesWay (places : List ℕ) (run : List Row → List Row → Type 0) (is_first : Bool) (row next : Row) : Type 0 where
  pub first : is_first ≡ true
  pub same : is_ne (key_cmp places row next) ≡ false
  pub leaves : (rows kept : List Row) → run (next ∷ rows) kept → run (row ∷ next ∷ rows) kept

abbrev pub IsFate : List ℕ → (Row → Type 0) → (List Row → List Row → Type 0) → Bool → Row → Row → Fate → Type 0
IsFate places takes run is_first row next fate.Copied = IsAlone places takes run is_first row next
IsFate places takes run is_first row next fate.LeftOut = GivesWay places run is_first row next
IsFate places takes run is_first row next fate.Handed = ⊤
