-- A cursor that gets the rows of a block, and the input that is ranked last.
use Rattle.std.proofs.Common.{◌≡◌, ℕ, ◌<◌, List, [], ◌∷◌, ◌++◌, length, drop, take, get_or, set, sym, ◌∙◌, subst}
use Rattle.std.specs.List.{All}
use Rattle.std.proofs.lemmas.List.{get_or_default, map-set, take_at}
use Rattle.std.proofs.lemmas.List.Elements.{All-head, All-set}
use Rattle.mt_values.specs.declared.value.ColType.{ColType}
use Rattle.mt_values.specs.Values.{Row}
use Rattle.row_merge.specs.declared.heads.Cursor.{Cursor}
use Rattle.row_merge.specs.Heads.{AreComparable, AreOfTypes, ahead_of}
use Rattle.row_merge.specs.Merging.{AreOthersRanked, AreRanked, ahead_at}
use Rattle.row_merge.proofs.Cursors.{in_range}
use Rattle.row_merge.proofs.Ranking.{none_goes, others_stay}
use Rattle.row_merge.proofs.Sorted.{all_halves}

-- the last of the ranked inputs has a row
pub last_some : (places : List ℕ) (ahead : List (List Row)) (others : List ℕ) (input : ℕ) → AreRanked places ahead (others ++ input ∷ []) → 0 < length (ahead_at ahead input)
last_some places ahead others input r =
    All-head (λ x. 0 < length (ahead_at ahead x)) input [] (all_halves (λ x. 0 < length (ahead_at ahead x)) others (input ∷ []) r.some).1

module _ (places : List ℕ) (cursors : List Cursor) (ranked others : List ℕ) (input : ℕ) (popped : ranked ≡ others ++ input ∷ []) (r : AreRanked places (ahead_of cursors) ranked) where
  pub last_ranked : AreRanked places (ahead_of cursors) (others ++ input ∷ [])
  last_ranked = subst (AreRanked places (ahead_of cursors)) popped r

  pub last_ahead : 0 < length (ahead_at (ahead_of cursors) input)
  last_ahead = last_some places (ahead_of cursors) others input last_ranked

  pub last_within : input < length cursors
  last_within = in_range cursors input last_ahead

-- what a list has at a place, whatever it would have elsewhere
pub is_there : (cursors : List Cursor) (i : ℕ) (any : Cursor) → i < length cursors → get_or cursors i any ≡ get_or cursors i (get_or cursors i any)
is_there cursors i any below = get_or_default cursors i any (get_or cursors i any) below

module _ (cursors : List Cursor) (input : ℕ) (given : Cursor) (first : given.at ≡ 0) where
  pub ahead_filled : ahead_of (set cursors input given) ≡ set (ahead_of cursors) input given.block.rows
  ahead_filled =
      subst (λ n. ahead_of (set cursors input given) ≡ set (ahead_of cursors) input (drop n given.block.rows)) first (map-set (λ (x : Cursor). drop x.at x.block.rows) cursors input given)

  pub filled_comparable : (places : List ℕ) → AreComparable places cursors → All (λ place. place < length given.block.types) places → AreComparable places (set cursors input given)
  filled_comparable places all own = All-set (λ (x : Cursor). All (λ place. place < length x.block.types) places) cursors input given own all

  pub filled_others : (places ranked : List ℕ) → ahead_at (ahead_of cursors) input ≡ [] → AreRanked places (ahead_of cursors) ranked → AreOthersRanked places (ahead_of (set cursors input given)) input ranked
  filled_others places ranked none r =
      subst (λ xs. AreOthersRanked places xs input ranked) (sym ahead_filled)
      (others_stay places (ahead_of cursors) ranked input given.block.rows (none_goes places (ahead_of cursors) ranked input none r))

  pub filled_types : (types : List ColType) → AreOfTypes types cursors → given.block.types ≡ types → AreOfTypes types (set cursors input given)
  filled_types types all own = All-set (λ (x : Cursor). x.block.types ≡ types) cursors input given own all

-- ---- cursors that were lent

-- a list that was lent is there again
pub lent_again : {X : Type 0} (items shown new : List X) (len : ℕ) → shown ≡ items → length shown ≡ len → length new ≡ length shown → take len (new ++ drop (length new) items) ≡ new
lent_again items shown new len same long many = take_at new (drop (length new) items) len (many ∙ long)
