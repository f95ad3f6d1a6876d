-- A text parted at the semicolon that ends its statement, found byte by byte.
use Rattle.std.proofs.Common.{◌≡◌, ℕ, ◌+◌, ◌<◌, ◌≤◌, true, false, List, length, get_or, take, drop, Some, None, refl, add-one, append-nil}
use Rattle.std.proofs.Math.Seq.{drop-cons}
use Rattle.std.proofs.lemmas.List.{take_more, drop_all}
use Rattle.mt_values.specs.declared.script.Place.{Place}
use Rattle.mt_values.specs.Script.{place_behind, ends_at, ended_from}
use Rattle.mt_values.proofs.Fronts.{parted, parted_more}

module _ (text : List ℕ) (i : ℕ) (d : ℕ) where
  -- the byte at this place ends no statement
  pub ended_more : (place : Place) → i < length text → ends_at place (get_or text i d) ≡ false →
      parted (take (i + 1) text) (ended_from (place_behind place (get_or text i d) (drop (i + 1) text)) (drop (i + 1) text)) ≡ parted (take i text) (ended_from place (drop i text))
  ended_more place lt no_end = rw (take_more text i d lt, ← parted_more, add-one, drop-cons text i d lt, no_end) refl

  -- the byte at this place ends the statement
  pub ended_here : (place : Place) → i < length text → ends_at place (get_or text i d) ≡ true →
      parted (take i text) (ended_from place (drop i text)) ≡ Some (take i text, drop (i + 1) text)
  ended_here place lt end = rw (add-one, drop-cons text i d lt, end, append-nil) refl

  -- nothing ended the statement
  pub ended_none : (place : Place) → length text ≤ i → parted (take i text) (ended_from place (drop i text)) ≡ None
  ended_none place le = rw (drop_all i text le) refl
