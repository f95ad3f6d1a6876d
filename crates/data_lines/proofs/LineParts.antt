-- A line of data parted at its line feed, found byte by byte.
use Rattle.std.proofs.Common.{◌≡◌, ℕ, ◌+◌, ◌<◌, ◌≤◌, Bool, true, false, not, ◌&&◌, ◌==◌, List, length, get_or, take, drop, Some, None, refl, add-one, append-nil}
use Rattle.std.proofs.Math.Seq.{drop-cons}
use Rattle.std.proofs.lemmas.List.{take_more, drop_all}
use Rattle.mt_values.specs.Script.{takes_next, line_from}
use Rattle.mt_values.proofs.Fronts.{parted, parted_more}

module _ (text : List ℕ) (i : ℕ) (d : ℕ) where
  -- the byte at this place ends no line
  pub line_more : (taken : Bool) → i < length text → (not taken && get_or text i d == 10) ≡ false →
      parted (take (i + 1) text) (line_from (takes_next taken (get_or text i d)) (drop (i + 1) text)) ≡ parted (take i text) (line_from taken (drop i text))
  line_more taken lt no_end = rw (take_more text i d lt, ← parted_more, add-one, drop-cons text i d lt, no_end) refl

  -- the byte at this place ends the line
  pub line_here : (taken : Bool) → i < length text → (not taken && get_or text i d == 10) ≡ true →
      parted (take i text) (line_from taken (drop i text)) ≡ Some (take i text, drop (i + 1) text)
  line_here taken lt end = rw (add-one, drop-cons text i d lt, end, append-nil) refl

  -- nothing ended the line
  pub line_none : (taken : Bool) → length text ≤ i → parted (take i text) (line_from taken (drop i text)) ≡ None
  line_none taken le = rw (drop_all i text le) refl
