-- What is left of a text after a part of it is shorter than the text.
use Rattle.std.proofs.Common.{ℕ, ◌<◌, ◌≤◌, Bool, true, false, not, cond, ◌&&◌, ◌==◌, List, [], ◌∷◌, length, arith, Option, Some, None}
use Rattle.std.specs.Option.{option_map}
use Rattle.mt_values.specs.declared.script.Place.{Place}
use Rattle.mt_values.specs.Tokens.{behind, begins_with}
use Rattle.mt_values.specs.Script.{onto, place_behind, ends_at, ended_from, takes_next, line_from}

-- what follows a part that was found is shorter than this
abbrev pub ShorterThan : {A : Type 0} → ℕ → Option (A × List ℕ) → Type 0
ShorterThan n None = Unit {0}
ShorterThan n (Some found) = length found.1 < n

-- one byte in front
onto_shorter : (c : Bool) (b : ℕ) (bs : List ℕ) (r : Option (List ℕ × List ℕ)) → ShorterThan (length bs) r → ShorterThan (length (b ∷ bs)) (cond c (Some ([], bs)) (option_map (onto b) r))
onto_shorter true b bs r less = omega arith
onto_shorter false b bs None less = tt
onto_shorter false b bs (Some found) less = omega arith

pub line_shorter : (taken : Bool) (text : List ℕ) → ShorterThan (length text) (line_from taken text)
line_shorter taken [] = tt
line_shorter taken (b ∷ bs) = onto_shorter (not taken && b == 10) b bs (line_from (takes_next taken b) bs) (line_shorter (takes_next taken b) bs)

pub ended_shorter : (place : Place) (text : List ℕ) → ShorterThan (length text) (ended_from place text)
ended_shorter place [] = tt
ended_shorter place (b ∷ bs) = onto_shorter (ends_at place b) b bs (ended_from (place_behind place b bs) bs) (ended_shorter (place_behind place b bs) bs)

behind_cases : (c d : Bool) (n : ℕ) (x y z : List ℕ) → length x ≤ n → length y ≤ n → length z ≤ n → length (cond c x (cond d y z)) ≤ n
behind_cases true d n x y z p q r = p
behind_cases false true n x y z p q r = q
behind_cases false false n x y z p q r = r

pub behind_short : (blank : ℕ → Bool) (comment : Bool) (text : List ℕ) → length (behind blank comment text) ≤ length text
behind_short blank comment [] = omega arith
behind_short blank true (b ∷ bs) = omega (arith, behind_short blank (not (b == 10)) bs)
behind_short blank false (b ∷ bs) =
    behind_cases (blank b) (b == 45 && begins_with 45 bs) (length (b ∷ bs)) (behind blank false bs) (behind blank true bs) (b ∷ bs)
    (omega (arith, behind_short blank false bs)) (omega (arith, behind_short blank true bs)) (omega arith)
