-- Known bytes that are written piece by piece.
use Rattle.std.proofs.Common.{◌≡◌, List, ℕ, ◌++◌, Option, None, Some, append_assoc, ap, ◌∙◌, ◌+◌, ◌-◌, take, drop, length, length-drop, arith}
use Rattle.std.proofs.lemmas.List.{take_all}
use Rattle.std.proofs.Math.Seq.{take-add}
use Rattle.std.specs.Io.KnownBytes.{Appends}

appends_more : (a b c : Option (List ℕ)) (xs ys : List ℕ) → Appends a b xs → Appends b c ys → Appends a c (xs ++ ys)
appends_more None b c xs ys h k = tt
appends_more (Some s) None c xs ys h k = absurd h
appends_more (Some s) (Some t) None xs ys h k = absurd k
appends_more (Some s) (Some t) (Some u) xs ys h k = k ∙ (ap (λ zs. zs ++ ys) h ∙ append_assoc s xs ys)

-- the rest from a place on, as a slice takes it
sliced : (bytes : List ℕ) (at : ℕ) → take (length bytes - at) (drop at bytes) ≡ drop at bytes
sliced bytes at = take_all (length bytes - at) (drop at bytes) (omega (arith, length-drop at bytes))

pub appends_at : (a b c : Option (List ℕ)) (bytes : List ℕ) (at n : ℕ) → Appends a b (take at bytes) → Appends b c (take n (take (length bytes - at) (drop at bytes))) → Appends a c (take (at + n) bytes)
appends_at a b c bytes at n h k = rw take-add (appends_more a b c (take at bytes) (take n (drop at bytes)) h (rw sliced at k))
