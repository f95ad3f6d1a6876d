-- One byte of blanks and comments.
use Rattle.std.proofs.Common.{◌≡◌, ℕ, zero, suc, ◌+◌, ◌<◌, Bool, true, false, List, [], ◌∷◌, length, drop, Some, None, refl, arith, add-one}
use Rattle.mt_values.specs.Tokens.{behind}
use Rattle.sql_read.specs.Blanks.{comment_behind}

goes_on_here : (blank : ℕ → Bool) (comment inside : Bool) (b : ℕ) (bs : List ℕ) → comment_behind blank comment (b ∷ bs) ≡ Some inside → behind blank inside bs ≡ behind blank comment (b ∷ bs)
goes_on_here blank true inside b bs e = grind arith
goes_on_here blank false inside b bs e = grind arith

stops_here : (blank : ℕ → Bool) (comment : Bool) (text : List ℕ) → comment_behind blank comment text ≡ None → text ≡ behind blank comment text
stops_here blank comment [] e = refl
stops_here blank true (b ∷ bs) e = cc
stops_here blank false (b ∷ bs) e = grind arith

goes_on_at : (blank : ℕ → Bool) (comment inside : Bool) (text : List ℕ) (at : ℕ) → comment_behind blank comment (drop at text) ≡ Some inside →
    (behind blank inside (drop (suc at) text) ≡ behind blank comment (drop at text)) × (at < length text)
goes_on_at blank comment inside [] zero e = cc
goes_on_at blank comment inside [] (suc at) e = cc
goes_on_at blank comment inside (b ∷ bs) zero e = (goes_on_here blank comment inside b bs e, omega arith)
goes_on_at blank comment inside (b ∷ bs) (suc at) e =
    let more : (behind blank inside (drop (suc at) bs) ≡ behind blank comment (drop at bs)) × (at < length bs) = goes_on_at blank comment inside bs at e in
    (more.0, omega arith)

-- the byte at this place is skipped
pub goes_on : (blank : ℕ → Bool) (comment inside : Bool) (text : List ℕ) (at : ℕ) → comment_behind blank comment (drop at text) ≡ Some inside →
    (behind blank inside (drop (at + 1) text) ≡ behind blank comment (drop at text)) × (at < length text)
goes_on blank comment inside text at e = rw add-one (goes_on_at blank comment inside text at e)

-- nothing more is skipped
pub stops : (blank : ℕ → Bool) (comment : Bool) (text : List ℕ) (at : ℕ) → comment_behind blank comment (drop at text) ≡ None →
    drop at text ≡ behind blank comment (drop at text)
stops blank comment text at e = stops_here blank comment (drop at text) e
