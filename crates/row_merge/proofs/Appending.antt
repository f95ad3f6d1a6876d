-- Rows that are appended one by one to the part that is written.
use Rattle.std.proofs.Common.{◌≡◌, ℕ, ◌+◌, ◌<◌, ◌≤◌, ◌^◌, List, [], ◌∷◌, ◌++◌, length, take, get_or, max, sym, ap, ◌∙◌, subst, append_assoc, arith}
use Rattle.std.specs.List.{All}
use Rattle.std.proofs.lemmas.List.{take_more}
use Rattle.std.proofs.lemmas.List.Elements.{All-get_or}
use Rattle.mt_values.specs.Values.{Row}
use Rattle.row_merge.specs.declared.held.Held.{Held}
use Rattle.row_merge.specs.Held.{IsHeldWithin, appended, gave}
use Rattle.row_merge.specs.Streams.{KeepsHeld}
use Rattle.row_merge.proofs.Totals.{appended_within, gave_within}

-- one more of a list comes after others
pub one_row_more : (done rows : List Row) (i : ℕ) (row : Row) → i < length rows → row ≡ get_or rows i row → (done ++ take i rows) ++ row ∷ [] ≡ done ++ take (i + 1) rows
one_row_more done rows i row below is =
    append_assoc done (take i rows) (row ∷ []) ∙ ap (λ zs. done ++ zs) (sym (take_more rows i row below ∙ ap (λ r. take i rows ++ r ∷ []) (sym is)))

-- what holds of all rows holds of one
pub holds_at : (P : Row → Type 0) (rows : List Row) (i : ℕ) (row : Row) → i < length rows → row ≡ get_or rows i row → All P rows → P row
holds_at P rows i row below is all = subst P (sym is) (All-get_or P rows i row below all)

-- ---- what is counted

pub gave_keeps : (n : ℕ) (old new : Held) → n < 2 ^ 64 → old.made ≡ 0 → new ≡ gave n old → KeepsHeld old new
gave_keeps n old new few none is = record {
  read = ap (λ (h : Held). h.read) is;
  most = omega (arith, ap (λ (h : Held). h.most_read) is);
  given = subst (λ (h : Held). old.most_given ≤ h.most_given) (sym is) least;
  within = λ inputs size w. subst (IsHeldWithin inputs size) (sym is) (gave_within inputs size n old few none w);
}
  where
    least : old.most_given ≤ max old.most_given n
    least = omega arith

-- what the rule gave at once is counted
pub gave_given : (n : ℕ) (old new : Held) → new ≡ gave n old → n ≤ new.most_given
gave_given n old new is = subst (λ (h : Held). n ≤ h.most_given) (sym is) least
  where
    least : n ≤ max old.most_given n
    least = omega arith

pub appended_given : (n given : ℕ) (old new : Held) → given ≤ old.most_given → new ≡ appended n old → given ≤ new.most_given
appended_given n given old new few is = subst (λ (h : Held). given ≤ h.most_given) (sym is) few

pub gave_made : (n : ℕ) (old new : Held) → old.made ≡ 0 → new ≡ gave n old → new.made ≤ n
gave_made n old new none is = omega (arith, none, ap (λ (h : Held). h.made) is)

pub appended_keeps : (n : ℕ) (first old new : Held) → KeepsHeld first old → new ≡ appended n old → KeepsHeld first new
appended_keeps n first old new k is = record {
  read = ap (λ (h : Held). h.read) is ∙ k.read;
  most = subst (λ (h : Held). first.most_read ≤ h.most_read) (sym is) k.most;
  given = subst (λ (h : Held). first.most_given ≤ h.most_given) (sym is) k.given;
  within = λ inputs size w. subst (IsHeldWithin inputs size) (sym is) (appended_within inputs size n old (k.within inputs size w));
}

pub appended_made : (n left : ℕ) (old new : Held) → old.made ≤ left + n → new ≡ appended n old → new.made ≤ left
appended_made n left old new few is = omega (arith, few, ap (λ (h : Held). h.made) is)
