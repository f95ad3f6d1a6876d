-- The counts of parts, one part after another.
use Rattle.std.proofs.Common.{◌≡◌, ℕ, ◌+◌, Bool, cond, List, [], ◌∷◌, ◌++◌, length, ap, sym, ◌∙◌}
use Rattle.std.specs.List.{count_by, list_any, sum_by}
use Rattle.std.proofs.lemmas.List.{length_push}
use Rattle.std.proofs.lemmas.List.Sums.{sum_by_push}
use Rattle.mt_model.specs.declared.counts.Counts.{Counts}
use Rattle.select_plan.specs.Plans.{counts_over}

abbrev pub counts_of_each : ℕ → ℕ → ℕ → ℕ → Counts
counts_of_each chosen_parts parts chosen_granules granules =
    record { chosen_parts = chosen_parts; parts = parts; chosen_granules = chosen_granules; granules = granules }

pub same : (a b c d e f g h : ℕ) → a ≡ b → c ≡ d → e ≡ f → g ≡ h → counts_of_each a c e g ≡ counts_of_each b d f h
same a b c d e f g h p q r s = ap (λ x. counts_of_each x c e g) p ∙ (ap (λ x. counts_of_each b x e g) q ∙ (ap (λ x. counts_of_each b d x g) r ∙ ap (λ x. counts_of_each b d f x) s))

-- one part more
pub counts_push : (parts : List (List Bool)) (part : List Bool) (n : Counts) (any read size : ℕ) → n ≡ counts_over parts
    → any ≡ cond (list_any (λ c. c) part) 1 0 → read ≡ count_by (λ c. c) part → size ≡ length part
    → counts_of_each (n.chosen_parts + any) (n.parts + 1) (n.chosen_granules + read) (n.granules + size) ≡ counts_over (parts ++ part ∷ [])
counts_push parts part n any read size is is_any is_read is_size =
    let all = parts ++ part ∷ [] in
    same (n.chosen_parts + any) (count_by (list_any (λ c. c)) all) (n.parts + 1) (length all)
    (n.chosen_granules + read) (sum_by (count_by (λ c. c)) all) (n.granules + size) (sum_by length all)
    (ap (λ (m : Counts). m.chosen_parts + any) is ∙ (ap (λ k. count_by (list_any (λ c. c)) parts + k) is_any ∙ sym (sum_by_push (λ (b : List Bool). cond (list_any (λ c. c) b) 1 0) parts part)))
    (ap (λ (m : Counts). m.parts + 1) is ∙ sym (length_push parts part))
    (ap (λ (m : Counts). m.chosen_granules + read) is ∙ (ap (λ k. sum_by (count_by (λ c. c)) parts + k) is_read ∙ sym (sum_by_push (count_by (λ c. c)) parts part)))
    (ap (λ (m : Counts). m.granules + size) is ∙ (ap (λ k. sum_by length parts + k) is_size ∙ sym (sum_by_push length parts part)))
