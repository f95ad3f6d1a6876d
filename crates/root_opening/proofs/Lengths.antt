-- The number of commands of tables, counted one table after the other.
use Rattle.std.proofs.Common.{◌≡◌, ℕ, ◌+◌, List, [], ◌∷◌, map, refl, sym, ap, ◌∙◌}
use Rattle.std.proofs.lemmas.List.Sums.{sum_by-cons}
use Rattle.std.specs.List.{sum_by}
use Rattle.root_store.specs.declared.store.Table.{Table}

-- a table counts once, and once for each number that it drew
abbrev pub counted : Table → ℕ
counted t = 1 + t.drawn

-- the sum over the values of a map is that over its entries
pub sum_of_values : (es : List (List ℕ × Table)) → sum_by counted (map (λ (e : List ℕ × Table). e.1) es) ≡ sum_by (λ (e : List ℕ × Table). 1 + e.1.drawn) es
sum_of_values [] = refl
sum_of_values (e ∷ es) =
    sum_by-cons counted e.1 (map (λ (x : List ℕ × Table). x.1) es) ∙ (ap (λ n. 1 + e.1.drawn + n) (sum_of_values es) ∙ sym (sum_by-cons (λ (x : List ℕ × Table). 1 + x.1.drawn) e es))
