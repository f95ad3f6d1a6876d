-- What skip indexes keep while each gets a granule.
use Rattle.std.proofs.Common.{◌≡◌, ◌≢◌, ℕ, zero, suc, ◌+◌, ◌<◌, ◌≤◌, cond, List, ◌∷◌, ◌++◌, refl, sym, ap, ap₂, ◌∙◌, map, get_or, set, nat_lt, length, arith, zero-add}
use Rattle.std.specs.List.{range_with_len}
use Rattle.std.proofs.lemmas.Bool.{le-ltb, lt-ltb}
use Rattle.std.proofs.lemmas.List.FromFn.{get_or-map-range_with_len}
use Rattle.mt_values.specs.declared.schema.Schema.{Schema}
use Rattle.mt_values.specs.Values.{Row}
use Rattle.skip_index.specs.Blocks.{index_of}
use Rattle.skip_index.specs.declared.index.Index.{Index}
use Rattle.skip_index.proofs.Grown.{map_range}
use Rattle.part_writer.specs.PartFiles.{indexes_of}
use Rattle.part_writer.proofs.ColumnFiles.{not_below}

-- ---- a list that is made number by number

map_from : {Y : Type 0} (f g : ℕ → Y) (a m : ℕ) → ((k : ℕ) → a ≤ k → f k ≡ g k) → map f (range_with_len a m) ≡ map g (range_with_len a m)
map_from f g a zero e = refl
map_from f g a (suc m) e = ap₂ (λ x xs. x ∷ xs) (e a (omega arith)) (map_from f g (a + 1) m (λ k past. e k (omega arith)))

-- one item changes
set_range : {Y : Type 0} (f g : ℕ → Y) (a j m n : ℕ) → n ≡ a + j → j < m → ((k : ℕ) → n ≢ k → g k ≡ f k) → set (map f (range_with_len a m)) j (g n) ≡ map g (range_with_len a m)
set_range f g a j zero n is below other = absurd (omega (arith, below))
set_range f g a zero (suc m) n is below other =
    let here : n ≡ a = omega (arith, is) in
    ap₂ (λ x xs. x ∷ xs) (ap g here) (map_from f g (a + 1) m (λ k past. sym (other k (λ e. omega (arith, e, here, past)))))
set_range f g a (suc j) (suc m) n is below other =
    ap₂ (λ x xs. x ∷ xs) (sym (other a (λ e. omega (arith, e, is)))) (set_range f g (a + 1) j m n (omega (arith, is)) (omega (arith, below)) other)

-- ---- skip indexes

module _ (schema : Schema) (rows more : List Row) where
  -- those of the first few indexes have the rows that come
  abbrev pub index_below : ℕ → ℕ → Index
  index_below n k = index_of schema k (cond (nat_lt k n) (rows ++ more) rows)

  abbrev pub indexes_below : ℕ → List Index
  indexes_below n = map (index_below n) (range_with_len 0 (length schema.indexes))

  pub indexes_begun : (indexes : List Index) → indexes ≡ indexes_of schema rows → indexes ≡ indexes_below 0
  indexes_begun indexes are =
      are ∙ map_from (λ k. index_of schema k rows) (index_below 0) 0 (length schema.indexes) (λ k past. ap (λ b. index_of schema k (cond b (rows ++ more) rows)) (sym (le-ltb k 0 (omega arith))))

  pub index_here : (indexes : List Index) (n : ℕ) (any : Index) → indexes ≡ indexes_below n → n < length schema.indexes → get_or indexes n any ≡ index_of schema n rows
  index_here indexes n any are below =
      ap (λ (l : List Index). get_or l n any) are
      ∙ get_or-map-range_with_len (index_below n) 0 (length schema.indexes) n n any below (zero-add n)
      ∙ ap (λ b. index_of schema n (cond b (rows ++ more) rows)) (le-ltb n n (omega arith))

  pub indexes_more : (indexes : List Index) (n : ℕ) (new : Index) → indexes ≡ indexes_below n → n < length schema.indexes → new ≡ index_of schema n (rows ++ more) → set indexes n new ≡ indexes_below (n + 1)
  indexes_more indexes n new are below is =
      ap₂ (λ (l : List Index) (i : Index). set l n i) are (is ∙ ap (λ b. index_of schema n (cond b (rows ++ more) rows)) (sym (lt-ltb n (n + 1) (omega arith))))
      ∙ set_range (index_below n) (index_below (n + 1)) 0 n (length schema.indexes) n (sym (zero-add n)) below
      (λ k other. ap (λ b. index_of schema k (cond b (rows ++ more) rows)) (not_below k n other))

  pub indexes_grown : (indexes : List Index) (n : ℕ) → indexes ≡ indexes_below n → length schema.indexes ≤ n → indexes ≡ indexes_of schema (rows ++ more)
  indexes_grown indexes n are past =
      are
      ∙ map_range (index_below n) (λ k. index_of schema k (rows ++ more)) 0 (length schema.indexes)
      (λ k below. ap (λ b. index_of schema k (cond b (rows ++ more) rows)) (lt-ltb k n (omega (arith, below, past))))
