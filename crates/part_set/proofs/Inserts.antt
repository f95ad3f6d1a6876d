-- A part more in a list in block order.
use Rattle.std.proofs.Common.{◌≡◌, ℕ, ◌+◌, ◌-◌, ◌<◌, ◌≤◌, List, length, get_or, sym, subst, inl, inr, IsTrue, arith}
use Rattle.std.proofs.lemmas.Bool.{cases_lt}
use Rattle.std.proofs.lemmas.List.Edits.{length-insert, get_or-insert_below, get_or-insert_at, get_or-insert_above}
use Rattle.std.specs.List.{AllPairs, AllWithin, insert}
use Rattle.part_name.specs.declared.part.PartName.{PartName}
use Rattle.part_name.specs.PartNames.{Meet}
use Rattle.part_set.specs.declared.kept.Kept.{Kept}
use Rattle.part_set.specs.Parts.{in_order, IsInBlockOrder, NoneMeets, StandsClear}

module _ {X : Type 0} (R : X → X → Type 0) (xs : List X) (n : ℕ) (x : X) (within : n ≤ length xs) where
  read_above : (i : ℕ) (d : X) → n < i → get_or (insert xs n x) i d ≡ get_or xs (i - 1) d
  read_above i d above =
      let next : (i - 1) + 1 ≡ i = omega arith in
      subst (λ (k : ℕ). get_or (insert xs n x) k d ≡ get_or xs (i - 1) d) next (get_or-insert_above xs n x d (i - 1) (omega arith) within)

  read_at : (i : ℕ) (d : X) → i ≡ n → get_or (insert xs n x) i d ≡ x
  read_at i d at = subst (λ (k : ℕ). get_or (insert xs n x) k d ≡ x) (sym at) (get_or-insert_at xs n x d within)

  pair : (a b c e : X) → a ≡ c → b ≡ e → R c e → R a b
  pair a b c e first second holds = subst (λ (y : X). R y b) (sym first) (subst (λ (z : X). R c z) (sym second) holds)

  -- pairs of a list with one element more
  pub pairs_inserted : AllPairs R xs → ((k : ℕ) (d : X) → k < n → R (get_or xs k d) x) → ((k : ℕ) (d : X) → n ≤ k → k < length xs → R x (get_or xs k d)) → AllPairs R (insert xs n x)
  pairs_inserted all front back i j d less inside =
      let short : j < length xs + 1 = omega (arith, length-insert xs n x within) in
      elim (cases_lt j n) [
        | inl j_below ↦ pair _ _ (get_or xs i d) (get_or xs j d) (get_or-insert_below xs n x d i (omega arith) within) (get_or-insert_below xs n x d j j_below within) (all i j d less (omega arith))
        | inr j_not_below ↦ elim (cases_lt n j) [
          | inl j_above ↦ elim (cases_lt i n) [
            | inl i_below ↦ pair _ _ (get_or xs i d) (get_or xs (j - 1) d) (get_or-insert_below xs n x d i i_below within) (read_above j d j_above) (all i (j - 1) d (omega arith) (omega arith))
            | inr i_not_below ↦ elim (cases_lt n i) [
              | inl i_above ↦ pair _ _ (get_or xs (i - 1) d) (get_or xs (j - 1) d) (read_above i d i_above) (read_above j d j_above) (all (i - 1) (j - 1) d (omega arith) (omega arith))
              | inr i_not_above ↦ pair _ _ x (get_or xs (j - 1) d) (read_at i d (omega arith)) (read_above j d j_above) (back (j - 1) d (omega arith) (omega arith))
            ]
          ]
          | inr j_not_above ↦ pair _ _ (get_or xs i d) x (get_or-insert_below xs n x d i (omega arith) within) (read_at j d (omega arith)) (front i d (omega arith))
        ]
      ]

-- meeting goes both ways
pub meet_turned : (a b : PartName) → Meet a b → Meet b a
meet_turned a b both = record { partition = sym both.partition; low = both.high; high = both.low }

-- a part that meets none of a list in block order stands clear at its place
pub order_inserted : {P : Type 0} (parts : List (Kept P)) (kept : Kept P) (n : ℕ) → n ≤ length parts → IsInBlockOrder parts → NoneMeets parts kept.name
    → AllWithin (λ other. IsTrue (in_order other.name kept.name)) parts 0 n → AllWithin (λ other. IsTrue (in_order kept.name other.name)) parts n (length parts)
    → IsInBlockOrder (insert parts n kept)
order_inserted {P} parts kept n within ordered none front back =
    pairs_inserted (λ (a b : Kept P). StandsClear a.name b.name) parts n kept within ordered
    (λ k d below. record { order = front k d (omega arith) below; apart = none k d (omega arith) })
    (λ k d above inside. record { order = back k d above inside; apart = λ both. none k d inside (meet_turned kept.name (get_or parts k d).name both) })
