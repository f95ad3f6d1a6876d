-- Sums of one value more, and the rows that may carry the sums.
use Rattle.std.proofs.Common.{◌≡◌, ℕ, ◌+◌, ◌<◌, if◌then◌else◌, List, [], ◌∷◌, ◌++◌, get_or, length, map, take, sym, subst, ap, ◌∙◌, ℤ, ◌+ℤ◌}
use Rattle.std.proofs.Math.IntN.{+ℤ_assoc, +ℤ_idl, +ℤ_idr}
use Rattle.std.specs.Int.{Width, cast_signed, cast_unsigned, int_wrap}
use Rattle.std.proofs.lemmas.Int.{SFits-int_wrap, to_z-of_z}
use Rattle.std.proofs.lemmas.List.{take_more}
use Rattle.std.specs.List.{Contains}
use Rattle.mt_values.specs.declared.value.Value.{Value}
use Rattle.mt_values.specs.Values.{Row}
use Rattle.part_history.specs.mt_model.Rules.{LeavesSums, are_zero, integer_of, total, with_sums}
use Rattle.mt_plain.specs.Outcomes.{AreExactly}
use Rattle.mt_plain.proofs.Exactly.{contains_between, contains_map, map_contains, parts_of}

total_after : (vs ws : List Value) → total (vs ++ ws) ≡ total vs +ℤ total ws
total_after [] ws = sym (+ℤ_idl (total ws))
total_after (v ∷ vs) ws = ap (λ z. integer_of v +ℤ z) (total_after vs ws) ∙ sym (+ℤ_assoc (integer_of v) (total vs) (total ws))

-- the sum of one value more
pub total_more : (values : List Value) (i : ℕ) (d : Value) → i < length values → total (take (i + 1) values) ≡ total (take i values) +ℤ integer_of (get_or values i d)
total_more values i d below =
    ap total (take_more values i d below) ∙ total_after (take i values) (get_or values i d ∷ []) ∙ ap (λ z. total (take i values) +ℤ z) (+ℤ_idr (integer_of (get_or values i d)))

-- what is left of a number in a signed type, read from its bits
pub signed_low : (w : Width) (z r : ℤ) → r ≡ int_wrap w z → cast_signed w (cast_unsigned w r) ≡ int_wrap w z
signed_low w z r is = ap (λ (y : ℤ). cast_signed w (cast_unsigned w y)) is ∙ to_z-of_z w (int_wrap w z) (SFits-int_wrap w z)

-- ---- the rows that carry the sums

-- what is left where this row carries the sums
abbrev pub left_of : List ℕ → List Row → Row → List Row
left_of places rows carried = if are_zero places (with_sums places rows carried) then [] else with_sums places rows carried ∷ []

pub sums_exactly : (places : List ℕ) (rows : List Row) (outs : List (List Row)) → outs ≡ map (left_of places rows) rows → AreExactly outs (LeavesSums places rows)
sums_exactly places rows outs is = subst (λ zs. AreExactly zs (LeavesSums places rows)) (sym is) (λ out. (into out, back out))
  where
    into : (out : List Row) → Contains (map (left_of places rows) rows) out → LeavesSums places rows out
    into out h =
        let one = map_contains (left_of places rows) rows out h in
        let parts = parts_of rows one.0 one.1 in
        record { earlier = parts.0; carried = one.0; later = parts.1; rows_are = parts.2; out_is = one.2 }

    back : (out : List Row) → LeavesSums places rows out → Contains (map (left_of places rows) rows) out
    back out h =
        let own : Contains rows h.carried = subst (λ zs. Contains zs h.carried) (sym h.rows_are) (contains_between h.earlier h.carried h.later) in
        subst (Contains (map (left_of places rows) rows)) (sym h.out_is) (contains_map (left_of places rows) rows h.carried own)
