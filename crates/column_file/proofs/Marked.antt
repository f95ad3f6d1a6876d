-- Bytes between marks.
use Rattle.std.proofs.Common.{◌≡◌, ℕ, ◌+◌, ◌-◌, ◌*◌, List, ◌++◌, refl, sym, ap, ◌∙◌, length, length-append, take, drop, arith, take-append-drop, slice_range, subst, mul-add, mul-one}
use Rattle.std.proofs.Math.Seq.{take-add}
use Rattle.std.proofs.lemmas.List.{take_at, drop_at}
use Rattle.std.proofs.lemmas.List.Concat.{flat_map-append}
use Rattle.std.proofs.lemmas.List.Elements.{All-take, All-drop}
use Rattle.mt_values.specs.declared.value.ColType.{ColType}
use Rattle.mt_values.specs.declared.value.Value.{Value}
use Rattle.mt_values.specs.ColumnBytes.{column_bytes, value_bytes}
use Rattle.column_file.specs.Granules.{granule_of, granule_start, run_of}
use Rattle.column_file.specs.Spellings.{IsOfType, IsSpelling}

-- what stands between a front and the rest of a list
between : (front middle rest whole : List ℕ) (from to : ℕ) → whole ≡ front ++ (middle ++ rest) → length front ≡ from → from + length middle ≡ to → slice_range whole from to ≡ middle
between front middle rest whole from to e f t =
    ap (λ l. take (to - from) (drop from l)) e ∙ ap (take (to - from)) (drop_at front (middle ++ rest) from f) ∙ take_at middle rest (to - from) (omega arith)

-- the bytes between two marks spell the values of the granules between them
pub run_spelled : (t : ColType) (values : List Value) (bytes : List ℕ) (granularity first count : ℕ) → IsSpelling t (length values) bytes values
    → IsSpelling t (length (run_of granularity first count values)) (slice_range bytes (granule_start granularity values first) (granule_start granularity values (first + count))) (run_of granularity first count values)
run_spelled t values bytes granularity first count p = record {
  typed = All-take (IsOfType t) many (drop at values) (All-drop (IsOfType t) at values p.typed);
  count_is = refl;
  spelled = between (column_bytes (take at values)) (column_bytes these) (column_bytes (drop many (drop at values))) bytes _ _ parted refl ends;
}
  where
    at : ℕ
    at = granularity * first

    many : ℕ
    many = granularity * count

    these : List Value
    these = run_of granularity first count values

    parted : bytes ≡ column_bytes (take at values) ++ (column_bytes these ++ column_bytes (drop many (drop at values)))
    parted =
        p.spelled ∙ ap column_bytes (sym (take-append-drop at values)) ∙ flat_map-append value_bytes (take at values) (drop at values)
        ∙ ap (λ l. column_bytes (take at values) ++ l) (ap column_bytes (sym (take-append-drop many (drop at values))) ∙ flat_map-append value_bytes these (drop many (drop at values)))

    ends : length (column_bytes (take at values)) + length (column_bytes these) ≡ granule_start granularity values (first + count)
    ends =
        sym (length-append (column_bytes (take at values)) (column_bytes these)) ∙ ap length (sym (flat_map-append value_bytes (take at values) these))
        ∙ ap (λ vs. length (column_bytes vs)) (sym (take-add at many values) ∙ ap (λ n. take n values) (sym (mul-add granularity first count)))

pub granule_spelled : (t : ColType) (values : List Value) (bytes : List ℕ) (granularity granule : ℕ) → IsSpelling t (length values) bytes values → IsSpelling t (length (granule_of granularity values granule)) (slice_range bytes (granule_start granularity values granule) (granule_start granularity values (granule + 1))) (granule_of granularity values granule)
granule_spelled t values bytes granularity granule p =
    subst (λ n. IsSpelling t (length (take n (drop (granularity * granule) values))) (slice_range bytes (granule_start granularity values granule) (granule_start granularity values (granule + 1))) (take n (drop (granularity * granule) values)))
    (mul-one granularity) (run_spelled t values bytes granularity granule 1 p)
