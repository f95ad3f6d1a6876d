-- What is kept, after one row more.
use Rattle.std.proofs.Common.{◌≡◌, ℕ, ◌<◌, ◌≤◌, true, false, List, [], ◌∷◌, ◌++◌, Option, None, Some, refl, ap, ◌∙◌, append_assoc, arith}
use Rattle.std.specs.List.{All}
use Rattle.std.proofs.lemmas.List.Elements.{All-nil, All-cons, All-append, All-push, All-same}
use Rattle.mt_values.specs.Values.{Row}
use Rattle.mt_values.specs.declared.engine.Engine.TheVariants as engine
use Rattle.rule_law.specs.mt_model.Rules.{Run, LeavesNewest, version_at}
use Rattle.rule_replacing.specs.Replaced.{replaces}

-- one row is kept
pub kept_first : (version : Option ℕ) (row kept : Row) → kept ≡ row → Run (engine.Replacing version) [] (row ∷ []) (kept ∷ [])
kept_first None row kept same = record { earlier = []; last = row; rows_are = refl; out_is = ap (λ r. r ∷ []) same }
kept_first (Some version) row kept same =
    record {
      earlier = [];
      newest = row;
      later = [];
      rows_are = refl;
      none_above = All-nil (λ r. version_at version r ≤ version_at version row);
      all_below = All-nil (λ r. version_at version r < version_at version row);
      out_is = ap (λ r. r ∷ []) same;
    }

none_above : (version : ℕ) (rows : List Row) (kept row : Row) → LeavesNewest version rows (kept ∷ []) → version_at version kept ≤ version_at version row → All (λ r. version_at version r ≤ version_at version row) rows
none_above version rows kept row h least =
    let same : h.newest ≡ kept = cc in
    let numbers : version_at version h.newest ≡ version_at version kept = ap (version_at version) same in
    All-same (λ r. version_at version r ≤ version_at version row) rows (h.earlier ++ h.newest ∷ h.later) h.rows_are
    (All-append (λ r. version_at version r ≤ version_at version row) h.earlier (h.newest ∷ h.later) (λ k d lt. let one = h.none_above k d lt in omega arith)
    (All-cons (λ r. version_at version r ≤ version_at version row) h.newest h.later (omega arith) (λ k d lt. let one = h.all_below k d lt in omega arith)))

-- the row that comes takes the place of the one that was kept, or does not
pub kept_on : (version : Option ℕ) (rows : List Row) (kept row : Row) → Run (engine.Replacing version) [] rows (kept ∷ []) → replaces version kept row ≡ true → Run (engine.Replacing version) [] (rows ++ row ∷ []) (row ∷ [])
kept_on None rows kept row h e = record { earlier = rows; last = row; rows_are = refl; out_is = refl }
kept_on (Some version) rows kept row h e =
    record { earlier = rows; newest = row; later = []; rows_are = refl; none_above = none_above version rows kept row h least; all_below = All-nil (λ r. version_at version r < version_at version row); out_is = refl }
  where
    least : version_at version kept ≤ version_at version row
    least = grind arith

pub kept_still : (version : Option ℕ) (rows : List Row) (kept row : Row) → Run (engine.Replacing version) [] rows (kept ∷ []) → replaces version kept row ≡ false → Run (engine.Replacing version) [] (rows ++ row ∷ []) (kept ∷ [])
kept_still None rows kept row h e = absurd (clash e)
  where
    clash : true ≡ false → ⊥
    clash e = cc
kept_still (Some version) rows kept row h e =
    record {
      earlier = h.earlier;
      newest = h.newest;
      later = h.later ++ row ∷ [];
      rows_are = ap (λ zs. zs ++ row ∷ []) h.rows_are ∙ append_assoc h.earlier (h.newest ∷ h.later) (row ∷ []);
      none_above = h.none_above;
      all_below = All-push (λ r. version_at version r < version_at version h.newest) h.later row h.all_below less;
      out_is = h.out_is;
    }
  where
    less : version_at version row < version_at version h.newest
    less =
        let same : h.newest ≡ kept = cc in
        let numbers : version_at version h.newest ≡ version_at version kept = ap (version_at version) same in
        let below : version_at version row < version_at version kept = grind arith in
        omega arith

-- a row that the next one replaces leaves nothing, whatever comes after them
pub gives_way : (version : Option ℕ) (row next : Row) (rows kept : List Row) → replaces version row next ≡ true → Run (engine.Replacing version) [] (next ∷ rows) kept → Run (engine.Replacing version) [] (row ∷ next ∷ rows) kept
gives_way None row next rows kept e h = record { earlier = row ∷ h.earlier; last = h.last; rows_are = ap (λ zs. row ∷ zs) h.rows_are; out_is = h.out_is }
gives_way (Some version) row next rows kept e h =
    record {
      earlier = row ∷ h.earlier;
      newest = h.newest;
      later = h.later;
      rows_are = ap (λ zs. row ∷ zs) h.rows_are;
      none_above = All-cons (λ r. version_at version r ≤ version_at version h.newest) row h.earlier below h.none_above;
      all_below = h.all_below;
      out_is = h.out_is;
    }
  where
    first_below : (earlier later : List Row) (newest : Row) → next ∷ rows ≡ earlier ++ newest ∷ later → All (λ r. version_at version r ≤ version_at version newest) earlier → version_at version next ≤ version_at version newest
    first_below [] later newest are above =
        let same : next ≡ newest = cc in
        let numbers : version_at version next ≡ version_at version newest = ap (version_at version) same in
        omega arith
    first_below (x ∷ xs) later newest are above =
        let same : next ≡ x = cc in
        let numbers : version_at version next ≡ version_at version x = ap (version_at version) same in
        let one = above 0 x (omega arith) in
        omega arith

    below : version_at version row ≤ version_at version h.newest
    below =
        let least : version_at version row ≤ version_at version next = grind arith in
        let most = first_below h.earlier h.later h.newest h.rows_are h.none_above in
        omega arith
