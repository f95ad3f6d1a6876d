-- Merges of ReplacingMergeTree leave the row that one fold of all leaves.
use Rattle.std.proofs.Common.{◌≡◌, ℕ, ◌<◌, ◌≤◌, Bool, true, false, cond, nat_le, List, [], ◌∷◌, ◌++◌, length, Option, None, Some, refl, sym, ap, ◌∙◌, subst, append_assoc, append-nil, arith}
use Rattle.std.specs.List.{All}
use Rattle.std.proofs.lemmas.List.Elements.{All-nil, All-cons, All-append, All-push}
use Rattle.mt_values.specs.Values.{Row}
use Rattle.mt_values.specs.declared.engine.Engine.TheVariants as engine
use Rattle.mt_model.specs.Folding.{Merges, ComesFrom, Leaves}
use Rattle.mt_model.specs.Rules.{Folds, Run, LeavesLast, LeavesNewest, last_of, version_at}
use Rattle.rule_law.proofs.Merging.{function_leaves, leaves_function, law_of_merges}
use Rattle.rule_law.proofs.Newest.{last_after, last_is, last_leaves, newest_from, newest_of, newest_is, within_drops}

-- a row between two others, as the first of a list after a list
joined : (front earlier : List Row) (one : Row) (later back : List Row) → front ++ ((earlier ++ one ∷ later) ++ back) ≡ front ++ (earlier ++ one ∷ (later ++ back))
joined front earlier one later back = ap (λ zs. front ++ zs) (append_assoc earlier (one ∷ later) back)

-- ---- without a version

last_same : (before after : List Row) → Merges LeavesLast before after → last_of after ≡ last_of before
last_same before after m =
    let h = m.folded in
    ap last_of (m.after_is ∙ ap (λ zs. m.front ++ (zs ++ m.back)) h.out_is) ∙ last_after m.front h.last m.back
    ∙ sym (ap last_of (m.before_is ∙ ap (λ zs. m.front ++ (zs ++ m.back)) h.rows_are ∙ joined m.front h.earlier h.last [] m.back ∙ sym (append_assoc m.front h.earlier (h.last ∷ m.back)))
    ∙ last_after (m.front ++ h.earlier) h.last m.back)

last_absorbs : (before after out : List Row) → Unit {0} → Merges LeavesLast before after → Leaves LeavesLast after out → Leaves LeavesLast before out
last_absorbs before after out fits m leaves =
    leaves_function last_of LeavesLast refl (λ row rows other is. subst (LeavesLast (row ∷ rows)) (sym is) (last_leaves row rows)) before out
    (function_leaves last_of LeavesLast refl (λ row rows other h. last_is (row ∷ rows) other h) after out leaves ∙ last_same before after m)

-- ---- with a version

module _ (version : ℕ) where
  abbrev number : Row → ℕ
  number row = version_at version row

  -- what is kept after more rows is the newest of all
  newest_more : (earlier : List Row) (best : Row) (later rows : List Row) → All (λ r. number r ≤ number best) earlier → All (λ r. number r < number best) later
      → LeavesNewest version (earlier ++ best ∷ (later ++ rows)) (newest_from version best rows ∷ [])
  newest_more earlier best later [] above below =
      record { earlier = earlier; newest = best; later = later; rows_are = ap (λ zs. earlier ++ best ∷ zs) (append-nil later); none_above = above; all_below = below; out_is = refl }
  newest_more earlier best later (x ∷ rows) above below =
      by (nat_le (number best) (number x)) refl
      (λ least. newest_more (earlier ++ best ∷ later) x [] rows (all_least least) (All-nil (λ r. number r < number x)))
      (λ less. newest_more earlier best (later ++ x ∷ []) rows above (all_less less))
    where
      all_least : number best ≤ number x → All (λ r. number r ≤ number x) (earlier ++ best ∷ later)
      all_least h =
          All-append (λ r. number r ≤ number x) earlier (best ∷ later) (λ k d lt. let one = above k d lt in omega arith)
          (All-cons (λ r. number r ≤ number x) best later h (λ k d lt. let one = below k d lt in omega arith))

      all_less : number x < number best → All (λ r. number r < number best) (later ++ x ∷ [])
      all_less h = All-push (λ r. number r < number best) later x below h

      by : (b : Bool) → nat_le (number best) (number x) ≡ b
          → (number best ≤ number x → LeavesNewest version ((earlier ++ best ∷ later) ++ x ∷ rows) (newest_from version x rows ∷ []))
          → (number x < number best → LeavesNewest version (earlier ++ best ∷ ((later ++ x ∷ []) ++ rows)) (newest_from version best rows ∷ []))
          → LeavesNewest version (earlier ++ best ∷ (later ++ x ∷ rows)) (cond b (newest_from version x rows) (newest_from version best rows) ∷ [])
      by true e one other =
          let least : number best ≤ number x = grind arith in
          subst (λ zs. LeavesNewest version zs (newest_from version x rows ∷ [])) (append_assoc earlier (best ∷ later) (x ∷ rows)) (one least)
      by false e one other =
          let less : number x < number best = grind arith in
          subst (λ zs. LeavesNewest version (earlier ++ best ∷ zs) (newest_from version best rows ∷ [])) (append_assoc later (x ∷ []) rows) (other less)

  newest_leaves : (row : Row) (rows out : List Row) → out ≡ newest_of version (row ∷ rows) → LeavesNewest version (row ∷ rows) out
  newest_leaves row rows out is =
      subst (LeavesNewest version (row ∷ rows)) (sym is) (newest_more [] row [] rows (All-nil (λ r. number r ≤ number row)) (All-nil (λ r. number r < number row)))

  newest_same : (before after : List Row) → Merges (LeavesNewest version) before after → newest_of version after ≡ newest_of version before
  newest_same before after m =
      let h = m.folded in
      ap (newest_of version) (m.after_is ∙ ap (λ zs. m.front ++ (zs ++ m.back)) h.out_is)
      ∙ sym (ap (newest_of version) (m.before_is ∙ ap (λ zs. m.front ++ (zs ++ m.back)) h.rows_are ∙ joined m.front h.earlier h.newest h.later m.back)
      ∙ within_drops version m.front h.earlier h.newest h.later m.back h.none_above h.all_below)

  newest_absorbs : (before after out : List Row) → Unit {0} → Merges (LeavesNewest version) before after → Leaves (LeavesNewest version) after out → Leaves (LeavesNewest version) before out
  newest_absorbs before after out fits m leaves =
      leaves_function (newest_of version) (LeavesNewest version) refl newest_leaves before out
      (function_leaves (newest_of version) (LeavesNewest version) refl (λ row rows other h. newest_is version (row ∷ rows) other h) after out leaves ∙ newest_same before after m)

pub replacing_law : (version : Option ℕ) (rows x out : List Row) → 0 < length rows → ComesFrom (Run (engine.Replacing version) []) rows x → Leaves (Run (engine.Replacing version) []) x out → Folds (engine.Replacing version) [] rows out
replacing_law None rows x out some comes leaves = law_of_merges LeavesLast (λ rows. Unit {0}) (λ before after fits m. tt) last_absorbs rows x out some tt comes leaves
replacing_law (Some version) rows x out some comes leaves = law_of_merges (LeavesNewest version) (λ rows. Unit {0}) (λ before after fits m. tt) (newest_absorbs version) rows x out some tt comes leaves
