-- Merges of the rows that pass a test, and of those that do not, where the test says the same of all rows of a partition and key.
use Rattle.std.proofs.Common.{◌≡◌, ◌<◌, ◌&&◌, ◌||◌, Bool, true, false, not, cond, List, [], ◌∷◌, ◌++◌, All, append-nil, filter, get_or, length, refl, sym, ap, ◌∙◌, subst, subst₂, arith}
use Rattle.std.specs.List.{list_any}
use Rattle.std.specs.Ordering.{is_eq}
use Rattle.std.proofs.lemmas.Cmp.{tied_itself}
use Rattle.std.proofs.lemmas.List.Elements.{All-filter, All-same, filter-append}
use Rattle.std.proofs.lemmas.List.Folds.{list_any_at}
use Rattle.mt_base.specs.declared.partition.Partition.{Partition}
use Rattle.mt_values.specs.declared.schema.Schema.{Schema}
use Rattle.mt_values.specs.Tables.{partition_of, sorting_cmp}
use Rattle.mt_values.specs.Values.{Row}
use Rattle.row_merge.specs.mt_model.Folding.{Leaves}
use Rattle.row_merge.specs.mt_model.Live.{of_key}
use Rattle.row_merge.specs.mt_model.Partial.{MergesAll, TableRun}
use Rattle.row_merge.proofs.MtModelCommands.{same_itself}
use Rattle.row_merge.proofs.MtModelDetermined.{sorting_total}
use Rattle.row_merge.proofs.RuleLawPartlyRows.{holds_at}
use Rattle.final_fold.specs.Keys.{SaysOfKeys, is_of_key}

pub no_clash : true ≡ false → ⊥
no_clash e = cc

-- ---- rows that pass two tests

module _ (p q : Row → Bool) where
  -- the second passes each that the first passes
  pub filter_kept : (xs : List Row) → ((x : Row) → p x ≡ true → q x ≡ true) → filter p (filter q xs) ≡ filter p xs
  filter_kept [] h = refl
  filter_kept (x ∷ xs) h = by (q x) refl (p x) refl (filter_kept xs h)
    where
      by : (b : Bool) → q x ≡ b → (a : Bool) → p x ≡ a → filter p (filter q xs) ≡ filter p xs
          → filter p (cond b (x ∷ filter q xs) (filter q xs)) ≡ cond a (x ∷ filter p xs) (filter p xs)
      by true e true f rest = ap (λ c. cond c (x ∷ filter p (filter q xs)) (filter p (filter q xs))) f ∙ ap (λ zs. x ∷ zs) rest
      by true e false f rest = ap (λ c. cond c (x ∷ filter p (filter q xs)) (filter p (filter q xs))) f ∙ rest
      by false e true f rest = absurd (no_clash (sym (h x f) ∙ e))
      by false e false f rest = rest

  -- the second passes none that the first passes
  pub filter_gone : (xs : List Row) → ((x : Row) → p x ≡ true → q x ≡ false) → filter p (filter q xs) ≡ []
  filter_gone [] h = refl
  filter_gone (x ∷ xs) h = by (q x) refl (p x) refl (filter_gone xs h)
    where
      by : (b : Bool) → q x ≡ b → (a : Bool) → p x ≡ a → filter p (filter q xs) ≡ [] → filter p (cond b (x ∷ filter q xs) (filter q xs)) ≡ []
      by true e true f rest = absurd (no_clash (sym e ∙ h x f))
      by true e false f rest = ap (λ c. cond c (x ∷ filter p (filter q xs)) (filter p (filter q xs))) f ∙ rest
      by false e a f rest = rest

-- where no row passes, none is found
pub none_pass : (p : Row → Bool) (xs : List Row) → list_any p xs ≡ false → filter p xs ≡ []
none_pass p [] none = refl
none_pass p (x ∷ xs) none = by (p x) refl none (none_pass p xs)
  where
    by : (b : Bool) → p x ≡ b → (b || list_any p xs) ≡ false → (list_any p xs ≡ false → filter p xs ≡ []) → cond b (x ∷ filter p xs) (filter p xs) ≡ []
    by true e gone rest = absurd (no_clash gone)
    by false e gone rest = rest gone

pub none_left : (run : List Row → List Row → Type 0) (rows out : List Row) → rows ≡ [] → Leaves run rows out → out ≡ []
none_left run [] out none h = h
none_left run (row ∷ rows) out none h = absurd (some none)
  where
    some : row ∷ rows ≡ [] → ⊥
    some e = cc

-- ---- both parts of rows

module _ (schema : Schema) (test : Row → Bool) (says : SaysOfKeys schema test) where
  abbrev other : Row → Bool
  other r = not (test r)

  -- what is left of those that pass, and of those that do not, is left of all
  pub merged_apart : (rows one two : List Row) → MergesAll schema (filter test rows) one → MergesAll schema (filter (λ r. not (test r)) rows) two → MergesAll schema rows (one ++ two)
  merged_apart rows one two first second = λ partition row. by partition row (says partition row).0 (says partition row).1
    where
      by : (partition : Partition) (row : Row) (b : Bool) → ((r : Row) → is_of_key schema partition row r ≡ true → test r ≡ b)
          → Leaves (TableRun schema) (of_key schema partition row rows) (of_key schema partition row (one ++ two))
      by partition row true is =
          let own : Row → Bool = is_of_key schema partition row in
          let none : filter own two ≡ [] =
          none_left (TableRun schema) (filter own (filter other rows)) (filter own two) (filter_gone own other rows (λ r e. ap not (is r e))) (second partition row) in
          let out : filter own (one ++ two) ≡ filter own one = filter-append own one two ∙ ap (λ zs. filter own one ++ zs) none ∙ append-nil (filter own one) in
          subst₂ (Leaves (TableRun schema)) (filter_kept own test rows is) (sym out) (first partition row)
      by partition row false is =
          let own : Row → Bool = is_of_key schema partition row in
          let none : filter own one ≡ [] = none_left (TableRun schema) (filter own (filter test rows)) (filter own one) (filter_gone own test rows is) (first partition row) in
          let out : filter own (one ++ two) ≡ filter own two = filter-append own one two ∙ ap (λ zs. zs ++ filter own two) none in
          subst₂ (Leaves (TableRun schema)) (filter_kept own other rows (λ r e. ap not (is r e))) (sym out) (second partition row)

  -- what is left of those that pass are those that pass of what is left
  pub merged_within : (rows out : List Row) → MergesAll schema rows out → MergesAll schema (filter test rows) (filter test out)
  merged_within rows out merges = λ partition row. by partition row (says partition row).0 (says partition row).1
    where
      by : (partition : Partition) (row : Row) (b : Bool) → ((r : Row) → is_of_key schema partition row r ≡ true → test r ≡ b)
          → Leaves (TableRun schema) (of_key schema partition row (filter test rows)) (of_key schema partition row (filter test out))
      by partition row true is =
          let own : Row → Bool = is_of_key schema partition row in
          subst₂ (Leaves (TableRun schema)) (sym (filter_kept own test rows is)) (sym (filter_kept own test out is)) (merges partition row)
      by partition row false is =
          let own : Row → Bool = is_of_key schema partition row in
          subst (λ zs. Leaves (TableRun schema) zs (filter own (filter test out))) (sym (filter_gone own test rows is)) (filter_gone own test out is)

-- ---- what is left of rows

module _ (schema : Schema) where
  -- a row is of its own partition and key
  pub of_itself : (row : Row) → is_of_key schema (partition_of schema row) row row ≡ true
  of_itself row = ap (λ b. b && is_eq (sorting_cmp schema row row)) (same_itself (partition_of schema row)) ∙ ap is_eq (tied_itself (sorting_total schema) row)

  -- each row that is left is of the partition and the key of some row
  pub merged_sources : (rows out : List Row) → MergesAll schema rows out → All (λ r. list_any (is_of_key schema (partition_of schema r) r) rows ≡ true) out
  merged_sources rows out merges = λ k d below. by (get_or out k d) (list_any_at (is_of_key schema (partition_of schema (get_or out k d)) (get_or out k d)) out k d below (of_itself (get_or out k d)))
    where
      found : (own : Row → Bool) (xs : List Row) → filter own xs ≡ [] → list_any own xs ≡ true → ⊥
      found own [] none any = cc
      found own (x ∷ xs) none any = go (own x) none any (found own xs)
        where
          go : (b : Bool) → cond b (x ∷ filter own xs) (filter own xs) ≡ [] → (b || list_any own xs) ≡ true → (filter own xs ≡ [] → list_any own xs ≡ true → ⊥) → ⊥
          go true gone one rest = cc
          go false gone one rest = rest gone one

      by : (row : Row) → list_any (is_of_key schema (partition_of schema row) row) out ≡ true → list_any (is_of_key schema (partition_of schema row) row) rows ≡ true
      by row there = go (list_any own rows) refl
        where
          own : Row → Bool
          own = is_of_key schema (partition_of schema row) row

          go : (b : Bool) → list_any own rows ≡ b → list_any own rows ≡ true
          go true e = e
          go false e = absurd (found own out (none_left (TableRun schema) (filter own rows) (filter own out) (none_pass own rows e) (merges (partition_of schema row) row)) there)

  -- what one merge keeps of rows, merges of all keys keep
  pub merged_keep : (P : Row → Type 0) → ((rows out : List Row) → 0 < length rows → All P rows → TableRun schema rows out → All P out)
      → (rows out : List Row) → All P rows → MergesAll schema rows out → All P out
  merged_keep P stays rows out all merges = λ k d below.
      let row = get_or out k d in
      let own : Row → Bool = is_of_key schema (partition_of schema row) row in
      holds_at own P out k d (left (filter own rows) (filter own out) (All-filter own P rows all) (merges (partition_of schema row) row)) below (of_itself row)
    where
      left : (some kept : List Row) → All P some → Leaves (TableRun schema) some kept → All P kept
      left [] kept own h = All-same P kept [] h own
      left (row ∷ some) kept own h = stays (row ∷ some) kept (omega arith) own h
