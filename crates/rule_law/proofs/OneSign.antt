-- Merges of a versioned collapsing key leave some of the rows, all of one sign, with the same sum of signs.
use Rattle.std.proofs.Common.{◌≡◌, ℕ, ◌<◌, true, List, [], ◌∷◌, ◌++◌, length, refl, sym, ap, ◌∙◌, subst, inl, inr, ◌+ℤ◌, slice_get}
use Rattle.std.proofs.Math.IntN.{+ℤ_assoc, +ℤ_idl}
use Rattle.std.proofs.lemmas.List.Elements.{All-nil, filter_map-append}
use Rattle.mt_values.specs.declared.value.Value.{Value}
use Rattle.mt_values.specs.Grid.{column_of}
use Rattle.mt_values.specs.Values.{Row}
use Rattle.mt_values.specs.declared.engine.Engine.TheVariants as engine
use Rattle.mt_model.specs.Folding.{Merges, ComesFrom, Leaves}
use Rattle.mt_model.specs.Rules.{Folds, Run, IsSublist, LeavesOneSign, integer_of, is_state, total}
use Rattle.rule_law.proofs.Merging.{law_of_merges}

-- ---- some of the items of a list

pub sub_itself : (xs : List Row) → IsSublist xs xs
sub_itself [] = refl
sub_itself (x ∷ xs) = inr (xs, refl, sub_itself xs)

pub sub_none : (xs : List Row) → IsSublist [] xs
sub_none [] = refl
sub_none (x ∷ xs) = inl (sub_none xs)

pub sub_behind : (front xs ys : List Row) → IsSublist xs ys → IsSublist (front ++ xs) (front ++ ys)
sub_behind [] xs ys h = h
sub_behind (x ∷ front) xs ys h = inr (front ++ xs, refl, sub_behind front xs ys h)

pub sub_before : (xs ys back : List Row) → IsSublist xs ys → IsSublist (xs ++ back) (ys ++ back)
sub_before xs [] back h = subst (λ zs. IsSublist (zs ++ back) back) (sym h) (sub_itself back)
sub_before xs (y ∷ ys) back (inl h) = inl (sub_before xs ys back h)
sub_before xs (y ∷ ys) back (inr h) = inr (h.0 ++ back, ap (λ zs. zs ++ back) h.1, sub_before h.0 ys back h.2)

pub sub_of_sub : (xs ys zs : List Row) → IsSublist xs ys → IsSublist ys zs → IsSublist xs zs
sub_of_sub xs ys [] h k = subst (IsSublist xs) k h
sub_of_sub xs ys (z ∷ zs) h (inl k) = inl (sub_of_sub xs ys zs h k)
sub_of_sub xs ys (z ∷ zs) h (inr k) = by (subst (IsSublist xs) k.1 h) (λ (ws : List Row) (s : IsSublist ws k.0). sub_of_sub ws k.0 zs s k.2)
  where
    by : IsSublist xs (z ∷ k.0) → ((ws : List Row) → IsSublist ws k.0 → IsSublist ws zs) → IsSublist xs (z ∷ zs)
    by (inl s) more = inl (more xs s)
    by (inr s) more = inr (s.0, s.1, more s.0 s.2)

-- ---- sums

pub total_after : (vs ws : List Value) → total (vs ++ ws) ≡ total vs +ℤ total ws
total_after [] ws = sym (+ℤ_idl (total ws))
total_after (v ∷ vs) ws = ap (λ z. integer_of v +ℤ z) (total_after vs ws) ∙ sym (+ℤ_assoc (integer_of v) (total vs) (total ws))

-- the sum of a column of one list after another
pub column_total : (place : ℕ) (xs ys : List Row) → total (column_of place (xs ++ ys)) ≡ total (column_of place xs) +ℤ total (column_of place ys)
column_total place xs ys = ap total (filter_map-append (λ row. slice_get row place) xs ys) ∙ total_after (column_of place xs) (column_of place ys)

-- rows among others count in the sum of a column as others of the same sum
pub column_total_among : (place : ℕ) (front xs ys back : List Row) → total (column_of place xs) ≡ total (column_of place ys)
    → total (column_of place (front ++ (xs ++ back))) ≡ total (column_of place (front ++ (ys ++ back)))
column_total_among place front xs ys back same =
    column_total place front (xs ++ back) ∙ ap (λ z. total (column_of place front) +ℤ z) (column_total place xs back ∙ ap (λ z. z +ℤ total (column_of place back)) same ∙ sym (column_total place ys back))
    ∙ sym (column_total place front (ys ++ back))

-- ---- the law

module _ (sign : ℕ) where
  one_sign_of_leaves : (rows out : List Row) → Leaves (LeavesOneSign sign) rows out → LeavesOneSign sign rows out
  one_sign_of_leaves [] out h =
      subst (LeavesOneSign sign []) (sym h) (record { some = refl; alike = inl (All-nil (λ (row : Row). is_state sign row ≡ true)); sum = refl })
  one_sign_of_leaves (row ∷ rows) out h = h

  leaves_of_one_sign : (rows out : List Row) → LeavesOneSign sign rows out → Leaves (LeavesOneSign sign) rows out
  leaves_of_one_sign [] out h = h.some
  leaves_of_one_sign (row ∷ rows) out h = h

  one_sign_absorbs : (before after out : List Row) → Unit {0} → Merges (LeavesOneSign sign) before after → Leaves (LeavesOneSign sign) after out → Leaves (LeavesOneSign sign) before out
  one_sign_absorbs before after out fits m leaves =
      let h = one_sign_of_leaves after out leaves in
      let made = m.folded in
      let inner : IsSublist after before = subst (λ zs. IsSublist zs before) (sym m.after_is) (subst (IsSublist (m.front ++ (m.out ++ m.back))) (sym m.before_is)
      (sub_behind m.front (m.out ++ m.back) (m.rows ++ m.back) (sub_before m.out m.rows m.back made.some))) in
      let sum : total (column_of sign after) ≡ total (column_of sign before) =
      ap (λ zs. total (column_of sign zs)) m.after_is ∙ column_total_among sign m.front m.out m.rows m.back made.sum ∙ sym (ap (λ zs. total (column_of sign zs)) m.before_is) in
      leaves_of_one_sign before out (record { some = sub_of_sub out after before h.some inner; alike = h.alike; sum = h.sum ∙ sum })

  pub versioned_law : (version : ℕ) (rows x out : List Row) → 0 < length rows → ComesFrom (Run (engine.Versioned sign version) []) rows x → Leaves (Run (engine.Versioned sign version) []) x out → Folds (engine.Versioned sign version) [] rows out
  versioned_law version rows x out some comes leaves =
      law_of_merges (LeavesOneSign sign) (λ rows. Unit {0}) (λ before after fits m. tt) one_sign_absorbs rows x out some tt comes leaves
