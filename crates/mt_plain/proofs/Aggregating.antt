-- What functions of columns make of values.
use Rattle.std.proofs.Common.{◌≡◌, ℕ, ◌+◌, ◌<◌, Bool, true, false, ◌||◌, List, [], ◌∷◌, ◌++◌, drop, get_or, length, slice_get, take, Option, None, Some, refl, sym, ap, ◌∙◌, subst, append_assoc, append-nil, add-one, drop-cons}
use Rattle.std.specs.Prelude.{◌↔◌}
use Rattle.std.specs.List.{All, Contains, fold, list_any}
use Rattle.std.specs.Ordering.{is_lt, ordering_reverse}
use Rattle.std.specs.declared.cmp.Ordering.{Ordering}
use Rattle.std.specs.declared.cmp.Ordering.TheVariants.{Less, Equal, Greater}
use Rattle.std.proofs.lemmas.List.Elements.{All-nil, All-cons, All-head, All-tail, All-contains}
use Rattle.std.proofs.lemmas.List.Sums.{fold_more}
use Rattle.mt_values.specs.declared.engine.Aggregate.{Aggregate}
use Rattle.mt_values.specs.declared.engine.Aggregate.TheVariants as aggregate
use Rattle.mt_values.specs.declared.value.Value.{Value}
use Rattle.mt_values.specs.Grid.{column_of}
use Rattle.mt_values.specs.Order.{value_cmp}
use Rattle.mt_values.specs.Values.{Row}
use Rattle.mt_values.proofs.Orders.{value_exact, value_total}
use Rattle.part_history.specs.mt_model.Rules.{AreAggregatesFrom, IsAggregateOf, IsBest, LeavesAggregates, function_or_first, total, wrapped_as}
use Rattle.mt_plain.specs.Outcomes.{AreExactly, IsExactly, passes_by}
use Rattle.mt_plain.proofs.Exactly.{contains_between, exactly_none, exactly_one, parts_of}

-- ---- one value

-- the values so far and one more
pub fold_further : {X Y : Type 0} (f : Y → X → Y) (a : Y) (xs : List X) (i : ℕ) (d : X) → i < length xs → fold f a (take (i + 1) xs) ≡ f (fold f a (take i xs)) (get_or xs i d)
fold_further f a xs i d below = fold_more f a xs i d below

-- what a function of the values gives is the only value of which it is said
pub only_given : {X : Type 0} (found given : Option X) → found ≡ given → IsExactly found (λ x. given ≡ Some x)
only_given found given is x = (λ e. sym is ∙ e, λ e. is ∙ e)

none_pass : {X : Type 0} (p : X → Bool) (xs : List X) → list_any p xs ≡ false → All (λ x. p x ≡ false) xs
none_pass p [] h = All-nil (λ x. p x ≡ false)
none_pass p (x ∷ xs) h = by (none_pass p xs) (p x) refl h
  where
    by : (list_any p xs ≡ false → All (λ x. p x ≡ false) xs) → (b : Bool) → p x ≡ b → (b || list_any p xs) ≡ false → All (λ x. p x ≡ false) (x ∷ xs)
    by later true e h = cc
    by later false e h = All-cons (λ x. p x ≡ false) x xs e (later h)

none_passes : {X : Type 0} (p : X → Bool) (xs : List X) → All (λ x. p x ≡ false) xs → list_any p xs ≡ false
none_passes p [] h = refl
none_passes p (x ∷ xs) h = ap (λ b. b || list_any p xs) (All-head (λ x. p x ≡ false) x xs h) ∙ none_passes p xs (All-tail (λ x. p x ≡ false) x xs h)

neither_less : (o : Ordering) → is_lt o ≡ false → is_lt (ordering_reverse o) ≡ false → o ≡ Equal
neither_less Less a b = cc
neither_less Equal a b = refl
neither_less Greater a b = cc

-- two values of which none is less are one
same_value : (v w : Value) → is_lt (value_cmp v w) ≡ false → is_lt (value_cmp w v) ≡ false → v ≡ w
same_value v w a b = value_exact v w (neither_less (value_cmp v w) a (ap is_lt (sym (value_total.antisymm w v)) ∙ b))

-- two values of which none passes the other are one
neither_passes : (function : Aggregate) (v w : Value) → passes_by function v w ≡ false → passes_by function w v ≡ false → v ≡ w
neither_passes aggregate.Min v w a b = same_value v w a b
neither_passes aggregate.Any v w a b = same_value v w b a
neither_passes aggregate.AnyLast v w a b = same_value v w b a
neither_passes aggregate.Max v w a b = same_value v w b a
neither_passes aggregate.Sum v w a b = same_value v w b a
neither_passes aggregate.BitAnd v w a b = same_value v w b a
neither_passes aggregate.BitOr v w a b = same_value v w b a
neither_passes aggregate.BitXor v w a b = same_value v w b a

pub best_exactly : (function : Aggregate) (values : List Value) (v w : Value) → Contains values v → list_any (λ other. passes_by function other v) values ≡ false → w ≡ v → IsExactly (Some w) (IsBest (passes_by function) values)
best_exactly function values v w own best copy x = (λ e. into x (sym copy ∙ one e), λ h. ap Some (copy ∙ back x h))
  where
    one : Some w ≡ Some x → w ≡ x
    one e = cc

    none : All (λ other. passes_by function other v ≡ false) values
    none = none_pass (λ other. passes_by function other v) values best

    into : (x : Value) → v ≡ x → IsBest (passes_by function) values x
    into x same = subst (IsBest (passes_by function) values) same (let parts = parts_of values v own in record { earlier = parts.0; later = parts.1; values_are = parts.2; best = none })

    back : (x : Value) → IsBest (passes_by function) values x → v ≡ x
    back x h =
        let among : Contains values x = subst (λ zs. Contains zs x) (sym h.values_are) (contains_between h.earlier x h.later) in
        neither_passes function v x (All-contains (λ other. passes_by function other x ≡ false) values v h.best own) (All-contains (λ other. passes_by function other v ≡ false) values x none among)

pub best_none : (function : Aggregate) (values : List Value) → All (λ v. list_any (λ other. passes_by function other v) values ≡ true) values → IsExactly None (IsBest (passes_by function) values)
best_none function values passed x = (λ e. cc, λ h. absurd (never h))
  where
    never : IsBest (passes_by function) values x → ⊥
    never h =
        let among : Contains values x = subst (λ zs. Contains zs x) (sym h.values_are) (contains_between h.earlier x h.later) in
        let one : list_any (λ other. passes_by function other x) values ≡ true = All-contains (λ v. list_any (λ other. passes_by function other v) values ≡ true) values x passed among in
        let other : list_any (λ other. passes_by function other x) values ≡ false = none_passes (λ other. passes_by function other x) values h.best in
        cc

pub sum_exactly : (values : List Value) (first w : Value) → Some first ≡ slice_get values 0 → w ≡ wrapped_as first (total values) → IsExactly (Some w) (IsAggregateOf aggregate.Sum values)
sum_exactly [] first w is sum x = absurd (clash is)
  where
    clash : Some first ≡ None → ⊥
    clash e = cc
sum_exactly (v ∷ values) first w is sum x = (λ e. (v, values, refl, sym (one e) ∙ sum ∙ ap (λ u. wrapped_as u (total (v ∷ values))) (head is)), λ h. ap Some (sum ∙ ap (λ u. wrapped_as u (total (v ∷ values))) (head is ∙ other h.0 h.1 h.2) ∙ sym h.3))
  where
    one : Some w ≡ Some x → w ≡ x
    one e = cc

    head : Some first ≡ Some v → first ≡ v
    head e = cc

    other : (u : Value) (us : List Value) → v ∷ values ≡ u ∷ us → v ≡ u
    other u us e = cc

pub sum_none : (values : List Value) → None ≡ slice_get values 0 → IsExactly None (IsAggregateOf aggregate.Sum values)
sum_none [] is x = (λ e. cc, λ h. absurd (clash h.0 h.1 h.2))
  where
    clash : (u : Value) (us : List Value) → [] ≡ u ∷ us → ⊥
    clash u us e = cc
sum_none (v ∷ values) is x = absurd (clash is)
  where
    clash : None ≡ Some v → ⊥
    clash e = cc

-- ---- one row

-- what the rest of the functions make comes after the values so far
abbrev pub Goes : List (Option Aggregate) → List Row → ℕ → Row → Type 0
Goes functions rows place row = (x : Row) → AreAggregatesFrom 0 functions rows x ↔ ((rest : Row) × (x ≡ row ++ rest) × AreAggregatesFrom place (drop place functions) rows rest)

module _ (functions : List (Option Aggregate)) (rows : List Row) where
  pub goes_first : Goes functions rows 0 []
  goes_first x = (λ h. (x, refl, h), λ h. subst (AreAggregatesFrom 0 functions rows) (sym h.1) h.2)

  abbrev After : ℕ → Option Aggregate → Row → Type 0
  After place function rest = AreAggregatesFrom place (function ∷ drop (place + 1) functions) rows rest

  rest_is : (place : ℕ) (d : Option Aggregate) → place < length functions → drop place functions ≡ get_or functions place d ∷ drop (place + 1) functions
  rest_is place d below = rw add-one (drop-cons functions place d below)

  pub goes_further : (place : ℕ) (row : Row) (d : Option Aggregate) (value : Value) → place < length functions
      → IsExactly (Some value) (IsAggregateOf (function_or_first (get_or functions place d)) (column_of place rows)) → Goes functions rows place row → Goes functions rows (place + 1) (row ++ value ∷ [])
  goes_further place row d value below is goes x = (λ h. into ((goes x).0 h), λ h. (goes x).1 (back h))
    where
      into : (rest : Row) × (x ≡ row ++ rest) × AreAggregatesFrom place (drop place functions) rows rest
          → (rest : Row) × (x ≡ (row ++ value ∷ []) ++ rest) × AreAggregatesFrom (place + 1) (drop (place + 1) functions) rows rest
      into h =
          let made : After place (get_or functions place d) h.0 = subst (λ fs. AreAggregatesFrom place fs rows h.0) (rest_is place d below) h.2 in
          let same : Some value ≡ Some made.0 = (is made.0).1 made.3 in
          let one : value ≡ made.0 = cc in
          (made.1, h.1 ∙ ap (λ zs. row ++ zs) (made.2 ∙ ap (λ v. v ∷ made.1) (sym one)) ∙ sym (append_assoc row (value ∷ []) made.1), made.4)

      back : (rest : Row) × (x ≡ (row ++ value ∷ []) ++ rest) × AreAggregatesFrom (place + 1) (drop (place + 1) functions) rows rest
          → (rest : Row) × (x ≡ row ++ rest) × AreAggregatesFrom place (drop place functions) rows rest
      back h =
          let made : After place (get_or functions place d) (value ∷ h.0) = (value, h.0, refl, (is value).0 refl, h.2) in
          (value ∷ h.0, h.1 ∙ append_assoc row (value ∷ []) h.0, subst (λ fs. AreAggregatesFrom place fs rows (value ∷ h.0)) (sym (rest_is place d below)) made)

  pub goes_nowhere : (place : ℕ) (row : Row) (d : Option Aggregate) → place < length functions
      → IsExactly None (IsAggregateOf (function_or_first (get_or functions place d)) (column_of place rows)) → Goes functions rows place row → IsExactly None (AreAggregatesFrom 0 functions rows)
  goes_nowhere place row d below is goes x = (λ e. cc, λ h. absurd (never ((goes x).0 h)))
    where
      never : (rest : Row) × (x ≡ row ++ rest) × AreAggregatesFrom place (drop place functions) rows rest → ⊥
      never h =
          let made : After place (get_or functions place d) h.0 = subst (λ fs. AreAggregatesFrom place fs rows h.0) (rest_is place d below) h.2 in
          let same : None ≡ Some made.0 = (is made.0).1 made.3 in
          cc

  pub goes_to_end : (place : ℕ) (row : Row) → drop place functions ≡ [] → Goes functions rows place row → IsExactly (Some row) (AreAggregatesFrom 0 functions rows)
  goes_to_end place row ended goes x = (λ e. (goes x).1 ([], sym (one e) ∙ sym (append-nil row), subst (λ fs. AreAggregatesFrom place fs rows []) (sym ended) refl), λ h. ap Some (sym (whole ((goes x).0 h))))
    where
      one : Some row ≡ Some x → row ≡ x
      one e = cc

      whole : (rest : Row) × (x ≡ row ++ rest) × AreAggregatesFrom place (drop place functions) rows rest → x ≡ row
      whole h = let none : h.0 ≡ [] = subst (λ fs. AreAggregatesFrom place fs rows h.0) ended h.2 in h.1 ∙ ap (λ zs. row ++ zs) none ∙ append-nil row

  pub aggregates_exactly : (row : Row) (outs : List (List Row)) → outs ≡ (row ∷ []) ∷ [] → IsExactly (Some row) (AreAggregatesFrom 0 functions rows) → AreExactly outs (LeavesAggregates functions rows)
  aggregates_exactly row outs is only =
      subst (λ zs. AreExactly zs (LeavesAggregates functions rows)) (sym is)
      (exactly_one (LeavesAggregates functions rows) (row ∷ []) (record { row = row; aggregates = (only row).0 refl; out_is = refl }) unique)
    where
      unique : (out : List Row) → LeavesAggregates functions rows out → row ∷ [] ≡ out
      unique out h = let same : Some row ≡ Some h.row = (only h.row).1 h.aggregates in let one : row ≡ h.row = cc in ap (λ r. r ∷ []) one ∙ sym h.out_is

  pub aggregates_none : (outs : List (List Row)) → outs ≡ [] → IsExactly None (AreAggregatesFrom 0 functions rows) → AreExactly outs (LeavesAggregates functions rows)
  aggregates_none outs is none =
      subst (λ zs. AreExactly zs (LeavesAggregates functions rows)) (sym is) (exactly_none (LeavesAggregates functions rows) never)
    where
      never : (out : List Row) → LeavesAggregates functions rows out → ⊥
      never out h = let same : None ≡ Some h.row = (none h.row).1 h.aggregates in cc
