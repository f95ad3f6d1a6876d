-- What merges may leave of a table's rows, one partition and key after another.
use Rattle.std.proofs.Common.{◌≡◌, ◌⊎◌, ◌↔◌, ◌&&◌, ◌∷◌, ◌++◌, ◌+◌, ◌<◌, ◌≤◌, ℕ, Bool, true, false, cond, not, List, [], Option, flat_map, get_or, length, map, take, refl, sym, ap, ap₂, ◌∙◌, subst, inl, inr, append-nil, arith}
use Rattle.std.specs.List.{Contains, filter, list_all}
use Rattle.std.specs.List.Sorted.{IsPermutation}
use Rattle.std.specs.Ordering.{is_eq, ordering_reverse}
use Rattle.std.specs.declared.cmp.Ordering.{Ordering}
use Rattle.std.specs.declared.cmp.Ordering.TheVariants.{Equal}
use Rattle.std.proofs.lemmas.Bool.{false≢true}
use Rattle.std.proofs.lemmas.Cmp.{tied_itself}
use Rattle.std.proofs.lemmas.Grind.{flat_map-append}
use Rattle.std.proofs.lemmas.List.{take_more}
use Rattle.std.proofs.lemmas.List.Elements.{Contains-append_cases, Contains-append_left, Contains-append_right, filter_agree}
use Rattle.std.proofs.lemmas.List.Sums.{count_by-le-length, length-filter}
use Rattle.std.proofs.lemmas.List.Sorted.{IsPermutation-refl, IsPermutation-trans, IsPermutation-append, IsPermutation-filter_both}
use Rattle.mt_base.specs.declared.partition.Partition.{Partition}
use Rattle.mt_values.specs.declared.engine.Aggregate.{Aggregate}
use Rattle.mt_values.specs.declared.schema.Schema.{Schema}
use Rattle.mt_values.specs.Tables.{partition_of, same_partition, sorting_cmp}
use Rattle.mt_values.specs.Values.{Row}
use Rattle.part_history.specs.mt_model.Final.{Sees, TableFolds}
use Rattle.part_history.specs.mt_model.Folding.{ComesFrom, Leaves}
use Rattle.part_history.specs.mt_model.Live.{of_key}
use Rattle.part_history.specs.mt_model.Partial.{TableRun, functions_of}
use Rattle.part_history.specs.mt_model.Rules.{Folds, Run}
use Rattle.part_history.proofs.MtModelCommands.{partition_is, same_itself}
use Rattle.part_history.proofs.MtModelDetermined.{sorting_total}
use Rattle.part_history.proofs.MtModelMerged.{comes_itself, comes_none, of_key_append}
use Rattle.part_history.proofs.MtModelSameKeys.{filter_after}
use Rattle.part_history.proofs.MtModelSorting.{equal_is}
use Rattle.mt_plain.specs.Lefts.{AreSeen, KeySees, is_like, unlike}
use Rattle.mt_plain.specs.Outcomes.{AreExactly}
use Rattle.mt_plain.proofs.Exactly.{contains_cases, contains_first, contains_later, contains_map, contains_none, exactly_filtered, map_contains}

-- ---- lists

-- what a function gives of one of them
pub contains_flat : {X Y : Type 0} (f : X → List Y) (xs : List X) (x : X) (y : Y) → Contains xs x → Contains (f x) y → Contains (flat_map f xs) y
contains_flat f [] x y h k = absurd (contains_none x h)
contains_flat f (z ∷ xs) x y h k = by (λ m. contains_flat f xs x y m k) (contains_cases z xs x h)
  where
    by : (Contains xs x → Contains (flat_map f xs) y) → (z ≡ x) ⊎ Contains xs x → Contains (f z ++ flat_map f xs) y
    by later (inl is) = Contains-append_left (f z) (flat_map f xs) y (subst (λ w. Contains (f w) y) (sym is) k)
    by later (inr m) = Contains-append_right (f z) (flat_map f xs) y (later m)

pub flat_contains : {X Y : Type 0} (f : X → List Y) (xs : List X) (y : Y) → Contains (flat_map f xs) y → (x : X) × Contains xs x × Contains (f x) y
flat_contains f [] y h = absurd (contains_none y h)
flat_contains {X} f (z ∷ xs) y h = by (flat_contains f xs y) (Contains-append_cases (f z) (flat_map f xs) y h)
  where
    after : (x : X) × Contains xs x × Contains (f x) y → (x : X) × Contains (z ∷ xs) x × Contains (f x) y
    after m = (m.0, contains_later z xs m.0 m.1, m.2)

    by : (Contains (flat_map f xs) y → (x : X) × Contains xs x × Contains (f x) y) → Contains (f z) y ⊎ Contains (flat_map f xs) y → (x : X) × Contains (z ∷ xs) x × Contains (f x) y
    by later (inl m) = (z, contains_first z xs, m)
    by later (inr m) = after (later m)

-- one more
pub flat_more : {X Y : Type 0} (f : X → List Y) (xs : List X) (i : ℕ) (d : X) → i < length xs → flat_map f (take (i + 1) xs) ≡ flat_map f (take i xs) ++ f (get_or xs i d)
flat_more f xs i d below =
    ap (flat_map f) (take_more xs i d below) ∙ (flat_map-append f (take i xs) (get_or xs i d ∷ []) ∙ ap (λ zs. flat_map f (take i xs) ++ zs) (append-nil (f (get_or xs i d))))

both : (a b : Bool) → a && b ≡ true → (a ≡ true) × (b ≡ true)
both true true e = (refl, refl)
both true false e = cc
both false b e = cc

kept_first : {X : Type 0} (b : Bool) (x : X) (xs : List X) → b ≡ true → cond b (x ∷ xs) xs ≡ x ∷ xs
kept_first true x xs e = refl
kept_first false x xs e = cc

-- a test that all of them pass keeps all, and one that none of these passes keeps none
keeps_all : {X : Type 0} (f : X → Bool) (xs : List X) → list_all f xs ≡ true → filter f xs ≡ xs
keeps_all f [] e = refl
keeps_all f (x ∷ xs) e = let h = both (f x) (list_all f xs) e in kept_first (f x) x (filter f xs) h.0 ∙ ap (λ zs. x ∷ zs) (keeps_all f xs h.1)

drops_all : {X : Type 0} (f g : X → Bool) → ((x : X) → g x ≡ true → not (f x) ≡ true) → (xs : List X) → list_all f xs ≡ true → filter g xs ≡ []
drops_all f g apart [] e = refl
drops_all f g apart (x ∷ xs) e = let h = both (f x) (list_all f xs) e in by h.0 (drops_all f g apart xs h.1) (g x) refl
  where
    by : f x ≡ true → filter g xs ≡ [] → (b : Bool) → g x ≡ b → cond b (x ∷ filter g xs) (filter g xs) ≡ []
    by own none true k = absurd (false≢true (sym (ap not own) ∙ apart x k))
    by own none false k = none

-- none passes a test of those that fail it
none_left : {X : Type 0} (f : X → Bool) (xs : List X) → filter f (filter (λ x. not (f x)) xs) ≡ []
none_left f [] = refl
none_left f (x ∷ xs) = by (f x) refl (none_left f xs)
  where
    by : (b : Bool) → f x ≡ b → filter f (filter (λ z. not (f z)) xs) ≡ [] → filter f (cond (not b) (x ∷ filter (λ z. not (f z)) xs) (filter (λ z. not (f z)) xs)) ≡ []
    by true e none = none
    by false e none = ap (λ b. cond b (x ∷ filter f (filter (λ z. not (f z)) xs)) (filter f (filter (λ z. not (f z)) xs))) e ∙ none

-- all that pass a test pass it
all_filtered : {X : Type 0} (f : X → Bool) (xs : List X) → list_all f (filter f xs) ≡ true
all_filtered f [] = refl
all_filtered f (x ∷ xs) = by (f x) refl (all_filtered f xs)
  where
    by : (b : Bool) → f x ≡ b → list_all f (filter f xs) ≡ true → list_all f (cond b (x ∷ filter f xs) (filter f xs)) ≡ true
    by true e rest = ap₂ (λ a b. a && b) e rest
    by false e rest = rest

-- ---- partitions and keys

module _ (schema : Schema) where
  -- whether a row is of a partition, and compares alike with a row
  abbrev in_key : Partition → Row → Row → Bool
  in_key p row r = same_partition (partition_of schema r) p && is_eq (sorting_cmp schema row r)

  like_itself : (row : Row) → is_like schema row row ≡ true
  like_itself row = ap₂ (λ a b. a && b) (same_itself (partition_of schema row)) (ap is_eq (tied_itself (sorting_total schema) row))

  -- the rows of the key that another row is of are those like that row
  same_test : (p : Partition) (row first r : Row) → in_key p row first ≡ true → in_key p row r ≡ is_like schema first r
  same_test p row first r e =
      let h = both (same_partition (partition_of schema first) p) (is_eq (sorting_cmp schema row first)) e in
      let place : partition_of schema first ≡ p = partition_is (partition_of schema first) p h.0 in
      let total = sorting_total schema in
      let same : sorting_cmp schema row r ≡ sorting_cmp schema first r = total.congr row first r (equal_is (sorting_cmp schema row first) h.1) in
      ap₂ (λ (q : Partition) (o : Ordering). same_partition (partition_of schema r) q && is_eq o) (sym place) same

  -- none of another key is like it
  other_test : (p : Partition) (row first r : Row) → in_key p row first ≡ false → in_key p row r ≡ true → not (is_like schema first r) ≡ true
  other_test p row first r out own = by (is_like schema first r) refl
    where
      clash : is_like schema first r ≡ true → ⊥
      clash e =
          let h = both (same_partition (partition_of schema r) p) (is_eq (sorting_cmp schema row r)) own in
          let k = both (same_partition (partition_of schema r) (partition_of schema first)) (is_eq (sorting_cmp schema first r)) e in
          let place : p ≡ partition_of schema first = sym (partition_is (partition_of schema r) p h.0) ∙ partition_is (partition_of schema r) (partition_of schema first) k.0 in
          let total = sorting_total schema in
          let turned : sorting_cmp schema r first ≡ Equal = total.antisymm r first ∙ ap ordering_reverse (equal_is (sorting_cmp schema first r) k.1) in
          let near : sorting_cmp schema row first ≡ Equal = total.congr row r first (equal_is (sorting_cmp schema row r) h.1) ∙ turned in
          let passes : in_key p row first ≡ true =
          ap₂ (λ (q : Partition) (o : Ordering). same_partition (partition_of schema first) q && is_eq o) place near ∙ ap (λ b. b && true) (same_itself (partition_of schema first)) in
          false≢true (sym out ∙ passes)

      by : (b : Bool) → is_like schema first r ≡ b → not b ≡ true
      by true e = absurd (clash e)
      by false e = refl

  -- ---- what is seen of the rows of each key

  -- what is told of the rows of each partition and key
  abbrev Keywise : (List Row → List Row → Type 0) → List Row → List Row → Type 0
  Keywise told rows x = (p : Partition) (row : Row) → told (of_key schema p row rows) (of_key schema p row x)

  module _ (told : List Row → List Row → Type 0) (nothing : told [] []) (only_nothing : (x : List Row) → told [] x → x ≡ []) where
    -- of no rows
    no_row : (x : List Row) → Keywise told [] x → x ≡ []
    no_row [] keys = refl
    no_row (r ∷ x) keys =
        let own = of_key schema (partition_of schema r) r in
        let none : own (r ∷ x) ≡ [] = only_nothing (own (r ∷ x)) (keys (partition_of schema r) r) in
        let some : own (r ∷ x) ≡ r ∷ own x = kept_first (is_like schema r r) r (own x) (like_itself r) in
        let clash : r ∷ own x ≡ [] = sym some ∙ none in
        cc

    -- the rows of one key, and the rest
    module _ (first : Row) (rows own rest : List Row) (own_is : own ≡ filter (is_like schema first) rows) (rest_is : rest ≡ unlike schema first rows) where
      -- of the key of the row
      of_first : (p : Partition) (row : Row) → in_key p row first ≡ true → (xs : List Row) → of_key schema p row xs ≡ filter (is_like schema first) xs
      of_first p row e xs = filter_agree (in_key p row) (is_like schema first) (λ r. same_test p row first r e) xs

      -- of another key
      of_other : (p : Partition) (row : Row) → in_key p row first ≡ false → (xs : List Row) → of_key schema p row xs ≡ of_key schema p row (unlike schema first xs)
      of_other p row e xs = filter_after (in_key p row) (λ r. not (is_like schema first r)) (λ r. other_test p row first r e) xs

      -- what is told of the rows of the key, and then of the others
      pub key_then : (a b : List Row) → told own a → list_all (is_like schema first) a ≡ true → Keywise told rest b → Keywise told rows (a ++ b)
      key_then a b one alike other = λ p row. by p row (in_key p row first) refl
        where
          none : filter (is_like schema first) b ≡ []
          none =
              only_nothing (filter (is_like schema first) b)
              (subst (λ (zs : List Row). told zs (filter (is_like schema first) b)) (ap (filter (is_like schema first)) rest_is ∙ none_left (is_like schema first) rows) (other (partition_of schema first) first))

          by : (p : Partition) (row : Row) (t : Bool) → in_key p row first ≡ t → told (of_key schema p row rows) (of_key schema p row (a ++ b))
          by p row true e =
              let left_is : of_key schema p row rows ≡ own = of_first p row e rows ∙ sym own_is in
              let right_is : of_key schema p row (a ++ b) ≡ a =
              of_key_append schema p row a b
              ∙ (ap₂ (λ (x y : List Row). x ++ y) (of_first p row e a ∙ keeps_all (is_like schema first) a alike) (of_first p row e b ∙ none) ∙ append-nil a) in
              subst (λ (zs : List Row). told zs (of_key schema p row (a ++ b))) (sym left_is) (subst (told own) (sym right_is) one)
          by p row false e =
              let left_is : of_key schema p row rows ≡ of_key schema p row rest = of_other p row e rows ∙ ap (of_key schema p row) (sym rest_is) in
              let right_is : of_key schema p row (a ++ b) ≡ of_key schema p row b =
              of_key_append schema p row a b
              ∙ ap (λ (zs : List Row). zs ++ of_key schema p row b) (drops_all (is_like schema first) (in_key p row) (λ r. other_test p row first r e) a alike) in
              subst (λ (zs : List Row). told zs (of_key schema p row (a ++ b))) (sym left_is) (subst (told (of_key schema p row rest)) (sym right_is) (other p row))

      -- and so of the others alone
      rest_told : (x : List Row) → Keywise told rows x → Keywise told rest (unlike schema first x)
      rest_told x keys = λ p row. by p row (in_key p row first) refl
        where
          by : (p : Partition) (row : Row) (t : Bool) → in_key p row first ≡ t → told (of_key schema p row rest) (of_key schema p row (unlike schema first x))
          by p row true e =
              let left_is : of_key schema p row rest ≡ [] = of_first p row e rest ∙ (ap (filter (is_like schema first)) rest_is ∙ none_left (is_like schema first) rows) in
              let right_is : of_key schema p row (unlike schema first x) ≡ [] = of_first p row e (unlike schema first x) ∙ none_left (is_like schema first) x in
              subst (λ (zs : List Row). told zs (of_key schema p row (unlike schema first x))) (sym left_is) (subst (told []) (sym right_is) nothing)
          by p row false e =
              let left_is : of_key schema p row rest ≡ of_key schema p row rows = ap (of_key schema p row) rest_is ∙ sym (of_other p row e rows) in
              subst (λ (zs : List Row). told zs (of_key schema p row (unlike schema first x))) (sym left_is) (subst (told (of_key schema p row rows)) (of_other p row e x) (keys p row))

      -- lists of the key, each with each list of the others after it
      module _ (firsts lefts : List (List Row)) (key : AreExactly firsts (λ out. told own out × (list_all (is_like schema first) out ≡ true)))
          (each_other : (x : List Row) → Contains lefts x → Keywise told rest x) (all_others : (x : List Row) → Keywise told rest x → (y : List Row) × Contains lefts y × IsPermutation x y) where
        abbrev joined : List (List Row)
        joined = flat_map (λ a. map (λ b. a ++ b) lefts) firsts

        each_joined : (x : List Row) → Contains joined x → Keywise told rows x
        each_joined x h =
            let m = flat_contains (λ a. map (λ b. a ++ b) lefts) firsts x h in
            let k = map_contains (λ b. m.0 ++ b) lefts x m.2 in
            let known = (key m.0).0 m.1 in
            subst (Keywise told rows) (sym k.2) (key_then m.0 k.0 known.0 known.1 (each_other k.0 k.1))

        all_joined : (x : List Row) → Keywise told rows x → (y : List Row) × Contains joined y × IsPermutation x y
        all_joined x keys =
            let a = filter (is_like schema first) x in
            let b = unlike schema first x in
            let came : told own a = subst (λ (zs : List Row). told zs a) (sym own_is) (keys (partition_of schema first) first) in
            let one : Contains firsts a = (key a).1 (came, all_filtered (is_like schema first) x) in
            let found = all_others b (rest_told x keys) in (
              a ++ found.0,
              contains_flat (λ c. map (λ d. c ++ d) lefts) firsts a (a ++ found.0) one (contains_map (λ d. a ++ d) lefts found.0 found.1),
              IsPermutation-trans x (a ++ b) (a ++ found.0) (IsPermutation-filter_both (is_like schema first) (λ r. not (is_like schema first r)) (λ r. refl) x) (IsPermutation-append a a b found.0 (IsPermutation-refl a) found.2),
            )

  -- ---- with FINAL and without it

  nothing_seen : (is_final : Bool) → KeySees schema is_final [] []
  nothing_seen true = refl
  nothing_seen false = comes_itself (TableRun schema) []

  only_nothing_seen : (is_final : Bool) (x : List Row) → KeySees schema is_final [] x → x ≡ []
  only_nothing_seen true x none = none
  only_nothing_seen false x came = comes_none (TableRun schema) x came

  sees_keys : (is_final : Bool) (rows x : List Row) → Sees schema is_final rows x → Keywise (KeySees schema is_final) rows x
  sees_keys true rows x seen = seen
  sees_keys false rows x seen = seen

  keys_see : (is_final : Bool) (rows x : List Row) → Keywise (KeySees schema is_final) rows x → Sees schema is_final rows x
  keys_see true rows x keys = keys
  keys_see false rows x keys = keys

  none_sees : (is_final : Bool) → Sees schema is_final [] []
  none_sees is_final = keys_see is_final [] [] (λ p row. nothing_seen is_final)

  pub seen_none : (is_final : Bool) (lefts : List (List Row)) → lefts ≡ [] ∷ [] → AreSeen schema is_final [] lefts
  seen_none is_final lefts is =
      subst (AreSeen schema is_final []) (sym is)
      (record {
        each = λ x h. subst (Sees schema is_final []) (one x (contains_cases [] [] x h)) (none_sees is_final);
        all = λ x seen. (
          [],
          contains_first [] [],
          subst (λ (zs : List Row). IsPermutation zs []) (sym (no_row (KeySees schema is_final) (nothing_seen is_final) (only_nothing_seen is_final) x (sees_keys is_final [] x seen))) (IsPermutation-refl []),
        );
      })
    where
      one : (x : List Row) → ([] ≡ x) ⊎ Contains [] x → [] ≡ x
      one x (inl e) = e
      one x (inr h) = absurd (contains_none x h)

  pub seen_more : (is_final : Bool) (first : Row) (rows own rest : List Row) (firsts lefts : List (List Row)) → own ≡ filter (is_like schema first) rows → rest ≡ unlike schema first rows
      → AreExactly firsts (λ out. KeySees schema is_final own out × (list_all (is_like schema first) out ≡ true)) → AreSeen schema is_final rest lefts
      → (outs : List (List Row)) → outs ≡ flat_map (λ a. map (λ b. a ++ b) lefts) firsts → AreSeen schema is_final rows outs
  seen_more is_final first rows own rest firsts lefts own_is rest_is key others outs is =
      let told = KeySees schema is_final in
      let nothing = nothing_seen is_final in
      let only = only_nothing_seen is_final in
      let each : (x : List Row) → Contains lefts x → Keywise told rest x = λ x h. sees_keys is_final rest x (others.each x h) in
      let all : (x : List Row) → Keywise told rest x → (y : List Row) × Contains lefts y × IsPermutation x y = λ x keys. others.all x (keys_see is_final rest x keys) in
      subst (AreSeen schema is_final rows) (sym is)
      (record {
        each = λ x h. keys_see is_final rows x (each_joined told nothing only first rows own rest own_is rest_is firsts lefts key each all x h);
        all = λ x seen. all_joined told nothing only first rows own rest own_is rest_is firsts lefts key each all x (sees_keys is_final rows x seen);
      })

  -- the first row is like itself
  pub unlike_first : (first : Row) (others : List Row) → unlike schema first (first ∷ others) ≡ unlike schema first others
  unlike_first first others = ap (λ b. cond (not b) (first ∷ unlike schema first others) (unlike schema first others)) (like_itself first)

  pub unlike_fewer : (first : Row) (rows : List Row) → length (unlike schema first rows) ≤ length rows
  unlike_fewer first rows = rw length-filter (count_by-le-length (λ r. not (is_like schema first r)) rows)

  -- the rows of the key of the first are some
  pub some_own : (first : Row) (others own : List Row) → own ≡ filter (is_like schema first) (first ∷ others) → 0 < length own
  some_own first others own is =
      let kept : filter (is_like schema first) (first ∷ others) ≡ first ∷ filter (is_like schema first) others = kept_first (is_like schema first first) first (filter (is_like schema first) others) (like_itself first) in
      omega (arith, ap length (is ∙ kept))

  -- ---- the lists of one key

  -- of at least one row
  pub folds_leave : (rows out : List Row) → 0 < length rows → TableFolds schema rows out → Leaves (TableFolds schema) rows out
  folds_leave [] out some folds = absurd (omega (arith, some))
  folds_leave (row ∷ rows) out some folds = folds

  leave_folds : (rows out : List Row) → 0 < length rows → Leaves (TableFolds schema) rows out → TableFolds schema rows out
  leave_folds [] out some leaves = absurd (omega (arith, some))
  leave_folds (row ∷ rows) out some leaves = leaves

  -- what may be seen of at least one row of a key, by its lists with FINAL or without it
  abbrev ListsOf : Bool → List (Option Aggregate) → List Row → List Row → Type 0
  ListsOf true functions own out = Folds schema.engine functions own out
  ListsOf false functions own out = ComesFrom (Run schema.engine functions) own out

  lists_see : (is_final : Bool) (own : List Row) → 0 < length own → (out : List Row) → ListsOf is_final (functions_of schema) own out ↔ KeySees schema is_final own out
  lists_see true own some out = (folds_leave own out some, leave_folds own out some)
  lists_see false own some out = (λ h. h, λ h. h)

  pub key_exactly : (is_final : Bool) (row : Row) (own : List Row) (functions : List (Option Aggregate)) (lists outs : List (List Row)) → 0 < length own → functions ≡ functions_of schema
      → (is_final ≡ true → AreExactly lists (Folds schema.engine functions own)) → (is_final ≡ false → AreExactly lists (ComesFrom (Run schema.engine functions) own))
      → outs ≡ filter (list_all (is_like schema row)) lists → AreExactly outs (λ out. KeySees schema is_final own out × (list_all (is_like schema row) out ≡ true))
  key_exactly is_final row own functions lists outs some functions_are folded merged is =
      subst (λ (zs : List (List Row)). AreExactly zs (λ out. KeySees schema is_final own out × (list_all (is_like schema row) out ≡ true))) (sym is)
      (exactly_filtered (KeySees schema is_final own) (λ out. KeySees schema is_final own out × (list_all (is_like schema row) out ≡ true)) (list_all (is_like schema row)) lists
      (λ x. let from = by is_final folded merged x in let to = lists_see is_final own some x in (λ h. to.0 (from.0 h), λ h. from.1 (to.1 h))) (λ x seen e. (seen, e)) (λ x q. q))
    where
      by : (b : Bool) → (b ≡ true → AreExactly lists (Folds schema.engine functions own)) → (b ≡ false → AreExactly lists (ComesFrom (Run schema.engine functions) own))
          → AreExactly lists (ListsOf b (functions_of schema) own)
      by true f m = subst (λ (fs : List (Option Aggregate)). AreExactly lists (Folds schema.engine fs own)) functions_are (f refl)
      by false f m = subst (λ (fs : List (Option Aggregate)). AreExactly lists (ComesFrom (Run schema.engine fs) own)) functions_are (m refl)

none_of : (rows : List Row) → length rows ≡ 0 → rows ≡ []
none_of [] e = refl
none_of (row ∷ rows) e = absurd (omega arith)

pub seen_of_none : (schema : Schema) (is_final : Bool) (rows none : List Row) (lefts : List (List Row)) → length rows ≡ 0 → none ≡ [] → lefts ≡ none ∷ [] → AreSeen schema is_final rows lefts
seen_of_none schema is_final rows none lefts size none_is is =
    subst (λ (rs : List Row). AreSeen schema is_final rs lefts) (sym (none_of rows size)) (seen_none schema is_final lefts (is ∙ ap (λ (r : List Row). r ∷ []) none_is))
