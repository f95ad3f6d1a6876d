-- The clauses that the grammar's readers give: ORDER BY is among them, and each key names a column.
use Rattle.std.proofs.Common.{◌≡◌, ℕ, ◌+◌, ◌<◌, ◌≤◌, Bool, true, false, not, ◌&&◌, ◌||◌, List, [], ◌∷◌, ◌++◌, Option, Some, None, length, unwrap_or, refl, ap, arith, zero, suc, codes}
use Rattle.std.specs.List.{AllByRecursion, list_any}
use Rattle.std.specs.Option.{IfSome}
use Rattle.mt_values.specs.declared.statement.Clause.{Clause}
use Rattle.mt_values.specs.declared.statement.Clause.TheVariants as clause
use Rattle.mt_values.specs.declared.statement.Statement.{Statement}
use Rattle.mt_values.specs.declared.token.Token.{Token}
use Rattle.mt_values.specs.Tokens.{is_keyword}
use Rattle.mt_values.specs.Readers.{Reader, either, choose}
use Rattle.mt_values.specs.Grammar as grammar
use Rattle.mt_model.specs.Clauses.{NamesKeys, given_primary, sorting_names}
use Rattle.mt_model.proofs.Giving.{Gives, GivesAll, expect_gives, key_gives}

-- ---- what the clauses name

-- a key names at least one column
abbrev NamesColumn : Clause → Type 0
NamesColumn (clause.OrderBy names) = 0 < length names
NamesColumn (clause.PartitionBy name) = Unit {0}
NamesColumn (clause.PrimaryKey names) = 0 < length names
NamesColumn (clause.Granularity digits) = Unit {0}

abbrev Name : List Clause → Type 0
Name cs = AllByRecursion NamesColumn cs

names_push : (cs : List Clause) (c : Clause) → Name cs → NamesColumn c → Name (cs ++ c ∷ [])
names_push [] c each one = (one, tt)
names_push (d ∷ cs) c each one = (each.0, names_push cs c each.1 one)

sorting_some : (cs : List Clause) → Name cs → list_any grammar.is_order_by cs ≡ true → 0 < length (sorting_names cs)
sorting_some [] each there = cc
sorting_some (clause.OrderBy names ∷ cs) each there = each.0
sorting_some (clause.PartitionBy name ∷ cs) each there = sorting_some cs each.1 there
sorting_some (clause.PrimaryKey names ∷ cs) each there = sorting_some cs each.1 there
sorting_some (clause.Granularity digits ∷ cs) each there = sorting_some cs each.1 there

given_some : (cs : List Clause) → Name cs → IfSome (given_primary cs) (λ names. 0 < length names)
given_some [] each = tt
given_some (clause.PrimaryKey names ∷ cs) each = each.0
given_some (clause.OrderBy names ∷ cs) each = given_some cs each.1
given_some (clause.PartitionBy name ∷ cs) each = given_some cs each.1
given_some (clause.Granularity digits ∷ cs) each = given_some cs each.1

names_keys : (cs : List Clause) → Name cs → list_any grammar.is_order_by cs ≡ true → NamesKeys cs
names_keys cs each there = record { sorting = sorting_some cs each there; primary = by (given_primary cs) (given_some cs each) }
  where
    by : (o : Option (List (List ℕ))) → IfSome o (λ names. 0 < length names) → 0 < length (unwrap_or o (sorting_names cs))
    by None some = sorting_some cs each there
    by (Some names) some = some

-- ---- how many kinds of clauses are left

abbrev pub missing : Bool → ℕ
missing true = 0
missing false = 1

abbrev pub kinds_left : List Clause → ℕ
kinds_left cs =
    missing (list_any grammar.is_order_by cs) + missing (list_any grammar.is_partition_by cs)
    + missing (list_any grammar.is_primary_key cs) + missing (list_any grammar.is_granularity cs)

any_kept : (p : Clause → Bool) (cs : List Clause) (c : Clause) → p c ≡ false → list_any p (cs ++ c ∷ []) ≡ list_any p cs
any_kept p [] c is = rw is refl
any_kept p (d ∷ cs) c is = ap (λ b. p d || b) (any_kept p cs c is)

any_came : (p : Clause → Bool) (cs : List Clause) (c : Clause) → p c ≡ true → list_any p (cs ++ c ∷ []) ≡ true
any_came p [] c is = rw is refl
any_came p (d ∷ cs) c is = by (p d) (any_came p cs c is)
  where
    by : (b : Bool) → list_any p (cs ++ c ∷ []) ≡ true → (b || list_any p (cs ++ c ∷ [])) ≡ true
    by true more = refl
    by false more = more

kept : (p : Clause → Bool) (cs : List Clause) (c : Clause) → p c ≡ false → missing (list_any p (cs ++ c ∷ [])) ≡ missing (list_any p cs)
kept p cs c is = ap missing (any_kept p cs c is)

came : (p : Clause → Bool) (cs : List Clause) (c : Clause) → p c ≡ true → missing (list_any p (cs ++ c ∷ [])) ≡ 0
came p cs c is = ap missing (any_came p cs c is)

-- where none is left, ORDER BY has come
order_came : (cs : List Clause) → kinds_left cs ≤ 0 → list_any grammar.is_order_by cs ≡ true
order_came cs none = by (list_any grammar.is_order_by cs) refl
  where
    by : (b : Bool) → list_any grammar.is_order_by cs ≡ b → b ≡ true
    by true is = refl
    by false is = let one : missing (list_any grammar.is_order_by cs) ≡ 1 = ap missing is in absurd (omega (arith, one, none))

-- a clause of a kind of which there was none leaves one kind less
module _ (n : ℕ) (cs : List Clause) (most : kinds_left cs ≤ suc n) where
  pub order_left : (names : List (List ℕ)) → list_any grammar.is_order_by cs ≡ false → kinds_left (cs ++ clause.OrderBy names ∷ []) ≤ n
  order_left names none =
      let c = clause.OrderBy names in
      let was : missing (list_any grammar.is_order_by cs) ≡ 1 = ap missing none in
      omega (arith, most, was, came grammar.is_order_by cs c refl, kept grammar.is_partition_by cs c refl, kept grammar.is_primary_key cs c refl, kept grammar.is_granularity cs c refl)

  pub partition_left : (name : List ℕ) → list_any grammar.is_partition_by cs ≡ false → kinds_left (cs ++ clause.PartitionBy name ∷ []) ≤ n
  partition_left name none =
      let c = clause.PartitionBy name in
      let was : missing (list_any grammar.is_partition_by cs) ≡ 1 = ap missing none in
      omega (arith, most, was, kept grammar.is_order_by cs c refl, came grammar.is_partition_by cs c refl, kept grammar.is_primary_key cs c refl, kept grammar.is_granularity cs c refl)

  pub primary_left : (names : List (List ℕ)) → list_any grammar.is_primary_key cs ≡ false → kinds_left (cs ++ clause.PrimaryKey names ∷ []) ≤ n
  primary_left names none =
      let c = clause.PrimaryKey names in
      let was : missing (list_any grammar.is_primary_key cs) ≡ 1 = ap missing none in
      omega (arith, most, was, kept grammar.is_order_by cs c refl, kept grammar.is_partition_by cs c refl, came grammar.is_primary_key cs c refl, kept grammar.is_granularity cs c refl)

  pub granularity_left : (digits : List ℕ) → list_any grammar.is_granularity cs ≡ false → kinds_left (cs ++ clause.Granularity digits ∷ []) ≤ n
  granularity_left digits none =
      let c = clause.Granularity digits in
      let was : missing (list_any grammar.is_granularity cs) ≡ 1 = ap missing none in
      omega (arith, most, was, kept grammar.is_order_by cs c refl, kept grammar.is_partition_by cs c refl, kept grammar.is_primary_key cs c refl, came grammar.is_granularity cs c refl)

-- ---- what readers give after clauses

module _ (T : Token → Type 0) (Good : Statement → Type 0) where
  abbrev All_good : Reader Statement → Type 0
  All_good reader = GivesAll T Good reader

  -- one way is gone only where the next token passes its test
  choose_gives_if : (test : Token → Bool) (this other : Reader Statement) → ((t : Token) → test t ≡ true → All_good this) → All_good other → All_good (choose test this other)
  choose_gives_if test this other h k [] known = k [] known
  choose_gives_if test this other h k (p ∷ ps) known = by (test p.token) refl
    where
      by : (b : Bool) → test p.token ≡ b → Gives T Good (either b this other (p ∷ ps))
      by true is = h p.token is (p ∷ ps) known
      by false is = k (p ∷ ps) known

  -- the keyword of a kind begins a clause where there is none of the kind yet
  none_yet : (word : List ℕ) (kind : Clause → Bool) (seen : List Clause) (t : Token) → grammar.begins word kind seen t ≡ true → list_any kind seen ≡ false
  none_yet word kind seen t is = by (grammar.is_word (is_keyword word) t) (list_any kind seen) is
    where
      by : (a b : Bool) → (a && not b) ≡ true → b ≡ false
      by true true is = cc
      by true false is = refl
      by false b is = cc

  partition_gives : (next : Clause → Reader Statement) → ((name : List ℕ) → All_good (next (clause.PartitionBy name))) → All_good (grammar.partition_by next)
  partition_gives next each = expect_gives T Good _ _ (λ _. expect_gives T Good _ _ (λ _. expect_gives T Good grammar.name _ (λ name. each name)))

  settings_gives : (next : Clause → Reader Statement) → ((digits : List ℕ) → All_good (next (clause.Granularity digits))) → All_good (grammar.settings next)
  settings_gives next each =
      expect_gives T Good _ _ (λ _. expect_gives T Good _ _ (λ _. expect_gives T Good _ _ (λ _. expect_gives T Good grammar.number _ (λ digits. each digits))))

  primary_gives : (next : Clause → Reader Statement) → ((names : List (List ℕ)) → 0 < length names → All_good (next (clause.PrimaryKey names))) → All_good (grammar.primary_key next)
  primary_gives next each = expect_gives T Good _ _ (λ _. expect_gives T Good _ _ (λ _. key_gives T Good (λ names. next (clause.PrimaryKey names)) each))

  order_gives : (next : Clause → Reader Statement) → ((names : List (List ℕ)) → 0 < length names → All_good (next (clause.OrderBy names))) → All_good (grammar.order_by next)
  order_gives next each = expect_gives T Good _ _ (λ _. expect_gives T Good _ _ (λ _. key_gives T Good (λ names. next (clause.OrderBy names)) each))

  -- one more clause, or what follows the clauses
  step_gives : (n : ℕ) (seen : List Clause) (more : Clause → Reader Statement) (over : Reader Statement) → kinds_left seen ≤ suc n → ((c : Clause) → kinds_left (seen ++ c ∷ []) ≤ n → NamesColumn c → All_good (more c))
      → (list_any grammar.is_order_by seen ≡ true → All_good over) → All_good (grammar.clause_or_over seen more over)
  step_gives n seen more over left go end =
      choose_gives_if (grammar.begins (codes "PARTITION") grammar.is_partition_by seen) (grammar.partition_by more) _
      (λ t is. partition_gives more (λ name. go (clause.PartitionBy name) (partition_left n seen left name (none_yet (codes "PARTITION") grammar.is_partition_by seen t is)) tt))
      (choose_gives_if (grammar.begins (codes "PRIMARY") grammar.is_primary_key seen) (grammar.primary_key more) _
      (λ t is. primary_gives more (λ names some. go (clause.PrimaryKey names) (primary_left n seen left names (none_yet (codes "PRIMARY") grammar.is_primary_key seen t is)) some))
      (choose_gives_if (grammar.begins (codes "SETTINGS") grammar.is_granularity seen) (grammar.settings more) _
      (λ t is. settings_gives more (λ digits. go (clause.Granularity digits) (granularity_left n seen left digits (none_yet (codes "SETTINGS") grammar.is_granularity seen t is)) tt))
      (last (list_any grammar.is_order_by seen) refl)))
    where
      last : (b : Bool) → list_any grammar.is_order_by seen ≡ b → All_good (either b over (grammar.order_by more))
      last true is = end is
      last false is = order_gives more (λ names some. go (clause.OrderBy names) (order_left n seen left names is) some)

  within_gives : (n : ℕ) (seen : List Clause) (next : List Clause → Reader Statement) → kinds_left seen ≤ n → Name seen → ((cs : List Clause) → NamesKeys cs → All_good (next cs)) → All_good (grammar.clauses_within n seen next)
  within_gives zero seen next left named each = each seen (names_keys seen named (order_came seen left))
  within_gives (suc n) seen next left named each =
      step_gives n seen (λ c. grammar.clauses_within n (seen ++ c ∷ []) next) (next seen) left
      (λ c fewer one. within_gives n (seen ++ c ∷ []) next fewer (names_push seen c named one) each)
      (λ is. each seen (names_keys seen named is))

  pub clauses_give : (next : List Clause → Reader Statement) → ((cs : List Clause) → NamesKeys cs → All_good (next cs)) → All_good (grammar.clauses next)
  clauses_give next each = within_gives 4 [] next (omega arith) tt each
