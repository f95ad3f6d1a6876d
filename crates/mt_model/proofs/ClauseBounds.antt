-- There are four kinds of clauses, so a bound of four or more on the number of clauses cuts none off.
use Rattle.std.proofs.Common.{◌≡◌, ℕ, ◌≤◌, Bool, true, false, ◌&&◌, min, List, [], ◌∷◌, ◌++◌, refl, sym, ap, ap₂, ◌∙◌, arith, zero, suc, codes}
use Rattle.std.specs.List.{list_any}
use Rattle.mt_values.specs.declared.statement.Clause.{Clause}
use Rattle.mt_values.specs.declared.statement.Clause.TheVariants as clause
use Rattle.mt_values.specs.declared.statement.Statement.{Statement}
use Rattle.mt_values.specs.declared.token.Placed.{Placed}
use Rattle.mt_values.specs.declared.token.Symbol.TheVariants as symbol
use Rattle.mt_values.specs.declared.token.Token.{Token}
use Rattle.mt_values.specs.Tokens.{is_keyword}
use Rattle.mt_values.specs.Readers.{Reader, either, expect, choose}
use Rattle.mt_values.specs.Grammar as grammar
use Rattle.mt_model.proofs.ClauseKeys.{kinds_left, missing, granularity_left, order_left, partition_left, primary_left}

-- functions that give the same are one
each_same : {X : Type 0} {Y : Type 0} (f g : X → Y) → ((x : X) → f x ≡ g x) → f ≡ g
each_same f g same = λ i x. same x i

module _ (seen : List Clause) (word : List ℕ) (kind : Clause → Bool) where
  -- no token begins a clause of a kind that came
  never_begins : list_any kind seen ≡ true → (t : Token) → grammar.begins word kind seen t ≡ false
  never_begins there t = rw there (by (grammar.is_word (is_keyword word) t))
    where
      by : (b : Bool) → (b && false) ≡ false
      by true = refl
      by false = refl

  passed : (this other : Reader Statement) → list_any kind seen ≡ true → choose (grammar.begins word kind seen) this other ≡ other
  passed this other there = each_same (choose (grammar.begins word kind seen) this other) other by
    where
      by : (ts : List Placed) → choose (grammar.begins word kind seen) this other ts ≡ other ts
      by [] = refl
      by (p ∷ ps) = ap (λ b. either b this other (p ∷ ps)) (never_begins there p.token)

  -- one way is the same where the kind is missing, and the other is the same
  kind_same : (this that other rest : Reader Statement) → (list_any kind seen ≡ false → this ≡ that) → other ≡ rest → choose (grammar.begins word kind seen) this other ≡ choose (grammar.begins word kind seen) that rest
  kind_same this that other rest same over = by (list_any kind seen) refl
    where
      by : (b : Bool) → list_any kind seen ≡ b → choose (grammar.begins word kind seen) this other ≡ choose (grammar.begins word kind seen) that rest
      by true there = passed this other there ∙ over ∙ sym (passed that rest there)
      by false none = ap₂ (choose (grammar.begins word kind seen)) (same none) over

none_missing : (b : Bool) → missing b ≤ 0 → b ≡ true
none_missing true none = refl
none_missing false none = absurd (omega arith)

-- where each kind came, nothing but what follows the clauses is read
over_is : (seen : List Clause) (more : Clause → Reader Statement) (over : Reader Statement) → kinds_left seen ≤ 0 → grammar.clause_or_over seen more over ≡ over
over_is seen more over none =
    passed seen (codes "PARTITION") grammar.is_partition_by (grammar.partition_by more) _ (none_missing (list_any grammar.is_partition_by seen) (omega (arith, none)))
    ∙ (passed seen (codes "PRIMARY") grammar.is_primary_key (grammar.primary_key more) _ (none_missing (list_any grammar.is_primary_key seen) (omega (arith, none)))
    ∙ (passed seen (codes "SETTINGS") grammar.is_granularity (grammar.settings more) _ (none_missing (list_any grammar.is_granularity seen) (omega (arith, none)))
    ∙ ap (λ b. either b over (grammar.order_by more)) (none_missing (list_any grammar.is_order_by seen) (omega (arith, none)))))

-- one more clause is the same where what follows it is the same
step_same : (n : ℕ) (seen : List Clause) (f g : Clause → Reader Statement) (over : Reader Statement) → kinds_left seen ≤ suc n → ((c : Clause) → kinds_left (seen ++ c ∷ []) ≤ n → f c ≡ g c)
    → grammar.clause_or_over seen f over ≡ grammar.clause_or_over seen g over
step_same n seen f g over left same =
    kind_same seen (codes "PARTITION") grammar.is_partition_by (grammar.partition_by f) (grammar.partition_by g) _ _
    (λ none. ap (λ next. expect (grammar.keyword (codes "PARTITION")) (λ _. expect (grammar.keyword (codes "BY")) (λ _. expect grammar.name next)))
    (each_same (λ n. f (clause.PartitionBy n)) (λ n. g (clause.PartitionBy n)) (λ name. same (clause.PartitionBy name) (partition_left n seen left name none))))
    (kind_same seen (codes "PRIMARY") grammar.is_primary_key (grammar.primary_key f) (grammar.primary_key g) _ _
    (λ none. ap (λ next. expect (grammar.keyword (codes "PRIMARY")) (λ _. expect (grammar.keyword (codes "KEY")) (λ _. grammar.key next)))
    (each_same (λ names. f (clause.PrimaryKey names)) (λ names. g (clause.PrimaryKey names)) (λ names. same (clause.PrimaryKey names) (primary_left n seen left names none))))
    (kind_same seen (codes "SETTINGS") grammar.is_granularity (grammar.settings f) (grammar.settings g) _ _
    (λ none. ap (λ next. expect (grammar.keyword (codes "SETTINGS")) (λ _. expect (grammar.exactly (codes "index_granularity")) (λ _. expect (grammar.the symbol.Equal) (λ _. expect grammar.number next))))
    (each_same (λ digits. f (clause.Granularity digits)) (λ digits. g (clause.Granularity digits)) (λ digits. same (clause.Granularity digits) (granularity_left n seen left digits none))))
    (last (list_any grammar.is_order_by seen) refl)))
  where
    last : (b : Bool) → list_any grammar.is_order_by seen ≡ b → either b over (grammar.order_by f) ≡ either b over (grammar.order_by g)
    last true there = refl
    last false none =
        ap (λ next. expect (grammar.keyword (codes "ORDER")) (λ _. expect (grammar.keyword (codes "BY")) (λ _. grammar.key next)))
        (each_same (λ names. f (clause.OrderBy names)) (λ names. g (clause.OrderBy names)) (λ names. same (clause.OrderBy names) (order_left n seen left names none)))

within_same : (n m : ℕ) (seen : List Clause) (next : List Clause → Reader Statement) → kinds_left seen ≤ n → kinds_left seen ≤ m → grammar.clauses_within n seen next ≡ grammar.clauses_within m seen next
within_same zero zero seen next low high = refl
within_same zero (suc m) seen next low high = sym (over_is seen (λ c. grammar.clauses_within m (seen ++ c ∷ []) next) (next seen) low)
within_same (suc n) zero seen next low high = over_is seen (λ c. grammar.clauses_within n (seen ++ c ∷ []) next) (next seen) high
within_same (suc n) (suc m) seen next low high =
    step_same (min n m) seen (λ c. grammar.clauses_within n (seen ++ c ∷ []) next) (λ c. grammar.clauses_within m (seen ++ c ∷ []) next) (next seen) (omega (arith, low, high))
    (λ c fewer. within_same n m (seen ++ c ∷ []) next (omega (arith, fewer)) (omega (arith, fewer)))

pub clauses_same : (n m : ℕ) (next : List Clause → Reader Statement) (ts : List Placed) → 4 ≤ n → 4 ≤ m → grammar.clauses_within n [] next ts ≡ grammar.clauses_within m [] next ts
clauses_same n m next ts low high = ap (λ (r : Reader Statement). r ts) (within_same n m [] next (omega arith) (omega arith))
