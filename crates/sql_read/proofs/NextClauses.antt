-- The clauses of a CREATE, one after those before it, by the next token.
use Rattle.std.proofs.Common.{◌≡◌, ℕ, suc, ◌+◌, ◌-◌, ◌<◌, ◌≤◌, Bool, true, false, List, [], ◌∷◌, ◌++◌, Option, Some, None, Result, Ok, Err, arith, ◌∙◌, sym, ap, codes}
use Rattle.std.specs.List.{list_any}
use Rattle.std.specs.Result.{IsErrAnd}
use Rattle.mt_base.specs.declared.stop.Stop.{Stop}
use Rattle.mt_values.specs.declared.statement.Clause.{Clause}
use Rattle.mt_values.specs.declared.statement.Slip.{Slip}
use Rattle.mt_values.specs.declared.statement.Statement.{Statement}
use Rattle.mt_values.specs.declared.token.Placed.{Placed}
use Rattle.mt_values.specs.declared.token.Token.{Token}
use Rattle.mt_values.specs.Grammar.{begins, clauses, clauses_within, is_granularity, is_order_by, is_partition_by, is_primary_key, order_by, partition_by, primary_key, settings}
use Rattle.mt_values.specs.Readers.{Reader, choose, either}
use Rattle.sql_read.specs.Parts.{found_clause, next_clause}
use Rattle.sql_read.specs.Reads.{Reads, first_is}
use Rattle.sql_read.proofs.Chains.{reads_rest, reads_stop}
use Rattle.sql_read.proofs.Choices.{choose_other, choose_this}

-- ---- one clause

-- the tokens that begin a clause after those before it
abbrev pub by_partition : List Clause → Token → Bool
by_partition seen = begins (codes "PARTITION") is_partition_by seen

abbrev pub by_primary : List Clause → Token → Bool
by_primary seen = begins (codes "PRIMARY") is_primary_key seen

abbrev pub by_settings : List Clause → Token → Bool
by_settings seen = begins (codes "SETTINGS") is_granularity seen

module _ {S : Type 0} (seen : List Clause) (more : Clause → Reader S) (over : Reader S) where
  -- what may come where no PARTITION does
  abbrev pub no_partition_way : Reader S
  no_partition_way = choose (by_primary seen) (primary_key more) (choose (by_settings seen) (settings more) (either (list_any is_order_by seen) over (order_by more)))

  -- and where no PRIMARY does
  abbrev pub no_primary_way : Reader S
  no_primary_way = choose (by_settings seen) (settings more) (either (list_any is_order_by seen) over (order_by more))

  -- and where no SETTINGS does
  abbrev pub last_way : Reader S
  last_way = either (list_any is_order_by seen) over (order_by more)

module _ (seen : List Clause) (from : List Placed) (r : Result (Option Clause) (Stop Slip)) (to : List Placed) where
  -- a PARTITION BY comes next
  pub reads_partition : first_is (by_partition seen) from ≡ true → Reads (found_clause partition_by) from r to → Reads (next_clause seen) from r to
  reads_partition here read =
      reads_rest (next_clause seen) (found_clause partition_by) from from
      (λ next. choose_this (by_partition seen) (partition_by (λ c. next (Some c))) (no_partition_way seen (λ c. next (Some c)) (next None)) from here)
      r to read

  module _ (no_partition : first_is (by_partition seen) from ≡ false) where
    past_partition : (next : Option Clause → Reader Statement) → next_clause seen next from ≡ no_partition_way seen (λ c. next (Some c)) (next None) from
    past_partition next = choose_other (by_partition seen) (partition_by (λ c. next (Some c))) (no_partition_way seen (λ c. next (Some c)) (next None)) from no_partition

    -- a PRIMARY KEY does
    pub reads_primary : first_is (by_primary seen) from ≡ true → Reads (found_clause primary_key) from r to → Reads (next_clause seen) from r to
    reads_primary here read =
        reads_rest (next_clause seen) (found_clause primary_key) from from
        (λ next. past_partition next ∙ choose_this (by_primary seen) (primary_key (λ c. next (Some c))) (no_primary_way seen (λ c. next (Some c)) (next None)) from here)
        r to read

    module _ (no_primary : first_is (by_primary seen) from ≡ false) where
      past_primary : (next : Option Clause → Reader Statement) → next_clause seen next from ≡ no_primary_way seen (λ c. next (Some c)) (next None) from
      past_primary next = past_partition next ∙ choose_other (by_primary seen) (primary_key (λ c. next (Some c))) (no_primary_way seen (λ c. next (Some c)) (next None)) from no_primary

      -- SETTINGS does
      pub reads_settings : first_is (by_settings seen) from ≡ true → Reads (found_clause settings) from r to → Reads (next_clause seen) from r to
      reads_settings here read =
          reads_rest (next_clause seen) (found_clause settings) from from
          (λ next. past_primary next ∙ choose_this (by_settings seen) (settings (λ c. next (Some c))) (last_way seen (λ c. next (Some c)) (next None)) from here)
          r to read

      module _ (no_settings : first_is (by_settings seen) from ≡ false) where
        pub past_settings : (has : Bool) → list_any is_order_by seen ≡ has → (next : Option Clause → Reader Statement) → next_clause seen next from ≡ either has (next None) (order_by (λ c. next (Some c))) from
        past_settings has is next =
            past_primary next
            ∙ (choose_other (by_settings seen) (settings (λ c. next (Some c))) (last_way seen (λ c. next (Some c)) (next None)) from no_settings
            ∙ ap (λ (b : Bool). either b (next None) (order_by (λ c. next (Some c))) from) is)

        -- an ORDER BY must come
        pub reads_order : list_any is_order_by seen ≡ false → Reads (found_clause order_by) from r to → Reads (next_clause seen) from r to
        reads_order none read = reads_rest (next_clause seen) (found_clause order_by) from from (past_settings false none) r to read

-- ---- all clauses

-- what comes after one more clause, or none, where at most so many come after it
abbrev pub after_clause : ℕ → List Clause → (List Clause → Reader Statement) → Option Clause → Reader Statement
after_clause n seen next (Some c) = clauses_within n (seen ++ c ∷ []) next
after_clause n seen next None = next seen

one_less : (count : ℕ) → count < 4 → 4 - count ≡ suc (4 - (count + 1))
one_less count less = omega arith

none_left : (count : ℕ) → 4 ≤ count → 4 - count ≡ 0
none_left count most = omega arith

-- so many clauses were read of all of them
module _ (count : ℕ) (seen : List Clause) (start from : List Placed) (left : (next : List Clause → Reader Statement) → clauses_within (4 - count) seen next from ≡ clauses next start) where
  -- no more may come
  pub clauses_all : 4 ≤ count → (next : List Clause → Reader Statement) → clauses next start ≡ next seen from
  clauses_all most next = sym (left next) ∙ ap (λ n. clauses_within n seen next from) (none_left count most)

  module _ (less : count < 4) (to : List Placed) where
    along : (next : List Clause → Reader Statement) → clauses next start ≡ next_clause seen (after_clause (4 - (count + 1)) seen next) from
    along next = sym (left next) ∙ ap (λ n. clauses_within n seen next from) (one_less count less)

    -- the next one is refused
    pub clause_stops : (e : Stop Slip) → Reads (next_clause seen) from (Err e) to → (r : Result (List Clause) (Stop Slip)) → IsErrAnd r (λ y. y ≡ e) → Reads clauses start r to
    clause_stops e read r is = reads_stop clauses (next_clause seen) (after_clause (4 - (count + 1)) seen) start from along e to read r is

    -- there is no other
    pub clauses_over : Reads (next_clause seen) from (Ok None) to → (next : List Clause → Reader Statement) → clauses next start ≡ next seen to
    clauses_over read next = along next ∙ read (after_clause (4 - (count + 1)) seen next)

    -- there is one more
    pub clauses_more : (c : Clause) → Reads (next_clause seen) from (Ok (Some c)) to → (next : List Clause → Reader Statement) → clauses_within (4 - (count + 1)) (seen ++ c ∷ []) next to ≡ clauses next start
    clauses_more c read next = sym (along next ∙ read (after_clause (4 - (count + 1)) seen next))
