-- The mutations of a table, command by command, and the skip indexes that they leave.
use Rattle.std.proofs.Common.{◌≡◌, ℕ, ◌+◌, Bool, true, false, cond, not, ◌&&◌, ◌||◌, List, [], ◌∷◌, ◌++◌, filter, nat_lt, refl, sym, ap, ◌∙◌, append-nil, append_assoc}
use Rattle.std.specs.List.{list_any}
use Rattle.mt_values.specs.declared.command.Alter.{Alter}
use Rattle.mt_values.specs.declared.command.Command.{Command}
use Rattle.mt_values.specs.declared.command.Command.TheVariants as command
use Rattle.mt_values.specs.declared.command.Insert.{Insert}
use Rattle.mt_values.specs.declared.mutation.Mutation.{Mutation}
use Rattle.mt_values.specs.declared.schema.SkipIndex.{SkipIndex}
use Rattle.mt_values.specs.Changes.{assigns, is_assigned}
use Rattle.mt_values.specs.Grammar.{same_bytes}
use Rattle.part_history.specs.mt_model.Explain.{indexes_beside, pending_above}
use Rattle.part_history.specs.mt_model.History.{History}
use Rattle.part_history.specs.mt_model.Numbers.{draws, mutations_among, mutations_in, numbered}
use Rattle.mt_plain.specs.Portions.{is_put_later, last_after, mutations_after, mutations_from, with_indexes}

-- ---- the mutations of a table

module _ (t : List ℕ) where
  among_from : (last : ℕ) (ms : List Mutation) (h : History) → mutations_from t last ms h ≡ ms ++ mutations_among (last + 1) (numbered t h)
  among_from last ms [] = sym (append-nil ms)
  among_from last ms (e ∷ es) = by (λ n ns. among_from n ns es) e.command
    where
      inserted : ((n : ℕ) (ns : List Mutation) → mutations_from t n ns es ≡ ns ++ mutations_among (n + 1) (numbered t es)) → (i : Insert) (b : Bool)
          → mutations_from t (cond b (last + 1) last) ms es ≡ ms ++ mutations_among (last + 1) (cond b (command.Insert i ∷ numbered t es) (numbered t es))
      inserted again i true = again (last + 1) ms
      inserted again i false = again last ms

      altered : ((n : ℕ) (ns : List Mutation) → mutations_from t n ns es ≡ ns ++ mutations_among (n + 1) (numbered t es)) → (a : Alter) (b : Bool)
          → mutations_from t (cond b (last + 1) last) (cond b (ms ++ record { number = last + 1; change = a.change } ∷ []) ms) es ≡ ms ++ mutations_among (last + 1) (cond b (command.Alter a ∷ numbered t es) (numbered t es))
      altered again a true =
          let m : Mutation = record { number = last + 1; change = a.change } in
          again (last + 1) (ms ++ m ∷ []) ∙ append_assoc ms (m ∷ []) (mutations_among (last + 1 + 1) (numbered t es))
      altered again a false = again last ms

      by : ((n : ℕ) (ns : List Mutation) → mutations_from t n ns es ≡ ns ++ mutations_among (n + 1) (numbered t es)) → (c : Command)
          → mutations_from t (last_after t last c) (mutations_after t last ms c) es ≡ ms ++ mutations_among (last + 1) (cond (draws t c) (c ∷ numbered t es) (numbered t es))
      by again (command.Create c) = again last ms
      by again (command.Insert i) = inserted again i (same_bytes i.table t)
      by again (command.Alter a) = altered again a (same_bytes a.table t)

-- the mutations that were found command by command
pub all_found : (t : List ℕ) (h : History) → mutations_from t 0 [] h ≡ mutations_in t h
all_found t h = among_from t 0 [] h

-- ---- the indexes that are left

put_by : (version place : ℕ) (later : Bool) (m : Mutation) (ms : List Mutation)
    → (list_any (is_put_later version place) ms ≡ list_any (λ (n : Mutation). assigns n.change place) (filter (λ (n : Mutation). nat_lt version n.number) ms))
    → (later && assigns m.change place || list_any (is_put_later version place) ms)
    ≡ list_any (λ (n : Mutation). assigns n.change place) (cond later (m ∷ filter (λ (n : Mutation). nat_lt version n.number) ms) (filter (λ (n : Mutation). nat_lt version n.number) ms))
put_by version place true m ms e = ap (λ b. assigns m.change place || b) e
put_by version place false m ms e = e

pub put_above : (version place : ℕ) (ms : List Mutation) → list_any (is_put_later version place) ms ≡ is_assigned (pending_above ms version) place
put_above version place [] = refl
put_above version place (m ∷ ms) = put_by version place (nat_lt version m.number) m ms (put_above version place ms)

module _ (pending : List Mutation) where
  beside_from : (left indexes : List SkipIndex) → with_indexes pending left indexes ≡ left ++ indexes_beside pending indexes
  beside_from left [] = sym (append-nil left)
  beside_from left (i ∷ indexes) = by (λ others. beside_from others indexes) (is_assigned pending i.column)
    where
      by : ((others : List SkipIndex) → with_indexes pending others indexes ≡ others ++ indexes_beside pending indexes) → (b : Bool)
          → with_indexes pending (cond b left (left ++ i ∷ [])) indexes ≡ left ++ cond (not b) (i ∷ indexes_beside pending indexes) (indexes_beside pending indexes)
      by again true = again left
      by again false = again (left ++ i ∷ []) ∙ append_assoc left (i ∷ []) (indexes_beside pending indexes)

  -- the indexes that were left one by one
  pub all_beside : (indexes : List SkipIndex) → with_indexes pending [] indexes ≡ indexes_beside pending indexes
  all_beside indexes = beside_from [] indexes
