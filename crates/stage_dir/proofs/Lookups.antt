-- What stands under a name once names changed.
use Rattle.std.proofs.Common.{◌≡◌, ◌≢◌, ℕ, Bool, true, false, List, [], ◌∷◌, Some, Ordering, cond, refl, sym, ap, ◌∙◌}
use Rattle.std.specs.Ordering.{nat_cmp, is_eq, match_ordering, ordering_reverse}
use Rattle.std.specs.declared.cmp.Ordering.TheVariants.{Less, Equal, Greater}
use Rattle.std.specs.Map.{remove_entry}
use Rattle.std.specs.BTreeMap.{insert_entry, is_at}
use Rattle.std.specs.Cmp.Lexicographic.{slice_cmp}
use Rattle.std.proofs.lemmas.Cmp.{nat_list_cmp_total}
use Rattle.std.proofs.lemmas.Map.Lookups.{exact_bytes}
use Rattle.mt_outside.specs.declared.disk.Change.{Change}
use Rattle.mt_outside.specs.declared.disk.Change.TheVariants.{Publish, Remove}
use Rattle.mt_outside.specs.Files.{Files}
use Rattle.mt_outside.specs.Disk.{Names, changed, files_at}
use Rattle.stage_dir.specs.Crashes.{IsOfOther}

-- what is its own reverse is `Equal`
own_reverse : (r : Ordering) → r ≡ ordering_reverse r → r ≡ Equal
own_reverse Less e = cc
own_reverse Equal e = refl
own_reverse Greater e = cc

-- a name is at itself
at_itself : (name : List ℕ) → is_at (slice_cmp nat_cmp name) name ≡ true
at_itself name = ap is_eq (own_reverse (slice_cmp nat_cmp name name) (nat_list_cmp_total.antisymm name name))

equal_is : (r : Ordering) → is_eq r ≡ true → r ≡ Equal
equal_is Less e = cc
equal_is Equal e = refl
equal_is Greater e = cc

-- a name is not at another
at_other : (name other : List ℕ) → other ≢ name → is_at (slice_cmp nat_cmp name) other ≡ false
at_other name other differ = by (is_at (slice_cmp nat_cmp name) other) refl
  where
    by : (b : Bool) → is_at (slice_cmp nat_cmp name) other ≡ b → b ≡ false
    by true e = absurd (differ (sym (exact_bytes name other (equal_is (slice_cmp nat_cmp name other) e))))
    by false e = refl

-- a name that was published has its files
pub published_at : (name : List ℕ) (files : Files) (names : Names) → files_at name (changed names (Publish name files)) ≡ Some files
published_at name files [] = rw (at_itself name) refl
published_at name files (n ∷ ns) = by (published_at name files ns) (slice_cmp nat_cmp name n.0) refl
  where
    by : files_at name (insert_entry (slice_cmp nat_cmp) ns name files) ≡ Some files → (r : Ordering) → slice_cmp nat_cmp name n.0 ≡ r
        → files_at name (match_ordering r ((name, files) ∷ n ∷ ns) ((n.0, files) ∷ ns) (n ∷ insert_entry (slice_cmp nat_cmp) ns name files)) ≡ Some files
    by rest Less e = rw (at_itself name) refl
    by rest Equal e = rw e refl
    by rest Greater e = rw e rest

-- another name keeps its files
inserted_other : (name other : List ℕ) (files : Files) (names : Names) → other ≢ name → files_at name (insert_entry (slice_cmp nat_cmp) names other files) ≡ files_at name names
inserted_other name other files [] differ = rw (at_other name other differ) refl
inserted_other name other files (n ∷ ns) differ = by (inserted_other name other files ns differ) (slice_cmp nat_cmp other n.0) refl
  where
    by : files_at name (insert_entry (slice_cmp nat_cmp) ns other files) ≡ files_at name ns → (r : Ordering) → slice_cmp nat_cmp other n.0 ≡ r
        → files_at name (match_ordering r ((other, files) ∷ n ∷ ns) ((n.0, files) ∷ ns) (n ∷ insert_entry (slice_cmp nat_cmp) ns other files)) ≡ files_at name (n ∷ ns)
    by rest Less e = rw (at_other name other differ) refl
    by rest Equal e =
        let same : other ≡ n.0 = exact_bytes other n.0 e in
        let away : is_at (slice_cmp nat_cmp name) n.0 ≡ false = at_other name n.0 (λ is. differ (same ∙ is)) in
        rw away refl
    by rest Greater e = ap (cond (is_at (slice_cmp nat_cmp name) n.0) (Some n.1)) rest

removed_other : (name other : List ℕ) (names : Names) → other ≢ name → files_at name (remove_entry (is_at (slice_cmp nat_cmp other)) names) ≡ files_at name names
removed_other name other [] differ = refl
removed_other name other (n ∷ ns) differ = by (removed_other name other ns differ) (is_at (slice_cmp nat_cmp other) n.0) refl
  where
    by : files_at name (remove_entry (is_at (slice_cmp nat_cmp other)) ns) ≡ files_at name ns → (b : Bool) → is_at (slice_cmp nat_cmp other) n.0 ≡ b → files_at name (cond b ns (n ∷ remove_entry (is_at (slice_cmp nat_cmp other)) ns)) ≡ files_at name (n ∷ ns)
    by rest true e =
        let same : other ≡ n.0 = exact_bytes other n.0 (equal_is (slice_cmp nat_cmp other n.0) e) in
        let away : is_at (slice_cmp nat_cmp name) n.0 ≡ false = at_other name n.0 (λ is. differ (same ∙ is)) in
        rw away refl
    by rest false e = ap (cond (is_at (slice_cmp nat_cmp name) n.0) (Some n.1)) rest

pub other_kept : (name : List ℕ) (change : Change Files) (names : Names) → IsOfOther name change → files_at name (changed names change) ≡ files_at name names
other_kept name (Publish other files) names differ = inserted_other name other files names differ
other_kept name (Remove other) names differ = removed_other name other names differ
