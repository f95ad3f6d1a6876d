-- The names that a disk tells stand in byte order.
use Rattle.std.proofs.Common.{◌≡◌, Bool, true, false, cond, List, [], ◌∷◌, refl, ap, ◌∙◌}
use Rattle.std.proofs.lemmas.Cmp.{nat_list_cmp_total}
use Rattle.std.proofs.lemmas.Map.Keys.{sorted_head, sorted_tail}
use Rattle.std.specs.BTreeMap.{insert_entry, is_at}
use Rattle.std.specs.Cmp.{IsTotalOrder}
use Rattle.std.specs.Cmp.Lexicographic.{slice_cmp}
use Rattle.std.specs.List.{AllByRecursion}
use Rattle.std.specs.List.Sorted.{IsStrictlySortedBy}
use Rattle.std.specs.Map.{keys_of, remove_entry}
use Rattle.std.specs.Ordering.{match_ordering, nat_cmp, ordering_reverse}
use Rattle.std.specs.declared.cmp.Ordering.{Ordering}
use Rattle.std.specs.declared.cmp.Ordering.TheVariants.{Less, Equal, Greater}
use Rattle.mt_outside.specs.declared.disk.Change.{Change}
use Rattle.mt_outside.specs.declared.disk.Change.TheVariants.{Publish, Remove}
use Rattle.mt_outside.specs.declared.disk.Stamped.{Stamped}
use Rattle.mt_outside.specs.Disk.{Names, Told, changed, names_after, names_of}
use Rattle.mt_outside.specs.Files.{Files}
use Rattle.root_store.specs.ByteOrder.{AreInByteOrder}

module _ {K : Type 0} (R : K → K → Ordering) where
  -- the key stands below each of these
  abbrev IsBelow : K → List K → Type 0
  IsBelow k ks = AllByRecursion (λ (y : K). R k y ≡ Less) ks

  rise_none : IsStrictlySortedBy R []
  unfolding IsStrictlySortedBy
  rise_none = tt

  rise_cons : (k : K) (ks : List K) → IsBelow k ks → IsStrictlySortedBy R ks → IsStrictlySortedBy R (k ∷ ks)
  unfolding IsStrictlySortedBy
  rise_cons k ks below rise = (below, rise)

  lower : IsTotalOrder R → (a b : K) (ks : List K) → R a b ≡ Less → IsBelow b ks → IsBelow a ks
  lower o a b [] less below = tt
  lower o a b (k ∷ ks) less below = (o.trans a b k less below.0, lower o a b ks less below.1)

module _ {K X : Type 0} (R : K → K → Ordering) (o : IsTotalOrder R) where
  above_inserted : (a k : K) (v : X) (es : List (K × X)) → R a k ≡ Less → IsBelow R a (keys_of es) → IsBelow R a (keys_of (insert_entry R es k v))
  above_inserted a k v [] less below = (less, tt)
  above_inserted a k v (e ∷ es) less below = by (R k e.0) (above_inserted a k v es less below.1)
    where
      by : (c : Ordering) → IsBelow R a (keys_of (insert_entry R es k v)) → IsBelow R a (keys_of (match_ordering c ((k, v) ∷ e ∷ es) ((e.0, v) ∷ es) (e ∷ insert_entry R es k v)))
      by Less more = (less, below)
      by Equal more = below
      by Greater more = (below.0, more)

  -- a new name goes to its place
  inserted : (k : K) (v : X) (es : List (K × X)) → IsStrictlySortedBy R (keys_of es) → IsStrictlySortedBy R (keys_of (insert_entry R es k v))
  inserted k v [] rise = rise_cons R k [] tt (rise_none R)
  inserted k v (e ∷ es) rise = by (R k e.0) refl (sorted_head R e.0 (keys_of es) rise) (inserted k v es (sorted_tail R e.0 (keys_of es) rise))
    where
      by : (c : Ordering) → R k e.0 ≡ c → IsBelow R e.0 (keys_of es) → IsStrictlySortedBy R (keys_of (insert_entry R es k v))
          → IsStrictlySortedBy R (keys_of (match_ordering c ((k, v) ∷ e ∷ es) ((e.0, v) ∷ es) (e ∷ insert_entry R es k v)))
      by Less is below more = rise_cons R k (e.0 ∷ keys_of es) (is, lower R o k e.0 (keys_of es) is below) rise
      by Equal is below more = rise
      by Greater is below more = rise_cons R e.0 (keys_of (insert_entry R es k v)) (above_inserted e.0 k v es (o.antisymm e.0 k ∙ ap ordering_reverse is) below) more

  above_removed : (a : K) (test : K → Bool) (es : List (K × X)) → IsBelow R a (keys_of es) → IsBelow R a (keys_of (remove_entry test es))
  above_removed a test [] below = tt
  above_removed a test (e ∷ es) below = by (test e.0) (above_removed a test es below.1)
    where
      by : (b : Bool) → IsBelow R a (keys_of (remove_entry test es)) → IsBelow R a (keys_of (cond b es (e ∷ remove_entry test es)))
      by true more = below.1
      by false more = (below.0, more)

  -- and the others stay in order without one
  removed : (test : K → Bool) (es : List (K × X)) → IsStrictlySortedBy R (keys_of es) → IsStrictlySortedBy R (keys_of (remove_entry test es))
  removed test [] rise = rise
  removed test (e ∷ es) rise = by (test e.0) (removed test es (sorted_tail R e.0 (keys_of es) rise))
    where
      by : (b : Bool) → IsStrictlySortedBy R (keys_of (remove_entry test es)) → IsStrictlySortedBy R (keys_of (cond b es (e ∷ remove_entry test es)))
      by true more = sorted_tail R e.0 (keys_of es) rise
      by false more = rise_cons R e.0 (keys_of (remove_entry test es)) (above_removed e.0 test es (sorted_head R e.0 (keys_of es) rise)) more

pub one_change : (names : Names) (change : Change Files) → AreInByteOrder names → AreInByteOrder (changed names change)
one_change names (Publish name files) rise = inserted (slice_cmp nat_cmp) nat_list_cmp_total name files names rise
one_change names (Remove name) rise = removed (slice_cmp nat_cmp) nat_list_cmp_total (is_at (slice_cmp nat_cmp name)) names rise

pub all_changes : (names : Names) (ss : List (Stamped Files)) → AreInByteOrder names → AreInByteOrder (names_after names ss)
all_changes names [] rise = rise
all_changes names (s ∷ ss) rise = all_changes (changed names s.change) ss (one_change names s.change rise)

pub rise_nothing : AreInByteOrder []
rise_nothing = rise_none (slice_cmp nat_cmp)

-- the names after any changes of a disk that began empty
pub told_rise : (told : Told) → AreInByteOrder (names_of told)
told_rise told = all_changes [] told rise_nothing
