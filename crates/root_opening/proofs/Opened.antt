-- What is told of the texts of a root's names.
use Rattle.std.proofs.Common.{◌≡◌, ℕ, ◌+◌, ◌-◌, ◌<◌, ◌≤◌, List, [], length, map, filter, get_or, refl, sym, ap, ap₂, ◌∙◌, subst, arith, Option, Some, None, IsSomeAnd}
use Rattle.std.proofs.lemmas.Cmp.{nat_list_cmp_total}
use Rattle.std.proofs.lemmas.List.{get_or_read}
use Rattle.std.proofs.lemmas.Map.Keys.{Less-from_sorted, sorted_from_all_adjacent}
use Rattle.std.proofs.lemmas.Option.{slice_get-map, slice_get_within}
use Rattle.std.specs.Cmp.Lexicographic.{slice_cmp}
use Rattle.std.specs.List.{slice_get}
use Rattle.std.specs.List.Sorted.{IsStrictlySortedBy}
use Rattle.std.specs.Ordering.{nat_cmp}
use Rattle.std.specs.declared.cmp.Ordering.TheVariants.{Less}
use Rattle.std.specs.Option.{option_map}
use Rattle.mt_outside.specs.Disk.{Names}
use Rattle.mt_outside.specs.Files.{Files}
use Rattle.root_store.specs.part_set.declared.root_name.RootName.{RootName}
use Rattle.root_store.specs.part_set.declared.roots.SetFault.{SetFault}
use Rattle.root_store.specs.part_set.declared.roots.SetFault.TheVariants as set
use Rattle.root_store.specs.part_set.Clashes.{IsFault}
use Rattle.root_store.specs.part_set.RootNames.{root_text}
use Rattle.root_store.specs.part_set.Visible.{IsOrphan, Overlapping}
use Rattle.root_store.proofs.PartSetPasses.{there}
use Rattle.root_opening.specs.declared.opening.Damage.{Damage}
use Rattle.root_opening.specs.declared.opening.OpenFault.{OpenFault}
use Rattle.root_opening.specs.declared.opening.OpenFault.TheVariants as fault
use Rattle.root_store.specs.Damage.{IsFirstBadName, is_entry_name, most_tables}
use Rattle.root_opening.specs.Keeping.{IsBadNameAt, IsDamageOfSet}
use Rattle.root_opening.specs.Names.{AreNamesOf, IsFirstBadText}
use Rattle.root_opening.specs.Opening.{AreGood, IsRootDamage, IsSpelledAt, TellsDamage}
use Rattle.root_opening.proofs.NamesTold.{first_told, text_of}

-- names of which each stands below the next one rise
pub rise_from_next : (texts : List (List ℕ)) (place : ℕ) → length texts ≤ place → ((k : ℕ) (d : List ℕ) → k + 1 < place → slice_cmp nat_cmp (get_or texts k d) (get_or texts (k + 1) d) ≡ Less) → IsStrictlySortedBy (slice_cmp nat_cmp) texts
rise_from_next texts place end next = sorted_from_all_adjacent nat_list_cmp_total texts [] (λ k inside. next k [] (omega (arith, inside, end)))

-- and of names that rise each stands below the next one
pub next_below : (texts : List (List ℕ)) (place : ℕ) (a b : List ℕ) → IsStrictlySortedBy (slice_cmp nat_cmp) texts → 1 ≤ place → place < length texts → a ≡ get_or texts (place - 1) a → b ≡ get_or texts place b → slice_cmp nat_cmp a b ≡ Less
next_below texts place a b rise above inside is_a is_b =
    let first = get_or_read texts (place - 1) a (omega arith) is_a b in
    ap₂ (slice_cmp nat_cmp) first is_b ∙ Less-from_sorted (slice_cmp nat_cmp) texts (place - 1) place b rise (omega (arith, above)) inside

-- ---- what is told is what keeps the root from being opened

one_text : (o : Option (List ℕ)) (a b : List ℕ) → o ≡ Some a → o ≡ Some b → a ≡ b
one_text o a b x y = cc

-- a bad name at its place
pub bad_told : (names : Names) (texts : List (List ℕ)) (place : ℕ) (e : OpenFault) → texts ≡ map (λ (n : List ℕ × Files). n.0) names → IsFirstBadText texts place → IsBadNameAt texts place e → TellsDamage names e
bad_told names texts place fault.NoMemory are first told = tt
bad_told names texts place fault.Disk are first told = tt
bad_told names texts place (fault.Damaged d) are first told =
    let found = first_told names place (subst (λ (ts : List (List ℕ)). IsFirstBadText ts place) are first) in
    let here : slice_get texts place ≡ Some found.0 = ap (λ (ts : List (List ℕ)). slice_get ts place) are ∙ (slice_get-map text_of names place ∙ ap (option_map text_of) found.1.here) in
    let same : found.0 ≡ told.0 = one_text (slice_get texts place) found.0 told.0 here told.1 in
    subst (IsRootDamage names) (sym told.2) (record { place = place; first = subst (IsFirstBadName names place) same found.1 })

module _ (names : Names) (texts : List (List ℕ)) (read : List RootName) (are : AreNamesOf texts read) (few : length (filter is_entry_name read) ≤ most_tables) (told : texts ≡ map (λ (n : List ℕ × Files). n.0) names) where
  good : AreGood names read
  good = record { are = record { sound = are.sound; spelled = are.spelled ∙ told }; few = few }

  -- the text at the place of a name is its own
  spelled_there : (place : ℕ) (text : List ℕ) → place < length read → slice_get texts place ≡ Some text → IsSpelledAt read place text
  spelled_there place text inside at = by (slice_get read place) refl (sym (slice_get-map root_text read place) ∙ (ap (λ (ts : List (List ℕ)). slice_get ts place) are.spelled ∙ at))
    where
      by : (o : Option RootName) → slice_get read place ≡ o → option_map root_text o ≡ Some text → IsSpelledAt read place text
      by None here is = absurd cc
      by (Some n) here is = record { name = n; here = here; spelled = (let e : root_text n ≡ text = cc in e) }

  -- orphans and parts that overlap
  pub set_told : (f : SetFault) (d : Damage) → IsFault read f → IsDamageOfSet texts f d → IsRootDamage names d
  set_told set.NoMemory d is told_d = absurd told_d
  set_told (set.Orphan place) d is told_d =
      let inside = there (slice_get read place) (IsOrphan read) is.is in
      subst (IsRootDamage names) (sym told_d.2) (record { read = read; good = good; place = place; first = is; spelled = spelled_there place told_d.0 (slice_get_within read place inside.0 inside.1) told_d.1 })
  set_told (set.Overlap i j) d is told_d =
      let first = there (slice_get read i) (λ (a : RootName). IsSomeAnd (slice_get read j) (Overlapping read a)) is.1.is in
      let second = there (slice_get read j) (Overlapping read first.0) first.2 in
      subst (IsRootDamage names) (sym told_d.4) (record {
        read = read;
        good = good;
        no_orphan = is.0;
        i = i;
        j = j;
        first = is.1;
        spelled = spelled_there i told_d.0 (slice_get_within read i first.0 first.1) told_d.2;
        spelled_too = spelled_there j told_d.1 (slice_get_within read j second.0 second.1) told_d.3;
      })
