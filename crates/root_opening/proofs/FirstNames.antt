-- The first bad name of a root is at one place, and no name of the grammar is a bad one.
use Rattle.std.proofs.Common.{◌≡◌, ℕ, ◌+◌, ◌<◌, ◌≤◌, Bool, true, cond, List, length, take, drop, get_or, refl, sym, ap, ◌∙◌, subst, inl, inr, arith, length-append, Option, Some, None, Result, Ok, Err, IfOk, IfErr, MatchResult}
use Rattle.std.proofs.lemmas.Bool.{cases_lt}
use Rattle.std.proofs.lemmas.List.{get_or-take, length-take, take-append-drop, take_all, take-map, take-take}
use Rattle.std.proofs.lemmas.List.Elements.{All-get_or, All-take, filter-append}
use Rattle.std.proofs.lemmas.List.Filters.{length-filter_more}
use Rattle.std.proofs.lemmas.Option.{get_or_from_slice_get, same_Some, slice_get-get_or, slice_get-map, slice_get_within}
use Rattle.std.specs.Cmp.Lexicographic.{slice_cmp}
use Rattle.std.specs.List.{filter, slice_get}
use Rattle.std.specs.List.Sorted.{IsStrictlySortedBy}
use Rattle.std.specs.Option.{option_map}
use Rattle.std.specs.Ordering.{nat_cmp}
use Rattle.root_store.specs.part_set.declared.root_name.RootName.{RootName}
use Rattle.root_store.specs.part_set.NameOrder.{Rise}
use Rattle.root_store.specs.part_set.RootNames.{IsRootName, root_text}
use Rattle.root_store.proofs.PartSetNameTexts.{root_names_same}
use Rattle.root_store.specs.Damage.{IsBadName, is_entry_name, most_tables}
use Rattle.root_opening.specs.Names.{AreNamesOf, IsFirstBadText, IsOfPlace, TellsBad, creates_in}
use Rattle.root_opening.specs.declared.names.NameFault.{NameFault}
use Rattle.root_opening.specs.declared.names.NameFault.TheVariants as fault
use Rattle.root_opening.proofs.NameReads.{names_rise, same_names}

mapped : (o : Option RootName) (text : List ℕ) → option_map root_text o ≡ Some text → (x : RootName) × (o ≡ Some x) × (root_text x ≡ text)
mapped None text is = absurd cc
mapped (Some x) text is = (x, refl, same_Some (root_text x) text is)

-- a front of names has no more of tables
front_fewer : (names : List RootName) (k : ℕ) → creates_in (take k names) ≤ creates_in names
front_fewer names k =
    let whole : creates_in (take k names) + creates_in (drop k names) ≡ creates_in names =
    sym (length-append (filter is_entry_name (take k names)) (filter is_entry_name (drop k names)))
    ∙ (ap length (sym (filter-append is_entry_name (take k names) (drop k names))) ∙ ap creates_in (take-append-drop k names)) in
    omega arith

-- a name of a table adds one
front_more : (names : List RootName) (k : ℕ) (x : RootName) → slice_get names k ≡ Some x → is_entry_name x ≡ true → creates_in (take k names) + 1 ≤ creates_in names
front_more names k x at is =
    let more = length-filter_more is_entry_name names k x (slice_get_within names k x at) in
    let made : is_entry_name (get_or names k x) ≡ true = ap is_entry_name (get_or_from_slice_get names k x x at) ∙ is in
    let one : 1 ≤ cond (is_entry_name (get_or names k x)) 1 0 = subst (λ (b : Bool). 1 ≤ cond b 1 0) (sym made) (omega arith) in
    let fewer = front_fewer names (k + 1) in
    omega (arith, more, one, fewer)

front_at : (texts : List (List ℕ)) (at place : ℕ) (text : List ℕ) → slice_get texts place ≡ Some text → place < at → slice_get (take at texts) place ≡ Some text
front_at texts at place text here less =
    let within = slice_get_within texts place text here in
    slice_get-get_or (take at texts) place text (omega (arith, length-take at texts))
    ∙ ap Some (get_or-take at texts place text less ∙ get_or_from_slice_get texts place text text here)

module _ (texts : List (List ℕ)) (at place : ℕ) (names : List RootName) (are : AreNamesOf (take at texts) names) (few : creates_in names ≤ most_tables) (first : IsFirstBadText texts place) (less : place < at) where
  -- the name there
  there : (x : RootName) × (slice_get names place ≡ Some x) × (root_text x ≡ first.text)
  there =
      mapped (slice_get names place) first.text
      (sym (slice_get-map root_text names place) ∙ (ap (λ (ts : List (List ℕ)). slice_get ts place) are.spelled ∙ front_at texts at place first.text first.here less))

  named : IsRootName there.0
  named = subst IsRootName (get_or_from_slice_get names place there.0 there.0 there.1) (All-get_or IsRootName names place there.0 (slice_get_within names place there.0 there.1) are.sound)

  -- those before it are those that were read there
  before_same : first.before ≡ take place names
  before_same =
      same_names first.before (take place names) first.read.sound (All-take IsRootName place names are.sound)
      (first.read.spelled ∙ (sym (take-take place at texts (omega arith)) ∙ (ap (take place) (sym are.spelled) ∙ take-map root_text place names)))

  refuted : IsBadName first.before first.text → ⊥
  refuted (inl none) = none there.0 named there.2
  refuted (inr (n, sound, is, create, full)) =
      let same : n ≡ there.0 = root_names_same n there.0 sound named (is ∙ sym there.2) in
      let more = front_more names place there.0 there.1 (ap is_entry_name (sym same) ∙ create) in
      let count : creates_in (take place names) ≡ most_tables = ap creates_in (sym before_same) ∙ full in
      omega (arith, few, more, count)

  -- no place in front is that of a bad name
  pub none_in_front : ⊥
  none_in_front = refuted first.bad

-- where all texts are read there is no bad name
pub none_bad : (texts : List (List ℕ)) (place : ℕ) (names : List RootName) → AreNamesOf texts names → creates_in names ≤ most_tables → IsFirstBadText texts place → ⊥
none_bad texts place names are few first =
    let all : take (length texts) texts ≡ texts = take_all (length texts) texts (omega arith) in
    none_in_front texts (length texts) place names (record { sound = are.sound; spelled = are.spelled ∙ sym all }) few first (slice_get_within texts place first.text first.here)

-- the first bad name is at one place
pub same_place : (texts : List (List ℕ)) (a b : ℕ) → IsFirstBadText texts a → IsFirstBadText texts b → a ≡ b
same_place texts a b first second = elim (cases_lt a b) [
  | inl less ↦ absurd (none_in_front texts b a second.before second.read second.few first less)
  | inr not_less ↦ elim (cases_lt b a) [
    | inl more ↦ absurd (none_in_front texts a b first.before first.read first.few second more)
    | inr not_more ↦ omega arith
  ]
]

-- so the fault that is told is told of that place
pub place_told : (texts : List (List ℕ)) (place : ℕ) (f : NameFault) → TellsBad texts f → IsFirstBadText texts place → IsOfPlace place f
place_told texts place fault.NoMemory told first = tt
place_told texts place (fault.Bad at) told first = same_place texts at place told first

-- what was told of texts that were read one after the other, as names or as a fault
pub told_rise : {X : Type 0} (r : Result X NameFault) (items : X → List RootName) (texts : List (List ℕ)) → IfOk r (λ x. AreNamesOf texts (items x)) → IsStrictlySortedBy (slice_cmp nat_cmp) texts → IfOk r (λ x. Rise (items x))
told_rise (Ok x) items texts are rise = names_rise texts (items x) are rise
told_rise (Err f) items texts are rise = tt

pub told_exact : {X : Type 0} (r : Result X NameFault) (items : X → List RootName) (texts : List (List ℕ)) → IfOk r (λ x. AreNamesOf texts (items x)) → IfOk r (λ x. creates_in (items x) ≤ most_tables) → IfErr r (TellsBad texts)
    → (place : ℕ) → IsFirstBadText texts place → MatchResult r (λ x. ⊥) (IsOfPlace place)
told_exact (Ok x) items texts are few bad place first = none_bad texts place (items x) are few first
told_exact (Err f) items texts are few bad place first = place_told texts place f bad first
