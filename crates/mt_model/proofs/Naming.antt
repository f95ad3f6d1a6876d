-- The places of names, one name after another, and the first name that is no column's.
use Rattle.std.proofs.Common.{◌≡◌, ℕ, ◌+◌, ◌<◌, ◌≤◌, Bool, true, false, cond, is_some, unwrap_or, List, [], ◌∷◌, ◌++◌, Option, Some, None, Result, Ok, Err, length, drop, take, get_or, refl, sym, ap, ◌∙◌, append_assoc, append-nil}
use Rattle.std.proofs.Math.ListN.{drop_of_length-le}
use Rattle.std.proofs.lemmas.List.{drop_more, take_more}
use Rattle.std.proofs.lemmas.List.Elements.{filter_map-append}
use Rattle.std.specs.List.{cons_option, flat_map}
use Rattle.std.specs.Option.{IfSome}
use Rattle.mt_values.specs.declared.schema.Column.{Column}
use Rattle.mt_values.specs.declared.statement.Clause.{Clause}
use Rattle.mt_values.specs.declared.statement.Clause.TheVariants as clause
use Rattle.mt_values.specs.declared.statement.Element.{Element}
use Rattle.mt_model.specs.declared.refusal.Refusal.{Refusal}
use Rattle.mt_model.specs.declared.refusal.Refusal.TheVariants as refusal
use Rattle.mt_model.specs.Clauses.{column_place, first_unknown, given_primary, indexed_names, mentioned, names_of_clause, names_of_element, places_named, primary_names, sorting_names}
use Rattle.mt_model.specs.Reply.{found_or, place_onto, places_of}

-- ---- the places of names

-- some places before those that names give
abbrev pub behind : List ℕ → Result (List ℕ) Refusal → Result (List ℕ) Refusal
behind front (Ok places) = Ok (front ++ places)
behind front (Err why) = Err why

pub behind_none : (r : Result (List ℕ) Refusal) → behind [] r ≡ r
behind_none (Ok places) = refl
behind_none (Err why) = refl

pub behind_onto : (front : List ℕ) (place : ℕ) (r : Result (List ℕ) Refusal) → behind front (place_onto (Ok place) r) ≡ behind (front ++ place ∷ []) r
behind_onto front place (Ok places) = ap Ok (sym (append_assoc front (place ∷ []) places))
behind_onto front place (Err why) = refl

-- the places of the names from a place on are that of the first of them and those of the rest
step : (columns : List Column) (names : List (List ℕ)) (i : ℕ) (d : List ℕ) (o : Option ℕ) → i < length names → column_place columns (get_or names i d) ≡ o
    → places_of columns (drop i names) ≡ place_onto (found_or (get_or names i d) o) (places_of columns (drop (i + 1) names))
step columns names i d o below is = ap (places_of columns) (drop_more names i d below) ∙ ap (λ z. place_onto (found_or (get_or names i d) z) (places_of columns (drop (i + 1) names))) is

-- ---- one name after another, as loops go over them

-- the place of a name comes after those before it
pub place_at : (columns : List Column) (names : List (List ℕ)) (i : ℕ) (name : List ℕ) (places : List ℕ) (place : ℕ) → i < length names → name ≡ get_or names i name → Some place ≡ column_place columns name
    → behind (places ++ place ∷ []) (places_of columns (drop (i + 1) names)) ≡ behind places (places_of columns (drop i names))
place_at columns names i name places place below is found =
    sym (ap (behind places) (step columns names i name (Some place) below (ap (column_place columns) (sym is) ∙ sym found)) ∙ behind_onto places place (places_of columns (drop (i + 1) names)))

pub no_place_at : (columns : List Column) (names : List (List ℕ)) (i : ℕ) (name : List ℕ) (places : List ℕ) → i < length names → name ≡ get_or names i name → None ≡ column_place columns name
    → behind places (places_of columns (drop i names)) ≡ Err (refusal.NoColumn name)
no_place_at columns names i name places below is none =
    ap (behind places) (step columns names i name None below (ap (column_place columns) (sym is) ∙ sym none)) ∙ ap (λ n. Err (refusal.NoColumn n)) (sym is)

-- after the last name all is found
pub no_name_left : (columns : List Column) (names : List (List ℕ)) (i : ℕ) (places : List ℕ) → length names ≤ i → behind places (places_of columns (drop i names)) ≡ Ok places
no_name_left columns names i places end = ap (λ ns. behind places (places_of columns ns)) (drop_of_length-le names end) ∙ ap Ok (append-nil places)

-- ---- names that are no column's

module _ (columns : List Column) where
  -- the first of names is that of the first ones, or else that of the others
  unknown_apart : (names others : List (List ℕ)) → first_unknown columns names ≡ None → first_unknown columns (names ++ others) ≡ first_unknown columns others
  unknown_apart [] others none = refl
  unknown_apart (name ∷ names) others none = by (is_some (column_place columns name)) (unknown_apart names others) none
    where
      by : (b : Bool) → (first_unknown columns names ≡ None → first_unknown columns (names ++ others) ≡ first_unknown columns others) → cond b (first_unknown columns names) (Some name) ≡ None → cond b (first_unknown columns (names ++ others)) (Some name) ≡ first_unknown columns others
      by true more none = more none
      by false more none = cc

  unknown_here : (names others : List (List ℕ)) (found : List ℕ) → first_unknown columns names ≡ Some found → first_unknown columns (names ++ others) ≡ Some found
  unknown_here [] others found is = cc
  unknown_here (name ∷ names) others found is = by (is_some (column_place columns name)) (unknown_here names others found) is
    where
      by : (b : Bool) → (first_unknown columns names ≡ Some found → first_unknown columns (names ++ others) ≡ Some found) → cond b (first_unknown columns names) (Some name) ≡ Some found → cond b (first_unknown columns (names ++ others)) (Some name) ≡ Some found
      by true more is = more is
      by false more is = is

  -- the names of some that come first decide, or else those of the others
  pub unknown_before : (names others : List (List ℕ)) (found : List ℕ) → Some found ≡ first_unknown columns names → first_unknown columns (names ++ others) ≡ Some found
  unknown_before names others found there = unknown_here names others found (sym there)

  pub known_before : (names others : List (List ℕ)) → None ≡ first_unknown columns names → first_unknown columns (names ++ others) ≡ first_unknown columns others
  known_before names others none = unknown_apart names others (sym none)

  module _ {X : Type 0} (names_in : X → List (List ℕ)) (items : List X) (i : ℕ) (x : X) (below : i < length items) (is : x ≡ get_or items i x) where
    -- items from a place on: the first of them, and the others
    from_item : flat_map names_in (drop i items) ≡ names_in x ++ flat_map names_in (drop (i + 1) items)
    from_item = ap (flat_map names_in) (drop_more items i x below) ∙ ap (λ (y : X). names_in y ++ flat_map names_in (drop (i + 1) items)) (sym is)

    -- a name of the item at a place is no column's
    unknown_there : (found : List ℕ) → Some found ≡ first_unknown columns (names_in x) → first_unknown columns (flat_map names_in (drop i items)) ≡ Some found
    unknown_there found there = ap (first_unknown columns) from_item ∙ unknown_here (names_in x) (flat_map names_in (drop (i + 1) items)) found (sym there)

    -- each of them is a column's, and the search goes on
    unknown_later : None ≡ first_unknown columns (names_in x) → first_unknown columns (flat_map names_in (drop (i + 1) items)) ≡ first_unknown columns (flat_map names_in (drop i items))
    unknown_later none = sym (ap (first_unknown columns) from_item ∙ unknown_apart (names_in x) (flat_map names_in (drop (i + 1) items)) (sym none))

  -- a name of the clause at a place is no column's
  pub unknown_at : (clauses : List Clause) (i : ℕ) (c : Clause) (found : List ℕ) → i < length clauses → c ≡ get_or clauses i c → Some found ≡ first_unknown columns (names_of_clause c)
      → first_unknown columns (mentioned (drop i clauses)) ≡ Some found
  unknown_at clauses i c found below is there = unknown_there names_of_clause clauses i c below is found there

  -- each of them is a column's, and the search goes on
  pub unknown_after : (clauses : List Clause) (i : ℕ) (c : Clause) → i < length clauses → c ≡ get_or clauses i c → None ≡ first_unknown columns (names_of_clause c)
      → first_unknown columns (mentioned (drop (i + 1) clauses)) ≡ first_unknown columns (mentioned (drop i clauses))
  unknown_after clauses i c below is none = unknown_later names_of_clause clauses i c below is none

  -- the same of elements
  pub element_unknown_at : (elements : List Element) (i : ℕ) (e : Element) (found : List ℕ) → i < length elements → e ≡ get_or elements i e → Some found ≡ first_unknown columns (names_of_element e)
      → first_unknown columns (indexed_names (drop i elements)) ≡ Some found
  element_unknown_at elements i e found below is there = unknown_there names_of_element elements i e below is found there

  pub element_unknown_after : (elements : List Element) (i : ℕ) (e : Element) → i < length elements → e ≡ get_or elements i e → None ≡ first_unknown columns (names_of_element e)
      → first_unknown columns (indexed_names (drop (i + 1) elements)) ≡ first_unknown columns (indexed_names (drop i elements))
  element_unknown_after elements i e below is none = unknown_later names_of_element elements i e below is none

  -- ---- the places of names, one name after another

  names_more : (names : List (List ℕ)) (i : ℕ) (name : List ℕ) (o : Option ℕ) → i < length names → name ≡ get_or names i name → o ≡ column_place columns name
      → places_named columns (take (i + 1) names) ≡ places_named columns (take i names) ++ cons_option o []
  names_more names i name o below is found =
      ap (places_named columns) (take_more names i name below)
      ∙ (filter_map-append (column_place columns) (take i names) (get_or names i name ∷ [])
      ∙ ap (λ (p : Option ℕ). places_named columns (take i names) ++ cons_option p []) (ap (column_place columns) (sym is) ∙ sym found))

  -- a name at a place is a column's, or none
  pub named_place : (names : List (List ℕ)) (i : ℕ) (name : List ℕ) (places : List ℕ) (place : ℕ) → i < length names → name ≡ get_or names i name → Some place ≡ column_place columns name → places ≡ places_named columns (take i names)
      → places ++ place ∷ [] ≡ places_named columns (take (i + 1) names)
  named_place names i name places place below is found so_far = ap (λ (ps : List ℕ). ps ++ place ∷ []) so_far ∙ sym (names_more names i name (Some place) below is found)

  pub unnamed_place : (names : List (List ℕ)) (i : ℕ) (name : List ℕ) (places : List ℕ) → i < length names → name ≡ get_or names i name → None ≡ column_place columns name → places ≡ places_named columns (take i names)
      → places ≡ places_named columns (take (i + 1) names)
  unnamed_place names i name places below is none so_far = so_far ∙ sym (names_more names i name None below is none ∙ append-nil (places_named columns (take i names)))

  -- ---- where each name that the clauses mention is a column's

  front_known : (names others : List (List ℕ)) → first_unknown columns (names ++ others) ≡ None → first_unknown columns names ≡ None
  front_known [] others none = refl
  front_known (name ∷ names) others none = by (is_some (column_place columns name)) (front_known names others) none
    where
      by : (b : Bool) → (first_unknown columns (names ++ others) ≡ None → first_unknown columns names ≡ None) → cond b (first_unknown columns (names ++ others)) (Some name) ≡ None → cond b (first_unknown columns names) (Some name) ≡ None
      by true more none = more none
      by false more none = cc

  pub rest_known : (names others : List (List ℕ)) → first_unknown columns (names ++ others) ≡ None → first_unknown columns others ≡ None
  rest_known names others none = sym (unknown_apart names others (front_known names others none)) ∙ none

  -- the names of ORDER BY are columns'
  pub sorting_known : (clauses : List Clause) → first_unknown columns (mentioned clauses) ≡ None → first_unknown columns (sorting_names clauses) ≡ None
  sorting_known [] none = refl
  sorting_known (clause.OrderBy names ∷ others) none = front_known names (mentioned others) none
  sorting_known (clause.PartitionBy name ∷ others) none = sorting_known others (rest_known (name ∷ []) (mentioned others) none)
  sorting_known (clause.PrimaryKey names ∷ others) none = sorting_known others (rest_known names (mentioned others) none)
  sorting_known (clause.Granularity digits ∷ others) none = sorting_known others none

  -- so are those of PRIMARY KEY, where it is given
  given_known : (clauses : List Clause) → first_unknown columns (mentioned clauses) ≡ None → IfSome (given_primary clauses) (λ names. first_unknown columns names ≡ None)
  given_known [] none = tt
  given_known (clause.PrimaryKey names ∷ others) none = front_known names (mentioned others) none
  given_known (clause.OrderBy names ∷ others) none = given_known others (rest_known names (mentioned others) none)
  given_known (clause.PartitionBy name ∷ others) none = given_known others (rest_known (name ∷ []) (mentioned others) none)
  given_known (clause.Granularity digits ∷ others) none = given_known others none

  pub primary_known : (clauses : List Clause) → first_unknown columns (mentioned clauses) ≡ None → first_unknown columns (primary_names clauses) ≡ None
  primary_known clauses none = by (given_primary clauses) (given_known clauses none)
    where
      by : (o : Option (List (List ℕ))) → IfSome o (λ names. first_unknown columns names ≡ None) → first_unknown columns (unwrap_or o (sorting_names clauses)) ≡ None
      by None known = sorting_known clauses none
      by (Some names) known = known
