-- What `clap` makes of the options: the command as it is built, what one use of an option comes to, and what stands at the end.
use Rattle.std.proofs.Common.{◌≡◌, ◌∙◌, ◌||◌, ◌&&◌, ◌++◌, true≢false, Bool, true, false, cond, refl, sym, ap, subst, List, [], ◌∷◌, map, codes, find, Option, Some, None, append-nil, bytes_eq, option_and_then, option_map, fold, slice_get}
use Rattle.std.specs.Option.{option_map_or}
use Rattle.std.proofs.lemmas.List.{map-append}
use Rattle.std.proofs.lemmas.Slice.Eq.{bytes_eq-Decides}
use Rattle.clap.specs.Kinds.{Kinds, or_else}
use Rattle.clap.specs.Faults.{check_fault, default_fault, defaults_fault, given_default_fault, settle_fault, use_fault, is_simple_and_free}
use Rattle.clap.specs.Simple.{App, Shape, is_simple, new_shape}
use Rattle.clap.specs.Walk.{Held, Row, Rule, Text, arg_by_id, arg_by_long, at_row, first_of, has_row, more_values, settled, used, used_by_id, with_default, with_values}
use Rattle.clap.specs.declared.builder.value_parser.Reading.TheVariants.{AsWritten}
use Rattle.clap.specs.declared.builder.value_parser.ValueParser.TheVariants as vp
use Rattle.clap.specs.declared.error.kind.ErrorKind.{ErrorKind}
use Rattle.clap.specs.declared.error.kind.ErrorKind.TheVariants as kind
use Rattle.clap.specs.declared.parser.matches.ValueSource.TheVariants.{CommandLine}
use Rattle.clap.proofs.WalkLemmas.{list_any-map}
use Rattle.command_line.specs.Command.{app_with, option_arg}
use Rattle.command_line.specs.Words.{Given, is_given, names, value_of}

-- ---- the command as it is built

abbrev pub app : App
app = app_with names

abbrev pub rule : Text → Rule
rule name = record (option_arg name) { range = Some (record { start_inclusive = 1; end_inclusive = 1 }); parser = Some vp.String }

abbrev pub rules : List Rule
rules = map rule names

abbrev pub built_shape : Shape
built_shape = record (new_shape (codes "mergetree")) { rules = rules; no_binary_name = true; disable_help_flag = true; disable_help_subcommand = true; is_built = true }

pub is_free : is_simple_and_free app ≡ true
is_free = refl

pub is_simple_app : is_simple app ≡ true
is_simple_app = refl

-- ---- lists of kinds

pub not_empty : (k : ErrorKind) (ks : Kinds) → k ∷ ks ≡ [] → ⊥
not_empty k ks e = true≢false (ap some_kind e)
  where
    some_kind : Kinds → Bool
    some_kind [] = false
    some_kind (x ∷ xs) = true

-- ---- options by their names

abbrev pub by_name : List Text → Text → Option Text
by_name ns name = find (λ n. bytes_eq n name) ns

-- the name is an option's
abbrev pub IsOption : Text → Type 0
IsOption name = by_name names name ≡ Some name

found_is : (ns : List Text) (name m : Text) → by_name ns name ≡ Some m → bytes_eq m name ≡ true
found_is [] name m e = cc
found_is (n ∷ ns) name m e = go (bytes_eq n name) refl (found_is ns name m) e
  where
    go : (b : Bool) → bytes_eq n name ≡ b → (by_name ns name ≡ Some m → bytes_eq m name ≡ true) → cond b (Some n) (by_name ns name) ≡ Some m → bytes_eq m name ≡ true
    go true is later e = let same : n ≡ m = cc in subst (λ x. bytes_eq x name ≡ true) same is
    go false is later e = later e

-- a name that is found is that option's
pub is_option : (name m : Text) → by_name names name ≡ Some m → IsOption name
is_option name m e = let same : m ≡ name = (bytes_eq-Decides m name).0 (found_is names name m e) in e ∙ ap Some same

pub is_itself : (name : Text) → IsOption name → bytes_eq name name ≡ true
is_itself name is = found_is names name name is

id_found : (ns : List Text) (name : Text) → arg_by_id (map rule ns) name ≡ option_map rule (by_name ns name)
id_found [] name = refl
id_found (n ∷ ns) name = go (bytes_eq n name) (id_found ns name)
  where
    go : (b : Bool) → arg_by_id (map rule ns) name ≡ option_map rule (by_name ns name) → cond b (Some (rule n)) (arg_by_id (map rule ns) name) ≡ option_map rule (cond b (Some n) (by_name ns name))
    go true later = refl
    go false later = later

pub long_found : (ns : List Text) (name : Text) → arg_by_long (map rule ns) name ≡ option_map rule (by_name ns name)
long_found [] name = refl
long_found (n ∷ ns) name = go (bytes_eq n name) (long_found ns name)
  where
    go : (b : Bool) → arg_by_long (map rule ns) name ≡ option_map rule (by_name ns name) → cond (b || false) (Some (rule n)) (arg_by_long (map rule ns) name) ≡ option_map rule (cond b (Some n) (by_name ns name))
    go true later = refl
    go false later = later

pub rule_found : (name : Text) → IsOption name → arg_by_id rules name ≡ Some (rule name)
rule_found name is = id_found names name ∙ ap (option_map rule) is

-- ---- one use of an option

abbrev pub row : Text → Text → Row
row id value = record { id = id; values = value ∷ []; count = None; source = Some CommandLine; reading = AsWritten }

-- the rows of options that are given
abbrev pub given_rows : Given → List Row
given_rows given = map (λ option. row option.0 option.1) given

row_given : (name : Text) (given : Given) → has_row name (given_rows given) ≡ is_given name given
row_given name given = sym (list_any-map (λ r. bytes_eq r.id name) (λ option. row option.0 option.1) given)

-- a row that is not there comes to the end
at_end_of : (id : Text) (change : Row → List Row) (missing rows : List Row) → has_row id rows ≡ false → at_row id change missing rows ≡ rows ++ missing
at_end_of id change missing [] none = refl
at_end_of id change missing (r ∷ rs) none = go (bytes_eq r.id id) (at_end_of id change missing rs) none
  where
    go : (b : Bool) → (has_row id rs ≡ false → at_row id change missing rs ≡ rs ++ missing) → (b || has_row id rs) ≡ false → cond b (change r ++ rs) (r ∷ at_row id change missing rs) ≡ r ∷ (rs ++ missing)
    go true later none = absurd (true≢false none)
    go false later none = ap (λ xs. r ∷ xs) (later none)

-- the option is given for the first time
module _ (name value : Text) (given : Given) (none : is_given name given ≡ false) where
  no_row : has_row name (given_rows given) ≡ false
  no_row = row_given name given ∙ none

  pub passes : use_fault false (rule name) (value ∷ []) (given_rows given) ≡ []
  passes = ap (λ b. or_else (cond (b && true) (kind.ArgumentConflict ∷ []) []) []) no_row

  pub used_rows : used (rule name) (value ∷ []) (given_rows given) ≡ given_rows (given ++ (name, value) ∷ [])
  used_rows =
      ap (with_values name AsWritten CommandLine (value ∷ [])) (at_end_of name (λ r. []) [] (given_rows given) no_row ∙ append-nil (given_rows given))
      ∙ at_end_of name (more_values CommandLine (value ∷ [])) (row name value ∷ []) (given_rows given) no_row
      ∙ sym (map-append (λ option. row option.0 option.1) given ((name, value) ∷ []))

-- the option is given again
pub twice : (name value : Text) (given : Given) → is_given name given ≡ true → use_fault false (rule name) (value ∷ []) (given_rows given) ≡ [] → ⊥
twice name value given there e =
    let is : use_fault false (rule name) (value ∷ []) (given_rows given) ≡ kind.ArgumentConflict ∷ [] =
    ap (λ b. or_else (cond (b && true) (kind.ArgumentConflict ∷ []) []) []) (row_given name given ∙ there) in
    not_empty kind.ArgumentConflict [] (sym is ∙ e)

-- ---- an option whose values are read

module _ (name : Text) (is : IsOption name) (values : List Text) (rows : List Row) where
  abbrev pending : Held
  pending = record { rows = rows; pending = Some (name, values); skip = 0 }

  pub settles : settle_fault rules false pending ≡ use_fault false (rule name) values rows
  settles = ap (λ o. option_map_or (λ a. use_fault false a values rows) o []) (rule_found name is)

  pub settles_to : (settled rules pending).rows ≡ used (rule name) values rows
  settles_to = ap (λ o. used_by_id o values rows) (rule_found name is)

-- it has no value yet
pub no_value_fails : (name : Text) → IsOption name → (rows : List Row) → settle_fault rules false (record { rows = rows; pending = Some (name, []); skip = 0 }) ≡ [] → ⊥
no_value_fails name is rows e = not_empty kind.InvalidValue [] (sym (settles name is [] rows) ∙ e)

-- ---- the end

-- no option has a value where it is not given
no_default : (rows : List Row) (name : Text) → with_default rows (rule name) ≡ rows
no_default rows name = go (has_row name rows)
  where
    go : (b : Bool) → cond b rows rows ≡ rows
    go true = refl
    go false = refl

pub no_defaults : (ns : List Text) (rows : List Row) → fold with_default rows (map rule ns) ≡ rows
no_defaults [] rows = refl
no_defaults (n ∷ ns) rows = ap (λ r. fold with_default r (map rule ns)) (no_default rows n) ∙ no_defaults ns rows

no_default_fault : (rows : List Row) (name : Text) → default_fault rows (rule name) ≡ []
no_default_fault rows name = go (has_row name rows)
  where
    go : (b : Bool) → cond (b || true) [] (given_default_fault (rule name) []) ≡ []
    go true = refl
    go false = refl

no_defaults_fault : (ns : List Text) (rows : List Row) → defaults_fault rows (map rule ns) ≡ []
unfolding defaults_fault
no_defaults_fault [] rows = refl
no_defaults_fault (n ∷ ns) rows =
    ap (λ ks. or_else ks (defaults_fault (with_default rows (rule n)) (map rule ns))) (no_default_fault rows n)
    ∙ ap (λ r. defaults_fault r (map rule ns)) (no_default rows n)
    ∙ no_defaults_fault ns rows

-- what is checked once the last option was used
abbrev pub last_fault : List Row → Kinds
last_fault rows = or_else (defaults_fault rows rules) (check_fault built_shape (fold with_default rows rules) false)

-- `clap` refuses the words where they give no options, and else the rows are those of the options
abbrev pub Agrees : Kinds → List Row → Option Given → Type 0
Agrees kinds rows None = kinds ≡ [] → ⊥
Agrees kinds rows (Some given) = (kinds ≡ []) × (rows ≡ given_rows given)

pub at_end : (given : Given) → Agrees (last_fault (given_rows given)) (fold with_default (given_rows given) rules) (Some given)
at_end given =
    let rows = given_rows given in
    (ap (λ ks. or_else ks (check_fault built_shape (fold with_default rows rules) false)) (no_defaults_fault names rows), no_defaults names rows)

-- ---- values

pub first_given : (given : Given) (name : Text) → first_of name (given_rows given) ≡ value_of given name
first_given [] name = refl
first_given (option ∷ given) name = go (bytes_eq option.0 name) (first_given given name)
  where
    go : (b : Bool) → first_of name (given_rows given) ≡ value_of given name
        → option_and_then (λ r. slice_get r.values 0) (cond b (Some (row option.0 option.1)) (find (λ r. bytes_eq r.id name) (given_rows given))) ≡ option_map (λ o. o.1) (cond b (Some option) (find (λ o. bytes_eq o.0 name) given))
    go true later = refl
    go false later = later
