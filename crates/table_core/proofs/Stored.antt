-- The tables of the store: where one stands, and what the others keep.
use Rattle.std.proofs.Common.{◌≡◌, ℕ, ◌+◌, ◌<◌, Bool, true, false, cond, not, List, [], ◌∷◌, ◌++◌, Option, Some, None, length, slice_get, position, All, is_some, refl, sym, ap, ap₂, ◌∙◌, subst, arith, zero, suc}
use Rattle.std.specs.Prelude.{IfSome, IfNone, OnErr, Vec, Result, Ok, Err}
use Rattle.std.specs.declared.alloc.Global.{Global}
use Rattle.std.specs.List.{AllByRecursion, IsDistinct, position_or_len}
use Rattle.std.specs.Map.{keys_of, values_of, lookup}
use Rattle.std.proofs.lemmas.List.Elements.{All-from_recursion, recursion_from_All}
use Rattle.indexmap.specs.IndexMap.{insert_entry, set_value_at}
use Rattle.mt_values.specs.declared.command.Create.{Create}
use Rattle.mt_values.specs.declared.schema.Schema.{Schema}
use Rattle.mt_values.specs.Grammar.{same_bytes}
use Rattle.part_history.proofs.MtModelTables.{itself_same, same_is}
use Rattle.part_history.specs.declared.part.CorePart.{CorePart}
use Rattle.table_core.specs.declared.store.Table.{Table}
use Rattle.table_core.specs.Store.{AddsTable, IsNotNamed, Named, StandsAt}

-- ---- names

true_is : (a b : Bool) → (a ≡ true → b ≡ true) → (b ≡ true → a ≡ true) → a ≡ b
true_is true b there back = sym (there refl)
true_is false true there back = back refl
true_is false false there back = refl

pub same_turned : (a b : List ℕ) → same_bytes a b ≡ same_bytes b a
same_turned a b =
    true_is (same_bytes a b) (same_bytes b a)
    (λ yes. subst (λ (x : List ℕ). same_bytes x a ≡ true) (same_is a b yes) (itself_same a))
    (λ yes. subst (λ (x : List ℕ). same_bytes x b ≡ true) (same_is b a yes) (itself_same b))

-- ---- where a table stands

-- whether a name of the map is this one
abbrev pub is_named : List ℕ → Vec ℕ Global → Bool
is_named table name = same_bytes table name.items

abbrev pub same_names : Vec ℕ Global → Vec ℕ Global → Bool
same_names a b = same_bytes a.items b.items

others_named : (t : Named) (table : List ℕ) (ts : List Named) → t.0.items ≡ table → AllByRecursion (λ name. same_names t.0 name ≡ false) (keys_of ts) → AllByRecursion (IsNotNamed table) ts
others_named t table [] is all = tt
others_named t table (u ∷ ts) is all =
    (same_turned u.0.items table ∙ (ap (λ (n : List ℕ). same_bytes n u.0.items) (sym is) ∙ all.0), others_named t table ts is all.1)

at_first : (ts : List Named) (table : List ℕ) (i : ℕ) → IsDistinct same_names (keys_of ts) → position_or_len (is_named table) (keys_of ts) ≡ i → i < length ts → StandsAt ts table i
unfolding IsDistinct
at_first [] table i apart at lt = absurd (omega arith)
at_first (t ∷ ts) table i apart at lt = by (is_named table t.0) refl at (λ j later below. at_first ts table j apart.1 later below)
  where
    by : (b : Bool) → is_named table t.0 ≡ b → cond (not b) (1 + position_or_len (is_named table) (keys_of ts)) 0 ≡ i
        → ((j : ℕ) → position_or_len (is_named table) (keys_of ts) ≡ j → j < length ts → StandsAt ts table j) → StandsAt (t ∷ ts) table i
    by true named is rest =
        let name : t.0.items ≡ table = sym (same_is table t.0.items named) in
        record { front = []; here = t; back = ts; tables_are = refl; place_is = sym is; name_is = name; before = tt; behind = others_named t table ts name apart.0 }
    by false named is rest =
        let more = rest (position_or_len (is_named table) (keys_of ts)) refl (omega (arith, is, lt)) in
        let count = more.place_is in
        record {
          front = t ∷ more.front;
          here = more.here;
          back = more.back;
          tables_are = ap (λ (xs : List Named). t ∷ xs) more.tables_are;
          place_is = omega (arith, is, count);
          name_is = more.name_is;
          before = (same_turned t.0.items table ∙ named, more.before);
          behind = more.behind;
        }

some_if : (b : Bool) (n i : ℕ) → cond b (Some n) None ≡ Some i → (b ≡ true) × (n ≡ i)
some_if true n i is = (refl, cc)
some_if false n i is = cc

-- a name that was found stands where it was found
pub found_at : (ts : List Named) (table : List ℕ) (r : Option ℕ) → IsDistinct same_names (keys_of ts) → r ≡ position (is_named table) (keys_of ts) → IfSome r (λ i. i < length ts) → IfSome r (StandsAt ts table)
found_at ts table None apart at within = tt
found_at ts table (Some i) apart at within =
    let place : position_or_len (is_named table) (keys_of ts) ≡ i = (some_if _ _ i (sym at)).1 in
    at_first ts table i apart place within

none_named : (ts : List Named) (table : List ℕ) → is_some (lookup (is_named table) ts) ≡ false → AllByRecursion (IsNotNamed table) ts
none_named [] table none = tt
none_named (t ∷ ts) table none = by (is_named table t.0) refl none (none_named ts table)
  where
    by : (b : Bool) → is_named table t.0 ≡ b → is_some (cond b (Some t.1) (lookup (is_named table) ts)) ≡ false → (is_some (lookup (is_named table) ts) ≡ false → AllByRecursion (IsNotNamed table) ts) → AllByRecursion (IsNotNamed table) (t ∷ ts)
    by true named is rest = cc
    by false named is rest = (same_turned t.0.items table ∙ named, rest is)

-- where none was found there is none
pub not_found : (ts : List Named) (table : List ℕ) (r : Option ℕ) → is_some r ≡ is_some (lookup (is_named table) ts) → IfNone r (All (IsNotNamed table) ts)
not_found ts table None none = All-from_recursion (IsNotNamed table) ts (none_named ts table (sym none))
not_found ts table (Some i) none = tt

-- no value stands at a name that is not there
pub nothing_there : (ts : List Named) (table : List ℕ) → AllByRecursion (IsNotNamed table) ts → lookup (is_named table) ts ≡ None
nothing_there [] table all = refl
nothing_there (t ∷ ts) table all = ap (λ b. cond b (Some t.1) (lookup (is_named table) ts)) (same_turned table t.0.items ∙ all.0) ∙ nothing_there ts table all.1

-- ---- writes to a table

pub slice_here : {X : Type 0} (front back : List X) (x : X) → slice_get (front ++ x ∷ back) (length front) ≡ Some x
slice_here [] back x = refl
slice_here (y ∷ front) back x = slice_here front back x

pub set_here : (front back : List Named) (t : Named) (w : Table) → set_value_at (front ++ t ∷ back) (length front) w ≡ front ++ (t.0, w) ∷ back
set_here [] back t w = refl
set_here (u ∷ front) back t w = ap (λ (xs : List Named). u ∷ xs) (set_here front back t w)

-- a write of what stands there changes nothing
pub set_same : (ts : List Named) (i : ℕ) (w : Table) → slice_get (values_of ts) i ≡ Some w → set_value_at ts i w ≡ ts
set_same [] i w is = refl
set_same (t ∷ ts) zero w is = let one : t.1 ≡ w = cc in ap (λ (v : Table). (t.0, v) ∷ ts) (sym one)
set_same (t ∷ ts) (suc i) w is = ap (λ (xs : List Named). t ∷ xs) (set_same ts i w is)

pub value_at : (ts : List Named) (i : ℕ) (t : Named) → slice_get ts i ≡ Some t → slice_get (values_of ts) i ≡ Some t.1
value_at [] i t is = cc
value_at (u ∷ ts) zero t is = let one : u ≡ t = cc in ap (λ (v : Named). Some v.1) one
value_at (u ∷ ts) (suc i) t is = value_at ts i t is

-- the name of what stands there
pub named_at : (ts : List Named) (i : ℕ) (w : Table) → slice_get (values_of ts) i ≡ Some w → (key : Vec ℕ Global) × (slice_get ts i ≡ Some (key, w))
named_at [] i w is = cc
named_at (t ∷ ts) zero w is = let one : t.1 ≡ w = cc in (t.0, ap (λ (v : Table). Some (t.0, v)) one)
named_at (t ∷ ts) (suc i) w is = named_at ts i w is

-- one value is read at one place
pub one_value : {X : Type 0} (a : Option X) (x y : X) → a ≡ Some x → a ≡ Some y → x ≡ y
one_value a x y first second = let both : Some x ≡ Some y = sym first ∙ second in cc

pub on_err : {X E : Type 0} (r : Result X E) (P : Type 0) → P → OnErr r P
on_err (Ok x) P p = tt
on_err (Err e) P p = p

insert_new : (ts : List Named) (key : Vec ℕ Global) (w : Table) → AllByRecursion (IsNotNamed key.items) ts → insert_entry same_names ts key w ≡ ts ++ (key, w) ∷ []
insert_new [] key w all = refl
insert_new (t ∷ ts) key w all =
    ap (λ b. cond b ((t.0, w) ∷ ts) (t ∷ insert_entry same_names ts key w)) (same_turned key.items t.0.items ∙ all.0) ∙ ap (λ (xs : List Named). t ∷ xs) (insert_new ts key w all.1)

-- a table that was not there goes last
pub table_added : (c : Create) (old new : List Named) (key : Vec ℕ Global) (schema : Schema) (parts : List CorePart) → new ≡ insert_entry same_names old key (record { schema = schema; parts = parts; last = 0 })
    → key.items ≡ c.table → schema ≡ c.schema → parts ≡ [] → All (IsNotNamed c.table) old → AddsTable c old new
table_added c old new key schema parts is named same none absent =
    let all : AllByRecursion (IsNotNamed key.items) old = subst (λ (n : List ℕ). AllByRecursion (IsNotNamed n) old) (sym named) (recursion_from_All (IsNotNamed c.table) old absent) in
    record {
      key = key;
      key_is = named;
      tables_are = is ∙ (insert_new old key (record { schema = schema; parts = parts; last = 0 }) all
          ∙ ap₂ (λ (s : Schema) (ps : List CorePart). old ++ (key, record { schema = s; parts = ps; last = 0 }) ∷ []) same none);
    }
