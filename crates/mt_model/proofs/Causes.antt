-- The causes of refusals: the script, or the outside, whose count rose then.
use Rattle.std.proofs.Common.{◌≡◌, ◌⊎◌, ℕ, ◌-◌, ◌<◌, ◌≤◌, ◌^◌, Bool, true, false, cond, List, [], ◌∷◌, ◌++◌, Option, Some, None, Result, Ok, Err, length, map, take, drop, refl, sym, zero, suc, ◌==◌, ap, ◌∙◌, subst, inl, inr, arith, nat_le, nat_lt, is_some, ◌&&◌, ◌||◌}
use Rattle.std.proofs.lemmas.Bool.{false≢true}
use Rattle.std.proofs.lemmas.Bool.Decides.{nat_tests}
use Rattle.std.specs.Option.{option_map}
use Rattle.mt_values.specs.declared.command.Command.{Command}
use Rattle.mt_values.specs.declared.command.Command.TheVariants as command
use Rattle.mt_values.specs.declared.row_fault.DataFault.{DataFault}
use Rattle.mt_values.specs.declared.row_fault.DataFault.TheVariants as data_fault
use Rattle.mt_values.specs.declared.row_fault.RowFault.{RowFault}
use Rattle.mt_values.specs.declared.row_fault.RowFault.TheVariants as row_fault
use Rattle.mt_values.specs.declared.schema.Column.{Column}
use Rattle.mt_values.specs.declared.schema.Schema.{Schema}
use Rattle.mt_values.specs.declared.schema.SchemaFault.{SchemaFault}
use Rattle.mt_values.specs.declared.statement.Cause.{Cause}
use Rattle.mt_values.specs.declared.statement.Cause.TheVariants as cause
use Rattle.mt_values.specs.declared.statement.Selected.{Selected}
use Rattle.mt_values.specs.declared.statement.Selected.TheVariants as selected
use Rattle.mt_values.specs.declared.expr.Literal.{Literal}
use Rattle.mt_values.specs.declared.expr.TestText.{TestText}
use Rattle.mt_values.specs.Conditions.{Condition, tests_of}
use Rattle.mt_values.specs.Engines.{sign_place}
use Rattle.mt_values.specs.Rows.{inserted_rows}
use Rattle.mt_values.specs.Schemas.{schema_fault_as as rule_of}
use Rattle.mt_values.specs.Values.{Row}
use Rattle.mt_model.specs.declared.refusal.Bound.{Bound}
use Rattle.mt_model.specs.declared.refusal.Bound.TheVariants as bound
use Rattle.mt_model.specs.declared.refusal.Refusal.{Refusal}
use Rattle.mt_model.specs.declared.refusal.Refusal.TheVariants as refusal
use Rattle.mt_model.specs.declared.refusal.Room.TheVariants as room
use Rattle.mt_values.specs.Grammar.{columns_of}
use Rattle.mt_model.specs.Clauses.{column_place, first_key, first_unknown, names_of_text, schema_of_create}
use Rattle.mt_model.specs.Reply.{found_or, place_onto, places_of, first_passed, first_refusal, refusal_of_rules, refusal_of_schema, refusal_of_text, too_many_elements, unknown_column, unless_refused, schema_of_text, create_turn, rows_or_refused, rows_for, insert_turn, number_turn, selected_places}
use Rattle.mt_model.specs.Queries.{asked_with, first_alien, place_in, query_for, query_of, query_of_select, refusal_of_condition, refusal_of_test, refusal_of_tests, type_at}
use Rattle.mt_model.specs.declared.query.Query.{Query}
use Rattle.mt_values.specs.declared.statement.Statement.{Statement}
use Rattle.mt_values.specs.declared.statement.Statement.TheVariants as statement
use Rattle.mt_values.specs.declared.statement.CreateText.{CreateText}
use Rattle.mt_values.specs.declared.statement.InsertText.{InsertText}
use Rattle.mt_values.specs.declared.statement.OptimizeText.{OptimizeText}
use Rattle.mt_values.specs.declared.statement.SelectText.{SelectText}
use Rattle.mt_model.specs.History.{History, schema_of, creates, column_types}
use Rattle.mt_model.specs.Outside.{LevelFailed, Outside, HasRisen, PartBusy, ReadOrStageFailed, TurnFailed}
use Rattle.mt_model.specs.Causes.{MeetsCause}
use Rattle.mt_model.specs.Commands.{commands_for, commands_of, commands_of_rows, create_commands, no_commands, none_on}
use Rattle.mt_model.specs.Numbers.{last_number}
use Rattle.mt_model.specs.Refusals.{accepted_by, code, code_of, is_damage, is_refusal, refusal_line, refusal_of_cause, refusal_of_row, refusal_of_data}
use Rattle.mt_model.specs.Session.{MergeFailed, TurnRefuses, TakesCommands, Takes}
use Rattle.mt_model.proofs.Commands.{commands_kept, insert_or_first, refuses_more}
use Rattle.mt_model.proofs.Histories.{take_later}
use Rattle.mt_model.proofs.Places.{stops_places}
use Rattle.mt_model.proofs.Refused.{code_of_line}

-- ---- what a script is refused for

-- a number of those that say so: up to 14, and 18
abbrev pub IsOfScript : ℕ → Type 0
IsOfScript m = (m ≤ 14) ⊎ (m ≡ 18)

-- the script is the cause, and not the outside
abbrev pub OfScript : Refusal → Type 0
OfScript r = IsOfScript (code r)

-- so it is, and the line counts no command
abbrev pub OfText : Refusal → Type 0
OfText r = OfScript r × (accepted_by r ≡ 0)

-- where it is refused, the script is the cause
abbrev Scripted : {A : Type 0} → Result A Refusal → Type 0
Scripted (Ok x) = Unit {0}
Scripted (Err why) = OfText why

-- where there is a refusal, the script is its cause
abbrev Tells : Option Refusal → Type 0
Tells None = Unit {0}
Tells (Some why) = OfText why

scripted : {A : Type 0} (r : Result A Refusal) (why : Refusal) → r ≡ Err why → Scripted r → OfText why
scripted {A} r why is h = subst (λ (z : Result A Refusal). Scripted z) is h

told : (o : Option Refusal) (why : Refusal) → o ≡ Some why → Tells o → OfText why
told o why is h = subst Tells is h

tells_if : (c : Bool) (o p : Option Refusal) → Tells o → Tells p → Tells (cond c o p)
tells_if true o p h k = h
tells_if false o p h k = k

tells_first : (o p : Option Refusal) → Tells o → Tells p → Tells (first_refusal o p)
tells_first None p h k = k
tells_first (Some why) p h k = h

found_tells : (name : List ℕ) (o : Option ℕ) → Scripted (found_or name o)
found_tells name None = (inl (omega arith), refl)
found_tells name (Some place) = tt

onto_tells : (r : Result ℕ Refusal) (rest : Result (List ℕ) Refusal) → Scripted r → Scripted rest → Scripted (place_onto r rest)
onto_tells (Err why) rest h k = h
onto_tells (Ok place) (Err why) h k = k
onto_tells (Ok place) (Ok places) h k = tt

places_tell : (columns : List Column) (names : List (List ℕ)) → Scripted (places_of columns names)
places_tell columns [] = tt
places_tell columns (name ∷ names) = onto_tells (found_or name (column_place columns name)) (places_of columns names) (found_tells name (column_place columns name)) (places_tell columns names)

rules_tell : (schema : Schema) (o : Option SchemaFault) → Tells (option_map (refusal_of_schema schema) o)
rules_tell schema None = tt
rules_tell schema (Some broken) = (inl (omega arith), refl)

bounds_tell : (o : Option Bound) → Tells (option_map refusal.Past o)
bounds_tell None = tt
bounds_tell (Some b) = (inl (omega arith), refl)

unless_tells : {X : Type 0} (o : Option Refusal) (x : X) → Tells o → Scripted (unless_refused o x)
unless_tells None x h = tt
unless_tells (Some why) x h = h

unknown_tells : (o : Option (List ℕ)) → Tells (option_map refusal.NoColumn o)
unknown_tells None = tt
unknown_tells (Some name) = (inl (omega arith), refl)

text_tells : (c : CreateText) → Scripted (schema_of_text c)
text_tells c =
    let schema = schema_of_create c in
    let first = first_key c.clauses in
    unless_tells (refusal_of_text c) schema
    (tells_first (unknown_column c) (first_refusal (refusal_of_rules first schema) (too_many_elements c)) (unknown_tells (first_unknown (columns_of c.elements) (names_of_text c)))
    (tells_first (refusal_of_rules first schema) (too_many_elements c) (rules_tell schema (rule_of first schema)) (bounds_tell (first_passed [] c.elements))))

create_turn_tells : (table : List ℕ) (h : History) → Tells (create_turn table h)
create_turn_tells table h =
    tells_if (is_some (schema_of table h)) (Some (refusal.TableExists table)) (cond (nat_lt (creates h) 64) None (Some (refusal.Past bound.Tables))) (inl (omega arith), refl)
    (tells_if (nat_lt (creates h) 64) None (Some (refusal.Past bound.Tables)) tt (inl (omega arith), refl))

row_tells : (fault : RowFault) → OfText (refusal_of_row fault)
row_tells (row_fault.Fields line found wanted) = (inl (omega arith), refl)
row_tells (row_fault.Field line field) = (inl (omega arith), refl)
row_tells row_fault.Value = (inl (omega arith), refl)
row_tells (row_fault.Sign line) = (inr refl, refl)

data_tells : (fault : DataFault) → OfText (refusal_of_data fault)
data_tells (data_fault.Row fault) = row_tells fault
data_tells data_fault.TooMany = (inl (omega arith), refl)
data_tells (data_fault.Unended rows) = (inl (omega arith), refl)

rows_tell : (i : InsertText) (o : Option Schema) → Scripted (rows_for i o)
rows_tell i None = (inl (omega arith), refl)
rows_tell i (Some schema) = by (inserted_rows (column_types schema) (sign_place schema.engine) i.lines i.ended)
  where
    by : (r : Result (List Row) DataFault) → Scripted (rows_or_refused r)
    by (Ok rows) = tt
    by (Err fault) = data_tells fault

full_tells : (parts drawn accepted : ℕ) (why : Refusal) → insert_turn parts drawn accepted ≡ Some why → OfScript why
full_tells parts drawn accepted why is = by (nat_le 3000 parts) (nat_le 4294967295 drawn) is
  where
    by : (b c : Bool) → cond b (Some (refusal.Full room.Parts accepted)) (cond c (Some (refusal.Full room.Numbers accepted)) None) ≡ Some why → OfScript why
    by true c e = let same : refusal.Full room.Parts accepted ≡ why = cc in subst OfScript same (inl (omega arith))
    by false true e = let same : refusal.Full room.Numbers accepted ≡ why = cc in subst OfScript same (inl (omega arith))
    by false false e = cc

numbers_tell : (drawn accepted : ℕ) (why : Refusal) → number_turn drawn accepted ≡ Some why → OfScript why
numbers_tell drawn accepted why is = full_tells 0 drawn accepted why is

-- a turn that refuses does so for what the script says
pub turn_tells : (h : History) (accepted : ℕ) (c : Command) (why : Refusal) → TurnRefuses h accepted c why → OfScript why
turn_tells h accepted (command.Create c) why turn = (told (create_turn c.table h) why turn (create_turn_tells c.table h)).0
turn_tells h accepted (command.Insert i) why turn = full_tells turn.0 (last_number i.table h) accepted why turn.2
turn_tells h accepted (command.Alter a) why turn = numbers_tell (last_number a.table h) accepted why turn

selected_tells : (columns : List Column) (which : Selected) → Scripted (selected_places columns which)
selected_tells columns selected.All = tt
selected_tells columns (selected.Named names) = places_tell columns names

literal_tells : (column : List ℕ) (o : Option Literal) → Tells (option_map (λ (l : Literal). refusal.Literal column l.at) o)
literal_tells column None = tt
literal_tells column (Some l) = (inl (omega arith), refl)

tests_tell : (columns : List Column) (ts : List TestText) → Tells (refusal_of_tests columns ts)
tests_tell columns [] = tt
tests_tell columns (t ∷ ts) =
    tells_first (refusal_of_test columns t) (refusal_of_tests columns ts) (literal_tells t.column (first_alien (type_at columns (place_in columns t)) t.literals)) (tests_tell columns ts)

condition_tells : (columns : List Column) (c : Condition TestText) → Tells (refusal_of_condition columns c)
condition_tells columns c =
    let names = map (λ (t : TestText). t.column) (tests_of c) in
    tells_first (option_map refusal.NoColumn (first_unknown columns names)) (refusal_of_tests columns (tests_of c)) (unknown_tells (first_unknown columns names)) (tests_tell columns (tests_of c))

asked_tells : (columns : List Column) (c : Condition TestText) (r : Result (List ℕ) Refusal) → Scripted r → Scripted (asked_with columns c r)
asked_tells columns c (Err why) h = h
asked_tells columns c (Ok places) h = unless_tells (refusal_of_condition columns c) _ (condition_tells columns c)

query_tells : (columns : List Column) (s : SelectText) → Scripted (query_of columns s)
query_tells columns s = asked_tells columns s.condition (selected_places columns s.columns) (selected_tells columns s.columns)

select_tells : (t : SelectText) (o : Option Schema) → Scripted (query_for t o)
select_tells t None = (inl (omega arith), refl)
select_tells t (Some schema) = query_tells schema.columns t

asking_tells : (r : Result Query Refusal) → Scripted r → Scripted (no_commands r)
asking_tells (Err why) t = t
asking_tells (Ok query) t = tt

none_tells : (table : List ℕ) (o : Option Schema) → Scripted (none_on table o)
none_tells table None = (inl (omega arith), refl)
none_tells table (Some schema) = tt

commands_tell : (h : History) (st : Statement) → Scripted (commands_of h st)
commands_tell h (statement.Create c) = by (schema_of_text c) (text_tells c)
  where
    by : (r : Result Schema Refusal) → Scripted r → Scripted (create_commands c.table r)
    by (Err why) t = t
    by (Ok schema) t = tt
commands_tell h (statement.Insert i) = by (schema_of i.table h)
  where
    of_rows : (schema : Schema) (r : Result (List Row) Refusal) → Scripted r → Scripted (commands_of_rows schema i.table r)
    of_rows schema (Err why) t = t
    of_rows schema (Ok rows) t = tt

    by : (o : Option Schema) → Scripted (commands_for i o)
    by None = (inl (omega arith), refl)
    by (Some schema) = of_rows schema (rows_for i (Some schema)) (rows_tell i (Some schema))
commands_tell h (statement.Select t) = asking_tells (query_of_select t h) (select_tells t (schema_of t.table h))
commands_tell h (statement.Explain t) = asking_tells (query_of_select t h) (select_tells t (schema_of t.table h))
commands_tell h (statement.Optimize o) = none_tells o.table (schema_of o.table h)

-- a statement that gives no commands, or a SELECT or an EXPLAIN that asks nothing of its table, is refused for what it says
pub commands_are_cause : (h : History) (st : Statement) (why : Refusal) → commands_of h st ≡ Err why → OfText why
commands_are_cause h st why is = scripted (commands_of h st) why is (commands_tell h st)

pub select_is_cause : (h : History) (t : SelectText) (why : Refusal) → query_of_select t h ≡ Err why → OfText why
select_is_cause h t why is = scripted (query_of_select t h) why is (select_tells t (schema_of t.table h))

-- a CREATE or a SELECT that is refused for what it says
pub text_is_cause : (c : CreateText) (why : Refusal) → schema_of_text c ≡ Err why → OfScript why
text_is_cause c why is = (scripted (schema_of_text c) why is (text_tells c)).0

pub query_is_cause : (columns : List Column) (s : SelectText) (why : Refusal) → query_of columns s ≡ Err why → OfScript why
query_is_cause columns s why is = (scripted (query_of columns s) why is (query_tells columns s)).0

pub cause_tells : (why : Cause) → OfText (refusal_of_cause why)
cause_tells (cause.Grammar place) = (inl (omega arith), refl)
cause_tells cause.LongStatement = (inl (omega arith), refl)
cause_tells cause.LongName = (inl (omega arith), refl)
cause_tells cause.TooDeep = (inl (omega arith), refl)

-- ---- what a reply says of the outside

-- the script is the cause of the reply, or the disk's count rose
abbrev Blames : Outside → List ℕ → Type 0
Blames n reply = IsOfScript (code_of reply) ⊎ ((code_of reply ≤ 17) × HasRisen n n.ended)

by_script : (n : Outside) (why : Refusal) (reply : List ℕ) → reply ≡ refusal_line why → OfScript why → Blames n reply
by_script n why reply is few = let e : code_of reply ≡ code why = ap code_of is ∙ code_of_line why in inl (subst IsOfScript (sym e) few)

by_none : (n : Outside) (reply is : List ℕ) → reply ≡ is → code_of is ≡ 0 → Blames n reply
by_none n reply is same none = let e : code_of reply ≡ 0 = ap code_of same ∙ none in inl (inl (omega arith))

by_outside : (n : Outside) (why : Refusal) (reply : List ℕ) → reply ≡ refusal_line why → code why ≤ 17 → HasRisen n n.ended → Blames n reply
by_outside n why reply is few rose = let e : code_of reply ≡ code why = ap code_of is ∙ code_of_line why in inr (omega arith, rose)

by_stage : (n : Outside) (reply : List ℕ) → ReadOrStageFailed n reply → Blames n reply
by_stage n reply failed = by_outside n refusal.Failed reply failed.0 (omega arith) failed.1

by_turn : (n : Outside) (accepted : ℕ) (reply : List ℕ) → TurnFailed n accepted reply → Blames n reply
by_turn n accepted reply (inl failed) = by_outside n (refusal.Unsettled accepted) reply failed.0 (omega arith) failed.1
by_turn n accepted reply (inr (now, low, ended, rose, is)) = by_outside n (refusal.Stopped n.opened now accepted) reply is (omega arith) ended

-- a part of the greatest level is of the store
by_level : (n : Outside) (reply : List ℕ) → LevelFailed n reply → Blames n reply
by_level n reply failed = by_script n (refusal.Past bound.Levels) reply failed.0 (inl (omega arith))

-- and so is one that is being merged
by_busy : (n : Outside) (reply : List ℕ) → PartBusy n reply → Blames n reply
by_busy n reply busy = by_script n (refusal.Busy busy.1) reply busy.2 (inl (omega arith))

by_merge : (n : Outside) (o : OptimizeText) (reply : List ℕ) → MergeFailed n o reply → Blames n reply
by_merge n o reply (inl failed) = by_stage n reply failed
by_merge n o reply (inr (inl (whole, inl failed))) = by_level n reply failed
by_merge n o reply (inr (inl (whole, inr busy))) = by_busy n reply busy
by_merge n o reply (inr (inr failed)) = by_turn n 0 reply failed

commands_blame : (n : Outside) (h : History) (s : ℕ) (st : Statement) (from to : ℕ) (reply : List ℕ) → TakesCommands n h s st from to reply → Blames n reply
commands_blame n h s st from to reply (inl (is, a)) = by_none n reply _ is refl
commands_blame n h s st from to reply (inr (inl (why, is, r))) = by_script n why reply r.line (commands_are_cause (take to h) st why is).0
commands_blame n h s st from to reply (inr (inr (inl (commands, is, some, a, failed)))) = by_stage n reply failed
commands_blame n h s st from to reply (inr (inr (inr (done, next, rest, stops, inl (why, turn, line))))) = by_script n why reply line (turn_tells (take to h) (length done) next why turn)
commands_blame n h s st from to reply (inr (inr (inr (done, next, rest, stops, inr (allows, failed))))) = by_turn n (length done) reply failed

pub takes_blames : (n : Outside) (h : History) (s : ℕ) (st : Result Statement Cause) (from to : ℕ) (reply : List ℕ) → Takes n h s st from to reply → Blames n reply
takes_blames n h s (Ok (statement.Create c)) from to reply t = commands_blame n h s (statement.Create c) from to reply t
takes_blames n h s (Ok (statement.Insert i)) from to reply t = commands_blame n h s (statement.Insert i) from to reply t
takes_blames n h s (Ok (statement.Select t)) from to reply (inl (r, a)) = by_none n reply _ r.reply_is refl
takes_blames n h s (Ok (statement.Select t)) from to reply (inr (inl (why, is, r))) = by_script n why reply r.line (select_is_cause (take to h) t why is).0
takes_blames n h s (Ok (statement.Select t)) from to reply (inr (inr (query, is, a, failed))) = by_stage n reply failed
takes_blames n h s (Ok (statement.Explain t)) from to reply (inl (r, a)) = by_none n reply _ r.reply_is refl
takes_blames n h s (Ok (statement.Explain t)) from to reply (inr (why, is, r)) = by_script n why reply r.line (select_is_cause (take to h) t why is).0
takes_blames n h s (Ok (statement.Optimize o)) from to reply (inl (is, a, inl ok)) = by_none n reply _ ok refl
takes_blames n h s (Ok (statement.Optimize o)) from to reply (inl (is, a, inr failed)) = by_merge n o reply failed
takes_blames n h s (Ok (statement.Optimize o)) from to reply (inr (why, is, r)) = by_script n why reply r.line (commands_are_cause (take to h) (statement.Optimize o) why is).0
takes_blames n h s (Err why) from to reply r = by_script n (refusal_of_cause why) reply r.line (cause_tells why).0

-- a count that stands where it stood at opening, below its type's end, has not risen
pub still_calm : (n : Outside) → n.ended ≡ n.opened → n.ended < 2 ^ 64 - 1 → HasRisen n n.ended → ⊥
still_calm n still below rose = omega arith

numbered : (m : ℕ) → IsOfScript m → (m ≡ 0) ⊎ ((nat_le 1 m && nat_le m 14 || (m == 18)) ≡ true)
numbered m (inr is) = inr (ap (λ (k : ℕ). nat_le 1 k && nat_le k 14 || (k == 18)) is)
numbered zero (inl few) = inl refl
numbered (suc m) (inl few) = inr (test (suc m) (omega arith) few)
  where
    test : (k : ℕ) → 0 < k → k ≤ 14 → (nat_le 1 k && nat_le k 14 || (k == 18)) ≡ true
    test k some few = grind (arith, nat_tests)

-- where no count rose, a statement is accepted or refused for what the script says
pub told_of_script : (n : Outside) (h : History) (s : ℕ) (st : Result Statement Cause) (from to : ℕ) (reply : List ℕ) → n.ended ≡ n.opened → n.ended < 2 ^ 64 - 1 → Takes n h s st from to reply → (code_of reply ≡ 0) ⊎ (is_refusal reply ≡ true)
told_of_script n h s st from to reply still below t = by (takes_blames n h s st from to reply t)
  where
    by : Blames n reply → (code_of reply ≡ 0) ⊎ (is_refusal reply ≡ true)
    by (inl few) = numbered (code_of reply) few
    by (inr (few, rose)) = absurd (still_calm n still below rose)

-- a reply that has a number and is no refusal for what the script says comes only where the count rose
pub outside_rose : (n : Outside) (h : History) (s : ℕ) (st : Result Statement Cause) (from to : ℕ) (reply : List ℕ) → Takes n h s st from to reply → 0 < code_of reply → is_refusal reply ≡ false → HasRisen n n.ended
outside_rose n h s st from to reply t some other = by (takes_blames n h s st from to reply t)
  where
    of_number : (code_of reply ≡ 0) ⊎ (is_refusal reply ≡ true) → HasRisen n n.ended
    of_number (inl none) = absurd (omega arith)
    of_number (inr refuses) = absurd (false≢true (sym other ∙ refuses))

    by : Blames n reply → HasRisen n n.ended
    by (inl few) = of_number (numbered (code_of reply) few)
    by (inr (few, rose)) = rose

not_damage : (m : ℕ) → m < 19 → (m == 19) ≡ false
not_damage m few = grind (arith, nat_tests)

-- where the script is the cause, the line does not tell of damage
pub undamaged_line : (why : Refusal) → OfScript why → is_damage (refusal_line why) ≡ false
undamaged_line why few = let e : code_of (refusal_line why) ≡ code why = code_of_line why in by few e
  where
    by : IsOfScript (code why) → code_of (refusal_line why) ≡ code why → is_damage (refusal_line why) ≡ false
    by (inl low) e = not_damage (code_of (refusal_line why)) (omega (arith, e, low))
    by (inr is) e = not_damage (code_of (refusal_line why)) (omega (arith, e, is))

-- no reply tells of damage
pub never_damaged : (n : Outside) (h : History) (s : ℕ) (st : Result Statement Cause) (from to : ℕ) (reply : List ℕ) → Takes n h s st from to reply → is_damage reply ≡ false
never_damaged n h s st from to reply t = not_damage (code_of reply) (by (takes_blames n h s st from to reply t))
  where
    by : Blames n reply → code_of reply < 19
    by (inl (inl few)) = omega arith
    by (inl (inr is)) = omega arith
    by (inr (few, rose)) = omega arith

-- ---- refusals have causes

-- a number that is none of E01 to E14 and E18 is of no refusal
no_refusal : (m : ℕ) → (m ≡ 0) ⊎ ((14 < m) × (m < 18)) → (nat_le 1 m && nat_le m 14 || (m == 18)) ≡ true → ⊥
no_refusal m (inl none) is = let off : (nat_le 1 m && nat_le m 14 || (m == 18)) ≡ false = rw none refl in false≢true (sym off ∙ is)
no_refusal m (inr within) is = let low = within.0 in let high = within.1 in let off : (nat_le 1 m && nat_le m 14 || (m == 18)) ≡ false = grind (arith, nat_tests, low, high) in false≢true (sym off ∙ is)

not_by_none : (reply is : List ℕ) → reply ≡ is → code_of is ≡ 0 → is_refusal reply ≡ true → ⊥
not_by_none reply is same none refuses = no_refusal (code_of reply) (inl (ap code_of same ∙ none)) refuses

not_by_outside : (why : Refusal) (reply : List ℕ) → reply ≡ refusal_line why → 14 < code why → code why < 18 → is_refusal reply ≡ true → ⊥
not_by_outside why reply is low high refuses = let e : code_of reply ≡ code why = ap code_of is ∙ code_of_line why in no_refusal (code_of reply) (inr (omega (arith, e, low), omega (arith, e, high))) refuses

not_by_turn : (n : Outside) (accepted : ℕ) (reply : List ℕ) → TurnFailed n accepted reply → is_refusal reply ≡ true → ⊥
not_by_turn n accepted reply (inl failed) refuses = not_by_outside (refusal.Unsettled accepted) reply failed.0 (omega arith) (omega arith) refuses
not_by_turn n accepted reply (inr stopped) refuses = not_by_outside (refusal.Stopped n.opened stopped.0 accepted) reply stopped.4 (omega arith) (omega arith) refuses

-- the commands that a statement gave up to some place it gives up to a later one
gives_later : (h : History) (st : Statement) (from to : ℕ) (cs : List Command) → from ≤ to → commands_of (take from h) st ≡ Ok cs → commands_of (take to h) st ≡ Ok cs
gives_later h st from to cs later is =
    ap (λ (x : History). commands_of x st) (take_later from to h later) ∙ commands_kept (take from h) (take (to - from) (drop from h)) st cs is

commands_refused : (n : Outside) (h : History) (s : ℕ) (st : Statement) (from to : ℕ) (reply : List ℕ) → TakesCommands n h s st from to reply → is_refusal reply ≡ true → MeetsCause (take to h) (Ok st)
commands_refused n h s st from to reply (inl (is, a)) refuses = absurd (not_by_none reply _ is refl refuses)
commands_refused n h s st from to reply (inr (inl (why, is, r))) refuses = inl (why, is)
commands_refused n h s st from to reply (inr (inr (inl (commands, is, some, a, failed)))) refuses =
    absurd (not_by_outside refusal.Failed reply failed.0 (omega arith) (omega arith) refuses)
commands_refused n h s st from to reply (inr (inr (inr (done, next, rest, stops, inl (why, turn, line))))) refuses =
    let places = stops_places h s st from to done (next ∷ rest) stops in
    let later : stops.seen ≤ to = omega (arith, places.later, places.last) in
    let which = insert_or_first (take stops.seen h) st done rest next stops.gives in
    inr (done, next, rest, why, gives_later h st stops.seen to (done ++ next ∷ rest) later stops.gives, refuses_more (take to h) done next why which turn)
commands_refused n h s st from to reply (inr (inr (inr (done, next, rest, stops, inr (allows, failed))))) refuses = absurd (not_by_turn n (length done) reply failed refuses)

-- a merge that failed is refused for no fault where a part has the greatest level, or is being merged
merge_refused : (n : Outside) (o : OptimizeText) (reply : List ℕ) → MergeFailed n o reply → is_refusal reply ≡ true → LevelFailed n reply ⊎ PartBusy n reply
merge_refused n o reply (inl failed) refuses = absurd (not_by_outside refusal.Failed reply failed.0 (omega arith) (omega arith) refuses)
merge_refused n o reply (inr (inl (whole, why))) refuses = why
merge_refused n o reply (inr (inr failed)) refuses = absurd (not_by_turn n 0 reply failed refuses)

pub refused_by_cause : (n : Outside) (h : History) (s : ℕ) (st : Result Statement Cause) (from to : ℕ) (reply : List ℕ) → Takes n h s st from to reply → is_refusal reply ≡ true → MeetsCause (take to h) st ⊎ LevelFailed n reply ⊎ PartBusy n reply
refused_by_cause n h s (Ok (statement.Create c)) from to reply t refuses = inl (commands_refused n h s (statement.Create c) from to reply t refuses)
refused_by_cause n h s (Ok (statement.Insert i)) from to reply t refuses = inl (commands_refused n h s (statement.Insert i) from to reply t refuses)
refused_by_cause n h s (Ok (statement.Select t)) from to reply (inl (r, a)) refuses = absurd (not_by_none reply _ r.reply_is refl refuses)
refused_by_cause n h s (Ok (statement.Select t)) from to reply (inr (inl (why, is, r))) refuses = inl (inl (why, ap no_commands is))
refused_by_cause n h s (Ok (statement.Select t)) from to reply (inr (inr (query, is, a, failed))) refuses = absurd (not_by_outside refusal.Failed reply failed.0 (omega arith) (omega arith) refuses)
refused_by_cause n h s (Ok (statement.Explain t)) from to reply (inl (r, a)) refuses = absurd (not_by_none reply _ r.reply_is refl refuses)
refused_by_cause n h s (Ok (statement.Explain t)) from to reply (inr (why, is, r)) refuses = inl (inl (why, ap no_commands is))
refused_by_cause n h s (Ok (statement.Optimize o)) from to reply (inl (is, a, inl ok)) refuses = absurd (not_by_none reply _ ok refl refuses)
refused_by_cause n h s (Ok (statement.Optimize o)) from to reply (inl (is, a, inr failed)) refuses = inr (merge_refused n o reply failed refuses)
refused_by_cause n h s (Ok (statement.Optimize o)) from to reply (inr (why, is, r)) refuses = inl (inl (why, is))
refused_by_cause n h s (Err why) from to reply r refuses = inl tt
