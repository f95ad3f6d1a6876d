-- The commands that statements give: they stay as the history grows, an INSERT gives one for each partition of its rows, and no other statement more than one.
use Rattle.std.proofs.Common.{◌≡◌, ◌⊎◌, ℕ, ◌<◌, ◌≤◌, Bool, true, false, cond, not, List, [], ◌∷◌, ◌++◌, All, Option, Some, None, Result, Ok, Err, is_some, length, map, nat_le, nat_lt, get_or, refl, sym, ap, ◌∙◌, subst, arith, append-nil, inl, inr}
use Rattle.std.specs.List.{AllByRecursion}
use Rattle.std.proofs.lemmas.Bool.Decides.{Decides-eqb, nat_tests}
use Rattle.std.proofs.lemmas.List.Elements.{All-nil, All-cons, All-filter, All-weaker}
use Rattle.mt_base.specs.declared.partition.Partition.{Partition}
use Rattle.mt_base.specs.declared.partition.Partition.TheVariants.{Whole, Number}
use Rattle.mt_values.specs.declared.command.Command.{Command}
use Rattle.mt_values.specs.declared.command.Command.TheVariants as command
use Rattle.mt_values.specs.declared.command.Insert.{Insert}
use Rattle.mt_values.specs.declared.schema.Schema.{Schema}
use Rattle.mt_values.specs.declared.statement.SelectText.{SelectText}
use Rattle.mt_values.specs.declared.statement.Statement.{Statement}
use Rattle.mt_values.specs.declared.statement.Statement.TheVariants as statement
use Rattle.mt_values.specs.Tables.{MayHavePartition, partition_of, same_partition}
use Rattle.mt_values.specs.Values.{Row}
use Rattle.mt_values.proofs.RowPartitions.{row_has_partition, values_fit}
use Rattle.mt_model.specs.Commands.{commands_for, commands_of, commands_of_rows, create_commands, insert_command, no_commands, none_on, partitions_of, rows_in, other_partitions}
use Rattle.mt_model.specs.declared.refusal.Bound.TheVariants as bound
use Rattle.mt_model.specs.declared.refusal.Refusal.{Refusal}
use Rattle.mt_model.specs.declared.refusal.Refusal.TheVariants as refusal
use Rattle.mt_model.specs.declared.refusal.Room.TheVariants as room
use Rattle.mt_model.specs.History.{History, IsInsertInto, IsTableSchema, creates, entered, schema_of}
use Rattle.mt_model.specs.Numbers.{last_number}
use Rattle.mt_model.specs.Refusals.{accepted_by}
use Rattle.mt_model.specs.Queries.{query_for, query_of_select}
use Rattle.mt_model.specs.declared.query.Query.{Query}
use Rattle.mt_model.specs.Reply.{create_turn, insert_turn, number_turn, rows_for, schema_of_text}
use Rattle.mt_model.specs.Session.{TurnRefuses}
use Rattle.mt_model.proofs.Histories.{inserts_more, last_more, schema_kept}

-- ---- partitions

pub same_itself : (p : Partition) → same_partition p p ≡ true
same_itself Whole = refl
same_itself (Number n) = (Decides-eqb n n).1 refl

pub partition_is : (p q : Partition) → same_partition p q ≡ true → p ≡ q
partition_is Whole Whole is = refl
partition_is (Number m) (Number n) is = ap Number ((Decides-eqb m n).0 is)
partition_is Whole (Number n) is = cc
partition_is (Number m) Whole is = cc

-- rows that may come are of a partition that their table may have
pub own_partition : (schema : Schema) (i : Insert) → IsTableSchema schema → IsInsertInto schema i → MayHavePartition schema i.partition
own_partition schema i table into =
    let row = get_or i.block.rows 0 [] in
    subst (MayHavePartition schema) (into.own 0 [] into.some)
    (row_has_partition schema row table.sound (into.rows 0 [] into.some) (values_fit row (into.values 0 [] into.some)))

-- ---- each partition of rows has rows

more_in : (schema : Schema) (partition : Partition) (row : Row) (rows : List Row) → 0 < length (rows_in schema partition rows) → 0 < length (rows_in schema partition (row ∷ rows))
more_in schema partition row rows some = by (same_partition (partition_of schema row) partition)
  where
    by : (b : Bool) → 0 < length (cond b (row ∷ rows_in schema partition rows) (rows_in schema partition rows))
    by true = omega arith
    by false = some

own_in : (schema : Schema) (row : Row) (rows : List Row) → 0 < length (rows_in schema (partition_of schema row) (row ∷ rows))
own_in schema row rows = by (same_partition (partition_of schema row) (partition_of schema row)) (same_itself (partition_of schema row))
  where
    by : (b : Bool) → b ≡ true → 0 < length (cond b (row ∷ rows_in schema (partition_of schema row) rows) (rows_in schema (partition_of schema row) rows))
    by true is = omega arith
    by false is = cc

pub have_rows : (schema : Schema) (rows : List Row) → All (λ (p : Partition). 0 < length (rows_in schema p rows)) (partitions_of schema rows)
have_rows schema [] = All-nil (λ (p : Partition). 0 < length (rows_in schema p []))
have_rows schema (row ∷ rows) =
    let own = partition_of schema row in
    let before = λ (p : Partition). 0 < length (rows_in schema p rows) in
    let now = λ (p : Partition). 0 < length (rows_in schema p (row ∷ rows)) in
    let others = other_partitions own (partitions_of schema rows) in
    All-cons now own others (own_in schema row rows)
    (All-weaker before now (λ p some. more_in schema p row rows some) others (All-filter (λ (p : Partition). not (same_partition p own)) before (partitions_of schema rows) (have_rows schema rows)))

-- ---- statements that give one command at most

abbrev Few : Result (List Command) Refusal → Type 0
Few (Ok cs) = length cs ≤ 1
Few (Err why) = Unit {0}

few_created : (table : List ℕ) (r : Result Schema Refusal) → Few (create_commands table r)
few_created table (Err why) = tt
few_created table (Ok schema) = omega arith

few_asked : (r : Result Query Refusal) → Few (no_commands r)
few_asked (Err why) = tt
few_asked (Ok query) = omega arith

few_none : (table : List ℕ) (o : Option Schema) → Few (none_on table o)
few_none table None = tt
few_none table (Some schema) = omega arith

none_before : (done rest : List Command) (next : Command) → length (done ++ next ∷ rest) ≤ 1 → done ≡ []
none_before [] rest next few = refl
none_before (c ∷ []) rest next few = absurd (omega arith)
none_before (c ∷ d ∷ done) rest next few = absurd (omega arith)

-- so none comes before another
first_of_few : (r : Result (List Command) Refusal) (done rest : List Command) (next : Command) → Few r → r ≡ Ok (done ++ next ∷ rest) → done ≡ []
first_of_few r done rest next few is = none_before done rest next (subst (λ (x : Result (List Command) Refusal). Few x) is few)

-- ---- commands as the history grows

asking_kept : (h more : History) (t : SelectText) (cs : List Command) → no_commands (query_of_select t h) ≡ Ok cs → no_commands (query_of_select t (h ++ more)) ≡ Ok cs
asking_kept h more t cs is = by (schema_of t.table h) refl is
  where
    by : (o : Option Schema) → schema_of t.table h ≡ o → no_commands (query_for t o) ≡ Ok cs → no_commands (query_for t (schema_of t.table (h ++ more))) ≡ Ok cs
    by None there is = cc
    by (Some schema) there is = ap (λ o. no_commands (query_for t o)) (schema_kept t.table h more schema there) ∙ is

pub commands_kept : (h more : History) (s : Statement) (cs : List Command) → commands_of h s ≡ Ok cs → commands_of (h ++ more) s ≡ Ok cs
commands_kept h more (statement.Create c) cs is = is
commands_kept h more (statement.Insert i) cs is = by (schema_of i.table h) refl is
  where
    by : (o : Option Schema) → schema_of i.table h ≡ o → commands_for i o ≡ Ok cs → commands_for i (schema_of i.table (h ++ more)) ≡ Ok cs
    by None there is = cc
    by (Some schema) there is = ap (commands_for i) (schema_kept i.table h more schema there) ∙ is
commands_kept h more (statement.Select t) cs is = asking_kept h more t cs is
commands_kept h more (statement.Explain t) cs is = asking_kept h more t cs is
commands_kept h more (statement.Optimize t) cs is = by (schema_of t.table h) refl is
  where
    by : (o : Option Schema) → schema_of t.table h ≡ o → none_on t.table o ≡ Ok cs → none_on t.table (schema_of t.table (h ++ more)) ≡ Ok cs
    by None there is = cc
    by (Some schema) there is = ap (none_on t.table) (schema_kept t.table h more schema there) ∙ is

-- ---- a statement's commands are INSERTs, or one CREATE

abbrev pub IsInsert : Command → Type 0
IsInsert (command.Create c) = ⊥
IsInsert (command.Insert i) = Unit {0}
IsInsert (command.Alter a) = ⊥

all_inserts : (schema : Schema) (table : List ℕ) (rows : List Row) (ps : List Partition) → AllByRecursion IsInsert (map (insert_command schema table rows) ps)
all_inserts schema table rows [] = tt
all_inserts schema table rows (p ∷ ps) = (tt, all_inserts schema table rows ps)

abbrev Inserts : Result (List Command) Refusal → Type 0
Inserts (Ok cs) = AllByRecursion IsInsert cs
Inserts (Err why) = Unit {0}

inserts_of_rows : (schema : Schema) (table : List ℕ) (r : Result (List Row) Refusal) → Inserts (commands_of_rows schema table r)
inserts_of_rows schema table (Err why) = tt
inserts_of_rows schema table (Ok rows) = all_inserts schema table rows (partitions_of schema rows)

at_seam : (done rest : List Command) (next : Command) → AllByRecursion IsInsert (done ++ next ∷ rest) → IsInsert next
at_seam [] rest next all = all.0
at_seam (c ∷ done) rest next all = at_seam done rest next all.1

-- the next command is an INSERT, or the first
pub insert_or_first : (h : History) (s : Statement) (done rest : List Command) (next : Command) → commands_of h s ≡ Ok (done ++ next ∷ rest) → IsInsert next ⊎ (done ≡ [])
insert_or_first h (statement.Create c) done rest next is =
    inr (first_of_few (commands_of h (statement.Create c)) done rest next (few_created c.table (schema_of_text c)) is)
insert_or_first h (statement.Insert i) done rest next is = inl (at_seam done rest next (subst (λ (r : Result (List Command) Refusal). Inserts r) is (by (schema_of i.table h))))
  where
    by : (o : Option Schema) → Inserts (commands_for i o)
    by None = tt
    by (Some schema) = inserts_of_rows schema i.table (rows_for i (Some schema))
insert_or_first h (statement.Select t) done rest next is =
    inr (first_of_few (commands_of h (statement.Select t)) done rest next (few_asked (query_of_select t h)) is)
insert_or_first h (statement.Explain t) done rest next is =
    inr (first_of_few (commands_of h (statement.Explain t)) done rest next (few_asked (query_of_select t h)) is)
insert_or_first h (statement.Optimize o) done rest next is =
    inr (first_of_few (commands_of h (statement.Optimize o)) done rest next (few_none o.table (schema_of o.table h)) is)

-- ---- turns

-- the refusal counts so many commands
abbrev Counts : ℕ → Option Refusal → Type 0
Counts accepted None = Unit {0}
Counts accepted (Some why) = accepted_by why ≡ accepted

counts_if : (b : Bool) (accepted : ℕ) (o p : Option Refusal) → Counts accepted o → Counts accepted p → Counts accepted (cond b o p)
counts_if true accepted o p h k = h
counts_if false accepted o p h k = k

counted : (accepted : ℕ) (o : Option Refusal) (why : Refusal) → o ≡ Some why → Counts accepted o → accepted_by why ≡ accepted
counted accepted o why is h = subst (Counts accepted) is h

create_counts : (table : List ℕ) (h : History) → Counts 0 (create_turn table h)
create_counts table h =
    counts_if (is_some (schema_of table h)) 0 (Some (refusal.TableExists table)) (cond (nat_lt (creates h) 64) None (Some (refusal.Past bound.Tables))) refl
    (counts_if (nat_lt (creates h) 64) 0 None (Some (refusal.Past bound.Tables)) tt refl)

number_counts : (drawn accepted : ℕ) → Counts accepted (number_turn drawn accepted)
number_counts drawn accepted = counts_if (nat_le 4294967295 drawn) accepted (Some (refusal.Full room.Numbers accepted)) None refl tt

insert_counts : (parts drawn accepted : ℕ) → Counts accepted (insert_turn parts drawn accepted)
insert_counts parts drawn accepted =
    counts_if (nat_le 3000 parts) accepted (Some (refusal.Full room.Parts accepted)) (number_turn drawn accepted) refl (number_counts drawn accepted)

-- a turn's refusal counts the commands before it
pub turn_counts : (h : History) (done : List Command) (next : Command) (why : Refusal) → IsInsert next ⊎ (done ≡ []) → TurnRefuses h (length done) next why → accepted_by why ≡ length done
turn_counts h done (command.Create c) why (inl is) turn = absurd is
turn_counts h done (command.Create c) why (inr first) turn = counted 0 (create_turn c.table h) why turn (create_counts c.table h) ∙ sym (ap length first)
turn_counts h done (command.Insert i) why which turn =
    counted (length done) (insert_turn turn.0 (last_number i.table h) (length done)) why turn.2 (insert_counts turn.0 (last_number i.table h) (length done))
turn_counts h done (command.Alter a) why which turn =
    counted (length done) (number_turn (last_number a.table h) (length done)) why turn (number_counts (last_number a.table h) (length done))

numbers_more : (drawn later accepted : ℕ) (why : Refusal) → drawn ≤ later → number_turn drawn accepted ≡ Some why → number_turn later accepted ≡ Some why
numbers_more drawn later accepted why more is = by (nat_le 4294967295 drawn) refl is
  where
    by : (c : Bool) → nat_le 4294967295 drawn ≡ c → cond c (Some (refusal.Full room.Numbers accepted)) None ≡ Some why
        → cond (nat_le 4294967295 later) (Some (refusal.Full room.Numbers accepted)) None ≡ Some why
    by true e is = let also : nat_le 4294967295 later ≡ true = grind (arith, nat_tests) in rw also is
    by false e is = cc

full_more : (parts drawn later accepted : ℕ) (why : Refusal) → drawn ≤ later → insert_turn parts drawn accepted ≡ Some why → insert_turn parts later accepted ≡ Some why
full_more parts drawn later accepted why more is = by (nat_le 3000 parts) (nat_le 4294967295 drawn) refl is
  where
    by : (b c : Bool) → nat_le 4294967295 drawn ≡ c → cond b (Some (refusal.Full room.Parts accepted)) (cond c (Some (refusal.Full room.Numbers accepted)) None) ≡ Some why
        → cond b (Some (refusal.Full room.Parts accepted)) (cond (nat_le 4294967295 later) (Some (refusal.Full room.Numbers accepted)) None) ≡ Some why
    by true c e is = is
    by false true e is = let also : nat_le 4294967295 later ≡ true = grind (arith, nat_tests) in rw also is
    by false false e is = cc

-- what a turn refuses is refused after more entries, if these are the commands before it
pub refuses_more : (h : History) (done : List Command) (next : Command) (why : Refusal) → IsInsert next ⊎ (done ≡ []) → TurnRefuses h (length done) next why → TurnRefuses (entered h 0 done) (length done) next why
refuses_more h done (command.Create c) why (inl is) turn = absurd is
refuses_more h done (command.Create c) why (inr first) turn =
    let same : h ≡ entered h 0 done = sym (ap (entered h 0) first ∙ append-nil h) in
    subst (λ (x : History). create_turn c.table x ≡ Some why) same turn
refuses_more h done (command.Insert i) why which turn =
    let more = entered [] 0 done in (
      turn.0,
      omega (arith, turn.1, inserts_more i.table i.partition h more),
      full_more turn.0 (last_number i.table h) (last_number i.table (entered h 0 done)) (length done) why (last_more i.table h more) turn.2,
    )
refuses_more h done (command.Alter a) why which turn =
    numbers_more (last_number a.table h) (last_number a.table (entered h 0 done)) (length done) why (last_more a.table h (entered [] 0 done)) turn
