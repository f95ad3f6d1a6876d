-- What the commands of a session's statement come to over a history, and which replies it may have then.
use Rattle.std.proofs.Common.{◌≡◌, ℕ, ◌+◌, ◌-◌, ◌<◌, ◌≤◌, Bool, true, false, cond, List, [], ◌∷◌, ◌++◌, length, take, Option, Some, None, Ok, Err, is_some, nat_le, nat_lt, inl, inr, refl, sym, ap, ◌∙◌, subst, arith}
use Rattle.std.proofs.lemmas.Bool.Decides.{nat_tests}
use Rattle.std.proofs.lemmas.List.{take_all, take_at}
use Rattle.mt_base.specs.declared.partition.Partition.{Partition}
use Rattle.mt_values.specs.declared.command.Command.{Command}
use Rattle.mt_values.specs.declared.command.Entry.{Entry}
use Rattle.mt_values.specs.declared.schema.Schema.{Schema}
use Rattle.mt_values.specs.declared.statement.CreateText.{CreateText}
use Rattle.mt_values.specs.declared.statement.Statement.{Statement}
use Rattle.mt_values.specs.Grid.{Grid}
use Rattle.mt_outside.specs.Files.{Files}
use Rattle.replies.specs.mt_model.declared.refusal.Bound.TheVariants as bound
use Rattle.replies.specs.mt_model.declared.refusal.Refusal.{Refusal}
use Rattle.replies.specs.mt_model.declared.refusal.Refusal.TheVariants as refusal
use Rattle.replies.specs.mt_model.declared.refusal.Room.TheVariants as room
use Rattle.replies.specs.mt_model.Commands.{commands_of}
use Rattle.replies.specs.mt_model.History.{History, inserts}
use Rattle.replies.specs.mt_model.Numbers.{last_number}
use Rattle.replies.specs.mt_model.Outside.{Outside, ReadOrStageFailed, TurnFailed}
use Rattle.replies.specs.mt_model.Refusals.{refusal_line}
use Rattle.replies.specs.mt_model.Reply.{ok_line, schema_of_text}
use Rattle.replies.specs.mt_model.Session.{Adds, AddsNothing, RefusedInTurn, StopsAfter, TakesCommands, TurnAllows}
use Rattle.replies.specs.Foreseen.{AgreesWith, Met}
use Rattle.replies.proofs.Meeting.{commit_counted, stop_counted}
use Rattle.replies.proofs.MtModelGrowing.{stays}
use Rattle.merge_workers.specs.shared_store.durable_commit.declared.causes.Limit.TheVariants as limit
use Rattle.merge_workers.specs.shared_store.durable_commit.declared.causes.Refused.{Refused}
use Rattle.merge_workers.specs.shared_store.durable_commit.declared.causes.Refused.TheVariants as refused
use Rattle.merge_workers.specs.shared_store.durable_commit.Commits.{stopped_by}
use Rattle.merge_workers.specs.shared_store.part_set.Parts.{kept_in}
use Rattle.merge_workers.specs.shared_store.part_set.Sets.{parts_of}
use Rattle.merge_workers.specs.shared_store.root_commits.Commits.{IsCause, partition_of_block, refuses_create, refuses_part}
use Rattle.merge_workers.specs.shared_store.root_store.declared.store.CoreStore.{CoreStore}
use Rattle.merge_workers.specs.shared_store.root_store.declared.store.Table.{Table}
use Rattle.merge_workers.specs.shared_store.root_store.Stores.{CoreStands, table_at}
use Rattle.merge_workers.specs.shared_store.Tallies.{stops_in}
use Rattle.session.specs.Stops.{IsLineOf}
use Rattle.session.proofs.Creating.{created, turn_free, turn_full, turn_taken}
use Rattle.session.proofs.Inserting.{inserted, turn_free as room_free, turn_full as room_full, turn_spent}
use Rattle.session.proofs.Standing.{drawn_is, no_table, parts_made, table_schema, tables_made}
use Rattle.session.proofs.Stopping.{nothing_shown, nothing_shown_to_create}

-- ---- why a turn refused a command

-- the store was stopped or the disk failed, which the session's share has counted
module _ (m : Met) (n : Outside) (a : AgreesWith m n) (failed accepted : ℕ) (table : List ℕ) (cause : Refused) (reply : List ℕ) (line : IsLineOf accepted table cause reply)
    (counted : 0 < stops_in (Some cause) → 0 < m.stops) (alone : m.alone ≡ true → failed ≤ m.disk) where
  line_as : (r : Refused) → cause ≡ r → IsLineOf accepted table r reply
  line_as r is = subst (λ (x : Refused). IsLineOf accepted table x reply) is line

  has_counted : (r : Refused) → cause ≡ r → 0 < stops_in (Some r) → 0 < m.stops
  has_counted r is some = counted (subst (λ (x : Refused). 0 < stops_in (Some x)) (sym is) some)

  by_outside : (r : Refused) → cause ≡ r → IsCause None (Some r) → TurnFailed n accepted reply
  by_outside refused.NoMemory is outside = absurd (line_as refused.NoMemory is)
  by_outside refused.Disk is outside = commit_counted m n a reply accepted (has_counted refused.Disk is (omega arith)) (line_as refused.Disk is)
  by_outside (refused.Stopped o w) is outside = absurd outside
  by_outside refused.Exists is outside = absurd outside
  by_outside (refused.Limit l) is outside = absurd outside

  pub turn_failed : IsCause (stopped_by m.opened failed) (Some cause) → TurnFailed n accepted reply
  turn_failed is = by (nat_lt m.opened failed) refl is
    where
      by : (b : Bool) → nat_lt m.opened failed ≡ b → IsCause (cond b (Some (refused.Stopped m.opened failed)) None) (Some cause) → TurnFailed n accepted reply
      by true risen is =
          let same : cause ≡ refused.Stopped m.opened failed = cc in
          stop_counted m n a reply failed accepted (has_counted (refused.Stopped m.opened failed) same (omega arith)) (grind (arith, nat_tests, risen)) alone (line_as (refused.Stopped m.opened failed) same)
      by false risen is = by_outside cause refl is

-- what a store that stands for a history shows against a command, beside what the outside does
module _ {F : Type 0} (files_of : F → Option Files) (h : History) (store : CoreStore F) (s : CoreStands files_of h store) (failed : ℕ) (n : Outside) (accepted : ℕ) (cause : Refused) (reply : List ℕ)
    (outside : IsCause (stopped_by store.opened failed) (Some cause) → TurnFailed n accepted reply) where
  -- a CREATE
  module _ (c : CreateText) (schema : Schema) (text : schema_of_text c ≡ Ok schema) (line : IsLineOf accepted c.table cause reply) where
    create_line : (r : Refused) → Some cause ≡ Some r → IsLineOf accepted c.table r reply
    create_line r is = let same : cause ≡ r = cc in subst (λ (x : Refused). IsLineOf accepted c.table x reply) same line

    create_by : (found : Option Table) → table_at store c.table ≡ found → (full : Bool) → nat_le 64 (length store.tables.entries) ≡ full
        → IsCause (cond (is_some found) (Some refused.Exists) (cond full (Some (refused.Limit limit.Tables)) (stopped_by store.opened failed))) (Some cause) → RefusedInTurn n h accepted (created c schema text) reply
    create_by (Some t) there full many is = inl (refusal.TableExists c.table, turn_taken c.table h t.schema (table_schema files_of h store s c.table t there), create_line refused.Exists is)
    create_by None there true many is =
        let made = tables_made files_of h store s c.table in
        let count : 64 ≤ length store.tables.entries = grind (arith, nat_tests) in
        inl (refusal.Past bound.Tables, turn_full c.table h (no_table files_of h store s c.table there) (omega (arith, made, count)), create_line (refused.Limit limit.Tables) is)
    create_by None there false many is =
        let made = tables_made files_of h store s c.table in
        let count : length store.tables.entries < 64 = grind (arith, nat_tests) in
        inr (turn_free c.table h (no_table files_of h store s c.table there) (omega (arith, made, count)), outside is)

    pub create_not_done : IsCause (refuses_create store c.table failed) (Some cause) → RefusedInTurn n h accepted (created c schema text) reply
    create_not_done is = create_by (table_at store c.table) refl (nat_le 64 (length store.tables.entries)) refl is

  -- a block of a table
  module _ (name : List ℕ) (t : Table) (there : table_at store name ≡ Some t) (block : Grid) (line : IsLineOf accepted name cause reply) where
    abbrev partition : Partition
    partition = partition_of_block t.schema block

    abbrev count : ℕ
    count = length (kept_in partition (parts_of store.set name))

    abbrev last : ℕ
    last = last_number name h

    merged : count ≤ inserts name partition h
    merged = parts_made files_of h store s name t there partition

    drawn : last ≡ t.drawn
    drawn = drawn_is files_of h store s name t there

    block_line : (r : Refused) → Some cause ≡ Some r → IsLineOf accepted name r reply
    block_line r is = let same : cause ≡ r = cc in subst (λ (x : Refused). IsLineOf accepted name x reply) same line

    block_by : (full : Bool) → nat_le 3000 count ≡ full → (spent : Bool) → nat_le 4294967295 t.drawn ≡ spent
        → IsCause (cond full (Some (refused.Limit limit.Parts)) (cond spent (Some (refused.Limit limit.Numbers)) (stopped_by store.opened failed))) (Some cause) → RefusedInTurn n h accepted (inserted t.schema name block) reply
    block_by true many spent most is =
        let full : 3000 ≤ count = grind (arith, nat_tests) in
        inl (refusal.Full room.Parts accepted, (count, merged, room_full count last t.drawn accepted drawn full), block_line (refused.Limit limit.Parts) is)
    block_by false many true most is =
        let few : count < 3000 = grind (arith, nat_tests) in
        let high : 4294967295 ≤ t.drawn = grind (arith, nat_tests) in
        inl (refusal.Full room.Numbers accepted, (count, merged, turn_spent count last t.drawn accepted drawn few high), block_line (refused.Limit limit.Numbers) is)
    block_by false many false most is =
        let few : count < 3000 = grind (arith, nat_tests) in
        let left : t.drawn < 4294967295 = grind (arith, nat_tests) in
        inr ((count, merged, room_free count last t.drawn 0 drawn few left), outside is)

    pub block_not_added : IsCause (refuses_part store name partition t.drawn failed) (Some cause) → RefusedInTurn n h accepted (inserted t.schema name block) reply
    block_not_added is = block_by (nat_le 3000 count) refl (nat_le 4294967295 t.drawn) refl is

-- what a store shows nothing against has room
module _ {F : Type 0} (files_of : F → Option Files) (h : History) (store : CoreStore F) (s : CoreStands files_of h store) (failed : ℕ) where
  pub create_allowed : (c : CreateText) (schema : Schema) (text : schema_of_text c ≡ Ok schema) → IsCause (refuses_create store c.table failed) None → TurnAllows h (created c schema text)
  create_allowed c schema text is =
      let free = nothing_shown_to_create store c.table failed is in
      let made = tables_made files_of h store s c.table in
      let few = free.1 in
      turn_free c.table h (no_table files_of h store s c.table free.0) (omega (arith, made, few))

  pub block_allowed : (name : List ℕ) (t : Table) → table_at store name ≡ Some t → (block : Grid) → IsCause (refuses_part store name (partition_of_block t.schema block) t.drawn failed) None → TurnAllows h (inserted t.schema name block)
  block_allowed name t there block is =
      let partition = partition_of_block t.schema block in
      let count = length (kept_in partition (parts_of store.set name)) in
      let free = nothing_shown store name partition t.drawn failed is in
      (count, parts_made files_of h store s name t there partition, room_free count (last_number name h) t.drawn 0 (drawn_is files_of h store s name t there) free.0 free.1)

-- ---- the replies of a statement that added nothing, or whose first command was refused

module _ (n : Outside) (h : History) (session from to : ℕ) (end : length h ≡ to) (nothing : AddsNothing h session from to) (said : Statement) (reply : List ℕ) where
  front : take to h ≡ h
  front = take_all to h (omega (arith, end))

  pub refused_before : (why : Refusal) → commands_of h said ≡ Err why → reply ≡ refusal_line why → TakesCommands n h session said from to reply
  refused_before why is line = inr (inl (why, ap (λ (x : History). commands_of x said) front ∙ is, record { line = line; nothing = nothing }))

  -- its commands were not sealed
  pub failed_any : (commands : List Command) → commands_of h said ≡ Ok commands → 0 < length commands → ReadOrStageFailed n reply → TakesCommands n h session said from to reply
  failed_any commands gives some failed = inr (inr (inl (commands, ap (λ (x : History). commands_of x said) front ∙ gives, some, nothing, failed)))

  module _ (next : Command) (rest : List Command) (gives : commands_of h said ≡ Ok (next ∷ rest)) where
    pub failed_before : ReadOrStageFailed n reply → TakesCommands n h session said from to reply
    failed_before failed = inr (inr (inl (next ∷ rest, ap (λ (x : History). commands_of x said) front ∙ gives, some, nothing, failed)))
      where
        some : 0 < length (next ∷ rest)
        some = omega arith

    stops_first : StopsAfter h session said from to [] (next ∷ rest)
    stops_first = record {
      seen = to;
      place = to;
      nothing = nothing;
      gives = ap (λ (x : History). commands_of x said) front ∙ gives;
      accepted = refl;
      no_more = stays h session to (omega (arith, end));
    }

    pub first_refused : RefusedInTurn n h 0 next reply → TakesCommands n h session said from to reply
    first_refused turn = inr (inr (inr ([], next, rest, stops_first, subst (λ (x : History). RefusedInTurn n x 0 next reply) (sym front) turn)))

-- ---- a statement whose one command was accepted

-- an entry that was added is the last of a history, and the rest stands before it
module _ (found : History) (e : Entry) (to : ℕ) (end : to ≡ length found + 1) where
  pub front_of : take (to - 1) (found ++ e ∷ []) ≡ found
  front_of = take_at found (e ∷ []) (to - 1) (omega (arith, end))

module _ (n : Outside) (h found : History) (session from to : ℕ) (said : Statement) (c : Command) (reply : List ℕ) (front : take (to - 1) h ≡ found) (begin : from ≤ length h) where
  pub one_accepted : ((x : History) → commands_of x said ≡ Ok (c ∷ [])) → TurnAllows found c → Adds h session c from to → reply ≡ ok_line to → TakesCommands n h session said from to reply
  one_accepted gives allows added ok = inl (
    ok,
    record {
      seen = from;
      commands = c ∷ [];
      nothing = stays h session from begin;
      gives = gives (take from h);
      accepted = (to, subst (λ (x : History). TurnAllows x c) (sym front) allows, added, refl);
    },
  )
