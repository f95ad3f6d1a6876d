use Rattle.std.proofs.Common.{◌≡◌, ◌+◌, ◌<◌, ◌∙◌, ◌++◌, List, [], All, ap, arith, drop, get_or, length, refl, set, subst, sym, take}
use Rattle.mt_outside.proofs.LeftArms.{arm_as}
use Rattle.mt_values.specs.Schemas.{column_types}
use Rattle.part_reader.specs.declared.reading.PartFault.TheVariants.{Fault, NoMemory}
use Rattle.part_reader.specs.Readings.{GivesNext, LeavesRows, rows_left}
use Rattle.row_merge.specs.declared.heads.Cursor.{Cursor}
use Rattle.row_merge.specs.Heads.{AreComparable, AreOfTypes, ahead_of}
use Rattle.row_merge.specs.Held.{read_more}
use Rattle.row_merge.specs.Merged.{rows_of_all}
use Rattle.row_merge.specs.Merging.{AreRanked, ahead_at}
use Rattle.row_merge.proofs.Nexts.{counted_stream}
use Rattle.row_merge.proofs.Opening.{comparable}
use Rattle.row_merge.proofs.Readers.{given_types, reader_held}
use Rattle.row_merge.proofs.Refilling.{ReadsOn, none_fewer, none_later, none_left, none_readers, none_reads, own_reader, own_says, reader_within, refilled_ahead, refilled_count, refilled_later, refilled_most, refilled_reads, refilled_rows, refilled_stream}
use Rattle.row_merge.proofs.Refills.{lent_again}
use Rattle.row_merge.proofs.Totals.{held_stays}
use Rattle.row_merge.proofs.Written.{as_none, as_read, no_fault}
use Rattle.row_merge.proofs.streams.refill.Goals as goal

pub index_mut-requires : goal.index_mut-requires
index_mut-requires g c = let s = c.args.stream.now in omega (arith, s.readers.ok.0, reader_within g.R.Dir.Dir.files c.args.inputs.now s c.requires.stream c.args.number c.requires.within)

-- the part could not be read
-- what the arm is then
pub returns-in-Err-clause-fails : goal.returns-in-Err-clause-fails
returns-in-Err-clause-fails g c =
    let i = c.args.inputs.now in
    let s = c.args.stream.now in
    let files = g.R.Dir.Dir.files in
    let k = c.index-inputs-number.result in
    let r = c.index_mut.result.now in
    let o : ReadsOn files i s c.args.number k r = record { stream = c.requires.stream; within = c.requires.within; none = c.requires.none; kept_is = c.index-inputs-number.is; r_is = c.index_mut.ensures.value } in
    record {
      damaged = own_says files i s c.args.number k r o c.in-Err.fault c.in-Err.ensures.damaged;
      leaves = as_read c.next.result c.in-Err.fault c.in-Err.is c.next.ensures.arm;
    }

pub returns-in-Err-clause-most : goal.returns-in-Err-clause-most
returns-in-Err-clause-most g c = λ shaped. (c.requires.stream.counts shaped).within

-- it has no more rows
pub returns-in_default-clause-stream : goal.returns-in_default-clause-stream
returns-in_default-clause-stream g c =
    let i = c.args.inputs.now in
    let s = c.args.stream.now in
    let files = g.R.Dir.Dir.files in
    let k = c.index-inputs-number.result in
    let r = c.index_mut.result.now in
    let o : ReadsOn files i s c.args.number k r = record { stream = c.requires.stream; within = c.requires.within; none = c.requires.none; kept_is = c.index-inputs-number.is; r_is = c.index_mut.ensures.value } in
    let gives = subst (GivesNext files r c.next.new.self) c.in_default.is c.in-Ok.ensures.gives in
    counted_stream i s _ c.requires.stream refl (none_readers files i s c.args.number k r o c.next.new.self gives.0) c.requires.stream.ranked (held_stays s.held s.held refl) c.requires.stream.none_made

pub returns-in_default-clause-rows : goal.returns-in_default-clause-rows
returns-in_default-clause-rows g c = λ rows holds.
    let i = c.args.inputs.now in
    let s = c.args.stream.now in
    let files = g.R.Dir.Dir.files in
    let k = c.index-inputs-number.result in
    let r = c.index_mut.result.now in
    let o : ReadsOn files i s c.args.number k r = record { stream = c.requires.stream; within = c.requires.within; none = c.requires.none; kept_is = c.index-inputs-number.is; r_is = c.index_mut.ensures.value } in
    let gives = subst (GivesNext files r c.next.new.self) c.in_default.is c.in-Ok.ensures.gives in
    let own = get_or rows c.args.number [] in
    let none = subst (LeavesRows (rows_left r own) (rows_left c.next.new.self own)) c.in_default.is
    (c.in-Ok.ensures.rows own (reader_held files i.schema.now i.parts.now s.readers.items rows c.args.number r c.requires.stream.readers holds c.requires.within c.index_mut.ensures.value)) in
    none_left files i s c.args.number k r o c.next.new.self gives.0 rows holds none

pub returns-in_default-clause-count : goal.returns-in_default-clause-count
returns-in_default-clause-count g c =
    let i = c.args.inputs.now in
    let s = c.args.stream.now in
    let files = g.R.Dir.Dir.files in
    let k = c.index-inputs-number.result in
    let r = c.index_mut.result.now in
    let o : ReadsOn files i s c.args.number k r = record { stream = c.requires.stream; within = c.requires.within; none = c.requires.none; kept_is = c.index-inputs-number.is; r_is = c.index_mut.ensures.value } in
    let gives = subst (GivesNext files r c.next.new.self) c.in_default.is c.in-Ok.ensures.gives in
    ap (λ n. length (rows_of_all (ahead_of s.cursors.items)) + n) (none_fewer files i s c.args.number k r o c.next.new.self gives.0)

pub returns-in_default-clause-most : goal.returns-in_default-clause-most
returns-in_default-clause-most g c = λ shaped. (c.requires.stream.counts shaped).within

pub returns-in_default-clause-goes_on : goal.returns-in_default-clause-goes_on
returns-in_default-clause-goes_on g c =
    let i = c.args.inputs.now in
    let s = c.args.stream.now in
    let files = g.R.Dir.Dir.files in
    let k = c.index-inputs-number.result in
    let r = c.index_mut.result.now in
    let o : ReadsOn files i s c.args.number k r = record { stream = c.requires.stream; within = c.requires.within; none = c.requires.none; kept_is = c.index-inputs-number.is; r_is = c.index_mut.ensures.value } in
    let gives = subst (GivesNext files r c.next.new.self) c.in_default.is c.in-Ok.ensures.gives in
    none_later files i s c.args.number k r o c.next.new.self gives.0

pub returns-in_default-clause-reads : goal.returns-in_default-clause-reads
returns-in_default-clause-reads g c =
    let i = c.args.inputs.now in
    let s = c.args.stream.now in
    let files = g.R.Dir.Dir.files in
    let k = c.index-inputs-number.result in
    let r = c.index_mut.result.now in
    let o : ReadsOn files i s c.args.number k r = record { stream = c.requires.stream; within = c.requires.within; none = c.requires.none; kept_is = c.index-inputs-number.is; r_is = c.index_mut.ensures.value } in
    let gives = subst (GivesNext files r c.next.new.self) c.in_default.is c.in-Ok.ensures.gives in
    none_reads files i s c.args.number k r o c.next.new.self gives.0 _ refl refl gives.1

-- it has a block
pub fill-requires-clause-comparable : goal.fill-requires-clause-comparable
fill-requires-clause-comparable g c =
    let i = c.args.inputs.now in
    let s = c.args.stream.now in
    subst (AreComparable i.places.now) (sym c.deref_mut.ensures.value) (comparable i.places.now (column_types i.schema.now) s.cursors.items c.requires.stream.inputs.own c.requires.stream.types)

pub fill-requires-clause-columns : goal.fill-requires-clause-columns
fill-requires-clause-columns g c =
    let i = c.args.inputs.now in
    let s = c.args.stream.now in
    let files = g.R.Dir.Dir.files in
    let k = c.index-inputs-number.result in
    let r = c.index_mut.result.now in
    let o : ReadsOn files i s c.args.number k r = record { stream = c.requires.stream; within = c.requires.within; none = c.requires.none; kept_is = c.index-inputs-number.is; r_is = c.index_mut.ensures.value } in
    let gives = subst (GivesNext files r c.next.new.self) c.in-Some.is c.in-Ok.ensures.gives in
    let types = given_types files i.schema.now k r (own_reader files i s c.args.number k r o) c.next.new.self c.in-Some.block gives in
    subst (λ ts. All (λ place. place < length ts) i.places.now) (sym types) c.requires.stream.inputs.own

pub fill-requires-clause-within : goal.fill-requires-clause-within
fill-requires-clause-within g c =
    let i = c.args.inputs.now in
    let s = c.args.stream.now in
    omega (arith, c.requires.within, c.requires.stream.count, ap length c.deref_mut.ensures.value)

pub fill-requires-clause-none : goal.fill-requires-clause-none
fill-requires-clause-none g c = ap (λ (cs : List Cursor). ahead_at (ahead_of cs) c.args.number) c.deref_mut.ensures.value ∙ c.requires.none

pub fill-requires-clause-ranked : goal.fill-requires-clause-ranked
fill-requires-clause-ranked g c =
    let i = c.args.inputs.now in
    let s = c.args.stream.now in
    subst (λ (cs : List Cursor). AreRanked i.places.now (ahead_of cs) s.ranked.items) (sym c.deref_mut.ensures.value) c.requires.stream.ranked

pub returns-clause-stream : goal.returns-clause-stream
returns-clause-stream g c =
    let i = c.args.inputs.now in
    let s = c.args.stream.now in
    let files = g.R.Dir.Dir.files in
    let k = c.index-inputs-number.result in
    let r = c.index_mut.result.now in
    let o : ReadsOn files i s c.args.number k r = record { stream = c.requires.stream; within = c.requires.within; none = c.requires.none; kept_is = c.index-inputs-number.is; r_is = c.index_mut.ensures.value } in
    let gives = subst (GivesNext files r c.next.new.self) c.in-Some.is c.in-Ok.ensures.gives in
    let shown = c.deref_mut.result.now in
    let new = c.fill.new.cursors in
    let readers = set s.readers.items c.args.number c.next.new.self in
    let cursors = take s.cursors.len (new ++ drop (length new) s.cursors.items) in
    let back : take s.cursors.len (new ++ drop (length new) s.cursors.items) ≡ new = lent_again s.cursors.items shown new s.cursors.len c.deref_mut.ensures.value c.deref_mut.ensures.len c.fill.ensures.count in
    let types = given_types files i.schema.now k r (own_reader files i s c.args.number k r o) c.next.new.self c.in-Some.block gives in
    refilled_stream files i s c.args.number k r o c.next.new.self c.in-Some.block readers cursors c.read_more.new.self
    (record {
      gives = gives;
      readers_are = refl;
      ahead_is = ap ahead_of back ∙ c.fill.ensures.rows ∙ ap (λ (cs : List Cursor). set (ahead_of cs) c.args.number c.in-Some.block.rows) c.deref_mut.ensures.value;
      types = subst (AreOfTypes (column_types i.schema.now)) (sym back) (c.fill.ensures.types (column_types i.schema.now) (subst (AreOfTypes (column_types i.schema.now)) (sym c.deref_mut.ensures.value) c.requires.stream.types) types);
      long = ap length back ∙ c.fill.ensures.count ∙ ap length c.deref_mut.ensures.value;
      held_is = c.read_more.ensures ∙ ap (λ n. read_more n s.held) c.len.ensures.count;
    }) _ refl refl refl (subst (λ (cs : List Cursor). AreRanked i.places.now (ahead_of cs) c.fill.new.ranked.items) (sym back) c.in-Ok-fill.ensures.ranked)

pub returns-clause-rows : goal.returns-clause-rows
returns-clause-rows g c = λ rows holds.
    let i = c.args.inputs.now in
    let s = c.args.stream.now in
    let files = g.R.Dir.Dir.files in
    let k = c.index-inputs-number.result in
    let r = c.index_mut.result.now in
    let o : ReadsOn files i s c.args.number k r = record { stream = c.requires.stream; within = c.requires.within; none = c.requires.none; kept_is = c.index-inputs-number.is; r_is = c.index_mut.ensures.value } in
    let gives = subst (GivesNext files r c.next.new.self) c.in-Some.is c.in-Ok.ensures.gives in
    let shown = c.deref_mut.result.now in
    let new = c.fill.new.cursors in
    let readers = set s.readers.items c.args.number c.next.new.self in
    let cursors = take s.cursors.len (new ++ drop (length new) s.cursors.items) in
    let back : take s.cursors.len (new ++ drop (length new) s.cursors.items) ≡ new = lent_again s.cursors.items shown new s.cursors.len c.deref_mut.ensures.value c.deref_mut.ensures.len c.fill.ensures.count in
    let types = given_types files i.schema.now k r (own_reader files i s c.args.number k r o) c.next.new.self c.in-Some.block gives in
    let own = get_or rows c.args.number [] in
    let parted = subst (LeavesRows (rows_left r own) (rows_left c.next.new.self own)) c.in-Some.is
    (c.in-Ok.ensures.rows own (reader_held files i.schema.now i.parts.now s.readers.items rows c.args.number r c.requires.stream.readers holds c.requires.within c.index_mut.ensures.value)) in
    refilled_rows files i s c.args.number k r o c.next.new.self c.in-Some.block readers cursors c.read_more.new.self
    (record {
      gives = gives;
      readers_are = refl;
      ahead_is = ap ahead_of back ∙ c.fill.ensures.rows ∙ ap (λ (cs : List Cursor). set (ahead_of cs) c.args.number c.in-Some.block.rows) c.deref_mut.ensures.value;
      types = subst (AreOfTypes (column_types i.schema.now)) (sym back) (c.fill.ensures.types (column_types i.schema.now) (subst (AreOfTypes (column_types i.schema.now)) (sym c.deref_mut.ensures.value) c.requires.stream.types) types);
      long = ap length back ∙ c.fill.ensures.count ∙ ap length c.deref_mut.ensures.value;
      held_is = c.read_more.ensures ∙ ap (λ n. read_more n s.held) c.len.ensures.count;
    }) rows holds parted

pub returns-clause-ahead : goal.returns-clause-ahead
returns-clause-ahead g c =
    let i = c.args.inputs.now in
    let s = c.args.stream.now in
    let files = g.R.Dir.Dir.files in
    let k = c.index-inputs-number.result in
    let r = c.index_mut.result.now in
    let o : ReadsOn files i s c.args.number k r = record { stream = c.requires.stream; within = c.requires.within; none = c.requires.none; kept_is = c.index-inputs-number.is; r_is = c.index_mut.ensures.value } in
    let gives = subst (GivesNext files r c.next.new.self) c.in-Some.is c.in-Ok.ensures.gives in
    let shown = c.deref_mut.result.now in
    let new = c.fill.new.cursors in
    let readers = set s.readers.items c.args.number c.next.new.self in
    let cursors = take s.cursors.len (new ++ drop (length new) s.cursors.items) in
    let back : take s.cursors.len (new ++ drop (length new) s.cursors.items) ≡ new = lent_again s.cursors.items shown new s.cursors.len c.deref_mut.ensures.value c.deref_mut.ensures.len c.fill.ensures.count in
    let types = given_types files i.schema.now k r (own_reader files i s c.args.number k r o) c.next.new.self c.in-Some.block gives in
    refilled_ahead files i s c.args.number k r o c.next.new.self c.in-Some.block readers cursors c.read_more.new.self
    (record {
      gives = gives;
      readers_are = refl;
      ahead_is = ap ahead_of back ∙ c.fill.ensures.rows ∙ ap (λ (cs : List Cursor). set (ahead_of cs) c.args.number c.in-Some.block.rows) c.deref_mut.ensures.value;
      types = subst (AreOfTypes (column_types i.schema.now)) (sym back) (c.fill.ensures.types (column_types i.schema.now) (subst (AreOfTypes (column_types i.schema.now)) (sym c.deref_mut.ensures.value) c.requires.stream.types) types);
      long = ap length back ∙ c.fill.ensures.count ∙ ap length c.deref_mut.ensures.value;
      held_is = c.read_more.ensures ∙ ap (λ n. read_more n s.held) c.len.ensures.count;
    })

pub returns-clause-goes_on : goal.returns-clause-goes_on
returns-clause-goes_on g c =
    let i = c.args.inputs.now in
    let s = c.args.stream.now in
    let files = g.R.Dir.Dir.files in
    let k = c.index-inputs-number.result in
    let r = c.index_mut.result.now in
    let o : ReadsOn files i s c.args.number k r = record { stream = c.requires.stream; within = c.requires.within; none = c.requires.none; kept_is = c.index-inputs-number.is; r_is = c.index_mut.ensures.value } in
    let gives = subst (GivesNext files r c.next.new.self) c.in-Some.is c.in-Ok.ensures.gives in
    let shown = c.deref_mut.result.now in
    let new = c.fill.new.cursors in
    let readers = set s.readers.items c.args.number c.next.new.self in
    let cursors = take s.cursors.len (new ++ drop (length new) s.cursors.items) in
    let back : take s.cursors.len (new ++ drop (length new) s.cursors.items) ≡ new = lent_again s.cursors.items shown new s.cursors.len c.deref_mut.ensures.value c.deref_mut.ensures.len c.fill.ensures.count in
    let types = given_types files i.schema.now k r (own_reader files i s c.args.number k r o) c.next.new.self c.in-Some.block gives in
    refilled_later files i s c.args.number k r o c.next.new.self c.in-Some.block readers cursors c.read_more.new.self
    (record {
      gives = gives;
      readers_are = refl;
      ahead_is = ap ahead_of back ∙ c.fill.ensures.rows ∙ ap (λ (cs : List Cursor). set (ahead_of cs) c.args.number c.in-Some.block.rows) c.deref_mut.ensures.value;
      types = subst (AreOfTypes (column_types i.schema.now)) (sym back) (c.fill.ensures.types (column_types i.schema.now) (subst (AreOfTypes (column_types i.schema.now)) (sym c.deref_mut.ensures.value) c.requires.stream.types) types);
      long = ap length back ∙ c.fill.ensures.count ∙ ap length c.deref_mut.ensures.value;
      held_is = c.read_more.ensures ∙ ap (λ n. read_more n s.held) c.len.ensures.count;
    })

pub returns-clause-reads : goal.returns-clause-reads
returns-clause-reads g c =
    let i = c.args.inputs.now in
    let s = c.args.stream.now in
    let files = g.R.Dir.Dir.files in
    let k = c.index-inputs-number.result in
    let r = c.index_mut.result.now in
    let o : ReadsOn files i s c.args.number k r = record { stream = c.requires.stream; within = c.requires.within; none = c.requires.none; kept_is = c.index-inputs-number.is; r_is = c.index_mut.ensures.value } in
    let gives = subst (GivesNext files r c.next.new.self) c.in-Some.is c.in-Ok.ensures.gives in
    let shown = c.deref_mut.result.now in
    let new = c.fill.new.cursors in
    let readers = set s.readers.items c.args.number c.next.new.self in
    let cursors = take s.cursors.len (new ++ drop (length new) s.cursors.items) in
    let back : take s.cursors.len (new ++ drop (length new) s.cursors.items) ≡ new = lent_again s.cursors.items shown new s.cursors.len c.deref_mut.ensures.value c.deref_mut.ensures.len c.fill.ensures.count in
    let types = given_types files i.schema.now k r (own_reader files i s c.args.number k r o) c.next.new.self c.in-Some.block gives in
    refilled_reads files i s c.args.number k r o c.next.new.self c.in-Some.block readers cursors c.read_more.new.self
    (record {
      gives = gives;
      readers_are = refl;
      ahead_is = ap ahead_of back ∙ c.fill.ensures.rows ∙ ap (λ (cs : List Cursor). set (ahead_of cs) c.args.number c.in-Some.block.rows) c.deref_mut.ensures.value;
      types = subst (AreOfTypes (column_types i.schema.now)) (sym back) (c.fill.ensures.types (column_types i.schema.now) (subst (AreOfTypes (column_types i.schema.now)) (sym c.deref_mut.ensures.value) c.requires.stream.types) types);
      long = ap length back ∙ c.fill.ensures.count ∙ ap length c.deref_mut.ensures.value;
      held_is = c.read_more.ensures ∙ ap (λ n. read_more n s.held) c.len.ensures.count;
    }) _ refl refl refl

pub returns-clause-count : goal.returns-clause-count
returns-clause-count g c =
    let i = c.args.inputs.now in
    let s = c.args.stream.now in
    let files = g.R.Dir.Dir.files in
    let k = c.index-inputs-number.result in
    let r = c.index_mut.result.now in
    let o : ReadsOn files i s c.args.number k r = record { stream = c.requires.stream; within = c.requires.within; none = c.requires.none; kept_is = c.index-inputs-number.is; r_is = c.index_mut.ensures.value } in
    let gives = subst (GivesNext files r c.next.new.self) c.in-Some.is c.in-Ok.ensures.gives in
    let shown = c.deref_mut.result.now in
    let new = c.fill.new.cursors in
    let readers = set s.readers.items c.args.number c.next.new.self in
    let cursors = take s.cursors.len (new ++ drop (length new) s.cursors.items) in
    let back : take s.cursors.len (new ++ drop (length new) s.cursors.items) ≡ new = lent_again s.cursors.items shown new s.cursors.len c.deref_mut.ensures.value c.deref_mut.ensures.len c.fill.ensures.count in
    let types = given_types files i.schema.now k r (own_reader files i s c.args.number k r o) c.next.new.self c.in-Some.block gives in
    refilled_count files i s c.args.number k r o c.next.new.self c.in-Some.block readers cursors c.read_more.new.self
    (record {
      gives = gives;
      readers_are = refl;
      ahead_is = ap ahead_of back ∙ c.fill.ensures.rows ∙ ap (λ (cs : List Cursor). set (ahead_of cs) c.args.number c.in-Some.block.rows) c.deref_mut.ensures.value;
      types = subst (AreOfTypes (column_types i.schema.now)) (sym back) (c.fill.ensures.types (column_types i.schema.now) (subst (AreOfTypes (column_types i.schema.now)) (sym c.deref_mut.ensures.value) c.requires.stream.types) types);
      long = ap length back ∙ c.fill.ensures.count ∙ ap length c.deref_mut.ensures.value;
      held_is = c.read_more.ensures ∙ ap (λ n. read_more n s.held) c.len.ensures.count;
    })

pub returns-in_default-fill-clause-most : goal.returns-in_default-fill-clause-most
returns-in_default-fill-clause-most g c =
    let i = c.args.inputs.now in
    let s = c.args.stream.now in
    let files = g.R.Dir.Dir.files in
    let k = c.index-inputs-number.result in
    let r = c.index_mut.result.now in
    let o : ReadsOn files i s c.args.number k r = record { stream = c.requires.stream; within = c.requires.within; none = c.requires.none; kept_is = c.index-inputs-number.is; r_is = c.index_mut.ensures.value } in
    let gives = subst (GivesNext files r c.next.new.self) c.in-Some.is c.in-Ok.ensures.gives in
    let shown = c.deref_mut.result.now in
    let new = c.fill.new.cursors in
    let readers = set s.readers.items c.args.number c.next.new.self in
    let cursors = take s.cursors.len (new ++ drop (length new) s.cursors.items) in
    let back : take s.cursors.len (new ++ drop (length new) s.cursors.items) ≡ new = lent_again s.cursors.items shown new s.cursors.len c.deref_mut.ensures.value c.deref_mut.ensures.len c.fill.ensures.count in
    let types = given_types files i.schema.now k r (own_reader files i s c.args.number k r o) c.next.new.self c.in-Some.block gives in
    refilled_most files i s c.args.number k r o c.next.new.self c.in-Some.block readers cursors c.read_more.new.self
    (record {
      gives = gives;
      readers_are = refl;
      ahead_is = ap ahead_of back ∙ c.fill.ensures.rows ∙ ap (λ (cs : List Cursor). set (ahead_of cs) c.args.number c.in-Some.block.rows) c.deref_mut.ensures.value;
      types = subst (AreOfTypes (column_types i.schema.now)) (sym back) (c.fill.ensures.types (column_types i.schema.now) (subst (AreOfTypes (column_types i.schema.now)) (sym c.deref_mut.ensures.value) c.requires.stream.types) types);
      long = ap length back ∙ c.fill.ensures.count ∙ ap length c.deref_mut.ensures.value;
      held_is = c.read_more.ensures ∙ ap (λ n. read_more n s.held) c.len.ensures.count;
    })

pub returns-clause-most : goal.returns-clause-most
returns-clause-most g c =
    let i = c.args.inputs.now in
    let s = c.args.stream.now in
    let files = g.R.Dir.Dir.files in
    let k = c.index-inputs-number.result in
    let r = c.index_mut.result.now in
    let o : ReadsOn files i s c.args.number k r = record { stream = c.requires.stream; within = c.requires.within; none = c.requires.none; kept_is = c.index-inputs-number.is; r_is = c.index_mut.ensures.value } in
    let gives = subst (GivesNext files r c.next.new.self) c.in-Some.is c.in-Ok.ensures.gives in
    let shown = c.deref_mut.result.now in
    let new = c.fill.new.cursors in
    let readers = set s.readers.items c.args.number c.next.new.self in
    let cursors = take s.cursors.len (new ++ drop (length new) s.cursors.items) in
    let back : take s.cursors.len (new ++ drop (length new) s.cursors.items) ≡ new = lent_again s.cursors.items shown new s.cursors.len c.deref_mut.ensures.value c.deref_mut.ensures.len c.fill.ensures.count in
    let types = given_types files i.schema.now k r (own_reader files i s c.args.number k r o) c.next.new.self c.in-Some.block gives in
    refilled_most files i s c.args.number k r o c.next.new.self c.in-Some.block readers cursors c.read_more.new.self
    (record {
      gives = gives;
      readers_are = refl;
      ahead_is = ap ahead_of back ∙ c.fill.ensures.rows ∙ ap (λ (cs : List Cursor). set (ahead_of cs) c.args.number c.in-Some.block.rows) c.deref_mut.ensures.value;
      types = subst (AreOfTypes (column_types i.schema.now)) (sym back) (c.fill.ensures.types (column_types i.schema.now) (subst (AreOfTypes (column_types i.schema.now)) (sym c.deref_mut.ensures.value) c.requires.stream.types) types);
      long = ap length back ∙ c.fill.ensures.count ∙ ap length c.deref_mut.ensures.value;
      held_is = c.read_more.ensures ∙ ap (λ n. read_more n s.held) c.len.ensures.count;
    })

-- an allocation failed
pub returns-in_default-fill-clause-fails : goal.returns-in_default-fill-clause-fails
returns-in_default-fill-clause-fails g c =
    let i = c.args.inputs.now in
    let s = c.args.stream.now in
    let files = g.R.Dir.Dir.files in
    let k = c.index-inputs-number.result in
    let r = c.index_mut.result.now in
    let o : ReadsOn files i s c.args.number k r = record { stream = c.requires.stream; within = c.requires.within; none = c.requires.none; kept_is = c.index-inputs-number.is; r_is = c.index_mut.ensures.value } in
    record {
      damaged = own_says files i s c.args.number k r o NoMemory tt;
      leaves = arm_as (as_none c.next.result c.in-Ok.found Fault c.in-Ok.is c.next.ensures.arm) no_fault (λ f. absurd f);
    }

pub returns-in_default-clause-fails : goal.returns-in_default-clause-fails
returns-in_default-clause-fails g c = record {
  damaged = tt;
  leaves = as_none c.next.result c.in-Ok.found Fault c.in-Ok.is c.next.ensures.arm;
}

pub returns-clause-fails : goal.returns-clause-fails
returns-clause-fails g c = record {
  damaged = tt;
  leaves = as_none c.next.result c.in-Ok.found Fault c.in-Ok.is c.next.ensures.arm;
}
