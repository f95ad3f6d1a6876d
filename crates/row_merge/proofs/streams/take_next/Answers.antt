use Rattle.std.proofs.Common.{◌≡◌, ◌∙◌, ◌++◌, All, IfSome, List, MatchOption, [], ap, arith, drop, length, refl, subst, sym, take}
use Rattle.mt_values.specs.Schemas.{column_types}
use Rattle.mt_values.specs.Values.{Row}
use Rattle.row_merge.specs.declared.heads.Cursor.{Cursor}
use Rattle.row_merge.specs.declared.held.Held.{Held}
use Rattle.row_merge.specs.Heads.{AreComparable, AreOfTypes, IsNoneAhead, IsTypedAs, ahead_of}
use Rattle.row_merge.specs.Held.{IsHeldWithin}
use Rattle.row_merge.specs.Merging.{AreRanked, TakesFirst}
use Rattle.row_merge.proofs.Nexts.{counted_stream, none_counted, taken_stream}
use Rattle.row_merge.proofs.Opening.{comparable}
use Rattle.row_merge.proofs.Refills.{lent_again}
use Rattle.row_merge.proofs.Totals.{held_stays, took_within}
use Rattle.row_merge.proofs.streams.take_next.Goals as goal

pub take_row-requires-clause-comparable : goal.take_row-requires-clause-comparable
take_row-requires-clause-comparable g c =
    let i = c.args.inputs.now in
    let s = c.args.stream.now in
    subst (AreComparable i.places.now) (sym c.deref_mut.ensures.value) (comparable i.places.now (column_types i.schema.now) s.cursors.items c.requires.inputs.own c.requires.types)

pub take_row-requires-clause-ranked : goal.take_row-requires-clause-ranked
take_row-requires-clause-ranked g c =
    let i = c.args.inputs.now in
    let s = c.args.stream.now in
    subst (λ (cs : List Cursor). AreRanked i.places.now (ahead_of cs) s.ranked.items) (sym c.deref_mut.ensures.value) c.requires.ranked

pub returns-in_err-taken-clause-most : goal.returns-in_err-taken-clause-most
returns-in_err-taken-clause-most g c = λ shaped. (c.requires.counts shaped).within

-- no row is in memory
pub returns-in_default-clause-takes : goal.returns-in_default-clause-takes
returns-in_default-clause-takes g c =
    let i = c.args.inputs.now in
    let shown = c.deref_mut.result.now in
    let new = c.take_row.new.cursors in
    let none : IsNoneAhead shown new = subst (λ found. MatchOption found (IsNoneAhead shown new) (λ f. TakesFirst i.places.now (ahead_of shown) f.0 f.1 (ahead_of new))) c.in_default.is c.in_ok-taken.ensures.takes in
    let own = subst (λ (cs : List Cursor). All (λ (rows : List Row). rows ≡ []) (ahead_of cs)) c.deref_mut.ensures.value none.none in
    record { none = own; idle = none_counted i c.args.stream.now c.requires own }

pub returns-in_default-clause-stream : goal.returns-in_default-clause-stream
returns-in_default-clause-stream g c =
    let i = c.args.inputs.now in
    let s = c.args.stream.now in
    let shown = c.deref_mut.result.now in
    let new = c.take_row.new.cursors in
    let back : take s.cursors.len (new ++ drop (length new) s.cursors.items) ≡ new = lent_again s.cursors.items shown new s.cursors.len c.deref_mut.ensures.value c.deref_mut.ensures.len c.take_row.ensures.count in
    let none : IsNoneAhead shown new = subst (λ found. MatchOption found (IsNoneAhead shown new) (λ f. TakesFirst i.places.now (ahead_of shown) f.0 f.1 (ahead_of new))) c.in_default.is c.in_ok-taken.ensures.takes in
    counted_stream i s _ c.requires (back ∙ none.same ∙ c.deref_mut.ensures.value) c.requires.readers
    (subst (λ (cs : List Cursor). AreRanked i.places.now (ahead_of cs) c.take_row.new.ranked.items) (sym back) c.in_ok-taken.ensures.ranked) (held_stays s.held s.held refl) c.requires.none_made

pub returns-in_default-clause-most : goal.returns-in_default-clause-most
returns-in_default-clause-most g c = λ shaped. (c.requires.counts shaped).within

pub returns-in_default-clause-rises : goal.returns-in_default-clause-rises
returns-in_default-clause-rises g c = omega arith

-- a row was taken
pub returns-clause-takes : goal.returns-clause-takes
returns-clause-takes g c =
    let i = c.args.inputs.now in
    let s = c.args.stream.now in
    let shown = c.deref_mut.result.now in
    let new = c.take_row.new.cursors in
    let back : take s.cursors.len (new ++ drop (length new) s.cursors.items) ≡ new = lent_again s.cursors.items shown new s.cursors.len c.deref_mut.ensures.value c.deref_mut.ensures.len c.take_row.ensures.count in
    let taken = c.in-Some.taken in
    let takes : TakesFirst i.places.now (ahead_of shown) taken.0 taken.1 (ahead_of new) = subst (λ found. MatchOption found (IsNoneAhead shown new) (λ f. TakesFirst i.places.now (ahead_of shown) f.0 f.1 (ahead_of new))) c.in-Some.is c.in_ok-taken.ensures.takes in
    let typed : IsTypedAs shown taken.1 = subst (λ found. IfSome found (λ f. IsTypedAs shown f.1)) c.in-Some.is c.in_ok-taken.ensures.typed in
    let first = subst (λ (cs : List Cursor). TakesFirst i.places.now (ahead_of s.cursors.items) taken.0 taken.1 (ahead_of cs)) (sym back)
    (subst (λ (cs : List Cursor). TakesFirst i.places.now (ahead_of cs) taken.0 taken.1 (ahead_of new)) c.deref_mut.ensures.value takes) in
    let own = subst (AreOfTypes (column_types i.schema.now)) (sym c.deref_mut.ensures.value) c.requires.types in
    record { first = first; typed = typed (column_types i.schema.now) own }

pub returns-clause-stream : goal.returns-clause-stream
returns-clause-stream g c =
    let i = c.args.inputs.now in
    let s = c.args.stream.now in
    let shown = c.deref_mut.result.now in
    let new = c.take_row.new.cursors in
    let back : take s.cursors.len (new ++ drop (length new) s.cursors.items) ≡ new = lent_again s.cursors.items shown new s.cursors.len c.deref_mut.ensures.value c.deref_mut.ensures.len c.take_row.ensures.count in
    let taken = c.in-Some.taken in
    let takes : TakesFirst i.places.now (ahead_of shown) taken.0 taken.1 (ahead_of new) = subst (λ found. MatchOption found (IsNoneAhead shown new) (λ f. TakesFirst i.places.now (ahead_of shown) f.0 f.1 (ahead_of new))) c.in-Some.is c.in_ok-taken.ensures.takes in
    let typed : IsTypedAs shown taken.1 = subst (λ found. IfSome found (λ f. IsTypedAs shown f.1)) c.in-Some.is c.in_ok-taken.ensures.typed in
    let first = subst (λ (cs : List Cursor). TakesFirst i.places.now (ahead_of s.cursors.items) taken.0 taken.1 (ahead_of cs)) (sym back)
    (subst (λ (cs : List Cursor). TakesFirst i.places.now (ahead_of cs) taken.0 taken.1 (ahead_of new)) c.deref_mut.ensures.value takes) in
    let own = subst (AreOfTypes (column_types i.schema.now)) (sym c.deref_mut.ensures.value) c.requires.types in
    taken_stream i s _ taken (record { first = first; typed = typed (column_types i.schema.now) own }) refl c.requires c.took.ensures
    (subst (AreOfTypes (column_types i.schema.now)) (sym back) (c.in_ok-taken.ensures.types (column_types i.schema.now) own))
    (ap length back ∙ c.take_row.ensures.count ∙ ap length c.deref_mut.ensures.value)
    (subst (λ (cs : List Cursor). AreRanked i.places.now (ahead_of cs) c.take_row.new.ranked.items) (sym back) c.in_ok-taken.ensures.ranked)

pub returns-clause-most : goal.returns-clause-most
returns-clause-most g c = λ shaped.
    let i = c.args.inputs.now in
    let s = c.args.stream.now in
    subst (IsHeldWithin (length i.parts.now) i.schema.now.granularity) (sym c.took.ensures) (took_within (length i.parts.now) i.schema.now.granularity s.held (c.requires.counts shaped).within)

pub returns-clause-rises : goal.returns-clause-rises
returns-clause-rises g c = omega (arith, ap (λ (h : Held). h.most_read) c.took.ensures)
