use Rattle.std.proofs.Common.{◌≡◌, ◌∙◌, ◌++◌, List, [], ap, arith, drop, get_or, length, refl, subst, sym, take}
use Rattle.mt_values.specs.Schemas.{column_types}
use Rattle.row_merge.specs.declared.heads.Cursor.{Cursor}
use Rattle.row_merge.specs.declared.held.Held.{Held}
use Rattle.row_merge.specs.Heads.{AreComparable, AreOfTypes, ahead_of}
use Rattle.row_merge.specs.Held.{IsHeldWithin}
use Rattle.row_merge.specs.Merging.{AreRanked}
use Rattle.row_merge.specs.Stretches.{HasAnother, TakesPlace}
use Rattle.row_merge.proofs.Nexts.{taken_stream}
use Rattle.row_merge.proofs.Opening.{comparable}
use Rattle.row_merge.proofs.Passed.{takes_ahead}
use Rattle.row_merge.proofs.Refills.{lent_again}
use Rattle.row_merge.proofs.Totals.{took_within}
use Rattle.row_merge.proofs.passing.take_ahead.Goals as goal

pub take_place-requires-clause-comparable : goal.take_place-requires-clause-comparable
take_place-requires-clause-comparable g c =
    let i = c.args.inputs.now in
    let s = c.args.stream.now in
    subst (AreComparable i.places.now) (sym c.deref_mut.ensures.value) (comparable i.places.now (column_types i.schema.now) s.cursors.items c.requires.stream.inputs.own c.requires.stream.types)

pub take_place-requires-clause-ranked : goal.take_place-requires-clause-ranked
take_place-requires-clause-ranked g c =
    let i = c.args.inputs.now in
    let s = c.args.stream.now in
    subst (λ (cs : List Cursor). AreRanked i.places.now (ahead_of cs) s.ranked.items) (sym c.deref_mut.ensures.value) c.requires.stream.ranked

pub take_place-requires-clause-another : goal.take_place-requires-clause-another
take_place-requires-clause-another g c =
    let s = c.args.stream.now in
    subst (λ (cs : List Cursor). HasAnother (ahead_of cs) s.ranked.items) (sym c.deref_mut.ensures.value) c.requires.another

pub returns-in_err-own-clause-most : goal.returns-in_err-own-clause-most
returns-in_err-own-clause-most g c = λ shaped. (c.requires.stream.counts shaped).within

pub returns-clause-takes : goal.returns-clause-takes
returns-clause-takes g c =
    let i = c.args.inputs.now in
    let s = c.args.stream.now in
    let shown = c.deref_mut.result.now in
    let new = c.take_place.new.cursors in
    let own = c.in_ok-own.own in
    let back : take s.cursors.len (new ++ drop (length new) s.cursors.items) ≡ new = lent_again s.cursors.items shown new s.cursors.len c.deref_mut.ensures.value c.deref_mut.ensures.len c.take_place.ensures.count in
    let t = subst (λ (cs : List Cursor). TakesPlace i.places.now s.cursors.items cs own) (sym back) (subst (λ (cs : List Cursor). TakesPlace i.places.now cs new own) c.deref_mut.ensures.value c.in_ok-own.ensures.takes) in
    let typed = subst (AreOfTypes (column_types i.schema.now)) (sym c.deref_mut.ensures.value) c.requires.stream.types in
    takes_ahead i s _ own t refl (subst (AreOfTypes (column_types i.schema.now)) (sym back) (c.in_ok-own.ensures.types (column_types i.schema.now) typed))

pub returns-clause-stream : goal.returns-clause-stream
returns-clause-stream g c =
    let i = c.args.inputs.now in
    let s = c.args.stream.now in
    let shown = c.deref_mut.result.now in
    let new = c.take_place.new.cursors in
    let own = c.in_ok-own.own in
    let back : take s.cursors.len (new ++ drop (length new) s.cursors.items) ≡ new = lent_again s.cursors.items shown new s.cursors.len c.deref_mut.ensures.value c.deref_mut.ensures.len c.take_place.ensures.count in
    let t = subst (λ (cs : List Cursor). TakesPlace i.places.now s.cursors.items cs own) (sym back) (subst (λ (cs : List Cursor). TakesPlace i.places.now cs new own) c.deref_mut.ensures.value c.in_ok-own.ensures.takes) in
    let typed = subst (AreOfTypes (column_types i.schema.now)) (sym c.deref_mut.ensures.value) c.requires.stream.types in
    let after = subst (AreOfTypes (column_types i.schema.now)) (sym back) (c.in_ok-own.ensures.types (column_types i.schema.now) typed) in
    let a = takes_ahead i s _ own t refl after in
    taken_stream i s _ (own.input, get_or a.cursor.block.rows own.at []) a.taken refl c.requires.stream c.took.ensures after (ap length back ∙ c.take_place.ensures.count ∙ ap length c.deref_mut.ensures.value)
    (subst (λ (cs : List Cursor). AreRanked i.places.now (ahead_of cs) c.take_place.new.ranked.items) (sym back) c.in_ok-own.ensures.ranked)

pub returns-clause-most : goal.returns-clause-most
returns-clause-most g c = λ shaped.
    let i = c.args.inputs.now in
    let s = c.args.stream.now in
    subst (IsHeldWithin (length i.parts.now) i.schema.now.granularity) (sym c.took.ensures) (took_within (length i.parts.now) i.schema.now.granularity s.held (c.requires.stream.counts shaped).within)

pub returns-clause-rises : goal.returns-clause-rises
returns-clause-rises g c = omega (arith, ap (λ (h : Held). h.most_read) c.took.ensures)
