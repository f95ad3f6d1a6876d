use Rattle.std.proofs.Common.{◌≡◌, ◌∙◌, ◌++◌, All, List, [], MatchOption, ap, arith, drop, length, refl, subst, sym, take}
use Rattle.mt_values.specs.Schemas.{column_types}
use Rattle.mt_values.specs.Values.{Row}
use Rattle.row_merge.specs.declared.heads.Cursor.{Cursor}
use Rattle.row_merge.specs.declared.held.Held.{Held}
use Rattle.row_merge.specs.Heads.{AreOfTypes, IsNoneAhead, ahead_of}
use Rattle.row_merge.specs.Held.{took_some}
use Rattle.row_merge.specs.Merging.{AreRanked}
use Rattle.row_merge.specs.Stretches.{TakesStretch}
use Rattle.row_merge.proofs.Copies.{takes_some, took_some_stream}
use Rattle.row_merge.proofs.Nexts.{counted_stream, none_counted}
use Rattle.row_merge.proofs.Refills.{lent_again}
use Rattle.row_merge.proofs.Totals.{held_stays}
use Rattle.row_merge.proofs.copied.take_some.Goals as goal

-- no row is in memory
pub returns-in_default-clause-takes : goal.returns-in_default-clause-takes
returns-in_default-clause-takes g c =
    let i = c.args.inputs.now in
    let shown = c.deref_mut.result.now in
    let new = c.take_stretch.new.cursors in
    let none : IsNoneAhead shown new = subst (λ found. MatchOption found (IsNoneAhead shown new) (TakesStretch i.places.now shown new)) c.in_default.is c.in_ok-own.ensures.takes in
    let own = subst (λ (cs : List Cursor). All (λ (rows : List Row). rows ≡ []) (ahead_of cs)) c.deref_mut.ensures.value none.none in
    record { none = own; idle = none_counted i c.args.stream.now c.requires.stream own }

pub returns-in_default-clause-stream : goal.returns-in_default-clause-stream
returns-in_default-clause-stream g c =
    let i = c.args.inputs.now in
    let s = c.args.stream.now in
    let shown = c.deref_mut.result.now in
    let new = c.take_stretch.new.cursors in
    let back : take s.cursors.len (new ++ drop (length new) s.cursors.items) ≡ new = lent_again s.cursors.items shown new s.cursors.len c.deref_mut.ensures.value c.deref_mut.ensures.len c.take_stretch.ensures.count in
    let none : IsNoneAhead shown new = subst (λ found. MatchOption found (IsNoneAhead shown new) (TakesStretch i.places.now shown new)) c.in_default.is c.in_ok-own.ensures.takes in
    counted_stream i s _ c.requires.stream (back ∙ none.same ∙ c.deref_mut.ensures.value) c.requires.stream.readers
    (subst (λ (cs : List Cursor). AreRanked i.places.now (ahead_of cs) c.take_stretch.new.ranked.items) (sym back) c.in_ok-own.ensures.ranked) (held_stays s.held s.held refl) c.requires.stream.none_made

pub returns-in_default-clause-rises : goal.returns-in_default-clause-rises
returns-in_default-clause-rises g c = omega arith

-- rows were taken
pub returns-clause-takes : goal.returns-clause-takes
returns-clause-takes g c =
    let i = c.args.inputs.now in
    let s = c.args.stream.now in
    let shown = c.deref_mut.result.now in
    let new = c.take_stretch.new.cursors in
    let back : take s.cursors.len (new ++ drop (length new) s.cursors.items) ≡ new = lent_again s.cursors.items shown new s.cursors.len c.deref_mut.ensures.value c.deref_mut.ensures.len c.take_stretch.ensures.count in
    let lent : TakesStretch i.places.now shown new c.in-Some.own = subst (λ found. MatchOption found (IsNoneAhead shown new) (TakesStretch i.places.now shown new)) c.in-Some.is c.in_ok-own.ensures.takes in
    let t = subst (λ (cs : List Cursor). TakesStretch i.places.now s.cursors.items cs c.in-Some.own) (sym back) (subst (λ (cs : List Cursor). TakesStretch i.places.now cs new c.in-Some.own) c.deref_mut.ensures.value lent) in
    let own = subst (AreOfTypes (column_types i.schema.now)) (sym c.deref_mut.ensures.value) c.requires.stream.types in
    takes_some i s _ c.in-Some.own t (ap length back ∙ c.take_stretch.ensures.count ∙ ap length c.deref_mut.ensures.value) c.requires.stream refl
    (subst (AreOfTypes (column_types i.schema.now)) (sym back) (c.in_ok-own.ensures.types (column_types i.schema.now) own))

pub returns-clause-stream : goal.returns-clause-stream
returns-clause-stream g c =
    let i = c.args.inputs.now in
    let s = c.args.stream.now in
    let shown = c.deref_mut.result.now in
    let new = c.take_stretch.new.cursors in
    let back : take s.cursors.len (new ++ drop (length new) s.cursors.items) ≡ new = lent_again s.cursors.items shown new s.cursors.len c.deref_mut.ensures.value c.deref_mut.ensures.len c.take_stretch.ensures.count in
    let lent : TakesStretch i.places.now shown new c.in-Some.own = subst (λ found. MatchOption found (IsNoneAhead shown new) (TakesStretch i.places.now shown new)) c.in-Some.is c.in_ok-own.ensures.takes in
    let t = subst (λ (cs : List Cursor). TakesStretch i.places.now s.cursors.items cs c.in-Some.own) (sym back) (subst (λ (cs : List Cursor). TakesStretch i.places.now cs new c.in-Some.own) c.deref_mut.ensures.value lent) in
    let own = subst (AreOfTypes (column_types i.schema.now)) (sym c.deref_mut.ensures.value) c.requires.stream.types in
    took_some_stream i s _ c.in-Some.own t (ap length back ∙ c.take_stretch.ensures.count ∙ ap length c.deref_mut.ensures.value) c.requires.stream refl
    (c.took_some.ensures ∙ ap (λ n. took_some n s.held) c.count.ensures)
    (subst (AreOfTypes (column_types i.schema.now)) (sym back) (c.in_ok-own.ensures.types (column_types i.schema.now) own))
    (subst (λ (cs : List Cursor). AreRanked i.places.now (ahead_of cs) c.take_stretch.new.ranked.items) (sym back) c.in_ok-own.ensures.ranked)

pub returns-clause-rises : goal.returns-clause-rises
returns-clause-rises g c = omega (arith, ap (λ (h : Held). h.most_read) c.took_some.ensures)
