use Rattle.std.proofs.Common.{◌≡◌, ◌<◌, ◌∙◌, [], All, List, Some, ap, get_or, length, refl, subst, sym, true}
use Rattle.std.specs.Ordering.{is_ne}
use Rattle.mt_values.specs.Order.{key_cmp}
use Rattle.mt_values.specs.Schemas.{column_types}
use Rattle.mt_values.specs.declared.schema.Schema.{Schema}
use Rattle.mt_values.specs.declared.value.ColType.{ColType}
use Rattle.row_merge.specs.Passing.{IsGoing}
use Rattle.row_merge.specs.Streams.{HasPending, IsPending}
use Rattle.row_merge.proofs.Handing.{none_pending, row_places}
use Rattle.row_merge.proofs.Passed.{first_typed, key_closed}
use Rattle.row_merge.proofs.Totals.{held_stays}
use Rattle.row_merge.proofs.passing.close_key.Goals as goal

-- no key is current
pub returns-in_default-clause-closes : goal.returns-in_default-clause-closes
returns-in_default-clause-closes g c = λ rows left after apart going t.
    let rule = c.args.rule.now in
    let i = c.args.inputs.now in
    subst (λ x. IsGoing i.places.now (g.Q.RowRule.run rule) (g.Q.RowRule.holds rule) (g.Q.RowRule.takes rule) (column_types i.schema.now) rows left x c.args.out.now) c.in_default.is going

pub returns-in_default-clause-current : goal.returns-in_default-clause-current
returns-in_default-clause-current g c =
    let rule = c.args.rule.now in
    none_pending c.args.inputs.now.places.now (g.Q.RowRule.run rule) (g.Q.RowRule.holds rule) (g.Q.RowRule.takes rule) (column_types c.args.inputs.now.schema.now)

pub returns-in_default-clause-held : goal.returns-in_default-clause-held
returns-in_default-clause-held g c = held_stays c.args.held.now c.args.held.now refl

-- the next row is compared with the first of the key
pub cmp_row_with-requires-clause-own : goal.cmp_row_with-requires-clause-own
cmp_row_with-requires-clause-own g c =
    let rule = c.args.rule.now in
    let i = c.args.inputs.now in
    let types = column_types i.schema.now in
    row_places types i.places.now c.in-Some.key.first c.requires.inputs.own (first_typed (g.Q.RowRule.holds rule) (g.Q.RowRule.takes rule) types c.args.current c.in-Some.key c.in-Some.is c.requires.current)

pub cmp_row_with-requires-clause-other : goal.cmp_row_with-requires-clause-other
cmp_row_with-requires-clause-other g c =
    let i = c.args.inputs.now in
    subst (λ (ts : List ColType). All (λ place. place < length ts) i.places.now) (sym c.requires.types) c.requires.inputs.own

-- it is of another key
pub end_merge-requires-clause-current : goal.end_merge-requires-clause-current
end_merge-requires-clause-current g c = λ κs within.
    let rule = c.args.rule.now in
    let i = c.args.inputs.now in
    let own = subst (λ x. HasPending (g.Q.RowRule.holds rule) (g.Q.RowRule.takes rule) (column_types i.schema.now) x) c.in-Some.is c.requires.current in
    subst (λ (x : Schema). HasPending (g.Q.RowRule.holds rule) (g.Q.RowRule.takes rule) (column_types x) (Some c.in-Some.key)) (sym c.requires.table) own

pub returns-then-is_ne-clause-closes : goal.returns-then-is_ne-clause-closes
returns-then-is_ne-clause-closes g c = λ rows left after apart going t.
    let rule = c.args.rule.now in
    let i = c.args.inputs.now in
    let places = i.places.now in
    let types = column_types i.schema.now in
    let run = g.Q.RowRule.run rule in
    let holds = g.Q.RowRule.holds rule in
    let takes = g.Q.RowRule.takes rule in
    let key = c.in-Some.key in
    let next = get_or c.args.next.now.block.rows c.args.next.now.at [] in
    let here = subst (λ x. IsGoing places run holds takes types rows left x c.args.out.now) c.in-Some.is going in
    let other : is_ne (key_cmp places key.first next) ≡ true = sym (ap is_ne c.cmp_row_with.ensures) ∙ sym c.is_ne.ensures ∙ c.if-is_ne.true in
    let is = subst (λ (x : Schema). IsPending holds takes (column_types x) (Some key) here.over.pending) (sym c.requires.table) here.over.is in
    key_closed places run holds takes types (λ k some kept many all same ran. g.met.Q.RowRule.keeps rule places k some kept apart many all same ran) rows left after key c.args.out.now c.end_merge.new.out next here t other
    (c.in_ok-end_merge.ensures.leaves here.done here.over.pending here.has is)

pub returns-then-is_ne-clause-current : goal.returns-then-is_ne-clause-current
returns-then-is_ne-clause-current g c =
    let rule = c.args.rule.now in
    none_pending c.args.inputs.now.places.now (g.Q.RowRule.run rule) (g.Q.RowRule.holds rule) (g.Q.RowRule.takes rule) (column_types c.args.inputs.now.schema.now)

-- it is of the same
pub returns-clause-closes : goal.returns-clause-closes
returns-clause-closes g c = λ rows left after apart going t.
    let rule = c.args.rule.now in
    let i = c.args.inputs.now in
    subst (λ x. IsGoing i.places.now (g.Q.RowRule.run rule) (g.Q.RowRule.holds rule) (g.Q.RowRule.takes rule) (column_types i.schema.now) rows left x c.args.out.now) c.in-Some.is going

pub returns-clause-current : goal.returns-clause-current
returns-clause-current g c =
    let rule = c.args.rule.now in
    subst (λ x. HasPending (g.Q.RowRule.holds rule) (g.Q.RowRule.takes rule) (column_types c.args.inputs.now.schema.now) x) c.in-Some.is c.requires.current

pub returns-clause-held : goal.returns-clause-held
returns-clause-held g c = held_stays c.args.held.now c.args.held.now refl

pub returns-in_default-clause-grew : goal.returns-in_default-clause-grew
returns-in_default-clause-grew g c = record { whole = c.requires.whole; table = refl; told = refl }

pub returns-clause-grew : goal.returns-clause-grew
returns-clause-grew g c = record { whole = c.requires.whole; table = refl; told = refl }
