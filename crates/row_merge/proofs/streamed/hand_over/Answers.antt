use Rattle.std.proofs.Common.{◌≡◌, ◌∙◌, false, subst, sym, true}
use Rattle.std.proofs.lemmas.List.Elements.{All-push}
use Rattle.mt_values.specs.Grid.{AreRowsOf}
use Rattle.mt_values.specs.Schemas.{column_types}
use Rattle.mt_values.specs.Values.{types_of}
use Rattle.row_merge.proofs.Handing.{handed_over, none_pending, pending_on, row_places, rows_places}
use Rattle.row_merge.proofs.streamed.hand_over.Goals as goal

-- the row has its sign
pub returns-then-has_sign-clause-hands : goal.returns-then-has_sign-clause-hands
returns-then-has_sign-clause-hands g c = λ inputs done before left apart signed o t.
    let rule = c.args.rule.now in
    let s = c.args.inputs.now in
    let places = s.places.now in
    let types = column_types s.schema.now in
    let takes = g.Q.RowRule.takes rule in
    let own : takes c.args.row = c.requires.takes c.args.row c.requires.typed signed in
    handed_over places (g.Q.RowRule.run rule) (g.Q.RowRule.holds rule) takes types (λ key rows kept some all same ran. g.met.Q.RowRule.keeps rule places key rows kept apart some all same ran) inputs done c.in_ok-kept.kept.items before left c.args.row c.args.current c.in_ok-kept.new o t
    (c.in_ok-kept.ensures.takes o.pending o.is.held o.is.taken own (rows_places types places o.pending c.requires.inputs.own o.is.typed) (row_places types places c.args.row c.requires.inputs.own c.requires.typed)) own c.requires.typed

pub returns-then-has_sign-clause-typed : goal.returns-then-has_sign-clause-typed
returns-then-has_sign-clause-typed g c = λ p. c.in_ok-kept.ensures.typed p.pending (column_types c.args.inputs.now.schema.now) p.is.held p.is.taken p.is.typed

pub returns-then-has_sign-clause-current : goal.returns-then-has_sign-clause-current
returns-then-has_sign-clause-current g c = λ p.
    let rule = c.args.rule.now in
    let s = c.args.inputs.now in
    let places = s.places.now in
    let types = column_types s.schema.now in
    let takes = g.Q.RowRule.takes rule in
    let own : takes c.args.row = c.requires.takes c.args.row c.requires.typed (sym c.has_sign.ensures ∙ c.if-has_sign.true) in
    pending_on places (g.Q.RowRule.run rule) (g.Q.RowRule.holds rule) takes types c.args.current p.pending c.in_ok-kept.kept.items c.args.row c.in_ok-kept.new p.is
    (c.in_ok-kept.ensures.takes p.pending p.is.held p.is.taken own (rows_places types places p.pending c.requires.inputs.own p.is.typed) (row_places types places c.args.row c.requires.inputs.own c.requires.typed)) own c.requires.typed

-- it has none
pub returns-clause-hands : goal.returns-clause-hands
returns-clause-hands g c = λ inputs done before left apart signed o t. absurd (clash (sym signed ∙ sym c.has_sign.ensures ∙ c.if-has_sign.false))
  where
    clash : true ≡ false → ⊥
    clash e = cc

pub returns-clause-typed : goal.returns-clause-typed
returns-clause-typed g c = λ p.
    let types = column_types c.args.inputs.now.schema.now in
    subst (AreRowsOf types) (sym c.in_ok-push.ensures.items)
    (All-push (λ r. types_of r ≡ types) c.in_ok-left.left.items c.args.row (c.in_ok-left.ensures.typed p.pending types p.is.held p.is.taken p.is.typed) c.requires.typed)

pub returns-clause-current : goal.returns-clause-current
returns-clause-current g c = λ p.
    let rule = c.args.rule.now in
    none_pending c.args.inputs.now.places.now (g.Q.RowRule.run rule) (g.Q.RowRule.holds rule) (g.Q.RowRule.takes rule) (column_types c.args.inputs.now.schema.now)
