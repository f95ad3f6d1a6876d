use Rattle.mt_values.specs.Values.{Row}
use Rattle.std.proofs.Common.{◌≡◌, ◌∷◌, [], Bool, true, false, not, is_none, is_some, Option, None, Some, refl, sym, ap, ◌∙◌, filter}
use Rattle.rule_law.specs.mt_model.Rules.{is_cancel}
use Rattle.collapse_rules.proofs.Counting.{first_none, first_some, one_cancel, one_state}
use Rattle.collapse_rules.proofs.collapsing.Counted.count.Goals as goal

none_by : (kept : Option Row) (b : Bool) → is_some kept ≡ not b → b ≡ true → is_none kept ≡ true
none_by None b e h = refl
none_by (Some row) b e h = absurd (clash (e ∙ ap not h))
  where
    clash : true ≡ false → ⊥
    clash e = cc

some_by : (kept : Option Row) (b : Bool) → is_some kept ≡ not b → b ≡ false → is_none kept ≡ false
some_by None b e h = absurd (clash (e ∙ ap not h))
  where
    clash : false ≡ true → ⊥
    clash e = cc
some_by (Some row) b e h = refl

pub returns-then-is_state : goal.returns-then-is_state
returns-then-is_state c = λ rows h own.
    one_state c.args.sign rows c.args.row.now c.args.self.now _ h (sym c.is_state.ensures ∙ c.if-is_state.true) c.in_ok-self.ensures refl refl (ap Some c.in_ok-twin.ensures) refl

pub returns-in_ok-twin-2 : goal.returns-in_ok-twin-2
returns-in_ok-twin-2 c = λ rows h own.
    one_cancel c.args.sign rows c.args.row.now c.args.self.now _ h own (sym c.is_state.ensures ∙ c.if-is_state.false) refl c.in_ok-self-2.ensures refl refl
    (ap (λ r. r ∷ []) c.in_ok-twin-2.ensures ∙ first_none c.args.self.now.first_cancel (filter (is_cancel c.args.sign) rows) c.args.row.now h.first (none_by c.args.self.now.first_cancel c.is_none.result c.is_none.ensures c.if-is_none.true))

pub returns-else-is_none : goal.returns-else-is_none
returns-else-is_none c = λ rows h own.
    one_cancel c.args.sign rows c.args.row.now c.args.self.now _ h own (sym c.is_state.ensures ∙ c.if-is_state.false) refl c.in_ok-self-2.ensures refl refl
    (first_some c.args.self.now.first_cancel (filter (is_cancel c.args.sign) rows) c.args.row.now h.first (some_by c.args.self.now.first_cancel c.is_none.result c.is_none.ensures c.if-is_none.false))
