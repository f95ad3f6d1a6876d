use Rattle.std.proofs.Common.{◌≡◌, ◌++◌, ◌∷◌, ℕ, List, [], All, length, inl, inr, refl, sym, ap, ◌∙◌, subst, arith, append-nil, append_assoc, reverse}
use Rattle.std.proofs.lemmas.List.Elements.{All-head, All-tail}
use Rattle.mt_values.specs.Script.{Item}
use Rattle.replies.specs.mt_model.Written.{IsWritten}
use Rattle.session.specs.Runs.{RanEach}
use Rattle.session.specs.Answers.{having}
use Rattle.session.proofs.Runs.{next_first, reverse_twice}
use Rattle.session.proofs.RunsEach.{each_more, ran_one, stays_each}
use Rattle.session.proofs.sessions.run_session.Goals as goal

-- there was no room for replies
pub returns-in_default-clause-runs : goal.returns-in_default-clause-runs
returns-in_default-clause-runs g c = inl (c.new-replies.ensures.items, refl)

pub statements-init : goal.statements-init
statements-init g c =
    let x = having c.args.seat.now c.args.share.now (g.R.Arm.failed c.args.arm.now) in
    let turned : reverse c.reverse.new.self.items ≡ c.args.statements.items = ap (λ (xs : List Item). reverse xs) c.reverse.ensures.items ∙ reverse_twice c.args.statements.items in
    record {
      ran = ([], refl, subst (λ (rs : List (List ℕ)). RanEach g.F.Dir.files g.B.Names.given g.B.Room.before g.B.Names.opening g.B.Names.ledgers.parts [] rs x x) (sym c.in-Ok.ensures.items) refl);
      written = subst (All IsWritten) (sym turned) c.requires.written;
      room = (let room = c.in-Ok.ensures.capacity in let no_reply = c.in-Ok.ensures.len in let same = c.reverse.ensures.len in omega (arith, room, no_reply, same));
      tells = refl;
    }

-- the next statement
pub run_statement-requires-clause-written : goal.run_statement-requires-clause-written
run_statement-requires-clause-written g c κs within =
    All-head IsWritten c.in-Some.statement (reverse c.pop.new.self.items) (subst (All IsWritten) (next_first c.statements.statements.items c.pop.new.self.items c.in-Some.statement c.in-Some.ensures.items) c.statements.invariant.written)

pub run_statement-requires-clause-session : goal.run_statement-requires-clause-session
run_statement-requires-clause-session g c κs within = (stays_each _ _ _ _ _ _ _ _ _ c.requires.session c.requires.own c.statements.invariant.ran.2).session

pub run_statement-requires-clause-own : goal.run_statement-requires-clause-own
run_statement-requires-clause-own g c κs within = (stays_each _ _ _ _ _ _ _ _ _ c.requires.session c.requires.own c.statements.invariant.ran.2).own_is

pub run_statement-requires-clause-parts : goal.run_statement-requires-clause-parts
run_statement-requires-clause-parts g c κs within = let same = (stays_each _ _ _ _ _ _ _ _ _ c.requires.session c.requires.own c.statements.invariant.ran.2).parts in omega (arith, same, c.requires.parts)

pub run_statement-requires-clause-out : goal.run_statement-requires-clause-out
run_statement-requires-clause-out g c κs within = let same = (stays_each _ _ _ _ _ _ _ _ _ c.requires.session c.requires.own c.statements.invariant.ran.2).out in omega (arith, same, c.requires.out)

pub run_statement-requires-clause-tells : goal.run_statement-requires-clause-tells
run_statement-requires-clause-tells g c κs within = λ told. c.statements.invariant.tells ∙ c.requires.tells told

pub statements-preserved : goal.statements-preserved
statements-preserved g c =
    let inv = c.statements.invariant in
    let ran = inv.ran in
    let here = having c.statements.seat c.statements.share (g.R.Arm.failed c.statements.arm) in
    let old = having c.args.seat.now c.args.share.now (g.R.Arm.failed c.args.arm.now) in
    let new = having c.run_statement.new.seat c.run_statement.new.share (g.R.Arm.failed c.run_statement.new.arm) in
    let said = c.in-Ok-run_statement.ensures in
    let reply = c.in-Ok-run_statement.reply in
    let next = next_first c.statements.statements.items c.pop.new.self.items c.in-Some.statement c.in-Some.ensures.items in
    record {
      ran = (
        ran.0 ++ c.in-Some.statement ∷ [],
        append_assoc ran.0 (c.in-Some.statement ∷ []) (reverse c.pop.new.self.items) ∙ (ap (λ (xs : List Item). ran.0 ++ xs) (sym next) ∙ ran.1),
        subst (λ (rs : List (List ℕ)). RanEach g.F.Dir.files g.B.Names.given g.B.Room.before g.B.Names.opening g.B.Names.ledgers.parts (ran.0 ++ c.in-Some.statement ∷ []) rs old new) (sym c.push_reserved.ensures.items)
            (each_more g.F.Dir.files g.B.Names.given g.B.Room.before g.B.Names.opening g.B.Names.ledgers.parts ran.0 c.statements.replies.items old here new c.in-Some.statement reply ran.2
            (ran_one g.F.Dir.files g.B.Names.given g.B.Room.before g.B.Names.opening g.B.Names.ledgers.parts c.in-Some.statement here new _ said.answers said.accounts said.shows said.stays said.stopped said.tries)),
      );
      written = All-tail IsWritten c.in-Some.statement (reverse c.pop.new.self.items) (subst (All IsWritten) next inv.written);
      room = (let room = inv.room in let fewer = c.in-Some.ensures.len in let one = c.push_reserved.ensures.len in let same = c.push_reserved.ensures.capacity in omega (arith, room, fewer, one, same));
      tells = said.tells ∙ inv.tells;
    }

-- it had no reply
pub returns-in-Err-clause-runs : goal.returns-in-Err-clause-runs
returns-in-Err-clause-runs g c =
    let ran = c.statements.invariant.ran in
    let here = having c.statements.seat c.statements.share (g.R.Arm.failed c.statements.arm) in
    let new = having c.run_statement.new.seat c.run_statement.new.share (g.R.Arm.failed c.run_statement.new.arm) in
    let said = c.in-Err.ensures in
    let next = next_first c.statements.statements.items c.pop.new.self.items c.in-Some.statement c.in-Some.ensures.items in
    let turned = ap (λ (xs : List Item). reverse xs) c.reverse.ensures.items ∙ reverse_twice c.args.statements.items in
    inr (
      ran.0,
      reverse c.pop.new.self.items,
      c.in-Some.statement,
      sym turned ∙ (sym ran.1 ∙ ap (λ (xs : List Item). ran.0 ++ xs) next),
      (
        here,
        ran.2,
        (c.in-Err.field-0, ran_one g.F.Dir.files g.B.Names.given g.B.Room.before g.B.Names.opening g.B.Names.ledgers.parts c.in-Some.statement here new _ said.answers said.accounts said.shows said.stays said.stopped said.tries),
      ),
    )

pub returns-in-Err-clause-tells : goal.returns-in-Err-clause-tells
returns-in-Err-clause-tells g c = c.run_statement.ensures.tells ∙ c.statements.invariant.tells

-- all were answered
none_left : (xs : List Item) → length xs ≡ 0 → xs ≡ []
none_left [] is = refl
none_left (x ∷ xs) is = cc

pub returns-clause-runs : goal.returns-clause-runs
returns-clause-runs g c =
    let ran = c.statements.invariant.ran in
    let old = having c.args.seat.now c.args.share.now (g.R.Arm.failed c.args.arm.now) in
    let new = having c.statements.seat c.statements.share (g.R.Arm.failed c.statements.arm) in
    let none = none_left c.statements.statements.items (omega (arith, c.statements.statements.ok.0, c.in_default-pop.ensures.cases.0)) in
    let turned = ap (λ (xs : List Item). reverse xs) c.reverse.ensures.items ∙ reverse_twice c.args.statements.items in
    subst (λ (ss : List Item). RanEach g.F.Dir.files g.B.Names.given g.B.Room.before g.B.Names.opening g.B.Names.ledgers.parts ss c.statements.replies.items old new)
    (sym (append-nil ran.0) ∙ (ap (λ (xs : List Item). ran.0 ++ reverse xs) (sym none) ∙ (ran.1 ∙ turned))) ran.2

pub returns-clause-tells : goal.returns-clause-tells
returns-clause-tells g c = c.statements.invariant.tells
