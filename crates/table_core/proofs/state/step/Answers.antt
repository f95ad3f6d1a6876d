use Rattle.std.proofs.Common.{◌≡◌, subst, sym}
use Rattle.std.specs.Prelude.{IfOk, OnErr}
use Rattle.std.proofs.lemmas.Result.{IfOk-weaker}
use Rattle.table_core.specs.declared.event.Outcome.{Outcome}
use Rattle.table_core.specs.Core.{Core}
use Rattle.table_core.specs.Runs.{ReadsLeft}
use Rattle.table_core.specs.Steps.{GivesOutcome, MayCome}
use Rattle.table_core.specs.Store.{core_of}
use Rattle.table_core.proofs.Telling.{gives_reads}
use Rattle.table_core.proofs.state.step.Goals as goal

pub returns-clause-gives : goal.returns-clause-gives
returns-clause-gives c =
    subst (λ (core : Core). IfOk c.happen.result (λ given. GivesOutcome core c.args.event given (core_of c.happen.new.store))) c.state.view_is c.happen.ensures.gives

pub returns-clause-err : goal.returns-clause-err
returns-clause-err c = subst (λ (core : Core). OnErr c.happen.result (core_of c.happen.new.store ≡ core)) c.state.view_is c.happen.ensures.err

pub returns-clause-core : goal.returns-clause-core
returns-clause-core c = c.happen.ensures.store.core

pub returns-clause-read : goal.returns-clause-read
returns-clause-read c =
    let old = core_of c.state.inside.store in
    let new = core_of c.happen.new.store in
    IfOk-weaker c.happen.result (λ (given : Outcome). GivesOutcome old c.args.event given new) (λ (given : Outcome). ReadsLeft new c.args.event given)
    (λ given g. gives_reads old new c.args.event given c.state.invariant.core g) c.happen.ensures.gives

pub happen-requires-clause-may : goal.happen-requires-clause-may
happen-requires-clause-may c = subst (λ (core : Core). MayCome core c.args.event) (sym c.state.view_is) c.requires
