use Rattle.std.proofs.Common.{◌+◌, List, ℕ, Err, drop, sym, ap, ◌∙◌}
use Rattle.mt_model.specs.declared.refusal.Refusal.TheVariants as refusal
use Rattle.mt_model.specs.Reply.{places_of}
use Rattle.mt_model.proofs.Naming.{behind, behind_none, no_name_left, no_place_at, place_at}
use Rattle.mt_model.proofs.resolving.places_of.Goals as goal

pub loop-name-init : goal.loop-name-init
loop-name-init c =
    let all = places_of c.args.columns.now c.args.names.now in
    ap (λ (places : List ℕ). behind places all) c.new-places.ensures ∙ behind_none all

pub loop-name-preserved : goal.loop-name-preserved
loop-name-preserved c =
    let index = c.loop-name.name-index in
    ap (λ (places : List ℕ). behind places (places_of c.args.columns.now (drop (index + 1) c.args.names.now))) c.in_ok-push.ensures.ok
    ∙ place_at c.args.columns.now c.args.names.now index c.name-item.result c.loop-name.places c.in-Some.place c.loop-name-test.true c.name-item.is c.in-Some.ensures.place
    ∙ c.loop-name.invariant

pub returns-in_default : goal.returns-in_default
returns-in_default c =
    sym c.loop-name.invariant
    ∙ no_place_at c.args.columns.now c.args.names.now c.loop-name.name-index c.name-item.result c.loop-name.places c.loop-name-test.true c.name-item.is c.in_default.ensures.place
    ∙ ap (λ n. Err (refusal.NoColumn n)) (sym c.in_ok-twin.ensures)

pub returns : goal.returns
returns c = sym c.loop-name.invariant ∙ no_name_left c.args.columns.now c.args.names.now c.loop-name.name-index c.loop-name.places c.loop-name-test.false
