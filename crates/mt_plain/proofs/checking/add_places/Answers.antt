use Rattle.std.proofs.Common.{◌∷◌, [], ℕ, List, subst}
use Rattle.std.proofs.lemmas.List.{take_all}
use Rattle.mt_plain.specs.Outcomes.{AddsExactly}
use Rattle.mt_plain.specs.Plain.{OneStandsFrom, StandsFrom}
use Rattle.mt_plain.proofs.Allowing.{no_reply_yet, reply_more}
use Rattle.mt_plain.proofs.checking.add_places.Goals as goal

pub loop-reply-init : goal.loop-reply-init
loop-reply-init c = no_reply_yet c.args.found.now.items c.args.text.now c.args.at c.args.replies.now

pub loop-reply-preserved : goal.loop-reply-preserved
loop-reply-preserved c =
    let adds = subst (λ (r : List ℕ). AddsExactly c.loop-reply.found.items c.add_place.new.found.items (StandsFrom c.args.text.now c.args.at r)) c.as_slice.ensures c.in_ok-add_place.ensures in
    reply_more c.args.found.now.items c.loop-reply.found.items c.add_place.new.found.items c.args.text.now c.args.at c.args.replies.now c.loop-reply.reply-index c.reply-item.result c.reply-item.result c.loop-reply-test.true c.reply-item.is c.loop-reply.invariant adds

pub returns : goal.returns
returns c =
    subst (λ (zs : List (List ℕ)). AddsExactly c.args.found.now.items c.loop-reply.found.items (OneStandsFrom c.args.text.now (c.args.at ∷ []) zs)) (take_all c.loop-reply.reply-index c.args.replies.now c.loop-reply-test.false) c.loop-reply.invariant
