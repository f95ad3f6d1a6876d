use Rattle.std.proofs.Common.{ap, drop, ◌∙◌}
use Rattle.std.proofs.lemmas.List.{take_rest}
use Rattle.mt_plain.proofs.Signs.{last_is_left}
use Rattle.mt_plain.proofs.collapsing.last_of.Goals as goal

pub returns : goal.returns
returns c = take_rest c.args.rows.now c.saturating_sub.result ∙ ap (λ n. drop n c.args.rows.now) c.saturating_sub.ensures ∙ last_is_left c.args.rows.now
