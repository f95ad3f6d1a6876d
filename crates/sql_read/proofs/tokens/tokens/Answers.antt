use Rattle.std.proofs.Common.{◌≡◌, ◌∙◌, sym, false, length, arith}
use Rattle.std.proofs.lemmas.Bool.{false≢true}
use Rattle.mt_values.specs.Tokens.{is_space}
use Rattle.mt_values.proofs.Bounds.{behind_short}
use Rattle.sql_read.proofs.TokenSteps.{tokens_start, tokens_more, token_shorter, some_bytes}
use Rattle.mt_values.specs.declared.token.Token.TheVariants as token
use Rattle.sql_read.proofs.tokens.tokens.Goals as goal
use Rattle.sql_read.proofs.tokens.tokens.Goals.{in-Stray, in_default}

pub tokens-init : goal.tokens-init
tokens-init c =
    rw (c.new-found.ensures.items, c.behind-rest.ensures) (tokens_start c.args.text.now, behind_short is_space false c.args.text.now)

pub tokens-smaller : goal.tokens-smaller
tokens-smaller c =
    let some = some_bytes c.tokens.rest.now (sym c.is_empty.ensures ∙ c.tokens-test.true) in
    rw c.behind-rest-in-tokens.ensures (token_shorter c.tokens.found.items (length c.args.text.now) c.in_ok-token.token c.tokens.rest.now c.in_ok-token.more.now some c.in_ok-token.ensures)

pub tokens-preserved : goal.tokens-preserved
tokens-preserved c =
    let some = some_bytes c.tokens.rest.now (sym c.is_empty.ensures ∙ c.tokens-test.true) in
    let less = token_shorter c.tokens.found.items (length c.args.text.now) c.in_ok-token.token c.tokens.rest.now c.in_ok-token.more.now some c.in_ok-token.ensures in
    let usual : c.in_ok-token.token ≡ token.Stray → ⊥ =
    elim c.match-matches.branch [
      | in-Stray w ↦ absurd (false≢true (sym c.if-is_last.false ∙ w.matches-is))
      | in_default w ↦ w.in_default.not-Stray
    ] in
    let more = tokens_more c.tokens.found.items (length c.args.text.now) c.in_ok-token.token c.tokens.rest.now c.in_ok-token.more.now some c.in_ok-token.ensures usual in
    rw (c.in_ok-push.ensures.items, c.behind-rest-in-tokens.ensures) (more ∙ c.tokens.invariant.0, omega arith)
