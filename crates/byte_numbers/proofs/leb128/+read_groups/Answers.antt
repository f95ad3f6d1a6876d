use Rattle.std.proofs.Common.{◌≡◌, ◌+◌, ◌-◌, ◌/◌, arith, sym, ◌∙◌}
use Rattle.byte_numbers.proofs.Groups.{nothing_begins, goes_on, groups_apart, groups_more}
use Rattle.byte_numbers.proofs.leb128.+read_groups.Goals as goal

pub returns-in_err-first : goal.returns-in_err-first
returns-in_err-first t c = rw c.from_residual.ensures (λ number rest e.
    absurd (nothing_begins c.args.more number c.args.bytes.now rest c.in_err-first.ensures.cases e))

pub returns-in_err-high : goal.returns-in_err-high
returns-in_err-high t c = rw c.from_residual-in_err-high.ensures (λ number rest e.
    let more : c.args.more ≡ c.args.more - 1 + 1 = omega arith in
    let on = goes_on c.args.more (c.args.more - 1) number c.in_ok-first.first.now c.in_ok-first.rest.now rest more c.if-first-lt128.false (sym c.in_ok-first.ensures.cases.0 ∙ e) in
    let high = c.in_err-high.ensures (number / 128) rest on.2 in
    omega arith)

pub returns-in_err-number : goal.returns-in_err-number
returns-in_err-number t c = rw c.from_residual-in_err-number.ensures (λ number rest e.
    let more : c.args.more ≡ c.args.more - 1 + 1 = omega arith in
    let on = goes_on c.args.more (c.args.more - 1) number c.in_ok-first.first.now c.in_ok-first.rest.now rest more c.if-first-lt128.false (sym c.in_ok-first.ensures.cases.0 ∙ e) in
    let same = groups_apart (c.args.more - 1) (number / 128) c.in_ok-high.high rest _ (sym on.2 ∙ c.in_ok-high.ensures.parted) in
    omega (arith, same.0, c.in_err-number.ensures))

pub returns-then-high-eq0 : goal.returns-then-high-eq0
returns-then-high-eq0 t c = λ number rest e.
    let more : c.args.more ≡ c.args.more - 1 + 1 = omega arith in
    let on = goes_on c.args.more (c.args.more - 1) number c.in_ok-first.first.now c.in_ok-first.rest.now rest more c.if-first-lt128.false (sym c.in_ok-first.ensures.cases.0 ∙ e) in
    let same = groups_apart (c.args.more - 1) (number / 128) c.in_ok-high.high rest _ (sym on.2 ∙ c.in_ok-high.ensures.parted) in
    omega (arith, same.0, on.0, c.if-high-eq0.true)

pub returns : goal.returns
returns t c =
    groups_more c.args.more c.in_ok-high.high c.in_ok-high.size c.in_ok-first.first.now _ c.in_ok-first.rest.now c.args.bytes.now (omega arith) c.if-first-lt128.false (omega arith) (omega arith) (omega (arith, c.in_ok-number.ensures))
    c.in_ok-first.ensures.cases.0 c.in_ok-high.ensures
