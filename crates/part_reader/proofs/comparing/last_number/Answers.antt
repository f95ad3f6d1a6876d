use Rattle.std.proofs.Common.{◌≡◌, ◌-◌, ◌∙◌, ap, arith, length, slice_get}
use Rattle.part_reader.proofs.comparing.last_number.Goals as goal

pub returns-in-Some-clause-last : goal.returns-in-Some-clause-last
returns-in-Some-clause-last c = λ values s.
    let place : length values - 1 ≡ c.saturating_sub.result = omega (arith, s.count_is, c.saturating_sub.ensures) in
    ap (slice_get values) place ∙ (c.in-Some.ensures.number values s).1

pub returns-in-None-clause-last : goal.returns-in-None-clause-last
returns-in-None-clause-last c = λ values s.
    let place : length values - 1 ≡ c.saturating_sub.result = omega (arith, s.count_is, c.saturating_sub.ensures) in
    ap (slice_get values) place ∙ c.in-None.ensures.number values s
