use Rattle.std.proofs.Common.{◌≡◌, ◌++◌, ℕ, List, OnOk, subst}
use Rattle.byte_numbers.proofs.fixed.push_u64.Goals as goal

pub returns-clause-ok : goal.returns-clause-ok
returns-clause-ok c = subst (λ (bs : List ℕ). OnOk c.extend.result (c.extend.new.self ≡ c.args.bytes.now ++ bs)) c.write_u64.ensures c.extend.ensures.ok
