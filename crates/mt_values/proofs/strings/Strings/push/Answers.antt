use Rattle.std.proofs.Common.{◌≡◌, ◌+◌, length, arith, length-append}
use Rattle.mt_values.proofs.Texts.{texts_from-push, EndsRise-push}
use Rattle.mt_values.proofs.strings.Strings.push.Goals as goal
use Rattle.mt_values.proofs.strings.Strings.push.Goals.{After-push_reserved}

-- the new end is the new number of bytes
last_is : (c : After-push_reserved) → c.len.result ≡ length c.self.inside.bytes.items + length c.args.text.now
last_is c =
    let o = c.self.inside.bytes.ok.0 in
    omega (arith, c.in_ok-extend_from_slice.ensures.len, c.len.ensures)

pub invariant_of-self-2 : goal.invariant_of-self-2
invariant_of-self-2 c =
    let bytes = c.self.inside.bytes.items in
    let e = last_is c in
    let rise = EndsRise-push 0 c.self.inside.ends.items (length bytes) c.len.result (omega arith) c.self.invariant in
    rw (c.push_reserved.ensures.items, c.in_ok-reserve.ensures.items, c.in_ok-extend_from_slice.ensures.items, length-append bytes c.args.text.now, ← e) rise

pub returns-clause-ok : goal.returns-clause-ok
returns-clause-ok c =
    rw (c.push_reserved.ensures.items, c.in_ok-reserve.ensures.items, c.in_ok-extend_from_slice.ensures.items, ← c.self.view_is) (texts_from-push 0 c.self.inside.ends.items c.self.inside.bytes.items c.args.text.now c.len.result (last_is c) c.self.invariant)
