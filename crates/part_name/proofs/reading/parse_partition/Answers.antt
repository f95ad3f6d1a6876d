use Rattle.std.proofs.Common.{◌≡◌, get_or, Some, ap, arith}
use Rattle.part_name.proofs.Pieces.{whole_only}
use Rattle.part_name.proofs.reading.parse_partition.Goals as goal

pub returns-in-all-clause-read : goal.returns-in-all-clause-read
returns-in-all-clause-read c = λ p fits is.
    let first : get_or c.args.text.now 0 0 ≡ 97 = omega arith in
    ap Some (whole_only c.args.text.now first p fits is)
