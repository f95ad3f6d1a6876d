use Rattle.std.proofs.Common.{rules, Fits, w16, w32, w8, subst, sym}
use Rattle.mt_plain.proofs.Bits.{stays_below}
use Rattle.mt_plain.proofs.aggregates.join.Goals as goal

pub overflow_cast-m : goal.overflow_cast-m
overflow_cast-m c = subst (Fits w8) (sym c.joined.ensures) (record { fits = stays_below 8 c.args.function _ _ (search rules) (search rules) })

pub overflow_cast-m-in-UInt16-UInt16 : goal.overflow_cast-m-in-UInt16-UInt16
overflow_cast-m-in-UInt16-UInt16 c = subst (Fits w16) (sym c.joined-in-UInt16-UInt16.ensures) (record { fits = stays_below 16 c.args.function _ _ (search rules) (search rules) })

pub overflow_cast-m-in-UInt32-UInt32 : goal.overflow_cast-m-in-UInt32-UInt32
overflow_cast-m-in-UInt32-UInt32 c = subst (Fits w32) (sym c.joined-in-UInt32-UInt32.ensures) (record { fits = stays_below 32 c.args.function _ _ (search rules) (search rules) })
