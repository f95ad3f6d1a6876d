-- the tests so far are one
use Rattle.std.proofs.Common.{◌≡◌, take}
use Rattle.mt_plain.proofs.alters.same_tests.Given as goal

abbrev pub invariant-loop-place : goal.invariant-loop-place
invariant-loop-place l = take l.place l.a ≡ take l.place l.b
