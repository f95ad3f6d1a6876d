-- the text is that of the parts gone over
use Rattle.std.proofs.Common.{◌≡◌, Bor, List, ℕ, flat_map, take}
use Rattle.mt_base.proofs.text.joined.Given as goal

abbrev pub invariant-loop-part : goal.invariant-loop-part
invariant-loop-part l = l.text.items ≡ flat_map (λ (part : Bor (List ℕ)). part.now) (take l.part-index l.parts)
