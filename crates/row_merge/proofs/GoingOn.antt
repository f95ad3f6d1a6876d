-- A merge into a part that is written goes on.
use Rattle.std.proofs.Common.{◌∙◌, OnOk, Result, Ok, Err, arith, refl}
use Rattle.part_reader.specs.part_writer.Growing.{Growing}
use Rattle.row_merge.specs.declared.streams.Inputs.{Inputs}
use Rattle.row_merge.specs.declared.streams.Stream.{Stream}
use Rattle.row_merge.specs.Streams.{MayGoOn, WentOn}

module _ {F : Type 0} {i : Inputs F} where
  -- nothing was done
  pub on_same : {s : Stream F} {out : Growing} → MayGoOn i s out → WentOn i s s out out
  on_same may = record { on = may; told = refl; rises = omega arith }

  -- it went on twice
  pub on_then : {a b c : Stream F} {x y z : Growing} → WentOn i a b x y → WentOn i b c y z → WentOn i a c x z
  on_then first second = record { on = second.on; told = second.told ∙ first.told; rises = let one = first.rises in let two = second.rises in omega (arith, one, two) }

-- what a call says of two things where it succeeds
pub on_ok_two : {T E A B Z : Type 0} (r : Result T E) → (A → B → Z) → OnOk r A → OnOk r B → OnOk r Z
on_ok_two (Ok x) both a b = both a b
on_ok_two (Err e) both a b = tt

-- and of three
pub on_ok_three : {T E A B C Z : Type 0} (r : Result T E) → (A → B → C → Z) → OnOk r A → OnOk r B → OnOk r C → OnOk r Z
on_ok_three (Ok x) all a b c = all a b c
on_ok_three (Err e) all a b c = tt
