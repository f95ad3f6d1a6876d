-- what is left of the places decides
use Rattle.std.proofs.Common.{◌≡◌, drop}
use Rattle.mt_values.specs.Engines.{first_place, is_kept_apart}
use Rattle.mt_values.specs.declared.schema.SchemaFault.TheVariants as fault
use Rattle.mt_values.proofs.engine_columns.sum_key.Given as goal

abbrev pub invariant-loop-place : goal.invariant-loop-place
invariant-loop-place l =
    first_place (is_kept_apart l.key l.partition) fault.SumKey (drop l.place-index l.places) ≡ first_place (is_kept_apart l.key l.partition) fault.SumKey l.places
