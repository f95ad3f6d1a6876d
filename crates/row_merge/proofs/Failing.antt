-- A call that reads parts fails, and its error is handed on.
use Rattle.std.proofs.Common.{◌≡◌, Result, Ok, Err, IsErrAnd, sym, subst}
use Rattle.part_history.specs.part_name.declared.part.PartName.{PartName}
use Rattle.part_reader.specs.declared.reading.PartFault.{PartFault}
use Rattle.part_reader.specs.declared.reading.PartFault.TheVariants.{Fault}
use Rattle.row_merge.specs.MergedParts.{Fails}

pub handed_fails : {X : Type 0} {Says : PartName × PartFault → Type 0} {Leaves : Type 0 → Type 0} (result : Result X (PartName × PartFault)) (e : PartName × PartFault) → IsErrAnd result (λ x. x ≡ e) → Says e → Leaves (e.1 ≡ Fault) → Fails Says Leaves result
handed_fails (Ok x) e made says left = absurd made
handed_fails {X = X} {Says = Says} {Leaves = Leaves} (Err x) e made says left = subst (λ (y : PartName × PartFault). Fails {X = X} Says Leaves (Err y)) (sym made) (record { damaged = says; leaves = left })
