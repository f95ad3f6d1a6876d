use Rattle.std.proofs.Common.{◌≡◌, List, [], subst, sym}
use Rattle.std.proofs.lemmas.List.Elements.{All-nil}
use Rattle.table_core.specs.part_history.declared.part.CorePart.{CorePart}
use Rattle.table_core.specs.part_name.PartNames.{Meet}
use Rattle.table_core.specs.part_name.declared.part.PartName.{PartName}
use Rattle.row_merge.specs.part_set.declared.kept.Kept.{Kept}
use Rattle.row_merge.specs.part_set.Parts.{NoneMeets}
use Rattle.row_merge.specs.part_set.Sets.{parts_of}
use Rattle.run_memory.proofs.copies.one_part.Goals as goal

-- among no parts none meets a part
none_meets : (parts : List (Kept CorePart)) (name : PartName) → parts ≡ [] → NoneMeets parts name
none_meets parts name is = subst (λ (kept : List (Kept CorePart)). NoneMeets kept name) (sym is) (All-nil (λ (kept : Kept CorePart). Meet kept.name name → ⊥))

pub add-requires : goal.add-requires
add-requires c = none_meets (parts_of c.new-set.result c.args.table.now) c.first_part.result (c.new-set.ensures c.args.table.now)
