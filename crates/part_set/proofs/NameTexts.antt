-- Names of the root that are spelled alike are one.
use Rattle.std.proofs.Common.{◌≡◌, ℕ, List, ◌++◌, get_or, drop, sym, ap, arith, codes}
use Rattle.part_name.specs.PartNames.{part_text}
use Rattle.part_name.proofs.Texts.{names_same}
use Rattle.part_set.specs.declared.root_name.RootName.{RootName}
use Rattle.part_set.specs.declared.root_name.RootName.TheVariants.{Create, Part}
use Rattle.part_set.specs.RootNames.{IsRootName, root_text}
use Rattle.part_set.proofs.NameParts.{table_of, behind_dot, parted, has_table, table_no_dot, name_parts}

-- what is after the dot tells a table from a part
create_no_part : (text : List ℕ) → codes "create" ≡ codes "part_" ++ text → ⊥
create_no_part text is = let first : ◌≡◌ {A = ℕ} 99 112 = ap (λ (t : List ℕ). get_or t 0 0) is in absurd (omega arith)

same_behind : (a b : RootName) → IsRootName a → IsRootName b → table_of a ≡ table_of b → behind_dot a ≡ behind_dot b → a ≡ b
same_behind (Create t) (Create u) named also tables texts = ap Create tables
same_behind (Create t) (Part q) named also tables texts = absurd (create_no_part (part_text q.name) texts)
same_behind (Part p) (Create u) named also tables texts = absurd (create_no_part (part_text p.name) (sym texts))
same_behind (Part p) (Part q) named also tables texts =
    let name = names_same p.name q.name named.1 also.1 (ap (λ (t : List ℕ). drop 5 t) texts) in
    λ i. Part (record { table = tables i; name = name i })

pub root_names_same : (a b : RootName) → IsRootName a → IsRootName b → root_text a ≡ root_text b → a ≡ b
root_names_same a b named also is =
    let parts = name_parts a (table_of b) (behind_dot b) (root_text b) named (table_no_dot (table_of b) (has_table b also)) (parted b) is in
    same_behind a b named also parts.0 parts.1
