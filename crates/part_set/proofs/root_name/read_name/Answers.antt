use Rattle.std.proofs.Common.{◌≡◌, ◌∙◌, ap, sym, true, Some, codes}
use Rattle.std.specs.Str.{bytes_eq}
use Rattle.std.proofs.lemmas.Bool.{false≢true}
use Rattle.std.proofs.lemmas.Slice.Eq.{bytes_eq-Decides}
use Rattle.part_set.specs.declared.root_name.RootName.TheVariants.{Create}
use Rattle.part_set.specs.RootNames.{is_table}
use Rattle.part_set.proofs.NameParts.{has_table, name_parts, no_name, no_part, only_create, only_part, part_is}
use Rattle.part_set.proofs.root_name.read_name.Goals as goal

pub returns-in_default-clause-spelled : goal.returns-in_default-clause-spelled
returns-in_default-clause-spelled c = λ n named is. absurd (no_name n c.args.bytes.now c.in_default.ensures.none is)

pub returns-then-not-is_table-clause-spelled : goal.returns-then-not-is_table-clause-spelled
returns-then-not-is_table-clause-spelled c = λ n named is.
    let parts = name_parts n c.in-Some.table.now c.in-Some.rest.now c.args.bytes.now named c.in-Some.ensures.found.0 c.in-Some.ensures.found.1 is in
    absurd (false≢true (sym c.if-not-is_table.true ∙ (c.is_table.ensures ∙ (ap is_table (sym parts.0) ∙ has_table n named))))

pub returns-then-eq-clause-spelled : goal.returns-then-eq-clause-spelled
returns-then-eq-clause-spelled c = λ n named is.
    let parts = name_parts n c.in-Some.table.now c.in-Some.rest.now c.args.bytes.now named c.in-Some.ensures.found.0 c.in-Some.ensures.found.1 is in
    let equal = c.if-eq.ensures in
    let told : bytes_eq c.in-Some.rest.now (codes "create") ≡ true = cc in
    let create : c.in-Some.rest.now ≡ codes "create" = (bytes_eq-Decides c.in-Some.rest.now (codes "create")).0 told in
    ap Some (ap Create c.in_ok-from_slice.ensures ∙ sym (only_create n c.in-Some.table.now c.in-Some.rest.now parts.0 parts.1 create))

pub returns-in_default-part_behind-clause-spelled : goal.returns-in_default-part_behind-clause-spelled
returns-in_default-part_behind-clause-spelled c = λ n named is.
    let parts = name_parts n c.in-Some.table.now c.in-Some.rest.now c.args.bytes.now named c.in-Some.ensures.found.0 c.in-Some.ensures.found.1 is in
    let other = λ (create : c.in-Some.rest.now ≡ codes "create"). let told = (bytes_eq-Decides c.in-Some.rest.now (codes "create")).1 create in absurd (let not = c.if-eq.ensures in cc) in
    let only = only_part n c.in-Some.table.now c.in-Some.rest.now _ named parts.0 parts.1 other c.in_default-part_behind.ensures.read in
    absurd (no_part only.0 only.1)

pub returns-clause-spelled : goal.returns-clause-spelled
returns-clause-spelled c = λ n named is.
    let parts = name_parts n c.in-Some.table.now c.in-Some.rest.now c.args.bytes.now named c.in-Some.ensures.found.0 c.in-Some.ensures.found.1 is in
    let other = λ (create : c.in-Some.rest.now ≡ codes "create"). let told = (bytes_eq-Decides c.in-Some.rest.now (codes "create")).1 create in absurd (let not = c.if-eq.ensures in cc) in
    let only = only_part n c.in-Some.table.now c.in-Some.rest.now _ named parts.0 parts.1 other c.in-Some-part_behind.ensures.read in
    part_is n _ c.in-Some.table.now _ only.0 c.in_ok-table.ensures only.1 only.2
