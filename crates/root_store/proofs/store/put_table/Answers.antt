use Rattle.std.proofs.Common.{◌+◌, ◌∙◌, ℕ, List, Option, ap, cond, is_some, length}
use Rattle.std.specs.BTreeMap.{get}
use Rattle.std.specs.Cmp.Lexicographic.{slice_cmp}
use Rattle.std.specs.Ordering.{nat_cmp}
use Rattle.root_store.specs.declared.store.Table.{Table}
use Rattle.root_store.proofs.store.put_table.Goals as goal

pub returns-clause-count : goal.returns-clause-count
returns-clause-count c = λ none.
    c.in_ok-insert.ensures.len
    ∙ ap (λ (o : Option Table). length c.args.tables.now.entries + cond (is_some o) 0 1)
    (c.in_ok-insert.ensures.old ∙ (ap (λ (k : List ℕ). get (slice_cmp nat_cmp) c.args.tables.now k) c.in_ok-twin.ensures ∙ none))
