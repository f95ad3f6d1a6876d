use Rattle.std.proofs.Common.{List, ℕ, refl, subst}
use Rattle.mt_outside.specs.Disk.{names_of}
use Rattle.root_store.specs.Entries.{EntryHolds}
use Rattle.root_store.specs.Roots.{HasFolder}
use Rattle.root_opening.proofs.KeptNames.{table_kept, table_told}
use Rattle.root_opening.proofs.keeping.keep_table.Goals as goal

pub returns-clause-keeps : goal.returns-clause-keeps
returns-clause-keeps g c = λ read seen absent k. table_kept read seen c.args.store.now _ c.args.table.now c.in_ok-schema.schema refl refl c.in_ok-put_table.ensures.updates absent k c.in_ok-schema.ensures.schema

pub returns-clause-keeps_told : goal.returns-clause-keeps_told
returns-clause-keeps_told g c = λ told read seen is absent k tells.
    let folder = subst (λ (t : List ℕ). HasFolder (names_of told) t (EntryHolds c.args.table.now c.in_ok-schema.schema)) c.requires.text (c.in_ok-schema.ensures.holds told is) in
    table_told read seen c.args.store.now _ c.args.table.now c.in_ok-schema.schema refl refl c.in_ok-put_table.ensures.updates absent k g.D.Arm.Dir.Dir.files (names_of told) folder tells
