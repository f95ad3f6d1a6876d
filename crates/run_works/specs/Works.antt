-- Works that may be merged (docs/testing.md, "Works: `run_works`").
use Rattle.std.specs.Prelude.{◌<◌, length}
use Rattle.mt_program.specs.session.mt_model.History.{IsTableSchema}
use Rattle.mt_program.specs.session.shared_store.declared.work.Work.{Work}

-- the work has a source, and the schema of a table
pub record MayBeMerged {F : Type 0} (work : Work F) : Type 0 where
  pub some : 0 < length work.sources.items
  pub schema : IsTableSchema work.schema
