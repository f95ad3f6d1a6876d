-- nothing is known of the root
use Rattle.std.proofs.Common.{List, ℕ, None, replicate}
use Rattle.mt_base.specs.declared.policy.Policy.TheVariants.{Head}
use Rattle.root_log.specs.root_store.Stores.{table_at}
use Rattle.session.specs.shared_store.history_seat.Views.{no_entry}
use Rattle.session.specs.shared_store.Engines.{schema_kept}
use Rattle.run_shared.proofs.show_opened.Given as goal

abbrev pub ghosts-show-B-Room : goal.ghosts-show-B-Room
ghosts-show-B-Room g a = record { table = a.blanks.word.table; before = replicate a.store.length no_entry }

abbrev pub ghosts-show-B-Names : goal.ghosts-show-B-Names
ghosts-show-B-Names g a = record {
  given = λ _. ⊥;
  opening = record { tables = λ (t : List ℕ). schema_kept (table_at a.store t); begun = None; policy = Head; failed = a.store.opened; shared = g.D.Disk.failed a.disk; started = g.D.Disk.started a.disk };
  ledgers = record { parts = a.blanks.works.parts; works = a.blanks.works.name; stops = a.blanks.stops.name; levels = a.blanks.levels.name; faults = a.blanks.faults.name };
}
