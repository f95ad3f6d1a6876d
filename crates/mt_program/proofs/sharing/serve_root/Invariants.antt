use Rattle.root_log.specs.root_store.Stores.{table_at}
use Rattle.session.specs.shared_store.Engines.{opened_of, schema_kept}
use Rattle.session.specs.shared_store.Stood.{holds_at_opening}
use Rattle.std.proofs.Common.{◌≡◌, List, ℕ, true}
use Rattle.mt_program.specs.Sharing.{before_of, begun_of}
use Rattle.mt_program.specs.Worlds.{storage_of}
use Rattle.mt_program.proofs.sharing.serve_root.Given as goal

abbrev pub ghosts-serve_alone-B-Room : goal.ghosts-serve_alone-B-Room
ghosts-serve_alone-B-Room g a = record { table = a.blanks.word.table; before = before_of (g.A.Annals.told a.annals) a.store.length }

abbrev pub ghosts-serve_alone-B-Names : goal.ghosts-serve_alone-B-Names
ghosts-serve_alone-B-Names g a =
    let told = g.A.Annals.told a.annals in
    record {
      given = holds_at_opening g.F.Dir.files (g.R.Arm.tells a.arm.now ≡ true) (before_of told a.store.length) (begun_of told) (opened_of a.store a.policy (storage_of g.D.Disk g.A.Annals (a.disk, a.annals)) (g.D.Disk.started a.disk));
      opening = record { tables = λ (t : List ℕ). schema_kept (table_at a.store t); begun = begun_of told; policy = a.policy; failed = a.store.opened; shared = g.D.Disk.failed a.disk; started = g.D.Disk.started a.disk };
      ledgers = record { parts = a.blanks.works.parts; works = a.blanks.works.name; stops = a.blanks.stops.name; levels = a.blanks.levels.name; faults = a.blanks.faults.name };
    }
