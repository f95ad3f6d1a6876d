use Rattle.shared_store.specs.Engines.{root_in}
use Rattle.shared_store.proofs.Freed.{clears_beside}
use Rattle.shared_store.proofs.Others.{create_beside, create_tables, insert_beside, insert_tables, put_beside, same_tables, stands_with, taken_apart, taken_beside, work_tables}
use Rattle.shared_store.proofs.laws.other_works_stand.Goals as goal

pub returns-clause-takes : goal.returns-clause-takes
returns-clause-takes g c = λ was now work other taken run ready t stands.
    let again = taken_beside was.store now.store ready.sound work other taken run t.takes stands.sources in (
      taken_apart was.store now.store ready.sound work other taken run t.takes stands.sources,
      (again.0, stands_with was.store now.store other run again.0 stands (same_tables was.store now.store t.takes.marks.tables other.table) again.1),
    )

pub returns-clause-puts : goal.returns-clause-puts
returns-clause-puts g c = λ files_of work other sealed loaded was now part result run ready p apart stands.
    let again = put_beside was now work other run ready apart stands.sources files_of sealed loaded part result p in
    (again.0, stands_with was.store now.store other run again.0 stands (same_tables was.store now.store (work_tables files_of work sealed loaded was now part result p) other.table) again.1)

pub returns-clause-drops : goal.returns-clause-drops
returns-clause-drops g c = λ was now work other run d apart stands.
    stands_with was.store now.store other run run stands (same_tables was.store now.store d.tables other.table) (clears_beside work (root_in was) (root_in now) d other run apart stands.sources)

pub returns-clause-creates : goal.returns-clause-creates
returns-clause-creates g c = λ session create entry was now other sealed result run ready d stands.
    stands_with was.store now.store other run run stands (create_tables session create entry (root_in was) (root_in now) sealed result d other.table)
    (create_beside was now other run ready stands.sources session create entry sealed result d)

pub returns-clause-inserts : goal.returns-clause-inserts
returns-clause-inserts g c = λ files_of a was now other sealed result run ready d stands.
    stands_with was.store now.store other run run stands (insert_tables files_of a (root_in was) (root_in now) sealed result d other.table)
    (insert_beside was now other run ready stands.sources files_of a sealed result d)
