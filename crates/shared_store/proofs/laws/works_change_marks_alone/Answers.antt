use Rattle.shared_store.specs.Engines.{root_in}
use Rattle.shared_store.proofs.Marked.{alike_on}
use Rattle.shared_store.proofs.Marking.{cleared_alike, marked_alike}
use Rattle.shared_store.proofs.laws.works_change_marks_alone.Goals as goal

pub returns-clause-takes : goal.returns-clause-takes
returns-clause-takes g c = λ files_of was now work run t. alike_on files_of was now (marked_alike work run was.store now.store t.takes.marks) t.storage_is

pub returns-clause-drops : goal.returns-clause-drops
returns-clause-drops g c = λ files_of was now work d. alike_on files_of was now (cleared_alike work (root_in was) (root_in now) d) d.storage_is
