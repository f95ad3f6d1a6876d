use Rattle.shared_store.specs.Engines.{root_in}
use Rattle.shared_store.proofs.Freed.{clears_both, taken_marks, work_put}
use Rattle.shared_store.proofs.Working.{taken_work}
use Rattle.shared_store.proofs.laws.works_leave_no_mark.Goals as goal

pub returns-clause-stands : goal.returns-clause-stands
returns-clause-stands g c = λ before was work run ready t. taken_work before was.store work run t ready.sound

pub returns-clause-taken : goal.returns-clause-taken
returns-clause-taken g c = λ before now work run idle t. taken_marks before now work run idle t

pub returns-clause-put : goal.returns-clause-put
returns-clause-put g c = λ files_of work sealed loaded was now part result ready p. work_put files_of work sealed loaded was now ready part result p

pub returns-clause-dropped : goal.returns-clause-dropped
returns-clause-dropped g c = λ work was now d. clears_both work (root_in was) (root_in now) d
