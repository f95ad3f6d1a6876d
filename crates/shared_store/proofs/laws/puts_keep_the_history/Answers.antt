use Rattle.root_commits.specs.root_store.Crashes.{entries_of}
use Rattle.shared_store.specs.Engines.{root_in}
use Rattle.shared_store.specs.Works.{merging_of}
use Rattle.shared_store.proofs.Marked.{alike_on}
use Rattle.shared_store.proofs.Marking.{cleared_alike}
use Rattle.shared_store.proofs.Puts.{named_sources, put_crashes, put_event, put_held, put_images, put_no_event, put_stands}
use Rattle.shared_store.proofs.laws.puts_keep_the_history.Goals as goal

pub returns-clause-stands : goal.returns-clause-stands
returns-clause-stands g c = λ files_of work sealed loaded was now part result p t at h stands is.
    put_stands files_of work sealed loaded was now part result p h (λ name d. c.commits_stand.ensures.merge files_of (merging_of work p.run sealed loaded) name (root_in was) p.mid part result d t at h stands (named_sources t.schema h was.store work p.run p.there (merging_of work p.run sealed loaded) is)) stands

pub returns-clause-held : goal.returns-clause-held
returns-clause-held g c = λ files_of work sealed loaded was now part result p t at is held.
    put_held files_of work sealed loaded was now part result p (λ name d. c.commits_hold_rows.ensures.merge files_of (merging_of work p.run sealed loaded) name (root_in was) p.mid part result d t at is) held

pub returns-clause-event : goal.returns-clause-event
returns-clause-event g c = λ files_of work sealed loaded was now part result p t at core shows is.
    put_event files_of work sealed loaded was now part result p core (λ name d. c.commits_are_events.ensures.merge files_of (merging_of work p.run sealed loaded) name (root_in was) p.mid part result d t at core shows (named_sources t.schema core.history was.store work p.run p.there (merging_of work p.run sealed loaded) is))

pub returns-clause-no_event : goal.returns-clause-no_event
returns-clause-no_event g c = λ files_of work sealed loaded was now part result p core shows. put_no_event files_of work sealed loaded was now part result p core shows

pub returns-clause-images : goal.returns-clause-images
returns-clause-images g c = λ files_of work sealed loaded was now part result p t at h stands is one.
    put_images files_of work sealed loaded was now part result p h (λ name d. c.commits_leave_images.ensures.merge files_of (merging_of work p.run sealed loaded) name (root_in was) p.mid part result d t at h stands (named_sources t.schema h was.store work p.run p.there (merging_of work p.run sealed loaded) is) one) one

pub returns-clause-crashes : goal.returns-clause-crashes
returns-clause-crashes g c = λ files_of work sealed loaded was now part result p t at is.
    put_crashes files_of work sealed loaded was now part result p (λ name d.
    c.commits_keep_through_crashes.ensures.merge files_of (merging_of work p.run sealed loaded) name (root_in was) p.mid part result d t at
    (λ kept there stands. named_sources t.schema (entries_of kept.list) was.store work p.run p.there (merging_of work p.run sealed loaded) (is kept there stands)))

pub returns-clause-gone : goal.returns-clause-gone
returns-clause-gone g c = λ files_of work was now part name back gone. alike_on files_of was now (cleared_alike work (root_in was) (root_in now) gone.clears) gone.clears.storage_is
