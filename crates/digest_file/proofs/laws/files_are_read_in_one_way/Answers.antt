use Rattle.digest_file.specs.Spellings.{IsEntry, IsManifest}
use Rattle.digest_file.proofs.Entries.{one_text}
use Rattle.digest_file.proofs.FirstFaults.{no_spelling, one_place}
use Rattle.digest_file.proofs.Manifests.{one_manifest}
use Rattle.digest_file.proofs.laws.files_are_read_in_one_way.Goals as goal

pub returns-clause-entry : goal.returns-clause-entry
returns-clause-entry c = one_text

pub returns-clause-entry_fault : goal.returns-clause-entry_fault
returns-clause-entry_fault c = no_spelling IsEntry

pub returns-clause-entry_place : goal.returns-clause-entry_place
returns-clause-entry_place c = one_place IsEntry

pub returns-clause-manifest : goal.returns-clause-manifest
returns-clause-manifest c = one_manifest

pub returns-clause-manifest_fault : goal.returns-clause-manifest_fault
returns-clause-manifest_fault c = no_spelling IsManifest

pub returns-clause-manifest_place : goal.returns-clause-manifest_place
returns-clause-manifest_place c = one_place IsManifest
