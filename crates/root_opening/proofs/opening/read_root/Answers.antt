use Rattle.std.proofs.Common.{List, ℕ, subst}
use Rattle.root_store.specs.part_set.declared.root_name.RootName.{RootName}
use Rattle.root_store.specs.part_set.Clashes.{IsFault}
use Rattle.root_opening.specs.Keeping.{IsDamageOfSet}
use Rattle.root_opening.specs.Names.{AreNamesOf}
use Rattle.root_opening.proofs.Opened.{set_told}
use Rattle.root_opening.proofs.opening.read_root.Goals as goal

pub returns-in_ok-damage_of-in-Err-clause-damaged : goal.returns-in_ok-damage_of-in-Err-clause-damaged
returns-in_ok-damage_of-in-Err-clause-damaged c = λ told rise are.
    let texts = c.args.texts.items in
    let names = c.in_ok-names.names.items in
    set_told told texts names (subst (λ (ts : List (List ℕ)). AreNamesOf ts names) c.deref.ensures.value c.in_ok-names.ensures.read) c.in_ok-names.ensures.few are c.in-Err.fault c.in_ok-damage_of-in-Err.field-0
    (subst (λ (ns : List RootName). IsFault ns c.in-Err.fault) c.deref-2.ensures.value c.in-Err.ensures.fault)
    (subst (λ (ts : List (List ℕ)). IsDamageOfSet ts c.in-Err.fault c.in_ok-damage_of-in-Err.field-0) c.deref-in-Err.ensures.value c.in_ok-damage_of-in-Err.ensures)
