use Rattle.std.proofs.Common.{None, refl, sym, ap, ◌∙◌, arith, replicate}
use Rattle.std.proofs.lemmas.List.{length-replicate}
use Rattle.mt_base.specs.declared.policy.Policy.TheVariants.{Head}
use Rattle.root_log.specs.root_commits.Turns.{storage}
use Rattle.session.specs.shared_store.history_seat.Views.{name, no_entry}
use Rattle.session.proofs.SharedStoreOpening.{to_be_shared}
use Rattle.run_shared.proofs.show_opened.Goals as goal

pub show-requires-clause-word : goal.show-requires-clause-word
show-requires-clause-word g c κs within = ap (name c.in-Ok.blanks.word.table) (c.in-Ok.ensures.word ∙ sym (length-replicate c.args.store.length no_entry))

pub show-requires-clause-ledgers : goal.show-requires-clause-ledgers
show-requires-clause-ledgers g c κs within = let p = c.in-Ok.ensures.parts in (refl, refl, refl, p.1 ∙ sym p.0, refl, p.2 ∙ sym p.0, refl, p.3 ∙ sym p.0)

pub show-requires-clause-parts : goal.show-requires-clause-parts
show-requires-clause-parts g c κs within = let parts = c.in-Ok.ensures.parts.0 in omega (arith, parts)

pub show-requires-clause-root : goal.show-requires-clause-root
show-requires-clause-root g c κs within =
    let disk = c.args.disk in
    let store = c.args.store in
    let was = storage (g.D.Disk.told disk) (g.D.Disk.clock disk) (g.D.Disk.failed disk) (g.A.Annals.told c.args.annals) in
    to_be_shared g.F.Dir.files _ (replicate store.length no_entry) None Head store was (g.D.Disk.started disk) c.requires.ready c.requires.idle (sym (length-replicate store.length no_entry))
    (record {
      listed = λ told. absurd told;
      grows = λ first noted. absurd noted;
      rooted = λ told. absurd told;
      held = λ told. absurd told;
      safe = λ told. absurd told;
    })

pub show-requires-clause-tells : goal.show-requires-clause-tells
show-requires-clause-tells g c κs within = λ told. absurd told
