use Rattle.std.proofs.Common.{sym}
use Rattle.disk_mem.proofs.NotedAll.{told-note}
use Rattle.disk_mem.proofs.annals.KeptAnnalsAnnals.note.Goals as goal

pub returns-in-Some : goal.returns-in-Some
returns-in-Some c = rw (← c.self.view_is) (record {
  told = told-note c.self.inside.list.items c.push_reserved.new.self.items c.self.inside.marks.items c.push_reserved-in-Some.new.self.items c.in-Some.entry c.args.mark
      c.self.inside.begun c.take.new.self c.self.invariant c.push_reserved.ensures.items c.push_reserved-in-Some.ensures.items (sym c.in-Some.ensures.value) c.take.ensures.after;
})
