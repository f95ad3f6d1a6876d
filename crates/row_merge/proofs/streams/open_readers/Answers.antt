use Rattle.std.proofs.Common.{◌≡◌, ◌<◌, ◌∙◌, All, ap, arith, length, rules, subst, sym}
use Rattle.row_merge.specs.Streams.{share}
use Rattle.row_merge.proofs.Opening.{one_reader_more, reader_like}
use Rattle.row_merge.proofs.streams.open_readers.Goals as goal

pub new-requires : goal.new-requires
new-requires g c =
    let own : All (λ place. place < length c.args.schema.now.columns) c.deref-in-loop-own.result.now = subst (All (λ place. place < length c.args.schema.now.columns)) (sym c.deref-in-loop-own.ensures.value) c.requires.places in
    search rules

pub loop-own-preserved : goal.loop-own-preserved
loop-own-preserved g c =
    let schema = c.args.schema.now in
    let plan = c.args.plan.now in
    let own = c.own-item.result in
    let reader = c.in_ok-reader.reader in
    let parts = c.args.parts.now in
    let most = share (length parts) (length plan.columns.items) in
    let columns : c.len.result ≡ length plan.columns.items = omega (arith, c.len.ensures, plan.columns.ok.0) in
    let bytes : c.share_of-most.result ≡ most = c.share_of-most.ensures.exact ∙ ap (share (length parts)) columns in
    one_reader_more schema plan most parts c.loop-own.own-index own c.loop-own.readers.items c.push.new.self.items reader (omega arith) c.own-item.is c.loop-own.invariant
    (reader_like schema plan most own reader c.deref-in-loop-own.result.now c.deref.result.now c.share_of-most.result c.in_ok-reader.ensures c.deref-in-loop-own.ensures.value c.deref.ensures.value bytes) c.in_ok-push.ensures.items
