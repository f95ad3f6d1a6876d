use Rattle.std.proofs.Common.{◌≡◌, ◌<◌, ℕ, List, length, take, drop, min, ap, ◌∙◌, arith, Vec}
use Rattle.std.specs.declared.alloc.Global.{Global}
use Rattle.disk_mem.specs.Pieces.{ready, left_pieces}
use Rattle.disk_mem.proofs.PieceReads.{given_front, given_none, reads_none, reads_front}
use Rattle.disk_mem.proofs.streams.MemSourceSource.read.Goals as goal

-- the place after the pieces that end there
ready_is : (old : List (List ℕ)) (pieces slice : List (Vec ℕ Global)) (i j piece place : ℕ) → left_pieces pieces i j ≡ old → slice ≡ pieces
    → left_pieces slice piece place ≡ ready (left_pieces slice i j) → left_pieces pieces piece place ≡ ready old
ready_is old pieces slice i j piece place view same skipped = rw (← view, ← same) skipped

pub returns-then-piece-len-clause-bytes : goal.returns-then-piece-len-clause-bytes
returns-then-piece-len-clause-bytes c =
    let at : left_pieces c.self.inside.pieces.items c.next_place-piece.result.0 c.next_place-piece.result.1 ≡ ready c.args.self.now.pieces =
    ready_is c.args.self.now.pieces c.self.inside.pieces.items c.deref-2.result.now c.self.inside.piece c.self.inside.place c.next_place-piece.result.0 c.next_place-piece.result.1
    (ap (λ s. s.pieces) c.self.view_is) c.deref-2.ensures.value c.next_place-piece.ensures.ready in
    let none = reads_none c.args.self.now.pieces c.self.inside.pieces.items c.next_place-piece.result.0 c.next_place-piece.result.1 at (omega arith) in
    (none.0, (λ zero room. none.1))

pub returns-clause-bytes : goal.returns-clause-bytes
returns-clause-bytes c =
    let at : left_pieces c.self.inside.pieces.items c.next_place-piece.result.0 c.next_place-piece.result.1 ≡ ready c.args.self.now.pieces =
    ready_is c.args.self.now.pieces c.self.inside.pieces.items c.deref-2.result.now c.self.inside.piece c.self.inside.place c.next_place-piece.result.0 c.next_place-piece.result.1
    (ap (λ s. s.pieces) c.self.view_is) c.deref-2.ensures.value c.next_place-piece.ensures.ready in
    let within : c.next_place-piece.result.0 < length c.self.inside.pieces.items = omega (arith, ap length c.deref-2.ensures.value) in
    let count : c.copy_from-count.result ≡ min (length c.copy_from-count.new.buf) (length (drop c.next_place-piece.result.1 c.index.result.now.items)) =
    c.copy_from-count.ensures.count ∙ ap (λ bytes. min (length c.copy_from-count.new.buf) (length (drop c.next_place-piece.result.1 bytes))) c.deref-3.ensures.value in
    let copied : take c.copy_from-count.result c.copy_from-count.new.buf ≡ take c.copy_from-count.result (drop c.next_place-piece.result.1 c.index.result.now.items) =
    c.copy_from-count.ensures.copied ∙ ap (λ bytes. take c.copy_from-count.result (drop c.next_place-piece.result.1 bytes)) c.deref-3.ensures.value in
    reads_front c.args.self.now.pieces c.self.inside.pieces.items c.next_place-piece.result.0 c.next_place-piece.result.1 c.copy_from-count.result c.index.result.now c.copy_from-count.new.buf
    at within c.index.ensures count copied

pub returns-then-piece-len-clause-given : goal.returns-then-piece-len-clause-given
returns-then-piece-len-clause-given c =
    let at : left_pieces c.self.inside.pieces.items c.next_place-piece.result.0 c.next_place-piece.result.1 ≡ ready c.args.self.now.pieces =
    ready_is c.args.self.now.pieces c.self.inside.pieces.items c.deref-2.result.now c.self.inside.piece c.self.inside.place c.next_place-piece.result.0 c.next_place-piece.result.1
    (ap (λ s. s.pieces) c.self.view_is) c.deref-2.ensures.value c.next_place-piece.ensures.ready in
    given_none c.args.self.now.pieces c.self.inside.pieces.items c.next_place-piece.result.0 c.next_place-piece.result.1 c.args.buf.now at (omega arith)

pub returns-clause-given : goal.returns-clause-given
returns-clause-given c =
    let at : left_pieces c.self.inside.pieces.items c.next_place-piece.result.0 c.next_place-piece.result.1 ≡ ready c.args.self.now.pieces =
    ready_is c.args.self.now.pieces c.self.inside.pieces.items c.deref-2.result.now c.self.inside.piece c.self.inside.place c.next_place-piece.result.0 c.next_place-piece.result.1
    (ap (λ s. s.pieces) c.self.view_is) c.deref-2.ensures.value c.next_place-piece.ensures.ready in
    let within : c.next_place-piece.result.0 < length c.self.inside.pieces.items = omega (arith, ap length c.deref-2.ensures.value) in
    let count : c.copy_from-count.result ≡ min (length c.copy_from-count.new.buf) (length (drop c.next_place-piece.result.1 c.index.result.now.items)) =
    c.copy_from-count.ensures.count ∙ ap (λ bytes. min (length c.copy_from-count.new.buf) (length (drop c.next_place-piece.result.1 bytes))) c.deref-3.ensures.value in
    given_front c.args.self.now.pieces c.self.inside.pieces.items c.next_place-piece.result.0 c.next_place-piece.result.1 c.copy_from-count.result c.index.result.now c.copy_from-count.new.buf
    at within c.index.ensures count
