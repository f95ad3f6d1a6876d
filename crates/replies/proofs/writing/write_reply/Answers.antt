use Rattle.std.proofs.Common.{subst, ℕ, List}
use Rattle.std.specs.Io.KnownBytes.{Appends}
use Rattle.run_streams.specs.Streams.{AppendsFront}
use Rattle.replies.proofs.writing.write_reply.Goals as goal

-- the reply was written
pub returns-in-Ok-clause-all : goal.returns-in-Ok-clause-all
returns-in-Ok-clause-all g c =
    subst (λ (bytes : List ℕ). Appends (g.K.Sink.written c.args.sink.now) (g.K.Sink.written c.write_all.new.sink) bytes) c.bytes-bytes.ensures c.in-Ok.ensures.all

-- a front of it was
pub returns-in-Err-clause-front : goal.returns-in-Err-clause-front
returns-in-Err-clause-front g c =
    subst (λ (bytes : List ℕ). AppendsFront (g.K.Sink.written c.args.sink.now) (g.K.Sink.written c.write_all.new.sink) bytes) c.bytes-bytes.ensures c.in-Err.ensures.front
