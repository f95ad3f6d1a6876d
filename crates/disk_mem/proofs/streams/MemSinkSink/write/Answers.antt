use Rattle.std.proofs.Common.{◌++◌, take, ap, ◌∙◌}
use Rattle.disk_mem.specs.Streams.{SinkState}
use Rattle.disk_mem.proofs.streams.MemSinkSink.write.Goals as goal

pub returns-in-Ok-clause-bytes : goal.returns-in-Ok-clause-bytes
returns-in-Ok-clause-bytes c =
    c.in-Ok.ensures.items ∙ ap (λ (s : SinkState). s.written ++ take c.min-count.result c.args.bytes.now) c.self.view_is
