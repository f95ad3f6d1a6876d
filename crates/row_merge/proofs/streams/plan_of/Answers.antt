use Rattle.std.proofs.Common.{◌≡◌, ◌*◌, ◌≤◌, ◌∙◌, ap, arith, length, mul_comm, replicate, sym, true}
use Rattle.std.specs.Int.{div_ceil}
use Rattle.std.specs.List.{range_with_len}
use Rattle.std.proofs.lemmas.Grind.{div_ceil_times}
use Rattle.std.proofs.lemmas.List.{length-replicate}
use Rattle.std.proofs.lemmas.List.Elements.{All-weaker}
use Rattle.part_reader.specs.declared.reading.Part.{Part}
use Rattle.part_set.specs.declared.kept.Kept.{Kept}
use Rattle.row_merge.proofs.streams.plan_of.Goals as goal

pub returns : goal.returns
returns g c =
    let schema = c.args.schema.now in
    let n = c.div_ceil-granules.result in
    let count : n ≡ div_ceil c.most_rows.result schema.granularity = c.div_ceil-granules.ensures ∙ ap (div_ceil c.most_rows.result) c.from.ensures in
    let room = (div_ceil_times c.most_rows.result schema.granularity c.requires.some).0 in
    let are : c.in_ok-chosen.chosen.items ≡ replicate n true = c.in_ok-chosen.ensures.items_if_clones_equal (λ y is. is) in
    let long : length c.in_ok-chosen.chosen.items ≡ n = ap length are ∙ length-replicate n true in
    record {
      sorting = c.in_ok-sorting.ensures;
      columns = c.in_ok-columns.ensures ∙ ap (range_with_len 0) c.len.ensures;
      all = are ∙ ap (λ k. replicate k true) (sym long);
      enough = All-weaker (λ (k : Kept (Part _)). k.part.loaded.manifest.rows ≤ c.most_rows.result) (λ (k : Kept (Part _)). k.part.loaded.manifest.rows ≤ schema.granularity * length c.in_ok-chosen.chosen.items)
          (λ k few. omega (arith, few, room, mul_comm (div_ceil c.most_rows.result schema.granularity) schema.granularity, ap (λ m. schema.granularity * m) (long ∙ count))) c.args.parts.now c.most_rows.ensures;
    }
