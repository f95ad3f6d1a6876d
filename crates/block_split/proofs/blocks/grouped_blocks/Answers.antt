use Rattle.std.proofs.Common.{◌≡◌, ◌+◌, ◌∷◌, ◌++◌, [], All, map, take, sym, ap, ap₂, ◌∙◌, subst}
use Rattle.std.proofs.lemmas.List.{map_push, take_more}
use Rattle.std.proofs.lemmas.List.Elements.{All-push}
use Rattle.mt_base.specs.declared.partition.Partition.TheVariants.{Number}
use Rattle.mt_values.specs.Grid.{Grid, picked}
use Rattle.block_split.specs.declared.blocks.PartitionBlock.{PartitionBlock}
use Rattle.block_split.specs.declared.grouping.Group.{Group}
use Rattle.block_split.specs.Groups.{group_rows}
use Rattle.block_split.specs.Split.{partition_rows}
use Rattle.block_split.proofs.blocks.grouped_blocks.Goals as goal

pub loop-group-preserved : goal.loop-group-preserved
loop-group-preserved c =
    let rows = c.args.block.now.rows in
    let groups = c.args.groups.now in
    let index = c.loop-group.group-index in
    let group = c.group-item.result in
    let block = c.in_ok-picked.picked in
    let blocks = c.loop-group.blocks.items in
    let made : PartitionBlock = record { partition = Number group.number; block = block } in
    let before = c.loop-group.invariant in
    let places : c.as_slice.result.now ≡ group.places = c.as_slice.ensures in
    let types : block.types ≡ c.args.block.now.types = ap (λ (b : Grid). b.types) c.in_ok-picked.ensures in
    let here : partition_rows made ≡ group_rows rows group =
    ap (λ rs. (Number group.number, rs)) (ap (λ (b : Grid). b.rows) c.in_ok-picked.ensures ∙ ap (picked rows) places) in
    let alike = λ (b : PartitionBlock). b.block.types ≡ c.args.block.now.types in
    record {
      rows =
          ap (map partition_rows) c.push_reserved.ensures.items
          ∙ map_push partition_rows blocks made
          ∙ ap₂ (λ xs x. xs ++ x ∷ []) before.rows here
          ∙ sym (map_push (group_rows rows) (take index groups) group)
          ∙ ap (λ (g : Group). map (group_rows rows) (take index groups ++ g ∷ [])) c.group-item.is
          ∙ ap (map (group_rows rows)) (sym (take_more groups index group c.loop-group-test.true));
      types = subst (All alike) (sym c.push_reserved.ensures.items) (All-push alike blocks made before.types types);
      count = c.push_reserved.ensures.len ∙ ap (λ n. n + 1) before.count;
      room = c.push_reserved.ensures.capacity ∙ before.room;
    }
