use Rattle.mt_values.specs.Tables.{partition_of, same_partition, sorting_cmp}
use Rattle.mt_model.proofs.Sorting.{sorted_keeps_where, sorted_permutes, sorted_rises}
use Rattle.mt_model.proofs.Determined.{sorting_total}
use Rattle.mt_model.proofs.laws.sorting_keeps_each_key.Goals as goal

pub returns : goal.returns
returns c = record {
  keys = λ schema partition row rows. sorted_keeps_where (sorting_cmp schema) (sorting_total schema) (λ r. same_partition (partition_of schema r) partition) row rows;
  rows = λ schema rows. sorted_permutes (sorting_cmp schema) (sorting_total schema) rows;
  rising = λ schema rows. sorted_rises (sorting_cmp schema) (sorting_total schema) rows;
}
