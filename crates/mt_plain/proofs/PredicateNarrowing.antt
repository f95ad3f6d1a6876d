pub use Rattle.part_history.proofs.PredicateNarrowing.{both_next, both_past, fold_further}
