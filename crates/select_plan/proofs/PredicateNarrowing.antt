pub use Rattle.mt_model.proofs.PredicateNarrowing.{both_next, both_past, fold_further, narrowed_more}
