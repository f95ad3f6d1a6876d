pub mod KeptRow
pub use Rattle.rule_law.proofs.Aggregated as RuleLawAggregated
pub use Rattle.rule_law.proofs.AllRows as RuleLawAllRows
pub use Rattle.rule_law.proofs.Alternating as RuleLawAlternating
pub use Rattle.rule_law.proofs.ApartColumns as RuleLawApartColumns
pub use Rattle.rule_law.proofs.Kept as RuleLawKept
pub use Rattle.rule_law.proofs.Newest as RuleLawNewest
pub use Rattle.rule_law.proofs.OneRow as RuleLawOneRow
pub use Rattle.rule_law.proofs.OneSign as RuleLawOneSign
pub use Rattle.rule_law.proofs.OneSum as RuleLawOneSum
pub use Rattle.rule_law.proofs.PartlyRows as RuleLawPartlyRows
pub use Rattle.rule_law.proofs.Ranges as RuleLawRanges
pub use Rattle.rule_law.proofs.Summed as RuleLawSummed
pub use Rattle.rule_law.proofs.TableRows as RuleLawTableRows
