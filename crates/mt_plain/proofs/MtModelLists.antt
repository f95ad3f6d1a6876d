pub use Rattle.part_history.proofs.MtModelLists.{concat_more, fields_more, take_got}
