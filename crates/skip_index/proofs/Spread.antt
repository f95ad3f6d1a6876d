-- The answers of blocks, granule by granule.
use Rattle.std.proofs.Common.{◌≡◌, ℕ, ◌/◌, Bool, true, false, cond, List, [], map, Option, Some, None, refl, ap, ◌∙◌, slice_get, option_map, unwrap_or}
use Rattle.std.proofs.lemmas.Option.{slice_get-map}
use Rattle.std.specs.List.{range_with_len}
use Rattle.mt_values.specs.declared.expr.Test.{Test}
use Rattle.mt_values.specs.Conditions.{Condition}
use Rattle.predicate.specs.Boxes.{can, only_column}
use Rattle.predicate.specs.declared.extent.Known.{Known}
use Rattle.predicate.specs.declared.extent.Known.TheVariants as known
use Rattle.skip_index.specs.Choosing.{answers_of, block_box, chosen_by, is_unknown, known_by}
use Rattle.skip_index.specs.declared.index.Index.{Index}

-- the answer of a granule, by those of the blocks
abbrev pub answer_of : List Bool → Bool → ℕ → ℕ → Bool
answer_of answers untold span granule = unwrap_or (slice_get answers (granule / span)) untold

module _ (index : Index) (c : Condition Test) (unknown : List Bool) where
  abbrev pub yes_where : Known → Bool
  yes_where k = (can c (only_column index.column k)).yes

  -- a block's answer is that of its box
  block_answer : (block : ℕ) → unwrap_or (slice_get (answers_of index c unknown) block) (yes_where known.Unknown) ≡ yes_where (known_by (is_unknown unknown index.column) (slice_get index.blocks block))
  block_answer block = by (is_unknown unknown index.column)
    where
      kept : (o : Option Known) → unwrap_or (option_map yes_where o) (yes_where known.Unknown) ≡ yes_where (unwrap_or o known.Unknown)
      kept None = refl
      kept (Some k) = refl

      by : (b : Bool) → unwrap_or (slice_get (cond b [] (map yes_where index.blocks)) block) (yes_where known.Unknown) ≡ yes_where (known_by b (slice_get index.blocks block))
      by true = refl
      by false = ap (λ o. unwrap_or o (yes_where known.Unknown)) (slice_get-map yes_where index.blocks block) ∙ kept (slice_get index.blocks block)

  -- the answers of all granules are those that are chosen
  pub spread_is : (answers : List Bool) (untold : Bool) → answers ≡ answers_of index c unknown → untold ≡ yes_where known.Unknown → map (answer_of answers untold index.span) (range_with_len 0 index.granules) ≡ chosen_by index c unknown
  spread_is answers untold is told =
      ap (λ (bs : List Bool). map (answer_of bs untold index.span) (range_with_len 0 index.granules)) is
      ∙ ap (λ (b : Bool). map (answer_of (answers_of index c unknown) b index.span) (range_with_len 0 index.granules)) told
      ∙ ap (λ (f : ℕ → Bool). map f (range_with_len 0 index.granules)) alike
    where
      alike : answer_of (answers_of index c unknown) (yes_where known.Unknown) index.span ≡ (λ granule. (can c (block_box index unknown (granule / index.span))).yes)
      alike = λ i. λ granule. block_answer (granule / index.span) i
