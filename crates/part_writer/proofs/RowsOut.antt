-- The rows of a part that is being written, call by call.
use Rattle.std.proofs.Common.{◌≡◌, ℕ, zero, suc, ◌+◌, ◌-◌, ◌<◌, ◌≤◌, List, [], ◌∷◌, ◌++◌, refl, sym, ap, ap₂, ◌∙◌, subst, length, length-append, length-drop, take, drop, slice_get, All, arith, append_assoc, append-nil}
use Rattle.std.specs.List.{range_with_len}
use Rattle.std.proofs.lemmas.List.{length-take}
use Rattle.std.proofs.lemmas.List.Elements.{All-drop, All-take, filter_map-append}
use Rattle.mt_values.specs.declared.schema.Schema.{Schema}
use Rattle.mt_values.specs.Granules.{granule_starts, with_final}
use Rattle.mt_values.specs.Grid.{Grid, picked}
use Rattle.mt_values.specs.Schemas.{column_types}
use Rattle.mt_values.specs.Values.{Row}
use Rattle.mt_values.proofs.Grids.{items_at_all, length_picked_within}
use Rattle.skip_index.specs.Blocks.{AreWhole}
use Rattle.skip_index.proofs.Grown.{times_more}
use Rattle.stage_dir.specs.Stages.{Filling}
use Rattle.part_writer.specs.declared.grown.Grown.{Grown}
use Rattle.part_writer.specs.Growing.{Growing, HasEnded, HasFiles, HasRows, HasWritten, KeepsRows, TakesRows, grown_bytes}
use Rattle.part_writer.proofs.Granules.{first_more, last_of}

-- ---- room for more

pub room_new : (out : Growing) (rows : List Row) (room : ℕ) (block : Grid) → HasEnded out rows room block → room ≡ out.grown.schema.granularity → TakesRows out rows room
room_new out rows room block ended full = record {
  written = rows;
  pending = [];
  rows_are = sym (append-nil rows);
  whole = record {
    count = ended.whole.count + 1;
    length_is = ap length ended.rows_are ∙ length-append ended.before block.rows ∙ ap₂ (λ m n. m + n) ended.whole.length_is (ended.count_is ∙ full) ∙ sym (times_more out.grown.schema.granularity ended.whole.count);
  };
  few = omega (arith, full);
  files = ended.has.files;
  keeps = ended.has.keeps;
}

-- rows come that there is room for
pub rows_added : (out new : Growing) (rows more : List Row) (room : ℕ) → TakesRows out rows room → new.grown.schema ≡ out.grown.schema → new.stage ≡ out.stage
    → ((written keyed pending : List Row) → KeepsRows out.grown written keyed pending → KeepsRows new.grown written keyed (pending ++ more)) → 0 < length more → length more ≤ room → HasRows new (rows ++ more)
rows_added out new rows more room takes same stage kept some fits =
    let schema = out.grown.schema in
    let all = length-append takes.pending more in
    record {
      written = takes.written;
      pending = takes.pending ++ more;
      rows_are = ap (λ (l : List Row). l ++ more) takes.rows_are ∙ append_assoc takes.written takes.pending more;
      whole = subst (λ (s : Schema). AreWhole s.granularity takes.written) (sym same) takes.whole;
      few = omega (arith, all, takes.few, fits, ap (λ (s : Schema). s.granularity) same);
      last = λ none. absurd (omega (arith, all, some, ap length none));
      files = subst (λ (f : Filling). HasFiles new.grown.schema (grown_bytes takes.written) f) (sym stage) (subst (λ (s : Schema). HasFiles s (grown_bytes takes.written) out.stage) (sym same) takes.files);
      keeps = subst (λ (s : Schema). KeepsRows new.grown takes.written (granule_starts s.granularity takes.written) (takes.pending ++ more)) (sym same)
          (kept takes.written (granule_starts schema.granularity takes.written) takes.pending takes.keeps);
    }

-- ---- the pending rows are written

pub pending_written : (out new : Growing) (rows : List Row) (block : Grid) (order : List ℕ) (has : HasRows out rows) → block ≡ record { types = column_types out.grown.schema; rows = has.pending } → order ≡ range_with_len 0 (length block.rows)
    → new.grown.schema ≡ out.grown.schema → 0 < out.grown.count
    → HasWritten new.stage new.grown (has.written ++ picked block.rows order) (granule_starts out.grown.schema.granularity has.written ++ take 1 (picked block.rows order)) → HasEnded new rows out.grown.count block
pending_written out new rows block order has block_is order_is same some wrote =
    let own = ap (λ (b : Grid). b.rows) block_is in
    let more : picked block.rows order ≡ has.pending = ap (picked block.rows) order_is ∙ items_at_all block.rows ∙ own in
    let one : 0 < length has.pending = omega (arith, has.keeps.count, some) in
    let g = out.grown.schema.granularity in
    let keyed : granule_starts g has.written ++ take 1 (picked block.rows order) ≡ granule_starts new.grown.schema.granularity rows =
    ap (λ (l : List Row). granule_starts g has.written ++ take 1 l) more
    ∙ sym (first_more g has.written has.pending has.whole one has.few)
    ∙ ap₂ (λ (s : Schema) (l : List Row). granule_starts s.granularity l) (sym same) (sym has.rows_are) in
    let all : has.written ++ picked block.rows order ≡ rows = ap (λ (l : List Row). has.written ++ l) more ∙ sym has.rows_are in
    record {
      before = has.written;
      rows_are = has.rows_are ∙ ap (λ (l : List Row). has.written ++ l) (sym own);
      whole = subst (λ (s : Schema). AreWhole s.granularity has.written) (sym same) has.whole;
      types = ap (λ (b : Grid). b.types) block_is ∙ ap column_types (sym same);
      count_is = ap length own ∙ sym has.keeps.count;
      has = subst (λ (l : List Row). HasWritten new.stage new.grown rows l) keyed
          (subst (λ (l : List Row). HasWritten new.stage new.grown l (granule_starts g has.written ++ take 1 (picked block.rows order))) all wrote);
    }

-- ---- all rows are written

last_picked : (xs : List Row) (n : ℕ) → length xs ≡ n + 1 → picked xs (n ∷ []) ≡ drop n xs
last_picked [] n long = absurd (omega (arith, long))
last_picked (x ∷ []) zero long = refl
last_picked (x ∷ y ∷ xs) zero long = absurd (omega (arith, long))
last_picked (x ∷ xs) (suc n) long = last_picked xs n (omega (arith, long))

-- the key of the last row is kept
pub last_kept : (out : Growing) (new : Grown) (rows : List Row) (count last : ℕ) (block : Grid) → HasEnded out rows count block → new.schema ≡ out.grown.schema → 0 < count → last ≡ length block.rows - 1
    → ((written keyed pending : List Row) → KeepsRows out.grown written keyed pending → KeepsRows new written (keyed ++ picked block.rows (last ∷ [])) pending) → HasWritten out.stage new rows (with_final new.schema.granularity rows)
last_kept out new rows count last block ended same some last_is kept =
    let one : 0 < length block.rows = omega (arith, ended.count_is, some) in
    let g = out.grown.schema.granularity in
    let end : picked block.rows (last ∷ []) ≡ drop (length rows - 1) rows =
    last_picked block.rows last (omega (arith, last_is, one))
    ∙ ap (λ n. drop n block.rows) last_is
    ∙ sym (last_of ended.before block.rows one)
    ∙ ap (λ (l : List Row). drop (length l - 1) l) (sym ended.rows_are) in
    let keys : granule_starts g rows ++ picked block.rows (last ∷ []) ≡ with_final new.schema.granularity rows =
    ap (λ (l : List Row). granule_starts g rows ++ l) end ∙ ap (λ (s : Schema). with_final s.granularity rows) (sym same) in
    record {
      files = subst (λ (s : Schema). HasFiles s (grown_bytes rows) out.stage) (sym same) ended.has.files;
      keeps = subst (λ (l : List Row). KeepsRows new rows l []) keys (kept rows (granule_starts g rows) [] ended.has.keeps);
    }

-- ---- rows of a block, some after others

take_none : (n : ℕ) → take {A = ℕ} n [] ≡ []
take_none zero = refl
take_none (suc n) = refl

take_parts : (xs : List ℕ) (a b : ℕ) → a ≤ b → take b xs ≡ take a xs ++ take (b - a) (drop a xs)
take_parts xs zero b fits = let same : b ≡ b - 0 = omega arith in ap (λ k. take k xs) same
take_parts [] (suc a) b fits = take_none b ∙ sym (take_none (b - suc a))
take_parts (x ∷ xs) (suc a) zero fits = absurd (omega (arith, fits))
take_parts (x ∷ xs) (suc a) (suc b) fits =
    let same : b - a ≡ suc b - suc a = omega arith in
    ap (λ (l : List ℕ). x ∷ l) (take_parts xs a b (omega (arith, fits)) ∙ ap (λ k. take a xs ++ take k (drop a xs)) same)

pub picked_parts : (rows : List Row) (order : List ℕ) (a b : ℕ) → a ≤ b → picked rows (take b order) ≡ picked rows (take a order) ++ picked rows (take (b - a) (drop a order))
picked_parts rows order a b fits = ap (picked rows) (take_parts order a b fits) ∙ filter_map-append (slice_get rows) (take a order) (take (b - a) (drop a order))

pub slice_long : (rows : List Row) (order : List ℕ) (a b : ℕ) → All (λ p. p < length rows) order → a ≤ b → b ≤ length order → length (picked rows (take (b - a) (drop a order))) ≡ b - a
slice_long rows order a b within up inside =
    let IsPlace : ℕ → Type 0 = λ p. p < length rows in
    length_picked_within rows (take (b - a) (drop a order)) (All-take IsPlace (b - a) (drop a order) (All-drop IsPlace a order within))
    ∙ omega (arith, length-take (b - a) (drop a order), length-drop a order, up, inside)
