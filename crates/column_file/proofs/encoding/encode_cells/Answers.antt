use Rattle.std.proofs.Common.{◌≡◌, [], ◌∷◌, ◌++◌, All, filter_map, slice_get, min, length, ap, ◌∙◌}
use Rattle.std.proofs.lemmas.Result.{err_from_is_err_and}
use Rattle.std.specs.Slice.Iter.{chunks_rest, chunks_size}
use Rattle.mt_values.specs.ColumnBytes.{column_bytes}
use Rattle.mt_values.specs.Values.{FitsType}
use Rattle.column_file.specs.Granules.{marks_of}
use Rattle.column_file.proofs.Writing.{written_none, granule_more, granule_within, written_all}
use Rattle.column_file.proofs.encoding.encode_cells.Goals as goal

pub loop-granule-init : goal.loop-granule-init
loop-granule-init c =
    let e = c.into_iter-granule-iterator.ensures.into_iter_gives in
    let none = written_none c.args.cells.now.values c.args.order.now c.args.granularity c.requires.granularity in
    record {
      size = ap chunks_size e ∙ c.chunks-granule-items.ensures.size;
      written = rw (c.in_ok-bytes.ensures, c.new-marks.ensures, e, c.chunks-granule-items.ensures.rest) none;
    }

pub push_cells-requires : goal.push_cells-requires
push_cells-requires c =
    granule_within c.args.cells.now.values c.args.order.now c.args.granularity _ _ _ c.in-Some.granule.now _ c.loop-granule.invariant.written c.in-Some.ensures.steps.1.0 c.requires.places

pub loop-granule-preserved : goal.loop-granule-preserved
loop-granule-preserved c =
    let steps = c.in-Some.ensures.steps in
    record {
      size = steps.0 ∙ c.loop-granule.invariant.size;
      written = granule_more c.args.cells.now.values c.args.order.now c.args.granularity _ _ _ c.in-Some.granule.now _ _ _ c.loop-granule.invariant.written steps.1.0
          (steps.1.1 ∙ ap (λ n. min n (length (chunks_rest c.loop-granule.granule-iterator))) c.loop-granule.invariant.size) steps.1.2
          c.in_ok-push_cells.ensures.bytes c.in_ok-push_cells.ensures.encodable (c.in_ok-push.ensures.ok ∙ ap (λ n. c.loop-granule.marks ++ n ∷ []) c.len-begun.ensures);
    }

-- out of memory
pub returns-in_err-bytes : goal.returns-in_err-bytes
returns-in_err-bytes c = let p = err_from_is_err_and c.from_residual.result c.from_residual.ensures.1 in rw p.1 (record { bytes = tt; marks = tt; encodable = tt })

pub returns-in_err-push_cells : goal.returns-in_err-push_cells
returns-in_err-push_cells c = let p = err_from_is_err_and c.from_residual-in_err-push_cells.result c.from_residual-in_err-push_cells.ensures.1 in rw p.1 (record { bytes = tt; marks = tt; encodable = tt })

pub returns-in_err-push : goal.returns-in_err-push
returns-in_err-push c = let p = err_from_is_err_and c.from_residual-in_err-push.result c.from_residual-in_err-push.ensures.1 in rw p.1 (record { bytes = tt; marks = tt; encodable = tt })

pub returns-in_err-push-2 : goal.returns-in_err-push-2
returns-in_err-push-2 c = let p = err_from_is_err_and c.from_residual-in_err-push-2.result c.from_residual-in_err-push-2.ensures.1 in rw p.1 (record { bytes = tt; marks = tt; encodable = tt })

-- all granules are written at the end
all : (c : goal.In_ok-push-2) → (c.loop-granule.bytes ≡ column_bytes (filter_map (slice_get c.args.cells.now.values) c.args.order.now)) × (c.push-2.new.self ≡ marks_of c.args.granularity (filter_map (slice_get c.args.cells.now.values) c.args.order.now)) × All FitsType (filter_map (slice_get c.args.cells.now.values) c.args.order.now)
all c = written_all c.args.cells.now.values c.args.order.now c.args.granularity _ _ _ c.push-2.new.self c.loop-granule.invariant.written c.in-None.ensures.steps.1.0 c.requires.places c.requires.granularity (c.in_ok-push-2.ensures.ok ∙ ap (λ n. c.loop-granule.marks ++ n ∷ []) c.len.ensures)

pub returns : goal.returns
returns c = record { bytes = (all c).0; marks = (all c).1; encodable = (all c).2 }
