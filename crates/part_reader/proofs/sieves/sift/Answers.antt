use Rattle.std.proofs.Common.{◌≡◌, ◌∙◌, ◌+◌, ◌≤◌, ap, ap₂, arith, false, get_or, length, map, sym, true}
use Rattle.std.specs.List.{range_with_len}
use Rattle.std.proofs.lemmas.List.{length-map, length-replicate, take_all, with_items_is}
use Rattle.std.proofs.lemmas.List.Elements.{All-weaker}
use Rattle.std.proofs.lemmas.List.FromFn.{length-range_with_len}
use Rattle.mt_values.specs.Grid.{Cells, row_at, rows_of}
use Rattle.mt_values.specs.Tests.{eval}
use Rattle.part_damage.specs.predicate.Masks.{both}
use Rattle.part_reader.proofs.SiftedRows.{answers, answers_more, answers_none, answers_same, each_meets}
use Rattle.part_reader.proofs.sieves.sift.Goals as goal

pub loop-sieve-init : goal.loop-sieve-init
loop-sieve-init c =
    let whole = c.in_ok-mask.ensures.items_if_clones_equal (λ y e. e) in
    record {
      count = ap length whole ∙ length-replicate c.args.rows true;
      met = whole ∙ answers_none c.args.columns.now c.args.rows c.args.granule;
    }

-- one that is not asked in the granule
pub loop-sieve-preserved-then-not-is_asked : goal.loop-sieve-preserved-then-not-is_asked
loop-sieve-preserved-then-not-is_asked c =
    let sieve = c.sieve-item.result in
    let asked : get_or sieve.granules.now c.args.granule false ≡ false = sym c.is_asked.ensures ∙ c.if-not-is_asked.true in
    record {
      count = c.loop-sieve.invariant.count;
      met = c.loop-sieve.invariant.met
          ∙ answers_same c.args.columns.now c.args.rows c.args.granule c.args.sieves.now c.loop-sieve.sieve-index sieve c.loop-sieve-test.true c.sieve-item.is asked;
    }

pub mask_within-requires : goal.mask_within-requires
mask_within-requires c =
    All-weaker (λ (x : Cells). length x.values ≡ c.args.rows) (λ (x : Cells). 0 + c.args.rows ≤ length x.values) (λ x same. omega (arith, same)) c.args.columns.now c.requires

pub intersect-requires : goal.intersect-requires
intersect-requires c =
    let rows = range_with_len 0 c.args.rows in
    let columns = c.args.columns.now in
    let many : length c.deref.result.now ≡ c.args.rows =
    ap length (c.deref.ensures.value ∙ c.in_ok-answers.ensures) ∙ length-map (map (row_at columns) rows) (eval c.sieve-item.result.condition) ∙ length-map rows (row_at columns) ∙ length-range_with_len 0 c.args.rows in
    ap length c.deref_mut.ensures.value ∙ c.loop-sieve.invariant.count ∙ sym many

pub loop-sieve-preserved : goal.loop-sieve-preserved
loop-sieve-preserved c =
    let sieve = c.sieve-item.result in
    let size : length c.intersect.new.mask ≡ c.loop-sieve.mask.len = omega (arith, c.intersect.auto.mask, c.deref_mut.ensures.len) in
    let items = with_items_is c.loop-sieve.mask c.intersect.new.mask size in
    let asked : get_or sieve.granules.now c.args.granule false ≡ true = sym c.is_asked.ensures ∙ c.if-not-is_asked.false in
    record {
      count = ap length items ∙ size ∙ c.loop-sieve.mask.ok.0 ∙ c.loop-sieve.invariant.count;
      met = items ∙ c.intersect.ensures ∙ ap₂ both (c.deref_mut.ensures.value ∙ c.loop-sieve.invariant.met) (c.deref.ensures.value ∙ c.in_ok-answers.ensures)
          ∙ answers_more c.args.columns.now c.args.rows c.args.granule c.args.sieves.now c.loop-sieve.sieve-index sieve c.loop-sieve-test.true c.sieve-item.is asked;
    }

pub returns : goal.returns
returns c =
    c.loop-sieve.invariant.met ∙ ap (answers c.args.columns.now c.args.rows c.args.granule) (take_all c.loop-sieve.sieve-index c.args.sieves.now c.loop-sieve-test.false)
    ∙ (λ k. map (λ row. each_meets c.args.sieves.now c.args.granule row k) (rows_of c.args.columns.now c.args.rows))
