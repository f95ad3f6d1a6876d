use Rattle.std.proofs.Common.{◌≡◌, ◌<◌, All, ap, arith, drop, false, length, length-drop, subst, sym, take}
use Rattle.std.specs.Ordering.{is_lt}
use Rattle.std.specs.declared.cmp.Ordering.TheVariants.{Less}
use Rattle.row_merge.specs.Heads.{ahead_of}
use Rattle.row_merge.specs.Merging.{AreRanked, ahead_at, lead_cmp}
use Rattle.row_merge.proofs.Cursors.{ahead_is}
use Rattle.row_merge.proofs.Ranking.{one_more_ranked}
use Rattle.row_merge.proofs.heads.rank.Goals as goal

pub returns : goal.returns
returns c =
    let places = c.args.places.now in
    let ahead = ahead_of c.args.cursors.now in
    let cursor = c.index-cursors-input.result in
    let n = c.place_of-place.result in
    let rows_are = ahead_is c.args.cursors.now c.args.input cursor c.requires.within c.index-cursors-input.is in
    let some : 0 < length (ahead_at ahead c.args.input) = omega (arith, c.if-cursor-len.false, c.len.ensures.count, ap length rows_are, length-drop cursor.at cursor.block.rows) in
    subst (AreRanked places ahead) (sym c.in_ok-insert.ensures.items)
    (one_more_ranked places ahead c.args.ranked.now.items c.args.input n some c.requires.others
    (subst (λ xs. All (λ x. lead_cmp places ahead c.args.input x ≡ Less) (take n xs)) c.deref.ensures.value c.place_of-place.ensures.earlier)
    (subst (λ xs. All (λ x. is_lt (lead_cmp places ahead c.args.input x) ≡ false) (drop n xs)) c.deref.ensures.value c.place_of-place.ensures.later))
