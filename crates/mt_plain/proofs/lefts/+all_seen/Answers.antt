use Rattle.std.proofs.Common.{◌≡◌, ◌∷◌, ◌++◌, [], ◌<◌, true, List, ap, ap₂, filter, flat_map, length, map, subst, sym, ◌∙◌, arith}
use Rattle.std.specs.List.{list_all}
use Rattle.mt_values.specs.Values.{Row}
use Rattle.mt_plain.specs.Lefts.{AreSeen, KeySees, is_like, unlike}
use Rattle.mt_plain.specs.Outcomes.{AreExactly}
use Rattle.mt_plain.proofs.LeftRows.{seen_more, seen_of_none, some_own, unlike_fewer, unlike_first}
use Rattle.mt_plain.proofs.Steps.{when_ok}
use Rattle.mt_plain.proofs.lefts.+all_seen.Goals as goal

pub returns-in_default : goal.returns-in_default
returns-in_default t c =
    when_ok c.only.result (λ lefts. lefts.items ≡ c.new.result ∷ []) _ (λ lefts is. seen_of_none c.args.schema.now c.args.is_final c.args.rows.now c.new.result lefts.items c.in_default.ensures.cases c.new.ensures is) c.only.ensures

pub seen_of_key-requires : goal.seen_of_key-requires
seen_of_key-requires t c =
    let own = c.in_ok-own.own.items in
    let rows_are = c.in-Some.ensures.cases.0 in
    subst (λ (rs : List Row). 0 < length rs) (sym c.deref.ensures.value)
    (some_own c.args.schema.now c.in-Some.first.now c.in-Some.others.now own (c.in_ok-own.ensures ∙ ap (filter (is_like c.args.schema.now c.in-Some.first.now)) rows_are))

pub returns : goal.returns
returns t c =
    let schema = c.args.schema.now in
    let is_final = c.args.is_final in
    let rows = c.args.rows.now in
    let first = c.in-Some.first.now in
    let others = c.in-Some.others.now in
    let own = c.in_ok-own.own.items in
    let rest = c.in_ok-rest.rest.items in
    let firsts = c.in_ok-firsts.firsts.items in
    let lefts = c.in_ok-lefts.lefts.items in
    let rows_are : rows ≡ first ∷ others = c.in-Some.ensures.cases.0 in
    let rest_is : rest ≡ unlike schema first rows = c.in_ok-rest.ensures ∙ (sym (unlike_first schema first others) ∙ ap (unlike schema first) (sym rows_are)) in
    let key = subst (λ (rs : List Row). AreExactly firsts (λ out. KeySees schema is_final rs out × (list_all (is_like schema first) out ≡ true))) c.deref.ensures.value c.in_ok-firsts.ensures in
    let left = subst (λ (rs : List Row). AreSeen schema is_final rs lefts) c.deref-2.ensures.value c.in_ok-lefts.ensures in
    let joined : List (List Row) → List (List Row) → List (List Row) = λ bs xs. flat_map (λ (a : List Row). map (λ (b : List Row). a ++ b) bs) xs in
    let same = ap₂ joined c.deref-4.ensures.value c.deref-3.ensures.value in
    when_ok c.each_joined.result (λ outs. outs.items ≡ joined c.deref-4.result.now c.deref-3.result.now) _
    (λ outs is. seen_more schema is_final first rows own rest firsts lefts c.in_ok-own.ensures rest_is key left outs.items (is ∙ same)) c.each_joined.ensures

pub all_seen-requires : goal.all_seen-requires
all_seen-requires t c = (fewer, tt)
  where
    fewer : length c.deref-2.result.now < t
    fewer =
        omega (
          arith,
          c.decreases,
          ap length c.deref-2.ensures.value,
          ap length c.in_ok-rest.ensures,
          unlike_fewer c.args.schema.now c.in-Some.first.now c.in-Some.others.now,
          ap (λ (rs : List Row). length rs) c.in-Some.ensures.cases.0,
        )
