use Rattle.std.proofs.Common.{◌≡◌, ◌∙◌, ◌<◌, All, List, Some, ap, flat_map, length, map, slice_get, subst, sym}
use Rattle.std.specs.List.{AllZip, Contains as HasItem}
use Rattle.std.proofs.lemmas.List.{length-map}
use Rattle.std.proofs.lemmas.List.Elements.{All-contains_itself}
use Rattle.final_fold.specs.declared.asking.Conjunct.{Conjunct}
use Rattle.final_fold.specs.Asked.{IsSieveOf, asked_somewhere, tested}
use Rattle.final_fold.proofs.Making.{flat_mapped}
use Rattle.final_fold.proofs.Picking.{read_within}
use Rattle.final_fold.proofs.Sure.{Pair, named_among, pair_of, zip_mapped}
use Rattle.final_fold.proofs.asking.make_plan.Goals as goal
use Rattle.final_fold.proofs.asking.make_plan.Goals.{After-as_slice, After-as_slice-2}

-- the columns that were picked of are those of the conjuncts that are asked somewhere
named_is : (c : After-as_slice) → c.as_slice.result.now ≡ flat_map (λ (p : Pair). tested p.0) (asked_somewhere c.args.wanted.now.conjuncts.now c.args.asked.now)
named_is c =
    c.as_slice.ensures.value ∙ c.in_ok-named.ensures
    ∙ ap (flat_map (λ (x : Conjunct). tested x.condition.now)) c.deref.ensures.value
    ∙ flat_mapped (λ (p : Pair). tested p.0) pair_of c.in_ok-conjuncts.conjuncts.items
    ∙ ap (flat_map (λ (p : Pair). tested p.0)) c.in_ok-conjuncts.ensures

shown_is : (c : After-as_slice-2) → map (slice_get c.in_ok-picked.picked.read.items) c.as_slice-2.result.now ≡ map Some (flat_map (λ (x : Conjunct). tested x.condition.now) c.deref-2.result.now)
shown_is c =
    ap (map (slice_get c.in_ok-picked.picked.read.items)) c.as_slice-2.ensures.value ∙ c.in_ok-picked.ensures.shown
    ∙ ap (map Some) (c.as_slice.ensures.value ∙ c.in_ok-named.ensures ∙ ap (flat_map (λ (x : Conjunct). tested x.condition.now)) (c.deref.ensures.value ∙ sym c.deref-2.ensures.value))

pub pick_columns-requires : goal.pick_columns-requires
pick_columns-requires c =
    let w = c.args.wanted.now in
    subst (λ n. All (λ p. p < n) c.as_slice.result.now) (sym c.len.ensures)
    (subst (λ ps. All (λ p. p < length w.schema.now.columns) ps) (sym (named_is c))
    (named_among (λ p. p < length w.schema.now.columns) w.condition.now w.conjuncts.now c.args.asked.now c.requires.conjuncts c.requires.tests))

pub make_sieves-requires : goal.make_sieves-requires
make_sieves-requires c =
    let cols = flat_map (λ (x : Conjunct). tested x.condition.now) c.deref-2.result.now in
    sym (length-map c.as_slice-2.result.now (slice_get c.in_ok-picked.picked.read.items))
    ∙ ap length (shown_is c) ∙ length-map cols Some

pub returns : goal.returns
returns c =
    let w = c.args.wanted.now in
    let read = c.in_ok-picked.picked.read.items in
    let named = named_is (goal.at.returns c).After-as_slice in
    let among : All (HasItem (tested w.condition.now)) c.as_slice.result.now =
    subst (All (HasItem (tested w.condition.now))) (sym named)
    (named_among (HasItem (tested w.condition.now)) w.condition.now w.conjuncts.now c.args.asked.now c.requires.conjuncts (All-contains_itself (tested w.condition.now))) in
    let chosen : All (HasItem (tested w.condition.now)) read = read_within (HasItem (tested w.condition.now)) c.as_slice.result.now read c.in_ok-picked.ensures.selected among in
    let made = c.in_ok-sieves.ensures read c.in_ok-picked.ensures.once (shown_is (goal.at.returns c).After-as_slice-2) in
    record {
      within = read_within (λ p. p < length w.schema.now.columns) (tested w.condition.now) read chosen c.requires.tests;
      asked = chosen;
      sieves =
          subst (λ (ps : List Pair). AllZip (IsSieveOf read) ps c.in_ok-sieves.sieves.items) c.in_ok-conjuncts.ensures
          (zip_mapped pair_of (IsSieveOf read) c.in_ok-conjuncts.conjuncts.items c.in_ok-sieves.sieves.items
          (subst (λ (xs : List Conjunct). AllZip (λ (x : Conjunct). IsSieveOf read (pair_of x)) xs c.in_ok-sieves.sieves.items) c.deref-2.ensures.value made));
    }
