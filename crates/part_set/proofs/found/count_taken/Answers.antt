use Rattle.std.proofs.Common.{◌≡◌, ◌<◌, ℕ, true, length, get_or, inl, inr, subst, sym, rules, arith, ◌∙◌}
use Rattle.std.proofs.lemmas.Bool.{cases_lt, false≢true}
use Rattle.std.proofs.lemmas.List.{length_push}
use Rattle.std.proofs.lemmas.Slice.Zip.{zip_turn}
use Rattle.part_set.specs.declared.kept.Kept.{Kept}
use Rattle.part_set.proofs.Founds.{begins_more, begins_there}
use Rattle.part_set.proofs.found.count_taken.Goals.{then-ne-via-then-ne, then-ne-via-else-ne+then-not-kept}
use Rattle.part_set.proofs.found.count_taken.Goals as goal

-- the next part has another name, or no mark
pub returns-then-ne-clause-most : goal.returns-then-ne-clause-most
returns-then-ne-clause-most g c = λ m begins.
    let parts = c.args.parts.now in
    let sources = c.args.sources.now in
    let n = c.loop-kept.count in
    let k : Kept g.row.P.Denot = c.in-Some.kept.now in
    let s : Kept g.row.P.Denot = c.in-Some.source.now in
    let t = zip_turn parts sources c.loop-kept.yielded c.into_iter-kept-iterator.result c.loop-kept.kept-iterator c.next.new.self c.next.result (search rules) (search rules) c.loop-kept.yielded_by (c.in-Some.kept, c.in-Some.source) c.in-Some.is c.next.ensures.steps in
    let gone : length c.loop-kept.yielded ≡ n = sym c.loop-kept.invariant.count in
    let not_taken : k.name ≡ s.name → k.busy ≡ true → ⊥ = λ same busy. elim c.then-ne.branch [
      | then-ne-via-then-ne w ↦ (let told = w.if-ne.ensures in search rules)
      | then-ne-via-else-ne+then-not-kept w ↦ false≢true (sym w.if-not-kept.true ∙ busy)
    ] in
    elim (cases_lt n m) [
      | inl more ↦ (
          let k_in : n < length parts = omega (arith, t.0, gone) in
          let s_in : n < length sources = omega (arith, t.1, gone) in
          let next = begins_there n sources parts k s k_in s_in (subst (λ (i : ℕ). k ≡ get_or parts i k) gone (t.2 k)) (subst (λ (i : ℕ). s ≡ get_or sources i s) gone (t.3 s)) m begins more in
          absurd (not_taken next.0 next.1)
          )
      | inr no_more ↦ omega (arith, no_more)
    ]

pub loop-kept-preserved : goal.loop-kept-preserved
loop-kept-preserved g c =
    let parts = c.args.parts.now in
    let sources = c.args.sources.now in
    let n = c.loop-kept.count in
    let k : Kept g.row.P.Denot = c.in-Some.kept.now in
    let s : Kept g.row.P.Denot = c.in-Some.source.now in
    let t = zip_turn parts sources c.loop-kept.yielded c.into_iter-kept-iterator.result c.loop-kept.kept-iterator c.next.new.self c.next.result (search rules) (search rules) c.loop-kept.yielded_by (c.in-Some.kept, c.in-Some.source) c.in-Some.is c.next.ensures.steps in
    let gone : length c.loop-kept.yielded ≡ n = sym c.loop-kept.invariant.count in
    let long = length_push c.loop-kept.yielded (c.in-Some.kept, c.in-Some.source) in
    let k_in : n < length parts = omega (arith, t.0, gone) in
    let s_in : n < length sources = omega (arith, t.1, gone) in
    let same : k.name ≡ s.name = search rules in
    let busy : k.busy ≡ true = c.if-not-kept.false in
    record {
      can_next = c.loop-kept.invariant.can_next;
      is_finite = c.loop-kept.invariant.is_finite;
      count = omega (arith, gone, long);
      within = omega (arith, s_in);
      begins = begins_more n sources parts k s k_in s_in (subst (λ (i : ℕ). k ≡ get_or parts i k) gone (t.2 k)) (subst (λ (i : ℕ). s ≡ get_or sources i s) gone (t.3 s)) c.loop-kept.invariant.begins same busy;
    }
