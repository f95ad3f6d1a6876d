use Rattle.std.proofs.Common.{◌≡◌, ◌↔◌, ◌++◌, ◌∷◌, ◌≤◌, [], ℕ, true, IfOk, List, Result, drop, get_or, length, subst, sym, take, ap, ◌∙◌}
use Rattle.std.specs.List.{Contains}
use Rattle.std.proofs.lemmas.List.{at_drop_all, take_all}
use Rattle.std.proofs.lemmas.List.Elements.{Contains-get_or}
use Rattle.mt_values.specs.declared.statement.Cause.{Cause}
use Rattle.mt_values.specs.declared.statement.Statement.{Statement}
use Rattle.part_history.specs.mt_model.History.{History}
use Rattle.mt_plain.specs.Outcomes.{AreExactly}
use Rattle.mt_plain.specs.Plain.{OneStandsFrom}
use Rattle.mt_plain.proofs.Merging.{not_both}
use Rattle.mt_plain.proofs.Allowing.{GoesOn, RanTo, all_goes, allowed_so, ended, exact_so, goes_further, none_ran, ran_on, script_ran}
use Rattle.mt_plain.proofs.checking.allows.Goals as goal

pub loop-statement-init : goal.loop-statement-init
loop-statement-init c =
    let none = c.new-history.ensures.items in
    let only : c.push.new.self.items ≡ 0 ∷ [] = c.in_ok-push.ensures.items ∙ ap (λ (zs : List ℕ). zs ++ 0 ∷ []) c.new-places.ensures.items in
    record {
      ran = none_ran c.new-history.result.items c.args.printed.now c.push.new.self.items none only;
      left = λ g few others run. all_goes g c.new-history.result.items c.args.statements.now c.args.printed.now c.push.new.self.items none only run;
    }

pub places_after-requires : goal.places_after-requires
places_after-requires c = λ k d below.
    let place = get_or c.deref.result.now k d in
    c.loop-statement.invariant.ran.within place (subst (λ (zs : List ℕ). Contains zs place) c.deref.ensures.value (Contains-get_or c.deref.result.now k d below))

pub loop-statement-preserved : goal.loop-statement-preserved
loop-statement-preserved c =
    let old = c.loop-statement.history.items in
    let new = c.replies_after.new.history.items in
    let ss = c.args.statements.now in
    let i = c.loop-statement.statement-index in
    let s = c.statement-item.result in
    let text = c.args.printed.now in
    let places = c.loop-statement.places.items in
    let found = c.in_ok-places.places.items in
    let replies = c.in_ok-replies.replies.items in
    let before = c.loop-statement.invariant in
    let all = c.in_ok-replies.ensures.all in
    let from = subst (λ (ps : List ℕ). AreExactly found (OneStandsFrom text ps c.deref-in-loop-statement.result.now)) c.deref.ensures.value c.in_ok-places.ensures in
    let are = subst (λ (rs : List (List ℕ)). AreExactly found (OneStandsFrom text places rs)) c.deref-in-loop-statement.ensures.value from in
    record {
      ran = ran_on old new ss i s s c.loop-statement-test.true c.statement-item.is text places found replies c.in_ok-replies.ensures.each c.in_ok-replies.ensures.grows are before.ran;
      left = λ g few others run.
          goes_further old new ss i s s c.loop-statement-test.true c.statement-item.is text places found replies c.in_ok-replies.ensures.each c.in_ok-replies.ensures.grows are before.ran all g few others run.sessions (before.left g few others run);
    }

-- at the end all statements ran
all_ran : (h : History) (ss : List (Result Statement Cause)) (i : ℕ) (text places : List ℕ) → length ss ≤ i → RanTo h (take i ss) text places → RanTo h ss text places
all_ran h ss i text places past ran = subst (λ (xs : List (Result Statement Cause)). RanTo h xs text places) (take_all i ss past) ran

none_goes : (g h : History) (ss : List (Result Statement Cause)) (i : ℕ) (text places : List ℕ) → length ss ≤ i → GoesOn g h (drop i ss) text places → GoesOn g h [] text places
none_goes g h ss i text places past goes = subst (λ (xs : List (Result Statement Cause)). GoesOn g h xs text places) (at_drop_all (λ (xs : List (Result Statement Cause)). xs) ss i past) goes

pub returns-then-has_place-clause-allowed : goal.returns-then-has_place-clause-allowed
returns-then-has_place-clause-allowed c =
    let h = c.loop-statement.history.items in
    let ss = c.args.statements.now in
    let text = c.args.printed.now in
    let places = c.loop-statement.places.items in
    let ran = all_ran h ss c.loop-statement.statement-index text places c.loop-statement-test.false c.loop-statement.invariant.ran in
    let here = subst (λ (zs : List ℕ). Contains zs (length text)) c.deref-2.ensures.value (c.has_place.ensures.0 c.if-has_place.true) in
    let same = subst (λ (x : History). IfOk c.same_histories.result (λ same. (same ≡ true) ↔ (x ≡ c.args.entries.now))) c.deref-then-has_place.ensures.value c.same_histories.ensures in
    allowed_so ss h c.args.entries.now text c.same_histories.result (script_ran h ss text places ran here) same

pub returns-then-has_place-clause-exact : goal.returns-then-has_place-clause-exact
returns-then-has_place-clause-exact c = λ few others run.
    let h = c.loop-statement.history.items in
    let g = c.args.entries.now in
    let ss = c.args.statements.now in
    let text = c.args.printed.now in
    let places = c.loop-statement.places.items in
    let goes = none_goes g h ss c.loop-statement.statement-index text places c.loop-statement-test.false (c.loop-statement.invariant.left g few others run) in
    let end = ended g h text places run.sessions c.loop-statement.invariant.ran.within goes in
    let same = subst (λ (x : History). IfOk c.same_histories.result (λ same. (same ≡ true) ↔ (x ≡ g))) c.deref-then-has_place.ensures.value c.same_histories.ensures in
    exact_so h g c.same_histories.result end.0 same

pub returns-clause-exact : goal.returns-clause-exact
returns-clause-exact c = λ few others run.
    let h = c.loop-statement.history.items in
    let g = c.args.entries.now in
    let ss = c.args.statements.now in
    let text = c.args.printed.now in
    let places = c.loop-statement.places.items in
    let goes = none_goes g h ss c.loop-statement.statement-index text places c.loop-statement-test.false (c.loop-statement.invariant.left g few others run) in
    let end = ended g h text places run.sessions c.loop-statement.invariant.ran.within goes in
    absurd (not_both (c.has_place.ensures.1 (subst (λ (zs : List ℕ). Contains zs (length text)) (sym c.deref-2.ensures.value) end.1)) c.if-has_place.false)
