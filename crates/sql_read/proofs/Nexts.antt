-- What a script begins with, after the bytes that are skipped.
use Rattle.std.proofs.Common.{◌≡◌, ◌↔◌, ℕ, ◌+◌, ◌<◌, ◌≤◌, Bool, true, false, ◌||◌, eqb, List, [], ◌∷◌, length, drop, Some, None, Result, Ok, Err, refl, arith, ◌∙◌, sym, ap, subst, length-drop}
use Rattle.std.proofs.lemmas.Bool.Decides.{nat_tests}
use Rattle.std.proofs.lemmas.Bool.{false≢true}
use Rattle.mt_base.specs.declared.stop.Stop.{Stop}
use Rattle.mt_base.specs.declared.stop.Stop.TheVariants as stop
use Rattle.mt_base.specs.Stops.{Gives}
use Rattle.mt_values.specs.declared.script.Place.TheVariants.{Outside}
use Rattle.mt_values.specs.declared.statement.Cause.{Cause}
use Rattle.mt_values.specs.declared.statement.Statement.{Statement}
use Rattle.mt_values.specs.Script.{Item, complete_or_cut, ended_from, has_whole, is_whole, next_from, next_statement, is_between}
use Rattle.mt_values.specs.Tokens.{behind}
use Rattle.sql_read.specs.declared.script.Next.TheVariants as next
use Rattle.sql_read.proofs.TokenSteps.{some_bytes}
use Rattle.sql_read.specs.Scripts.{IsNext, IsUsed, next_of}

nothing_begins : (text : List ℕ) → eqb (length text) 0 ≡ true → (next_from text ≡ None) × (is_whole (ended_from Outside text) ≡ false)
nothing_begins [] e = (refl, refl)
nothing_begins (b ∷ bs) e = absurd (grind (arith, nat_tests))

something_begins : (text : List ℕ) → eqb (length text) 0 ≡ false → next_from text ≡ Some (complete_or_cut text (ended_from Outside text))
something_begins [] e = cc
something_begins (b ∷ bs) e = refl

module _ (script : List ℕ) (skipped : ℕ) (behind_is : drop skipped script ≡ behind is_between false script) where
  -- all of it is skipped
  pub no_next : eqb (length (drop skipped script)) 0 ≡ true → (next_statement script ≡ None) × (has_whole script ≡ false)
  no_next e = subst (λ (t : List ℕ). (next_from t ≡ None) × (is_whole (ended_from Outside t) ≡ false)) behind_is (nothing_begins (drop skipped script) e)

  -- something is left
  pub some_next : eqb (length (drop skipped script)) 0 ≡ false → next_statement script ≡ Some (complete_or_cut (drop skipped script) (ended_from Outside (drop skipped script)))
  some_next e = ap next_from (sym behind_is) ∙ something_begins (drop skipped script) e

  pub whole_is : (whole : Bool) → whole ≡ is_whole (ended_from Outside (drop skipped script)) → has_whole script ≡ whole
  whole_is whole e = ap (λ (t : List ℕ). is_whole (ended_from Outside t)) (sym behind_is) ∙ sym e

-- it takes some bytes, and no more than there are
pub some_used : (script : List ℕ) (skipped used : ℕ) → skipped ≤ length script → eqb (length (drop skipped script)) 0 ≡ false → (0 < length (drop skipped script) → 0 < used) × (used ≤ length (drop skipped script)) → IsUsed script (skipped + used)
some_used script skipped used within some taken =
    let least : 0 < used = taken.0 (some_bytes (drop skipped script) some) in
    (omega arith, omega (arith, length-drop skipped script, taken.1))

-- more must come, where what is here ends nothing
pub is_cut : (script : List ℕ) (ended whole : Bool) → has_whole script ≡ whole → ended || whole ≡ false → (ended ≡ false) × (has_whole script ≡ false)
is_cut script true whole is e = absurd (false≢true (sym e))
is_cut script false whole is e = (refl, is ∙ e)

module _ (script : List ℕ) (ended : Bool) (said : Item) (used : ℕ) (known : ended || has_whole script ≡ true) where
  -- what was found is what the script begins with
  pub next_found : (found : Result Statement (Stop Cause)) → Gives said found → next_statement script ≡ Some (said, drop used script) → IsUsed script used → IsNext script ended (next_of found used)
  next_found (Ok s) is begins within = (begins ∙ ap (λ (r : Item). Some (r, drop used script)) is, within, known)
  next_found (Err (stop.Refused c)) is begins within = (begins ∙ ap (λ (r : Item). Some (r, drop used script)) is, within, known)
  next_found (Err stop.NoMemory) is begins within = tt

  is_known : ended ≡ false → has_whole script ≡ false → ⊥
  is_known p q = false≢true (sym (rw (p, q) refl) ∙ known)

  -- and it doesn't wait for more
  pub found_waits : (found : Result Statement (Stop Cause)) → (next_of found used ≡ next.NeedMore) ↔ ((ended ≡ false) × (has_whole script ≡ false))
  found_waits (Ok s) = (λ e. cc, λ p. absurd (is_known p.0 p.1))
  found_waits (Err (stop.Refused c)) = (λ e. cc, λ p. absurd (is_known p.0 p.1))
  found_waits (Err stop.NoMemory) = (λ e. cc, λ p. absurd (is_known p.0 p.1))
