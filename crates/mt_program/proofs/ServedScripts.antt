-- The statements of a script one after another, and what their replies tell.
use Rattle.std.proofs.Common.{◌≡◌, ℕ, ◌+◌, ◌-◌, ◌≤◌, Bool, true, false, ◌||◌, List, [], ◌∷◌, ◌++◌, length, take, drop, refl, sym, ap, ◌∙◌, subst, Option, Some, None, ◌<◌, append_assoc, append-nil, arith, All}
use Rattle.std.specs.List.{concat, list_any}
use Rattle.std.specs.Option.{option_map, IfSome}
use Rattle.std.proofs.lemmas.List.{drop-drop, length-drop, drop_all}
use Rattle.std.proofs.lemmas.List.Elements.{All-head}
use Rattle.mt_values.specs.Script.{statements_of, next_statement, statement_and}
use Rattle.session.specs.mt_model.History.{History}
use Rattle.session.specs.mt_model.Refusals.{is_damage, is_refusal}
use Rattle.session.specs.mt_model.Written.{IsWritten}
use Rattle.session.proofs.MtModelKeys.{statements_are}
use Rattle.session.specs.replies.declared.tally.Tally.{Tally}
use Rattle.mt_program.specs.Courses.{AreStopped, Item, TalliesReplies}
use Rattle.mt_program.specs.Serving.{Progress}
use Rattle.session.specs.mt_model.Outside.{Outside}
use Rattle.session.specs.replies.Tallies.{tallied}
use Rattle.session.proofs.RunStreamsKnown.{sliced}
use Rattle.mt_values.proofs.ScriptBounds.{statements_of_step}

-- what was read at a place of the script
abbrev pub Found : List ℕ → ℕ → Option (Item × ℕ) → Type 0
Found script at o =
    next_statement (take (length script - at) (drop at script)) ≡ option_map (λ (f : Item × ℕ). (f.0, drop f.1 (take (length script - at) (drop at script)))) o

-- what was used of the script at a place
abbrev pub Used : List ℕ → ℕ → Option (Item × ℕ) → Type 0
Used script at o = IfSome o (λ (f : Item × ℕ). (0 < f.1) × (f.1 ≤ length (take (length script - at) (drop at script))))

pub used_within : (script : List ℕ) (at used : ℕ) → at ≤ length script → used ≤ length (take (length script - at) (drop at script)) → at + used ≤ length script
used_within script at used le fits =
    let rest : length (take (length script - at) (drop at script)) ≡ length script - at = ap length (sliced script at) ∙ length-drop at script in
    omega arith

-- the statements that are left after a place, one further
pub one_statement : (script : List ℕ) (at used : ℕ) (st : Item) → next_statement (take (length script - at) (drop at script)) ≡ Some (st, drop used (take (length script - at) (drop at script)))
    → statements_of (drop at script) ≡ st ∷ statements_of (drop (at + used) script)
one_statement script at used st found =
    let rest = sliced script at in
    let here : next_statement (drop at script) ≡ Some (st, drop used (drop at script)) = subst (λ (t : List ℕ). next_statement t ≡ Some (st, drop used t)) rest found in
    statements_of_step (drop at script) ∙ (ap (statement_and statements_of) here ∙ ap (λ t. st ∷ statements_of t) (drop-drop used at script))

-- what the grammar gives it
pub is_written : (script : List ℕ) (st : Item) (more : List Item) → statements_of script ≡ st ∷ more → IsWritten st
is_written script st more is = All-head IsWritten st more (subst (λ (ss : List Item). All IsWritten ss) is (statements_are script))

-- none are left
pub no_statement : (script : List ℕ) (at : ℕ) → next_statement (take (length script - at) (drop at script)) ≡ None → statements_of (drop at script) ≡ []
no_statement script at none =
    statements_of_step (drop at script) ∙ ap (statement_and statements_of) (ap next_statement (sym (sliced script at)) ∙ none)

pub nothing_left : (script : List ℕ) (at : ℕ) → length script ≤ at → statements_of (drop at script) ≡ []
nothing_left script at le = ap statements_of (drop_all at script le)

concat-append : (xs ys : List (List ℕ)) → concat (xs ++ ys) ≡ concat xs ++ concat ys
concat-append [] ys = refl
concat-append (x ∷ xs) ys = ap (λ zs. x ++ zs) (concat-append xs ys) ∙ sym (append_assoc x (concat xs) (concat ys))

pub concat_push : (xs : List (List ℕ)) (y : List ℕ) → concat (xs ++ y ∷ []) ≡ concat xs ++ y
concat_push xs y = concat-append xs (y ∷ []) ∙ ap (λ zs. concat xs ++ zs) (append-nil y)

any_push : {X : Type 0} (p : X → Bool) (xs : List X) (y : X) → list_any p (xs ++ y ∷ []) ≡ (list_any p xs || p y)
any_push p [] y = or_none (p y)
  where
    or_none : (b : Bool) → (b || false) ≡ b
    or_none true = refl
    or_none false = refl
any_push p (x ∷ xs) y = ap (λ b. p x || b) (any_push p xs y) ∙ or_assoc (p x) (list_any p xs) (p y)
  where
    or_assoc : (a b c : Bool) → (a || (b || c)) ≡ ((a || b) || c)
    or_assoc true b c = refl
    or_assoc false b c = refl

-- ---- what was served

-- what is told of the replies, with one more
pub tells_more : (t : Tally) (replies : List (List ℕ)) (reply : List ℕ) → TalliesReplies t replies → TalliesReplies (tallied t reply) (replies ++ reply ∷ [])
tells_more t replies reply tells = record {
  refusals = ap (λ b. b || is_refusal reply) tells.refusals ∙ sym (any_push is_refusal replies reply);
  damages = ap (λ b. b || is_damage reply) tells.damages ∙ sym (any_push is_damage replies reply);
}

-- the place after a statement, and what the replies said with its own
abbrev pub further : Progress → ℕ → Tally → Progress
further p used told = record { script = p.script; at = p.at + used; tally = told }

-- no reply is among none
pub none_stopped : (n : Outside) (h : History) (base : ℕ) → AreStopped n h base [] []
none_stopped n h base [] more x is unsettled = cc
none_stopped n h base (y ∷ front) more x is unsettled = cc
