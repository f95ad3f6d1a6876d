-- The replies that a SELECT may have at the end of a history.
use Rattle.std.proofs.Common.{◌≡◌, ◌⊎◌, ℕ, List, [], ◌∷◌, Some, None, Ok, Err, filter, length, map, refl, sym, ap, ap₂, ◌∙◌, subst, inl, inr, arith}
use Rattle.std.specs.List.{Contains}
use Rattle.std.specs.List.Sorted.{IsPermutation}
use Rattle.std.proofs.lemmas.List.Sorted.{IsPermutation-map}
use Rattle.mt_values.specs.declared.schema.Schema.{Schema}
use Rattle.mt_values.specs.declared.statement.SelectText.{SelectText}
use Rattle.mt_values.specs.declared.statement.Statement.TheVariants as statement
use Rattle.mt_values.specs.Order.{key_of, row_cmp}
use Rattle.mt_values.specs.Tests.{eval}
use Rattle.mt_values.specs.Values.{Row}
use Rattle.part_history.specs.mt_model.Answer.{Answer, Prints}
use Rattle.part_history.specs.mt_model.declared.query.Query.{Query}
use Rattle.part_history.specs.mt_model.declared.refusal.Refusal.{Refusal}
use Rattle.part_history.specs.mt_model.declared.refusal.Refusal.TheVariants as refusal
use Rattle.part_history.specs.mt_model.History.{History, schema_of}
use Rattle.part_history.specs.mt_model.Live.{live, sorted}
use Rattle.part_history.specs.mt_model.Queries.{query_for, query_of, query_of_select}
use Rattle.part_history.specs.mt_model.Refusals.{refusal_line}
use Rattle.part_history.specs.mt_model.Reply.{rows_reply}
use Rattle.part_history.specs.mt_model.Session.{Selects, TakesStatement}
use Rattle.part_history.proofs.MtModelDetermined.{filter_moved, prints_once, row_total}
use Rattle.part_history.proofs.MtModelOneWay.{IsCalm, never_failed}
use Rattle.part_history.proofs.MtModelSorting.{sorted_permutes, sorted_rises}
use Rattle.mt_plain.specs.Lefts.{AreSeen, lines_of, reply_of}
use Rattle.mt_plain.specs.Outcomes.{AreExactly}
use Rattle.mt_plain.specs.Plain.{calm}
use Rattle.mt_plain.proofs.Exactly.{contains_map, exactly_itself, map_contains}
use Rattle.mt_plain.proofs.Steps.{answer_takes, unselected_takes}
use Rattle.mt_plain.proofs.Turning.{whole}

-- an outside without a fault and without a part of the greatest level is calm
pub calm_is : IsCalm calm
calm_is = record { still = refl; below = omega arith; room = refl; alone = refl }

-- ---- answers

-- what a query shows of rows
abbrev shown : Query → List Row → List Row
shown query rows = map (key_of query.places) (filter (eval query.condition) rows)

prints_of : (query : Query) (rows : List Row) → Prints (shown query rows) (lines_of query rows)
prints_of query rows = record {
  order = sorted row_cmp (shown query rows);
  same = sorted_permutes row_cmp row_total (shown query rows);
  rising = sorted_rises row_cmp row_total (shown query rows);
  lines_are = refl;
}

-- the lines do not depend on the order of the rows
lines_moved : (query : Query) (x y : List Row) (lines : List (List ℕ)) → IsPermutation x y → Prints (shown query x) lines → lines ≡ lines_of query y
lines_moved query x y lines moved prints =
    prints_once (shown query x) (shown query y) lines (lines_of query y)
    (IsPermutation-map (key_of query.places) (filter (eval query.condition) x) (filter (eval query.condition) y) (filter_moved (eval query.condition) x y moved)) prints (prints_of query y)

-- the reply has the lines of an answer
abbrev pub RepliesAnswer : History → Schema → SelectText → List ℕ → Type 0
RepliesAnswer h schema t reply = (lines : List (List ℕ)) × Answer h schema t lines × (reply ≡ rows_reply lines (length h))

pub answers_exactly : (h : History) (schema : Schema) (t : SelectText) (query : Query) (place : ℕ) (rows : List Row) (lefts : List (List Row)) (replies : List (List ℕ)) → query_of schema.columns t ≡ Ok query → place ≡ length h → rows ≡ live t.table schema h
    → AreSeen schema t.is_final rows lefts → replies ≡ map (reply_of query place) lefts → AreExactly replies (RepliesAnswer h schema t)
answers_exactly h schema t query place rows lefts replies asked place_is rows_are are is reply = (λ h. into (subst (λ (zs : List (List ℕ)). Contains zs reply) is h), λ a. subst (λ (zs : List (List ℕ)). Contains zs reply) (sym is) (back a))
  where
    here : AreSeen schema t.is_final (live t.table schema h) lefts
    here = subst (λ (rs : List Row). AreSeen schema t.is_final rs lefts) rows_are are

    into : Contains (map (reply_of query place) lefts) reply → RepliesAnswer h schema t reply
    into own =
        let m = map_contains (reply_of query place) lefts reply own in
        (lines_of query m.0, record { query = query; asked = asked; rows = m.0; seen = here.each m.0 m.1; prints = prints_of query m.0 }, m.2 ∙ ap (rows_reply (lines_of query m.0)) place_is)

    back : RepliesAnswer h schema t reply → Contains (map (reply_of query place) lefts) reply
    back a =
        let answer = a.1 in
        let both : Ok answer.query ≡ Ok query = sym answer.asked ∙ asked in
        let same : answer.query ≡ query = cc in
        let found = here.all answer.rows answer.seen in
        let prints : Prints (shown query answer.rows) a.0 = subst (λ (q : Query). Prints (shown q answer.rows) a.0) same answer.prints in
        let lines : a.0 ≡ lines_of query found.0 = lines_moved query answer.rows found.0 a.0 found.2 prints in
        subst (Contains (map (reply_of query place) lefts)) (sym (a.2 ∙ ap₂ rows_reply lines (sym place_is))) (contains_map (reply_of query place) lefts found.0 found.1)

-- ---- all replies

abbrev Replied : History → SelectText → List ℕ → Type 0
Replied h t reply = TakesStatement calm h 0 (statement.Select t) (length h) (length h) reply

-- answered, or refused for what it says
replied_cases : (h : History) (t : SelectText) (reply : List ℕ) → Replied h t reply → Selects h t (length h) reply ⊎ ((why : Refusal) × (query_of_select t h ≡ Err why) × (reply ≡ refusal_line why))
replied_cases h t reply (inl (r, a)) = inl r
replied_cases h t reply (inr (inl (why, is, r))) = inr (why, subst (λ (x : History). query_of_select t x ≡ Err why) (whole h) is, r.line)
replied_cases h t reply (inr (inr (query, is, a, failed))) = absurd (never_failed calm reply calm_is failed)

table_there : (h : History) (t : SelectText) (reply : List ℕ) (r : Selects h t (length h) reply) → schema_of t.table h ≡ Some r.schema
table_there h t reply r = subst (λ (x : History). schema_of t.table x ≡ Some r.schema) (whole h) r.there

answer_there : (h : History) (t : SelectText) (reply : List ℕ) (r : Selects h t (length h) reply) → Answer h r.schema t r.lines
answer_there h t reply r = subst (λ (x : History). Answer x r.schema t r.lines) (whole h) r.answer

-- refused for what it says, whatever it is of these
only_refused : (h : History) (t : SelectText) (why : Refusal) (replies : List (List ℕ)) → query_of_select t h ≡ Err why → ((reply : List ℕ) → Selects h t (length h) reply → ⊥) → replies ≡ refusal_line why ∷ [] → AreExactly replies (Replied h t)
only_refused h t why replies is never only reply = (λ own. into ((exactly_itself replies (refusal_line why) only reply).0 own), λ r. (exactly_itself replies (refusal_line why) only reply).1 (back (replied_cases h t reply r)))
  where
    into : reply ≡ refusal_line why → Replied h t reply
    into line = unselected_takes h t why reply is line

    back : Selects h t (length h) reply ⊎ ((other : Refusal) × (query_of_select t h ≡ Err other) × (reply ≡ refusal_line other)) → reply ≡ refusal_line why
    back (inl r) = absurd (never reply r)
    back (inr (other, e, line)) = let both : Err other ≡ Err why = sym e ∙ is in let same : other ≡ why = cc in line ∙ ap refusal_line same

-- there is no such table
pub no_table_only : (h : History) (t : SelectText) (replies : List (List ℕ)) → schema_of t.table h ≡ None → replies ≡ refusal_line (refusal.NoTable t.table) ∷ [] → AreExactly replies (Replied h t)
no_table_only h t replies none only = only_refused h t (refusal.NoTable t.table) replies (ap (query_for t) none) never only
  where
    never : (reply : List ℕ) → Selects h t (length h) reply → ⊥
    never reply r = let clash : None ≡ Some r.schema = sym none ∙ table_there h t reply r in cc

-- the SELECT is none of its table
pub refused_only : (h : History) (t : SelectText) (schema : Schema) (why : Refusal) (replies : List (List ℕ)) → schema_of t.table h ≡ Some schema → query_of schema.columns t ≡ Err why → replies ≡ refusal_line why ∷ [] → AreExactly replies (Replied h t)
refused_only h t schema why replies there is only = only_refused h t why replies (ap (query_for t) there ∙ is) never only
  where
    never : (reply : List ℕ) → Selects h t (length h) reply → ⊥
    never reply r =
        let both : Some r.schema ≡ Some schema = sym (table_there h t reply r) ∙ there in
        let same : r.schema ≡ schema = cc in
        let answer = answer_there h t reply r in
        let clash : Err why ≡ Ok answer.query = sym is ∙ (ap (λ (s : Schema). query_of s.columns t) (sym same) ∙ answer.asked) in
        cc

-- it is answered
pub answered_exactly : (h : History) (t : SelectText) (schema : Schema) (query : Query) (replies : List (List ℕ)) → schema_of t.table h ≡ Some schema → query_of schema.columns t ≡ Ok query → AreExactly replies (RepliesAnswer h schema t) → AreExactly replies (Replied h t)
answered_exactly h t schema query replies there asked are reply = (λ own. into ((are reply).0 own), λ r. (are reply).1 (back (replied_cases h t reply r)))
  where
    into : RepliesAnswer h schema t reply → Replied h t reply
    into a = answer_takes h schema t a.0 reply there a.1 a.2

    back : Selects h t (length h) reply ⊎ ((why : Refusal) × (query_of_select t h ≡ Err why) × (reply ≡ refusal_line why)) → RepliesAnswer h schema t reply
    back (inl r) =
        let both : Some r.schema ≡ Some schema = sym (table_there h t reply r) ∙ there in
        let same : r.schema ≡ schema = cc in
        (r.lines, subst (λ (s : Schema). Answer h s t r.lines) same (answer_there h t reply r), r.reply_is)
    back (inr (why, e, line)) = let clash : Err why ≡ Ok query = sym e ∙ (ap (query_for t) there ∙ asked) in cc
