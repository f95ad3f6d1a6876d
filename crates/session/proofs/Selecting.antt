-- From the rows of a table's parts to the answer of a SELECT.
use Rattle.std.proofs.Common.{◌≡◌, ℕ, ◌<◌, Bool, true, false, cond, List, [], ◌∷◌, ◌++◌, length, take, refl, sym, ap, ◌∙◌, subst, arith, All, map, Option, Some, None, Result, Ok, Err}
use Rattle.std.specs.List.{Contains as HasItem, filter, concat, range_with_len}
use Rattle.std.proofs.lemmas.List.{length-map}
use Rattle.std.proofs.lemmas.List.Elements.{All-cons, All-nil}
use Rattle.std.proofs.lemmas.Bool.Decides.{nat_tests}
use Rattle.mt_values.specs.declared.schema.Column.{Column}
use Rattle.mt_values.specs.declared.schema.Schema.{Schema}
use Rattle.mt_values.specs.declared.statement.Selected.{Selected}
use Rattle.mt_values.specs.declared.statement.Selected.TheVariants as selected
use Rattle.mt_values.specs.declared.statement.SelectText.{SelectText}
use Rattle.mt_values.specs.Values.{Row}
use Rattle.mt_values.specs.Order.{key_cmp, key_of}
use Rattle.mt_values.specs.Grid.{Grid, IsOrderBy, picked}
use Rattle.mt_values.specs.Printing.{line}
use Rattle.mt_values.specs.Tests.{eval}
use Rattle.mt_values.proofs.Grids.{All-range, IsPermutation-picked, length-picked}
use Rattle.replies.specs.mt_model.declared.refusal.Refusal.{Refusal}
use Rattle.replies.specs.mt_model.History.{History, schema_of}
use Rattle.replies.specs.mt_model.Live.{sorted, live}
use Rattle.replies.specs.mt_model.Final.{Sees}
use Rattle.replies.specs.mt_model.Answer.{Prints, Answer}
use Rattle.replies.specs.mt_model.Clauses.{column_place}
use Rattle.replies.specs.mt_model.declared.query.Query.{Query}
use Rattle.replies.specs.mt_model.Queries.{query_of}
use Rattle.replies.specs.mt_model.Reply.{rows_line, place_onto, found_or, places_of, selected_places}
use Rattle.replies.specs.mt_model.Session.{Selects}
use Rattle.replies.proofs.MtModelSameKeys.{stable_is_sorted}
use Rattle.replies.proofs.MtModelDetermined.{key_total}
use Rattle.final_fold.specs.Scans.{ArePlacesOf}
use Rattle.replies.specs.Lines.{Printed}
use Rattle.final_fold.proofs.Picking.{read_within}
use Rattle.session.proofs.Picking.{shown_lines, shown_rising}
use Rattle.std.proofs.lemmas.List.Sorted.{IsPermutation-map}

-- rows ordered by the key are the rows stably sorted by it
pub ordered_is_sorted : (key : List ℕ) (rows : List Row) (order : List ℕ) → IsOrderBy key rows order → picked rows order ≡ sorted (key_cmp key) rows
ordered_is_sorted key rows order by = stable_is_sorted (key_cmp key) (key_total key) rows (picked rows order) by.rising by.stable

-- ---- the columns that are read

option_true : {X : Type 0} (b : Bool) (x y : X) → cond b (Some x) None ≡ Some y → (b ≡ true) × (x ≡ y)
option_true true x y h = (refl, cc)
option_true false x y h = cc

-- the place of a name is a column's
pub place_below : (columns : List Column) (name : List ℕ) (place : ℕ) → column_place columns name ≡ Some place → place < length columns
place_below columns name place h =
    let parts = option_true _ _ place h in
    let lt = parts.0 in
    let is = parts.1 in
    grind (arith, nat_tests)

named_below : (columns : List Column) (names : List (List ℕ)) (places : List ℕ) → places_of columns names ≡ Ok places → All (λ p. p < length columns) places
named_below columns [] places is = let nil : [] ≡ places = cc in subst (All (λ p. p < length columns)) nil (All-nil (λ (p : ℕ). p < length columns))
named_below columns (name ∷ names) places is = by (λ ps. named_below columns names ps) (column_place columns name) refl (places_of columns names) refl is
  where
    by : ((ps : List ℕ) → places_of columns names ≡ Ok ps → All (λ p. p < length columns) ps) → (o : Option ℕ) → column_place columns name ≡ o → (r : Result (List ℕ) Refusal) → places_of columns names ≡ r
        → place_onto (found_or name o) r ≡ Ok places → All (λ p. p < length columns) places
    by more None e r f is = cc
    by more (Some place) e (Err why) f is = cc
    by more (Some place) e (Ok ps) f is =
        let cons : place ∷ ps ≡ places = cc in
        subst (All (λ p. p < length columns)) cons (All-cons (λ (p : ℕ). p < length columns) place ps (place_below columns name place e) (more ps f))

-- the places of the columns that a SELECT takes are columns'
pub selected_below : (schema : Schema) (s : Selected) (places : List ℕ) → selected_places schema.columns s ≡ Ok places → ArePlacesOf schema places
selected_below schema selected.All places is =
    let all : range_with_len 0 (length schema.columns) ≡ places = cc in
    subst (All (λ p. p < length schema.columns)) all (All-range (λ p. p < length schema.columns) (length schema.columns) (λ k h. h))
selected_below schema (selected.Named names) places is = named_below schema.columns names places is

-- and so are those of the columns that it reads
pub read_below : (schema : Schema) (s : Selected) (places own read : List ℕ) → selected_places schema.columns s ≡ Ok places → All (HasItem places) own → read ≡ own → ArePlacesOf schema read
read_below schema s places own read is chosen same =
    subst (ArePlacesOf schema) (sym same) (read_within (λ place. place < length schema.columns) places own chosen (selected_below schema s places is))

-- ---- the reply

-- what is printed of rows that meet a condition
pub record PrintsOf (q : Query) (rows : List Row) (place : ℕ) (reply : List ℕ) : Type 0 where
  pub lines : List (List ℕ)
  pub prints : Prints (map (key_of q.places) (filter (eval q.condition) rows)) lines
  pub reply_is : reply ≡ rows_line (length lines) place ++ concat lines

-- it is what the block prints that was read of them
pub prints_of : (q : Query) (rows : List Row) (block : Grid) (shown : List ℕ) (place : ℕ) (reply : List ℕ) → map (key_of shown) block.rows ≡ map (key_of q.places) (filter (eval q.condition) rows) → Printed block shown place reply → PrintsOf q rows place reply
prints_of q rows block shown place reply rows_are p =
    let ordered = map (key_of shown) (picked block.rows p.order) in
    let lines = map line ordered in
    let count : length lines ≡ length block.rows = length-map ordered line ∙ length-map (picked block.rows p.order) (key_of shown) ∙ length-picked shown block.rows p.order p.by in
    record {
      lines = lines;
      prints = subst (λ (rs : List Row). Prints rs lines) rows_are (record {
        order = ordered;
        same = IsPermutation-map (key_of shown) block.rows (picked block.rows p.order) (IsPermutation-picked shown block.rows p.order p.by);
        rising = shown_rising shown (picked block.rows p.order) p.by.rising;
        lines_are = refl;
      });
      reply_is = p.reply_is
          ∙ (ap (λ ls. rows_line (length block.rows) place ++ ls) (shown_lines shown (picked block.rows p.order)) ∙ ap (λ n. rows_line n place ++ concat lines) (sym count));
    }

-- a SELECT's answer, from the rows of its table
pub selects : (h : History) (s : SelectText) (schema : Schema) (q : Query) (rows : List Row) (place : ℕ) (reply : List ℕ)
    → take place h ≡ h → schema_of s.table h ≡ Some schema → query_of schema.columns s ≡ Ok q → Sees schema s.is_final (live s.table schema h) rows → PrintsOf q rows place reply → Selects h s place reply
selects h s schema q rows place reply all there asked seen p =
    let answer : Answer h schema s p.lines = record { query = q; asked = asked; rows = rows; seen = seen; prints = p.prints } in
    record {
      schema = schema;
      lines = p.lines;
      there = ap (schema_of s.table) all ∙ there;
      answer = subst (λ (x : History). Answer x schema s p.lines) (sym all) answer;
      reply_is = p.reply_is;
    }
