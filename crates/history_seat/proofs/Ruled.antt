-- What the table asks of each call: its step keeps the table's rule, and tells what it is to tell.
use Rattle.std.proofs.Common.{◌≡◌, ◌+◌, ◌<◌, ◌≤◌, ◌%◌, ◌^◌, ◌∷◌, ◌++◌, [], ℕ, All, Option, true, length, set, refl, sym, ap, ◌∙◌, subst, arith}
use Rattle.std.specs.Prelude.{slice_index}
use Rattle.std.proofs.Math.Nat.{mod-eq_of_lt}
use Rattle.atomic_table.proofs.Lists.{set_again, set_else}
use Rattle.atomic_table.specs.Seated.{TableId}
use Rattle.atomic_table.specs.Table.{Allows, Joins, Me, Splits, State, keeps}
use Rattle.mt_values.specs.declared.command.Entry.{Entry}
use Rattle.history_seat.specs.declared.view.Kind.TheVariants as kind
use Rattle.history_seat.specs.declared.view.View.{View}
use Rattle.history_seat.specs.Rule.{Has, OneHistory, Rule, Standing, standing}
use Rattle.history_seat.specs.Steps.{Makes, Step, adds, makes, meets, notes, notes_plainly, opens, tries}
use Rattle.history_seat.specs.Turns.{Adds, Learned, Tries}
use Rattle.history_seat.specs.Views.{KnowsBegun, counted, grown, is_seat, lock_view, met, newcomer, note_of, own, plain_note_of, session_view, spent_view, unopened_view, with_try, without_pen}
use Rattle.history_seat.proofs.Keeping.{starts}
use Rattle.history_seat.proofs.Lasting.{step_keeps}

abbrev pub Ruled : ℕ → State ℕ View → Type 0
Ruled base s = Rule base s.words s.views

-- the table of a room has a word
pub has_word : (here table : TableId) → here ≡ table → table.words ≡ 1 → 0 < here.words
has_word here table same one = let words = ap (λ t. t.words) same in omega (arith, words, one)

-- the table as it is made
pub may_start : (base : ℕ) → Rule base (base ∷ []) (unopened_view ∷ [])
may_start base = (base, refl, starts base)

-- what a view learns of a load, where the history is one
learned : (base : ℕ) (s : Standing) (h : OneHistory base s) (by : ℕ) (v : View) → Has s.views by v → Learned base v s.word
learned base s h by v at =
    let mine = h.each by v at in record {
      olds = mine.olds;
      word = λ pen. h.word ∙ ap (λ l. base + length l) (sym (mine.pen pen).1);
      mine = λ pen k. mine.mine k ∙ ap (λ l. own v.number l) (sym (mine.pen pen).1);
      named = λ pen k zeroth. subst (λ l. All (λ (e : Entry). e.session ≤ v.made) l) (sym (mine.pen pen).1) (h.numbered.named by v (at, k) zeroth);
      knows = λ pen k. subst (λ (b : Option Entry). KnowsBegun v b) (sym (mine.begun pen)) (mine.knows k);
    }

pub may_load : (base slots by : ℕ) (me : Me ℕ View) → Allows (Ruled base) slots by me 0 (λ n. n) (λ n next. (next ≡ me) × Learned base me.0 n)
may_load base slots by me s kept homes at fits =
    let found : slice_index s.words 0 ≡ kept.0 = ap (λ ws. slice_index ws 0) kept.1 in (
      me.0,
      keeps,
      tt,
      (
        kept.0,
        ap (λ ws. set ws 0 (slice_index s.words 0)) kept.1 ∙ ap (λ n. n ∷ []) found,
        subst (λ vs. OneHistory base (standing kept.0 vs)) (sym (set_again s.views by me.0 at)) kept.2,
      ),
      (refl, subst (λ n. Learned base me.0 n) (sym found) (learned base (standing kept.0 s.views) kept.2 by me.0 at)),
    )

pub may_add : (base slots by : ℕ) (me : Me ℕ View) (e : Entry) → me.0.kind ≡ kind.Session → e.session ≡ me.0.number → me.0.pen ≡ true → base + length me.0.list + 1 < 2 ^ 64
    → Allows (Ruled base) slots by me 0 (λ n. (n + 1) % 2 ^ 64) (λ _ next. Adds e me next)
may_add base slots by me e session named pen room s kept homes at fits =
    let v = me.0 in
    let mine = kept.2.each by v at in
    let found : slice_index s.words 0 ≡ kept.0 = ap (λ ws. slice_index ws 0) kept.1 in
    let held : kept.0 ≡ base + length v.list = kept.2.word ∙ ap (λ l. base + length l) (sym (mine.pen pen).1) in
    let next : (slice_index s.words 0 + 1) % 2 ^ 64 ≡ kept.0 + 1 = rw found (mod-eq_of_lt {n = kept.0 + 1} {m = 2 ^ 64} (omega (arith, room, held))) in
    let old = standing kept.0 s.views in
    let new = standing (kept.0 + 1) (set s.views by (grown v e)) in (
      grown v e,
      keeps,
      tt,
      (
        kept.0 + 1,
        ap (λ ws. set ws 0 ((slice_index s.words 0 + 1) % 2 ^ 64)) kept.1 ∙ ap (λ n. n ∷ []) next,
        step_keeps base (adds by e) old new kept.2 (v, (at, session), named, pen, room, refl),
      ),
      (refl, refl, mine.olds),
    )

pub may_try : (base slots by : ℕ) (me : Me ℕ View) (e : Entry) → me.0.kind ≡ kind.Session → e.session ≡ me.0.number → me.0.pen ≡ true
    → Allows (Ruled base) slots by me 0 (λ n. n) (λ _ next. Tries e me next)
may_try base slots by me e session named pen s kept homes at fits =
    let found : slice_index s.words 0 ≡ kept.0 = ap (λ ws. slice_index ws 0) kept.1 in
    let old = standing kept.0 s.views in
    let new = standing kept.0 (set s.views by (with_try me.0 e)) in (
      with_try me.0 e,
      keeps,
      tt,
      (
        kept.0,
        ap (λ ws. set ws 0 (slice_index s.words 0)) kept.1 ∙ ap (λ n. n ∷ []) found,
        step_keeps base (tries by e) old new kept.2 (me.0, (at, session), named, pen, refl),
      ),
      (refl, refl),
    )

-- a split that is one of the steps
may_split : (base by : ℕ) (v left right : View) (step : Step) → ((s : Standing) → Has s.views by v → Makes base step s (standing s.word (set s.views by left ++ right ∷ [])))
    → Splits (Ruled base) by v left right
may_split base by v left right step made s kept at =
    let old = standing kept.0 s.views in (kept.0, kept.1, step_keeps base step old (standing kept.0 (set s.views by left ++ right ∷ [])) kept.2 (made old at))

pub may_open : (base by : ℕ) → Splits (Ruled base) by unopened_view lock_view (session_view 0 [])
may_open base by = may_split base by unopened_view lock_view (session_view 0 []) (opens by) (λ s at. (at, refl))

pub may_note : (base by : ℕ) (v : View) → is_seat v.kind ≡ true → Splits (Ruled base) by v (without_pen v) (note_of v)
may_note base by v seat = may_split base by v (without_pen v) (note_of v) (notes by) (λ s at. (v, at, seat, refl))

pub may_note_plainly : (base by : ℕ) (v : View) → is_seat v.kind ≡ true → Splits (Ruled base) by v v (plain_note_of v)
may_note_plainly base by v seat =
    may_split base by v v (plain_note_of v) (notes_plainly by) (λ s at. (v, at, seat, ap (λ vs. standing s.word (vs ++ plain_note_of v ∷ [])) (set_again s.views by v at)))

pub may_make : (base by : ℕ) (v : View) → v.kind ≡ kind.Session → v.number ≡ 0 → v.made + 1 < 2 ^ 64 → Splits (Ruled base) by v (counted v) (newcomer v)
may_make base by v session zeroth room = may_split base by v (counted v) (newcomer v) (makes by) (λ s at. (v, (at, session), zeroth, room, refl))

pub may_meet : (base by : ℕ) (v : View) (other : ℕ) (w : View) → is_seat v.kind ≡ true → w.kind ≡ kind.Note → Joins (Ruled base) by v other w (met v w) spent_view
may_meet base by v other w seat note s kept at else there =
    let old = standing kept.0 s.views in
    let new = standing kept.0 (set (set s.views by (met v w)) other spent_view) in
    (kept.0, kept.1, step_keeps base (meets by other) old new kept.2 (v, w, at, seat, sym (set_else s.views by other (met v w) else) ∙ there, note, refl))
