-- Each step keeps one history, and its list only grows.
use Rattle.std.proofs.Common.{◌≡◌, ◌≢◌, ◌⊎◌, ◌+◌, ◌≤◌, ◌∷◌, ◌++◌, [], ℕ, All, Bool, List, Option, None, Some, true, false, cond, length, set, refl, sym, ap, ◌∙◌, subst, ⊎_elim, inl, inr, arith, append-nil, length-append, true≢false}
use Rattle.std.proofs.lemmas.List.Elements.{All-append, All-cons, All-nil}
use Rattle.atomic_table.proofs.Lists.{at_last, at_longer, set_else, set_here}
use Rattle.mt_values.specs.declared.command.Entry.{Entry}
use Rattle.history_seat.specs.declared.view.Kind.TheVariants as kind
use Rattle.history_seat.specs.declared.view.View.{View}
use Rattle.history_seat.specs.Rule.{AreNumbered, Fits, Has, IsOpened, OneHistory, SitsAt, Standing, standing}
use Rattle.history_seat.specs.Steps.{Makes, Step, adds, loads, makes, meets, notes, notes_plainly, opens, tries}
use Rattle.history_seat.specs.Views.{Begins, counted, grown, is_seat, leading, lock_view, met, newcomer, note_of, own, plain_note_of, session_view, spent_view, unopened_view, with_try, without_pen}
use Rattle.history_seat.proofs.Fronts.{begins_itself, begins_more, begins_through, begun_whole, leads, leads_whole, made_knows, maker_knows, own_else, own_more, own_none}
use Rattle.history_seat.proofs.Places.{Stays, each_more, each_set, has_one, has_place, only_view, stays_itself, stays_noted, stays_set, stays_spent}

-- a history whose list begins with this one
pub record Grown (base : ℕ) (list : List Entry) (new : Standing) : Type 0 where
  pub after : OneHistory base new
  pub grows : Begins list after.list

-- every view fits the list and what is begun
abbrev AllFit : ℕ → List Entry → Option Entry → List View → Type 0
AllFit holder list now views = (j : ℕ) (u : View) → Has views j u → Fits holder list now j u

-- session 0 has made whoever has an entry
abbrev AllNamed : List Entry → List View → Type 0
AllNamed list views = (j : ℕ) (z : View) → SitsAt views j z → z.number ≡ 0 → All (λ (e : Entry). e.session ≤ z.made) list

numbered_still : (list after : List Entry) (old new : List View) → AreNumbered list old → Stays old new → AllNamed after old → AreNumbered after new
numbered_still list after old new h stays named = record {
  differ = λ i j v w at there same.
      let a = stays.from i v at in
      let b = stays.from j w there in
      h.differ i j a.view b.view a.sits b.sits (sym a.number ∙ same ∙ b.number);
  bounded = λ i j v z at there none.
      let a = stays.from i v at in
      let b = stays.from j z there in
      let below = h.bounded i j a.view b.view a.sits b.sits (sym b.number ∙ none) in
      omega (arith, a.number, b.made, below);
  named = λ j z there none.
      let b = stays.from j z there in
      subst (λ (n : ℕ). All (λ (e : Entry). e.session ≤ n) after) (sym b.made) (named j b.view b.sits (sym b.number ∙ none));
}

-- where a seat sits, the history was opened
pub opened_by : (views : List View) (by : ℕ) (v : View) → (views ≡ unopened_view ∷ []) ⊎ IsOpened views → Has views by v → is_seat v.kind ≡ true → IsOpened views
opened_by views by v o at is =
    ⊎_elim
    (λ (none : views ≡ unopened_view ∷ []). absurd (let only = only_view unopened_view v by (subst (λ vs. Has vs by v) none at) in true≢false (sym is ∙ ap (λ x. is_seat x.kind) only.1)))
    (λ (x : IsOpened views). x)
    o

opened_still : (old new : List View) → IsOpened old → Stays old new → IsOpened new
opened_still old new o stays =
    let t = stays.to o.place o.zero o.sits in record { place = o.place; zero = t.0; sits = t.1; number = t.2 ∙ o.number; all = stays.opened }

-- what a step owes that leaves the sessions where they are
goes_on : (base : ℕ) (old : Standing) (h : OneHistory base old) → IsOpened old.views
    → (word : ℕ) (new : List View) (list : List Entry) (now : Option Entry) (holder : ℕ) → Begins h.list list → word ≡ base + length list
    → ((v : View) × Has new holder v × (v.pen ≡ true)) → AllFit holder list now new → Stays old.views new → AllNamed list old.views → Grown base h.list (standing word new)
goes_on base old h o word new list now holder grows is held fit stays named = record {
  after = record {
    list = list;
    begun = now;
    word = is;
    holder = holder;
    held = held;
    each = fit;
    numbered = numbered_still h.list list old.views new h.numbered stays named;
    opened = inr (opened_still old.views new o stays);
  };
  grows = grows;
}

-- who has no pen is not its holder
not_holder : (base : ℕ) (old : Standing) (h : OneHistory base old) (by : ℕ) (v : View) → Has old.views by v → v.pen ≡ false → h.holder ≢ by
not_holder base old h by v at none is =
    let same = has_one old.views by h.held.0 v (subst (λ i. Has old.views i h.held.0) is h.held.1) at in
    true≢false (sym h.held.2 ∙ ap (λ u. u.pen) same ∙ none)

loading : (base : ℕ) (old : Standing) (h : OneHistory base old) → Grown base h.list old
loading base old h = record { after = h; grows = begins_itself h.list }

adding : (base : ℕ) (old : Standing) (h : OneHistory base old) (by : ℕ) (v : View) (e : Entry) → SitsAt old.views by v → e.session ≡ v.number → v.pen ≡ true
    → Grown base h.list (standing (old.word + 1) (set old.views by (grown v e)))
adding base old h by v e sits named pen =
    let o = opened_by old.views by v h.opened sits.0 (ap is_seat sits.1) in
    let mine = h.each by v sits.0 in
    let held = mine.pen pen in
    let list = h.list ++ e ∷ [] in
    goes_on base old h o (old.word + 1) (set old.views by (grown v e)) list None h.holder (begins_more h.list h.list (e ∷ []) (begins_itself h.list))
    (omega (arith, h.word, length-append h.list (e ∷ [])))
    (grown v e, subst (λ i. Has (set old.views by (grown v e)) i (grown v e)) held.0 (set_here old.views by (grown v e) (has_place old.views by v sits.0)), pen)
    (each_set (Fits h.holder list None) old.views by (grown v e)
    (λ j u else at.
    let f = h.each j u at in record {
      pen = λ p. absurd (else ((f.pen p).0 ∙ sym held.0));
      begun = λ p. absurd (else ((f.pen p).0 ∙ sym held.0));
      front = begins_more u.list h.list (e ∷ []) f.front;
      olds = f.olds;
      mine = λ k. f.mine k ∙ sym (own_else u.number h.list e (λ same. absurd (else (h.numbered.differ j by u v (at, k) sits (sym same ∙ named)))));
      knows = λ _. tt;
    })
    (record {
      pen = λ _. (held.0, ap (λ l. l ++ e ∷ []) held.1);
      begun = λ _. refl;
      front = ([], append-nil _ ∙ ap (λ l. l ++ e ∷ []) held.1);
      olds = λ k d b. begins_more _ v.list (e ∷ []) (mine.olds k d b);
      mine = λ k. ap (λ l. l ++ e ∷ []) (mine.mine k) ∙ sym (own_more v.number h.list e named);
      knows = λ _. tt;
    }))
    (stays_set old.views by v (grown v e) sits.0 refl refl refl o.all)
    (λ j z there none.
    All-append (λ (x : Entry). x.session ≤ z.made) h.list (e ∷ []) (h.numbered.named j z there none)
    (All-cons (λ (x : Entry). x.session ≤ z.made) e [] (let below = h.numbered.bounded by j v z sits there none in omega (arith, named, below)) (All-nil (λ (x : Entry). x.session ≤ z.made))))

-- an entry was tried and is begun
trying : (base : ℕ) (old : Standing) (h : OneHistory base old) (by : ℕ) (v : View) (e : Entry) → SitsAt old.views by v → e.session ≡ v.number → v.pen ≡ true
    → Grown base h.list (standing old.word (set old.views by (with_try v e)))
trying base old h by v e sits named pen =
    let o = opened_by old.views by v h.opened sits.0 (ap is_seat sits.1) in
    let mine = h.each by v sits.0 in
    let held = mine.pen pen in
    goes_on base old h o old.word (set old.views by (with_try v e)) h.list (Some e) h.holder (begins_itself h.list) h.word
    (with_try v e, subst (λ i. Has (set old.views by (with_try v e)) i (with_try v e)) held.0 (set_here old.views by (with_try v e) (has_place old.views by v sits.0)), pen)
    (each_set (Fits h.holder h.list (Some e)) old.views by (with_try v e)
    (λ j u else at.
    let f = h.each j u at in record {
      pen = λ p. absurd (else ((f.pen p).0 ∙ sym held.0));
      begun = λ p. absurd (else ((f.pen p).0 ∙ sym held.0));
      front = f.front;
      olds = f.olds;
      mine = f.mine;
      knows = λ k. (
        λ same. absurd (else (h.numbered.differ j by u v (at, k) sits (sym same ∙ named))),
        λ zeroth. let below = h.numbered.bounded by j v u sits (at, k) zeroth in let made : e.session ≤ u.made = omega (arith, named, below) in made,
      );
    })
    (record {
      pen = λ _. held;
      begun = λ _. refl;
      front = mine.front;
      olds = mine.olds;
      mine = mine.mine;
      knows = λ _. (λ _. refl, λ zeroth. let made : e.session ≤ v.made = omega (arith, named, zeroth) in made);
    }))
    (stays_set old.views by v (with_try v e) sits.0 refl refl refl o.all)
    h.numbered.named

-- a note of a view, whoever has the pen
noting_if : (base : ℕ) (old : Standing) (h : OneHistory base old) (by : ℕ) (v : View) (b : Bool) → v.pen ≡ b → Has old.views by v → is_seat v.kind ≡ true
    → Grown base h.list (standing old.word (set old.views by (without_pen v) ++ note_of v ∷ []))
noting_if base old h by v true pen at is =
    let o = opened_by old.views by v h.opened at is in
    let mine = h.each by v at in
    let held = mine.pen pen in
    let mid = set old.views by (without_pen v) in
    let n = length mid in
    goes_on base old h o old.word (mid ++ note_of v ∷ []) h.list h.begun n (begins_itself h.list) h.word
    (note_of v, at_last mid (note_of v) n refl, pen)
    (each_more (Fits n h.list h.begun) mid (note_of v)
    (each_set (Fits n h.list h.begun) old.views by (without_pen v)
    (λ j u else there.
    let f = h.each j u there in record {
      pen = λ p. absurd (else ((f.pen p).0 ∙ sym held.0));
      begun = λ p. absurd (else ((f.pen p).0 ∙ sym held.0));
      front = f.front;
      olds = f.olds;
      mine = f.mine;
      knows = f.knows;
    })
    (record { pen = λ p. absurd (cc); begun = λ p. absurd (cc); front = mine.front; olds = mine.olds; mine = mine.mine; knows = mine.knows }))
    (record { pen = λ _. (refl, held.1); begun = λ _. mine.begun pen; front = mine.front; olds = All-nil _; mine = λ k. absurd (cc); knows = λ k. absurd (cc) }))
    (stays_noted old.views mid (note_of v) (stays_set old.views by v (without_pen v) at refl refl refl o.all) refl)
    h.numbered.named
noting_if base old h by v false pen at is =
    let o = opened_by old.views by v h.opened at is in
    let mine = h.each by v at in
    let mid = set old.views by (without_pen v) in
    goes_on base old h o old.word (mid ++ note_of v ∷ []) h.list h.begun h.holder (begins_itself h.list) h.word
    (h.held.0, at_longer mid (note_of v ∷ []) h.holder h.held.0 (set_else old.views by h.holder (without_pen v) (not_holder base old h by v at pen) ∙ h.held.1), h.held.2)
    (each_more (Fits h.holder h.list h.begun) mid (note_of v)
    (each_set (Fits h.holder h.list h.begun) old.views by (without_pen v)
    (λ j u _ there. h.each j u there)
    (record { pen = λ p. absurd (cc); begun = λ p. absurd (cc); front = mine.front; olds = mine.olds; mine = mine.mine; knows = mine.knows }))
    (record { pen = λ p. absurd (true≢false (sym p ∙ pen)); begun = λ p. absurd (true≢false (sym p ∙ pen)); front = mine.front; olds = All-nil _; mine = λ k. absurd (cc); knows = λ k. absurd (cc) }))
    (stays_noted old.views mid (note_of v) (stays_set old.views by v (without_pen v) at refl refl refl o.all) refl)
    h.numbered.named

noting_plainly : (base : ℕ) (old : Standing) (h : OneHistory base old) (by : ℕ) (v : View) → Has old.views by v → is_seat v.kind ≡ true
    → Grown base h.list (standing old.word (old.views ++ plain_note_of v ∷ []))
noting_plainly base old h by v at is =
    let o = opened_by old.views by v h.opened at is in
    let mine = h.each by v at in
    goes_on base old h o old.word (old.views ++ plain_note_of v ∷ []) h.list h.begun h.holder (begins_itself h.list) h.word
    (h.held.0, at_longer old.views (plain_note_of v ∷ []) h.holder h.held.0 h.held.1, h.held.2)
    (each_more (Fits h.holder h.list h.begun) old.views (plain_note_of v) h.each
    (record { pen = λ p. absurd (cc); begun = λ p. absurd (cc); front = mine.front; olds = All-nil _; mine = λ k. absurd (cc); knows = λ k. absurd (cc) }))
    (stays_noted old.views old.views (plain_note_of v) (stays_itself old.views o.all) refl)
    h.numbered.named

-- a note that is taken in, with both views
record Meets (views : List View) (by other : ℕ) (v w : View) : Type 0 where
  pub at : Has views by v
  pub seat : is_seat v.kind ≡ true
  pub there : Has views other w
  pub note : w.kind ≡ kind.Note

apart : (views : List View) (by other : ℕ) (v w : View) → Meets views by other v w → other ≢ by
apart views by other v w m same =
    let is = has_one views by v w m.at (subst (λ i. Has views i w) same m.there) in
    absurd (let k : is_seat kind.Note ≡ true = ap is_seat (sym m.note ∙ ap (λ x. x.kind) (sym is)) ∙ m.seat in cc)

meeting_with : (base : ℕ) (old : Standing) (h : OneHistory base old) (by other : ℕ) (v w : View) → Meets old.views by other v w → (holder : ℕ)
    → ((u : View) × Has (set (set old.views by (met v w)) other spent_view) holder u × (u.pen ≡ true)) → ((met v w).pen ≡ true → by ≡ holder)
    → ((j : ℕ) (u : View) → j ≢ by → j ≢ other → Has old.views j u → u.pen ≡ true → j ≡ holder)
    → Grown base h.list (standing old.word (set (set old.views by (met v w)) other spent_view))
meeting_with base old h by other v w m holder held here pens =
    let o = opened_by old.views by v h.opened m.at m.seat in
    let mine = h.each by v m.at in
    let theirs = h.each other w m.there in
    let mid = set old.views by (met v w) in
    let list = leading v.pen w.pen v.list w.list in
    let l = leads v.pen w.pen v.list w.list h.list mine.front theirs.front (λ p. (mine.pen p).1) (λ p. (theirs.pen p).1) in
    let there = set_else old.views by other (met v w) (apart old.views by other v w m) ∙ m.there in
    goes_on base old h o old.word (set mid other spent_view) h.list h.begun holder (begins_itself h.list) h.word held
    (each_set (Fits holder h.list h.begun) mid other spent_view
    (λ j u else at. each_set (λ i x. i ≢ other → Fits holder h.list h.begun i x) old.views by (met v w)
    (λ i x away has far.
    let f = h.each i x has in record {
      pen = λ p. (pens i x away far has p, (f.pen p).1);
      begun = f.begun;
      front = f.front;
      olds = f.olds;
      mine = f.mine;
      knows = f.knows;
    })
    (λ _. record {
      pen = λ p. (here p, leads_whole v.pen w.pen v.list w.list h.list (λ q. (mine.pen q).1) (λ q. (theirs.pen q).1) p);
      begun = λ p. begun_whole v.pen w.pen v.begun w.begun h.begun mine.begun theirs.begun p;
      front = l.front;
      olds = All-cons (λ x. Begins x list) v.list (w.list ∷ v.olds) l.first (All-cons (λ x. Begins x list) w.list v.olds l.second (λ k d b. begins_through _ v.list list (mine.olds k d b) l.first));
      mine = mine.mine;
      knows = mine.knows;
    })
    j u at else)
    (record { pen = λ p. absurd (cc); begun = λ p. absurd (cc); front = (h.list, refl); olds = All-nil _; mine = λ k. absurd (cc); knows = λ k. absurd (cc) }))
    (stays_spent old.views mid other w spent_view (stays_set old.views by v (met v w) m.at refl refl refl o.all) there m.note refl)
    h.numbered.named

meeting_if : (base : ℕ) (old : Standing) (h : OneHistory base old) (by other : ℕ) (v w : View) (b c : Bool) → v.pen ≡ b → w.pen ≡ c → Meets old.views by other v w
    → Grown base h.list (standing old.word (set (set old.views by (met v w)) other spent_view))
meeting_if base old h by other v w true c one two m =
    let held = (h.each by v m.at).pen one in
    let both : (met v w).pen ≡ true = ap (λ x. cond x true w.pen) one in
    let mid = set old.views by (met v w) in
    meeting_with base old h by other v w m by
    (met v w, set_else mid other by spent_view (λ e. apart old.views by other v w m (sym e)) ∙ set_here old.views by (met v w) (has_place old.views by v m.at), both)
    (λ _. refl)
    (λ j u _ _ at p. ((h.each j u at).pen p).0 ∙ sym held.0)
meeting_if base old h by other v w false true one two m =
    let held = (h.each other w m.there).pen two in
    let both : (met v w).pen ≡ true = ap (λ x. cond x true w.pen) one ∙ two in
    let mid = set old.views by (met v w) in
    meeting_with base old h by other v w m by
    (met v w, set_else mid other by spent_view (λ e. apart old.views by other v w m (sym e)) ∙ set_here old.views by (met v w) (has_place old.views by v m.at), both)
    (λ _. refl)
    (λ j u _ far at p. absurd (far (((h.each j u at).pen p).0 ∙ sym held.0)))
meeting_if base old h by other v w false false one two m =
    let neither : (met v w).pen ≡ false = ap (λ x. cond x true w.pen) one ∙ two in
    let mid = set old.views by (met v w) in
    meeting_with base old h by other v w m h.holder (
      h.held.0,
      set_else mid other h.holder spent_view (not_holder base old h other w m.there two) ∙ set_else old.views by h.holder (met v w) (not_holder base old h by v m.at one) ∙ h.held.1,
      h.held.2,
    )
    (λ p. absurd (true≢false (sym p ∙ neither)))
    (λ j u _ _ at p. ((h.each j u at).pen p).0)

-- where the sessions come from once session 0 made one more
data Origin (views : List View) (by : ℕ) (v : View) (n j : ℕ) (u : View) : Type 0 where
  maker : j ≡ by → u ≡ counted v → Origin views by v n j u
  other_one : j ≢ by → SitsAt views j u → Origin views by v n j u
  made_one : j ≡ n → u ≡ newcomer v → Origin views by v n j u

origin : (views : List View) (by : ℕ) (v : View) (j : ℕ) (u : View) → SitsAt (set views by (counted v) ++ newcomer v ∷ []) j u → Origin views by v (length (set views by (counted v))) j u
origin views by v j u sits =
    let n = length (set views by (counted v)) in
    each_more (λ i x. x.kind ≡ kind.Session → Origin views by v n i x) (set views by (counted v)) (newcomer v)
    (each_set (λ i x. x.kind ≡ kind.Session → Origin views by v n i x) views by (counted v)
    (λ i x else has is. other_one else (has, is))
    (λ _. maker refl refl))
    (λ _. made_one refl refl)
    j u sits.0 sits.1

module _ (list : List Entry) (views : List View) (by : ℕ) (v : View) (sits : SitsAt views by v) (zeroth : v.number ≡ 0) (h : AreNumbered list views) where
  differ_more : (n i j : ℕ) (x y : View) → Origin views by v n i x → Origin views by v n j y → x.number ≡ y.number → i ≡ j
  differ_more n i j x y (maker a p) (maker b q) same = a ∙ sym b
  differ_more n i j x y (maker a p) (other_one b q) same = absurd (b (h.differ j by y v q sits (sym same ∙ ap (λ u. u.number) p)))
  differ_more n i j x y (maker a p) (made_one b q) same = absurd (let one = ap (λ u. u.number) p in let other = ap (λ u. u.number) q in omega (arith, one, other, same, zeroth))
  differ_more n i j x y (other_one a p) (maker b q) same = absurd (a (h.differ i by x v p sits (same ∙ ap (λ u. u.number) q)))
  differ_more n i j x y (other_one a p) (other_one b q) same = h.differ i j x y p q same
  differ_more n i j x y (other_one a p) (made_one b q) same = absurd (let below = h.bounded i by x v p sits zeroth in let other = ap (λ u. u.number) q in omega (arith, below, other, same))
  differ_more n i j x y (made_one a p) (maker b q) same = absurd (let one = ap (λ u. u.number) p in let other = ap (λ u. u.number) q in omega (arith, one, other, same, zeroth))
  differ_more n i j x y (made_one a p) (other_one b q) same = absurd (let below = h.bounded j by y v q sits zeroth in let one = ap (λ u. u.number) p in omega (arith, below, one, same))
  differ_more n i j x y (made_one a p) (made_one b q) same = a ∙ sym b

  -- who has number 0 is the maker
  zero_more : (n j : ℕ) (z : View) → Origin views by v n j z → z.number ≡ 0 → z.made ≡ v.made + 1
  zero_more n j z (maker a p) none = ap (λ u. u.made) p
  zero_more n j z (other_one a p) none = absurd (a (h.differ j by z v p sits (none ∙ sym zeroth)))
  zero_more n j z (made_one a p) none = absurd (let one = ap (λ u. u.number) p in omega (arith, one, none))

  bounded_more : (n i : ℕ) (x : View) → Origin views by v n i x → x.number ≤ v.made + 1
  bounded_more n i x (maker a p) = let one = ap (λ u. u.number) p in omega (arith, one, zeroth)
  bounded_more n i x (other_one a p) = let below = h.bounded i by x v p sits zeroth in omega (arith, below)
  bounded_more n i x (made_one a p) = let one = ap (λ u. u.number) p in omega (arith, one)

  numbered_more : AreNumbered list (set views by (counted v) ++ newcomer v ∷ [])
  numbered_more = record {
    differ = λ i j x y a b same. differ_more (length (set views by (counted v))) i j x y (origin views by v i x a) (origin views by v j y b) same;
    bounded = λ i j x z a b none.
        let n = length (set views by (counted v)) in
        let below = bounded_more n i x (origin views by v i x a) in
        let made = zero_more n j z (origin views by v j z b) none in
        omega (arith, below, made);
    named = λ j z there none k d b.
        let made = zero_more (length (set views by (counted v))) j z (origin views by v j z there) none in
        let below = h.named by v sits zeroth k d b in
        omega (arith, below, made);
  }

making : (base : ℕ) (old : Standing) (h : OneHistory base old) (by : ℕ) (v : View) → SitsAt old.views by v → v.number ≡ 0
    → Grown base h.list (standing old.word (set old.views by (counted v) ++ newcomer v ∷ []))
making base old h by v sits zeroth =
    let o = opened_by old.views by v h.opened sits.0 (ap is_seat sits.1) in
    let mine = h.each by v sits.0 in
    let mid = set old.views by (counted v) in
    let n = length mid in
    let here = set_here old.views by (counted v) (has_place old.views by v sits.0) in record {
      after = record {
        list = h.list;
        begun = h.begun;
        word = h.word;
        holder = h.holder;
        held = held_still v.pen refl;
        each = each_more (Fits h.holder h.list h.begun) mid (newcomer v)
            (each_set (Fits h.holder h.list h.begun) old.views by (counted v)
            (λ j u _ at. h.each j u at)
            (record { pen = mine.pen; begun = mine.begun; front = mine.front; olds = mine.olds; mine = mine.mine; knows = λ k. maker_knows v h.begun (mine.knows k) }))
            (record {
              pen = λ p. absurd (cc);
              begun = λ p. absurd (cc);
              front = mine.front;
              olds = All-nil _;
              mine = λ _. sym (own_none (v.made + 1) h.list (λ k d b. let below = h.numbered.named by v sits zeroth k d b in omega (arith, below)));
              knows = λ _. made_knows v h.begun zeroth (mine.knows sits.1);
            });
        numbered = numbered_more h.list old.views by v sits zeroth h.numbered;
        opened = inr (record {
          place = by;
          zero = counted v;
          sits = (at_longer mid (newcomer v ∷ []) by (counted v) here, sits.1);
          number = zeroth;
          all = each_more (λ i x. x.kind ≡ kind.Unopened → ⊥) mid (newcomer v)
              (each_set (λ i x. x.kind ≡ kind.Unopened → ⊥) old.views by (counted v) (λ i x _ at. o.all i x at) (λ is. o.all by v sits.0 is))
              (λ is. absurd (cc));
        });
      };
      grows = begins_itself h.list;
    }
  where
    held_still : (b : Bool) → v.pen ≡ b → (u : View) × Has (set old.views by (counted v) ++ newcomer v ∷ []) h.holder u × (u.pen ≡ true)
    held_still true pen =
        let mid = set old.views by (counted v) in
        let held = (h.each by v sits.0).pen pen in
        (counted v, at_longer mid (newcomer v ∷ []) h.holder (counted v) (subst (λ i. Has mid i (counted v)) held.0 (set_here old.views by (counted v) (has_place old.views by v sits.0))), pen)
    held_still false pen =
        let mid = set old.views by (counted v) in
        (h.held.0, at_longer mid (newcomer v ∷ []) h.holder h.held.0 (set_else old.views by h.holder (counted v) (not_holder base old h by v sits.0 pen) ∙ h.held.1), h.held.2)

-- the two seats of an opened history without entries
opened_first : (base word : ℕ) (list : List Entry) → word ≡ base + length list → [] ≡ list → Grown base list (standing word (lock_view ∷ session_view 0 [] ∷ []))
opened_first base word list is none = record {
  after = record {
    list = list;
    begun = None;
    word = is;
    holder = 0;
    held = (lock_view, refl, refl);
    each = each_more (Fits 0 list None) (lock_view ∷ []) (session_view 0 []) (λ j u at. lock_fits j u (only_view lock_view u j at))
        (record { pen = λ p. absurd (cc); begun = λ p. absurd (cc); front = (list, refl); olds = All-nil _; mine = λ _. ap (own 0) none; knows = λ _. tt });
    numbered = record {
      differ = λ i j v w a b _. (zero_sits i v a).0 ∙ sym (zero_sits j w b).0;
      bounded = λ i j v z a b _. let one = ap (λ u. u.number) (zero_sits i v a).1 in omega (arith, one);
      named = λ j z a _. subst (λ (l : List Entry). All (λ (e : Entry). e.session ≤ z.made) l) none (All-nil _);
    };
    opened = inr (record { place = 1; zero = session_view 0 []; sits = (refl, refl); number = refl; all = none_unopened });
  };
  grows = begins_itself list;
}
  where
    lock_fits : (j : ℕ) (u : View) → (j ≡ 0) × (u ≡ lock_view) → Fits 0 list None j u
    lock_fits j u is = subst (λ (y : ℕ × View). Fits 0 list None y.0 y.1) (λ i. (sym is.0 i, sym is.1 i))
        (record { pen = λ _. (refl, none); begun = λ _. refl; front = (list, refl); olds = All-nil _; mine = λ k. absurd (cc); knows = λ k. absurd (cc) })

    zero_sits : (j : ℕ) (u : View) → SitsAt (lock_view ∷ session_view 0 [] ∷ []) j u → (j ≡ 1) × (u ≡ session_view 0 [])
    zero_sits j u sits = each_more (λ i x. x.kind ≡ kind.Session → (i ≡ 1) × (x ≡ session_view 0 [])) (lock_view ∷ []) (session_view 0 [])
        (λ i x at is. absurd (let k = ap (λ y. y.kind) (only_view lock_view x i at).1 in cc))
        (λ _. (refl, refl))
        j u sits.0 sits.1

    none_unopened : (j : ℕ) (u : View) → Has (lock_view ∷ session_view 0 [] ∷ []) j u → u.kind ≡ kind.Unopened → ⊥
    none_unopened = each_more (λ i x. x.kind ≡ kind.Unopened → ⊥) (lock_view ∷ []) (session_view 0 [])
        (λ i x at is. absurd (let k = ap (λ y. y.kind) (only_view lock_view x i at).1 in cc))
        (λ is. absurd (cc))

opening : (base : ℕ) (old : Standing) (h : OneHistory base old) (by : ℕ) → Has old.views by unopened_view
    → Grown base h.list (standing old.word (set old.views by lock_view ++ session_view 0 [] ∷ []))
opening base old h by at =
    ⊎_elim
    (λ (first : old.views ≡ unopened_view ∷ []).
    let place = (only_view unopened_view unopened_view by (subst (λ vs. Has vs by unopened_view) first at)).0 in
    subst (λ (y : List View × ℕ). Grown base h.list (standing old.word (set y.0 y.1 lock_view ++ session_view 0 [] ∷ []))) (λ i. (sym first i, sym place i))
    (opened_first base old.word h.list h.word ((h.each by unopened_view at).pen refl).1))
    (λ (o : IsOpened old.views). absurd (o.all by unopened_view at refl))
    h.opened

-- each step
pub keeps : (base : ℕ) (step : Step) (old new : Standing) (h : OneHistory base old) → Makes base step old new → Grown base h.list new
keeps base (opens by) old new h m = subst (λ s. Grown base h.list s) (sym m.1) (opening base old h by m.0)
keeps base (loads by) old new h m = subst (λ s. Grown base h.list s) (sym m.3) (loading base old h)
keeps base (adds by e) old new h m = subst (λ s. Grown base h.list s) (sym m.5) (adding base old h by m.0 e m.1 m.2 m.3)
keeps base (tries by e) old new h m = subst (λ s. Grown base h.list s) (sym m.4) (trying base old h by m.0 e m.1 m.2 m.3)
keeps base (notes by) old new h m = subst (λ s. Grown base h.list s) (sym m.3) (noting_if base old h by m.0 m.0.pen refl m.1 m.2)
keeps base (notes_plainly by) old new h m = subst (λ s. Grown base h.list s) (sym m.3) (noting_plainly base old h by m.0 m.1 m.2)
keeps base (meets by other) old new h m =
    subst (λ s. Grown base h.list s) (sym m.6) (meeting_if base old h by other m.0 m.1 m.0.pen m.1.pen refl refl (record { at = m.2; seat = m.3; there = m.4; note = m.5 }))
keeps base (makes by) old new h m = subst (λ s. Grown base h.list s) (sym m.4) (making base old h by m.0 m.1 m.2)

-- a history at its start
pub starts : (base : ℕ) → OneHistory base (standing base (unopened_view ∷ []))
starts base = record {
  list = [];
  begun = None;
  word = omega arith;
  holder = 0;
  held = (unopened_view, refl, refl);
  each = λ j u at. first_fits j u (only_view unopened_view u j at);
  numbered = record {
    differ = λ i j v w a b _. absurd (none i v a);
    bounded = λ i j v z a b _. absurd (none i v a);
    named = λ j z a _. All-nil _;
  };
  opened = inl refl;
}
  where
    first_fits : (j : ℕ) (u : View) → (j ≡ 0) × (u ≡ unopened_view) → Fits 0 [] None j u
    first_fits j u is = subst (λ (y : ℕ × View). Fits 0 [] None y.0 y.1) (λ i. (sym is.0 i, sym is.1 i))
        (record { pen = λ _. (refl, refl); begun = λ _. refl; front = ([], refl); olds = All-nil _; mine = λ k. absurd (cc); knows = λ k. absurd (cc) })

    none : (j : ℕ) (u : View) → SitsAt (unopened_view ∷ []) j u → ⊥
    none j u sits = let k = ap (λ y. y.kind) (only_view unopened_view u j sits.0).1 in let s = sits.1 in absurd (cc)
