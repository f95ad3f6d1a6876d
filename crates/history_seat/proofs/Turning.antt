-- A turn: what its halves do, and both together.
use Rattle.std.proofs.Common.{◌≡◌, ◌+◌, ◌≤◌, ◌∷◌, ◌++◌, [], ℕ, suc, All, List, true, false, cond, length, refl, sym, ap, ◌∙◌, subst, arith}
use Rattle.std.proofs.lemmas.List.Elements.{All-append, All-cons, All-nil}
use Rattle.mt_values.specs.declared.command.Entry.{Entry}
use Rattle.history_seat.specs.declared.view.View.{View}
use Rattle.history_seat.specs.Turns.{Added, Holds, IsLock, IsSession, Learned, Looked, Tried}
use Rattle.history_seat.specs.Views.{Begins, begun_of, grown, leading, met, note_of, own, with_try, without_pen}
use Rattle.history_seat.proofs.Fronts.{own_more}

-- what a load tells of a note that was taken in: all that was known begins what is known now
pub record MetKnown (v w : View) : Type 0 where
  pub first : Begins v.list (met v w).list
  pub second : Begins w.list (met v w).list
  pub olds : All (λ o. Begins o (met v w).list) v.olds

met_known : (base found : ℕ) (v w : View) → Learned base (met v w) found → MetKnown v w
met_known base found v w l = record { first = l.olds 0 [] (omega arith); second = l.olds 1 [] (omega arith); olds = λ k d b. l.olds (suc (suc k)) d (omega arith) }

-- a session that took in the note of the lock's seat, and with it the pen
pub turn_begins : (base found : ℕ) (lock v w u : View) → IsSession v → lock.pen ≡ true → w ≡ note_of lock → u ≡ met v w → Learned base u found → Holds v lock u
turn_begins base found lock v w u is pen noted same l =
    let whole : u ≡ met v (note_of lock) = same ∙ ap (λ x. met v x) noted in
    subst (λ x. Holds v lock x) (sym whole) (holds (subst (λ x. Learned base x found) whole l))
  where
    list : (met v (note_of lock)).list ≡ lock.list
    list = ap (λ b. leading b lock.pen v.list lock.list) is.1 ∙ ap (λ b. leading false b v.list lock.list) pen

    begun : (met v (note_of lock)).begun ≡ lock.begun
    begun = ap (λ b. begun_of b lock.pen v.begun lock.begun) is.1 ∙ ap (λ b. begun_of false b v.begun lock.begun) pen

    has : (met v (note_of lock)).pen ≡ true
    has = ap (λ b. cond b true lock.pen) is.1 ∙ pen

    holds : Learned base (met v (note_of lock)) found → Holds v lock (met v (note_of lock))
    holds l =
        let known = met_known base found v (note_of lock) l in record {
          session = is.0;
          pen = has;
          number = refl;
          made = refl;
          list = list;
          begins = subst (λ x. Begins v.list x) list known.first;
          olds = subst (λ (x : List Entry). All (λ o. Begins o x) v.olds) list known.olds;
          kept = refl;
          mine = l.mine has is.0 ∙ ap (λ x. own v.number x) list;
          named = λ zeroth. subst (λ (x : List Entry). All (λ (e : Entry). e.session ≤ v.made) x) list (l.named has is.0 zeroth);
          begun = begun;
          tried = refl;
          knows = l.knows has is.0;
        }

-- the number of entries, in a turn
pub turn_counts : (base found : ℕ) (v lock u : View) → Holds v lock u → Learned base u found → found ≡ base + length lock.list
turn_counts base found v lock u h l = l.word h.pen ∙ ap (λ x. base + length x) h.list

pub looks : (old lock held new : View) → Holds old lock held → new ≡ without_pen held → Looked old lock.list new
looks old lock held new h is =
    subst (λ x. Looked old lock.list x) (sym is) (record {
      session = (h.session, refl);
      number = h.number;
      made = h.made;
      list = h.list;
      begins = h.begins;
      olds = h.olds;
      kept = h.kept;
      mine = h.mine;
      named = λ zeroth. subst (λ n. All (λ (e : Entry). e.session ≤ n) lock.list) (sym h.made) (h.named (sym h.number ∙ zeroth));
      tried = h.tried;
      knows = h.knows;
    })

-- and what is begun is what the lock's seat had as that
pub finds : (old lock held new : View) → Holds old lock held → new ≡ without_pen held → new.begun ≡ lock.begun
finds old lock held new h is = ap (λ x. x.begun) is ∙ h.begun

pub tries_one : (old lock held new : View) (e : Entry) → Holds old lock held → e.session ≡ old.number → new ≡ without_pen (with_try held e) → Tried old lock.list e new
tries_one old lock held new e h named is =
    subst (λ x. Tried old lock.list e x) (sym is) (record {
      session = (h.session, refl);
      number = h.number;
      made = h.made;
      list = h.list;
      begins = h.begins;
      olds = h.olds;
      kept = h.kept;
      mine = h.mine;
      named = λ zeroth. subst (λ n. All (λ (x : Entry). x.session ≤ n) lock.list) (sym h.made) (h.named (sym h.number ∙ zeroth));
      tried = refl;
      knows = (λ _. refl, λ zeroth. let made : e.session ≤ held.made = (let number = h.number in omega (arith, named, number, zeroth)) in made);
    })

pub adds_one : (old lock held new : View) (e : Entry) → Holds old lock held → e.session ≡ old.number → new ≡ without_pen (grown held e) → Added old lock.list e new
adds_one old lock held new e h named is =
    let list = lock.list in
    subst (λ x. Added old list e x) (sym is) (record {
      session = (h.session, refl);
      number = h.number;
      made = h.made;
      list = ap (λ l. l ++ e ∷ []) h.list;
      begins = h.begins;
      olds = h.olds;
      kept = ap (λ l. l ++ e ∷ []) h.kept;
      mine = ap (λ l. l ++ e ∷ []) h.mine ∙ sym (own_more held.number list e (named ∙ sym h.number));
      named = λ zeroth.
          let first : old.number ≡ 0 = sym h.number ∙ zeroth in
          let below = subst (λ n. All (λ (x : Entry). x.session ≤ n) list) (sym h.made) (h.named first) in
          All-append (λ (x : Entry). x.session ≤ held.made) list (e ∷ []) below
          (All-cons (λ (x : Entry). x.session ≤ held.made) e [] (omega (arith, named, first)) (All-nil (λ (x : Entry). x.session ≤ held.made)));
      tried = refl;
      begun = refl;
    })

-- who has the pen and takes a note in keeps its list and the pen, and knows what is begun
pub takes_in : (v w u : View) → IsLock v → u ≡ met v w → IsLock u × (u.list ≡ v.list) × (u.begun ≡ v.begun)
takes_in v w u lock is = (
  (ap (λ x. x.kind) is ∙ lock.0, ap (λ x. x.pen) is ∙ ap (λ b. cond b true w.pen) lock.1),
  ap (λ x. x.list) is ∙ ap (λ b. leading b w.pen v.list w.list) lock.1,
  ap (λ x. x.begun) is ∙ ap (λ b. begun_of b w.pen v.begun w.begun) lock.1,
)

-- and learns that the note's list is a front of it
pub takes_front : (base found : ℕ) (v w u : View) → v.pen ≡ true → u ≡ met v w → Learned base u found → Begins w.list v.list
takes_front base found v w u pen is l =
    subst (λ b. Begins w.list (leading b w.pen v.list w.list)) pen (met_known base found v w (subst (λ x. Learned base x found) is l)).second
