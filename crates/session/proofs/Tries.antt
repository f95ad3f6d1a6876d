-- What a statement of a session tried.
use Rattle.std.proofs.Common.{◌≡◌, ℕ, ◌+◌, ◌<◌, true, List, [], ◌∷◌, ◌++◌, take, Option, Some, None, Result, Ok, Err, IfErr, IfOk, IsErr, IsNone, inl, inr, refl, sym, ap, ◌∙◌, subst, arith}
use Rattle.std.proofs.lemmas.Bool.{cases_lt}
use Rattle.mt_base.specs.declared.memory.NoMemory.{NoMemory}
use Rattle.mt_values.specs.declared.command.Command.{Command}
use Rattle.mt_values.specs.declared.command.Entry.{Entry}
use Rattle.mt_values.specs.declared.schema.Schema.{Schema}
use Rattle.mt_values.specs.declared.statement.CreateText.{CreateText}
use Rattle.mt_values.specs.declared.statement.Statement.TheVariants as statement
use Rattle.mt_values.specs.Grid.{Grid}
use Rattle.mt_outside.specs.Files.{Files}
use Rattle.mt_values.specs.Script.{Item}
use Rattle.replies.specs.mt_model.History.{History}
use Rattle.replies.specs.mt_model.Reply.{schema_of_text}
use Rattle.replies.specs.mt_model.Session.{IsNextCommand, StopsAfter}
use Rattle.replies.specs.Foreseen.{is_unsettled}
use Rattle.replies.proofs.MtModelGrowing.{stays}
use Rattle.merge_workers.specs.shared_store.durable_commit.declared.causes.Refused.{Refused}
use Rattle.merge_workers.specs.shared_store.durable_commit.declared.causes.Refused.TheVariants as refused
use Rattle.merge_workers.specs.shared_store.durable_commit.Commits.{IsOutside, entry_of}
use Rattle.merge_workers.specs.shared_store.history_seat.declared.view.View.{View}
use Rattle.merge_workers.specs.shared_store.history_seat.Turns.{AddsNone, Looked}
use Rattle.merge_workers.specs.shared_store.root_commits.declared.commits.Returned.{Returned}
use Rattle.merge_workers.specs.shared_store.Handed.{insert_there}
use Rattle.merge_workers.specs.shared_store.Sharing.{AtOpening, schema_there}
use Rattle.merge_workers.specs.shared_store.Stood.{Premise}
use Rattle.merge_workers.specs.shared_store.Tallies.{Tally, stops_in}
use Rattle.merge_workers.specs.shared_store.Turns.{HasTurn, IsBack, ShowsCreate, ShowsPart, left_of}
use Rattle.session.specs.Answers.{KnowsOwn, SaysTried, TriesAt, TriesCommand, TriesFrom, Having, having, place_of}
use Rattle.session.specs.declared.turns.TurnReply.{TurnReply}
use Rattle.session.specs.Stops.{IsLineOf}
use Rattle.session.specs.Turns.{replied}
use Rattle.session.proofs.Creating.{create_gives, created}
use Rattle.session.proofs.Inserting.{inserted}
use Rattle.session.proofs.Commits.{command_is, looked_at, looked_end}
use Rattle.session.proofs.Running.{tries_then}
use Rattle.session.proofs.OnceStopped.{create_not_outside, enter_not_outside}

-- who had no turn tried nothing
pub tries_here : (given : Premise → Type 0) (before : History) (st : Item) (seat : View) (share : Tally) (arm later : ℕ) (result : Result (List ℕ) NoMemory) → TriesAt given before st (having seat share arm) (having seat share later) result
tries_here given before st seat share arm later result = inl (inl (refl, refl))

-- who only looked tried nothing
pub tries_looked : (given : Premise → Type 0) (before : History) (st : Item) (seat now : View) (share : Tally) (arm later : ℕ) (result : Result (List ℕ) NoMemory) → Looked seat now.list now → TriesAt given before st (having seat share arm) (having now share later) result
tries_looked given before st seat now share arm later result l = inl (inl (l.tried, l.kept))

-- what was tried after a look was tried from before it on
pub tries_from_looked : (given : Premise → Type 0) (before : History) (st : Item) (from : ℕ) (v w : View) (share other : Tally) (arm here : ℕ) → Looked v w.list w → (new : Having) (result : Result (List ℕ) NoMemory) → TriesFrom given before st from (having w other here) new result
    → TriesFrom given before st from (having v share arm) new result
tries_from_looked given before st from v w share other arm here l new result (inl none) = inl (tries_then (having v share arm) (having w other here) new (inl (l.tried, l.kept)) none)
tries_from_looked given before st from v w share other arm here l new result (inr (c, is, says, next)) =
    inr (c, is ∙ ap (λ (k : ℕ). Some (entry_of k c)) l.number, says, λ told known. subst (λ (k : ℕ). IsNextCommand (before ++ new.seat.list) k st from (place_of before new.seat) c) l.number (next told known))

-- ---- what a turn that was refused says of a try

-- the disk failed, or memory ran out
outside_is : (c : Refused) → IsOutside (Some c) → (c ≡ refused.Disk → ⊥) → stops_in (Some c) ≡ 0
outside_is refused.NoMemory outside other = refl
outside_is refused.Disk outside other = absurd (other refl)
outside_is (refused.Stopped o n) outside other = absurd outside
outside_is refused.Exists outside other = absurd outside
outside_is (refused.Limit l) outside other = absurd outside

-- a reply to a command that the outside refused says that its commit failed
outside_says : (accepted : ℕ) (table : List ℕ) (c : Refused) (reply : List ℕ) → IsOutside (Some c) → IsLineOf accepted table c reply → is_unsettled reply ≡ true
outside_says accepted table refused.NoMemory reply outside line = absurd line
outside_says accepted table refused.Disk reply outside line = ap is_unsettled line
outside_says accepted table (refused.Stopped o n) reply outside line = absurd outside
outside_says accepted table refused.Exists reply outside line = absurd outside
outside_says accepted table (refused.Limit l) reply outside line = absurd outside

module _ (accepted : ℕ) (table : List ℕ) (c : Refused) (outside : IsOutside (Some c)) (old new : ℕ) (counted : new ≡ old + stops_in (Some c)) (calm : 0 < old → ⊥) where
  pub says_tried : (line : Result (List ℕ) NoMemory) → IfOk line (IsLineOf accepted table c) → IfErr line (λ _. c ≡ refused.Disk → ⊥) → SaysTried new line
  says_tried (Ok reply) said other = outside_says accepted table c reply outside said
  says_tried (Err e) said other =
      let none = outside_is c outside other in
      elim (cases_lt 0 old) [ inl some ↦ absurd (calm some) | inr most ↦ omega (arith, counted, none, most) ]

-- ---- a CREATE

module _ {F : Type 0} (files_of : F → Option Files) (given : Premise → Type 0) (before : History) (o : AtOpening) (whole : ℕ) (found : History) (text : CreateText) (schema : Schema) (says : schema_of_text text ≡ Ok schema)
    (v w : View) (old new : Tally) (arm later calls : ℕ) (knows : KnowsOwn v) where
  abbrev made : Command
  made = created text schema says

  abbrev e : Entry
  e = entry_of v.number made

  module _ {S : Type 0} (r : Returned S) (turn : HasTurn {F = F} {S = S} files_of given before o found whole calls e (ShowsCreate text.table) v w old new (Err r)) (sealed : S) (back : IsBack sealed r) where
    pub create_tries : (line : Result (List ℕ) NoMemory) → IfOk line (IsLineOf 0 text.table r.cause) → IfErr line (λ _. r.cause ≡ refused.Disk → ⊥) → TriesAt given before (Ok (statement.Create text)) (having v old arm) (having w new later) line
    create_tries line said other = by r.back refl
      where
        l : AddsNone v found (left_of r.back e v.tried) w
        l = turn.seat

        -- it is the next command of the CREATE
        stops : StopsAfter (before ++ w.list) v.number (statement.Create text) (place_of before v) (place_of before w) [] (made ∷ [])
        stops =
            let end = looked_end before found v w l in
            record {
              seen = place_of before w;
              place = place_of before w;
              nothing = looked_at before found v w l knows;
              gives = create_gives text schema says (take (place_of before w) (before ++ w.list));
              accepted = refl;
              no_more = stays (before ++ w.list) v.number (place_of before w) (omega (arith, end));
            }

        by : (b : Option S) → r.back ≡ b → TriesAt given before (Ok (statement.Create text)) (having v old arm) (having w new later) line
        by (Some s) is = inl (inl (subst (λ (b : Option S). w.tried ≡ left_of b e v.tried) is l.tried, l.kept))
        by None is =
            let outside = back.given (subst (λ (b : Option S). IsNone b) (sym is) refl) in
            let t = turn.turn.turn in
            inr (
              made,
              subst (λ (b : Option S). w.tried ≡ left_of b e v.tried) is l.tried,
              says_tried 0 text.table r.cause outside old.stops new.stops (ap (λ (x : Tally). x.stops) turn.turn.counted.counted)
                  (λ some. create_not_outside files_of given before o found whole old (ShowsCreate text.table (Some r.cause)) t some text.table r.cause t.shows outside) line said other,
              λ told known. ([], [], stops),
            )

-- ---- a block

module _ {F : Type 0} (files_of : F → Option Files) (given : Premise → Type 0) (before : History) (o : AtOpening) (whole : ℕ) (found : History) (table : List ℕ) (schema : Schema) (block : Grid) (accepted : ℕ)
    (v w : View) (old new : Tally) (arm later calls : ℕ) (there : schema_there o.tables v.list table ≡ Some schema) where
  abbrev entered : Entry
  entered = entry_of v.number (insert_there o.tables v.list table block)

  module _ {S : Type 0} (r : Returned S) (turn : HasTurn {F = F} {S = S} files_of given before o found whole calls entered (ShowsPart table block) v w old new (Err r)) (sealed : S) (back : IsBack sealed r) where
    block_by : (line : Result (List ℕ) NoMemory) → IfOk line (IsLineOf accepted table r.cause) → IfErr line (λ _. r.cause ≡ refused.Disk → ⊥) → TriesCommand (inserted schema table block) (having v old arm) (having w new later) line
    block_by line said other = by r.back refl
      where
        l : AddsNone v found (left_of r.back entered v.tried) w
        l = turn.seat

        by : (b : Option S) → r.back ≡ b → TriesCommand (inserted schema table block) (having v old arm) (having w new later) line
        by (Some s) is = inl (inl (subst (λ (b : Option S). w.tried ≡ left_of b entered v.tried) is l.tried, l.kept))
        by None is =
            let outside = back.given (subst (λ (b : Option S). IsNone b) (sym is) refl) in
            let same = command_is files_of given before o whole found table schema block accepted v w old new arm later calls there in
            inr (
              subst (λ (b : Option S). w.tried ≡ left_of b entered v.tried) is l.tried ∙ ap (λ (c : Command). Some (entry_of v.number c)) same,
              l.kept,
              says_tried accepted table r.cause outside old.stops new.stops (ap (λ (x : Tally). x.stops) turn.turn.counted.counted)
                  (λ some. enter_not_outside files_of given before o whole found table schema block v w old new calls there some r turn outside) line said other,
            )

    pub block_tries : (reply : List ℕ) → IsLineOf accepted table r.cause reply → TriesCommand (inserted schema table block) (having v old arm) (having w new later) (Ok reply)
    block_tries reply said = block_by (Ok reply) said tt

    pub block_tries_ended : (result : Result TurnReply NoMemory) → IsErr result → (r.cause ≡ refused.Disk → ⊥) → TriesCommand (inserted schema table block) (having v old arm) (having w new later) (replied result)
    block_tries_ended (Ok x) is other = cc
    block_tries_ended (Err e) is other = block_by (Err e) tt other
