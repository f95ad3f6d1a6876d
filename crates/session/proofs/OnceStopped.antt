-- What a session's statement does once its share has counted a stop: nothing is accepted any more, and no commit fails again.
use Rattle.std.proofs.Common.{◌≡◌, inl, inr, ◌==◌, ◌||◌, if◌then◌else◌, ℕ, ◌<◌, ◌≤◌, Bool, true, false, cond, List, Option, Some, None, Result, Ok, Err, IfOk, IsErr, nat_lt, refl, sym, ap, ◌∙◌, subst, arith}
use Rattle.std.proofs.lemmas.Bool.Decides.{nat_tests}
use Rattle.mt_base.specs.declared.memory.NoMemory.{NoMemory}
use Rattle.mt_values.specs.declared.schema.Schema.{Schema}
use Rattle.mt_values.specs.Grid.{Grid}
use Rattle.mt_outside.specs.Files.{Files}
use Rattle.replies.specs.mt_model.History.{History}
use Rattle.replies.specs.mt_model.Refusals.{code_of}
use Rattle.replies.specs.Foreseen.{is_unsettled}
use Rattle.merge_workers.specs.shared_store.durable_commit.declared.causes.Limit.TheVariants as limit
use Rattle.merge_workers.specs.shared_store.durable_commit.declared.causes.Refused.{Refused}
use Rattle.merge_workers.specs.shared_store.durable_commit.declared.causes.Refused.TheVariants as refused
use Rattle.merge_workers.specs.shared_store.durable_commit.Commits.{IsOutside, entry_of}
use Rattle.merge_workers.specs.shared_store.history_seat.declared.view.View.{View}
use Rattle.merge_workers.specs.shared_store.history_seat.Turns.{Added, AddsNone, Looked}
use Rattle.merge_workers.specs.shared_store.history_seat.Views.{Begins}
use Rattle.merge_workers.specs.shared_store.root_commits.declared.commits.Returned.{Returned}
use Rattle.merge_workers.specs.shared_store.root_commits.Commits.{IsCause, partition_of_block}
use Rattle.merge_workers.specs.shared_store.root_store.declared.store.CoreStore.{CoreStore}
use Rattle.merge_workers.specs.shared_store.root_store.declared.store.Table.{Table}
use Rattle.merge_workers.specs.shared_store.root_store.Stores.{table_at}
use Rattle.merge_workers.specs.shared_store.declared.work.Work.{Work}
use Rattle.merge_workers.specs.shared_store.Handed.{insert_there}
use Rattle.merge_workers.specs.shared_store.Sharing.{AtOpening, schema_there}
use Rattle.merge_workers.specs.shared_store.Stood.{Premise}
use Rattle.merge_workers.specs.shared_store.Tallies.{Tally}
use Rattle.merge_workers.specs.shared_store.Turns.{AtTurn, HasTurn, ShowsCreate, ShowsPart, ShowsRefused}
use Rattle.session.specs.Answers.{AccountsAt, Having, StaysStopped, having, stops_of}
use Rattle.session.specs.declared.turns.TurnReply.{TurnReply}
use Rattle.session.specs.Stops.{IsLineOf}
use Rattle.session.specs.Turns.{replied}
use Rattle.merge_workers.proofs.SharedStoreSchemas.{table_of, there_begins}
use Rattle.session.proofs.Gaining.{still_added, still_created, still_part_refused, still_refused}

-- ---- where no commit was tried

-- a reply that tells of no stop says of no commit that it failed
no_stop_said : (code : ℕ) → stops_of code ≡ 0 → (code == 16) ≡ false
no_stop_said code none = by (code == 16) refl
  where
    by : (b : Bool) → (code == 16) ≡ b → (code == 16) ≡ false
    by true is = absurd (let one : stops_of code ≡ 1 = ap (λ (b : Bool). if b || (code == 17) then 1 else 0) is in omega (arith, one, none))
    by false is = is

module _ (o : AtOpening) (whole : ℕ) (old new : Having) (Damage : List ℕ → Type 0) (mine : new.seat.mine ≡ old.seat.mine) (stops : new.share.stops ≡ old.share.stops) where
  pub still_stopped : (result : Result (List ℕ) NoMemory) → AccountsAt o whole old new Damage result → StaysStopped old new result
  still_stopped (Ok reply) has = λ some. (mine, no_stop_said (code_of reply) (let counted = has.stops in omega (arith, counted, stops)))
  still_stopped (Err e) has = λ some. (mine, tt)

pub stopped_none : (seat : View) (share : Tally) (arm : ℕ) (e : NoMemory) → StaysStopped (having seat share arm) (having seat share arm) (Err e)
stopped_none seat share arm e = λ some. (refl, tt)

pub stopped_looked : (seat now : View) (share : Tally) (arm : ℕ) (e : NoMemory) → Looked seat now.list now → StaysStopped (having seat share arm) (having now share arm) (Err e)
stopped_looked seat now share arm e l = λ some. (l.kept, tt)

-- a reply to a command that the disk did not refuse
pub unless_disk : (accepted : ℕ) (table : List ℕ) (cause : Refused) (reply : List ℕ) → IsLineOf accepted table cause reply → (cause ≡ refused.Disk → ⊥) → is_unsettled reply ≡ false
unless_disk accepted table refused.NoMemory reply line other = absurd line
unless_disk accepted table refused.Disk reply line other = absurd (other refl)
unless_disk accepted table (refused.Stopped opened now) reply line other = ap is_unsettled line
unless_disk accepted table refused.Exists reply line other = ap is_unsettled line
unless_disk accepted table (refused.Limit limit.Tables) reply line other = ap is_unsettled line
unless_disk accepted table (refused.Limit limit.Parts) reply line other = ap is_unsettled line
unless_disk accepted table (refused.Limit limit.Numbers) reply line other = ap is_unsettled line
unless_disk accepted table (refused.Limit limit.Levels) reply line other = ap is_unsettled line

-- ---- at a turn

disk_outside : (cause : Refused) → cause ≡ refused.Disk → IsOutside (Some cause)
disk_outside cause is = subst (λ (c : Refused). IsOutside (Some c)) (sym is) tt

-- where the outside refused, the count was the one at opening
module _ {F : Type 0} (files_of : F → Option Files) (given : Premise → Type 0) (before : History) (o : AtOpening) (found : History) (whole : ℕ) (old : Tally) (Shows : CoreStore F → ℕ → Type 0) (t : AtTurn files_of given before o found whole old Shows) where
  low : t.store.opened ≤ t.failed
  low = let since = t.since in let met = t.met in let at = t.opened_is in omega (arith, since, met, at)

  create_calm : (table : List ℕ) (cause : Refused) → ShowsCreate table (Some cause) t.store t.failed → IsOutside (Some cause) → t.failed ≡ t.store.opened
  create_calm table cause shows outside = still_refused t.store table t.failed low cause shows outside

  part_calm : (table : List ℕ) (block : Grid) (m : Table) → table_at t.store table ≡ Some m → (cause : Refused) → ShowsPart table block (Some cause) t.store t.failed → IsOutside (Some cause) → t.failed ≡ t.store.opened
  part_calm table block m at cause shows outside = still_part_refused t.store table t.failed low (partition_of_block m.schema block) m.drawn cause (shows m at) outside

  pub create_unrisen : (table : List ℕ) (cause : Refused) → ShowsCreate table (Some cause) t.store t.failed → cause ≡ refused.Disk → t.failed ≡ t.store.opened
  create_unrisen table cause shows is = create_calm table cause shows (disk_outside cause is)

  pub part_unrisen : (table : List ℕ) (block : Grid) (m : Table) → table_at t.store table ≡ Some m → (cause : Refused) → ShowsPart table block (Some cause) t.store t.failed → cause ≡ refused.Disk → t.failed ≡ t.store.opened
  part_unrisen table block m at cause shows is = part_calm table block m at cause shows (disk_outside cause is)

  pub put_unrisen : (work : Work F) (cause : Refused) → ShowsRefused work cause t.store t.failed → cause ≡ refused.Disk → t.failed ≡ t.store.opened
  put_unrisen work cause shows is = elim shows [
    | inl (full, any, levels) ↦ (let bad : refused.Limit limit.Levels ≡ refused.Disk = sym levels ∙ is in cc)
    | inr shown ↦ by (nat_lt t.store.opened t.failed) refl shown
  ]
    where
      by : (b : Bool) → nat_lt t.store.opened t.failed ≡ b → IsCause (cond b (Some (refused.Stopped t.store.opened t.failed)) None) (Some cause) → t.failed ≡ t.store.opened
      by true risen said =
          let bad : Some refused.Disk ≡ Some (refused.Stopped t.store.opened t.failed) = ap (λ (c : Refused). Some c) (sym is) ∙ said in
          cc
      by false risen said =
          let most : t.failed ≤ t.store.opened = grind (arith, nat_tests, risen) in
          let least = low in
          omega (arith, most, least)

-- a share that has counted a stop finds it above that
module _ {F : Type 0} (files_of : F → Option Files) (given : Premise → Type 0) (before : History) (o : AtOpening) (found : History) (whole : ℕ) (old : Tally) (Shows : CoreStore F → ℕ → Type 0) (t : AtTurn files_of given before o found whole old Shows) (some : 0 < old.stops) where
  high : t.failed ≡ t.store.opened → ⊥
  high same = let risen = t.risen some in let at = t.opened_is in absurd (omega (arith, risen, at, same))

  pub create_not_outside : (table : List ℕ) (cause : Refused) → ShowsCreate table (Some cause) t.store t.failed → IsOutside (Some cause) → ⊥
  create_not_outside table cause shows outside = high (create_calm files_of given before o found whole old Shows t table cause shows outside)

  pub part_not_outside : (table : List ℕ) (block : Grid) (m : Table) → table_at t.store table ≡ Some m → (cause : Refused) → ShowsPart table block (Some cause) t.store t.failed → IsOutside (Some cause) → ⊥
  part_not_outside table block m at cause shows outside = high (part_calm files_of given before o found whole old Shows t table block m at cause shows outside)

  pub create_stopped : (table : List ℕ) → ShowsCreate table None t.store t.failed → ⊥
  create_stopped table shows = high (still_created t.store table t.failed (low files_of given before o found whole old Shows t) shows)

  pub create_not_failed : (table : List ℕ) (cause : Refused) → ShowsCreate table (Some cause) t.store t.failed → cause ≡ refused.Disk → ⊥
  create_not_failed table cause shows is = create_not_outside table cause shows (disk_outside cause is)

  pub part_stopped : (table : List ℕ) (block : Grid) (m : Table) → table_at t.store table ≡ Some m → ShowsPart table block None t.store t.failed → ⊥
  part_stopped table block m at shows = high (still_added t.store table t.failed (low files_of given before o found whole old Shows t) (partition_of_block m.schema block) m.drawn (shows m at))

  pub part_not_failed : (table : List ℕ) (block : Grid) (m : Table) → table_at t.store table ≡ Some m → (cause : Refused) → ShowsPart table block (Some cause) t.store t.failed → cause ≡ refused.Disk → ⊥
  part_not_failed table block m at cause shows is = part_not_outside table block m at cause shows (disk_outside cause is)

  pub put_not_failed : (work : Work F) (cause : Refused) → ShowsRefused work cause t.store t.failed → cause ≡ refused.Disk → ⊥
  put_not_failed work cause shows is = high (put_unrisen files_of given before o found whole old Shows t work cause shows is)

-- ---- the replies to turns that were refused

pub said_stopped : (accepted : ℕ) (table : List ℕ) (cause : Refused) → (cause ≡ refused.Disk → ⊥) → (line : Result (List ℕ) NoMemory) → IfOk line (IsLineOf accepted table cause) → IfOk line (λ reply. is_unsettled reply ≡ false)
said_stopped accepted table cause other (Ok reply) said = unless_disk accepted table cause reply said other
said_stopped accepted table cause other (Err e) said = tt

-- memory ran out after a turn
pub ended_stopped : (old new : Having) → new.seat.mine ≡ old.seat.mine → (result : Result TurnReply NoMemory) → IsErr result → StaysStopped old new (replied result)
ended_stopped old new mine (Ok x) is = cc
ended_stopped old new mine (Err e) is = λ some. (mine, tt)

pub ended_stopped_at : (old new : Having) → new.seat.mine ≡ old.seat.mine → (result : Result (List ℕ) NoMemory) → IsErr result → StaysStopped old new result
ended_stopped_at old new mine (Ok x) is = cc
ended_stopped_at old new mine (Err e) is = λ some. (mine, tt)

-- ---- a block's turn, by the schema that its table has

module _ {F : Type 0} (files_of : F → Option Files) (given : Premise → Type 0) (before : History) (o : AtOpening) (whole : ℕ) (found : History) (table : List ℕ) (schema : Schema) (block : Grid)
    (v w : View) (share now : Tally) (calls : ℕ) (there : schema_there o.tables v.list table ≡ Some schema) (some : 0 < share.stops) where
  abbrev Enters : {S : Type 0} → Result ℕ (Returned S) → Type 0
  Enters {S} result = HasTurn {F = F} {S = S} files_of given before o found whole calls (entry_of v.number (insert_there o.tables v.list table block)) (ShowsPart table block) v w share now result

  has_table : (begins : Begins v.list found) → (cause : Option Refused) → (t : AtTurn files_of given before o found whole share (ShowsPart table block cause)) → (m : Table) × (table_at t.store table ≡ Some m) × (m.schema ≡ schema)
  has_table begins cause t = table_of t.store table schema (t.fits.schemas table ∙ there_begins o.tables v.list found table schema begins there)

  pub enter_stopped : {S : Type 0} (x : ℕ) → Enters {S = S} (Ok x) → ⊥
  enter_stopped x turn =
      let t = turn.turn.turn in
      let a : Added v found _ w = turn.seat.0 in
      let m = has_table a.begins None t in
      part_stopped files_of given before o found whole share (ShowsPart table block None) t some table block m.0 m.1 t.shows

  pub enter_not_outside : {S : Type 0} (r : Returned S) → Enters (Err r) → IsOutside (Some r.cause) → ⊥
  enter_not_outside r turn =
      let t = turn.turn.turn in
      let l : AddsNone v found _ w = turn.seat in
      let m = has_table l.begins (Some r.cause) t in
      part_not_outside files_of given before o found whole share (ShowsPart table block (Some r.cause)) t some table block m.0 m.1 r.cause t.shows

  pub enter_not_failed : {S : Type 0} (r : Returned S) → Enters (Err r) → r.cause ≡ refused.Disk → ⊥
  enter_not_failed r turn =
      let t = turn.turn.turn in
      let l : AddsNone v found _ w = turn.seat in
      let m = has_table l.begins (Some r.cause) t in
      part_not_failed files_of given before o found whole share (ShowsPart table block (Some r.cause)) t some table block m.0 m.1 r.cause t.shows
