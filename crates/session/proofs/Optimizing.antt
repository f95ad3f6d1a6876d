-- From the merges of a session's OPTIMIZE to its answer.
use Rattle.std.proofs.Common.{◌≡◌, ◌⊎◌, ◌==◌, ℕ, ◌++◌, Bool, true, false, List, [], length, is_some, take, Option, Some, None, Result, Ok, Err, IfOk, IfSome, inl, inr, refl, sym, ap, ◌∙◌, subst, arith, append_assoc}
use Rattle.std.specs.List.{All}
use Rattle.std.specs.Option.{MatchOption}
use Rattle.std.proofs.lemmas.Bool.{false≢true}
use Rattle.std.proofs.lemmas.List.{take_all}
use Rattle.mt_base.specs.declared.memory.NoMemory.{NoMemory}
use Rattle.mt_base.specs.declared.partition.Partition.{Partition}
use Rattle.mt_values.specs.declared.schema.Schema.{Schema}
use Rattle.mt_values.specs.declared.statement.OptimizeText.{OptimizeText}
use Rattle.mt_values.specs.declared.statement.Statement.TheVariants as statement
use Rattle.mt_outside.specs.Files.{Files}
use Rattle.replies.specs.mt_model.declared.refusal.Refusal.TheVariants as refusal
use Rattle.replies.specs.mt_model.Commands.{commands_of, none_on}
use Rattle.replies.specs.mt_model.History.{History, schema_of}
use Rattle.replies.specs.mt_model.Outside.{LevelFailed, Outside, PartBusy, ReadOrStageFailed, TurnFailed}
use Rattle.replies.specs.mt_model.Refusals.{code_of, refusal_line}
use Rattle.replies.specs.mt_model.Reply.{ok_line}
use Rattle.replies.specs.mt_model.Session.{AddsNothing, TakesOptimize}
use Rattle.merge_workers.specs.shared_store.history_seat.declared.view.View.{View}
use Rattle.merge_workers.specs.shared_store.history_seat.Turns.{Looked}
use Rattle.merge_workers.specs.shared_store.history_seat.Views.{Begins}
use Rattle.merge_workers.specs.shared_store.Sharing.{AtOpening, schema_there}
use Rattle.merge_workers.specs.shared_store.Stood.{Premise, is_listed, is_told}
use Rattle.merge_workers.specs.shared_store.Tallies.{Tally}
use Rattle.merge_workers.specs.shared_store.part_name.PartNames.{IsPartition, partition_text}
use Rattle.merge_workers.specs.shared_store.mutation_queue.declared.scope.Scope.{Scope}
use Rattle.merge_workers.specs.shared_store.mutation_queue.Scopes.{InScope}
use Rattle.merge_workers.specs.shared_store.Works.{HasPair}
use Rattle.session.specs.Answers.{AccountsAt, FoundNoPair, HasPairOf, IsFinalAt, IsNamed, IsThere, ListsAsAsked, MergesAsAsked, MergesAt, StaysSession, TellsOfBusy, TellsOfHanded, WasMerged, WereIn, having, met_with, stops_of}
use Rattle.session.specs.Lapses.{Never}
use Rattle.merge_workers.proofs.MtModelHistories.{schema_kept}
use Rattle.session.proofs.Counting.{counts_of_none, other_code}
use Rattle.session.proofs.Merges.{busy_of, merged_of, merges_as, no_pair_of, tells_of}
use Rattle.session.proofs.Seats.{looked_own}

-- an OPTIMIZE has no command where its table is there
module _ (text : OptimizeText) (h : History) where
  pub no_command : (schema : Schema) → schema_of text.table h ≡ Some schema → commands_of h (statement.Optimize text) ≡ Ok []
  no_command schema there = ap (none_on text.table) there

  pub no_table_to_merge : schema_of text.table h ≡ None → commands_of h (statement.Optimize text) ≡ Err (refusal.NoTable text.table)
  no_table_to_merge none = ap (none_on text.table) none

-- a schema that is there
some_schema : (x : Option Schema) → is_some x ≡ true → (schema : Schema) × (x ≡ Some schema)
some_schema (Some schema) is = (schema, refl)
some_schema None is = cc

no_schema : (x : Option Schema) → is_some x ≡ false → x ≡ None
no_schema None is = refl
no_schema (Some schema) is = cc

module _ (given : Premise → Type 0) (before : History) (o : AtOpening) (text : OptimizeText) (list : History) where
  -- an OPTIMIZE has no command where its table is there, and is refused where it is not
  pub gives_none : IsThere given before o.tables list text.table true → given is_told → given is_listed → commands_of (before ++ list) (statement.Optimize text) ≡ Ok []
  gives_none there told known =
      let s = some_schema (schema_there o.tables list text.table) there.1 in
      no_command text (before ++ list) s.0 (there.0 told known ∙ s.1)

  pub gives_refusal : IsThere given before o.tables list text.table false → given is_told → given is_listed → commands_of (before ++ list) (statement.Optimize text) ≡ Err (refusal.NoTable text.table)
  gives_refusal there told known = no_table_to_merge text (before ++ list) (there.0 told known ∙ no_schema (schema_there o.tables list text.table) there.1)

-- it stays so
pub there_then_at : (given : Premise → Type 0) (before : History) (o : AtOpening) (text : OptimizeText) (first list : History) → Begins first list → IsThere given before o.tables first text.table true → given is_told → given is_listed
    → commands_of (before ++ list) (statement.Optimize text) ≡ Ok []
there_then_at given before o text first list b there told known =
    let s = some_schema (schema_there o.tables first text.table) there.1 in
    let whole = subst (λ (h : History). schema_of text.table h ≡ Some s.0) (append_assoc before first b.0 ∙ ap (λ (l : History). before ++ l) b.1) (schema_kept text.table (before ++ first) b.0 s.0 (there.0 told known ∙ s.1)) in
    no_command text (before ++ list) s.0 whole

-- ---- the replies

module _ (n : Outside) (h : History) (session from to : ℕ) (end : length h ≡ to) (nothing : AddsNothing h session from to) (text : OptimizeText) (reply : List ℕ) where
  front : take to h ≡ h
  front = take_all to h (omega (arith, end))

  pub optimize_refused_at : commands_of h (statement.Optimize text) ≡ Err (refusal.NoTable text.table) → reply ≡ refusal_line (refusal.NoTable text.table) → TakesOptimize n h session text from to reply
  optimize_refused_at is line = inr (refusal.NoTable text.table, ap (λ (x : History). commands_of x (statement.Optimize text)) front ∙ is, record { line = line; nothing = nothing })

  pub optimize_done_at : commands_of h (statement.Optimize text) ≡ Ok [] → reply ≡ ok_line to → TakesOptimize n h session text from to reply
  optimize_done_at is line = inl (ap (λ (x : History). commands_of x (statement.Optimize text)) front ∙ is, nothing, inl line)

  pub optimize_failed_at : commands_of h (statement.Optimize text) ≡ Ok [] → ReadOrStageFailed n reply ⊎ ((text.whole ≡ true) × (LevelFailed n reply ⊎ PartBusy n reply)) ⊎ TurnFailed n 0 reply → TakesOptimize n h session text from to reply
  optimize_failed_at is failed = inl (ap (λ (x : History). commands_of x (statement.Optimize text)) front ∙ is, nothing, inr failed)

-- ---- what stays, and what accounts for the reply

module _ (given : Premise → Type 0) (o : AtOpening) (whole : ℕ) (old new : Tally) (arm later : ℕ) (full : Bool) (Damage Busy : List ℕ → Type 0) (Shows : Type 0) (v w : View) where
  pub merged_stays : (found : Result (Option (List ℕ)) NoMemory) → MergesAt given o whole old new arm later full Damage Busy Shows found → new.out ≡ old.out → Looked v w.list w → StaysSession o whole (having v old arm) (having w new later)
  merged_stays found m out l = record { session = l.session; number = l.number; made = l.made; begins = l.begins; own_is = looked_own [] w.list v w l; parts = m.parts; out = out; since = m.since }

  -- all were done
  pub merged_accounts : (line : Result (List ℕ) NoMemory) (place : ℕ) → IfOk line (λ reply. reply ≡ ok_line place) → MergesAt given o whole old new arm later full Damage Busy Shows (Ok None) → AccountsAt o whole (having v old arm) (having w new later) Damage line
  merged_accounts (Ok reply) place ok m =
      let code : code_of reply ≡ 0 = ap code_of ok in
      let stops = m.stops in
      record {
        failed = λ e. absurd (other_code reply 0 15 code refl e);
        stops = omega (arith, stops, ap stops_of code);
        counts = counts_of_none (met_with o whole old arm) (met_with o whole new later) m.counts reply 0 code refl refl;
        damaged = λ bad. absurd (false≢true (sym (ap (λ (k : ℕ). k == 19) code) ∙ bad));
        memory = tt;
        later = m.since.arm;
      }
  merged_accounts (Err e) place ok m =
      let disk = m.counts.calm (λ is. cc) in
      record { failed = tt; stops = tt; counts = tt; damaged = tt; memory = (m.done.0, omega (arith, disk)); later = m.since.arm }

  -- one was refused
  pub stopped_accounts : (reply : List ℕ) → MergesAt given o whole old new arm later full Damage Busy Shows (Ok (Some reply)) → AccountsAt o whole (having v old arm) (having w new later) Damage (Ok reply)
  stopped_accounts reply m = record { failed = m.failed; stops = m.stops; counts = m.counts; damaged = m.damaged; memory = tt; later = m.since.arm }

  -- memory ran out
  pub ended_accounts_at : (e : NoMemory) → MergesAt given o whole old new arm later full Damage Busy Shows (Err e) → AccountsAt o whole (having v old arm) (having w new later) Damage (Err e)
  ended_accounts_at e m = record { failed = tt; stops = tt; counts = tt; damaged = tt; memory = m.memory; later = m.since.arm }

-- ---- what was asked for

module _ {F : Type 0} (files_of : F → Option Files) (given : Premise → Type 0) (before : History) (o : AtOpening) (whole : ℕ) (text : OptimizeText) where
  abbrev Final : Partition → Type 0
  Final p = IsFinalAt files_of given before o whole text.table p

  abbrev Comes : Type 0
  Comes = MergesAsAsked files_of given before o whole text

  -- with FINAL
  module _ (final : text.whole ≡ true) where
    not_pair : text.whole ≡ false → ⊥
    not_pair is = false≢true (sym is ∙ final)

    -- each partition of the table
    pub all_final : text.partition ≡ None → (partitions : List Partition) → ListsAsAsked files_of given before o text partitions → All Final partitions → Comes
    all_final none partitions listed each = record {
      final = λ is.
          subst (λ (id : Option (List ℕ)). MatchOption id ((ps : List Partition) × WereIn files_of given before o text.table ps × All Final ps) (λ _. (p : Partition) → IsNamed text text.table p → Final p)) (sym none)
          (partitions, listed final none, each);
      pair = λ is. absurd (not_pair is);
    }

    -- those that an id names
    pub named_final : (id : List ℕ) → text.partition ≡ Some id → ((p : Partition) → IsNamed text text.table p → Final p) → Comes
    named_final id named each = record {
      final = λ is.
          subst (λ (id : Option (List ℕ)). MatchOption id ((ps : List Partition) × WereIn files_of given before o text.table ps × All Final ps) (λ _. (p : Partition) → IsNamed text text.table p → Final p)) (sym named) each;
      pair = λ is. absurd (not_pair is);
    }

  -- without it
  pub pair_merged : text.whole ≡ false → WasMerged files_of given before o whole (IsNamed text) (HasPairOf o.policy (IsNamed text)) ⊎ FoundNoPair files_of given before o whole (IsNamed text) ⊎ ((t : List ℕ) (p : Partition) → IsNamed text t p → ⊥) → Comes
  pair_merged not is = record { final = λ bad. absurd (false≢true (sym not ∙ bad)); pair = λ _. is }

-- ---- which partitions are named

module _ (text : OptimizeText) where
  -- each of the table, where no id is there
  pub named_all : text.partition ≡ None → (t : List ℕ) (p : Partition) → t ≡ text.table → IsNamed text t p
  named_all none t p is = (is, subst (λ (x : Option (List ℕ)). IfSome x (λ id. IsPartition p × (partition_text p ≡ id))) (sym none) tt)

  module _ (id : List ℕ) (there : text.partition ≡ Some id) where
    named_by : (t : List ℕ) (p : Partition) → IsNamed text t p → IsPartition p × (partition_text p ≡ id)
    named_by t p is = subst (λ (x : Option (List ℕ)). IfSome x (λ i. IsPartition p × (partition_text p ≡ i))) there is.1

    -- the one that the id spells
    pub named_one : (q : Partition) → IsPartition q × (partition_text q ≡ id) → (t : List ℕ) (p : Partition) → t ≡ text.table → p ≡ q → IsNamed text t p
    named_one q spelled t p is same =
        (is, subst (λ (x : Option (List ℕ)). IfSome x (λ i. IsPartition p × (partition_text p ≡ i))) (sym there) (subst (λ (r : Partition). IsPartition r × (partition_text r ≡ id)) (sym same) spelled))

    pub one_named : (found : Option Partition) → ((p : Partition) → IsPartition p → partition_text p ≡ id → found ≡ Some p) → (q : Partition) → found ≡ Some q → (t : List ℕ) (p : Partition) → IsNamed text t p → p ≡ q
    one_named found read q is t p named = let n = named_by t p named in let same : Some p ≡ Some q = sym (read p n.0 n.1) ∙ is in cc

    -- none where it spells none
    pub none_named : (found : Option Partition) → ((p : Partition) → IsPartition p → partition_text p ≡ id → found ≡ Some p) → found ≡ None → (t : List ℕ) (p : Partition) → IsNamed text t p → ⊥
    none_named found read is t p named = let n = named_by t p named in let bad : Some p ≡ None = sym (read p n.0 n.1) ∙ is in cc

-- a pair of a scope that has just the partitions that are named
module _ {F : Type 0} (files_of : F → Option Files) (given : Premise → Type 0) (before : History) (o : AtOpening) (whole : ℕ) (old new : Tally) (arm later : ℕ) (text : OptimizeText) (not : text.whole ≡ false) (scope : Scope)
    (into : (t : List ℕ) (p : Partition) → InScope scope t p → IsNamed text t p) (back : (t : List ℕ) (p : Partition) → IsNamed text t p → InScope scope t p) where
  abbrev Pair : Type 0
  Pair = WasMerged files_of given before o whole (InScope scope) (HasPair o.policy scope) ⊎ FoundNoPair files_of given before o whole (InScope scope)

  pair_says : Pair → MergesAsAsked files_of given before o whole text
  pair_says (inl m) =
      pair_merged files_of given before o whole text not
      (inl (merged_of files_of given before o whole (InScope scope) (IsNamed text) into (HasPair o.policy scope) (HasPairOf o.policy (IsNamed text)) (λ store work has. (scope, λ t p. (into t p, back t p), has)) m))
  pair_says (inr n) = pair_merged files_of given before o whole text not (inr (inl (no_pair_of files_of given before o whole (InScope scope) (IsNamed text) back n)))

  pub asked_pair : (result : Result (Option (List ℕ)) NoMemory) → MergesAt given o whole old new arm later false (TellsOfHanded files_of given before o whole (InScope scope)) Never Pair result
      → MergesAt given o whole old new arm later text.whole (TellsOfHanded files_of given before o whole (IsNamed text)) (TellsOfBusy files_of given before o whole (IsNamed text)) (MergesAsAsked files_of given before o whole text) result
  asked_pair result m =
      merges_as given o whole old new arm later false text.whole (TellsOfHanded files_of given before o whole (InScope scope)) (TellsOfHanded files_of given before o whole (IsNamed text)) Never (TellsOfBusy files_of given before o whole (IsNamed text))
      Pair (MergesAsAsked files_of given before o whole text) (λ bad. cc) (tells_of files_of given before o whole (InScope scope) (IsNamed text) into) (λ reply never. absurd never) pair_says result m

-- with FINAL, of a table or of a partition
module _ {F : Type 0} (files_of : F → Option Files) (given : Premise → Type 0) (before : History) (o : AtOpening) (whole : ℕ) (old new : Tally) (arm later : ℕ) (text : OptimizeText) (final : text.whole ≡ true) (These : List ℕ → Partition → Type 0)
    (into : (t : List ℕ) (p : Partition) → These t p → IsNamed text t p) (Shows : Type 0) (says : Shows → MergesAsAsked files_of given before o whole text) where
  pub asked_final : (result : Result (Option (List ℕ)) NoMemory)
      → MergesAt given o whole old new arm later true (TellsOfHanded files_of given before o whole These) (TellsOfBusy files_of given before o whole These) Shows result
      → MergesAt given o whole old new arm later text.whole (TellsOfHanded files_of given before o whole (IsNamed text)) (TellsOfBusy files_of given before o whole (IsNamed text)) (MergesAsAsked files_of given before o whole text) result
  asked_final result m =
      merges_as given o whole old new arm later true text.whole (TellsOfHanded files_of given before o whole These) (TellsOfHanded files_of given before o whole (IsNamed text)) (TellsOfBusy files_of given before o whole These) (TellsOfBusy files_of given before o whole (IsNamed text))
      Shows (MergesAsAsked files_of given before o whole text) (λ any. final) (tells_of files_of given before o whole These (IsNamed text) into) (busy_of files_of given before o whole These (IsNamed text) into) says result m

-- where no partition is spelled so
module _ {F : Type 0} (files_of : F → Option Files) (given : Premise → Type 0) (before : History) (o : AtOpening) (whole : ℕ) (text : OptimizeText) (id : List ℕ) (there : text.partition ≡ Some id) (none : (t : List ℕ) (p : Partition) → IsNamed text t p → ⊥) where
  pub asked_none : MergesAsAsked files_of given before o whole text
  asked_none = by text.whole refl
    where
      by : (b : Bool) → text.whole ≡ b → MergesAsAsked files_of given before o whole text
      by true is = named_final files_of given before o whole text is id there (λ p named. absurd (none text.table p named))
      by false is = pair_merged files_of given before o whole text is (inr (inr none))
