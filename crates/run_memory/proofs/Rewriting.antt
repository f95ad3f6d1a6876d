-- Rewrites of parts that stand for a history, by the first of the mutations for which they wait.
use Rattle.std.proofs.Common.{◌≡◌, ◌+◌, ◌-◌, ◌<◌, ◌≤◌, ℕ, Bool, true, false, cond, List, [], ◌∷◌, ◌++◌, Some, None, All, arith, drop, get_or, length, suc, take, zero, sym, ap, ◌∙◌, subst}
use Rattle.std.proofs.lemmas.Bool.Decides.{nat_tests}
use Rattle.std.specs.Prelude.{filter, nat_le, nat_lt, slice_get}
use Rattle.std.specs.List.{AllByRecursion}
use Rattle.std.proofs.Math.Seq.{drop-cons}
use Rattle.std.proofs.lemmas.List.{drop_all}
use Rattle.std.proofs.lemmas.List.Elements.{All-filter, All-from_recursion, filter_more, filter_passes}
use Rattle.std.proofs.lemmas.List.Sums.{fold-append}
use Rattle.std.proofs.lemmas.Option.{get_or_from_slice_get, slice_get_within}
use Rattle.mt_base.specs.declared.partition.Partition.{Partition}
use Rattle.mt_values.specs.declared.command.Command.TheVariants as command
use Rattle.mt_values.specs.declared.mutation.Mutation.{Mutation}
use Rattle.mt_values.specs.Changes.{changed, mutated}
use Rattle.mt_values.specs.Tables.{same_partition}
use Rattle.mt_values.specs.Values.{Row}
use Rattle.table_core.specs.mt_model.History.{History}
use Rattle.table_core.specs.mt_model.Numbers.{IsNumberOfMutation, mutations_in, numbered}
use Rattle.table_core.specs.part_history.declared.part.CorePart.{CorePart}
use Rattle.table_core.specs.part_history.Merges.{RewriteLeaves}
use Rattle.table_core.specs.part_history.Parts.{PartStands, parts_in}
use Rattle.table_core.specs.part_name.Pending.{pending_for, pending_upto}
use Rattle.table_core.specs.part_name.PartNames.{data_version}
use Rattle.table_core.specs.declared.event.Put.{Put}
use Rattle.table_core.specs.declared.event.Task.{Task}
use Rattle.table_core.specs.declared.event.Task.TheVariants as task
use Rattle.table_core.specs.Core.{Core, IsCore}
use Rattle.table_core.specs.Steps.{AreMade, MayPut, beside, sources_among}
use Rattle.table_core.proofs.PartHistoryJoined.{StandsAmong, numbers_among}

-- ---- what is at a place of a list

pub all_at : {X : Type 0} (P : X → Type 0) (xs : List X) (k : ℕ) (x : X) → All P xs → slice_get xs k ≡ Some x → P x
all_at P xs k x all is = subst P (get_or_from_slice_get xs k x x is) (all k x (slice_get_within xs k x is))

take_here : {X : Type 0} (xs : List X) (n : ℕ) (x : X) → slice_get xs n ≡ Some x → take 1 (drop n xs) ≡ x ∷ []
take_here [] n x is = cc
take_here (y ∷ xs) zero x is = ap (λ z. z ∷ []) (some_is is)
  where
    some_is : Some y ≡ Some x → y ≡ x
    some_is e = cc
take_here (y ∷ xs) (suc n) x is = take_here xs n x is

-- ---- the numbers of mutations

number_is : (table : List ℕ) (h : History) (m : Mutation) → StandsAmong 1 (numbered table h) m → IsNumberOfMutation table m.number h
number_is table h m s = record { from_one = s.from; alter = s.alter; there = s.there }

numbers_in : (table : List ℕ) (h : History) → All (λ (m : Mutation). IsNumberOfMutation table m.number h) (mutations_in table h)
numbers_in table h = All-from_recursion (λ (m : Mutation). IsNumberOfMutation table m.number h) (mutations_in table h) (each (mutations_in table h) (numbers_among 1 (numbered table h)))
  where
    each : (ms : List Mutation) → AllByRecursion (StandsAmong 1 (numbered table h)) ms → AllByRecursion (λ (m : Mutation). IsNumberOfMutation table m.number h) ms
    each [] all = tt
    each (m ∷ ms) all = (number_is table h m all.0, each ms all.1)

above : (m n : ℕ) → nat_lt m n ≡ true → m < n
above m n is = grind (arith, nat_tests)

-- ---- a rewrite

-- a put may come whose rows are those of its one source after the mutations for which it waits, up to one of these
pub rewrite_may : (core : Core) (m : Put) (source : CorePart) (last : Mutation) (place : ℕ) → m.task ≡ task.Rewrite last.number → m.sources.count ≡ 1 → IsCore core
    → slice_get (parts_in m.sources.partition (beside core m.sources)) m.sources.first ≡ Some source
    → slice_get (pending_for (mutations_in m.sources.table core.history) source.name) place ≡ Some last
    → m.rows ≡ mutated (pending_upto last.number (mutations_in m.sources.table core.history) source.name) source.rows → MayPut core m
rewrite_may core m source last place rewrites one is found waits rows = λ schema there neighbours.
    let h = core.history in
    let own = parts_in m.sources.partition (beside core m.sources) in
    let within = λ (p : CorePart). same_partition p.name.partition m.sources.partition in
    let stands = is.parts m.sources.table in
    let here : sources_among (beside core m.sources) m.sources ≡ source ∷ [] = ap (λ (n : ℕ). take n (drop m.sources.first own)) one ∙ take_here own m.sources.first source found in
    let named = λ (p : CorePart). p.table ≡ m.sources.table in
    let table_is : source.table ≡ m.sources.table = all_at named own m.sources.first source (All-filter within named (beside core m.sources) stands.own) found in
    let part : PartStands h source = all_at (PartStands h) own m.sources.first source (All-filter within (PartStands h) (beside core m.sources) stands.each) found in
    let ms = mutations_in m.sources.table h in
    let later = λ (x : Mutation). nat_lt (data_version source.name) x.number in
    let numbers = λ (x : Mutation). IsNumberOfMutation m.sources.table x.number h in
    let number : IsNumberOfMutation m.sources.table last.number h = all_at numbers (pending_for ms source.name) place last (All-filter later numbers ms (numbers_in m.sources.table h)) waits in
    let passes : later last ≡ true = all_at (λ (x : Mutation). later x ≡ true) (pending_for ms source.name) place last (filter_passes later ms) waits in
    let leaves : RewriteLeaves h source last.number m.rows = record {
      input = source.rows;
      stand = part;
      last = subst (λ (t : List ℕ). IsNumberOfMutation t last.number h) (sym table_is) number;
      waits = above (data_version source.name) last.number passes;
      out_is = rows ∙ ap (λ (t : List ℕ). mutated (pending_upto last.number (mutations_in t h) source.name) source.rows) (sym table_is);
    } in
    subst (λ (t : Task). AreMade h schema (sources_among (beside core m.sources) m.sources) t m.rows) (sym rewrites) (source, here, leaves)

-- where there is no part at the place of the one source, a put may come
pub put_past : (core : Core) (m : Put) → m.sources.count ≡ 1 → slice_get (parts_in m.sources.partition (beside core m.sources)) m.sources.first ≡ None → MayPut core m
put_past core m one none = λ schema there neighbours.
    absurd (past (parts_in m.sources.partition (beside core m.sources)) m.sources.first none (omega (arith, one, neighbours.within)))
  where
    past : (xs : List CorePart) (n : ℕ) → slice_get xs n ≡ None → n < length xs → ⊥
    past [] n is lt = omega (arith, lt)
    past (x ∷ xs) zero is lt = cc
    past (x ∷ xs) (suc n) is lt = past xs n is (omega (arith, lt))

-- ---- the rows of a rewrite

-- after one more mutation, which is applied where its number is at most this
pub one_more : (upto : ℕ) (ms : List Mutation) (i : ℕ) (m d : Mutation) (rows : List Row) → i < length ms → m ≡ get_or ms i d
    → mutated (filter (λ (x : Mutation). nat_le x.number upto) (take (i + 1) ms)) rows
    ≡ cond (nat_le m.number upto) (changed m.change (mutated (filter (λ (x : Mutation). nat_le x.number upto) (take i ms)) rows)) (mutated (filter (λ (x : Mutation). nat_le x.number upto) (take i ms)) rows)
one_more upto ms i m d rows lt here =
    let p = λ (x : Mutation). nat_le x.number upto in
    ap (λ (xs : List Mutation). mutated xs rows) (filter_more p ms i d lt)
    ∙ (ap (λ (x : Mutation). mutated (filter p (take i ms) ++ cond (p x) (x ∷ []) []) rows) (sym here) ∙ by (nat_le m.number upto))
  where
    by : (b : Bool) → mutated (filter (λ (x : Mutation). nat_le x.number upto) (take i ms) ++ cond b (m ∷ []) []) rows
        ≡ cond b (changed m.change (mutated (filter (λ (x : Mutation). nat_le x.number upto) (take i ms)) rows)) (mutated (filter (λ (x : Mutation). nat_le x.number upto) (take i ms)) rows)
    by true = fold-append (λ (now : List Row) (x : Mutation). changed x.change now) rows (filter (λ (x : Mutation). nat_le x.number upto) (take i ms)) (m ∷ [])
    by false = fold-append (λ (now : List Row) (x : Mutation). changed x.change now) rows (filter (λ (x : Mutation). nat_le x.number upto) (take i ms)) []

-- ---- the part at a place of a partition

-- what the parts from one on have of a partition: it, where it is of that, and what the others have
part_next : (partition : Partition) (parts : List CorePart) (i : ℕ) (part d : CorePart) → i < length parts → part ≡ get_or parts i d
    → parts_in partition (drop i parts) ≡ cond (same_partition part.name.partition partition) (part ∷ parts_in partition (drop (i + 1) parts)) (parts_in partition (drop (i + 1) parts))
part_next partition parts i part d lt here =
    ap (parts_in partition) (drop-cons parts i d lt ∙ ap (λ (p : CorePart). p ∷ drop (suc i) parts) (sym here))
    ∙ ap (λ (n : ℕ). cond (same_partition part.name.partition partition) (part ∷ parts_in partition (drop n parts)) (parts_in partition (drop n parts))) next
  where
    next : suc i ≡ i + 1
    next = omega arith

-- the part is there
pub part_found : (partition : Partition) (parts : List CorePart) (i : ℕ) (part d : CorePart) → i < length parts → part ≡ get_or parts i d
    → same_partition part.name.partition partition ≡ true → slice_get (parts_in partition (drop i parts)) 0 ≡ Some part
part_found partition parts i part d lt here own =
    ap (λ (xs : List CorePart). slice_get xs 0) (part_next partition parts i part d lt here
    ∙ ap (λ (b : Bool). cond b (part ∷ parts_in partition (drop (i + 1) parts)) (parts_in partition (drop (i + 1) parts))) own)

-- it is one of those after the part
pub part_later : (partition : Partition) (parts : List CorePart) (i left : ℕ) (part d : CorePart) → i < length parts → part ≡ get_or parts i d
    → same_partition part.name.partition partition ≡ true → 0 < left → slice_get (parts_in partition (drop i parts)) left ≡ slice_get (parts_in partition (drop (i + 1) parts)) (left - 1)
part_later partition parts i left part d lt here own some =
    ap (λ (xs : List CorePart). slice_get xs left) (part_next partition parts i part d lt here
    ∙ ap (λ (b : Bool). cond b (part ∷ parts_in partition (drop (i + 1) parts)) (parts_in partition (drop (i + 1) parts))) own)
    ∙ ap (slice_get (part ∷ parts_in partition (drop (i + 1) parts))) one_less
  where
    one_less : left ≡ suc (left - 1)
    one_less = omega (arith, some)

-- the part is of another partition
pub part_other : (partition : Partition) (parts : List CorePart) (i left : ℕ) (part d : CorePart) → i < length parts → part ≡ get_or parts i d
    → same_partition part.name.partition partition ≡ false → slice_get (parts_in partition (drop i parts)) left ≡ slice_get (parts_in partition (drop (i + 1) parts)) left
part_other partition parts i left part d lt here own =
    ap (λ (xs : List CorePart). slice_get xs left) (part_next partition parts i part d lt here
    ∙ ap (λ (b : Bool). cond b (part ∷ parts_in partition (drop (i + 1) parts)) (parts_in partition (drop (i + 1) parts))) own)

-- no part is left
pub none_left : (partition : Partition) (parts : List CorePart) (i left : ℕ) → length parts ≤ i → slice_get (parts_in partition (drop i parts)) left ≡ None
none_left partition parts i left past = ap (λ (xs : List CorePart). slice_get (parts_in partition xs) left) (drop_all i parts past)
