-- Parts of a statement, read one after another.
use Rattle.std.proofs.Common.{◌≡◌, Bool, true, false, List, Result, Ok, Err, ◌∙◌}
use Rattle.std.specs.Result.{IsErrAnd}
use Rattle.std.proofs.lemmas.Result.{err_from_is_err_and}
use Rattle.mt_values.specs.declared.statement.Slip.{Slip}
use Rattle.mt_values.specs.declared.statement.Statement.{Statement}
use Rattle.mt_values.specs.declared.token.Placed.{Placed}
use Rattle.mt_values.specs.declared.token.Token.{Token}
use Rattle.mt_values.specs.Grammar.{ends}
use Rattle.mt_values.specs.Readers.{Reader, Part, choose}
use Rattle.mt_base.specs.declared.stop.Stop.{Stop}
use Rattle.mt_base.specs.declared.stop.Stop.TheVariants as stop
use Rattle.sql_read.specs.Reads.{Ends, IsRead, Reads, ReadsEnd, first_is}
use Rattle.sql_read.proofs.Choices.{choose_other, choose_this}

-- the rest of a part is read by another part
pub reads_rest : {X : Type 0} (whole part : Part Statement X) (from mid : List Placed) → ((next : X → Reader Statement) → whole next from ≡ part next mid) → (r : Result X (Stop Slip)) (to : List Placed) → Reads part mid r to → Reads whole from r to
reads_rest whole part from mid along (Ok x) to read = λ next. along next ∙ read next
reads_rest whole part from mid along (Err (stop.Refused s)) to read = λ next. along next ∙ read next
reads_rest whole part from mid along (Err stop.NoMemory) to read = tt

-- a part that is one of two is read by the one that the next token chooses
pub reads_this : {X : Type 0} (test : Token → Bool) (this other : Part Statement X) (from : List Placed) → first_is test from ≡ true → (r : Result X (Stop Slip)) (to : List Placed) → Reads this from r to → Reads (λ next. choose test (this next) (other next)) from r to
reads_this test this other from here r to read = reads_rest (λ next. choose test (this next) (other next)) this from from (λ next. choose_this test (this next) (other next) from here) r to read

pub reads_other : {X : Type 0} (test : Token → Bool) (this other : Part Statement X) (from : List Placed) → first_is test from ≡ false → (r : Result X (Stop Slip)) (to : List Placed) → Reads other from r to → Reads (λ next. choose test (this next) (other next)) from r to
reads_other test this other from none r to read = reads_rest (λ next. choose test (this next) (other next)) other from from (λ next. choose_other test (this next) (other next) from none) r to read

stops : {X Z : Type 0} (whole : Part Statement X) (part : Part Statement Z) (follow : (X → Reader Statement) → Z → Reader Statement) (from mid : List Placed) →
    ((next : X → Reader Statement) → whole next from ≡ part (follow next) mid) → (e : Stop Slip) (to : List Placed) → Reads part mid (Err e) to → Reads whole from (Err e) to
stops whole part follow from mid along stop.NoMemory to read = tt
stops whole part follow from mid along (stop.Refused s) to read = λ next. along next ∙ read (follow next)

-- a part stops where a part of it stops
pub reads_stop : {X Z : Type 0} (whole : Part Statement X) (part : Part Statement Z) (follow : (X → Reader Statement) → Z → Reader Statement) (from mid : List Placed) →
    ((next : X → Reader Statement) → whole next from ≡ part (follow next) mid) → (e : Stop Slip) (to : List Placed) → Reads part mid (Err e) to → (r : Result X (Stop Slip)) → IsErrAnd r (λ y. y ≡ e) → Reads whole from r to
reads_stop whole part follow from mid along e to read r is = let p = err_from_is_err_and r is in rw (p.1, p.2) (stops whole part follow from mid along e to read)

read_stops : {Z : Type 0} (reader : Reader Statement) (part : Part Statement Z) (follow : Z → Reader Statement) (from mid : List Placed) →
    reader from ≡ part follow mid → (e : Stop Slip) (to : List Placed) → Reads part mid (Err e) to → IsRead reader from (Err e) to
read_stops reader part follow from mid along stop.NoMemory to read = tt
read_stops reader part follow from mid along (stop.Refused s) to read = along ∙ read follow

-- a statement stops where a part of it stops
pub is_read_stop : {Z : Type 0} (reader : Reader Statement) (part : Part Statement Z) (follow : Z → Reader Statement) (from mid : List Placed) →
    reader from ≡ part follow mid → (e : Stop Slip) (to : List Placed) → Reads part mid (Err e) to → (r : Result Statement (Stop Slip)) → IsErrAnd r (λ y. y ≡ e) → IsRead reader from r to
is_read_stop reader part follow from mid along e to read r is = let p = err_from_is_err_and r is in rw (p.1, p.2) (read_stops reader part follow from mid along e to read)

end_stops : (reader : Reader Statement) (s : Statement) (from mid : List Placed) → reader from ≡ ends s mid → (e : Stop Slip) (to : List Placed) → Ends mid (Err e) to → IsRead reader from (Err e) to
end_stops reader s from mid along stop.NoMemory to read = tt
end_stops reader s from mid along (stop.Refused f) to read = along ∙ read s

-- a statement stops at its end
pub is_read_end : (reader : Reader Statement) (s : Statement) (from mid : List Placed) → reader from ≡ ends s mid → (e : Stop Slip) (to : List Placed) → Ends mid (Err e) to → (r : Result Statement (Stop Slip)) → IsErrAnd r (λ y. y ≡ e) → IsRead reader from r to
is_read_end reader s from mid along e to read r is = let p = err_from_is_err_and r is in rw (p.1, p.2) (end_stops reader s from mid along e to read)

last_stops : {X : Type 0} (reader : Reader Statement) (part : Part Statement X) (make : X → Statement) (from mid : List Placed) →
    reader from ≡ part (λ x. ends (make x)) mid → (e : Stop Slip) (to : List Placed) → ReadsEnd part mid (Err e) to → IsRead reader from (Err e) to
last_stops reader part make from mid along stop.NoMemory to read = tt
last_stops reader part make from mid along (stop.Refused f) to read = along ∙ read make

-- a statement stops in its last part
pub is_read_last : {X : Type 0} (reader : Reader Statement) (part : Part Statement X) (make : X → Statement) (from mid : List Placed) →
    reader from ≡ part (λ x. ends (make x)) mid → (e : Stop Slip) (to : List Placed) → ReadsEnd part mid (Err e) to → (r : Result Statement (Stop Slip)) → IsErrAnd r (λ y. y ≡ e) → IsRead reader from r to
is_read_last reader part make from mid along e to read r is = let p = err_from_is_err_and r is in rw (p.1, p.2) (last_stops reader part make from mid along e to read)

part_stops : {X Z : Type 0} (whole : Part Statement X) (part : Part Statement Z) (follow : (X → Reader Statement) → Z → Reader Statement) (from mid : List Placed) →
    ((next : X → Reader Statement) → whole next from ≡ part (follow next) mid) → (e : Stop Slip) (to : List Placed) → Reads part mid (Err e) to → ReadsEnd whole from (Err e) to
part_stops whole part follow from mid along stop.NoMemory to read = tt
part_stops whole part follow from mid along (stop.Refused s) to read = λ make. along (λ x. ends (make x)) ∙ read (follow (λ x. ends (make x)))

-- the last part of a statement stops where a part of it stops
pub last_part_stop : {X Z : Type 0} (whole : Part Statement X) (part : Part Statement Z) (follow : (X → Reader Statement) → Z → Reader Statement) (from mid : List Placed) →
    ((next : X → Reader Statement) → whole next from ≡ part (follow next) mid) → (e : Stop Slip) (to : List Placed) → Reads part mid (Err e) to → (r : Result X (Stop Slip)) → IsErrAnd r (λ y. y ≡ e) → ReadsEnd whole from r to
last_part_stop whole part follow from mid along e to read r is = let p = err_from_is_err_and r is in rw (p.1, p.2) (part_stops whole part follow from mid along e to read)

last_end_stops : {X : Type 0} (whole : Part Statement X) (x : X) (from mid : List Placed) → ((next : X → Reader Statement) → whole next from ≡ next x mid) → (e : Stop Slip) (to : List Placed) → Ends mid (Err e) to → ReadsEnd whole from (Err e) to
last_end_stops whole x from mid along stop.NoMemory to read = tt
last_end_stops whole x from mid along (stop.Refused f) to read = λ make. along (λ y. ends (make y)) ∙ read (make x)

-- the last part of a statement stops at the statement's end
pub last_end_stop : {X : Type 0} (whole : Part Statement X) (x : X) (from mid : List Placed) → ((next : X → Reader Statement) → whole next from ≡ next x mid) → (e : Stop Slip) (to : List Placed) → Ends mid (Err e) to → (r : Result X (Stop Slip)) → IsErrAnd r (λ y. y ≡ e) → ReadsEnd whole from r to
last_end_stop whole x from mid along e to read r is = let p = err_from_is_err_and r is in rw (p.1, p.2) (last_end_stops whole x from mid along e to read)

-- the statement's end was read after its last part
pub last_ends : (whole : Part Statement (Unit {0})) (from mid : List Placed) → ((next : Unit {0} → Reader Statement) → whole next from ≡ next tt mid) → (r : Result (Unit {0}) (Stop Slip)) (to : List Placed) → Ends mid r to → ReadsEnd whole from r to
last_ends whole from mid along (Ok u) to read = λ make. along (λ y. ends (make y)) ∙ read (make tt)
last_ends whole from mid along (Err e) to read = last_end_stops whole tt from mid along e to read
