-- Fronts of legal histories, and what more entries keep: schemas, numbers, counts and live rows.
use Rattle.std.proofs.Common.{◌≡◌, ℕ, ◌+◌, ◌-◌, ◌≤◌, List, [], ◌∷◌, ◌++◌, Bool, true, false, cond, Option, Some, None, filter, length, map, take, drop, refl, sym, ap, ◌∙◌, subst, append_assoc, append-nil, length-append, arith}
use Rattle.std.proofs.Math.Seq.{take-add}
use Rattle.std.proofs.lemmas.List.{map-append}
use Rattle.std.proofs.lemmas.List.Elements.{filter-append}
use Rattle.mt_base.specs.declared.partition.Partition.{Partition}
use Rattle.mt_values.specs.declared.command.Entry.{Entry}
use Rattle.mt_values.specs.declared.command.Command.{Command}
use Rattle.mt_values.specs.declared.command.Command.TheVariants as command
use Rattle.mt_values.specs.Changes.{changed}
use Rattle.mt_values.specs.Values.{Row}
use Rattle.mt_values.specs.Grammar.{same_bytes}
use Rattle.mt_values.specs.declared.schema.Schema.{Schema}
use Rattle.mt_values.specs.Tables.{sorting_cmp}
use Rattle.mt_model.specs.History.{History, ArePlain, FewInserts, IsLegal, IsLegalAfter, IsAllowed, first_of, inserts, inserts_into, schema_by, schema_of}
use Rattle.mt_model.specs.Live.{live, live_from, rows_after, sorted}
use Rattle.mt_model.specs.Numbers.{draws, last_number, mutations_among, mutations_in, numbered}

legal_front_after : (before h more : History) → IsLegalAfter before (h ++ more) → IsLegalAfter before h
legal_front_after before [] more legal = tt
legal_front_after before (e ∷ h) more legal = (legal.0, legal_front_after (before ++ e ∷ []) h more legal.1)

-- a front of a legal history is legal
pub legal_front : (h more : History) → IsLegal (h ++ more) → IsLegal h
legal_front h more legal = legal_front_after [] h more legal

legal_push_after : (before h : History) (e : Entry) → IsLegalAfter before h → IsAllowed (before ++ h) e.command → IsLegalAfter before (h ++ e ∷ [])
legal_push_after before [] e legal allowed = (subst (λ (x : History). IsAllowed x e.command) (append-nil before) allowed, tt)
legal_push_after before (x ∷ h) e legal allowed =
    (legal.0, legal_push_after (before ++ x ∷ []) h e legal.1 (subst (λ (z : History). IsAllowed z e.command) (sym (append_assoc before (x ∷ []) h)) allowed))

-- a legal history with an entry that may come after it is legal
pub legal_push : (h : History) (e : Entry) → IsLegal h → IsAllowed h e.command → IsLegal (h ++ e ∷ [])
legal_push h e legal allowed = legal_push_after [] h e legal allowed

-- ---- what more entries keep

first_of_assoc : {X : Type 0} (a b c : Option X) → first_of a (first_of b c) ≡ first_of (first_of a b) c
first_of_assoc None b c = refl
first_of_assoc (Some x) b c = refl

pub schema_more : (t : List ℕ) (h more : History) → schema_of t (h ++ more) ≡ first_of (schema_of t h) (schema_of t more)
schema_more t [] more = refl
schema_more t (e ∷ h) more = ap (first_of (schema_by t e.command)) (schema_more t h more) ∙ first_of_assoc (schema_by t e.command) (schema_of t h) (schema_of t more)

-- a table keeps its schema
pub schema_kept : (t : List ℕ) (h more : History) (schema : Schema) → schema_of t h ≡ Some schema → schema_of t (h ++ more) ≡ Some schema
schema_kept t h more schema is = schema_more t h more ∙ ap (λ o. first_of o (schema_of t more)) is

pub numbered_more : (t : List ℕ) (h more : History) → numbered t (h ++ more) ≡ numbered t h ++ numbered t more
numbered_more t h more = ap (filter (draws t)) (map-append (λ (e : Entry). e.command) h more) ∙ filter-append (draws t) (map (λ (e : Entry). e.command) h) (map (λ (e : Entry). e.command) more)

-- no number is taken back
pub last_more : (t : List ℕ) (h more : History) → last_number t h ≤ last_number t (h ++ more)
last_more t h more = omega (arith, ap length (numbered_more t h more) ∙ length-append (numbered t h) (numbered t more))

-- more entries take no INSERT away
pub inserts_more : (t : List ℕ) (p : Partition) (h more : History) → inserts t p h ≤ inserts t p (h ++ more)
inserts_more t p h more =
    let f : Entry → Bool = λ e. inserts_into t p e.command in
    omega (arith, ap length (filter-append f h more) ∙ length-append (filter f h) (filter f more))

pub few_front : (h more : History) → FewInserts (h ++ more) → FewInserts h
few_front h more few = λ table partition. omega (arith, few table partition, inserts_more table partition h more)

pub plain_front : (h more : History) → ArePlain (h ++ more) → ArePlain h
plain_front h more plain = λ table schema is. plain table schema (schema_kept table h more schema is)

-- the entries up to a later place begin with those up to an earlier one
pub take_later : {X : Type 0} (from to : ℕ) (xs : List X) → from ≤ to → take to xs ≡ take from xs ++ take (to - from) (drop from xs)
take_later from to xs later =
    let sum : to ≡ from + (to - from) = omega arith in
    ap (λ (n : ℕ). take n xs) sum ∙ take-add from (to - from) xs

-- ---- live rows

pub live_from-append : (table : List ℕ) (schema : Schema) (rows : List Row) (h more : History) → live_from table schema rows (h ++ more) ≡ live_from table schema (live_from table schema rows h) more
live_from-append table schema rows [] more = refl
live_from-append table schema rows (e ∷ h) more = live_from-append table schema (rows_after table schema rows e.command) h more

-- the live rows after one more entry
pub live_push : (table : List ℕ) (schema : Schema) (h : History) (e : Entry) → live table schema (h ++ e ∷ []) ≡ rows_after table schema (live table schema h) e.command
live_push table schema h e = live_from-append table schema [] h (e ∷ [])

-- without a mutation of the table the rows that were there stay before others
module _ (table : List ℕ) (schema : Schema) where
  -- what a command adds to rows, and that there is no mutation of the table after it
  record Adds (rows : List Row) (c : Command) (cs : List Command) : Type 0 where
    rest : List Row
    after_is : rows_after table schema rows c ≡ rows ++ rest
    number : ℕ
    none : mutations_among number cs ≡ []

  adds_rows : (rows : List Row) (n : ℕ) (c : Command) (cs : List Command) → mutations_among n (cond (draws table c) (c ∷ cs) cs) ≡ [] → Adds rows c cs
  adds_rows rows n (command.Create c) cs none = record { rest = []; after_is = sym (append-nil rows); number = n; none = none }
  adds_rows rows n (command.Insert i) cs none = by (same_bytes i.table table) refl none
    where
      by : (b : Bool) → same_bytes i.table table ≡ b → mutations_among n (cond b (command.Insert i ∷ cs) cs) ≡ [] → Adds rows (command.Insert i) cs
      by true is none = record {
        rest = sorted (sorting_cmp schema) i.block.rows;
        after_is = ap (λ (b : Bool). cond b (rows ++ sorted (sorting_cmp schema) i.block.rows) rows) is;
        number = n + 1;
        none = none;
      }
      by false is none = record {
        rest = [];
        after_is = ap (λ (b : Bool). cond b (rows ++ sorted (sorting_cmp schema) i.block.rows) rows) is ∙ sym (append-nil rows);
        number = n;
        none = none;
      }
  adds_rows rows n (command.Alter a) cs none = by (same_bytes a.table table) refl none
    where
      by : (b : Bool) → same_bytes a.table table ≡ b → mutations_among n (cond b (command.Alter a ∷ cs) cs) ≡ [] → Adds rows (command.Alter a) cs
      by true is none = cc
      by false is none = record {
        rest = [];
        after_is = ap (λ (b : Bool). cond b (changed a.change rows) rows) is ∙ sym (append-nil rows);
        number = n;
        none = none;
      }

  grows_from : (rows : List Row) (n : ℕ) (h : History) → mutations_among n (numbered table h) ≡ [] → (rest : List Row) × (live_from table schema rows h ≡ rows ++ rest)
  grows_from rows n [] none = ([], sym (append-nil rows))
  grows_from rows n (e ∷ h) none =
      let one = adds_rows rows n e.command (numbered table h) none in
      let more = grows_from (rows_after table schema rows e.command) one.number h one.none in
      (one.rest ++ more.0, more.1 ∙ ap (λ (zs : List Row). zs ++ more.0) one.after_is ∙ append_assoc rows one.rest more.0)

  -- a longer history without one keeps the live rows and adds to them
  pub live_grows : (h more : History) → mutations_in table more ≡ [] → (rest : List Row) × (live table schema (h ++ more) ≡ live table schema h ++ rest)
  live_grows h more none =
      let found = grows_from (live table schema h) 1 more none in
      (found.0, live_from-append table schema [] h more ∙ found.1)
