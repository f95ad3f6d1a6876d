-- The INSERTs of a table with what the mutations after them make of their rows: some mutations, by a test of their numbers.
use Rattle.std.proofs.Common.{◌≡◌, ℕ, ◌+◌, ◌<◌, ◌≤◌, Bool, true, false, cond, ◌&&◌, nat_le, nat_lt, List, [], ◌∷◌, ◌++◌, filter, length, Some, get_or, slice_get, refl, sym, ap, ap₂, ◌∙◌, append_assoc, append-nil, arith, zero, suc, inl, inr, ◌⊎◌}
use Rattle.std.specs.List.{flat_map, All, AllByRecursion}
use Rattle.std.proofs.lemmas.Bool.{cases_lt}
use Rattle.std.proofs.lemmas.Bool.Decides.{nat_tests}
use Rattle.std.proofs.lemmas.List.Elements.{All-append, All-cons, All-filter, All-nil, filter-append}
use Rattle.std.proofs.lemmas.List.Sorted.{All-permutation}
use Rattle.mt_base.specs.declared.partition.Partition.{Partition}
use Rattle.mt_values.specs.declared.command.Command.{Command}
use Rattle.mt_values.specs.declared.command.Command.TheVariants as command
use Rattle.mt_values.specs.declared.command.Entry.{Entry}
use Rattle.mt_values.specs.declared.command.Insert.{Insert}
use Rattle.mt_values.specs.declared.mutation.Mutation.{Mutation}
use Rattle.mt_values.specs.declared.schema.Schema.{Schema}
use Rattle.mt_values.specs.Changes.{changed, mutated}
use Rattle.mt_values.specs.Grammar.{same_bytes}
use Rattle.mt_values.specs.Tables.{partition_of, same_partition, sorting_cmp}
use Rattle.mt_values.specs.Values.{Row}
use Rattle.mt_values.proofs.RowPartitions.{values_fit}
use Rattle.rule_law.specs.mt_model.History.{History, IsInsertInto, IsTableSchema}
use Rattle.rule_law.specs.mt_model.Live.{live, live_from, rows_after, sorted}
use Rattle.rule_law.specs.mt_model.Mutations.{IsChangeOf}
use Rattle.rule_law.specs.mt_model.Numbers.{Reach, entry_if, is_reached, lies_within, mutations_among, numbered, reached, reached_from}
use Rattle.rule_law.proofs.MtModelDetermined.{sorting_total}
use Rattle.rule_law.proofs.MtModelSorting.{sorted_permutes}
use Rattle.rule_law.specs.TableRows.{IsTableRow}
use Rattle.rule_law.proofs.PartlyChanged.{mutated_append, mutated_none, mutated_on, mutated_partition, mutated_table}

-- the rows that a command has to add
abbrev pub rows_by : Command → List Row
rows_by (command.Create c) = []
rows_by (command.Insert i) = i.block.rows
rows_by (command.Alter a) = []

-- the mutations whose numbers pass a test
abbrev pub passing : (ℕ → Bool) → List Mutation → List Mutation
passing test ms = filter (λ (m : Mutation). test m.number) ms

-- an INSERT with its rows in the table's order and after mutations
abbrev pub settled_by : Schema → List Mutation → Command → Command
settled_by schema ms (command.Create c) = command.Create c
settled_by schema ms (command.Insert i) =
    command.Insert (record { table = i.table; partition = i.partition; block = record { types = i.block.types; rows = mutated ms (sorted (sorting_cmp schema) i.block.rows) } })
settled_by schema ms (command.Alter a) = command.Alter a

-- commands, the first of which drew this number, each INSERT after those of the later mutations that pass a test
abbrev pub settled : Schema → (ℕ → Bool) → ℕ → List Command → List Command
settled schema test n [] = []
settled schema test n (c ∷ cs) = settled_by schema (passing test (mutations_among (n + 1) cs)) c ∷ settled schema test (n + 1) cs

-- ---- what is kept of commands, by their numbers

-- a command in front, where it stays
abbrev pub kept_if : Bool → Command → List Command → List Command
kept_if stays c cs = cond stays (c ∷ cs) cs

-- whether the command that drew this number is an INSERT of the partition, and the number lies within these
abbrev pub is_kept : Partition → ℕ → ℕ → ℕ → Command → Bool
is_kept p a b n (command.Create c) = false
is_kept p a b n (command.Insert i) = same_partition i.partition p && lies_within a b n
is_kept p a b n (command.Alter c) = false

-- the commands, the first of which drew this number, that are INSERTs of the partition with their numbers within these
abbrev pub kept : Partition → ℕ → ℕ → ℕ → List Command → List Command
kept p a b n [] = []
kept p a b n (c ∷ cs) = kept_if (is_kept p a b n c) c (kept p a b (n + 1) cs)

-- the INSERTs that are reached, of commands of which the first drew this number
abbrev pub kept_in : Reach → ℕ → List Command → List Command
kept_in r n cs = kept r.partition r.least r.greatest n cs

-- the mutations that are reached
abbrev pub upto : ℕ → ℕ → Bool
upto version n = nat_le n version

-- all mutations
abbrev pub any : ℕ → Bool
any n = true

-- ---- live rows

module _ (t : List ℕ) (schema : Schema) where
  abbrev adds : List Command → List Row
  adds cs = flat_map rows_by cs

  -- the rows that were there after all mutations, then those of each INSERT after those that come later
  live_settled : (rows : List Row) (n : ℕ) (h : History) → live_from t schema rows h ≡ mutated (passing any (mutations_among n (numbered t h))) rows ++ adds (settled schema any n (numbered t h))
  live_settled rows n [] = sym (append-nil rows)
  live_settled rows n (e ∷ h) = by e.session e.command (λ rs k. live_settled rs k h)
    where
      cs : List Command
      cs = numbered t h

      later : List Mutation
      later = passing any (mutations_among (n + 1) cs)

      by : (s : ℕ) (c : Command) → ((rs : List Row) (k : ℕ) → live_from t schema rs h ≡ mutated (passing any (mutations_among k (numbered t h))) rs ++ adds (settled schema any k (numbered t h))) → live_from t schema rows (record { session = s; command = c } ∷ h)
          ≡ mutated (passing any (mutations_among n (numbered t (record { session = s; command = c } ∷ h)))) rows ++ adds (settled schema any n (numbered t (record { session = s; command = c } ∷ h)))
      by s (command.Create c) ih = ih rows n
      by s (command.Insert i) ih = named (same_bytes i.table t) refl
        where
          own : List Row
          own = sorted (sorting_cmp schema) i.block.rows

          named : (b : Bool) → same_bytes i.table t ≡ b → live_from t schema (cond b (rows ++ own) rows) h
              ≡ mutated (passing any (mutations_among n (cond b (command.Insert i ∷ cs) cs))) rows ++ adds (settled schema any n (cond b (command.Insert i ∷ cs) cs))
          named true is =
              ih (rows ++ own) (n + 1)
              ∙ (ap (λ zs. zs ++ adds (settled schema any (n + 1) cs)) (mutated_append later rows own) ∙ append_assoc (mutated later rows) (mutated later own) (adds (settled schema any (n + 1) cs)))
          named false is = ih rows n
      by s (command.Alter a) ih = named (same_bytes a.table t) refl
        where
          named : (b : Bool) → same_bytes a.table t ≡ b → live_from t schema (cond b (changed a.change rows) rows) h
              ≡ mutated (passing any (mutations_among n (cond b (command.Alter a ∷ cs) cs))) rows ++ adds (settled schema any n (cond b (command.Alter a ∷ cs) cs))
          named true is = ih (changed a.change rows) (n + 1)
          named false is = ih rows n

  pub live_numbered : (h : History) → live t schema h ≡ adds (settled schema any 1 (numbered t h))
  live_numbered h = live_settled [] 1 h ∙ ap (λ zs. zs ++ adds (settled schema any 1 (numbered t h))) (mutated_none (passing any (mutations_among 1 (numbered t h))))

-- the same of what is reached
module _ (schema : Schema) (r : Reach) where
  abbrev test : ℕ → Bool
  test = upto r.version

  reached_settled : (rows : List Row) (n : ℕ) (h : History)
      → live_from r.table schema rows (reached_from r n h) ≡ mutated (passing test (mutations_among n (numbered r.table h))) rows ++ flat_map rows_by (kept_in r n (settled schema test n (numbered r.table h)))
  reached_settled rows n [] = sym (append-nil rows)
  reached_settled rows n (e ∷ h) = by e.session e.command (λ rs k. reached_settled rs k h)
    where
      t : List ℕ
      t = r.table

      cs : List Command
      cs = numbered t h

      later : List Mutation
      later = passing test (mutations_among (n + 1) cs)

      rest : List Row
      rest = flat_map rows_by (kept_in r (n + 1) (settled schema test (n + 1) cs))

      by : (s : ℕ) (c : Command)
          → ((rs : List Row) (k : ℕ) → live_from r.table schema rs (reached_from r k h) ≡ mutated (passing test (mutations_among k (numbered r.table h))) rs ++ flat_map rows_by (kept_in r k (settled schema test k (numbered r.table h))))
          → live_from t schema rows (reached_from r n (record { session = s; command = c } ∷ h))
          ≡ mutated (passing test (mutations_among n (numbered t (record { session = s; command = c } ∷ h)))) rows ++ flat_map rows_by (kept_in r n (settled schema test n (numbered t (record { session = s; command = c } ∷ h))))
      by s (command.Create c) ih = ih rows n
      by s (command.Insert i) ih = named (same_bytes i.table t) refl
        where
          own : List Row
          own = sorted (sorting_cmp schema) i.block.rows

          entry : Entry
          entry = record { session = s; command = command.Insert i }

          after : (b : Bool) → same_bytes i.table t ≡ b → rows_after t schema rows (command.Insert i) ≡ cond b (rows ++ own) rows
          after b is = ap (λ c. cond c (rows ++ own) rows) is

          named : (b : Bool) → same_bytes i.table t ≡ b → live_from t schema rows (cond b (entry_if (is_reached r n (command.Insert i)) entry (reached_from r (n + 1) h)) (entry ∷ reached_from r n h))
              ≡ mutated (passing test (mutations_among n (cond b (command.Insert i ∷ cs) cs))) rows ++ flat_map rows_by (kept_in r n (settled schema test n (cond b (command.Insert i ∷ cs) cs)))
          named false is = ap (λ (zs : List Row). live_from t schema zs (reached_from r n h)) (after false is) ∙ ih rows n
          named true is = stays (is_reached r n (command.Insert i))
            where
              stays : (x : Bool) → live_from t schema rows (entry_if x entry (reached_from r (n + 1) h))
                  ≡ mutated later rows ++ flat_map rows_by (kept_if x (settled_by schema later (command.Insert i)) (kept_in r (n + 1) (settled schema test (n + 1) cs)))
              stays true =
                  ap (λ (zs : List Row). live_from t schema zs (reached_from r (n + 1) h)) (after true is)
                  ∙ (ih (rows ++ own) (n + 1)
                  ∙ (ap (λ zs. zs ++ rest) (mutated_append later rows own) ∙ append_assoc (mutated later rows) (mutated later own) rest))
              stays false = ih rows (n + 1)
      by s (command.Alter a) ih = named (same_bytes a.table t) refl
        where
          entry : Entry
          entry = record { session = s; command = command.Alter a }

          named : (b : Bool) → same_bytes a.table t ≡ b → live_from t schema rows (cond b (entry_if (is_reached r n (command.Alter a)) entry (reached_from r (n + 1) h)) (entry ∷ reached_from r n h))
              ≡ mutated (passing test (mutations_among n (cond b (command.Alter a ∷ cs) cs))) rows ++ flat_map rows_by (kept_in r n (settled schema test n (cond b (command.Alter a ∷ cs) cs)))
          named false is = ap (λ (b : Bool). live_from t schema (cond b (changed a.change rows) rows) (reached_from r n h)) is ∙ ih rows n
          named true is = stays (nat_le n r.version)
            where
              stays : (x : Bool) → live_from t schema rows (entry_if x entry (reached_from r (n + 1) h)) ≡ mutated (cond x (record { number = n; change = a.change } ∷ later) later) rows ++ rest
              stays true = ap (λ (b : Bool). live_from t schema (cond b (changed a.change rows) rows) (reached_from r (n + 1) h)) is ∙ ih (changed a.change rows) (n + 1)
              stays false = ih rows (n + 1)

  pub live_reached : (h : History) → live r.table schema (reached r h) ≡ flat_map rows_by (kept_in r 1 (settled schema (upto r.version) 1 (numbered r.table h)))
  live_reached h =
      reached_settled [] 1 h
      ∙ ap (λ zs. zs ++ flat_map rows_by (kept_in r 1 (settled schema test 1 (numbered r.table h)))) (mutated_none (passing test (mutations_among 1 (numbered r.table h))))

-- ---- mutations by their numbers

-- with more commands come more mutations
pub among_more : (n : ℕ) (cs more : List Command) → mutations_among n (cs ++ more) ≡ mutations_among n cs ++ mutations_among (n + length cs) more
among_more n [] more = let same : n ≡ n + 0 = omega arith in ap (λ k. mutations_among k more) same
among_more n (command.Create c ∷ cs) more =
    let same : n + 1 + length cs ≡ n + suc (length cs) = omega arith in
    among_more (n + 1) cs more ∙ ap (λ k. mutations_among (n + 1) cs ++ mutations_among k more) same
among_more n (command.Insert i ∷ cs) more =
    let same : n + 1 + length cs ≡ n + suc (length cs) = omega arith in
    among_more (n + 1) cs more ∙ ap (λ k. mutations_among (n + 1) cs ++ mutations_among k more) same
among_more n (command.Alter a ∷ cs) more =
    let same : n + 1 + length cs ≡ n + suc (length cs) = omega arith in
    ap (λ ms. record { number = n; change = a.change } ∷ ms) (among_more (n + 1) cs more ∙ ap (λ k. mutations_among (n + 1) cs ++ mutations_among k more) same)

-- none of them has a number up to one that is below the first's
pub none_upto : (v n : ℕ) (cs : List Command) → v < n → passing (upto v) (mutations_among n cs) ≡ []
none_upto v n [] lt = refl
none_upto v n (command.Create c ∷ cs) lt = none_upto v (n + 1) cs (omega (arith, lt))
none_upto v n (command.Insert i ∷ cs) lt = none_upto v (n + 1) cs (omega (arith, lt))
none_upto v n (command.Alter a ∷ cs) lt =
    let above : nat_le n v ≡ false = grind (arith, nat_tests, lt) in
    ap (λ b. cond b (record { number = n; change = a.change } ∷ passing (upto v) (mutations_among (n + 1) cs)) (passing (upto v) (mutations_among (n + 1) cs))) above ∙ none_upto v (n + 1) cs (omega (arith, lt))

-- later commands settle nothing for mutations up to a number below theirs
pub settled_more : (schema : Schema) (v n : ℕ) (cs more : List Command) → v < n + length cs → settled schema (upto v) n (cs ++ more) ≡ settled schema (upto v) n cs ++ settled schema (upto v) (n + length cs) more
settled_more schema v n [] more lt = let same : n ≡ n + 0 = omega arith in ap (λ k. settled schema (upto v) k more) same
settled_more schema v n (c ∷ cs) more lt =
    let last : n + 1 + length cs ≡ n + suc (length cs) = omega arith in
    let below : v < n + 1 + length cs = omega (arith, lt, last) in
    let ms : passing (upto v) (mutations_among (n + 1) (cs ++ more)) ≡ passing (upto v) (mutations_among (n + 1) cs) =
    ap (passing (upto v)) (among_more (n + 1) cs more)
    ∙ (filter-append (λ (m : Mutation). upto v m.number) (mutations_among (n + 1) cs) (mutations_among (n + 1 + length cs) more)
    ∙ (ap (λ zs. passing (upto v) (mutations_among (n + 1) cs) ++ zs) (none_upto v (n + 1 + length cs) more below) ∙ append-nil (passing (upto v) (mutations_among (n + 1) cs)))) in
    ap₂ (λ (xs : List Mutation) (zs : List Command). settled_by schema xs c ∷ zs) ms
    (settled_more schema v (n + 1) cs more below ∙ ap (λ k. settled schema (upto v) (n + 1) cs ++ settled schema (upto v) k more) last)

-- the last command is settled by none
pub settled_push : (schema : Schema) (test : ℕ → Bool) (n : ℕ) (cs : List Command) (c : Command) → (front : List Command) × (length front ≡ length cs) × (settled schema test n (cs ++ c ∷ []) ≡ front ++ settled_by schema [] c ∷ [])
settled_push schema test n [] c = ([], refl, refl)
settled_push schema test n (d ∷ cs) c =
    let rest = settled_push schema test (n + 1) cs c in
    let first = settled_by schema (passing test (mutations_among (n + 1) (cs ++ c ∷ []))) d in
    (first ∷ rest.0, ap suc rest.1, ap (λ zs. first ∷ zs) rest.2)

pub settled_length : (schema : Schema) (test : ℕ → Bool) (n : ℕ) (cs : List Command) → length (settled schema test n cs) ≡ length cs
settled_length schema test n [] = refl
settled_length schema test n (c ∷ cs) = ap suc (settled_length schema test (n + 1) cs)

-- tests that say the same of each mutation settle alike
pub settled_alike : (schema : Schema) (p q : ℕ → Bool) (n : ℕ) (cs : List Command) → AllByRecursion (λ (m : Mutation). p m.number ≡ q m.number) (mutations_among n cs) → settled schema p n cs ≡ settled schema q n cs
settled_alike schema p q n [] same = refl
settled_alike schema p q n (c ∷ cs) same =
    ap₂ (λ (ms : List Mutation) (zs : List Command). settled_by schema ms c ∷ zs) (alike (mutations_among (n + 1) cs) (others c same)) (settled_alike schema p q (n + 1) cs (others c same))
  where
    P : Mutation → Type 0
    P m = p m.number ≡ q m.number

    others : (c : Command) → AllByRecursion P (mutations_among n (c ∷ cs)) → AllByRecursion P (mutations_among (n + 1) cs)
    others (command.Create c) all = all
    others (command.Insert i) all = all
    others (command.Alter a) all = all.1

    alike : (ms : List Mutation) → AllByRecursion P ms → passing p ms ≡ passing q ms
    alike [] all = refl
    alike (m ∷ ms) all = ap₂ (λ b zs. cond b (m ∷ zs) zs) all.0 (alike ms all.1)

-- ---- mutations that come after INSERTs, made of what is kept of them

second_true : (a b : Bool) → a && b ≡ true → b ≡ true
second_true true b is = is
second_true false b is = cc

module _ (schema : Schema) (v : ℕ) (q : ℕ → Bool) (low : (k : ℕ) → k ≤ v → q k ≡ true) where
  -- those that pass the other test alone
  abbrev pub between : Mutation → Bool
  between m = nat_lt v m.number && q m.number

  -- those up to the version come before the others
  parted : (n : ℕ) (cs : List Command) → passing q (mutations_among n cs) ≡ passing (upto v) (mutations_among n cs) ++ filter between (mutations_among n cs)
  parted n [] = refl
  parted n (command.Create c ∷ cs) = parted (n + 1) cs
  parted n (command.Insert i ∷ cs) = parted (n + 1) cs
  parted n (command.Alter a ∷ cs) = by (cases_lt v n) (parted (n + 1) cs)
    where
      m : Mutation
      m = record { number = n; change = a.change }

      ms : List Mutation
      ms = mutations_among (n + 1) cs

      by : (v < n) ⊎ (n ≤ v) → passing q ms ≡ passing (upto v) ms ++ filter between ms → cond (q n) (m ∷ passing q ms) (passing q ms) ≡ cond (nat_le n v) (m ∷ passing (upto v) ms) (passing (upto v) ms) ++ cond (nat_lt v n && q n) (m ∷ filter between ms) (filter between ms)
      by (inr le) more =
          let here : nat_le n v ≡ true = grind (arith, nat_tests, le) in
          let not_above : nat_lt v n ≡ false = grind (arith, nat_tests, le) in
          ap (λ b. cond b (m ∷ passing q ms) (passing q ms)) (low n le)
          ∙ (ap (λ zs. m ∷ zs) more
          ∙ sym (ap₂ (λ b c. cond b (m ∷ passing (upto v) ms) (passing (upto v) ms) ++ cond (c && q n) (m ∷ filter between ms) (filter between ms)) here not_above))
      by (inl lt) more =
          let not_here : nat_le n v ≡ false = grind (arith, nat_tests, lt) in
          let above : nat_lt v n ≡ true = grind (arith, nat_tests, lt) in
          let none : passing (upto v) ms ≡ [] = none_upto v (n + 1) cs (omega (arith, lt)) in
          let rest : passing q ms ≡ filter between ms = more ∙ ap (λ zs. zs ++ filter between ms) none in
          ap (λ zs. cond (q n) (m ∷ zs) zs) rest
          ∙ sym (ap₂ (λ b c. cond b (m ∷ passing (upto v) ms) (passing (upto v) ms) ++ cond (c && q n) (m ∷ filter between ms) (filter between ms)) not_here above
          ∙ ap (λ zs. zs ++ cond (q n) (m ∷ filter between ms) (filter between ms)) none)

  -- none of them has a number up to the greatest of some blocks
  abbrev pub Quiet : ℕ → Mutation → Type 0
  Quiet b m = m.number ≤ b → between m ≡ false

  -- made of the rows that are kept, after those up to the version, they are made of each INSERT
  pub mutated_kept : (w : Partition) (a b n : ℕ) (cs : List Command) (ms : List Mutation) → AllByRecursion (Quiet b) (mutations_among n cs) → (n ≤ b → filter between (mutations_among n cs) ≡ ms)
      → mutated ms (flat_map rows_by (kept w a b n (settled schema (upto v) n cs))) ≡ flat_map rows_by (kept w a b n (settled schema q n cs))
  mutated_kept w a b n [] ms quiet are = mutated_none ms
  mutated_kept w a b n (command.Create c ∷ cs) ms quiet are = mutated_kept w a b (n + 1) cs ms quiet (λ le. are (omega (arith, le)))
  mutated_kept w a b n (command.Alter c ∷ cs) ms quiet are = mutated_kept w a b (n + 1) cs ms quiet.1 (λ le. next (omega (arith, le)))
    where
      m : Mutation
      m = record { number = n; change = c.change }

      next : n ≤ b → filter between (mutations_among (n + 1) cs) ≡ ms
      next le = sym (ap (λ (x : Bool). cond x (m ∷ filter between (mutations_among (n + 1) cs)) (filter between (mutations_among (n + 1) cs))) (quiet.0 le)) ∙ are le
  mutated_kept w a b n (command.Insert i ∷ cs) ms quiet are = by (same_partition i.partition w) (lies_within a b n) refl (mutated_kept w a b (n + 1) cs ms quiet (λ le. are (omega (arith, le))))
    where
      own : List Row
      own = sorted (sorting_cmp schema) i.block.rows

      later : List Mutation
      later = mutations_among (n + 1) cs

      first : List Command
      first = kept w a b (n + 1) (settled schema (upto v) (n + 1) cs)

      second : List Command
      second = kept w a b (n + 1) (settled schema q (n + 1) cs)

      by : (x y : Bool) → lies_within a b n ≡ y → mutated ms (flat_map rows_by first) ≡ flat_map rows_by second
          → mutated ms (flat_map rows_by (kept_if (x && y) (settled_by schema (passing (upto v) later) (command.Insert i)) first)) ≡ flat_map rows_by (kept_if (x && y) (settled_by schema (passing q later) (command.Insert i)) second)
      by false y is rest = rest
      by true false is rest = rest
      by true true is rest =
          let last : nat_le n b ≡ true = second_true (nat_le a n) (nat_le n b) is in
          let inside : n ≤ b = grind (arith, nat_tests, last) in
          let here : mutated ms (mutated (passing (upto v) later) own) ≡ mutated (passing q later) own =
          ap (λ (zs : List Mutation). mutated zs (mutated (passing (upto v) later) own)) (sym (are inside))
          ∙ (sym (mutated_on (passing (upto v) later) (filter between later) own) ∙ ap (λ (zs : List Mutation). mutated zs own) (sym (parted (n + 1) cs))) in
          mutated_append ms (mutated (passing (upto v) later) own) (flat_map rows_by first) ∙ ap₂ (λ (xs ys : List Row). xs ++ ys) here rest

-- ---- the rows of INSERTs that may come

-- a command that may come into a table of this schema
abbrev pub IsInto : Schema → Command → Type 0
IsInto schema (command.Create c) = ⊥
IsInto schema (command.Insert i) = IsInsertInto schema i
IsInto schema (command.Alter a) = IsChangeOf schema a.change

-- an INSERT of rows of the table that are of its partition, whatever was made of them
pub record IsBlockOf (schema : Schema) (i : Insert) : Type 0 where
  pub rows : All (IsTableRow schema) i.block.rows
  pub own : All (λ row. partition_of schema row ≡ i.partition) i.block.rows

abbrev pub IsSettled : Schema → Command → Type 0
IsSettled schema (command.Create c) = ⊥
IsSettled schema (command.Insert i) = IsBlockOf schema i
IsSettled schema (command.Alter a) = Unit {0}

module _ (schema : Schema) (table : IsTableSchema schema) where
  abbrev MayChange : Mutation → Type 0
  MayChange m = IsChangeOf schema m.change

  -- the mutations among commands that may come
  pub changes_among : (n : ℕ) (cs : List Command) → AllByRecursion (IsInto schema) cs → All (λ (m : Mutation). IsChangeOf schema m.change) (mutations_among n cs)
  changes_among n [] all = All-nil MayChange
  changes_among n (command.Create c ∷ cs) all = absurd all.0
  changes_among n (command.Insert i ∷ cs) all = changes_among (n + 1) cs all.1
  changes_among n (command.Alter a ∷ cs) all = All-cons MayChange (record { number = n; change = a.change }) (mutations_among (n + 1) cs) all.0 (changes_among (n + 1) cs all.1)

  -- the rows of an INSERT that may come, in the table's order
  block_of : (i : Insert) → IsInsertInto schema i → (ms : List Mutation) → All (λ (m : Mutation). IsChangeOf schema m.change) ms
      → All (IsTableRow schema) (mutated ms (sorted (sorting_cmp schema) i.block.rows)) × All (λ row. partition_of schema row ≡ i.partition) (mutated ms (sorted (sorting_cmp schema) i.block.rows))
  block_of i into ms may =
      let rows = i.block.rows in
      let permutes = sorted_permutes (sorting_cmp schema) (sorting_total schema) rows in
      let tables : All (IsTableRow schema) rows = λ k d below. record { typed = into.rows k d below; fits = values_fit (get_or rows k d) (into.values k d below); signed = into.signed k d below } in (
        mutated_table schema table ms may (sorted (sorting_cmp schema) rows) (All-permutation (IsTableRow schema) rows (sorted (sorting_cmp schema) rows) permutes tables),
        mutated_partition schema table ms may i.partition (sorted (sorting_cmp schema) rows) (All-permutation (λ row. partition_of schema row ≡ i.partition) rows (sorted (sorting_cmp schema) rows) permutes into.own),
      )

  pub all_settled : (test : ℕ → Bool) (n : ℕ) (cs : List Command) → AllByRecursion (IsInto schema) cs → AllByRecursion (IsSettled schema) (settled schema test n cs)
  all_settled test n [] all = tt
  all_settled test n (command.Create c ∷ cs) all = absurd all.0
  all_settled test n (command.Alter a ∷ cs) all = (tt, all_settled test (n + 1) cs all.1)
  all_settled test n (command.Insert i ∷ cs) all =
      let ms = passing test (mutations_among (n + 1) cs) in
      let may = All-filter (λ (m : Mutation). test m.number) (λ (m : Mutation). IsChangeOf schema m.change) (mutations_among (n + 1) cs) (changes_among (n + 1) cs all.1) in
      let both = block_of i all.0 ms may in
      (record { rows = both.0; own = both.1 }, all_settled test (n + 1) cs all.1)

-- the rows that are kept are rows of the table
pub kept_rows : (schema : Schema) (w : Partition) (a b n : ℕ) (cs : List Command) → AllByRecursion (IsSettled schema) cs → All (IsTableRow schema) (flat_map rows_by (kept w a b n cs))
kept_rows schema w a b n [] all = All-nil (IsTableRow schema)
kept_rows schema w a b n (command.Create c ∷ cs) all = absurd all.0
kept_rows schema w a b n (command.Alter c ∷ cs) all = kept_rows schema w a b (n + 1) cs all.1
kept_rows schema w a b n (command.Insert i ∷ cs) all = by (same_partition i.partition w && lies_within a b n) (kept_rows schema w a b (n + 1) cs all.1)
  where
    by : (x : Bool) → All (IsTableRow schema) (flat_map rows_by (kept w a b (n + 1) cs)) → All (IsTableRow schema) (flat_map rows_by (kept_if x (command.Insert i) (kept w a b (n + 1) cs)))
    by true more = All-append (IsTableRow schema) i.block.rows (flat_map rows_by (kept w a b (n + 1) cs)) all.0.rows more
    by false more = more

pub all_rows : (schema : Schema) (cs : List Command) → AllByRecursion (IsSettled schema) cs → All (IsTableRow schema) (flat_map rows_by cs)
all_rows schema [] all = All-nil (IsTableRow schema)
all_rows schema (command.Create c ∷ cs) all = absurd all.0
all_rows schema (command.Alter c ∷ cs) all = all_rows schema cs all.1
all_rows schema (command.Insert i ∷ cs) all = All-append (IsTableRow schema) i.block.rows (flat_map rows_by cs) all.0.rows (all_rows schema cs all.1)

-- ---- INSERTs and their partitions, before and after

-- a settled INSERT is one of the same partition
pub settled_at : (schema : Schema) (test : ℕ → Bool) (n : ℕ) (cs : List Command) (k : ℕ) (i : Insert) → slice_get cs k ≡ Some (command.Insert i)
    → (j : Insert) × (slice_get (settled schema test n cs) k ≡ Some (command.Insert j)) × (j.partition ≡ i.partition)
settled_at schema test n [] k i is = cc
settled_at schema test n (c ∷ cs) (suc k) i is = settled_at schema test (n + 1) cs k i is
settled_at schema test n (command.Create c ∷ cs) zero i is = cc
settled_at schema test n (command.Alter a ∷ cs) zero i is = cc
settled_at schema test n (command.Insert x ∷ cs) zero i is =
    let same : x ≡ i = cc in
    (record { table = x.table; partition = x.partition; block = record { types = x.block.types; rows = mutated (passing test (mutations_among (n + 1) cs)) (sorted (sorting_cmp schema) x.block.rows) } }, refl, ap (λ (y : Insert). y.partition) same)

-- and comes from one
pub settled_from : (schema : Schema) (test : ℕ → Bool) (n : ℕ) (cs : List Command) (k : ℕ) (j : Insert) → slice_get (settled schema test n cs) k ≡ Some (command.Insert j)
    → (i : Insert) × (slice_get cs k ≡ Some (command.Insert i)) × (i.partition ≡ j.partition)
settled_from schema test n [] k j is = cc
settled_from schema test n (c ∷ cs) (suc k) j is = settled_from schema test (n + 1) cs k j is
settled_from schema test n (command.Create c ∷ cs) zero j is = cc
settled_from schema test n (command.Alter a ∷ cs) zero j is = cc
settled_from schema test n (command.Insert x ∷ cs) zero j is =
    let made : Insert = record { table = x.table; partition = x.partition; block = record { types = x.block.types; rows = mutated (passing test (mutations_among (n + 1) cs)) (sorted (sorting_cmp schema) x.block.rows) } } in
    let same : made ≡ j = cc in
    (x, refl, ap (λ (y : Insert). y.partition) same)
