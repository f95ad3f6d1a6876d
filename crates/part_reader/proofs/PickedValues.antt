-- Columns that get the values of the wanted rows of chosen granules, run by run.
use Rattle.std.proofs.Common.{◌≡◌, ℕ, suc, ◌+◌, ◌*◌, inl, inr, Bool, true, false, List, [], ◌∷◌, ◌++◌, Some, refl, sym, ap, ◌∙◌, subst, length, length-append, take, arith, append_assoc, append-nil, mul-zero, Result, Ok, Err, OnOk}
use Rattle.std.specs.List.{range_with_len}
use Rattle.std.proofs.lemmas.List.{nil_from_length}
use Rattle.std.proofs.lemmas.List.FromFn.{length-range_with_len}
use Rattle.mt_values.specs.declared.value.ColType.{ColType}
use Rattle.mt_values.specs.declared.value.Value.{Value}
use Rattle.mt_values.specs.Grid.{Cells}
use Rattle.mt_values.specs.Lists.{where_true}
use Rattle.mt_values.proofs.Wheres.{where_append}
use Rattle.part_damage.specs.column_file.Granules.{run_of}
use Rattle.part_damage.specs.column_file.Spellings.{IsSpelling, with_values}
use Rattle.part_damage.proofs.ColumnFileWanted.{gained_where}
use Rattle.part_reader.specs.declared.runs.Run.{Run}
use Rattle.part_reader.specs.Granules.{IsChosenRun, IsRunAdded, IsRunRead, PartColumn, chosen_count, chosen_of, rows_in}
use Rattle.part_reader.specs.Picks.{GainsPicked}
use Rattle.part_reader.proofs.ChosenColumns.{run_is}
use Rattle.part_reader.proofs.ChosenItems.{chosen_length, chosen_run}

-- ---- masks

-- how many items of a list a mask is true at depends on how many there are
pub where_length : {X Y : Type 0} (mask : List Bool) (xs : List X) (ys : List Y) → length xs ≡ length ys → length (where_true mask xs) ≡ length (where_true mask ys)
where_length [] xs ys even = refl
where_length (b ∷ mask) [] [] even = refl
where_length (b ∷ mask) [] (y ∷ ys) even = absurd (omega (arith, even))
where_length (b ∷ mask) (x ∷ xs) [] even = absurd (omega (arith, even))
where_length (true ∷ mask) (x ∷ xs) (y ∷ ys) even = ap suc (where_length mask xs ys (omega (arith, even)))
where_length (false ∷ mask) (x ∷ xs) (y ∷ ys) even = where_length mask xs ys (omega (arith, even))

-- ---- run after run

module _ (c : PartColumn) (chosen : List Bool) where
  abbrev size : ℕ
  size = c.loaded.schema.granularity

  picks_run : (run : Run) (done own : List Bool) (old now new : Cells) → GainsPicked c (take run.first chosen) done old now → IsRunRead c run (Some own) now new → IsChosenRun chosen run → length done ≡ chosen_count size (take run.first chosen) c.loaded.manifest.rows → length own ≡ rows_in c.loaded run
      → GainsPicked c (take (run.first + run.count) chosen) (done ++ own) old new
  picks_run run done own old now new before read is done_is own_is =
      let type_is : new.col_type ≡ now.col_type = ap (λ (x : Cells). x.col_type) read.gained.gained in
      let long : length new.values ≡ length now.values + length (where_true own read.gained.values) = ap (λ (x : Cells). length x.values) read.gained.gained ∙ length-append now.values (where_true own read.gained.values) in
      let same : length (where_true own read.gained.values) ≡ length (where_true own own) = where_length own read.gained.values own read.gained.spelling.count_is in
      let parts : where_true (done ++ own) (done ++ own) ≡ where_true done done ++ where_true own own = where_append done own done own refl in
      record {
        col_type = type_is ∙ before.col_type;
        even = omega (arith, long, same, before.even, ap length parts, length-append (where_true done done) (where_true own own));
        values = λ values h.
            let front = chosen_of size (take run.first chosen) values in
            let theirs = run_of size run.first run.count values in
            let spelled : IsSpelling now.col_type (rows_in c.loaded run) read.bytes theirs =
            subst (λ (t : ColType). IsSpelling t (rows_in c.loaded run) read.bytes theirs) (sym before.col_type) (run_is c old.col_type values h run read.span read.bytes read.span_is read.read) in
            let gained : new ≡ with_values now (where_true own theirs) = gained_where own read.bytes now new theirs read.gained (subst (λ n. IsSpelling now.col_type n read.bytes theirs) (sym own_is) spelled) in
            let count = c.loaded.manifest.rows in
            let even : length done ≡ length front =
            done_is ∙ chosen_length size (take run.first chosen) (range_with_len 0 count) values (length-range_with_len 0 count ∙ sym h.spelled.count_is) in
            let all : where_true (done ++ own) (chosen_of size (take (run.first + run.count) chosen) values) ≡ where_true done front ++ where_true own theirs =
            ap (where_true (done ++ own)) (chosen_run size chosen run values is) ∙ where_append done own front theirs even in
            gained ∙ ap (λ (x : Cells). with_values x (where_true own theirs)) (before.values values h)
            ∙ ap (λ (vs : List Value). record old { values = vs }) (append_assoc old.values (where_true done front) (where_true own theirs) ∙ ap (λ (vs : List Value). old.values ++ vs) (sym all));
      }

  -- the same of a run that may be empty
  pub picks_added : (run : Run) (done own : List Bool) (old now new : Cells) → GainsPicked c (take run.first chosen) done old now → IsRunAdded c run (Some own) now new → IsChosenRun chosen run → length done ≡ chosen_count size (take run.first chosen) c.loaded.manifest.rows → length own ≡ rows_in c.loaded run
      → GainsPicked c (take (run.first + run.count) chosen) (done ++ own) old new
  picks_added run done own old now new before (inr read) is done_is own_is = picks_run run done own old now new before read is done_is own_is
  picks_added run done own old now new before (inl empty) is done_is own_is =
      let none : run.count ≡ 0 = empty.0 in
      let nothing : size * run.count ≡ 0 = ap (λ n. size * n) none ∙ mul-zero size in
      let all : done ++ own ≡ done = ap (λ l. done ++ l) (nil_from_length own (omega (arith, own_is, nothing))) ∙ append-nil done in
      subst (λ (x : Cells). GainsPicked c (take (run.first + run.count) chosen) (done ++ own) old x) (sym empty.1)
      (subst (λ m. GainsPicked c (take (run.first + run.count) chosen) m old now) (sym all) (subst (λ n. GainsPicked c (take n chosen) done old now) (omega (arith, none)) before))

-- ---- what a call says of the whole

pub on_ok : {T E : Type 0} {P Q : Type 0} (result : Result T E) → (P → Q) → OnOk result P → OnOk result Q
on_ok (Ok x) f p = f p
on_ok (Err e) f p = tt
