-- Rows that were found, key after key.
use Rattle.std.proofs.Common.{◌≡◌, ◌∙◌, ◌+◌, ◌<◌, ℕ, Bool, true, false, All, List, [], ◌∷◌, ◌++◌, ap, append-nil, append_assoc, arith, length, length-append, map, refl, subst, sym}
use Rattle.std.specs.Bool.{◌==◌}
use Rattle.std.proofs.lemmas.Bool.Decides.{nat_tests}
use Rattle.std.proofs.lemmas.List.Elements.{filter-append}
use Rattle.mt_values.specs.Grid.{Cells}
use Rattle.mt_values.specs.Tests.{eval}
use Rattle.mt_values.specs.Values.{Row}
use Rattle.row_merge.specs.part_reader.Parts.{with_columns}
use Rattle.row_merge.specs.Sinks.{GetsSome}
use Rattle.final_fold.specs.declared.asking.Wanted.{Wanted}
use Rattle.final_fold.specs.declared.found.Found.{Found}
use Rattle.final_fold.specs.Asked.{IsWanted}
use Rattle.final_fold.specs.Folded.{AreAdded, IsFolded}
use Rattle.final_fold.specs.Founds.{GetsMatches, HasFound, HasNone, IsFound}
use Rattle.final_fold.specs.Matches.{matching}
use Rattle.final_fold.specs.Scans.{HaveTypes, values_at}
use Rattle.final_fold.proofs.RowValues.{with_more, with_none}
use Rattle.final_fold.proofs.Scanning.{have_many}

-- since now nothing was found
pub found_since : (f : Found) → IsFound f → HasFound [] f.columns.items f.count f
found_since f is = record {
  values = sym (with_none f.wanted.places.now f.columns.items (have_many f.wanted.schema.now f.wanted.places.now f.columns.items is.wanted.places is.columns));
  counted = omega arith;
}

-- the matches among more rows were found
pub found_more : (old new : Found) (rows : List Row) → new.wanted ≡ old.wanted → new.columns.items ≡ with_columns (matching old.wanted.condition.now rows) old.wanted.places.now old.columns.items
    → new.count ≡ old.count + length (matching old.wanted.condition.now rows) → (done : List Row) (base : List Cells) (before : ℕ) → HasFound done base before old → HasFound (done ++ rows) base before new
found_more old new rows same values counted done base before has =
    let w = old.wanted in
    let met = λ (v : Wanted) (rs : List Row). matching v.condition.now rs in
    let split : met w (done ++ rows) ≡ met w done ++ met w rows = filter-append (eval w.condition.now) done rows in
    let are : new.columns.items ≡ with_columns (met w (done ++ rows)) w.places.now base =
    values ∙ ap (with_columns (met w rows) w.places.now) has.values ∙ with_more (met w done) (met w rows) w.places.now base ∙ ap (λ (rs : List Row). with_columns rs w.places.now base) (sym split) in
    let many : new.count ≡ before + length (met w (done ++ rows)) = omega (arith, counted, has.counted, length-append (met w done) (met w rows), ap length split) in
    record {
      values = subst (λ (v : Wanted). new.columns.items ≡ with_columns (met v (done ++ rows)) v.places.now base) (sym same) are;
      counted = subst (λ (v : Wanted). new.count ≡ before + length (met v (done ++ rows))) (sym same) many;
    }

-- what a sink of matches got is what was found since
pub record FoundSince (old : Found) (rows : List Row) (new : Found) : Type 0 where
  pub values : new.columns.items ≡ with_columns (matching old.wanted.condition.now rows) old.wanted.places.now old.columns.items
  pub counted : new.count ≡ old.count + length (matching old.wanted.condition.now rows)

pub got_since : (old new : Found) (rows : List Row) → IsFound old → GetsMatches old rows new → FoundSince old rows new
got_since old new rows is got =
    let has = got.has [] old.columns.items old.count (found_since old is) in
    record {
      values = subst (λ (v : Wanted). new.columns.items ≡ with_columns (matching v.condition.now rows) v.places.now old.columns.items) got.wanted_is has.values;
      counted = subst (λ (v : Wanted). new.count ≡ old.count + length (matching v.condition.now rows)) got.wanted_is has.counted;
    }

-- no match was found, and matches were found one after another
pub gets_no_match : (f : Found) → IsFound f → GetsSome GetsMatches f f
gets_no_match f is = record {
  rows = [];
  got = record {
    wanted_is = refl;
    has = λ done base before has. subst (λ (rs : List Row). HasFound rs base before f) (sym (append-nil done)) has;
    even = λ n even. even;
    found = is;
  };
}

pub gets_then : (first mid last : Found) → GetsSome GetsMatches first mid → GetsSome GetsMatches mid last → GetsSome GetsMatches first last
gets_then first mid last one two = record {
  rows = one.rows ++ two.rows;
  got = record {
    wanted_is = two.got.wanted_is ∙ one.got.wanted_is;
    has = λ done base before has. subst (λ (rs : List Row). HasFound rs base before last) (append_assoc done one.rows two.rows) (two.got.has (done ++ one.rows) base before (one.got.has done base before has));
    even = λ n even. two.got.even n (one.got.even n even);
    found = two.got.found;
  };
}

-- ---- columns that are taken for what is found meanwhile

-- a list that is tested to be empty has no item, and else it has some
is_zero : (n : ℕ) → (n == 0) ≡ true → n ≡ 0
is_zero n is = grind (arith, nat_tests)

zero_is : (n : ℕ) → n ≡ 0 → (n == 0) ≡ true
zero_is n is = grind (arith, nat_tests)

pub none_there : {X : Type 0} (xs : List X) (test : Bool) → test ≡ (length xs == 0) → test ≡ true → length xs ≡ 0
none_there xs test is empty = is_zero (length xs) (sym is ∙ empty)

pub some_there : {X : Type 0} (xs : List X) (test : Bool) → test ≡ (length xs == 0) → test ≡ false → 0 < length xs
some_there [] test is some = let yes = is ∙ zero_is 0 refl in absurd cc
some_there (x ∷ xs) test is some = omega arith

module _ (w : Wanted) (first start : Found) (olds : List Cells) (first_is : first.wanted ≡ w) (items : start.columns.items ≡ olds) (wanted : start.wanted ≡ first.wanted) (count : start.count ≡ first.count) where
  pub taken_found : IsFound first → HaveTypes w.schema.now w.places.now olds → IsFound start
  taken_found is have = record {
    wanted = subst IsWanted (sym wanted) is.wanted;
    columns = subst (λ (v : Wanted). HaveTypes v.schema.now v.places.now start.columns.items) (sym (wanted ∙ first_is)) (subst (HaveTypes w.schema.now w.places.now) (sym items) have);
    few = omega (arith, count, is.few);
  }

  pub taken_none : HasNone first → map (λ (c : Cells). c.values) olds ≡ values_at [] w.places.now → HasNone start
  taken_none none empty = record {
    values = ap (map (λ (c : Cells). c.values)) items ∙ empty ∙ sym (ap (λ (v : Wanted). values_at [] v.places.now) (wanted ∙ first_is));
    counted = count ∙ none.counted;
  }

  -- and once all was found they are put back
  module _ (end : Found) (news : List Cells) (sum : ℕ) (news_are : news ≡ end.columns.items) (sum_is : sum ≡ end.count) where
    pub put_back : (rows : List Row) → IsFolded start.wanted rows end.columns.items end.count → IsFolded w rows news sum
    put_back rows folded =
        subst (λ n. IsFolded w rows news n) (sym sum_is)
        (subst (λ (cs : List Cells). IsFolded w rows cs end.count) (sym news_are) (subst (λ (v : Wanted). IsFolded v rows end.columns.items end.count) (wanted ∙ first_is) folded))

    pub all_added : HasNone first → HaveTypes w.schema.now w.places.now olds → GetsSome GetsMatches start end → AreAdded olds news sum
    all_added none have gets =
        let zero : start.count ≡ 0 = count ∙ none.counted in
        let zeros : 0 + start.count ≡ 0 = omega (arith, zero) in
        let all : 0 + end.count ≡ sum = omega (arith, sum_is) in
        let same : end.wanted ≡ w = gets.got.wanted_is ∙ wanted ∙ first_is in
        record {
          even = λ even.
              let before = subst (All (λ (c : Cells). length c.values ≡ 0 + start.count)) (sym items) (subst (λ n. All (λ (c : Cells). length c.values ≡ n) olds) (sym zeros) even) in
              subst (λ n. All (λ (c : Cells). length c.values ≡ n) news) all (subst (All (λ (c : Cells). length c.values ≡ 0 + end.count)) (sym news_are) (gets.got.even 0 before));
          types = ap (map (λ (c : Cells). c.col_type)) news_are ∙ subst (λ (v : Wanted). HaveTypes v.schema.now v.places.now end.columns.items) same gets.got.found.columns ∙ sym have;
          few = omega (arith, sum_is, gets.got.found.few);
        }
