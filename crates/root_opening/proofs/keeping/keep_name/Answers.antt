use Rattle.std.proofs.Common.{List, ℕ, refl, take, sym, subst, OnOk}
use Rattle.std.proofs.lemmas.Result.{IfErr-weaker}
use Rattle.mt_outside.proofs.LeftDisks.{disk_as, disk_same}
use Rattle.mt_outside.specs.Disk.{names_of}
use Rattle.root_store.specs.part_set.declared.root_name.RootName.{RootName}
use Rattle.root_store.specs.part_set.declared.root_name.RootName.TheVariants as root
use Rattle.root_store.specs.part_set.Visible.{IsVisible}
use Rattle.root_store.specs.Damage.{IsDamaged}
use Rattle.root_opening.specs.Keeping.{Keeps, KeepsTold, TellsFile}
use Rattle.root_opening.proofs.KeptNames.{one_part, no_table, passed_over, passed_told}
use Rattle.root_opening.proofs.NextNames.{first_told, meets_none, name_at, never_twice, next_front, spelled, table_in_front, text_there}
use Rattle.root_opening.proofs.keeping.keep_name.Goals as goal

pub keep_table-requires-clause-there : goal.keep_table-requires-clause-there
keep_table-requires-clause-there g c κs within =
    text_there c.args.root.now c.requires.named c.args.place c.requires.place (g.D.Disk.told c.args.disk.now) c.index-text.result.now c.requires.listed c.index-text.ensures

pub keep_part-requires-clause-there : goal.keep_part-requires-clause-there
keep_part-requires-clause-there g c κs within =
    text_there c.args.root.now c.requires.named c.args.place c.requires.place (g.D.Disk.told c.args.disk.now) c.index-text.result.now c.requires.listed c.index-text.ensures

pub keep_part-requires-clause-table : goal.keep_part-requires-clause-table
keep_part-requires-clause-table g c κs within =
    let part = c.in-Part.part in
    let is = name_at c.args.root.now.names.items c.args.place c.index.result.now (root.Part part) c.index.ensures c.in-Part.is in
    c.requires.keeps.all part.table (table_in_front c.args.root.now c.requires.named c.args.place c.requires.place part is)

pub keep_part-requires-clause-schema : goal.keep_part-requires-clause-schema
keep_part-requires-clause-schema g c κs within = λ t at. (c.requires.keeps.known c.in-Part.part.table t at).schema

pub keep_part-requires-clause-apart : goal.keep_part-requires-clause-apart
keep_part-requires-clause-apart g c κs within =
    let part = c.in-Part.part in
    let names = c.args.root.now.names.items in
    let is = name_at names c.args.place c.index.result.now (root.Part part) c.index.ensures c.in-Part.is in
    let visible = c.shows.ensures.0 c.if-shows.true in
    meets_none c.args.root.now c.requires.named c.args.place c.requires.place part is c.args.store.now c.requires.keeps visible

pub shows-requires : goal.shows-requires
shows-requires g c = c.requires.named.shows

pub returns-in-Create-clause-keeps : goal.returns-in-Create-clause-keeps
returns-in-Create-clause-keeps g c =
    let table = c.in-Create.table in
    let names = c.args.root.now.names.items in
    let is = name_at names c.args.place c.index.result.now (root.Create table) c.index.ensures c.in-Create.is in
    subst (λ (seen : List RootName). OnOk c.keep_table.result (Keeps names seen c.keep_table.new.store)) (next_front names c.args.place (root.Create table) c.requires.place is)
    (c.keep_table.ensures.keeps names (take c.args.place names) (never_twice c.args.root.now c.requires.named c.args.place c.requires.place (root.Create table) is) c.requires.keeps)

pub returns-in-Create-clause-keeps_told : goal.returns-in-Create-clause-keeps_told
returns-in-Create-clause-keeps_told g c = λ told known tells.
    let table = c.in-Create.table in
    let names = c.args.root.now.names.items in
    let is = name_at names c.args.place c.index.result.now (root.Create table) c.index.ensures c.in-Create.is in
    subst (λ (seen : List RootName). OnOk c.keep_table.result (KeepsTold g.D.Arm.Dir.Dir.files (names_of told) names seen c.keep_table.new.store)) (next_front names c.args.place (root.Create table) c.requires.place is)
    (c.keep_table.ensures.keeps_told told names (take c.args.place names) known (never_twice c.args.root.now c.requires.named c.args.place c.requires.place (root.Create table) is) c.requires.keeps tells)

pub returns-in-Create-clause-damaged : goal.returns-in-Create-clause-damaged
returns-in-Create-clause-damaged g c = λ told known tells.
    let table = c.in-Create.table in
    let names = c.args.root.now.names.items in
    let is = name_at names c.args.place c.index.result.now (root.Create table) c.index.ensures c.in-Create.is in
    let text = spelled c.args.root.now c.requires.named c.args.place c.requires.place (root.Create table) is c.index-text.result.now c.index-text.ensures in
    IfErr-weaker c.keep_table.result _ _ (λ e damaged.
    first_told c.args.root.now c.requires.named told (c.requires.listed told known) c.args.place c.requires.place (root.Create table) is g.D.Arm.Dir.Dir.files c.args.store.now tells e
    (subst (λ (t : List ℕ). TellsFile (names_of told) t (IsDamaged (names_of told) names (root.Create table)) e) text damaged))
    (c.keep_table.ensures.damaged told names known)

pub returns-then-shows-clause-keeps : goal.returns-then-shows-clause-keeps
returns-then-shows-clause-keeps g c =
    let part = c.in-Part.part in
    let names = c.args.root.now.names.items in
    let is = name_at names c.args.place c.index.result.now (root.Part part) c.index.ensures c.in-Part.is in
    let visible = c.shows.ensures.0 c.if-shows.true in
    subst (λ (seen : List RootName). OnOk c.keep_part.result (Keeps names seen c.keep_part.new.store)) (next_front names c.args.place (root.Part part) c.requires.place is)
    (c.keep_part.ensures.keeps names (take c.args.place names) visible c.requires.keeps)

pub returns-then-shows-clause-damaged : goal.returns-then-shows-clause-damaged
returns-then-shows-clause-damaged g c = λ told known tells.
    let part = c.in-Part.part in
    let names = c.args.root.now.names.items in
    let is = name_at names c.args.place c.index.result.now (root.Part part) c.index.ensures c.in-Part.is in
    let visible = c.shows.ensures.0 c.if-shows.true in
    let text = spelled c.args.root.now c.requires.named c.args.place c.requires.place (root.Part part) is c.index-text.result.now c.index-text.ensures in
    IfErr-weaker c.keep_part.result _ _ (λ e damaged.
    first_told c.args.root.now c.requires.named told (c.requires.listed told known) c.args.place c.requires.place (root.Part part) is g.D.Arm.Dir.Dir.files c.args.store.now tells e
    (subst (λ (t : List ℕ). TellsFile (names_of told) t (IsDamaged (names_of told) names (root.Part part)) e) text damaged))
    (c.keep_part.ensures.damaged told names (take c.args.place names) known visible tells)

pub returns-else-shows-clause-keeps : goal.returns-else-shows-clause-keeps
returns-else-shows-clause-keeps g c =
    let part = c.in-Part.part in
    let names = c.args.root.now.names.items in
    let is = name_at names c.args.place c.index.result.now (root.Part part) c.index.ensures c.in-Part.is in
    let hidden : IsVisible names part → ⊥ = λ visible. let has = c.shows.ensures.1 visible in let no = c.if-shows.false in cc in
    subst (λ (seen : List RootName). Keeps names seen c.args.store.now) (next_front names c.args.place (root.Part part) c.requires.place is)
    (passed_over names (take c.args.place names) (root.Part part) c.args.store.now c.requires.keeps (no_table part) (λ p visible same. hidden (subst (IsVisible names) (sym (one_part part p same)) visible)))

pub returns-else-shows-clause-keeps_told : goal.returns-else-shows-clause-keeps_told
returns-else-shows-clause-keeps_told g c = λ told known tells.
    let part = c.in-Part.part in
    let names = c.args.root.now.names.items in
    let is = name_at names c.args.place c.index.result.now (root.Part part) c.index.ensures c.in-Part.is in
    let hidden : IsVisible names part → ⊥ = λ visible. let has = c.shows.ensures.1 visible in let no = c.if-shows.false in cc in
    subst (λ (seen : List RootName). KeepsTold g.D.Arm.Dir.Dir.files (names_of told) names seen c.args.store.now) (next_front names c.args.place (root.Part part) c.requires.place is)
    (passed_told names (take c.args.place names) part c.args.store.now hidden g.D.Arm.Dir.Dir.files (names_of told) tells)

-- the names of the folders
pub keep_table-requires-clause-text : goal.keep_table-requires-clause-text
keep_table-requires-clause-text g c κs within =
    let table = c.in-Create.table in
    let names = c.args.root.now.names.items in
    let is = name_at names c.args.place c.index.result.now (root.Create table) c.index.ensures c.in-Create.is in
    spelled c.args.root.now c.requires.named c.args.place c.requires.place (root.Create table) is c.index-text.result.now c.index-text.ensures

pub keep_part-requires-clause-text : goal.keep_part-requires-clause-text
keep_part-requires-clause-text g c κs within =
    let part = c.in-Part.part in
    let names = c.args.root.now.names.items in
    let is = name_at names c.args.place c.index.result.now (root.Part part) c.index.ensures c.in-Part.is in
    spelled c.args.root.now c.requires.named c.args.place c.requires.place (root.Part part) is c.index-text.result.now c.index-text.ensures

-- what is kept is told
pub returns-in-Create-clause-opened : goal.returns-in-Create-clause-opened
returns-in-Create-clause-opened g c = c.keep_table.ensures.opened

pub returns-in-Create-clause-disk : goal.returns-in-Create-clause-disk
returns-in-Create-clause-disk g c = c.keep_table.ensures.disk

pub returns-in-Create-clause-clock : goal.returns-in-Create-clause-clock
returns-in-Create-clause-clock g c = c.keep_table.ensures.clock

pub returns-then-shows-clause-opened : goal.returns-then-shows-clause-opened
returns-then-shows-clause-opened g c = c.keep_part.ensures.opened

pub returns-then-shows-clause-disk : goal.returns-then-shows-clause-disk
returns-then-shows-clause-disk g c = c.keep_part.ensures.disk

pub returns-then-shows-clause-clock : goal.returns-then-shows-clause-clock
returns-then-shows-clause-clock g c = c.keep_part.ensures.clock

pub returns-then-shows-clause-keeps_told : goal.returns-then-shows-clause-keeps_told
returns-then-shows-clause-keeps_told g c = λ told known tells.
    let part = c.in-Part.part in
    let names = c.args.root.now.names.items in
    let is = name_at names c.args.place c.index.result.now (root.Part part) c.index.ensures c.in-Part.is in
    subst (λ (seen : List RootName). OnOk c.keep_part.result (KeepsTold g.D.Arm.Dir.Dir.files (names_of told) names seen c.keep_part.new.store)) (next_front names c.args.place (root.Part part) c.requires.place is)
    (c.keep_part.ensures.keeps_told told names (take c.args.place names) known tells)

-- a hidden part changes nothing
pub returns-else-shows-clause-damaged : goal.returns-else-shows-clause-damaged
returns-else-shows-clause-damaged g c = λ told known tells. tt

pub returns-else-shows-clause-opened : goal.returns-else-shows-clause-opened
returns-else-shows-clause-opened g c = refl

pub returns-else-shows-clause-disk : goal.returns-else-shows-clause-disk
returns-else-shows-clause-disk g c = disk_as (disk_same c.args.disk.now c.args.arm.now) (λ f. cc) (λ f. absurd f)

pub returns-else-shows-clause-clock : goal.returns-else-shows-clause-clock
returns-else-shows-clause-clock g c = refl
