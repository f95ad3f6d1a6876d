use Rattle.std.proofs.Common.{rules, ◌<◌, ℕ, ◌∙◌, ap, sym, subst}
use Rattle.std.specs.Ordering.{nat_cmp}
use Rattle.std.specs.Cmp.Lexicographic.{slice_cmp}
use Rattle.std.specs.BTreeMap.{is_at}
use Rattle.std.specs.Map.{lookup}
use Rattle.std.proofs.lemmas.Map.Made.{map_same_pairs}
use Rattle.part_set.specs.Sets.{parts_on, room_on}
use Rattle.part_set.specs.Shelf.{freed_shelves}
use Rattle.part_set.proofs.Freeing.{freed_at, freed_on, freed_room_on}
use Rattle.part_set.proofs.set.PartSet.clear_all_marks.Goals as goal

pub returns-clause-cleared : goal.returns-clause-cleared
returns-clause-cleared g c = λ t.
    let old = c.args.self.now.tables.entries in
    let new = c.retain.new.self.entries in
    let same = freed_at old new (map_same_pairs _ freed_shelves _ (λ k v b w f s. search rules) old new c.retain.ensures.filtered) t in
    ap parts_on same ∙ freed_on (lookup (is_at (slice_cmp nat_cmp t)) old)

pub returns-clause-rooms : goal.returns-clause-rooms
returns-clause-rooms g c = λ t p room.
    let old = c.args.self.now.tables.entries in
    let new = c.retain.new.self.entries in
    let same = freed_at old new (map_same_pairs _ freed_shelves _ (λ k v b w f s. search rules) old new c.retain.ensures.filtered) t in
    subst (λ (n : ℕ). 0 < n) (sym (ap (λ o. room_on o p) same ∙ freed_room_on (lookup (is_at (slice_cmp nat_cmp t)) old) p)) room
