-- What becomes of the outside where an entry was begun before a name was given to the disk.
use Rattle.std.proofs.Common.{◌≡◌, ℕ, List, Option, Some, None, refl, ap, ◌∙◌, subst}
use Rattle.std.specs.Option.{option_map}
use Rattle.mt_values.specs.declared.command.Entry.{Entry}
use Rattle.mt_values.specs.Annals as keeper
use Rattle.mt_values.specs.Annals.{began, noted}
use Rattle.mt_outside.specs.declared.disk.DiskError.{DiskError}
use Rattle.mt_outside.specs.Disk.{Told}
use Rattle.stage_dir.specs.Stages.{Filled}
use Rattle.durable_commit.specs.Commits.{refused_by_disk}
use Rattle.durable_commit.specs.Publications.{IsPublished, IsUnsettled, publication, storage}

module _ (name : List ℕ) (sealed : Filled) (e : Entry) (disk now : Option Told) (clock mark failed count : ℕ) (old mid : Option keeper.Told) (begun : mid ≡ option_map (began e) old) where
  -- it was not settled
  pub unsettled_begun : (error : DiskError) → IsUnsettled (publication name sealed None) (refused_by_disk error) (storage disk clock failed mid) (storage now mark count mid)
      → IsUnsettled (publication name sealed (Some e)) (refused_by_disk error) (storage disk clock failed old) (storage now mark count mid)
  unsettled_begun error d = record {
    sealed = d.sealed;
    outside = d.outside;
    root = d.root;
    mark = d.mark;
    annals = begun;
    later = d.later;
    rose = d.rose;
    unchanged = d.unchanged;
    calm = d.calm;
  }

  -- it was, and the entry is noted
  pub published_noted : (new : Option keeper.Told) (at : ℕ) → at ≡ mark → new ≡ option_map (noted at) mid → IsPublished (publication name sealed None) (storage disk clock failed mid) (storage now mark count mid)
      → IsPublished (publication name sealed (Some e)) (storage disk clock failed old) (storage now mark count new)
  published_noted new at same is d = record {
    sealed = d.sealed;
    root = d.root;
    mark = d.mark;
    annals = subst (λ (m : ℕ). new ≡ option_map (noted m) mid) same is ∙ (ap (option_map (noted mark)) begun ∙ twice old);
    later = d.later;
    calm = d.calm;
  }
    where
      twice : (o : Option keeper.Told) → option_map (noted mark) (option_map (began e) o) ≡ option_map (λ (t : keeper.Told). noted mark (began e t)) o
      twice (Some t) = refl
      twice None = refl
