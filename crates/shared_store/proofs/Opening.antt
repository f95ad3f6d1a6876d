-- What is known of a root as it is opened, where each premise is what it says then.
use Rattle.std.proofs.Common.{◌≡◌, ℕ, [], length, List, Option, None, append-nil, refl, sym, subst, arith}
use Rattle.mt_base.specs.declared.policy.Policy.{Policy}
use Rattle.mt_values.specs.declared.command.Entry.{Entry}
use Rattle.mt_outside.specs.Files.{Files}
use Rattle.root_commits.specs.mt_model.History.{History}
use Rattle.root_commits.specs.root_store.declared.store.CoreStore.{CoreStore}
use Rattle.root_commits.specs.root_store.Shown.{HasNoMark}
use Rattle.root_commits.specs.root_store.Soundness.{IsReady}
use Rattle.root_commits.specs.root_store.Stores.{table_at}
use Rattle.root_commits.specs.durable_commit.Publications.{Storage}
use Rattle.shared_store.specs.Engines.{Opened, opened_of, schema_kept}
use Rattle.shared_store.specs.Sharing.{AtOpening, Fits, IsToBeShared}
use Rattle.shared_store.specs.Stood.{Premise, Stood, holds_at_opening}
use Rattle.shared_store.proofs.Schemas.{first_none}

module _ {F : Type 0} where
  pub stood_opening : (files_of : F → Option Files) (tells : Type 0) (h : History) (begun : Option Entry) (root : Opened F) → Stood files_of (holds_at_opening files_of tells h begun root) 0 None begun h root
  stood_opening files_of tells h begun root = record {
    listed = λ told known. known;
    grows = λ first noted. noted;
    rooted = λ told known read either. read;
    held = λ told held. held;
    safe = λ told known first start safe. safe;
  }

  -- a store fits the schemas that it has, and a list of its length
  pub fits_opening : (before : History) (store : CoreStore F) → store.length ≡ length before → Fits before (λ (t : List ℕ). schema_kept (table_at store t)) [] store
  fits_opening before store long = record { length_is = omega (arith, long); schemas = λ t. sym (first_none (schema_kept (table_at store t))) }

  -- a root as it is opened, by its store and what is known of the outside
  abbrev pub at_opening : Option Entry → Policy → CoreStore F → Storage → Option (List ℕ) → AtOpening
  at_opening begun policy store storage started =
      record { tables = λ (t : List ℕ). schema_kept (table_at store t); begun = begun; policy = policy; failed = store.opened; shared = storage.failed; started = started }

  -- it is ready to be shared
  pub to_be_shared : (files_of : F → Option Files) (given : Premise → Type 0) (before : History) (begun : Option Entry) (policy : Policy) (store : CoreStore F) (storage : Storage) (started : Option (List ℕ)) → IsReady storage.failed storage.disk store → HasNoMark store
      → store.length ≡ length before → Stood files_of given 0 None begun before (opened_of store policy storage started) → IsToBeShared files_of given before (at_opening begun policy store storage started) (opened_of store policy storage started)
  to_be_shared files_of given before begun policy store storage started ready unmarked long stood =
      let first = ready.opened in
      record {
        ready = ready;
        shared = record {
          opened_is = refl;
          policy_is = refl;
          started_is = refl;
          fits = fits_opening before store long;
          stood = subst (λ (h : History). Stood files_of given 0 None begun h (opened_of store policy storage started)) (sym (append-nil before)) stood;
          idle = λ none. unmarked;
          no_stop = λ still. refl;
          no_level = λ none. refl;
          since = first;
          below = ready.below;
          met = omega arith;
        };
      }
