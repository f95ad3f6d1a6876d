-- Which calls of an object fail.
use Rattle.std.specs.Prelude.{◌≡◌, ℕ, ◌&&◌, ◌==◌, Bool, false, true, List, Option, Some, None, IsTrue, slice_index, slice_set, nat_lt, filter, replicate, if◌then◌else◌, ◌↔◌, Result, IsErrOf}
use Rattle.std.specs.List.{list_any}
use Rattle.mt_outside.specs.Counts.{next}
use Rattle.fault_plan.specs.declared.plan.CallKind.{CallKind}
use Rattle.fault_plan.specs.declared.plan.CallKind.TheVariants as kind
use Rattle.fault_plan.specs.declared.plan.Listed.{Listed}
use Rattle.fault_plan.specs.declared.plan.Plan.{Plan}
use Rattle.mt_outside.specs.declared.disk.DiskError.{DiskError}
use Rattle.mt_outside.specs.declared.disk.DiskError.TheVariants.{Fault}

-- where the calls of a kind are counted
abbrev pub place_of : CallKind → ℕ
place_of kind.Start = 0
place_of kind.Arm = 1
place_of kind.List = 2
place_of kind.Open = 3
place_of kind.Publish = 4
place_of kind.Remove = 5
place_of kind.SyncNames = 6
place_of kind.Stage = 7
place_of kind.Read = 8
place_of kind.Append = 9
place_of kind.Sync = 10

-- how many calls of a kind were made, as far as 64 bits count
abbrev pub made_of : CallKind → Plan → ℕ
made_of kind plan = slice_index plan.made (place_of kind)

-- both name one object, or none
abbrev pub same_number : Option ℕ → Option ℕ → Bool
same_number None None = true
same_number (Some m) (Some n) = m == n
same_number m n = false

-- an entry names the next call of this kind
abbrev pub names_next : Plan → CallKind → Listed → Bool
names_next plan kind listed =
    same_number listed.arm plan.arm && same_number listed.stage plan.stage && (place_of listed.kind == place_of kind) && (listed.number == made_of kind plan)

abbrev pub is_listed : Plan → CallKind → Bool
is_listed plan kind = list_any (names_next plan kind) plan.listed

-- the next call of this kind is listed
abbrev pub IsListed : Plan → CallKind → Type 0
IsListed plan kind = IsTrue (is_listed plan kind)

-- a plan after a call of this kind, which failed or not
abbrev pub called : CallKind → Bool → Plan → Plan
called kind fails plan =
    record {
      arm = plan.arm;
      stage = plan.stage;
      listed = plan.listed;
      made = slice_set plan.made (place_of kind) (next (made_of kind plan));
      failed = (if fails then next plan.failed else plan.failed);
    }

-- a plan after it took over a count of failed calls
abbrev pub taken : ℕ → Plan → Plan
taken count plan =
    record { arm = plan.arm; stage = plan.stage; listed = plan.listed; made = plan.made; failed = (if nat_lt 0 count then next plan.failed else plan.failed) }

-- the calls of the arm with this number, and of its stages
abbrev pub of_arm : ℕ → List Listed → List Listed
of_arm arm listed = filter (λ l. same_number l.arm (Some arm)) listed

-- the calls of the stage with this number
abbrev pub of_stage : ℕ → List Listed → List Listed
of_stage stage listed = filter (λ l. same_number l.stage (Some stage)) listed

-- the plan of an object of which no call was made
abbrev pub fresh : Option ℕ → Option ℕ → List Listed → Plan
fresh arm stage listed = record { arm = arm; stage = stage; listed = listed; made = replicate 11 0; failed = 0 }

-- the plan of the arm that the disk's next `arm` call makes
abbrev pub next_arm : Plan → Plan
next_arm disk = fresh (Some (made_of kind.Arm disk)) None (of_arm (made_of kind.Arm disk) disk.listed)

-- the plan of the stage that the arm's next `stage` call makes
abbrev pub next_stage : Plan → Plan
next_stage arm = fresh arm.arm (Some (made_of kind.Stage arm)) (of_stage (made_of kind.Stage arm) arm.listed)

-- a call of an arm or a stage: it answers a fault exactly where it is listed, and the count rises by one then and stays otherwise
pub record FailsAsListed {T : Type 0} (kind : CallKind) (old new : Plan) (result : Result T DiskError) : Type 0 where
  pub exactly : IsErrOf result Fault ↔ IsListed old kind
  pub plan : new ≡ called kind (is_listed old kind) old
