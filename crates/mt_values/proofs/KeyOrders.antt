-- Whether a schema breaks a rule does not depend on which of its keys is tried first.
use Rattle.std.proofs.Common.{◌≡◌, ℕ, List, Option, Some, None, refl}
use Rattle.mt_values.specs.declared.schema.KeyOrder.{KeyOrder}
use Rattle.mt_values.specs.declared.schema.KeyOrder.TheVariants.{SortingFirst, PrimaryFirst}
use Rattle.mt_values.specs.declared.schema.Schema.{Schema}
use Rattle.mt_values.specs.declared.schema.SchemaFault.{SchemaFault}
use Rattle.mt_values.specs.Schemas.{column_fault, empty_fault, engine_fault, fault_or, granularity_fault, index_fault, index_granularity_fault, key_fault, keys_fault, partition_fault, prefix_fault, schema_fault_as, set_size_fault}
use Rattle.mt_values.specs.Engines.{summed_places}
use Rattle.mt_values.proofs.RowPartitions.{none_before, none_after}

swapped : (x y : Option SchemaFault) → fault_or x y ≡ None → fault_or y x ≡ None
swapped None None none = refl
swapped None (Some f) none = cc
swapped (Some f) y none = cc

keys_free : (first other : KeyOrder) (key primary : List ℕ) → keys_fault first key primary ≡ None → keys_fault other key primary ≡ None
keys_free SortingFirst SortingFirst key primary none = none
keys_free SortingFirst PrimaryFirst key primary none = swapped (key_fault key) (key_fault primary) none
keys_free PrimaryFirst SortingFirst key primary none = swapped (key_fault primary) (key_fault key) none
keys_free PrimaryFirst PrimaryFirst key primary none = none

-- where the first of two is no fault, and the second one's place is taken by no fault
weaker : (x y z : Option SchemaFault) → fault_or x y ≡ None → (y ≡ None → z ≡ None) → fault_or x z ≡ None
weaker None y z none next = next none
weaker (Some f) y z none next = cc

pub sound_in_any_order : (first other : KeyOrder) (schema : Schema) → schema_fault_as first schema ≡ None → schema_fault_as other schema ≡ None
sound_in_any_order first other schema none =
    let sizes = fault_or (granularity_fault schema.granularity) (fault_or (index_granularity_fault schema.indexes) (fault_or (set_size_fault schema.indexes) None)) in
    let rest = fault_or (prefix_fault schema.key schema.primary) (fault_or (partition_fault schema.columns schema.partition) (fault_or (engine_fault schema) sizes)) in
    let keys = keys_fault first schema.key schema.primary in
    let keys_too = keys_fault other schema.key schema.primary in
    let list = key_fault (summed_places schema.engine) in
    let indexed = fault_or (index_fault schema.indexes) (fault_or list (fault_or keys rest)) in
    let indexed_too = fault_or (index_fault schema.indexes) (fault_or list (fault_or keys_too rest)) in
    weaker (empty_fault schema.columns) (fault_or (column_fault schema.columns) indexed) (fault_or (column_fault schema.columns) indexed_too) none
    (λ none. weaker (column_fault schema.columns) indexed indexed_too none
    (λ none. weaker (index_fault schema.indexes) (fault_or list (fault_or keys rest)) (fault_or list (fault_or keys_too rest)) none
    (λ none. weaker list (fault_or keys rest) (fault_or keys_too rest) none
    (λ none.
    let free : keys_too ≡ None = keys_free first other schema.key schema.primary (none_before keys rest none) in
    rw free (none_after keys rest none)))))
