-- The numbers of kinds, case by case, and what it is to find the kind that has a number.
use Rattle.std.specs.Prelude.{ℕ, ◌≡◌, ◌≢◌, Result}
use Rattle.std.specs.Result.{MatchResult}
use Rattle.model.specs.Kinds.{map_key, list_key, make_map, set, make_list, delete, increment, null_kind, boolean_kind, unsigned_kind, signed_kind, float_kind, counter_kind, timestamp_kind}
use Rattle.ids.specs.declared.kinds.KeyKind.{KeyKind}
use Rattle.ids.specs.declared.kinds.KeyKind.TheVariants.{Map, List}
use Rattle.ids.specs.declared.kinds.Action.{Action}
use Rattle.ids.specs.declared.kinds.Action.TheVariants.{MakeMap, Set, MakeList, Delete, Increment}
use Rattle.ids.specs.declared.kinds.ValueKind.{ValueKind}
use Rattle.ids.specs.declared.kinds.ValueKind.TheVariants.{Null, Boolean, Unsigned, Signed, Float, Counter, Timestamp}
use Rattle.ids.specs.declared.kinds.Unknown.{Unknown}

abbrev pub key_number : KeyKind → ℕ
key_number Map = map_key
key_number List = list_key

abbrev pub action_number : Action → ℕ
action_number MakeMap = make_map
action_number Set = set
action_number MakeList = make_list
action_number Delete = delete
action_number Increment = increment

abbrev pub value_number : ValueKind → ℕ
value_number Null = null_kind
value_number Boolean = boolean_kind
value_number Unsigned = unsigned_kind
value_number Signed = signed_kind
value_number Float = float_kind
value_number Counter = counter_kind
value_number Timestamp = timestamp_kind

-- the kind that has this number, or that none has it
abbrev pub Decodes : {K : Type 0} → (K → ℕ) → ℕ → Result K Unknown → Type 0
Decodes number n r = MatchResult r (λ k. number k ≡ n) (λ e. ((k : _) → number k ≢ n) × (e.0 ≡ n))
