-- A list with no types holds no type that is not valid.
use Rattle.std.proofs.Common.{ℕ, ◌<◌, [], arith}
use Rattle.std.proofs.lemmas.List.Elements.{All-nil}
use Rattle.wasm_types.specs.settings.Settings.{Settings}
use Rattle.wasm_types.specs.trees.declared.index.CoreTypeId.{CoreTypeId}
use Rattle.wasm_types.specs.trees.Unfold.{type_count}
use Rattle.wasm_module_validator_type_storage.specs.trees.Groups.{count}
use Rattle.wasm_module_validator_type_groups.specs.adding.Interned.{AreIdsKnown, IsChecked}

none_counted : (id : ℕ) → id < count [] → ⊥
unfolding type_count
none_counted id lt = absurd (omega arith)

pub empty_checked : (z : Settings) → IsChecked z [] × AreIdsKnown [] []
empty_checked z = (record { canonical = λ t. tt; valid = λ id lt. absurd (none_counted id lt) }, All-nil (λ (i : CoreTypeId). i.0 < count []))
