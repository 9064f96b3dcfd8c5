-- What a choice without a type gives, which is for numbers and vectors (WebAssembly 3.0, validation, parametric instructions).
use Rattle.std.specs.Prelude.{◌≡◌, Bool, true, false, not}
use Rattle.wasm_types.specs.values.ValueKinds.{is_reference}
use Rattle.wasm_operator_validator_state.specs.declared.operand.MaybeType.{MaybeType}
use Rattle.wasm_operator_validator_state.specs.declared.operand.MaybeType.TheVariants as maybe

-- it may stand for a number or a vector
abbrev pub may_choose : MaybeType → Bool
may_choose maybe.Bottom = true
may_choose (maybe.UnknownRef a) = false
may_choose (maybe.Known v) = not (is_reference v)

-- the type of both: where nothing is known of one, that of the other
abbrev pub Agrees : MaybeType → MaybeType → MaybeType → Type 0
Agrees maybe.Bottom b t = t ≡ b
Agrees (maybe.UnknownRef a) b t = ⊥
Agrees (maybe.Known v) maybe.Bottom t = t ≡ maybe.Known v
Agrees (maybe.Known v) (maybe.UnknownRef b) t = ⊥
Agrees (maybe.Known v) (maybe.Known w) t = (v ≡ w) × (t ≡ maybe.Known v)

-- the choice between the first two gives the third
abbrev pub Chooses : MaybeType → MaybeType → MaybeType → Type 0
Chooses a b t = (may_choose a ≡ true) × (may_choose b ≡ true) × Agrees a b t
