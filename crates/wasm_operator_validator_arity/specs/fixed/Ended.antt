-- Numbers of operands in 32 bits.
use Rattle.std.specs.Prelude.{Option, option_map}
use Rattle.wasm_operator_validator_rules.specs.arity.Arity.{Counts, in_u32}

-- the numbers in 32 bits, where those that are larger end
abbrev pub ended : Option Counts → Option Counts
ended c = option_map (λ n. (in_u32 n.0, in_u32 n.1)) c
