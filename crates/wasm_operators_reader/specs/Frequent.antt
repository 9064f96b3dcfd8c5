-- The frames around an operator that is told straight from its bytes, by the role of its first byte.
use Rattle.std.specs.Prelude.{List, ◌∷◌}
use Rattle.wasm_operators_immediates.specs.declared.frames.FrameKind.{FrameKind}
use Rattle.wasm_operators_enums.specs.declared.role.Role.{Role}
use Rattle.wasm_operators_immediates.specs.declared.frames.FrameKind.TheVariants as kinds
use Rattle.wasm_operators_enums.specs.declared.role.Role.TheVariants.{Opens, End, Else}
use Rattle.wasm_operators_encoding.specs.expressions.Stack.{around}

-- while it is told: the frame that it opens is open
abbrev pub held : Role → List FrameKind → List FrameKind
held (Opens k) ks = k ∷ ks
held r ks = ks

-- when it was told: `end` closes the innermost, `else` makes it the second part of an `if`
abbrev pub closed : Role → List FrameKind → List FrameKind
closed End ks = around ks
closed Else ks = kinds.Else ∷ around ks
closed r ks = ks

-- where it is not told: the frame that it opened is closed
abbrev pub given_back : Role → List FrameKind → List FrameKind
given_back (Opens k) ks = around ks
given_back r ks = ks
