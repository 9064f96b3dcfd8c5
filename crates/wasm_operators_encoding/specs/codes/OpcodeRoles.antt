-- The role of an operator in the nesting of instructions, by its opcode (WebAssembly 3.0, binary format, control instructions, and the
-- older proposal on exceptions).
use Rattle.std.specs.Prelude.{◌==◌, if◌then◌else◌, ℕ, Option, Some, None}
use Rattle.wasm_operators_immediates.specs.declared.frames.FrameKind.TheVariants as frames
use Rattle.wasm_operators_enums.specs.declared.role.Role.{Role}
use Rattle.wasm_operators_enums.specs.declared.role.Role.TheVariants.{Plain, Opens, Else, Catch, CatchAll, Delegate, End}
use Rattle.wasm_operators_encoding.specs.Opcodes.{Opcode}

-- the clauses of the older `try`, and what ends one without clauses
abbrev pub clause_role : ℕ → Role
clause_role code = if code == 0x07 then Catch else (if code == 0x18 then Delegate else (if code == 0x19 then CatchAll else Plain))

-- the openers of frames, `else` and `end`
abbrev pub plain_role : ℕ → Role
plain_role code =
    if code == 0x02 then Opens frames.Block else (
    if code == 0x03 then Opens frames.Loop else (
    if code == 0x04 then Opens frames.If else (
    if code == 0x05 then Else else (
    if code == 0x06 then Opens frames.LegacyTry else (
    if code == 0x0b then End else (
    if code == 0x1f then Opens frames.TryTable else clause_role code
    )
    )
    )
    )
    )
    )

-- behind a prefix no operator opens, turns or closes a frame
abbrev pub role_behind : Option ℕ → ℕ → Role
role_behind None code = plain_role code
role_behind (Some p) code = Plain

-- the role of the operators of an opcode
abbrev pub role_at : Opcode → Role
role_at o = role_behind o.prefix o.code
