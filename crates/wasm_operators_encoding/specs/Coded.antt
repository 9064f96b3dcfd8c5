-- Operators as bytes have them: an opcode, and immediates of the kinds that belong to it (WebAssembly 3.0, binary format,
-- instructions).
use Rattle.std.specs.Prelude.{◌≡◌, ◌==◌, if◌then◌else◌, ℕ, List, ◌++◌, map, Option, Some, None}
use Rattle.wasm_types.specs.decoding.declared.Refusal.TheVariants.{Other}
use Rattle.wasm_types.specs.decoding.Decoder.{Decoder, ◌>>=◌, pure}
use Rattle.wasm_types.specs.decoding.Lists.{refuse_at}
use Rattle.wasm_types.specs.settings.Settings.{Settings}
use Rattle.wasm_operators_immediates.specs.Kinds.{Kind}
use Rattle.wasm_operators_immediates.specs.Immediates.{Immediate, kind_of}
use Rattle.wasm_operators_encoding.specs.Opcodes.{Opcode, opcode, SpelledOpcode}
use Rattle.wasm_operators_encoding.specs.Sequences.{immediates, SpelledImmediates}
use Rattle.wasm_operators_encoding.specs.Groups.{control_kinds, parametric_kinds, exception_kinds, memory_kinds, const_kinds, numeric_kinds}
use Rattle.wasm_operators_encoding.specs.Groups.{bulk_plain_kinds, gc_plain_kinds, continuation_kinds, gc_kinds, descriptor_kinds}
use Rattle.wasm_operators_encoding.specs.Groups.{numeric_prefixed_kinds, bulk_kinds, simd_kinds, simd_numeric_kinds, atomic_kinds}
use Rattle.wasm_operators_encoding.specs.Groups.{shared_kinds}

-- ---- the kinds of what stands behind an opcode

-- the first, or else the second
abbrev pub or_else : {A : Type 0} → Option A → Option A → Option A
or_else (Some x) other = Some x
or_else None other = other

-- behind an opcode of one byte
abbrev pub plain_kinds : ℕ → Option (List Kind)
plain_kinds code = or_else (control_kinds code) (or_else (parametric_kinds code)
    (or_else (exception_kinds code) (or_else (memory_kinds code)
    (or_else (const_kinds code) (or_else (numeric_kinds code) (or_else (bulk_plain_kinds code) (or_else (gc_plain_kinds code) (continuation_kinds code))))))))

-- behind a code that follows 0xfb
abbrev pub fb_kinds : ℕ → Option (List Kind)
fb_kinds code = or_else (gc_kinds code) (descriptor_kinds code)

-- behind a code that follows 0xfc
abbrev pub fc_kinds : ℕ → Option (List Kind)
fc_kinds code = or_else (numeric_prefixed_kinds code) (bulk_kinds code)

-- behind a code that follows 0xfd
abbrev pub fd_kinds : ℕ → Option (List Kind)
fd_kinds code = or_else (simd_kinds code) (simd_numeric_kinds code)

-- behind a code that follows 0xfe
abbrev pub fe_kinds : ℕ → Option (List Kind)
fe_kinds code = or_else (atomic_kinds code) (shared_kinds code)

-- behind a code that follows this byte
abbrev pub prefixed_kinds : ℕ → ℕ → Option (List Kind)
prefixed_kinds p code = if p == 0xfb then fb_kinds code else
    (if p == 0xfc then fc_kinds code else (if p == 0xfd then fd_kinds code else (if p == 0xfe then fe_kinds code else None)))

-- behind a code, with the byte before it if there is one
abbrev pub kinds_behind : Option ℕ → ℕ → Option (List Kind)
kinds_behind None code = plain_kinds code
kinds_behind (Some p) code = prefixed_kinds p code

-- behind an opcode
abbrev pub kinds_at : Opcode → Option (List Kind)
kinds_at o = kinds_behind o.prefix o.code

-- ---- operators

-- an opcode, and the immediates behind it
pub record Coded : Type 0 where
  pub opcode : Opcode
  pub carried : List Immediate

-- an operator of its opcode and its immediates
abbrev pub coded : Opcode → List Immediate → Coded
coded o is = record { opcode = o; carried = is }

-- immediates of these kinds, if the opcode has any; one that no operator has is refused at its own offset
abbrev pub carried_by : Settings → ℕ → Opcode → Option (List Kind) → Decoder Coded
carried_by settings place o None = refuse_at Other place
carried_by settings place o (Some ks) = immediates settings ks >>= λ is. pure (coded o is)

-- what stands behind an opcode that begins at this offset
abbrev pub behind : Settings → ℕ → Opcode → Decoder Coded
behind settings place o = carried_by settings place o (kinds_at o)

-- an opcode, and what stands behind it
unfoldable pub operator : Settings → Decoder Coded
operator settings s = (opcode >>= behind settings s.place) s

-- an opcode's bytes, and those of immediates of exactly the kinds that belong to it
pub record SpelledCoded (settings : Settings) (c : Coded) (text : List ℕ) : Type 0 where
  pub front : List ℕ
  pub back : List ℕ
  pub opcode : SpelledOpcode c.opcode front
  pub kinds : kinds_at c.opcode ≡ Some (map kind_of c.carried)
  pub carried : SpelledImmediates settings c.carried back
  pub whole : text ≡ front ++ back
