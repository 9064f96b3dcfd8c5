-- Groups of locals, the bytes that spell them (WebAssembly 3.0, binary format, modules, code section), and how they are read.
use Rattle.std.specs.Prelude.{◌≡◌, ℕ, zero, suc, ◌+◌, ◌-◌, ◌≤◌, List, [], ◌∷◌, ◌++◌, nat_lt, if◌then◌else◌}
use Rattle.wasm_types.specs.decoding.declared.Refusal.TheVariants.{Other}
use Rattle.wasm_types.specs.decoding.Decoder.{Decoder, ◌>>=◌, pure}
use Rattle.wasm_types.specs.decoding.Leb.{u32, IsUnsigned, IsListed}
use Rattle.wasm_types.specs.decoding.Lists.{refuse_at}
use Rattle.wasm_types.specs.settings.Settings.{Settings}
use Rattle.wasm_types.specs.values.declared.value.ValType.{ValType}
use Rattle.wasm_types.specs.values.DecodeValues.{value_type}
use Rattle.wasm_types.specs.values.Spelled.{SpelledValue}

-- a group of locals: how many, and their type
pub record LocalGroup : Type 0 where
  pub count : ℕ
  pub type : ValType

-- so many locals of this type
abbrev pub group_of : ℕ → ValType → LocalGroup
group_of n t = record { count = n; type = t }

-- how many locals the groups have together
abbrev pub total : List LocalGroup → ℕ
total [] = 0
total (g ∷ gs) = g.count + total gs

-- the most that they may have (appendix, implementation limitations)
abbrev pub most_locals : Settings → ℕ
most_locals settings = settings.limits.locals

-- ---- which bytes spell them

-- standard: binary-codesec: locals
-- locals ::= n:u32 t:valtype
pub record SpelledGroup (g : LocalGroup) (text : List ℕ) : Type 0 where
  pub count : List ℕ
  pub type : List ℕ
  pub counted : IsUnsigned 32 g.count count
  pub typed : SpelledValue g.type type
  pub whole : text ≡ count ++ type

-- standard: binary-codesec: list(locals) (differs: at most as many locals together as the limit)
-- list(locals), and no more locals than the limit
pub record SpelledLocals (settings : Settings) (gs : List LocalGroup) (text : List ℕ) : Type 0 where
  pub listed : IsListed SpelledGroup gs text
  pub within : total gs ≤ most_locals settings

-- ---- how they are read

-- a number, and a value type
unfoldable pub group : Decoder LocalGroup
group = u32 >>= λ n. value_type >>= λ t. pure (group_of n t)

-- a group of at most so many locals, or else it is refused at this offset
abbrev pub room_or : ℕ → ℕ → LocalGroup → Decoder LocalGroup
room_or room place g = if nat_lt room g.count then refuse_at Other place else pure g

-- a group where there is room for so many locals; one that has more is refused at its own offset
unfoldable pub group_within : ℕ → Decoder LocalGroup
group_within room s = (group >>= room_or room s.place) s

-- n groups where there is room for so many locals
unfoldable pub groups_within : ℕ → ℕ → Decoder (List LocalGroup)
groups_within zero room = pure []
groups_within (suc n) room = group_within room >>= λ g. groups_within n (room - g.count) >>= λ gs. pure (g ∷ gs)

-- a count, and as many groups
unfoldable pub locals : Settings → Decoder (List LocalGroup)
locals settings = u32 >>= λ n. groups_within n (most_locals settings)
