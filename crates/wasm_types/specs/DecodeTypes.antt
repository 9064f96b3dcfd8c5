-- How composite types and subtypes are read: a decoder for what follows the first byte, by that byte.
use Rattle.std.specs.Prelude.{ℕ, ◌==◌, List, [], ◌∷◌, Bool, true, false, Option, Some, None, if◌then◌else◌}
use Rattle.wasm_types_decoding.specs.declared.Refusal.TheVariants.{Other}
use Rattle.wasm_types_decoding.specs.Decoder.{Decoder, ◌>>=◌, pure, refuse, byte, choice}
use Rattle.wasm_types_decoding.specs.Lists.{listed_within}
use Rattle.wasm_types_settings.specs.Settings.{Settings}
use Rattle.wasm_types_trees.specs.declared.index.UnpackedIndex.{UnpackedIndex}
use Rattle.wasm_types_fields.specs.Decode.{field_type, fields, signature, module_index}
use Rattle.wasm_types.specs.SpellsTypes.{InnerValue, function, array_of, struct_of, continuation, CompositeValue, SubValue, composite_with, sub_with, GroupValue, group_with}

-- each constructor by its byte
abbrev pub inners : Settings → List (ℕ × Decoder InnerValue)
inners z = (0x60, signature z >>= λ f. pure (function f)) ∷ (0x5e, field_type >>= λ x. pure (array_of x))
    ∷ (0x5f, fields z >>= λ xs. pure (struct_of xs)) ∷ (0x5d, module_index >>= λ i. pure (continuation i)) ∷ []

-- a composite type behind its byte
unfoldable pub inner_after : Settings → ℕ → Decoder InnerValue
inner_after z b = choice (inners z) (refuse Other 1) b

-- where b is this byte, x by d and the next byte; what follows gets x, if any, and its first byte
abbrev pub optional : {A B : Type 0} → ℕ → Decoder A → (Option A → ℕ → Decoder B) → ℕ → Decoder B
optional tag d next b = if b == tag then (d >>= λ x. byte >>= next (Some x)) else next None b

-- the type itself, behind all that may stand before it
unfoldable pub last_after : Settings → Option (Unit {0}) → Option UnpackedIndex → Option UnpackedIndex → ℕ → Decoder CompositeValue
last_after z s e d b = inner_after z b >>= λ x. pure (composite_with s e d x)

-- a descriptor, if this is its byte, and what follows
unfoldable pub descriptor_after : Settings → Option (Unit {0}) → Option UnpackedIndex → ℕ → Decoder CompositeValue
descriptor_after z s e = optional 0x4d module_index (last_after z s e)

-- the type that is described, if this is its byte, and what follows
unfoldable pub describes_after : Settings → Option (Unit {0}) → ℕ → Decoder CompositeValue
describes_after z s = optional 0x4c module_index (descriptor_after z s)

-- the mark of a shared type, if this is it, and what follows
unfoldable pub composite_after : Settings → ℕ → Decoder CompositeValue
composite_after z = optional 0x65 (pure tt) (describes_after z)

-- a composite type from its first byte on
unfoldable pub composite : Settings → Decoder CompositeValue
composite z = byte >>= composite_after z

-- the supertypes that a subtype names, one at most
unfoldable pub supertypes : Decoder (List UnpackedIndex)
supertypes = listed_within 1 module_index

-- a subtype behind the byte of its finality
unfoldable pub declared_sub : Settings → Bool → Decoder SubValue
declared_sub z f = supertypes >>= λ sups. composite z >>= λ c. pure (sub_with f sups c)

-- a subtype by its first byte: in full, or a composite type alone
unfoldable pub sub_after : Settings → ℕ → Decoder SubValue
sub_after z b = if b == 0x50 then declared_sub z false else (if b == 0x4f then declared_sub z true else (composite_after z b >>= λ c. pure (sub_with true [] c)))

-- a subtype from its first byte on
unfoldable pub sub_type : Settings → Decoder SubValue
sub_type z = byte >>= sub_after z

-- a list of subtypes, within the limit of types
unfoldable pub explicit_group : Settings → Decoder GroupValue
explicit_group z = listed_within z.limits.types (sub_type z) >>= λ xs. pure (group_with true xs)

-- a group by its first byte: a list, or one subtype alone
unfoldable pub group_after : Settings → ℕ → Decoder GroupValue
group_after z b = if b == 0x4e then explicit_group z else (sub_after z b >>= λ x. pure (group_with false (x ∷ [])))

-- a group from its first byte on
unfoldable pub rec_group : Settings → Decoder GroupValue
rec_group z = byte >>= group_after z
