-- These rows compute.
use Rattle.std.proofs.Common.{◌≡◌, ◌∙◌, ℕ, List, [], ◌∷◌, refl, sym, ap, arith}
use Rattle.wasm_types.specs.decoding.declared.Refusal.TheVariants.{Other}
use Rattle.wasm_types.specs.decoding.Decoder.{State, Outcome, Done, Fault}
use Rattle.wasm_types.specs.decoding.ExactLaws.{state_is}
use Rattle.wasm_types.specs.settings.Settings.{no_features}
use Rattle.wasm_types.specs.values.declared.value.ValType.TheVariants.{I32}
use Rattle.wasm_types.specs.decoding.Leb.{unsigned, signed, last_bits}
use Rattle.wasm_types.specs.settings.Limits.{default_limits}
use Rattle.wasm_types.specs.reader.Parts.{counted_part}
use Rattle.wasm_types.specs.values.Decode.{reference_after}
use Rattle.wasm_types.specs.values.DecodeValues.{value_type, value_type_after}
use Rattle.wasm_operators_encoding.specs.Locals.{LocalGroup, group_of, group, group_within, groups_within, locals}
use Rattle.wasm_operators_bodies.specs.Bodies.{body_bytes}
use Rattle.wasm_operators_encoding.specs.Until.{steps, until, taken_by}
use Rattle.wasm_operators_encoding.specs.ConstantDecoder.{step, constant}
use Rattle.wasm_operators_immediates.specs.Blocks.{function_block, value_block, empty_block, block_type}
use Rattle.wasm_operators_encoding.specs.Opcodes.{opcode}
use Rattle.wasm_operators_encoding.specs.Groups.{numeric_kinds, simd_numeric_kinds}
use Rattle.wasm_operators_encoding.specs.Coded.{operator}
use Rattle.wasm_operators_encoding.specs.immediates.Immediates.{immediate}
use Rattle.wasm_operators_tests.specs.bodies.Rows.{behind}
use Rattle.wasm_operators_tests.proofs.bodies.bodies_are_worked.Goals as goal

pub returns-clause-locals : goal.returns-clause-locals
unfolding default_limits unsigned reference_after value_type value_type_after group group_within groups_within locals
returns-clause-locals c = record { none = refl; most = refl; one_too_many = refl; two = refl; too_many_in_two = refl; no_type = refl; count_alone = refl }

pub returns-clause-bodies : goal.returns-clause-bodies
unfolding unsigned counted_part body_bytes
returns-clause-bodies c = record { two_bytes = refl; no_byte = refl; cut_short = refl }

group_read : locals no_features (behind 0 (0x01 ∷ 0x02 ∷ 0x7f ∷ 0x0b ∷ [])) ≡ Done (group_of 2 I32 ∷ []) (behind 3 (0x0b ∷ []))
unfolding default_limits unsigned reference_after value_type value_type_after group group_within groups_within locals
group_read = refl

none_read : locals no_features (behind 0 (0x00 ∷ 0x0b ∷ [])) ≡ Done [] (behind 1 (0x0b ∷ []))
unfolding default_limits unsigned reference_after value_type value_type_after group group_within groups_within locals
none_read = refl

refused : locals no_features (behind 0 (0x01 ∷ 0x01 ∷ 0x40 ∷ 0x0b ∷ [])) ≡ Fault Other 2
unfolding default_limits unsigned reference_after value_type value_type_after group group_within groups_within locals
refused = refl

no_fault : (x : List LocalGroup) (t : State) (n : ℕ) → ◌≡◌ {A = Outcome (List LocalGroup)} (Fault Other n) (Done x t) → ⊥
no_fault x t n e = absurd cc

pub returns-clause-beginnings : goal.returns-clause-beginnings
returns-clause-beginnings c = record {
  behind_none = ([], none_read);
  behind_a_group = (group_of 2 I32 ∷ [], group_read);
  not_before = λ h. let e = state_is _ _ _ _ (sym group_read ∙ h.1) in let p = ap (λ (u : State). u.place) e in omega (arith, p);
  not_further = λ h. let e = state_is _ _ _ _ (sym none_read ∙ h.1) in let p = ap (λ (u : State). u.place) e in omega (arith, p);
  no_locals = λ t h. no_fault h.0 t 2 (sym refused ∙ h.1);
}

pub returns-clause-constants : goal.returns-clause-constants
unfolding default_limits unsigned signed last_bits opcode immediate function_block value_block empty_block block_type numeric_kinds simd_numeric_kinds operator steps until taken_by step constant
returns-clause-constants c = record { end_alone = refl; number = refl; sum = refl; block = refl; else_alone = refl; no_operator = refl; no_end = refl; no_number = refl; nothing = refl }
