-- What a `select` with a type takes and gives.
use Rattle.std.proofs.Common.{◌≡◌, ◌∙◌, ◌≤◌, ◌+◌, ℕ, true, List, [], ◌∷◌, ◌++◌, refl, sym, ap, arith, append-nil, drop}
use Rattle.std.proofs.lemmas.List.{drop_more}
use Rattle.std.proofs.lemmas.Grind.{common_steps}
use Rattle.wasm_types.specs.decoding.Leb.{u32}
use Rattle.wasm_types.specs.decoding.Numbers.{GivesAt}
use Rattle.wasm_types.specs.settings.Features as feature
use Rattle.wasm_types.specs.settings.Settings.{Settings}
use Rattle.wasm_types.specs.values.DecodeValues.{value_type}
use Rattle.wasm_types.specs.values.Spelled.{SpelledValue}
use Rattle.wasm_types.specs.values.ValueLaws.{decides-value_type}
use Rattle.wasm_types.specs.values.declared.value.ValType.{ValType}
use Rattle.wasm_operators_immediates.specs.declared.proposal.Proposal.TheVariants as proposals
use Rattle.wasm_operators_enums.specs.Op as op
use Rattle.wasm_operators_enums.specs.Op.{Op}
use Rattle.wasm_operators_encoding.specs.Operators.{SpelledOperator}
use Rattle.wasm_operators_frequent.specs.Short.{Begins}
use Rattle.wasm_operator_validator_rules.specs.Operands.{all_known}
use Rattle.wasm_operator_validator_fast_tables.specs.declared.tables.Open.{Open}
use Rattle.wasm_operator_validator_fast_tables.specs.declared.tables.Tables.{Tables}
use Rattle.wasm_operator_validator_fast_tables.specs.Stacks.{Values}
use Rattle.wasm_operator_validator_fast_tables.specs.Values.{type_of, types, operands}
use Rattle.wasm_operator_validator_fast_tables.specs.Written.{IsValueAt}
use Rattle.wasm_operator_validator_fast_tables.specs.Loop.{Closes, Leads}
use Rattle.wasm_operator_validator_fast_steps.proofs.Coded.{of_feature}
use Rattle.wasm_operator_validator_fast_steps.proofs.Spelled.{unsigned_at}
use Rattle.wasm_operator_validator_fast_steps.proofs.Stepping.{plain_more}
use Rattle.wasm_operator_validator_fast_steps.proofs.Rows.{on_stack, same_below, uses, Here}
use Rattle.wasm_operator_validator_fast_objects.proofs.Clauses.{spelled_at}

module _ (text : List ℕ) (i m n e : ℕ) (ty : ValType) where
  -- its bytes, where the limit of types is not passed
  select_spelled : (z : Settings) → Begins text i 0x1c → GivesAt u32 text (i + 1) 1 n → GivesAt value_type text n ty e → 1 ≤ z.limits.select_types
      → (front : List ℕ) × SpelledOperator z (op.Parametric (op.TypedSelect ty)) front × (drop i text ≡ front ++ drop e text)
  select_spelled z begins g h some =
      let (counted, number, at) = unsigned_at text (i + 1) 1 n g in
      let (typed, value, behind) = spelled_at value_type SpelledValue decides-value_type text n ty e h in
      let carried = counted ++ typed in
      let first : drop i text ≡ 0x1c ∷ drop (i + 1) text = rw begins.code_there at (drop_more text i 0 begins.inside) in
      let parts : counted ++ (typed ++ drop e text) ≡ carried ++ drop e text = grind (arith, common_steps) in (
        0x1c ∷ carried,
        record {
          canonical = refl;
          front = 0x1c ∷ [];
          back = carried;
          opcode = (refl, refl);
          carried = (
            carried,
            [],
            record {
              listed = record { count = counted; values = typed; counted = number; each = (typed, [], value, refl, sym (append-nil typed)); whole = refl };
              within = some;
            },
            refl,
            sym (append-nil carried),
          );
          whole = refl;
        },
        first ∙ ap (λ (r : List ℕ). 0x1c ∷ r) (at ∙ ap (λ (r : List ℕ). counted ++ r) behind ∙ parts),
      )

module _ (t : Tables) (text : List ℕ) (i e : ℕ) (o : Open) (outer : List Open) (v w : Values) (on : t.references ≡ true) where
  pub took_typed_select : Begins text i 0x1c → (n code place : ℕ) → GivesAt u32 text (i + 1) 1 n → IsValueAt text t n code place e
      → (m : Values) → v ≡ (0 ∷ code ∷ code ∷ m.0, m.1) → w ≡ (code ∷ m.0, m.1) → Leads text t i (o ∷ outer) v e (o ∷ outer) w
  took_typed_select begins n code place g h m taken put ids z c fits (os, rest, closes) =
      let p = op.Parametric (op.TypedSelect h.written) in
      let (front, spelled, whole) = select_spelled text i n n e h.written z begins g h.read (fits.limits on).select_types in
      let here = Here t text i e o outer v w ids c in
      let x = type_of ids code in
      let more : (os : List Op) → Closes ids t c (o ∷ outer) w os → Closes ids t c (o ∷ outer) v (p ∷ os)
      = rw (taken, put) (plain_more ids t c o outer (0 ∷ code ∷ code ∷ m.0) (code ∷ m.0) m.1 p refl (λ set full. full)
      (λ set full. (
        all_known (types ids (code ∷ code ∷ 0 ∷ [])),
        all_known (types ids (code ∷ [])),
        operands ids m.0,
        (
          of_feature c.bits p proposals.ReferenceTypes feature.ReferenceTypes fits.allows refl (fits.references on).reference_types refl,
          (x, h.means ids c.bits c.«module» fits.knows fits.allows fits.references fits.vectors, uses here _ fits.unshared, (refl, refl)),
        ),
        same_below _ _ (on_stack ids (code ∷ code ∷ 0 ∷ []) m.0),
        on_stack ids (code ∷ []) m.0,
      ))) in
      (p ∷ os, (front, drop e text, spelled, rest, whole), more os closes)
