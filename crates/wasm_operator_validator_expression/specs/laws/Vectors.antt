-- While the switch is off typed code has no operators on vectors: these have no rows then.
use Rattle.std.proofs.Common.{◌≡◌, ◌∙◌, List, [], ◌∷◌, ◌++◌, Bool, Option, Some, None, false, refl, sym, ap, subst, if◌then◌else◌}
use Rattle.wasm_operators_immediates.specs.declared.frames.FrameKind.{FrameKind}
use Rattle.wasm_operators_immediates.specs.declared.frames.FrameKind.TheVariants as frames
use Rattle.wasm_operators_enums.specs.Op as op
use Rattle.wasm_operators_enums.specs.Op.{Op}
use Rattle.wasm_operators_enums.specs.declared.role.Role.{Role}
use Rattle.wasm_operators_enums.specs.declared.role.Role.TheVariants as role
use Rattle.wasm_operators_enums.specs.declared.role.Effect.{Effect}
use Rattle.wasm_operators_enums.specs.declared.role.Effect.TheVariants as effects
use Rattle.wasm_operators_enums.specs.Roles.{role_of, effect}
use Rattle.wasm_operators_enums.specs.Vectors.{is_simd}
use Rattle.wasm_operators_encoding.specs.expressions.Code.{Code, close, plain, nested, turn, walk, IsIn}
use Rattle.wasm_operators_reader.specs.Walking.{HasNoVectors}
use Rattle.wasm_operator_validator_rules.specs.Operands.{Operand, stack}
use Rattle.wasm_operator_validator_rules.specs.Context.{Context, Initialised, Frame, inside, label_of, initialised_at_first}
use Rattle.wasm_types.specs.settings.Features.{judges_vectors}
use Rattle.wasm_types_settings.proofs.SetLaws.{asked_apart}
use Rattle.wasm_operator_validator_rules.specs.InstructionTypes.{InstructionType, where_vectors}
use Rattle.wasm_operator_validator_rules.specs.Row.{Row, after}
use Rattle.wasm_operator_validator_rules.specs.Typed.{Typed, other_part, in_part}
use Rattle.wasm_operator_validator_state.specs.resources.Meaning.{Meaning}
use Rattle.wasm_operator_validator_expression.specs.Unasked.{BodiesHaveNoVectors, AcceptedHaveNoVectors}
use Rattle.wasm_operator_validator_state.specs.State.{Given, Open, State, ClosesAll, Accepts, results, initialised, context, frame_of}

unswitched : (g : Context) (t : Option InstructionType) → judges_vectors g.bits ≡ false → where_vectors g t ≡ None
unswitched g t e = ap (λ (b : Bool). if b then t else None) e

row_of_no_vector : (g : Context) (set : Initialised) (o : Op) (popped pushed : List Operand) → judges_vectors g.bits ≡ false → Row g set o popped pushed → is_simd o ≡ false
row_of_no_vector g set (op.Control o) popped pushed n r = refl
row_of_no_vector g set (op.Parametric o) popped pushed n r = refl
row_of_no_vector g set (op.Exception o) popped pushed n r = refl
row_of_no_vector g set (op.Memory o) popped pushed n r = refl
row_of_no_vector g set (op.Const o) popped pushed n r = refl
row_of_no_vector g set (op.Numeric o) popped pushed n r = refl
row_of_no_vector g set (op.Bulk o) popped pushed n r = refl
row_of_no_vector g set (op.Gc o) popped pushed n r = refl
row_of_no_vector g set (op.Descriptor o) popped pushed n r = refl
row_of_no_vector g set (op.Simd o) popped pushed n (enabled, (t, e, takes)) = let x : ◌≡◌ {A = Option InstructionType} None (Some t) = sym (unswitched g _ n) ∙ e in cc
row_of_no_vector g set (op.SimdNumeric o) popped pushed n (enabled, (t, e, takes)) = let x : ◌≡◌ {A = Option InstructionType} None (Some t) = sym (unswitched g _ n) ∙ e in cc
row_of_no_vector g set (op.Atomic o) popped pushed n r = refl
row_of_no_vector g set (op.Shared o) popped pushed n r = refl
row_of_no_vector g set (op.Continuation o) popped pushed n r = refl

-- no operator on vectors has a role of its own
no_vector : (o : Op) → (role_of o ≡ role.Plain → ⊥) → is_simd o ≡ false
no_vector (op.Control o) n = refl
no_vector (op.Parametric o) n = refl
no_vector (op.Exception o) n = refl
no_vector (op.Memory o) n = refl
no_vector (op.Const o) n = refl
no_vector (op.Numeric o) n = refl
no_vector (op.Bulk o) n = refl
no_vector (op.Gc o) n = refl
no_vector (op.Descriptor o) n = refl
no_vector (op.Simd o) n = absurd (n refl)
no_vector (op.SimdNumeric o) n = absurd (n refl)
no_vector (op.Atomic o) n = refl
no_vector (op.Shared o) n = refl
no_vector (op.Continuation o) n = refl

-- what does something else than to stay has a role of its own
module _ (o : Op) (k : FrameKind) where
  staying : (e : Option Effect) → effect (role_of o) k ≡ e → role_of o ≡ role.Plain → Some effects.Stays ≡ e
  staying e f p = subst (λ (r : Role). effect r k ≡ e) p f

  closes_no_vector : effect (role_of o) k ≡ Some effects.Closes → is_simd o ≡ false
  closes_no_vector f = no_vector o (λ p. let x : Some effects.Stays ≡ Some effects.Closes = staying (Some effects.Closes) f p in cc)

  nests_no_vector : (j : FrameKind) → effect (role_of o) k ≡ Some (effects.Nests j) → is_simd o ≡ false
  nests_no_vector j f = no_vector o (λ p. let x : Some effects.Stays ≡ Some (effects.Nests j) = staying (Some (effects.Nests j)) f p in cc)

  turns_no_vector : (j : FrameKind) → effect (role_of o) k ≡ Some (effects.Turns j) → is_simd o ≡ false
  turns_no_vector j f = no_vector o (λ p. let x : Some effects.Stays ≡ Some (effects.Turns j) = staying (Some (effects.Turns j)) f p in cc)

none_in_both : (os ps : List Op) → HasNoVectors os → HasNoVectors ps → HasNoVectors (os ++ ps)
none_in_both [] ps h g = g
none_in_both (o ∷ os) ps h g = (h.0, none_in_both os ps h.1 g)

-- a clause stands among the same features
part_off : (o : Op) (g : Context) → judges_vectors g.bits ≡ false → judges_vectors (in_part o g).bits ≡ false
part_off (op.Control o) g e = e
part_off (op.Parametric o) g e = e
part_off (op.Exception o) g e = e
part_off (op.Memory o) g e = e
part_off (op.Const o) g e = e
part_off (op.Numeric o) g e = e
part_off (op.Bulk o) g e = e
part_off (op.Gc o) g e = e
part_off (op.Descriptor o) g e = e
part_off (op.Simd o) g e = e
part_off (op.SimdNumeric o) g e = e
part_off (op.Atomic o) g e = e
part_off (op.Shared o) g e = e
part_off (op.Continuation o) g e = e

typed_no_vectors : (g : Context) (f : Frame) (set : Initialised) (k : FrameKind) (c : Code) (s : List Operand) → judges_vectors g.bits ≡ false → IsIn k c → Typed g f set c s → HasNoVectors (walk c)
typed_no_vectors g f set k (close o) s off i t = (closes_no_vector o k i, tt)
typed_no_vectors g f set k (plain o more) s off i (m, (popped, pushed, rest, row, below, is), t) =
    (row_of_no_vector g set o popped pushed off row, typed_no_vectors g f (after o set) k more m off i.1 t)
typed_no_vectors g f set k (nested o body more) s off (j, e, i, v) (l, b, rest, op, below, inner, t) = (
  nests_no_vector o k j e,
  none_in_both (walk body) (walk more)
      (typed_no_vectors (inside l (label_of l b) g) (record { kind = l; block = b; before = set }) set j body (stack b.params) off i inner)
      (typed_no_vectors g f set k more (stack b.results ++ rest) off v t),
)
typed_no_vectors g f set k (turn o more) s off (j, e, i) (ts, begins, below, t) =
    (turns_no_vector o k j e, typed_no_vectors (in_part o g) (other_part o f) f.before j more (stack ts) (part_off o g off) i t)

closing_no_vectors : (m : Meaning) (w : Given) (pushed : List Operand) (opens : List Open) (set : Initialised) (os : List Op) → judges_vectors w.bits ≡ false
    → ClosesAll m w pushed opens set os → HasNoVectors os
closing_no_vectors m w pushed [] set os off e = subst HasNoVectors (sym e) tt
closing_no_vectors m w pushed (o ∷ outer) set os off (s, covers, (c, rest, i, e, t, next)) =
    let inner = typed_no_vectors (context m w (o ∷ outer)) (frame_of m w o) set o.kind c (pushed ++ s) off i t in
    let others = closing_no_vectors m w (stack (results m o)) outer (initialised m w o.before) rest off next in
    subst HasNoVectors (sym e) (none_in_both (walk c) rest inner others)

-- what may come has none
pub accepted_no_vectors : (m : Meaning) (σ : State) (os : List Op) → judges_vectors σ.given.bits ≡ false → Accepts m σ os → HasNoVectors os
accepted_no_vectors m σ os off (f, x) = closing_no_vectors m σ.given [] σ.opens (initialised m σ.given σ.inits) os off x

pub accepted_have_no_vectors : AcceptedHaveNoVectors
accepted_have_no_vectors m σ os below = accepted_no_vectors m σ os (asked_apart σ.given.bits below)

pub bodies_have_no_vectors : BodiesHaveNoVectors
bodies_have_no_vectors g params c below h = typed_no_vectors (inside frames.Block g.results g) (record {
  kind = frames.Block;
  block = record { params = []; results = g.results };
  before =
      initialised_at_first params g.locals;
}) (initialised_at_first params g.locals) frames.Block c [] (asked_apart g.bits below) h.expression h.typed
