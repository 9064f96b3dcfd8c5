-- Operators that open a frame.
use Rattle.std.proofs.Common.{◌≡◌, ◌↔◌, ◌∙◌, false, List, [], ◌∷◌, ◌++◌, Option, Some, None, refl, sym, ap, subst}
use Rattle.wasm_types.specs.decoding.declared.error.ErrorKind.{ErrorKind}
use Rattle.wasm_types.specs.decoding.Denials.{Denies}
use Rattle.wasm_types.specs.decoding.DenialLaws.{denies_from}
use Rattle.wasm_types.specs.trees.Trees.{TypeTree}
use Rattle.wasm_types.specs.trees.Types.{InnerOf, function}
use Rattle.wasm_types.specs.trees.Below.{expanded}
use Rattle.wasm_operators_immediates.specs.declared.block.BlockType.{BlockType}
use Rattle.wasm_operators_immediates.specs.declared.block.BlockType.TheVariants as block
use Rattle.wasm_operators_immediates.specs.declared.frames.FrameKind.{FrameKind}
use Rattle.wasm_operators_immediates.specs.declared.frames.FrameKind.TheVariants as frames
use Rattle.wasm_operators_immediates.specs.declared.proposal.Proposal.{Proposal}
use Rattle.wasm_operators_immediates.specs.declared.proposal.Proposal.TheVariants.{Mvp}
use Rattle.wasm_operators_enums.specs.declared.control.ControlOperator.TheVariants as control
use Rattle.wasm_operators_enums.specs.Op as op
use Rattle.wasm_operators_enums.specs.Op.{Op}
use Rattle.wasm_operators_enums.specs.declared.role.Role.TheVariants as role
use Rattle.wasm_operators_enums.specs.Roles.{role_of}
use Rattle.wasm_operator_validator_rules.specs.Operands.{ValueType, known, stack}
use Rattle.wasm_operator_validator_rules.specs.Context.{Context, Signature, IsBlockType}
use Rattle.wasm_operator_validator_rules.specs.Typed.{HasType, MayNest, block_type_of, entry_of}
use Rattle.wasm_operator_validator_rules.specs.InstructionTypes.{i32_type}
use Rattle.wasm_operator_validator_state.specs.resources.Meaning.{Meaning}
use Rattle.wasm_operator_validator_state.specs.Refusals.{Does}
use Rattle.wasm_operator_validator_state.specs.State.{Given, Open, State, signature_of, context, Accepts, Decides, Checks}
use Rattle.wasm_operator_validator_state.specs.Entering.{MayBegin}
use Rattle.wasm_operator_validator_state.specs.laws.Checks.{checks_going}
use Rattle.wasm_operator_validator_state.specs.Steps.{Stacks, IsOpen, Popped, MayPop, Pushed, begun}
use Rattle.wasm_operator_validator_state.specs.laws.Frames.{Means, opened, may_open, pushed_closes}
use Rattle.wasm_operator_validator_state.specs.blocks.Signatures.{IsBlock}
use Rattle.wasm_operator_validator_control.specs.Opening.{Opened}
use Rattle.wasm_operator_validator_stacks.specs.determined.laws.Same.{same_trans}
use Rattle.wasm_operator_validator_control.specs.laws.Jumping.{stack_last}

-- ---- what a block type means

anywhere : (m : Meaning) (w : Given) (opens : List Open) (bt : BlockType) (b : Signature) → IsBlock m w bt b ↔ IsBlockType (context m w opens) bt b
anywhere m w opens block.Empty b = (λ x. x, λ x. x)
anywhere m w opens (block.Val t) b = (λ x. x, λ x. x)
anywhere m w opens (block.FuncType x) b = (λ y. y, λ y. y)

same_signature : (b c : Signature) → b.params ≡ c.params → b.results ≡ c.results → b ≡ c
same_signature b c e f = λ i. record { params = e i; results = f i }

one_block : (g : Context) (bt : BlockType) (b c : Signature) → IsBlockType g bt b → IsBlockType g bt c → b ≡ c
one_block g block.Empty b c e f = e ∙ sym f
one_block g (block.Val written) b c (t, i, e) (u, j, f) =
    let k : t ≡ u = i.is ∙ sym j.is in
    e ∙ ap (λ (v : ValueType). record { params = []; results = v ∷ [] }) k ∙ sym f
one_block g (block.FuncType x) b c (h, t, s, p) (h', u, s', q) =
    let k : ◌≡◌ {A = Option TypeTree} (Some t) (Some u) = sym s ∙ s' in
    let k' : t ≡ u = cc in
    let r : ◌≡◌ {A = InnerOf TypeTree} (function b.params b.results) (function c.params c.results) = sym p ∙ ap expanded k' ∙ q in
    same_signature b c (cc) (cc)

pub block_means : (m : Meaning) (w : Given) (opens : List Open) (o : Op) (k : FrameKind) (bt named : BlockType) → role_of o ≡ role.Opens k → block_type_of o ≡ Some bt
    → MayNest (context m w opens) o
    → IsBlock m w bt (signature_of m named) → Means m w opens o k (signature_of m named)
block_means m w opens o k bt named r e asked i c = (
  λ (p, h, n). (let h' : HasType (context m w opens) (Some bt) c = subst (λ (x : Option BlockType). HasType (context m w opens) x c) e h in
      one_block (context m w opens) bt c (signature_of m named) h' ((anywhere m w opens bt (signature_of m named)).0 i)),
  λ f. (
    r,
    (let h : HasType (context m w opens) (Some bt) c = subst (λ (x : Signature). IsBlockType (context m w opens) bt x) (sym f) ((anywhere m w opens bt (signature_of m named)).0 i) in
        subst (λ (x : Option BlockType). HasType (context m w opens) x c) (sym e) h),
    asked,
  ),
)

-- ---- an opener that takes its parameters

pub opener : (r : Option ErrorKind) (m : Meaning) (σ τ : State) (o : Op) (k : FrameKind) (bt named : BlockType) → role_of o ≡ role.Opens k → block_type_of o ≡ Some bt
    → MayNest (context m σ.given σ.opens) o
    → IsOpen σ.opens → IsBlock m σ.given bt (signature_of m named) → ((b : Signature) → entry_of k b ≡ b.params)
    → Does r (Opened m σ k named τ) (MayPop m σ (stack (signature_of m named).params)) → Decides m σ o r τ
opener None m σ τ o k bt named r e asked i b entry x =
    let p : Popped m σ (stack (entry_of k (signature_of m named))) x.left = subst (λ (v : List ValueType). Popped m σ (stack v) x.left) (sym (entry (signature_of m named))) x.popped in
    λ os. let y = opened m σ x.left o k named r (block_means m σ.given σ.opens o k bt named r e asked b) p os in
    let z = x.begins os in (λ a. z.0 (y.0 a), λ a. y.1 (z.1 a))
opener (Some h) m σ τ o k bt named r e asked i b entry x =
    denies_from h _ _ (λ (os, a). let (c, rest, f, d) = may_open m σ o k os r i a in
    let g = ((block_means m σ.given σ.opens o k bt named r e asked b) c).0 f in
    let d' : Stacks m σ (stack c.params ++ rest) = subst (λ (v : List ValueType). Stacks m σ (stack v ++ rest)) (entry c) d in
    (rest, subst (λ (v : Signature). Stacks m σ (stack v.params ++ rest)) g d')) x

-- the block type is none that code may write
pub not_opened : (h : ErrorKind) (m : Meaning) (σ : State) (o : Op) (k : FrameKind) (bt : BlockType) (p : Proposal) → role_of o ≡ role.Opens k → block_type_of o ≡ Some bt → MayBegin σ p false
    → Denies h ((b : Signature) × IsBlock m σ.given bt b) → Checks m σ o (Some h) σ
not_opened h m σ o k bt p r e b d =
    checks_going (Some h) m σ σ o p false b
    (denies_from h _ _ (λ (os, a). let (c, rest, f, d) = may_open m σ o k os r b.framed a in
    let f' : HasType (context m σ.given σ.opens) (Some bt) c = subst (λ (x : Option BlockType). HasType (context m σ.given σ.opens) x c) e f.1 in
    (c, (anywhere m σ.given σ.opens bt c).1 f')) d)
    refl refl refl

pub no_opener : (h : ErrorKind) (m : Meaning) (σ : State) (o : Op) (k : FrameKind) (bt : BlockType) → role_of o ≡ role.Opens k → block_type_of o ≡ Some bt → MayBegin σ Mvp false
    → Denies h ((b : Signature) × IsBlock m σ.given bt b) → Checks m σ o (Some h) σ
no_opener h m σ o k bt = not_opened h m σ o k bt Mvp

-- ---- an `if`

if_takes : (m : Meaning) (σ ρ τ : State) (b : Signature) → Popped m σ (known i32_type ∷ []) ρ → Popped m ρ (stack b.params) τ → Popped m σ (stack (entry_of frames.If b)) τ
if_takes m σ ρ τ b p q = record {
  same = same_trans σ ρ τ p.same q.same;
  stacks = λ s. (
    λ c. (let c' : Stacks m σ (known i32_type ∷ (stack b.params ++ s)) = rw (stack_last b.params i32_type) at c in (q.stacks s).0 ((p.stacks (stack b.params ++ s)).0 c')),
    λ c. rw (stack_last b.params i32_type) ((p.stacks (stack b.params ++ s)).1 ((q.stacks s).1 c)),
  );
}

abbrev pub if_op : BlockType → Op
if_op bt = op.Control (control.If bt)

pub if_opener : (r : Option ErrorKind) (m : Meaning) (σ ρ τ : State) (bt named : BlockType) → IsBlock m σ.given bt (signature_of m named)
    → Popped m σ (known i32_type ∷ []) ρ → IsOpen σ.opens → Does r (Opened m ρ frames.If named τ) (MayPop m ρ (stack (signature_of m named).params)) → Decides m σ (if_op bt) r τ
if_opener None m σ ρ τ bt named b p i x =
    λ os. let y = opened m σ x.left (if_op bt) frames.If named refl (block_means m σ.given σ.opens (if_op bt) frames.If bt named refl refl tt b)
    (if_takes m σ ρ x.left (signature_of m named) p x.popped) os in
    let z = x.begins os in (λ a. z.0 (y.0 a), λ a. y.1 (z.1 a))
if_opener (Some h) m σ ρ τ bt named b p i x =
    denies_from h _ _ (λ (os, a). let (c, rest, f, d) = may_open m σ (if_op bt) frames.If os refl i a in
    let g = ((block_means m σ.given σ.opens (if_op bt) frames.If bt named refl refl tt b) c).0 f in
    let d' : Stacks m σ (known i32_type ∷ (stack c.params ++ rest)) = rw (stack_last c.params i32_type) at d in
    let d'' = (p.stacks (stack c.params ++ rest)).0 d' in
    (rest, subst (λ (v : Signature). Stacks m ρ (stack v.params ++ rest)) g d'')) x

-- nothing to decide by
pub undecided_if : (h : ErrorKind) (m : Meaning) (σ : State) (bt : BlockType) → IsOpen σ.opens → Denies h (MayPop m σ (known i32_type ∷ []))
    → Denies h ((os : List Op) × Accepts m σ (if_op bt ∷ os))
undecided_if h m σ bt i =
    denies_from h _ _ (λ (os, a). let (c, rest, f, d) = may_open m σ (if_op bt) frames.If os refl i a in
    let d' : Stacks m σ (known i32_type ∷ (stack c.params ++ rest)) = rw (stack_last c.params i32_type) at d in (stack c.params ++ rest, d'))

-- ---- the parameters, and the frame

-- the parameters were taken off, the frame was opened over them, and they were put on, unless memory was refused
pub opened_by : (r : Option ErrorKind) (m : Meaning) (σ ρ κ τ : State) (k : FrameKind) (bt : BlockType) → Popped m σ (stack (signature_of m bt).params) ρ
    → κ ≡ record ρ { opens = begun k bt ρ.inits ∷ ρ.opens } → Does r (Pushed m κ (stack (signature_of m bt).params) τ) (Unit {0})
    → Does r (Opened m σ k bt τ) (MayPop m σ (stack (signature_of m bt).params))
opened_by None m σ ρ κ τ k bt p e q =
    let q' : Pushed m (record ρ { opens = begun k bt ρ.inits ∷ ρ.opens }) (stack (signature_of m bt).params) τ = subst (λ (x : State). Pushed m x (stack (signature_of m bt).params) τ) e q in
    record { left = ρ; popped = p; begins = λ os. pushed_closes m (record ρ { opens = begun k bt ρ.inits ∷ ρ.opens }) τ (stack (signature_of m bt).params) q' os }
opened_by (Some h) m σ ρ κ τ k bt p e q = denies_from h _ _ (λ y. tt) q
