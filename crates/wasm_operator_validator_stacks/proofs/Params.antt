-- The parameters of a function as its locals.
use Rattle.std.proofs.Common.{◌≡◌, ◌≤◌, ◌∙◌, ℕ, List, [], ◌∷◌, Bool, true, false, Option, Some, None, length, replicate, option_map, slice_get, refl, sym, ap, subst, arith}
use Rattle.std.proofs.lemmas.List.{length-map}
use Rattle.wasm_types.specs.decoding.Denials.{Denies}
use Rattle.wasm_types.specs.decoding.DenialLaws.{denies_from}
use Rattle.wasm_types.specs.decoding.declared.error.ErrorKind.{ErrorKind}
use Rattle.wasm_types.specs.trees.Types.{EntryOf, function}
use Rattle.wasm_types.specs.trees.Trees.{TypeTree, opened}
use Rattle.wasm_types.specs.trees.Below.{is_shared, expanded}
use Rattle.wasm_types.specs.values.declared.value.ValType.{ValType}
use Rattle.wasm_types.specs.fields.declared.func.FuncType.{FuncType}
use Rattle.wasm_types.specs.Kinds.{func_in}
use Rattle.wasm_types.specs.declared.sub_type.SubType.{SubType}
use Rattle.wasm_operators_immediates.specs.declared.block.BlockType.{BlockType}
use Rattle.wasm_operators_immediates.specs.declared.block.BlockType.TheVariants as block
use Rattle.wasm_operators_immediates.specs.declared.frames.FrameKind.TheVariants as frames
use Rattle.wasm_operator_validator_rules.specs.Context.{Signature}
use Rattle.wasm_operator_validator_state.specs.resources.Meaning.{Meaning, entry_in, type_in}
use Rattle.wasm_operator_validator_state.specs.State.{Given, State, types_in}
use Rattle.wasm_operator_validator_state.specs.Steps.{begun}
use Rattle.wasm_operator_validator_state.specs.Bodies.{fresh}
use Rattle.wasm_operator_validator_state.specs.blocks.Signatures.{signature_in, IsFunctionAt}
use Rattle.wasm_operator_validator_state.proofs.Signing.{some_at}
use Rattle.wasm_operator_validator_stacks.specs.Layout.{AreFirst, first_of, none_saved}
use Rattle.wasm_operator_validator_stacks.specs.Functions.{HasFunctionType, MayBegin, Begins}

-- each of them has a value
all_first : (ts : List ValType) → replicate (length ts) true ≡ first_of (length ts) ts
all_first [] = refl
all_first (t ∷ ts) = ap (λ (bs : List Bool). true ∷ bs) (all_first ts)

pub are_first : (ts : List ValType) (n : ℕ) (first : List Bool) → n ≡ length ts → first ≡ replicate n true → AreFirst n ts first
are_first ts n first e f = rw (f, e) (all_first ts, (let h : length ts ≤ length ts = omega arith in h))

-- ---- the type at an index

type_shared : (a : EntryOf TypeTree) (o : Option TypeTree) (t : TypeTree) → Some a ≡ option_map opened o → o ≡ Some t → is_shared t ≡ a.shared
type_shared a None t e f = absurd cc
type_shared a (Some u) t e f = let g : u ≡ t = cc in let h : a ≡ opened u = cc in subst (λ (x : TypeTree). is_shared x ≡ a.shared) g (sym (ap (λ (y : EntryOf TypeTree). y.shared) h))

-- a function type
module _ (m : Meaning) (x : ℕ) (s : SubType) (f : FuncType) (e : Some (entry_in m s) ≡ option_map opened (slice_get m.«module».types x)) (i : Some f ≡ func_in s.composite_type.inner) where
  at : IsFunctionAt m x (Some (signature_in m f))
  at = subst (λ (o : Option FuncType). IsFunctionAt m x (option_map (signature_in m) o)) (sym i) (some_at m x s e)

  pub begins : (bits n : ℕ) (σ : State) (ts : List ValType) → ts ≡ f.params → n ≡ length ts
      → σ ≡ fresh (record { bits = bits; locals = ts; params = n; shared = s.composite_type.shared }) (block.FuncType x) none_saved → Begins m bits x σ
  begins bits n σ ts p c g =
      let shared : is_shared at.0 ≡ s.composite_type.shared = type_shared (entry_in m s) (slice_get m.«module».types x) at.0 e at.1 in
      record {
        type = at.0;
        signature = signature_in m f;
        function = record { at = at.1; function = at.2 };
        locals = ts;
        params = ap (types_in m) p;
        state = rw (shared, ← c) g;
      }

  -- the number of its parameters is what the signature says
  fewer : (t : TypeTree) (b : Signature) → HasFunctionType m x t b → length b.params ≡ length f.params
  fewer t b h =
      let g : ◌≡◌ {A = Option TypeTree} (Some at.0) (Some t) = sym at.1 ∙ h.at in
      let same : at.0 ≡ t = cc in
      let k : function (types_in m f.params) (types_in m f.results) ≡ function b.params b.results = sym at.2 ∙ ap expanded same ∙ h.function in
      let p : b.params ≡ types_in m f.params = cc in
      ap length p ∙ length-map f.params (type_in m)

  pub too_many : (most : ℕ) (k : ErrorKind) → Denies k (length f.params ≤ most) → Denies k (MayBegin m most x)
  too_many most k d =
      denies_from k (length f.params ≤ most) (MayBegin m most x)
      (λ (t, b, h, l). subst (λ (n : ℕ). n ≤ most) (fewer t b h) l) d

  pub few_enough : (most : ℕ) → length f.params ≤ most → MayBegin m most x
  few_enough most l =
      let h : HasFunctionType m x at.0 (signature_in m f) = record { at = at.1; function = at.2 } in
      (at.0, signature_in m f, h, subst (λ (n : ℕ). n ≤ most) (sym (fewer at.0 (signature_in m f) h)) l)

-- ---- the frame of the body

pub entered_fresh : (w : Given) (b : BlockType) (ν σ : State) → ν ≡ record { given = w; inits = []; opens = []; failed = false; saved = none_saved }
    → σ ≡ record ν { opens = begun frames.Block b ν.inits ∷ ν.opens } → σ ≡ fresh w b none_saved
entered_fresh w b ν σ e f = f ∙ ap (λ (ρ : State). record ρ { opens = begun frames.Block b ρ.inits ∷ ρ.opens }) e
