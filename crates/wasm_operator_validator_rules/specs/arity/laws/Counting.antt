-- The table says what the rules say, as far as they go.
use Rattle.std.proofs.Common.{◌≡◌, ◌<◌, ◌-◌, ◌^◌, ◌∙◌, ◌⊎◌, ℕ, zero, suc, Bool, true, false, List, [], ◌∷◌, ◌++◌, length, map, Option, Some, None, option_map, option_and_then, slice_get, if◌then◌else◌, refl, ap, subst, arith}
use Rattle.std.proofs.lemmas.List.{length-map}
use Rattle.wasm_types.specs.trees.Trees.{TypeTree}
use Rattle.wasm_types.specs.trees.Below.{expanded}
use Rattle.wasm_operators_immediates.specs.declared.block.BlockType.{BlockType}
use Rattle.wasm_operators_immediates.specs.declared.block.BlockType.TheVariants as block
use Rattle.wasm_operators_immediates.specs.declared.frames.FrameKind.{FrameKind}
use Rattle.wasm_operators_immediates.specs.declared.frames.FrameKind.TheVariants as frames
use Rattle.wasm_operators_enums.specs.Op.{Op}
use Rattle.wasm_operator_validator_rules.specs.Operands.{ValueType, Operand, known, AllBelow, all_known}
use Rattle.wasm_operator_validator_rules.specs.Context.{Module, Context, Signature, IsFunctionType, label_of}
use Rattle.wasm_operator_validator_rules.specs.InstructionTypes.{InstructionType, provided, named, instruction_type}
use Rattle.wasm_operator_validator_rules.specs.Row.{Takes, TableRow, IsLabel}
use Rattle.wasm_operator_validator_rules.specs.arity.Arity.{Known, Counts, function_counts, type_counts, block_counts, label_count, label_of_frame, frame_counts, in_u32, outermost, results_alone}
use Rattle.wasm_operator_validator_rules.specs.arity.Exchanges.{Standing, HasSignature, AreTyped, outermost_results, IsAround}

-- ---- lists

pub known_length : (ts : List ValueType) → length (all_known ts) ≡ length ts
known_length ts = length-map ts known

pub below_length : (s u : List Operand) → AllBelow s u → length s ≡ length u
below_length [] [] b = refl
below_length [] (u ∷ us) b = absurd b
below_length (t ∷ ts) [] b = absurd b
below_length (t ∷ ts) (u ∷ us) b = ap (λ n. suc n) (below_length ts us b.1)

-- operands of these types are taken and given
pub takes_counted : (a : Option Counts) (ts us : List ValueType) (p q : List Operand) → Takes ts us p q → a ≡ Some (length ts, length us) → a ≡ Some (length p, length q)
takes_counted a ts us p q e c = rw (e.0, e.1, known_length ts, known_length us) c

-- ---- types

function_counted : (t : TypeTree) (b : Signature) → IsFunctionType t b → function_counts (expanded t) ≡ Some (length b.params, length b.results)
function_counted t b f = ap function_counts f

pub type_counted : (o : Option TypeTree) (t : TypeTree) (b : Signature) → o ≡ Some t → IsFunctionType t b → type_counts o ≡ Some (length b.params, length b.results)
type_counted o t b e f = ap type_counts e ∙ function_counted t b f

-- ---- frames

block_counted : (m : Module) (t : BlockType) (b : Signature) → HasSignature m t b → block_counts m t ≡ Some (length b.params, length b.results)
block_counted m block.Empty b h = rw h refl
block_counted m (block.Val t) b h = rw h.1 refl
block_counted m (block.FuncType x) b h = type_counted (slice_get m.types x) h.0 b h.1 h.2

label_counted : (k : FrameKind) (b : Signature) → label_count k (length b.params, length b.results) ≡ length (label_of k b)
label_counted frames.Block b = refl
label_counted frames.If b = refl
label_counted frames.Else b = refl
label_counted frames.Loop b = refl
label_counted frames.TryTable b = refl
label_counted frames.LegacyTry b = refl
label_counted frames.LegacyCatch b = refl
label_counted frames.LegacyCatchAll b = refl

abbrev held_of : Standing → BlockType × FrameKind
held_of f = (f.held, f.kind)

label_at : (m : Module) (fs : List Standing) (l : ℕ) (ts : List ValueType) → AreTyped m fs → slice_get (map (λ f. label_of f.kind f.block) fs) l ≡ Some ts
    → option_and_then (λ f. option_map (label_count f.1) (block_counts m f.0)) (slice_get (map held_of fs) l) ≡ Some (length ts)
label_at m [] l ts a e = cc
label_at m (f ∷ fs) zero ts a e =
    let is : label_of f.kind f.block ≡ ts = cc in
    rw (block_counted m f.held f.block a.0) (ap (λ n. Some n) (label_counted f.kind f.block ∙ ap (λ (x : List ValueType). length x) is))
label_at m (f ∷ fs) (suc l) ts a e = label_at m fs l ts a.1 e

pub label_is : (k : Known) (g : Context) (fs : List Standing) (l : ℕ) (ts : List ValueType) → IsAround k g fs → IsLabel g l ts → label_of_frame k l ≡ Some (length ts)
label_is k g fs l ts a e = rw (a.«module», a.frames) (label_at g.«module» fs l ts a.typed (subst (λ (x : List (List ValueType)). slice_get x l ≡ Some ts) a.labels e))

last_at : (m : Module) (f : Standing) (fs : List Standing) → AreTyped m (f ∷ fs)
    → results_alone (option_and_then (λ x. block_counts m x.0) (slice_get (map held_of (f ∷ fs)) (length fs))) ≡ Some (length (outermost_results (f ∷ fs)))
last_at m f [] a = rw (block_counted m f.held f.block a.0) refl
last_at m f (g ∷ fs) a = last_at m g fs a.1

place_of_last : (n h : ℕ) → h ≡ suc n → suc n < 2 ^ 32 → in_u32 h - 1 ≡ n
place_of_last n h e lt = omega (arith, e, lt)

results_at : (m : Module) (fs : List Standing) (n : ℕ) → 0 < length fs → length fs < 2 ^ 32 → AreTyped m fs → n ≡ in_u32 (length (map held_of fs)) - 1
    → results_alone (option_and_then (λ x. block_counts m x.0) (slice_get (map held_of fs) n)) ≡ Some (length (outermost_results fs))
results_at m [] n h lt a e = absurd (omega (arith, h))
results_at m (f ∷ fs) n h lt a e =
    let is : n ≡ length fs = e ∙ place_of_last (length fs) (length (map held_of (f ∷ fs))) (length-map (f ∷ fs) held_of) lt in
    rw is (last_at m f fs a)

pub results_are : (k : Known) (g : Context) (fs : List Standing) → IsAround k g fs → results_alone (frame_counts k (outermost k)) ≡ Some (length g.results)
results_are k g fs a = rw (a.«module», a.frames, a.results) (results_at g.«module» fs _ a.standing a.few a.typed refl)

-- the innermost frame
pub innermost_is : (k : Known) (g : Context) (f : Standing) (fs : List Standing) → IsAround k g (f ∷ fs) → frame_counts k 0 ≡ Some (length f.block.params, length f.block.results)
innermost_is k g f fs a = rw (a.«module», a.frames) (block_counted g.«module» f.held f.block a.typed.0)

-- ---- rows

-- a row that takes and gives what the table says; or one behind which nothing is reached, of which the shortest takes what it says
abbrev pub Leaves : Option Counts → (List Operand → List Operand → Type 0) → List Operand → Type 0
Leaves a R p = (any s : List Operand) × (p ≡ any ++ s) × (a ≡ Some (length s, 0)) × R s []

abbrev pub Counted : Option Counts → (List Operand → List Operand → Type 0) → List Operand → List Operand → Type 0
Counted a R p q = (a ≡ Some (length p, length q)) ⊎ Leaves a R p

-- ---- instruction types

-- each instruction type that there is has these lengths
abbrev pub Measures : Option InstructionType → ℕ → ℕ → Type 0
Measures o n c = (t : InstructionType) → o ≡ Some t → (length t.takes ≡ n) × (length t.gives ≡ c)

pub some_measures : (t : InstructionType) → Measures (Some t) (length t.takes) (length t.gives)
some_measures t u e = let is : t ≡ u = cc in rw is (refl, refl)

none_measures : (n c : ℕ) → Measures None n c
none_measures n c u e = cc

pub provided_measures : (b : Bool) (t : InstructionType) → Measures (provided b t) (length t.takes) (length t.gives)
provided_measures true t = some_measures t
provided_measures false t = none_measures _ _

pub named_measures : {A : Type 0} (o : Option A) (f : A → Option InstructionType) (n c : ℕ) → ((x : A) → Measures (f x) n c) → Measures (named o f) n c
named_measures None f n c h = none_measures n c
named_measures (Some x) f n c h = h x

pub used_measures : (b : Bool) (o : Option InstructionType) (n c : ℕ) → Measures o n c → Measures (if b then o else None) n c
used_measures true o n c h = h
used_measures false o n c h = none_measures n c

pub table_counted : (g : Context) (o : Op) (a : Option Counts) (n c : ℕ) (p q : List Operand) → Measures (instruction_type g o) n c → a ≡ Some (n, c) → TableRow g o p q → a ≡ Some (length p, length q)
table_counted g o a n c p q m e r =
    let l = m r.0 r.1 in
    takes_counted a r.0.takes r.0.gives p q r.2 (rw (l.0, l.1) e)
