-- The function types that types are, and the tables that calls go through.
use Rattle.std.proofs.Common.{◌≡◌, ◌↔◌, ◌∙◌, ℕ, Bool, true, false, IsTrue, List, Option, Some, None, map, option_map, slice_get, refl, sym, ap, subst}
use Rattle.wasm_types.specs.trees.Types.{InnerOf, EntryOf, function, value_map, inner_map, ref, abstract, func}
use Rattle.wasm_types.specs.trees.Trees.{TypeTree, opened}
use Rattle.wasm_types.specs.trees.Below.{Below, expanded}
use Rattle.wasm_types.specs.values.Values.{value_of}
use Rattle.wasm_types.specs.fields.declared.func.FuncType.{FuncType}
use Rattle.wasm_types.specs.values.declared.heap.HeapType.TheVariants as heap
use Rattle.wasm_types.specs.values.declared.heap.AbstractHeapType.TheVariants as heaps
use Rattle.wasm_types.specs.values.declared.value.ValType.TheVariants as vals
use Rattle.wasm_types.specs.values.Reference.{Reference}
use Rattle.wasm_types.specs.Kinds.{func_in}
use Rattle.wasm_types.specs.Entries.{inner_of}
use Rattle.wasm_types.specs.declared.composite.CompositeInnerType.{CompositeInnerType}
use Rattle.wasm_types.specs.declared.composite.CompositeInnerType.TheVariants.{Func, Array, Struct, Cont}
use Rattle.wasm_types.specs.declared.sub_type.SubType.{SubType}
use Rattle.wasm_operator_validator_rules.specs.Operands.{ValueType}
use Rattle.wasm_operator_validator_rules.specs.Context.{Table, Signature, IsFunctionType}
use Rattle.wasm_operator_validator_state.specs.resources.Meaning.{Meaning, named_type, entry_in, type_in, reference_in}
use Rattle.wasm_operator_validator_state.specs.State.{State, types_in}
use Rattle.wasm_operator_validator_stacks.specs.determined.Operators.{MayUseIn, IsUsable}
use Rattle.wasm_operator_validator_stacks.specs.determined.laws.Types.{reference_is}
use Rattle.wasm_operator_validator_stacks.specs.determined.laws.Usable.{fails}
use Rattle.wasm_operator_validator_state.specs.blocks.Signatures.{signature_in}
use Rattle.wasm_operator_validator_state.proofs.Signing.{types_twice}
use Rattle.wasm_operator_validator_control.specs.Callees.{IsUsableFunction, IsFunctionIn, IsFunctionTable, table_is_shared}

-- ---- what a type is

function_type : (m : Meaning) (t : TypeTree) (f : FuncType) → inner_map (named_type m) (inner_of (Func f)) ≡ expanded t → IsFunctionType t (signature_in m f)
function_type m t f p =
    sym p ∙ (let g : function (map (value_map (named_type m)) (map value_of f.params)) (map (value_map (named_type m)) (map value_of f.results))
    ≡ function (types_in m f.params) (types_in m f.results) = rw (types_twice m f.params, types_twice m f.results) refl in g)

is_function : (m : Meaning) (t : TypeTree) (i : CompositeInnerType) (f : FuncType) → Some f ≡ func_in i → inner_map (named_type m) (inner_of i) ≡ expanded t → IsFunctionType t (signature_in m f)
is_function m t (Func h) f e p = let k : f ≡ h = cc in subst (λ (x : FuncType). IsFunctionType t (signature_in m x)) (sym k) (function_type m t h p)
is_function m t (Array a) f e p = cc
is_function m t (Struct s) f e p = cc
is_function m t (Cont c) f e p = cc

no_function : (m : Meaning) (t : TypeTree) (i : CompositeInnerType) (b : Signature) → None ≡ func_in i → inner_map (named_type m) (inner_of i) ≡ expanded t → IsFunctionType t b → ⊥
no_function m t (Func h) b e p q = cc
no_function m t (Array a) b e p q = let k = p ∙ q in cc
no_function m t (Struct s) b e p q = let k = p ∙ q in cc
no_function m t (Cont c) b e p q = let k = p ∙ q in cc

inner_is : (m : Meaning) (t : TypeTree) (s : SubType) → entry_in m s ≡ opened t → inner_map (named_type m) (inner_of s.composite_type.inner) ≡ expanded t
inner_is m t s e = ap (λ (y : EntryOf TypeTree). y.inner) e

-- ---- a type that may be used

pub used_function : (σ : State) (m : Meaning) (t : TypeTree) (s : SubType) (r : Bool) (f : FuncType) → IsTrue r ↔ MayUseIn σ s.composite_type.shared → r ≡ true → Some f ≡ func_in s.composite_type.inner
    → entry_in m s ≡ opened t → IsUsableFunction σ t (signature_in m f)
used_function σ m t s r f i y g e =
    (subst (λ (x : Bool). MayUseIn σ x) (ap (λ (y : EntryOf TypeTree). y.shared) e) (i.0 y), is_function m t s.composite_type.inner f g (inner_is m t s e))

pub unused_function : (σ : State) (m : Meaning) (t : TypeTree) (s : SubType) (r : Bool) → IsTrue r ↔ MayUseIn σ s.composite_type.shared → r ≡ false
    → entry_in m s ≡ opened t → (b : Signature) → IsUsableFunction σ t b → ⊥
unused_function σ m t s r i n e b (u, q) = fails r i n (subst (λ (x : Bool). MayUseIn σ x) (sym (ap (λ (y : EntryOf TypeTree). y.shared) e)) u)

pub not_function : (σ : State) (m : Meaning) (t : TypeTree) (s : SubType) → None ≡ func_in s.composite_type.inner
    → entry_in m s ≡ opened t → (b : Signature) → IsUsableFunction σ t b → ⊥
not_function σ m t s g e b (u, q) = no_function m t s.composite_type.inner b g (inner_is m t s e) q

-- ---- the type at an index

pub some_type : (a : EntryOf TypeTree) (o : Option TypeTree) → Some a ≡ option_map opened o → (t : TypeTree) × (o ≡ Some t) × (a ≡ opened t)
some_type a None e = cc
some_type a (Some t) e = (t, refl, cc)

pub no_type : (o : Option TypeTree) → None ≡ option_map opened o → o ≡ None
no_type None e = refl
no_type (Some t) e = cc

pub none_named : (σ : State) (types : List TypeTree) (x : ℕ) → slice_get types x ≡ None → (b : Signature) → IsFunctionIn σ types x b → ⊥
none_named σ types x e b (t, f, u, q) = let g : ◌≡◌ {A = Option TypeTree} None (Some t) = sym e ∙ f in cc

same_type : (o : Option TypeTree) (t u : TypeTree) → o ≡ Some t → o ≡ Some u → u ≡ t
same_type o t u e f = let g : ◌≡◌ {A = Option TypeTree} (Some u) (Some t) = sym f ∙ e in cc

pub not_named : (σ : State) (types : List TypeTree) (x : ℕ) (t : TypeTree) → slice_get types x ≡ Some t → ((b : Signature) → IsUsableFunction σ t b → ⊥) → (b : Signature) → IsFunctionIn σ types x b → ⊥
not_named σ types x t e n b (u, f, v, q) = n b (subst (λ (y : TypeTree). IsUsableFunction σ y b) (same_type (slice_get types x) t u e f) (v, q))

same_signature : (b c : Signature) → b.params ≡ c.params → b.results ≡ c.results → b ≡ c
same_signature b c e f = λ i. record { params = e i; results = f i }

-- it is this one
pub is_named : (σ : State) (types : List TypeTree) (x : ℕ) (t : TypeTree) (b : Signature) → slice_get types x ≡ Some t → IsUsableFunction σ t b → IsFunctionIn σ types x b
is_named σ types x t b e (u, p) = (t, e, u, p)

-- an index names one function type
pub one_function : (σ : State) (types : List TypeTree) (x : ℕ) (b c : Signature) → IsFunctionIn σ types x b → IsFunctionIn σ types x c → c ≡ b
one_function σ types x b c (t, e, u, p) (s, f, v, q) =
    let k = same_type (slice_get types x) t s e f in
    let r : ◌≡◌ {A = InnerOf TypeTree} (function c.params c.results) (function b.params b.results) = sym q ∙ ap expanded k ∙ p in
    same_signature c b (cc) (cc)

-- ---- tables

abbrev Tables : Meaning → ℕ → Option Table
Tables m x = slice_get m.«module».tables x

same_table : (o : Option Table) (t u : Table) → o ≡ Some t → o ≡ Some u → u ≡ t
same_table o t u e f = let g : ◌≡◌ {A = Option Table} (Some u) (Some t) = sym f ∙ e in cc

-- an index names one table
pub one_table : (m : Meaning) (σ : State) (x : ℕ) (t u : Table) → IsFunctionTable m σ x t → IsFunctionTable m σ x u → u ≡ t
one_table m σ x t u ((e, i), s, a) ((f, j), r, b) = same_table (Tables m x) t u e f

pub no_table : (m : Meaning) (σ : State) (x : ℕ) → ((t : Table) → IsUsable σ table_is_shared (slice_get m.«module».tables x) t → ⊥) → (t : Table) → IsFunctionTable m σ x t → ⊥
no_table m σ x n t (u, s, f) = n t u

abbrev OfFunctions : Table → Bool → Type 0
OfFunctions t s = Below t.element (ref true (abstract s func))

neither : (t : Table) (a b : Bool) → IsTrue a ↔ OfFunctions t false → IsTrue b ↔ OfFunctions t true → a ≡ false → b ≡ false → (s : Bool) → OfFunctions t s → ⊥
neither t a b i j e f false x = fails a i e x
neither t a b i j e f true x = fails b j f x

pub not_functions : (m : Meaning) (σ : State) (x : ℕ) (t : Table) (a b : Bool) → Some t ≡ slice_get m.«module».tables x → IsTrue a ↔ OfFunctions t false → IsTrue b ↔ OfFunctions t true
    → a ≡ false → b ≡ false → (u : Table) → IsFunctionTable m σ x u → ⊥
not_functions m σ x t a b g i j e f u ((h, k), s, y) =
    neither t a b i j e f s (subst (λ (z : Table). OfFunctions z s) (same_table (slice_get m.«module».tables x) t u (sym g) h) y)

-- ---- the type at an index, as the code looks it up

pub not_named_type : (m : Meaning) (σ : State) (x : ℕ) (s : SubType) → Some (entry_in m s) ≡ option_map opened (slice_get m.«module».types x)
    → ((t : TypeTree) → entry_in m s ≡ opened t → (b : Signature) → IsUsableFunction σ t b → ⊥) → (b : Signature) → IsFunctionIn σ m.«module».types x b → ⊥
not_named_type m σ x s e n =
    let (t, f, g) = some_type (entry_in m s) (slice_get m.«module».types x) e in not_named σ m.«module».types x t f (n t g)

pub is_named_type : (m : Meaning) (σ : State) (x : ℕ) (s : SubType) (b : Signature) → Some (entry_in m s) ≡ option_map opened (slice_get m.«module».types x)
    → ((t : TypeTree) → entry_in m s ≡ opened t → IsUsableFunction σ t b) → IsFunctionIn σ m.«module».types x b
is_named_type m σ x s b e n =
    let (t, f, g) = some_type (entry_in m s) (slice_get m.«module».types x) e in is_named σ m.«module».types x t b f (n t g)

-- ---- a table of functions, as the code finds it

pub of_functions : (m : Meaning) (σ : State) (x : ℕ) (t : Table) (a : Bool) (s : Bool) → Some t ≡ slice_get m.«module».tables x → MayUseIn σ t.shared → IsTrue a ↔ OfFunctions t s → a ≡ true
    → IsFunctionTable m σ x t
of_functions m σ x t a s g u i e = ((sym g, u), s, i.0 e)

-- the answer of the test by the element's type
pub references : (m : Meaning) (b : Bool) (e : Reference) (r : Reference) (s : Bool) → r ≡ record { nullable = true; heap = heap.Abstract s heaps.Func }
    → IsTrue b ↔ Below (type_in m (vals.Ref e)) (type_in m (vals.Ref r)) → IsTrue b ↔ Below (reference_in m e) (ref true (abstract s func))
references m b e r s f i = subst (λ (x : Reference). IsTrue b ↔ Below (reference_in m e) (reference_in m x)) f
    (subst (λ (y : ValueType). IsTrue b ↔ Below (reference_in m e) y) (reference_is m r) (subst (λ (y : ValueType). IsTrue b ↔ Below y (type_in m (vals.Ref r))) (reference_is m e) i))
