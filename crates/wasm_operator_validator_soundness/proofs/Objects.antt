-- Objects through types declared above their own, and what the rules say of types that are named.
use Rattle.std.proofs.Common.{◌≡◌, ℕ, zero, suc, List, [], ◌∷◌, ◌++◌, Option, Some, None, Bool, true, false, refl, sym, ap, subst, ◌∙◌, slice_get, option_map, true≢false, not}
use Rattle.std.specs.Prelude.{All, ◌&&◌}
use Rattle.std.proofs.lemmas.Bool.{ltb-true}
use Rattle.std.proofs.lemmas.List.Elements.{All-nil, All-cons}
use Rattle.wasm_types.specs.trees.Types.{i32, number, ref, Abstract, func, extern, any, none, noextern, nofunc, eq, struct, array, i31, exn, noexn, cont, nocont, HeapOf, abstract, concrete, exact, StorageOf, i8, i16, value, FieldOf, InnerOf, function, array_of, struct_of, continuation}
use Rattle.wasm_types.specs.trees.Trees.{TypeTree, opened}
use Rattle.wasm_types.specs.trees.Below.{DeclaredBelow, itself, declared, expanded, is_shared, heap_is_shared, abstract_above, bottom_of, IsBelowAbstract, IsAboveAbstract, HeapBelow}
use Rattle.wasm_types.specs.trees.AbstractOrder.{AbstractBelow, same, i31_eq, struct_eq, array_eq, none_eq, none_i31, none_array, top_of}
use Rattle.wasm_types.specs.trees.Each.{EachHeap}
use Rattle.wasm_types.specs.trees.Matches.{StorageMatches, FieldMatches, FieldsMatch, InnerMatches, Matches}
use Rattle.wasm_types.specs.trees.Chains.{LinksMatch, IsSound}
use Rattle.wasm_types.specs.trees.laws.Matches.{matches_reflexive, matches_transitive}
use Rattle.wasm_types.specs.trees.ValidGroup.{IsFunction}
use Rattle.wasm_operator_validator_rules.specs.Operands.{ValueType, Operand, known, OperandBelow, stack}
use Rattle.wasm_operator_validator_rules.specs.Context.{Context}
use Rattle.wasm_operator_validator_rules.specs.Named.{used_type}
use Rattle.wasm_operator_validator_rules.specs.Aggregates.{top_heap, as_struct, as_array, Struct, Array, struct_named, array_named}
use Rattle.wasm_operator_validator_rules.specs.Places.{unpacked, is_of_bytes, has_default, have_defaults, is_packed, operands_for, Place, field_place, element_place}
use Rattle.wasm_operator_validator_rules.specs.InstructionTypes.{InstructionType, ◌⟶◌, names_data, i32_type, provided, read, read_packed}
use Rattle.wasm_operator_validator_soundness.specs.runs.Values.{Program, IsStandardType, IsObject, Value, number_value, ref_null, ref_function, ref_object, ref_i31, ref_host, ref_extern, ref_exn, least_type, bottom_heap, IsAkin, bottom_under, Fits, AllFit}
use Rattle.wasm_operator_validator_soundness.specs.runs.Machine.{fields_in, operand_of, operands_of, struct_fields, array_fields, IsWhole, IsPacked, AreStoredAlike, IsArray, IsUnboxed, IsComparable, HasDefault, IsOfBytes, IsData, last_of}
use Rattle.wasm_operator_validator_soundness.proofs.RunsFitting.{stack_joined}
use Rattle.wasm_operator_validator_soundness.proofs.RunsInvariant.{none_is_some, some_same}
use Rattle.wasm_operator_validator_soundness.proofs.RunsLeaving.{default_there, standard_is_sound, under_below, one_bottom, under_itself, under_constructor, under_bottom}
use Rattle.wasm_operator_validator_soundness.proofs.Options.{and_then_some, map_some, used_is}

-- ---- along a chain of declared supertypes

pub matches_along : (u t : TypeTree) → LinksMatch u → DeclaredBelow u t → Matches (opened u) (opened t)
matches_along u t links itself = matches_reflexive (opened u)
matches_along u t links (declared s d) =
    matches_transitive (opened u) (opened _) (opened t) (links u _ itself s) (matches_along _ t (λ y z i j. links y z (declared s i) j) d)

-- what is read through an ancestor is a field of the object's own, which matches
fields_match_at : (xs ys : List (FieldOf TypeTree)) (i : ℕ) (y : FieldOf TypeTree) → FieldsMatch xs ys → slice_get ys i ≡ Some y
    → (x : FieldOf TypeTree) × (slice_get xs i ≡ Some x) × FieldMatches x y
fields_match_at xs [] i y m e = absurd (none_is_some y e)
fields_match_at [] (z ∷ ys) i y m e = absurd m
fields_match_at (x ∷ xs) (z ∷ ys) zero y m e = (x, refl, subst (λ (f : FieldOf TypeTree). FieldMatches x f) (some_same z y e) m.0)
fields_match_at (x ∷ xs) (z ∷ ys) (suc i) y m e = fields_match_at xs ys i y m.1 e

pub field_through : (x y : InnerOf TypeTree) (i : ℕ) (f : FieldOf TypeTree) → InnerMatches x y → slice_get (fields_in y) i ≡ Some f
    → (k : FieldOf TypeTree) × (slice_get (fields_in x) i ≡ Some k) × FieldMatches k f
field_through (struct_of xs) (struct_of ys) i f m e = fields_match_at xs ys i f m e
field_through (array_of x) (array_of y) zero f m e = (x, refl, subst (λ (k : FieldOf TypeTree). FieldMatches x k) (some_same y f e) m)
field_through (array_of x) (array_of y) (suc i) f m e = absurd (none_is_some f e)
field_through (function ps rs) (function qs ss) i f m e = absurd (none_is_some f e)
field_through (continuation t) (continuation u) i f m e = absurd (none_is_some f e)
field_through (struct_of xs) (array_of y) i f m e = absurd m
field_through (struct_of xs) (function qs ss) i f m e = absurd m
field_through (struct_of xs) (continuation u) i f m e = absurd m
field_through (array_of x) (struct_of ys) i f m e = absurd m
field_through (array_of x) (function qs ss) i f m e = absurd m
field_through (array_of x) (continuation u) i f m e = absurd m
field_through (function ps rs) (struct_of ys) i f m e = absurd m
field_through (function ps rs) (array_of y) i f m e = absurd m
field_through (function ps rs) (continuation u) i f m e = absurd m
field_through (continuation t) (struct_of ys) i f m e = absurd m
field_through (continuation t) (array_of y) i f m e = absurd m
field_through (continuation t) (function qs ss) i f m e = absurd m

pub unpacked_below : (x y : StorageOf TypeTree) → StorageMatches x y → OperandBelow (known (unpacked x)) (known (unpacked y))
unpacked_below i8 i8 m = refl
unpacked_below i16 i16 m = refl
unpacked_below (value v) (value u) m = m
unpacked_below i8 i16 m = absurd m
unpacked_below i8 (value u) m = absurd m
unpacked_below i16 i8 m = absurd m
unpacked_below i16 (value u) m = absurd m
unpacked_below (value v) i8 m = absurd m
unpacked_below (value v) i16 m = absurd m

-- what is held as operands, by the machine and by the rules
pub operand_is : (s : StorageOf TypeTree) → operand_of s ≡ unpacked s
operand_is i8 = refl
operand_is i16 = refl
operand_is (value t) = refl

-- the same where one is what the machine holds
pub held_below : (x y : StorageOf TypeTree) → StorageMatches x y → OperandBelow (known (operand_of x)) (known (unpacked y))
held_below x y m = subst (λ (u : ValueType). OperandBelow (known u) (known (unpacked y))) (sym (operand_is x)) (unpacked_below x y m)

pub below_held : (x y : StorageOf TypeTree) → StorageMatches x y → OperandBelow (known (unpacked x)) (known (operand_of y))
below_held x y m = subst (λ (u : ValueType). OperandBelow (known (unpacked x)) (known u)) (sym (operand_is y)) (unpacked_below x y m)

pub stored_alike : (x y : StorageOf TypeTree) → StorageMatches x y → AreStoredAlike x y
stored_alike i8 i8 m = refl
stored_alike i16 i16 m = refl
stored_alike (value v) (value u) m = refl
stored_alike i8 i16 m = absurd m
stored_alike i8 (value u) m = absurd m
stored_alike i16 i8 m = absurd m
stored_alike i16 (value u) m = absurd m
stored_alike (value v) i8 m = absurd m
stored_alike (value v) i16 m = absurd m

is_whole : (s : StorageOf TypeTree) → is_packed s ≡ false → IsWhole s
is_whole (value t) e = refl
is_whole i8 e = absurd (true≢false e)
is_whole i16 e = absurd (true≢false e)

is_in_bits : (s : StorageOf TypeTree) → is_packed s ≡ true → IsPacked s
is_in_bits i8 e = (8, refl)
is_in_bits i16 e = (16, refl)
is_in_bits (value t) e = absurd (true≢false (sym e))

-- of an object below a struct or an array
abbrev pub HoldsAlike : (InnerOf TypeTree → Option (List (FieldOf TypeTree))) → Type 0
HoldsAlike of = (x y : InnerOf TypeTree) (ts : List (FieldOf TypeTree)) → InnerMatches x y → of y ≡ Some ts → of x ≡ Some (fields_in x)

pub structs_alike : HoldsAlike struct_fields
structs_alike (struct_of fs) (struct_of gs) ts m e = refl
structs_alike (array_of f) (struct_of gs) ts m e = absurd m
structs_alike (function ps rs) (struct_of gs) ts m e = absurd m
structs_alike (continuation t) (struct_of gs) ts m e = absurd m
structs_alike x (array_of g) ts m e = absurd (none_is_some ts e)
structs_alike x (function ps rs) ts m e = absurd (none_is_some ts e)
structs_alike x (continuation t) ts m e = absurd (none_is_some ts e)

pub arrays_alike : HoldsAlike array_fields
arrays_alike (array_of f) (array_of g) ts m e = refl
arrays_alike (struct_of fs) (array_of g) ts m e = absurd m
arrays_alike (function ps rs) (array_of g) ts m e = absurd m
arrays_alike (continuation t) (array_of g) ts m e = absurd m
arrays_alike x (struct_of fs) ts m e = absurd (none_is_some ts e)
arrays_alike x (function ps rs) ts m e = absurd (none_is_some ts e)
arrays_alike x (continuation t) ts m e = absurd (none_is_some ts e)

-- the object's own field, through a type above its own that has this field
pub own_field : (u t : TypeTree) (i : ℕ) (f : FieldOf TypeTree) → InnerMatches (expanded u) (expanded t) → slice_get (fields_in (expanded t)) i ≡ Some f
    → (k : FieldOf TypeTree) × (slice_get (fields_in (expanded u)) i ≡ Some k) × FieldMatches k f
own_field u t i f m e = field_through (expanded u) (expanded t) i f m e

-- ---- constructors

abbrev IsObjectAbstract : Abstract → Type 0
IsObjectAbstract array = Unit {0}
IsObjectAbstract struct = Unit {0}
IsObjectAbstract h = ⊥

object_abstract : (x : InnerOf TypeTree) → IsObject x → IsObjectAbstract (abstract_above x)
object_abstract (function ps rs) i = absurd i
object_abstract (array_of f) i = tt
object_abstract (struct_of fs) i = tt
object_abstract (continuation t) i = absurd i

pub function_abstract : (x : InnerOf TypeTree) → IsFunction x → abstract_above x ≡ func
function_abstract (function ps rs) i = refl
function_abstract (array_of f) i = absurd i
function_abstract (struct_of fs) i = absurd i
function_abstract (continuation t) i = absurd i

pub no_function : (u t : TypeTree) → IsSound u → DeclaredBelow u t → IsFunction (expanded u) → IsObject (expanded t) → ⊥
no_function u t s d i j =
    subst IsObjectAbstract (sym ((s t d).constructor) ∙ function_abstract (expanded u) i) (object_abstract (expanded t) j)

-- ---- what is below abstract types

-- what an abstract type is the constructor of, or the bottom of all
abbrev IsArrayAbstract : Abstract → Type 0
IsArrayAbstract array = Unit {0}
IsArrayAbstract none = Unit {0}
IsArrayAbstract h = ⊥

abbrev IsUnboxedAbstract : Abstract → Type 0
IsUnboxedAbstract i31 = Unit {0}
IsUnboxedAbstract none = Unit {0}
IsUnboxedAbstract h = ⊥

abbrev IsComparableAbstract : Abstract → Type 0
IsComparableAbstract eq = Unit {0}
IsComparableAbstract i31 = Unit {0}
IsComparableAbstract struct = Unit {0}
IsComparableAbstract array = Unit {0}
IsComparableAbstract none = Unit {0}
IsComparableAbstract h = ⊥

below_array : (h : Abstract) → AbstractBelow h array → IsArrayAbstract h
below_array h same = tt
below_array h none_array = tt

below_i31 : (h : Abstract) → AbstractBelow h i31 → IsUnboxedAbstract h
below_i31 h same = tt
below_i31 h none_i31 = tt

below_eq : (h : Abstract) → AbstractBelow h eq → IsComparableAbstract h
below_eq h same = tt
below_eq h i31_eq = tt
below_eq h struct_eq = tt
below_eq h array_eq = tt
below_eq h none_eq = tt

-- of a type below an abstract one, by its constructor
own_abstract : (P : Abstract → Type 0) (t : TypeTree) (s : Bool) (k : Abstract) → IsSound t → ((h : Abstract) → AbstractBelow h k → P h) → IsBelowAbstract t s k → P (abstract_above (expanded t))
own_abstract P t s k sound below b = subst P (sym ((sound b.0 b.1).constructor)) (below (abstract_above (expanded b.0)) b.3)

array_by : (x : InnerOf TypeTree) → IsArrayAbstract (abstract_above x) → (f : FieldOf TypeTree) × (x ≡ array_of f)
array_by (array_of f) i = (f, refl)
array_by (function ps rs) i = absurd i
array_by (struct_of fs) i = absurd i
array_by (continuation t) i = absurd i

function_no_array : (x : InnerOf TypeTree) → IsFunction x → IsArrayAbstract (abstract_above x) → ⊥
function_no_array x i a = subst IsArrayAbstract (function_abstract x i) a

function_no_unboxed : (x : InnerOf TypeTree) → IsFunction x → IsUnboxedAbstract (abstract_above x) → ⊥
function_no_unboxed x i a = subst IsUnboxedAbstract (function_abstract x i) a

function_no_comparable : (x : InnerOf TypeTree) → IsFunction x → IsComparableAbstract (abstract_above x) → ⊥
function_no_comparable x i a = subst IsComparableAbstract (function_abstract x i) a

object_no_unboxed : (x : InnerOf TypeTree) → IsObject x → IsUnboxedAbstract (abstract_above x) → ⊥
object_no_unboxed (array_of f) i a = a
object_no_unboxed (struct_of fs) i a = a
object_no_unboxed (function ps rs) i a = absurd i
object_no_unboxed (continuation t) i a = absurd i

pub an_array : (p : Program) (v : Value) (s : Bool) → Fits p v (ref true (abstract s array)) → IsArray v
an_array p (ref_null c k) s f = tt
an_array p (ref_object id t) s f = array_by (expanded t) (own_abstract IsArrayAbstract t s array (standard_is_sound t f.0.0) below_array f.1.1)
an_array p (ref_function j t) s f = absurd (function_no_array (expanded t) f.0.1 (own_abstract IsArrayAbstract t s array (standard_is_sound t f.0.0) below_array f.1.1))
an_array p (number_value n id) s f = absurd f.1
an_array p (ref_i31 id) s f = absurd (below_array i31 f.1.1.1)
an_array p (ref_host id) s f = absurd (below_array any f.1.1.1)
an_array p (ref_extern id) s f = absurd (below_array extern f.1.1.1)
an_array p (ref_exn id t) s f = absurd (below_array exn f.1.1.1)

pub an_unboxed : (p : Program) (v : Value) (s : Bool) → Fits p v (ref true (abstract s i31)) → IsUnboxed v
an_unboxed p (ref_null c k) s f = tt
an_unboxed p (ref_i31 id) s f = tt
an_unboxed p (ref_object id t) s f = absurd (object_no_unboxed (expanded t) f.0.1 (own_abstract IsUnboxedAbstract t s i31 (standard_is_sound t f.0.0) below_i31 f.1.1))
an_unboxed p (ref_function j t) s f = absurd (function_no_unboxed (expanded t) f.0.1 (own_abstract IsUnboxedAbstract t s i31 (standard_is_sound t f.0.0) below_i31 f.1.1))
an_unboxed p (number_value n id) s f = absurd f.1
an_unboxed p (ref_host id) s f = absurd (below_i31 any f.1.1.1)
an_unboxed p (ref_extern id) s f = absurd (below_i31 extern f.1.1.1)
an_unboxed p (ref_exn id t) s f = absurd (below_i31 exn f.1.1.1)

pub comparable : (p : Program) (v : Value) (s : Bool) → Fits p v (ref true (abstract s eq)) → IsComparable v
comparable p (ref_null c k) s f = tt
comparable p (ref_i31 id) s f = tt
comparable p (ref_object id t) s f = tt
comparable p (ref_function j t) s f = absurd (function_no_comparable (expanded t) f.0.1 (own_abstract IsComparableAbstract t s eq (standard_is_sound t f.0.0) below_eq f.1.1))
comparable p (number_value n id) s f = absurd f.1
comparable p (ref_host id) s f = absurd (below_eq any f.1.1.1)
comparable p (ref_extern id) s f = absurd (below_eq extern f.1.1.1)
comparable p (ref_exn id t) s f = absurd (below_eq exn f.1.1.1)

-- ---- types that are named

as_struct_is : (x : InnerOf TypeTree) (fs : List (FieldOf TypeTree)) → as_struct x ≡ Some fs → x ≡ struct_of fs
as_struct_is (struct_of xs) fs e = ap struct_of (some_same xs fs e)
as_struct_is (function ps rs) fs e = absurd (none_is_some fs e)
as_struct_is (array_of f) fs e = absurd (none_is_some fs e)
as_struct_is (continuation t) fs e = absurd (none_is_some fs e)

as_array_is : (x : InnerOf TypeTree) (f : FieldOf TypeTree) → as_array x ≡ Some f → x ≡ array_of f
as_array_is (array_of y) f e = ap array_of (some_same y f e)
as_array_is (function ps rs) f e = absurd (none_is_some f e)
as_array_is (struct_of fs) f e = absurd (none_is_some f e)
as_array_is (continuation t) f e = absurd (none_is_some f e)

pub record IsNamedAs (g : Context) (x : ℕ) (t : TypeTree) (i : InnerOf TypeTree) : Type 0 where
  pub there : slice_get g.«module».types x ≡ Some t
  pub inner : expanded t ≡ i

pub struct_is : (g : Context) (x : ℕ) (s : Struct) → struct_named g x ≡ Some s → IsNamedAs g x s.type (struct_of s.fields)
struct_is g x s e =
    let r = and_then_some (λ t. option_map (λ xs. record { type = t; fields = xs }) (as_struct (expanded t))) (used_type g x) s e in
    let m = map_some (λ xs. record { type = r.0; fields = xs }) (as_struct (expanded r.0)) s r.2 in
    subst (λ (y : Struct). IsNamedAs g x y.type (struct_of y.fields)) m.2 (record { there = used_is g x r.0 r.1; inner = as_struct_is (expanded r.0) m.0 m.1 })

pub array_is : (g : Context) (x : ℕ) (s : Array) → array_named g x ≡ Some s → IsNamedAs g x s.type (array_of s.element)
array_is g x s e =
    let r = and_then_some (λ t. option_map (λ y. record { type = t; element = y }) (as_array (expanded t))) (used_type g x) s e in
    let m = map_some (λ y. record { type = r.0; element = y }) (as_array (expanded r.0)) s r.2 in
    subst (λ (y : Array). IsNamedAs g x y.type (array_of y.element)) m.2 (record { there = used_is g x r.0 r.1; inner = as_array_is (expanded r.0) m.0 m.1 })

-- a place of an object: its type, and the field with this number
pub record IsPlaceOf (of : InnerOf TypeTree → Option (List (FieldOf TypeTree))) (g : Context) (x i : ℕ) (above : List ValueType) (q : Place) : Type 0 where
  pub type : TypeTree
  pub field : FieldOf TypeTree
  pub there : slice_get g.«module».types x ≡ Some type
  pub object : IsObject (expanded type)
  pub held : List (FieldOf TypeTree)
  pub holds : of (expanded type) ≡ Some held
  pub alike : HoldsAlike of
  pub has_it : slice_get (fields_in (expanded type)) i ≡ Some field
  pub is : q ≡ record { reached_by = ref true (concrete type) ∷ above; storage = field.storage; mutable = field.mutable }

pub field_place_is : (g : Context) (x i : ℕ) (q : Place) → field_place g x i ≡ Some q → IsPlaceOf struct_fields g x i [] q
field_place_is g x i q e =
    let r = and_then_some (λ (s : Struct). option_map (λ (y : FieldOf TypeTree). record { reached_by = ref true (concrete s.type) ∷ []; storage = y.storage; mutable = y.mutable }) (slice_get s.fields i)) (struct_named g x) q e in
    let m = map_some (λ (y : FieldOf TypeTree). record { reached_by = ref true (concrete (r.0).type) ∷ []; storage = y.storage; mutable = y.mutable }) (slice_get (r.0).fields i) q r.2 in
    let n = struct_is g x r.0 r.1 in
    record {
      type = (r.0).type;
      field = m.0;
      there = n.there;
      object = subst IsObject (sym n.inner) tt;
      held = (r.0).fields;
      holds = ap struct_fields n.inner;
      alike = structs_alike;
      has_it = ap (λ (k : InnerOf TypeTree). slice_get (fields_in k) i) n.inner ∙ m.1;
      is = sym m.2;
    }

pub element_place_is : (g : Context) (x : ℕ) (q : Place) → element_place g x ≡ Some q → IsPlaceOf array_fields g x 0 (i32_type ∷ []) q
element_place_is g x q e =
    let m = map_some (λ (s : Array). record { reached_by = ref true (concrete s.type) ∷ number i32 ∷ []; storage = s.element.storage; mutable = s.element.mutable }) (array_named g x) q e in
    let n = array_is g x m.0 m.1 in
    record {
      type = (m.0).type;
      field = (m.0).element;
      there = n.there;
      object = subst IsObject (sym n.inner) tt;
      held = (m.0).element ∷ [];
      holds = ap array_fields n.inner;
      alike = arrays_alike;
      has_it = ap (λ (k : InnerOf TypeTree). slice_get (fields_in k) 0) n.inner;
      is = sym m.2;
    }

-- ---- conditions in the table

pub provided_is : (b : Bool) (u t : InstructionType) → provided b u ≡ Some t → (b ≡ true) × (u ≡ t)
provided_is true u t e = (refl, some_same u t e)
provided_is false u t e = absurd (none_is_some t e)

packed_is : (x : StorageOf TypeTree) → is_packed x ≡ true → i32_type ≡ unpacked x
packed_is i8 e = refl
packed_is i16 e = refl
packed_is (value t) e = absurd (true≢false (sym e))

-- what is stored may be read so, also in an object below
abbrev pub StoredBelow : (StorageOf TypeTree → Type 0) → StorageOf TypeTree → Type 0
StoredBelow stored s = (x : StorageOf TypeTree) → StorageMatches x s → stored x

not_true : (b : Bool) → not b ≡ true → b ≡ false
not_true false e = refl
not_true true e = absurd (true≢false (sym e))

pub read_is : (q : Place) (t : InstructionType) → read q ≡ Some t → ((q.reached_by ⟶ unpacked q.storage ∷ []) ≡ t) × StoredBelow IsWhole q.storage
read_is q t e =
    let r = provided_is (not (is_packed q.storage)) (q.reached_by ⟶ unpacked q.storage ∷ []) t e in
    (r.1, λ x m. stored_alike x q.storage m ∙ is_whole q.storage (not_true (is_packed q.storage) r.0))

pub read_packed_is : (q : Place) (t : InstructionType) → read_packed q ≡ Some t → ((q.reached_by ⟶ unpacked q.storage ∷ []) ≡ t) × StoredBelow IsPacked q.storage
read_packed_is q t e =
    let r = provided_is (is_packed q.storage) (q.reached_by ⟶ i32_type ∷ []) t e in
    (ap (λ (u : ValueType). q.reached_by ⟶ u ∷ []) (sym (packed_is q.storage r.0)) ∙ r.1, λ x m. let n = is_in_bits q.storage r.0 in (n.0, stored_alike x q.storage m ∙ n.1))

-- ---- the value at the bottom of a few

last_fits : (p : Program) (us : List Value) (ts : List Operand) (t : ValueType) → AllFit p us (ts ++ known t ∷ []) → Fits p (last_of us) t
last_fits p [] [] t f = absurd f
last_fits p [] (u ∷ ts) t f = absurd f
last_fits p (v ∷ []) [] t f = f.0
last_fits p (v ∷ x ∷ us) [] t f = absurd f.1
last_fits p (v ∷ []) (u ∷ []) t f = absurd f.1
last_fits p (v ∷ []) (u ∷ y ∷ ts) t f = absurd f.1
last_fits p (v ∷ x ∷ us) (u ∷ ts) t f = last_fits p (x ∷ us) ts t f.1

pub bottom_fits : (p : Program) (us : List Value) (t : ValueType) (ns : List ValueType) → AllFit p us (stack (t ∷ ns)) → Fits p (last_of us) t
bottom_fits p us t ns f = last_fits p us (stack ns) t (subst (λ (l : List Operand). AllFit p us l) (stack_joined (t ∷ []) ns) f)

declared_alike : (t u : TypeTree) → IsSound t → DeclaredBelow t u → (is_shared t ≡ is_shared u) × (bottom_of (expanded t) ≡ bottom_of (expanded u))
declared_alike t u s d =
    ((s u d).shared, sym (under_constructor (expanded t)) ∙ ap bottom_under (s u d).constructor ∙ under_constructor (expanded u))

above_of : (t : TypeTree) (s : Bool) (k : Abstract) → IsSound t → s ≡ is_shared t → k ≡ bottom_of (expanded t) → IsAboveAbstract t s k
above_of t s k i e d u b = let r = declared_alike t u i b in (e ∙ r.0, d ∙ r.1)

-- ---- nulls: of one sharedness and one bottom with each heap type that they are of

pub null_is : (p : Program) (s : Bool) (q : Abstract) (n : Bool) (h : HeapOf TypeTree) → Fits p (ref_null s q) (ref n h) → (s ≡ heap_is_shared h) × (bottom_under q ≡ bottom_heap h)
null_is p s q n (abstract c k) f = (f.1.1.0, sym (under_itself q) ∙ one_bottom (bottom_under q) k f.1.1.1)
null_is p s q n (concrete t) f = f.1.1 t itself
null_is p s q n (exact t) f = f.1.1 t itself

pub null_of_type : (p : Program) (s : Bool) (q : Abstract) (h : HeapOf TypeTree) → EachHeap IsStandardType h → s ≡ heap_is_shared h → bottom_under q ≡ bottom_heap h → Fits p (ref_null s q) (ref true h)
null_of_type p s q (abstract c k) i e d = (tt, (tt, (e, subst (λ (x : Abstract). AbstractBelow x k) (sym d) (under_below k))))
null_of_type p s q (concrete t) i e d = (tt, (tt, above_of t s (bottom_under q) (standard_is_sound t i) e d))
null_of_type p s q (exact t) i e d = (tt, (tt, above_of t s (bottom_under q) (standard_is_sound t i) e d))

bottom_top : (h : Abstract) → bottom_under (top_of h) ≡ bottom_under h
bottom_top func = refl
bottom_top nofunc = refl
bottom_top extern = refl
bottom_top noextern = refl
bottom_top exn = refl
bottom_top noexn = refl
bottom_top cont = refl
bottom_top nocont = refl
bottom_top any = refl
bottom_top none = refl
bottom_top eq = refl
bottom_top struct = refl
bottom_top array = refl
bottom_top i31 = refl

bottom_of_top : (h : HeapOf TypeTree) → bottom_heap (top_heap h) ≡ bottom_heap h
bottom_of_top (abstract s k) = bottom_top k
bottom_of_top (concrete t) = bottom_top (abstract_above (expanded t)) ∙ under_constructor (expanded t)
bottom_of_top (exact t) = bottom_top (abstract_above (expanded t)) ∙ under_constructor (expanded t)

-- a null of the hierarchy of a type is of the type, where that may be null
pub null_passes : (p : Program) (s : Bool) (q : Abstract) (h : HeapOf TypeTree) → EachHeap IsStandardType h → Fits p (ref_null s q) (ref true (top_heap h)) → Fits p (ref_null s q) (ref true h)
null_passes p s q h i f = let r = null_is p s q true (top_heap h) f in null_of_type p s q h i r.0 (r.1 ∙ bottom_of_top h)

to_abstract : (t : TypeTree) (s : Bool) (k : Abstract) → IsSound t → IsBelowAbstract t s k → (is_shared t ≡ s) × (bottom_of (expanded t) ≡ bottom_under k)
to_abstract t s k i b =
    let r = declared_alike t b.0 i b.1 in
    (r.0 ∙ b.2, r.1 ∙ sym (under_constructor (expanded b.0)) ∙ one_bottom (abstract_above (expanded b.0)) k b.3)

-- heap types below one another are of one sharedness and one bottom
pub heap_alike : (k h : HeapOf TypeTree) → EachHeap IsStandardType k → HeapBelow k h → (heap_is_shared k ≡ heap_is_shared h) × (bottom_heap k ≡ bottom_heap h)
heap_alike (abstract s k) (abstract c h) i b = (b.0, one_bottom k h b.1)
heap_alike (abstract s k) (concrete t) i b = let r = b t itself in (r.0, ap bottom_under r.1 ∙ under_bottom (expanded t))
heap_alike (abstract s k) (exact t) i b = let r = b t itself in (r.0, ap bottom_under r.1 ∙ under_bottom (expanded t))
heap_alike (concrete t) (abstract c h) i b = to_abstract t c h (standard_is_sound t i) b
heap_alike (concrete t) (concrete u) i b = declared_alike t u (standard_is_sound t i) b
heap_alike (concrete t) (exact u) i b = absurd b
heap_alike (exact t) (abstract c h) i b = to_abstract t c h (standard_is_sound t i) b
heap_alike (exact t) (concrete u) i b = declared_alike t u (standard_is_sound t i) b
heap_alike (exact t) (exact u) i b = (ap is_shared b, ap (λ (x : TypeTree). bottom_of (expanded x)) b)

akin_to_top : (h k : HeapOf TypeTree) → EachHeap IsStandardType h → HeapBelow h (top_heap k) → (heap_is_shared h ≡ heap_is_shared k) × (bottom_heap h ≡ bottom_heap k)
akin_to_top h k i b = let r = heap_alike h (top_heap k) i b in (r.0, r.1 ∙ bottom_of_top k)

-- what is of the top of a hierarchy is of the hierarchy
pub akin_value : (p : Program) (v : Value) (k : HeapOf TypeTree) → Fits p v (ref true (top_heap k)) → IsAkin (least_type v) k
akin_value p (number_value n id) k f = absurd f.1
akin_value p (ref_null s h) k f = akin_to_top (abstract s (bottom_under h)) k tt f.1.1
akin_value p (ref_function j t) k f = akin_to_top (exact t) k f.0.0 f.1.1
akin_value p (ref_object id t) k f = akin_to_top (exact t) k f.0.0 f.1.1
akin_value p (ref_i31 id) k f = akin_to_top (abstract false i31) k tt f.1.1
akin_value p (ref_host id) k f = akin_to_top (abstract false any) k tt f.1.1
akin_value p (ref_extern id) k f = akin_to_top (abstract false extern) k tt f.1.1
akin_value p (ref_exn id t) k f = akin_to_top (abstract false exn) k tt f.1.1

pub null_falls : (p : Program) (s : Bool) (q : Abstract) (n : Bool) (k h : HeapOf TypeTree) → EachHeap IsStandardType k → HeapBelow k h → Fits p (ref_null s q) (ref n h) → Fits p (ref_null s q) (ref true k)
null_falls p s q n k h i b f =
    let r = null_is p s q n h f in
    let e = heap_alike k h i b in
    null_of_type p s q k i (r.0 ∙ sym e.0) (r.1 ∙ sym e.1)

-- ---- the fields of objects as operands

pub operands_are : (fs : List (FieldOf TypeTree)) → operands_of fs ≡ operands_for fs
operands_are [] = refl
operands_are (f ∷ fs) = ap (λ (u : ValueType). u ∷ operands_of fs) (operand_is f.storage) ∙ ap (λ (l : List ValueType). unpacked f.storage ∷ l) (operands_are fs)

pub element_is : (f : FieldOf TypeTree) → operands_of (f ∷ []) ≡ unpacked f.storage ∷ []
element_is f = operands_are (f ∷ [])

pub and_right : (b c : Bool) → (b && c) ≡ true → c ≡ true
and_right true c e = e
and_right false c e = absurd (true≢false (sym e))

pub and_left : (b c : Bool) → (b && c) ≡ true → b ≡ true
and_left true c e = refl
and_left false c e = absurd (true≢false (sym e))

default_held : (f : FieldOf TypeTree) → has_default f ≡ true → HasDefault (operand_of f.storage)
default_held f e = subst (λ (u : ValueType). HasDefault u) (sym (operand_is f.storage)) (default_there (unpacked f.storage) e)

pub defaults_each : (fs : List (FieldOf TypeTree)) → have_defaults fs ≡ true → All HasDefault (operands_of fs)
defaults_each [] e = All-nil HasDefault
defaults_each (f ∷ fs) e = All-cons HasDefault (operand_of f.storage) _ (default_held f (and_left _ _ e)) (defaults_each fs (and_right _ _ e))

pub default_element : (f : FieldOf TypeTree) → has_default f ≡ true → All HasDefault (operands_of (f ∷ []))
default_element f e = All-cons HasDefault (operand_of f.storage) [] (default_held f e) (All-nil HasDefault)

-- ---- what is read from bytes

bytes_held : (s : StorageOf TypeTree) → is_of_bytes s ≡ true → IsOfBytes (operand_of s)
bytes_held i8 e = tt
bytes_held i16 e = tt
bytes_held (value (number n)) e = tt
bytes_held (value (ref n h)) e = absurd (true≢false (sym e))

pub bytes_element : (f : FieldOf TypeTree) → is_of_bytes f.storage ≡ true → All IsOfBytes (operands_of (f ∷ []))
bytes_element f e = All-cons IsOfBytes (operand_of f.storage) [] (bytes_held f.storage e) (All-nil IsOfBytes)

number_above : (t u : ValueType) → OperandBelow (known t) (known u) → IsOfBytes u → IsOfBytes t
number_above (number n) u b i = tt
number_above (ref n h) (number k) b i = absurd b
number_above (ref n h) (ref k j) b i = absurd i

-- of an array below one of bytes
pub bytes_through : (x : InnerOf TypeTree) (f : FieldOf TypeTree) → InnerMatches x (array_of f) → is_of_bytes f.storage ≡ true → All IsOfBytes (operands_of (fields_in x))
bytes_through (array_of y) f m e =
    let b : IsOfBytes (unpacked f.storage) = subst IsOfBytes (operand_is f.storage) (bytes_held f.storage e) in
    let c : IsOfBytes (operand_of y.storage) = subst IsOfBytes (sym (operand_is y.storage)) (number_above (unpacked y.storage) (unpacked f.storage) (unpacked_below y.storage f.storage m.1) b) in
    All-cons IsOfBytes (operand_of y.storage) [] c (All-nil IsOfBytes)
bytes_through (struct_of fs) f m e = absurd m
bytes_through (function ps rs) f m e = absurd m
bytes_through (continuation t) f m e = absurd m

pub data_named : (o : Option ℕ) (d : ℕ) → names_data o d ≡ true → IsData o d
data_named None d e = absurd (true≢false (sym e))
data_named (Some n) d e = ltb-true d n e
