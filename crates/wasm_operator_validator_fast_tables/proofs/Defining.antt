-- What types of a module are, while the tables are made.
use Rattle.std.proofs.Common.{◌≡◌, ◌≤◌, ◌<◌, ◌∙◌, ◌+◌, ◌*◌, ℕ, suc, Bool, true, false, List, [], ◌∷◌, ◌++◌, Some, None, refl, sym, ap, subst, arith, length, take, drop, map, slice_get}
use Rattle.std.specs.Prelude.{◌-◌, ◌/◌, Option, All, option_map, is_some}
use Rattle.std.proofs.lemmas.List.{append_assoc, length-append, length-map, map-append, take_all}
use Rattle.wasm_types.specs.trees.declared.index.CoreTypeId.{CoreTypeId}
use Rattle.wasm_types.specs.trees.declared.index.UnpackedIndex.{UnpackedIndex}
use Rattle.wasm_types.specs.trees.declared.index.UnpackedIndex.TheVariants as index
use Rattle.wasm_types.specs.trees.Indices.{type_id_of}
use Rattle.wasm_types.specs.trees.Types.{concrete, FieldOf, field_map, EntryOf, InnerOf, value_map, storage_map, struct_of}
use Rattle.wasm_types.specs.trees.Trees.{TypeTree, opened}
use Rattle.wasm_types.specs.trees.Below.{expanded, is_shared, supertype, abstract_above, bottom_of}
use Rattle.wasm_types.specs.trees.Chains.{IsSound}
use Rattle.wasm_types.specs.trees.ValidGroup.{type_at}
use Rattle.wasm_types.specs.values.declared.value.StorageType.{StorageType}
use Rattle.wasm_types.specs.values.declared.value.StorageType.TheVariants as storage
use Rattle.wasm_types.specs.values.Values.{value_of, storage_of}
use Rattle.wasm_types.specs.values.ValueKinds.{is_packed_type, unpacked_type}
use Rattle.wasm_types.specs.fields.declared.field.FieldType.{FieldType}
use Rattle.wasm_types.specs.fields.declared.field.ArrayType.{ArrayType}
use Rattle.wasm_types.specs.fields.declared.func.FuncType.{FuncType}
use Rattle.wasm_types.specs.fields.Fields.{field_of}
use Rattle.wasm_types.specs.declared.composite.CompositeInnerType.{CompositeInnerType}
use Rattle.wasm_types.specs.declared.composite.CompositeInnerType.TheVariants as composite
use Rattle.wasm_types.specs.Entries.{first_of}
use Rattle.wasm_types.specs.declared.sub_type.SubType.{SubType}
use Rattle.wasm_operator_validator_state.specs.resources.Meaning.{Meaning, type_in, named_type, type_of_id, entry_in}
use Rattle.wasm_operator_validator_rules.specs.Context.{Module}
use Rattle.wasm_operator_validator_rules.specs.Places.{unpacked, is_packed}
use Rattle.wasm_operator_validator_fast_tables.specs.declared.order.Step.{Step}
use Rattle.wasm_operator_validator_fast_tables.specs.declared.tables.Field.{Field}
use Rattle.wasm_operator_validator_fast_tables.specs.declared.tables.Named.{Named}
use Rattle.wasm_operator_validator_fast_tables.specs.declared.tables.Defined.{Defined}
use Rattle.wasm_operator_validator_fast_tables.specs.declared.tables.Defined.TheVariants as defined
use Rattle.wasm_operator_validator_fast_tables.specs.Values.{heap_of, IsStep}
use Rattle.wasm_operator_validator_fast_tables.specs.Tables.{no_code, IsField, AreFields, IsDefined, IsNamedIn, ArePlaced}
use Rattle.wasm_operator_validator_fast_tables.specs.Known.{IsLonger, AreNamedIn, ArePlacedIn, IsCodeOf, IsAround, inner_in, field_in, fields_in}
use Rattle.wasm_operator_validator_fast_tables.proofs.Knowing.{take_next, of_none, of_pushed, part_stays, part_is, placed_more}
use Rattle.wasm_operator_validator_fast_tables.proofs.Climbing.{at_each, heap_is}

-- ---- a field

pub unpacked_is : (m : Meaning) (s : StorageType) → unpacked (storage_map (named_type m) (storage_of s)) ≡ type_in m (unpacked_type s)
unfolding type_in
unpacked_is m storage.I8 = refl
unpacked_is m storage.I16 = refl
unpacked_is m (storage.Val v) = refl

pub packed_is : (m : Meaning) (s : StorageType) → is_packed (storage_map (named_type m) (storage_of s)) ≡ is_packed_type s
packed_is m storage.I8 = refl
packed_is m storage.I16 = refl
packed_is m (storage.Val v) = refl

-- ---- fields

fields_then : (ids : List TypeTree) (xs : List (FieldOf TypeTree)) (fs : List Field) (x : FieldOf TypeTree) (f : Field) → AreFields ids xs fs → IsField ids x f
    → AreFields ids (xs ++ x ∷ []) (fs ++ f ∷ [])
fields_then ids [] [] x f all one = (one, tt)
fields_then ids [] (g ∷ fs) x f all one = absurd all
fields_then ids (y ∷ xs) [] x f all one = absurd all
fields_then ids (y ∷ xs) (g ∷ fs) x f (it, all) one = (it, fields_then ids xs fs x f all one)

fields_long : (ids : List TypeTree) (xs : List (FieldOf TypeTree)) (fs : List Field) → AreFields ids xs fs → length xs ≡ length fs
fields_long ids [] [] all = refl
fields_long ids [] (g ∷ fs) all = absurd all
fields_long ids (y ∷ xs) [] all = absurd all
fields_long ids (y ∷ xs) (g ∷ fs) (it, all) = ap suc (fields_long ids xs fs all)

-- one field more
pub fields_more : (ws : List FieldType) (i j : ℕ) (w : FieldType) (f : Field) (olds xs ys : List Field) → slice_get ws i ≡ Some w → j ≡ i + 1 → ((m : Meaning) → IsField m.ids (field_in m w) f) → ys ≡ xs ++ f ∷ []
    → (fs : List Field) × (xs ≡ olds ++ fs) × ((m : Meaning) → AreFields m.ids (fields_in m (take i ws)) fs)
    → (fs : List Field) × (ys ≡ olds ++ fs) × ((m : Meaning) → AreFields m.ids (fields_in m (take j ws)) fs)
fields_more ws i j w f olds xs ys at next one e (fs, is, all) = (
  fs ++ f ∷ [],
  e ∙ ap (λ (l : List Field). l ++ f ∷ []) is ∙ append_assoc olds fs (f ∷ []),
  λ m.
      let inner : map field_of (take j ws) ≡ map field_of (take i ws) ++ field_of w ∷ [] =
      ap (map field_of) (take_next ws i j w at next) ∙ map-append field_of (take i ws) (w ∷ []) in
      let whole : fields_in m (take j ws) ≡ fields_in m (take i ws) ++ field_in m w ∷ [] =
      ap (map (field_map (named_type m))) inner ∙ map-append (field_map (named_type m)) (map field_of (take i ws)) (field_of w ∷ []) in
      subst (λ (ts : List (FieldOf TypeTree)). AreFields m.ids ts (fs ++ f ∷ [])) (sym whole) (fields_then m.ids (fields_in m (take i ws)) fs (field_in m w) f (all m) (one m)),
)

-- those of all
pub fields_end : (ws : List FieldType) (i : ℕ) (olds xs : List Field) → length ws ≤ i → (fs : List Field) × (xs ≡ olds ++ fs) × ((m : Meaning) → AreFields m.ids (fields_in m (take i ws)) fs)
    → (fs : List Field) × (xs ≡ olds ++ fs) × ((m : Meaning) → AreFields m.ids (fields_in m ws) fs)
fields_end ws i olds xs le (fs, is, all) = (fs, is, λ m. subst (λ (l : List FieldType). AreFields m.ids (fields_in m l) fs) (take_all i ws le) (all m))

-- ---- what a type is

-- a structure whose fields were put behind the others
pub struct_is : (m : Meaning) (ws : List FieldType) (olds fs news : List Field) (from count : ℕ) → from ≡ length olds → count ≡ length ws → news ≡ olds ++ fs
    → AreFields m.ids (fields_in m ws) fs → IsDefined m.ids news (struct_of (fields_in m ws)) (defined.Struct from count)
struct_is m ws olds fs news from count begun many e all =
    let long : length ws ≡ length fs =
    sym (length-map ws field_of) ∙ sym (length-map (map field_of ws) (field_map (named_type m))) ∙ fields_long m.ids (fields_in m ws) fs all in
    let n = ap (λ (l : List Field). length l) e in
    let k = length-append olds fs in
    let those : take count (drop from news) ≡ fs = ap (λ (l : List Field). take count (drop from l)) e ∙ part_is from count olds fs begun (many ∙ long) in
    (fields_in m ws, refl, omega (arith, n, k, begun, many, long), subst (λ (l : List Field). AreFields m.ids (fields_in m ws) l) (sym those) all)

defined_longer : (ids : List TypeTree) (fs gs : List Field) (inner : InnerOf TypeTree) (d : Defined) → IsLonger fs gs → IsDefined ids fs inner d → IsDefined ids gs inner d
defined_longer ids fs gs inner defined.Other more h = tt
defined_longer ids fs gs inner defined.Function more h = h
defined_longer ids fs gs inner (defined.Struct from count) (more, is) (xs, e, le, all) =
    let n = ap (λ (l : List Field). length l) is in
    let k = length-append fs more in
    let those = ap (λ (l : List Field). take count (drop from l)) is ∙ part_stays from count fs more le in
    (xs, e, omega (arith, n, k, le), subst (λ (l : List Field). AreFields ids xs l) (sym those) all)
defined_longer ids fs gs inner (defined.Array f) more h = h

pub named_longer : (ids : List TypeTree) (m : Module) (fs gs : List Field) (y : ℕ) (it : Named) → IsLonger fs gs → IsNamedIn ids m fs y it → IsNamedIn ids m gs y it
named_longer ids m fs gs y it more u = record {
  type = u.type;
  at = u.at;
  high = u.high;
  nullable = u.nullable;
  never_null = u.never_null;
  unshared = u.unshared;
  undescribed = u.undescribed;
  is = defined_longer ids fs gs (expanded u.type) it.defined more u.is;
}

pub all_longer : (ids : List TypeTree) (m : Module) (fs gs : List Field) (ns : List Named) → IsLonger fs gs → AreNamedIn ids m fs ns → AreNamedIn ids m gs ns
all_longer ids m fs gs ns more h y it e lt = named_longer ids m fs gs y it more (h y it e lt)

pub none_named : (ids : List TypeTree) (m : Module) (fs : List Field) (ns : List Named) → ns ≡ [] → AreNamedIn ids m fs ns
none_named ids m fs ns e = subst (λ (l : List Named). AreNamedIn ids m fs l) (sym e) (of_none (λ (y : ℕ) (n : Named). n.code < no_code → IsNamedIn ids m fs y n))

pub none_placed : (flat : List ℕ) (ns : List Named) → ns ≡ [] → ArePlacedIn flat ns
none_placed flat ns e = subst (λ (l : List Named). ArePlacedIn flat l) (sym e) (of_none (λ (y : ℕ) (n : Named). n.code < no_code → ArePlaced flat y n))

-- one type more
pub named_more : (ids : List TypeTree) (m : Module) (fs gs : List Field) (ns ms : List Named) (it : Named) (at : ℕ) → IsLonger fs gs → ms ≡ ns ++ it ∷ [] → length ns ≡ at
    → AreNamedIn ids m fs ns → (it.code < no_code → IsNamedIn ids m gs at it) → AreNamedIn ids m gs ms
named_more ids m fs gs ns ms it at more e long h one =
    subst (λ (l : List Named). AreNamedIn ids m gs l) (sym e)
    (of_pushed (λ (y : ℕ) (n : Named). n.code < no_code → IsNamedIn ids m gs y n) ns it (all_longer ids m fs gs ns more h)
    (λ lt. subst (λ (k : ℕ). IsNamedIn ids m gs k it) (sym long) (one lt)))

-- its codes behind the others
pub placed_next : (xs ys zs : List ℕ) (ns ms : List Named) (it : Named) (second : ℕ) → length xs ≡ 40 + 2 * length ns → ys ≡ xs ++ it.code ∷ [] → zs ≡ ys ++ second ∷ []
    → (it.code < no_code → second ≡ it.code + 1) → ms ≡ ns ++ it ∷ [] → ArePlacedIn xs ns → ArePlacedIn zs ms
placed_next xs ys zs ns ms it second long e f next g h =
    let both : zs ≡ xs ++ it.code ∷ second ∷ [] = f ∙ ap (λ (l : List ℕ). l ++ second ∷ []) e ∙ append_assoc xs (it.code ∷ []) (second ∷ []) in
    let old : ArePlacedIn zs ns = placed_more xs zs 2 ns (it.code ∷ second ∷ [], both, omega arith) h in
    let last : (it.code < no_code → ArePlaced zs (length ns) it) = λ lt.
    ap (λ (l : List ℕ). take 2 (drop (40 + 2 * length ns) l)) both ∙ part_is (40 + 2 * length ns) 2 xs (it.code ∷ second ∷ []) (sym long) refl
    ∙ ap (λ (k : ℕ). it.code ∷ k ∷ []) (next lt) in
    subst (λ (l : List Named). ArePlacedIn zs l) (sym g) (of_pushed (λ (y : ℕ) (n : Named). n.code < no_code → ArePlaced zs y n) ns it old last)

-- the type is what was matched
pub matched : (m : Meaning) (fields : List Field) (inner whole : CompositeInnerType) (d : Defined) → inner ≡ whole → IsDefined m.ids fields (inner_in m inner) d
    → IsDefined m.ids fields (inner_in m whole) d
matched m fields inner whole d e h = subst (λ (i : CompositeInnerType). IsDefined m.ids fields (inner_in m i) d) e h

pub function_is : (m : Meaning) (fields : List Field) (f : FuncType) → IsDefined m.ids fields (inner_in m (composite.Func f)) defined.Function
function_is m fields f = (record { params = map (value_map (named_type m)) (map value_of f.params); results = map (value_map (named_type m)) (map value_of f.results) }, refl)

pub array_is : (m : Meaning) (fields : List Field) (a : ArrayType) (f : Field) → IsField m.ids (field_in m a.0) f → IsDefined m.ids fields (inner_in m (composite.Array a)) (defined.Array f)
array_is m fields a f one = (field_in m a.0, refl, one)

-- what lies around types of each kind
module _ (ids : List TypeTree) (fields : List Field) (inner : InnerOf TypeTree) (d : Defined) (h : IsDefined ids fields inner d) where
  pub function_around : defined.Function ≡ d → IsAround inner (record { above = 0; bottom = 5; far = 0; depth = 0 })
  function_around is =
      let (b, e) : IsDefined ids fields inner defined.Function = subst (IsDefined ids fields inner) (sym is) h in
      record { high = omega arith; low = omega arith; far = refl; above = ap abstract_above e; bottom = ap bottom_of e }

  pub struct_around : (from count : ℕ) → defined.Struct from count ≡ d → IsAround inner (record { above = 7; bottom = 3; far = 7; depth = 0 })
  struct_around from count is =
      let (xs, e, le, all) : IsDefined ids fields inner (defined.Struct from count) = subst (IsDefined ids fields inner) (sym is) h in
      record { high = omega arith; low = omega arith; far = refl; above = ap abstract_above e; bottom = ap bottom_of e }

  pub array_around : (f : Field) → defined.Array f ≡ d → IsAround inner (record { above = 8; bottom = 3; far = 8; depth = 0 })
  array_around f is =
      let (x, e, one) : IsDefined ids fields inner (defined.Array f) = subst (IsDefined ids fields inner) (sym is) h in
      record { high = omega arith; low = omega arith; far = refl; above = ap abstract_above e; bottom = ap bottom_of e }

-- ---- the type at an index

pub absent : {A : Type 0} (o : Option A) (b : Bool) → b ≡ is_some o → b ≡ false → o ≡ None
absent None b e f = refl
absent (Some x) b e f = cc

-- its entry is that of the tree
pub entry_opened : (m : Meaning) (at : ℕ) (ty : SubType) (t : TypeTree) → Some (entry_in m ty) ≡ option_map opened (slice_get m.«module».types at)
    → slice_get m.«module».types at ≡ Some t → entry_in m ty ≡ opened t
entry_opened m at ty t there e = let f : Some (entry_in m ty) ≡ Some (opened t) = there ∙ ap (option_map opened) e in cc

pub named_is : (m : Meaning) (at : ℕ) (ty : SubType) (fields : List Field) (code : ℕ) (d : Defined) → Some (entry_in m ty) ≡ option_map opened (slice_get m.«module».types at)
    → (t : TypeTree) × (slice_get m.«module».types at ≡ Some t) × IsCodeOf m.ids t code → ty.composite_type.shared ≡ false → ty.composite_type.descriptor_idx ≡ None
    → IsDefined m.ids fields (inner_in m ty.composite_type.inner) d → IsNamedIn m.ids m.«module» fields at (record { code = code; defined = d })
named_is m at ty fields code d there (t, e, (high, nullable, never_null)) alone bare is =
    let o = entry_opened m at ty t there e in
    record {
      type = t;
      at = e;
      high = high;
      nullable = nullable;
      never_null = never_null;
      unshared = sym (ap (λ (x : EntryOf TypeTree). x.shared) o) ∙ alone;
      undescribed = sym (ap (λ (x : EntryOf TypeTree). x.descriptor) o) ∙ ap (option_map (named_type m)) bare;
      is = subst (λ (x : EntryOf TypeTree). IsDefined m.ids fields x.inner d) o is;
    }

first_read : {A : Type 0} (xs : List A) (x : A) → slice_get xs 0 ≡ Some x → first_of xs ≡ Some x
first_read [] x e = cc
first_read (y ∷ xs) x e = e

named_by_id : (m : Meaning) (i : UnpackedIndex) (id : CoreTypeId) → Some id ≡ type_id_of i → named_type m i ≡ type_at m.ids id.0
named_by_id m (index.Module n) id e = cc
named_by_id m (index.RecGroup n) id e = cc
named_by_id m (index.Id j) id e = let f : j ≡ id = cc in ap (type_of_id m) f

-- the supertype that it declares
pub supertype_is : (m : Meaning) (ty : SubType) (t : TypeTree) (above : UnpackedIndex) (id : CoreTypeId) → opened t ≡ entry_in m ty → slice_get ty.supertype_idxs.items 0 ≡ Some above
    → Some id ≡ type_id_of above → supertype t ≡ Some (type_at m.ids id.0)
supertype_is m ty t above id o at e =
    ap (λ (x : EntryOf TypeTree). x.supertype) o ∙ ap (option_map (named_type m)) (first_read ty.supertype_idxs.items above at) ∙ ap Some (named_by_id m above id e)

-- the step up from it
pub step_lands : (m : Meaning) (at : ℕ) (ty : SubType) (it : Named) (s : Step) → All IsSound m.«module».types
    → Some (entry_in m ty) ≡ option_map opened (slice_get m.«module».types at) → (fields : List Field) × IsNamedIn m.ids m.«module» fields at it
    → ((m : Meaning) (t : TypeTree) (fields : List Field) (n : ℕ) → IsSound t → opened t ≡ entry_in m ty → is_shared t ≡ false → IsDefined m.ids fields (expanded t) it.defined
    → heap_of m.ids n ≡ concrete t → IsStep m.ids n s)
    → IsStep m.ids ((it.code - 8) / 2) s
step_lands m at ty it s sound there (fields, u) h =
    let high : 8 ≤ it.code = omega (arith, u.high) in
    h m u.type fields ((it.code - 8) / 2) (at_each IsSound m.«module».types at u.type sound u.at) (sym (entry_opened m at ty u.type there u.at)) u.unshared u.is
    (heap_is m.ids u.type true it.code high u.nullable)
