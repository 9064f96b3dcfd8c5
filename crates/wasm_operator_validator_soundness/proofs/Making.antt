-- Structs, arrays, casts and conversions.
use Rattle.std.proofs.Common.{◌≡◌, ℕ, List, [], ◌∷◌, ◌++◌, reverse, Option, Some, Bool, true, false, IsTrue, refl, sym, ap, subst, ◌∙◌, append-nil}
use Rattle.std.proofs.Common.{slice_get, replicate, flat_map, if◌then◌else◌, not, ◌&&◌, true≢false}
use Rattle.wasm_types.specs.trees.Types.{i32, StorageOf, Abstract, extern, any, eq, array, i31, exn, HeapOf, abstract, concrete, exact, ref, FieldOf, InnerOf, array_of}
use Rattle.wasm_types.specs.trees.Trees.{TypeTree}
use Rattle.wasm_types.specs.trees.Below.{itself, Below, expanded}
use Rattle.wasm_types.specs.trees.Matches.{InnerMatches}
use Rattle.wasm_operators_immediates.specs.declared.frames.FrameKind.{FrameKind}
use Rattle.wasm_operators_enums.specs.declared.gc.GcOperator.{GcOperator}
use Rattle.wasm_operators_enums.specs.declared.gc.GcOperator.TheVariants as gc
use Rattle.wasm_types.specs.settings.Features.{CustomDescriptors, has}
use Rattle.wasm_types.specs.trees.declared.index.UnpackedIndex.{UnpackedIndex}
use Rattle.wasm_types.specs.trees.declared.index.UnpackedIndex.TheVariants as index
use Rattle.wasm_types.specs.values.declared.heap.HeapType.{HeapType}
use Rattle.wasm_types.specs.values.Trees.{heap_of}
use Rattle.wasm_types.specs.trees.Each.{EachHeap}
use Rattle.wasm_types.specs.trees.AbstractOrder.{AbstractBelow, none_any, noextern_extern}
use Rattle.wasm_operators_enums.specs.Op as op
use Rattle.wasm_operators_enums.specs.Op.{Op, ParametricTree, ExceptionTree, ContinuationTree}
use Rattle.wasm_operators_encoding.specs.expressions.Code.{Code, IsIn}
use Rattle.wasm_operator_validator_rules.specs.Operands.{ValueType, Operand, known, OperandBelow, AllBelow, all_known, stack}
use Rattle.wasm_operator_validator_rules.specs.Context.{Context, Initialised, Frame, may_use}
use Rattle.wasm_operator_validator_rules.specs.InstructionTypes.{InstructionType, ◌⟶◌, names_data, read as place_read, read_packed, written as written_type_of, allocated, element_of, is_described, named as named_type, reference_to, i32_type}
use Rattle.wasm_operator_validator_rules.specs.Named.{used_type}
use Rattle.wasm_operator_validator_rules.specs.Aggregates.{Array, struct_named, array_named, heap_meant, heap_named, top_heap, is_castable}
use Rattle.wasm_operator_validator_rules.specs.Places.{Place, is_of_bytes, has_default, have_defaults, unpacked, field_place, element_place, operands_for}
use Rattle.wasm_operator_validator_rules.specs.Objects.{GcRow, IsCast, null_left, difference}
use Rattle.wasm_types.specs.values.Reference.{Reference}
use Rattle.wasm_operator_validator_rules.specs.Taken.{Takes, IsLabel}
use Rattle.wasm_operator_validator_soundness.specs.runs.Notes.{Notes, IsAlong}
use Rattle.wasm_operator_validator_soundness.specs.runs.Places.{IsValidBy}
use Rattle.wasm_operator_validator_soundness.specs.runs.Values.{IsObject, IsAkin, IsStandardType, Program, Value, number_value, ref_null, ref_function, ref_object, ref_i31, ref_host, ref_extern, ref_exn, is_null, bottom_under, Fits, AllFit}
use Rattle.wasm_operator_validator_soundness.specs.runs.States.{Activation, Answer}
use Rattle.wasm_operator_validator_soundness.specs.runs.States.{trapped, Move, asks, allows, found, pops}
use Rattle.wasm_operator_validator_soundness.specs.runs.Machine.{gives, copies, may_trap}
use Rattle.wasm_operator_validator_soundness.specs.runs.Machine.{goes, branch}
use Rattle.wasm_operator_validator_soundness.specs.runs.Machine.{meant_heap, fields_in, operand_of, operands_of, struct_fields, array_fields, IsWhole, IsPacked, AreStoredAlike, HaveDefaults, IsArray, IsUnboxed, IsComparable, FromData, writes, stores_from, last_of, object, object_under, read, write, make, cast, cast_top, cast_from, IsOf, null_in, convert, operate_gc}
use Rattle.wasm_operator_validator_soundness.proofs.RunsFitting.{fits_below, all_below, each_below, fits_joined, stack_more}
use Rattle.wasm_operator_validator_soundness.specs.runs.ValidStates.{AreSet, Around, around_of}
use Rattle.wasm_operator_validator_soundness.proofs.RunsInvariant.{none_is_some, some_same}
use Rattle.wasm_operator_validator_soundness.proofs.RunsInvariant.{here, IsOkay}
use Rattle.wasm_operator_validator_soundness.proofs.Options.{map_some, used_is, named_some, if_some}
use Rattle.wasm_operator_validator_soundness.proofs.Objects.{an_array, an_unboxed, comparable, akin_value, heap_alike, held_below, below_held, stored_alike, operand_is, StoredBelow, HoldsAlike, arrays_alike, operands_are, element_is, defaults_each, default_element, bytes_element, bytes_through, data_named, and_left, and_right, null_passes, null_falls, matches_along, own_field, unpacked_below, no_function, struct_is, array_is, IsPlaceOf, field_place_is, element_place_is, provided_is, read_is, read_packed_is, bottom_fits}
use Rattle.wasm_operator_validator_soundness.proofs.Combining.{done_okay, asks_okay, allows_okay, choose_okay, found_okay, pops_okay, takes_okay, gives_okay, copies_okay, may_trap_okay}
use Rattle.wasm_operator_validator_soundness.proofs.RunsLeaving.{standard_is_sound, standard_links}
use Rattle.wasm_operator_validator_soundness.proofs.Values.{heap_named_is, as_nullable, never_null, no_bottom, nullable_too}
use Rattle.wasm_operator_validator_soundness.proofs.Standing.{branch_okay, code_at, exchange_okay, goes_okay, table_of, values_at, values_over, Here}

module _ (N : Notes) (p : Program) (valid : IsValidBy N p) (final : List ValueType) (a : Answer) (act : Activation) (acts : List Activation) (h : Here N p final act acts) where
  abbrev w : Around
  w = around_of act

  abbrev g : Context
  g = here p a act acts

  abbrev f : Frame
  f = record { kind = h.kind; block = act.innermost.block; before = h.before }

  abbrev vs : List Value
  vs = act.innermost.values

  abbrev kind : FrameKind
  kind = h.kind

  abbrev before : Initialised
  before = h.before

  abbrev set : Initialised
  set = h.set

  abbrev are_set : AreSet h.set act.locals
  are_set = h.are_set

  abbrev s : List Operand
  s = h.operands

  abbrev fit : AllFit p act.innermost.values h.operands
  fit = h.fit

  abbrev Okay : Move → Type 0
  Okay m = IsOkay N p final m

  -- the instructions to come are typed, and stand where they may
  abbrev Goes : Initialised → Code → List Operand → Type 0
  Goes init more m = IsIn h.kind more × (n : N.Note) × IsAlong N h.root n × N.Holds n g f init more m

  -- ---- objects

  abbrev Holds : Type 0
  Holds = InnerOf TypeTree → Option (List (FieldOf TypeTree))

  pub object_okay : (of : Holds) (v : Value) (t : TypeTree) (ts : List (FieldOf TypeTree)) (k : List (FieldOf TypeTree) → Move) → Fits p v (ref true (concrete t)) → IsObject (expanded t)
      → of (expanded t) ≡ Some ts → HoldsAlike of
      → ((u : TypeTree) → InnerMatches (expanded u) (expanded t) → Okay (k (fields_in (expanded u)))) → Okay (object p a act acts of v k)
  object_okay of (ref_object id u) t ts k y i e alike q =
      let m = (matches_along u t (standard_links u y.0.0) y.1.1).1 in
      found_okay N p final (of (expanded u)) (fields_in (expanded u)) k (alike (expanded u) (expanded t) ts m e) (q u m)
  object_okay of (ref_null c d) t ts k y i e alike q = done_okay N p final trapped tt
  object_okay of (ref_function j u) t ts k y i e alike q = absurd (no_function u t (standard_is_sound u y.0.0) y.1.1 y.0.1 i)
  object_okay of (number_value n id) t ts k y i e alike q = absurd y.1
  object_okay of (ref_i31 id) t ts k y i e alike q = absurd (no_bottom i31 (expanded t) (y.1.1 t itself).1)
  object_okay of (ref_host id) t ts k y i e alike q = absurd (no_bottom any (expanded t) (y.1.1 t itself).1)
  object_okay of (ref_extern id) t ts k y i e alike q = absurd (no_bottom extern (expanded t) (y.1.1 t itself).1)
  object_okay of (ref_exn id u) t ts k y i e alike q = absurd (no_bottom exn (expanded t) (y.1.1 t itself).1)

  pub object_under_okay : (of : Holds) (ns : List ValueType) (x i : ℕ) (d : Place) (n : IsPlaceOf of g x i ns d) (above : List ValueType) (ws : List Value) (k : List (FieldOf TypeTree) → List Value → Move) (rest : List Operand)
      → AllFit p ws (stack (ref true (concrete n.type) ∷ above) ++ rest)
      → ((u : TypeTree) (us : List Value) → InnerMatches (expanded u) (expanded n.type) → AllFit p us rest → Okay (k (fields_in (expanded u)) us))
      → Okay (object_under p a act acts of above x ws k)
  object_under_okay of ns x i d n above ws k rest y q =
      found_okay N p final (slice_get p.«module».types x) n.type _ n.there
      (found_okay N p final (of (expanded n.type)) n.held _ n.holds
      (takes_okay N p final a (ref true (concrete n.type) ∷ above) ws rest _ y (λ us zs j l.
      may_trap_okay N p final a _ (object_okay of (last_of us) n.type n.held (λ ts. k ts zs) (bottom_fits p us (ref true (concrete n.type)) above j) n.object n.holds n.alike (λ u c. q u zs c l)))))

  pub read_okay : (stored : StorageOf TypeTree → Type 0) (of : Holds) (x i : ℕ) (ns : List ValueType) (q : Place) (more : Code) (popped pushed rest m : List Operand) → IsPlaceOf of g x i ns q → StoredBelow stored q.storage
      → popped ≡ all_known q.reached_by → pushed ≡ all_known (unpacked q.storage ∷ []) → AllBelow s (reverse popped ++ rest) → m ≡ reverse pushed ++ rest → Goes set more m
      → Okay (read p a act acts stored of ns x i more)
  read_okay stored of x i ns q more popped pushed rest m n d ep eu b e t =
      object_under_okay of ns x i q n ns vs (λ fs ws. found (slice_get fs i) (λ f'. asks (stored f'.storage) (gives p a (operand_of f'.storage ∷ []) (λ rs. goes p a act acts (rs ++ ws) more)))) rest (values_at N p valid final a act acts h _ popped rest b (ep ∙ ap (λ (z : Place). all_known z.reached_by) n.is)) (λ u us c j.
      let k = own_field u n.type i n.field c n.has_it in
      found_okay N p final (slice_get (fields_in (expanded u)) i) k.0 _ k.1
      (asks_okay N p final (stored (k.0).storage) _ (subst (λ (z : Place). StoredBelow stored z.storage) n.is d (k.0).storage k.2.1)
      (gives_okay N p final a (operand_of (k.0).storage ∷ []) _ (λ rs given.
      goes_okay N p valid final a act acts h (rs ++ us) more (known (unpacked (n.field).storage) ∷ rest)
      (fits_joined p rs us (known (unpacked (n.field).storage) ∷ []) rest
      (all_below p rs (known (operand_of (k.0).storage) ∷ []) (known (unpacked (n.field).storage) ∷ []) given (held_below (k.0).storage (n.field).storage k.2.1, tt)) j)
      (code_at N p valid final a act acts h (known (unpacked (n.field).storage) ∷ []) pushed rest m set more e (eu ∙ ap (λ (z : Place). known (unpacked z.storage) ∷ []) n.is) t)))))

  pub write_okay : (of : Holds) (x i : ℕ) (ns : List ValueType) (q : Place) (v : Value) (ws : List Value) (more : Code) (rest : List Operand) → IsPlaceOf of g x i ns q → q.mutable ≡ true
      → Fits p v (unpacked q.storage) → AllFit p ws (stack q.reached_by ++ rest) → Goes set more rest → Okay (write p a act acts of ns x i v ws more)
  write_okay of x i ns q v ws more rest n mutable y z t =
      object_under_okay of ns x i q n ns ws (λ fs us. found (slice_get fs i) (λ f'. writes f' (asks (Fits p v (operand_of f'.storage)) (goes p a act acts us more)))) rest (subst (λ (d : Place). AllFit p ws (stack d.reached_by ++ rest)) n.is z) (λ u us c j.
      let k = own_field u n.type i n.field c n.has_it in
      let own_mutable = k.2.0 ∙ ap (λ (d : Place). d.mutable) (sym n.is) ∙ mutable in
      found_okay N p final (slice_get (fields_in (expanded u)) i) k.0 _ k.1
      (asks_okay N p final (IsTrue (k.0).mutable) _ own_mutable
      (asks_okay N p final (Fits p v (operand_of (k.0).storage)) _
      (fits_below p v (known (unpacked (n.field).storage)) (known (operand_of (k.0).storage)) (subst (λ (d : Place). Fits p v (unpacked d.storage)) n.is y)
      (below_held (n.field).storage (k.0).storage (k.2.2 own_mutable))) (goes_okay N p valid final a act acts h us more rest j t))))

  -- a field is read by an operator that the table has for a place
  pub place_read_okay : (stored : StorageOf TypeTree → Type 0) (of : Holds) (o : Option Place) (k : Place → Option InstructionType) (x i : ℕ) (ns : List ValueType) (more : Code) (popped pushed rest m : List Operand)
      → ((q : Place) → o ≡ Some q → IsPlaceOf of g x i ns q) → ((q : Place) (u : InstructionType) → k q ≡ Some u → ((q.reached_by ⟶ unpacked q.storage ∷ []) ≡ u) × StoredBelow stored q.storage)
      → (u : InstructionType) → named_type o k ≡ Some u → Takes u.takes u.gives popped pushed
      → AllBelow s (reverse popped ++ rest) → m ≡ reverse pushed ++ rest → Goes set more m → Okay (read p a act acts stored of ns x i more)
  place_read_okay stored of o k x i ns more popped pushed rest m is alike u q r b e t =
      let n = named_some o k u q in
      let d = alike n.0 u n.2 in
      read_okay stored of x i ns n.0 more popped pushed rest m (is n.0 n.1) d.1 (r.0 ∙ ap (λ (y : InstructionType). all_known y.takes) (sym d.0)) (r.1 ∙ ap (λ (y : InstructionType). all_known y.gives) (sym d.0)) b e t

  pub place_write_okay : (of : Holds) (o : Option Place) (x i : ℕ) (ns : List ValueType) (more : Code) (popped pushed rest m : List Operand) → ((q : Place) → o ≡ Some q → IsPlaceOf of g x i ns q)
      → (u : InstructionType) → named_type o written_type_of ≡ Some u → Takes u.takes u.gives popped pushed
      → AllBelow s (reverse popped ++ rest) → m ≡ reverse pushed ++ rest → Goes set more m → Okay (pops vs (λ v ws. write p a act acts of ns x i v ws more))
  place_write_okay of o x i ns more popped pushed rest m is u z r b e t =
      let n = named_some o written_type_of u z in
      let q : Place = n.0 in
      let c = provided_is q.mutable ((q.reached_by ++ unpacked q.storage ∷ []) ⟶ []) u n.2 in
      let y = values_over N p valid final a act acts h q.reached_by (unpacked q.storage) rest (values_at N p valid final a act acts h _ popped rest b (r.0 ∙ ap (λ (y' : InstructionType). all_known y'.takes) (sym c.1))) in
      pops_okay N p final vs (known (unpacked q.storage)) (stack q.reached_by ++ rest) _ y (λ v ws i' j.
      write_okay of x i ns q v ws more rest (is q n.1) c.0 i' j (code_at N p valid final a act acts h [] pushed rest m set more e (r.1 ∙ ap (λ (y' : InstructionType). all_known y'.gives) (sym c.1)) t))

  -- an object of a type is of what an allocation gives
  pub made_of : (b : Bool) (t : TypeTree) → IsStandardType t → IsObject (expanded t) → Fits p (ref_object a.made t) (ref false (if b then exact t else concrete t))
  made_of true t i o = ((i, o), (tt, refl))
  made_of false t i o = ((i, o), (tt, itself))

  pub make_okay : (of : Holds) (x : ℕ) (t : TypeTree) (own : List (FieldOf TypeTree)) (needs : List (FieldOf TypeTree) → List ValueType) (further : List (FieldOf TypeTree) → Move → Move) (ts : List ValueType) (more : Code) (popped pushed rest m : List Operand)
      → slice_get p.«module».types x ≡ Some t → IsObject (expanded t) → of (expanded t) ≡ Some own → needs own ≡ ts → ((n : Move) → Okay n → Okay (further own n))
      → popped ≡ all_known ts → pushed ≡ all_known (allocated g t ∷ [])
      → AllBelow s (reverse popped ++ rest) → m ≡ reverse pushed ++ rest → Goes set more m → Okay (make p a act acts of x needs further more)
  make_okay of x t own needs further ts more popped pushed rest m e i q c k ep eu b d y =
      found_okay N p final (slice_get p.«module».types x) t _ e
      (found_okay N p final (of (expanded t)) own _ q
      (takes_okay N p final a (needs own) vs rest _ (values_at N p valid final a act acts h _ popped rest b (ep ∙ ap all_known (sym c))) (λ xs zs j l.
      k _ (goes_okay N p valid final a act acts h (ref_object a.made t ∷ zs) more (known (allocated g t) ∷ rest) (made_of (has CustomDescriptors p.bits) t (valid.types x t e) i, l)
      (code_at N p valid final a act acts h (known (allocated g t) ∷ []) pushed rest m set more d eu y)))))

  -- ---- casts

  pub castable_heap : (q : HeapOf UnpackedIndex) (k : HeapOf TypeTree) → heap_meant g q ≡ Some k → EachHeap IsStandardType k
  castable_heap (abstract c h') k e = subst (λ (j : HeapOf TypeTree). EachHeap IsStandardType j) (if_some (may_use g c) (abstract c h') k e) tt
  castable_heap (concrete (index.Module n)) k e =
      let r = map_some (λ (t : TypeTree). concrete t) (used_type g n) k e in subst (λ (j : HeapOf TypeTree). EachHeap IsStandardType j) r.2 (valid.types n r.0 (used_is g n r.0 r.1))
  castable_heap (concrete (index.RecGroup n)) k e = absurd (none_is_some k e)
  castable_heap (concrete (index.Id n)) k e = absurd (none_is_some k e)
  castable_heap (exact (index.Module n)) k e =
      let r = map_some (λ (t : TypeTree). exact t) (used_type g n) k e in subst (λ (j : HeapOf TypeTree). EachHeap IsStandardType j) r.2 (valid.types n r.0 (used_is g n r.0 r.1))
  castable_heap (exact (index.RecGroup n)) k e = absurd (none_is_some k e)
  castable_heap (exact (index.Id n)) k e = absurd (none_is_some k e)

  pub left_whole : (c n : Bool) (v : Value) (h' : HeapOf TypeTree) → n ≡ false → Fits p v (ref c h') → Fits p v (ref (null_left c n) h')
  left_whole c true v h' e y = absurd (true≢false e)
  left_whole c false v h' e y = y

  pub left_rest : (c n : Bool) (v : Value) (h' : HeapOf TypeTree) → is_null v ≡ false → Fits p v (ref c h') → Fits p v (ref (null_left c n) h')
  left_rest c true v h' e y = never_null p v c h' e y
  left_rest c false v h' e y = y

  -- a value that is no null
  pub other_cast : (n : Bool) (k h' : HeapOf TypeTree) (c : Bool) (v : Value) (q : Bool → Move) → is_null v ≡ false → Fits p v (ref c h')
      → ((b : Bool) → (b ≡ true → Fits p v (ref n k)) → (b ≡ false → Fits p v (ref (null_left c n) h')) → Okay (q b)) → Okay (cast p a act acts n k v q)
  other_cast n k h' c v q e y z =
      subst (λ (b : Bool). Okay (allows (IsTrue (a.condition && not b) → Fits p v (ref false k)) (q (if b then n else a.condition)))) (sym e)
      (allows_okay N p final _ _ (λ given. z a.condition (λ d. nullable_too p v n k (given (subst (λ (b : Bool). IsTrue (b && true)) (sym d) refl))) (λ d. left_rest c n v h' e y)))

  -- what passes is of the type, and what does not is what it was, without null where the type has it
  pub cast_okay : (n : Bool) (k h' : HeapOf TypeTree) (c : Bool) (v : Value) (q : Bool → Move) → EachHeap IsStandardType k → Fits p v (ref c h')
      → ((r : Bool) (u : Abstract) → Fits p (ref_null r u) (ref c h') → Fits p (ref_null r u) (ref true k))
      → ((b : Bool) → (b ≡ true → Fits p v (ref n k)) → (b ≡ false → Fits p v (ref (null_left c n) h')) → Okay (q b)) → Okay (cast p a act acts n k v q)
  cast_okay n k h' c (ref_null r u) q i y falls z =
      allows_okay N p final _ _ (λ given. z n (λ e. subst (λ (b : Bool). Fits p (ref_null r u) (ref b k)) (sym e) (falls r u y)) (λ e. left_whole c n (ref_null r u) h' e y))
  cast_okay n k h' c (number_value m id) q i y falls z = absurd y.1
  cast_okay n k h' c (ref_function j t) q i y falls z = other_cast n k h' c (ref_function j t) q refl y z
  cast_okay n k h' c (ref_object id t) q i y falls z = other_cast n k h' c (ref_object id t) q refl y z
  cast_okay n k h' c (ref_i31 id) q i y falls z = other_cast n k h' c (ref_i31 id) q refl y z
  cast_okay n k h' c (ref_host id) q i y falls z = other_cast n k h' c (ref_host id) q refl y z
  cast_okay n k h' c (ref_extern id) q i y falls z = other_cast n k h' c (ref_extern id) q refl y z
  cast_okay n k h' c (ref_exn id t) q i y falls z = other_cast n k h' c (ref_exn id t) q refl y z

  pub cast_top_okay : (n : Bool) (x : HeapType) (k : HeapOf TypeTree) (q : Bool → Value → List Value → Move) (rest : List Operand) → heap_named g x ≡ Some k
      → AllFit p vs (known (ref true (top_heap k)) ∷ rest) → ((b : Bool) (v : Value) (ws : List Value) → (b ≡ true → Fits p v (ref n k)) → AllFit p ws rest → Okay (q b v ws))
      → Okay (cast_top p a act acts n x q)
  cast_top_okay n x k q rest e y z =
      let i = castable_heap (heap_of x) k e in
      found_okay N p final (meant_heap p.«module» x) k _ (heap_named_is g (heap_of x) k e)
      (pops_okay N p final vs (known (ref true (top_heap k))) rest _ y (λ v ws j l.
      asks_okay N p final _ _ (j.0, akin_value p v k j)
      (cast_okay n k (top_heap k) true v (λ b. q b v ws) i j (λ r u f'. null_passes p r u k i f') (λ b t f'. z b v ws t l))))

  pub cast_from_okay : (from to : Reference) (h' k : HeapOf TypeTree) (q : Bool → Value → List Value → Move) (rest : List Operand) → IsCast g from to h' k
      → AllFit p vs (known (ref from.nullable h') ∷ rest)
      → ((b : Bool) (v : Value) (ws : List Value) → (b ≡ true → Fits p v (ref to.nullable k)) → (b ≡ false → Fits p v (difference from to h')) → AllFit p ws rest → Okay (q b v ws))
      → Okay (cast_from p a act acts from to q)
  cast_from_okay from to h' k q rest n y z =
      let i = castable_heap (heap_of to.heap) k n.to_named in
      found_okay N p final (meant_heap p.«module» from.heap) h' _ (heap_named_is g (heap_of from.heap) h' n.from_named)
      (found_okay N p final (meant_heap p.«module» to.heap) k _ (heap_named_is g (heap_of to.heap) k n.to_named)
      (pops_okay N p final vs (known (ref from.nullable h')) rest _ y (λ v ws j l.
      asks_okay N p final (Fits p v (ref from.nullable h') × IsAkin (ref from.nullable h') k) _ (j, let d = heap_alike k h' i (n.below).1 in (sym d.0, sym d.1))
      (cast_okay to.nullable k h' from.nullable v (λ b. q b v ws) i j (λ r u f'. null_falls p r u from.nullable k h' i (n.below).1 f') (λ b t f'. z b v ws t f' l)))))

  -- ---- conversions

  pub converted_null : (v : Value) (h' k : Abstract) (c n : Bool) → AbstractBelow (bottom_under k) k → is_null v ≡ true → Fits p v (ref n (abstract c h')) → Fits p (null_in p a act acts k v) (ref n (abstract c k))
  converted_null (ref_null r u) h' k c n d e y = (tt, (y.1.0, (y.1.1.0, d)))
  converted_null (number_value m id) h' k c n d e y = absurd (true≢false (sym e))
  converted_null (ref_function j t) h' k c n d e y = absurd (true≢false (sym e))
  converted_null (ref_object id t) h' k c n d e y = absurd (true≢false (sym e))
  converted_null (ref_i31 id) h' k c n d e y = absurd (true≢false (sym e))
  converted_null (ref_host id) h' k c n d e y = absurd (true≢false (sym e))
  converted_null (ref_extern id) h' k c n d e y = absurd (true≢false (sym e))
  converted_null (ref_exn id t) h' k c n d e y = absurd (true≢false (sym e))

  pub all_nullable : (us : List Value) (n : Bool) (k : HeapOf TypeTree) → AllFit p us (known (ref false k) ∷ []) → AllFit p us (known (ref n k) ∷ [])
  all_nullable [] n k y = absurd y
  all_nullable (v ∷ us) n k y = (nullable_too p v n k y.0, y.1)

  pub convert_okay : (h' k : Abstract) (c n : Bool) (more : Code) (rest : List Operand) → AbstractBelow (bottom_under k) k → AllFit p vs (known (ref n (abstract c h')) ∷ rest)
      → Goes set more (known (ref n (abstract c k)) ∷ rest) → Okay (convert p a act acts h' k more)
  convert_okay h' k c n more rest d y t = pops_okay N p final vs (known (ref n (abstract c h'))) rest _ y (λ v ws i j.
      asks_okay N p final (IsOf p a act acts h' v) _ (c, as_nullable p v n (abstract c h') i)
      (choose_okay N p final (is_null v) _ _ (λ e. goes_okay N p valid final a act acts h (null_in p a act acts k v ∷ ws) more (known (ref n (abstract c k)) ∷ rest) (converted_null v h' k c n d e i, j) t)
      (λ e. allows_okay N p final _ _ (λ given.
      goes_okay N p valid final a act acts h (a.values ++ ws) more (known (ref n (abstract c k)) ∷ rest)
      (fits_joined p a.values ws (known (ref n (abstract c k)) ∷ []) rest (all_nullable a.values n (abstract c k) (given c (as_nullable p v n (abstract c h') i))) j) t))))

  -- an operator that asks a reference below an abstract type, and gives a number
  pub tested_okay : (h' : Abstract) (is : Value → Type 0) → ((v : Value) (c : Bool) → Fits p v (ref true (abstract c h')) → is v) → (c : Bool) (more : Code) (rest : List Operand)
      → AllFit p vs (known (ref true (abstract c h')) ∷ rest) → Goes set more (known i32_type ∷ rest)
      → Okay (pops vs (λ v ws. asks (IsOf p a act acts h' v × is v) (may_trap p a (goes p a act acts (number_value i32 a.made ∷ ws) more))))
  tested_okay h' is such c more rest y t = pops_okay N p final vs (known (ref true (abstract c h'))) rest _ y (λ v ws i j.
      asks_okay N p final (IsOf p a act acts h' v × is v) _ ((c, i), such v c i) (may_trap_okay N p final a _ (goes_okay N p valid final a act acts h (number_value i32 a.made ∷ ws) more (known i32_type ∷ rest) ((tt, refl), j) t)))

  -- ---- structs and arrays

  abbrev pub array_place : (x : ℕ) (s' : Array) → array_named g x ≡ Some s'
      → IsPlaceOf array_fields g x 0 (i32_type ∷ []) (record { reached_by = ref true (concrete s'.type) ∷ i32_type ∷ []; storage = s'.element.storage; mutable = s'.element.mutable })
  array_place x s' e =
      let n = array_is g x s' e in
      record {
        type = s'.type;
        field = s'.element;
        there = n.there;
        object = subst IsObject (sym n.inner) tt;
        held = s'.element ∷ [];
        holds = ap array_fields n.inner;
        alike = arrays_alike;
        has_it = ap (λ (k : InnerOf TypeTree). slice_get (fields_in k) 0) n.inner;
        is = refl;
      }

  -- bytes of a data segment are read as an element, also as that of an array below
  pub from_data : (s' : Array) (d : ℕ) → (is_of_bytes s'.element.storage && names_data p.«module».data_count d) ≡ true → FromData p a act acts d (s'.element ∷ [])
  from_data s' d e = (bytes_element s'.element (and_left _ _ e), data_named p.«module».data_count d (and_right (is_of_bytes s'.element.storage) _ e))

  pub data_through : (s' : Array) (d : ℕ) (u : TypeTree) → expanded s'.type ≡ array_of s'.element → InnerMatches (expanded u) (expanded s'.type)
      → (is_of_bytes s'.element.storage && names_data p.«module».data_count d) ≡ true → FromData p a act acts d (fields_in (expanded u))
  data_through s' d u i m e =
      (bytes_through (expanded u) s'.element (subst (λ (q : InnerOf TypeTree). InnerMatches (expanded u) q) i m) (and_left _ _ e), data_named p.«module».data_count d (and_right (is_of_bytes s'.element.storage) _ e))

  -- a branch that takes a reference which was cast
  pub cast_branch_okay : (n : ℕ) (ts : List ValueType) (u : ValueType) (v : Value) (ws : List Value) (taken : ValueType) (rest : List Operand) → IsLabel g n (ts ++ u ∷ []) → Below taken u
      → Fits p v taken → AllFit p ws (stack ts ++ rest) → Okay (branch p a act acts n (v ∷ ws))
  cast_branch_okay n ts u v ws taken rest e b i y =
      branch_okay N p valid final a act acts h n (ts ++ u ∷ []) (v ∷ ws) rest e
      (subst (λ (l : List Operand). AllFit p (v ∷ ws) (l ++ rest)) (sym (stack_more ts u)) (fits_below p v (known taken) (known u) i b, y))

  pub gc_okay : (o : GcOperator) (more : Code) (popped pushed rest m : List Operand) → GcRow g o popped pushed
      → AllBelow s (reverse popped ++ rest) → m ≡ reverse pushed ++ rest → Goes set more m → Okay (operate_gc p a act acts o more)
  gc_okay gc.RefEq more popped pushed rest m r b e t =
      let y = values_at N p valid final a act acts h (known (ref true (abstract r.0 eq)) ∷ known (ref true (abstract r.0 eq)) ∷ []) popped rest b r.1.0 in
      pops_okay N p final vs (known (ref true (abstract r.0 eq))) (known (ref true (abstract r.0 eq)) ∷ rest) _ y (λ v ws i j.
      pops_okay N p final ws (known (ref true (abstract r.0 eq))) rest _ j (λ x us k l.
      asks_okay N p final ((IsOf p a act acts eq v × IsComparable v) × (IsOf p a act acts eq x × IsComparable x)) _ (((r.0, i), comparable p v r.0 i), ((r.0, k), comparable p x r.0 k))
      (goes_okay N p valid final a act acts h (number_value i32 a.made ∷ us) more (known i32_type ∷ rest) ((tt, refl), l) (code_at N p valid final a act acts h (known i32_type ∷ []) pushed rest m set more e r.1.1 t))))
  gc_okay gc.ArrayLen more popped pushed rest m r b e t =
      tested_okay array IsArray (λ v c i. an_array p v c i) r.0 more rest (values_at N p valid final a act acts h (known (ref true (abstract r.0 array)) ∷ []) popped rest b r.1.0) (code_at N p valid final a act acts h (known i32_type ∷ []) pushed rest m set more e r.1.1 t)
  gc_okay gc.I31GetS more popped pushed rest m r b e t =
      tested_okay i31 IsUnboxed (λ v c i. an_unboxed p v c i) r.0 more rest (values_at N p valid final a act acts h (known (ref true (abstract r.0 i31)) ∷ []) popped rest b r.1.0) (code_at N p valid final a act acts h (known i32_type ∷ []) pushed rest m set more e r.1.1 t)
  gc_okay gc.I31GetU more popped pushed rest m r b e t =
      tested_okay i31 IsUnboxed (λ v c i. an_unboxed p v c i) r.0 more rest (values_at N p valid final a act acts h (known (ref true (abstract r.0 i31)) ∷ []) popped rest b r.1.0) (code_at N p valid final a act acts h (known i32_type ∷ []) pushed rest m set more e r.1.1 t)
  gc_okay gc.AnyConvertExtern more popped pushed rest m r b e t =
      convert_okay extern any r.1 r.0 more rest none_any (values_at N p valid final a act acts h (known (ref r.0 (abstract r.1 extern)) ∷ []) popped rest b r.2.0) (code_at N p valid final a act acts h (known (ref r.0 (abstract r.1 any)) ∷ []) pushed rest m set more e r.2.1 t)
  gc_okay gc.ExternConvertAny more popped pushed rest m r b e t =
      convert_okay any extern r.1 r.0 more rest noextern_extern (values_at N p valid final a act acts h (known (ref r.0 (abstract r.1 any)) ∷ []) popped rest b r.2.0) (code_at N p valid final a act acts h (known (ref r.0 (abstract r.1 extern)) ∷ []) pushed rest m set more e r.2.1 t)
  gc_okay gc.RefI31 more popped pushed rest m r b e t =
      let c = table_of N p valid final a act acts h (op.Gc gc.RefI31) _ popped pushed refl r in
      exchange_okay N p valid final a act acts h (i32_type ∷ []) (ref false (abstract false i31) ∷ []) more rest (values_at N p valid final a act acts h (known i32_type ∷ []) popped rest b c.0) (code_at N p valid final a act acts h (known (ref false (abstract false i31)) ∷ []) pushed rest m set more e c.1 t)
  gc_okay (gc.StructGet x i) more popped pushed rest m r b e t =
      place_read_okay IsWhole struct_fields (field_place g x i) place_read x i [] more popped pushed rest m (λ q k. field_place_is g x i q k) (λ q u k. read_is q u k) r.0 r.1 r.2 b e t
  gc_okay (gc.StructGetS x i) more popped pushed rest m r b e t =
      place_read_okay IsPacked struct_fields (field_place g x i) read_packed x i [] more popped pushed rest m (λ q k. field_place_is g x i q k) (λ q u k. read_packed_is q u k) r.0 r.1 r.2 b e t
  gc_okay (gc.StructGetU x i) more popped pushed rest m r b e t =
      place_read_okay IsPacked struct_fields (field_place g x i) read_packed x i [] more popped pushed rest m (λ q k. field_place_is g x i q k) (λ q u k. read_packed_is q u k) r.0 r.1 r.2 b e t
  gc_okay (gc.ArrayGet x) more popped pushed rest m r b e t =
      place_read_okay IsWhole array_fields (element_place g x) place_read x 0 (i32_type ∷ []) more popped pushed rest m (λ q k. element_place_is g x q k) (λ q u k. read_is q u k) r.0 r.1 r.2 b e t
  gc_okay (gc.ArrayGetS x) more popped pushed rest m r b e t =
      place_read_okay IsPacked array_fields (element_place g x) read_packed x 0 (i32_type ∷ []) more popped pushed rest m (λ q k. element_place_is g x q k) (λ q u k. read_packed_is q u k) r.0 r.1 r.2 b e t
  gc_okay (gc.ArrayGetU x) more popped pushed rest m r b e t =
      place_read_okay IsPacked array_fields (element_place g x) read_packed x 0 (i32_type ∷ []) more popped pushed rest m (λ q k. element_place_is g x q k) (λ q u k. read_packed_is q u k) r.0 r.1 r.2 b e t
  gc_okay (gc.StructSet x i) more popped pushed rest m r b e t =
      place_write_okay struct_fields (field_place g x i) x i [] more popped pushed rest m (λ q k. field_place_is g x i q k) r.0 r.1 r.2 b e t
  gc_okay (gc.ArraySet x) more popped pushed rest m r b e t =
      place_write_okay array_fields (element_place g x) x 0 (i32_type ∷ []) more popped pushed rest m (λ q k. element_place_is g x q k) r.0 r.1 r.2 b e t
  gc_okay (gc.RefTestNonNull x) more popped pushed rest m r b e t =
      let n = named_some (heap_named g x) _ r.0 r.1 in
      let c = provided_is (is_castable n.0) _ r.0 n.2 in
      let y = values_at N p valid final a act acts h _ popped rest b (r.2.0 ∙ ap (λ (z : InstructionType). all_known z.takes) (sym c.1)) in
      let k = code_at N p valid final a act acts h _ pushed rest m set more e (r.2.1 ∙ ap (λ (z : InstructionType). all_known z.gives) (sym c.1)) t in
      cast_top_okay false x n.0 _ rest n.1 y (λ d v ws i j. goes_okay N p valid final a act acts h (number_value i32 a.made ∷ ws) more (known i32_type ∷ rest) ((tt, refl), j) k)
  gc_okay (gc.RefTestNullable x) more popped pushed rest m r b e t =
      let n = named_some (heap_named g x) _ r.0 r.1 in
      let c = provided_is (is_castable n.0) _ r.0 n.2 in
      let y = values_at N p valid final a act acts h _ popped rest b (r.2.0 ∙ ap (λ (z : InstructionType). all_known z.takes) (sym c.1)) in
      let k = code_at N p valid final a act acts h _ pushed rest m set more e (r.2.1 ∙ ap (λ (z : InstructionType). all_known z.gives) (sym c.1)) t in
      cast_top_okay true x n.0 _ rest n.1 y (λ d v ws i j. goes_okay N p valid final a act acts h (number_value i32 a.made ∷ ws) more (known i32_type ∷ rest) ((tt, refl), j) k)
  gc_okay (gc.RefCastNonNull x) more popped pushed rest m r b e t =
      let n = named_some (heap_named g x) _ r.0 r.1 in
      let c = provided_is (is_castable n.0) _ r.0 n.2 in
      let y = values_at N p valid final a act acts h _ popped rest b (r.2.0 ∙ ap (λ (z : InstructionType). all_known z.takes) (sym c.1)) in
      let k = code_at N p valid final a act acts h _ pushed rest m set more e (r.2.1 ∙ ap (λ (z : InstructionType). all_known z.gives) (sym c.1)) t in
      cast_top_okay false x n.0 _ rest n.1 y (λ d v ws i j. choose_okay N p final d _ _ (λ l. goes_okay N p valid final a act acts h (v ∷ ws) more (known (ref false n.0) ∷ rest) (i l, j) k) (λ l. done_okay N p final trapped tt))
  gc_okay (gc.RefCastNullable x) more popped pushed rest m r b e t =
      let n = named_some (heap_named g x) _ r.0 r.1 in
      let c = provided_is (is_castable n.0) _ r.0 n.2 in
      let y = values_at N p valid final a act acts h _ popped rest b (r.2.0 ∙ ap (λ (z : InstructionType). all_known z.takes) (sym c.1)) in
      let k = code_at N p valid final a act acts h _ pushed rest m set more e (r.2.1 ∙ ap (λ (z : InstructionType). all_known z.gives) (sym c.1)) t in
      cast_top_okay true x n.0 _ rest n.1 y (λ d v ws i j. choose_okay N p final d _ _ (λ l. goes_okay N p valid final a act acts h (v ∷ ws) more (known (ref true n.0) ∷ rest) (i l, j) k) (λ l. done_okay N p final trapped tt))
  gc_okay (gc.StructNew x) more popped pushed rest m r b e t =
      let n = named_some (struct_named g x) _ r.0 r.1 in
      let c = provided_is (not (is_described n.0)) (operands_for (n.0).fields ⟶ allocated g (n.0).type ∷ []) r.0 n.2 in
      let i = struct_is g x n.0 n.1 in
      make_okay struct_fields x (n.0).type (n.0).fields (λ u. operands_of u) (λ u d. d) (operands_for (n.0).fields) more popped pushed rest m i.there (subst IsObject (sym i.inner) tt) (ap struct_fields i.inner) (operands_are (n.0).fields) (λ d y. y)
      (r.2.0 ∙ ap (λ (z : InstructionType). all_known z.takes) (sym c.1)) (r.2.1 ∙ ap (λ (z : InstructionType). all_known z.gives) (sym c.1)) b e t
  gc_okay (gc.StructNewDefault x) more popped pushed rest m r b e t =
      let n = named_some (struct_named g x) _ r.0 r.1 in
      let c = provided_is (not (is_described n.0) && have_defaults (n.0).fields) ([] ⟶ allocated g (n.0).type ∷ []) r.0 n.2 in
      let i = struct_is g x n.0 n.1 in
      make_okay struct_fields x (n.0).type (n.0).fields (λ u. []) (λ u d. asks (HaveDefaults u) d) [] more popped pushed rest m i.there (subst IsObject (sym i.inner) tt) (ap struct_fields i.inner) refl
      (λ d y. asks_okay N p final (HaveDefaults (n.0).fields) d (defaults_each (n.0).fields (and_right (not (is_described n.0)) (have_defaults (n.0).fields) c.0)) y)
      (r.2.0 ∙ ap (λ (z : InstructionType). all_known z.takes) (sym c.1)) (r.2.1 ∙ ap (λ (z : InstructionType). all_known z.gives) (sym c.1)) b e t
  gc_okay (gc.ArrayNew x) more popped pushed rest m r b e t =
      let n = named_some (array_named g x) _ r.0 r.1 in
      let c : (element_of n.0 ∷ i32_type ∷ [] ⟶ allocated g (n.0).type ∷ []) ≡ r.0 = some_same _ r.0 n.2 in
      let i = array_is g x n.0 n.1 in
      make_okay array_fields x (n.0).type ((n.0).element ∷ []) (λ u. operands_of u ++ i32_type ∷ []) (λ u d. d) (element_of n.0 ∷ i32_type ∷ []) more popped pushed rest m i.there (subst IsObject (sym i.inner) tt) (ap array_fields i.inner)
      (ap (λ (l : List ValueType). l ++ i32_type ∷ []) (element_is (n.0).element)) (λ d y. y)
      (r.2.0 ∙ ap (λ (z : InstructionType). all_known z.takes) (sym c)) (r.2.1 ∙ ap (λ (z : InstructionType). all_known z.gives) (sym c)) b e t
  gc_okay (gc.ArrayNewDefault x) more popped pushed rest m r b e t =
      let n = named_some (array_named g x) _ r.0 r.1 in
      let c = provided_is (has_default (n.0).element) (i32_type ∷ [] ⟶ allocated g (n.0).type ∷ []) r.0 n.2 in
      let i = array_is g x n.0 n.1 in
      make_okay array_fields x (n.0).type ((n.0).element ∷ []) (λ u. i32_type ∷ []) (λ u d. asks (HaveDefaults u) d) (i32_type ∷ []) more popped pushed rest m i.there (subst IsObject (sym i.inner) tt) (ap array_fields i.inner) refl
      (λ d y. asks_okay N p final (HaveDefaults ((n.0).element ∷ [])) d (default_element (n.0).element c.0) y)
      (r.2.0 ∙ ap (λ (z : InstructionType). all_known z.takes) (sym c.1)) (r.2.1 ∙ ap (λ (z : InstructionType). all_known z.gives) (sym c.1)) b e t
  gc_okay (gc.ArrayNewFixed x k) more popped pushed rest m r b e t =
      let n = named_some (array_named g x) _ r.0 r.1 in
      let c : (replicate k (element_of n.0) ⟶ allocated g (n.0).type ∷ []) ≡ r.0 = some_same _ r.0 n.2 in
      let i = array_is g x n.0 n.1 in
      make_okay array_fields x (n.0).type ((n.0).element ∷ []) (λ u. flat_map (λ (v : ValueType). replicate k v) (operands_of u)) (λ u d. d) (replicate k (element_of n.0)) more popped pushed rest m i.there (subst IsObject (sym i.inner) tt) (ap array_fields i.inner)
      (ap (λ (l : List ValueType). flat_map (λ (v : ValueType). replicate k v) l) (element_is (n.0).element) ∙ append-nil (replicate k (element_of n.0))) (λ d y. y)
      (r.2.0 ∙ ap (λ (z : InstructionType). all_known z.takes) (sym c)) (r.2.1 ∙ ap (λ (z : InstructionType). all_known z.gives) (sym c)) b e t
  gc_okay (gc.ArrayNewData x d') more popped pushed rest m r b e t =
      let n = named_some (array_named g x) _ r.0 r.1 in
      let c = provided_is _ (i32_type ∷ i32_type ∷ [] ⟶ allocated g (n.0).type ∷ []) r.0 n.2 in
      let i = array_is g x n.0 n.1 in
      make_okay array_fields x (n.0).type ((n.0).element ∷ []) (λ u. i32_type ∷ i32_type ∷ []) (λ u d. asks (FromData p a act acts d' u) (may_trap p a d)) (i32_type ∷ i32_type ∷ []) more popped pushed rest m i.there (subst IsObject (sym i.inner) tt) (ap array_fields i.inner) refl
      (λ d y. asks_okay N p final _ _ (from_data n.0 d' c.0) (may_trap_okay N p final a d y))
      (r.2.0 ∙ ap (λ (z : InstructionType). all_known z.takes) (sym c.1)) (r.2.1 ∙ ap (λ (z : InstructionType). all_known z.gives) (sym c.1)) b e t
  gc_okay (gc.ArrayNewElem x k) more popped pushed rest m r b e t =
      let i = array_is g x r.0 r.1 in
      let held = r.2 in
      make_okay array_fields x (r.0).type ((r.0).element ∷ []) (λ u. i32_type ∷ i32_type ∷ []) (λ u d. may_trap p a (stores_from p a act acts k u (λ f' n'. n') d)) (i32_type ∷ i32_type ∷ []) more popped pushed rest m i.there (subst IsObject (sym i.inner) tt) (ap array_fields i.inner) refl
      (λ d y. may_trap_okay N p final a _
      (found_okay N p final (slice_get p.«module».elements k) held.0 _ held.2
      (copies_okay N p final a held.0 (operand_of (r.0).element.storage) d (λ q. each_below p a.values held.0 (operand_of (r.0).element.storage) q
      (subst (λ (z : ValueType). OperandBelow (known held.0) (known z)) (sym (operand_is (r.0).element.storage ∙ ap (λ (z : StorageOf TypeTree). unpacked z) held.3)) held.4)) y)))
      r.3.0 r.3.1 b e t
  gc_okay (gc.ArrayFill x) more popped pushed rest m r b e t =
      let n = named_some (array_named g x) _ r.0 r.1 in
      let c = provided_is (n.0).element.mutable (reference_to (n.0).type ∷ i32_type ∷ element_of n.0 ∷ i32_type ∷ [] ⟶ []) r.0 n.2 in
      let y = values_at N p valid final a act acts h (all_known (reference_to (n.0).type ∷ i32_type ∷ element_of n.0 ∷ i32_type ∷ [])) popped rest b (r.2.0 ∙ ap (λ (z : InstructionType). all_known z.takes) (sym c.1)) in
      pops_okay N p final vs (known i32_type) (known (element_of n.0) ∷ (stack (reference_to (n.0).type ∷ i32_type ∷ []) ++ rest)) _ y (λ k ws i j.
      asks_okay N p final (Fits p k i32_type) _ i
      (pops_okay N p final ws (known (element_of n.0)) (stack (reference_to (n.0).type ∷ i32_type ∷ []) ++ rest) _ j (λ v us d l.
      write_okay array_fields x 0 (i32_type ∷ []) _ v us more rest (array_place x n.0 n.1) c.0 d l (code_at N p valid final a act acts h [] pushed rest m set more e (r.2.1 ∙ ap (λ (z : InstructionType). all_known z.gives) (sym c.1)) t))))
  gc_okay (gc.ArrayCopy x y') more popped pushed rest m r b e t =
      let d = array_place x r.0 r.2 in
      let c = array_place y' r.1 r.3 in
      let y = values_at N p valid final a act acts h (all_known (reference_to (r.0).type ∷ i32_type ∷ reference_to (r.1).type ∷ i32_type ∷ i32_type ∷ [])) popped rest b r.6.0 in
      object_under_okay array_fields (i32_type ∷ []) y' 0 _ c (i32_type ∷ i32_type ∷ []) vs (λ ss ws. object_under p a act acts array_fields (i32_type ∷ []) x ws (λ fs us. found (slice_get ss 0) (λ s'. found (slice_get fs 0) (λ f'. writes f' (asks (AreStoredAlike s'.storage f'.storage) (copies p a (operand_of s'.storage) (operand_of f'.storage) (goes p a act acts us more))))))) (stack (reference_to d.type ∷ i32_type ∷ []) ++ rest) y (λ u ws i j.
      object_under_okay array_fields (i32_type ∷ []) x 0 _ d (i32_type ∷ []) ws (λ fs us. found (slice_get (fields_in (expanded u)) 0) (λ s'. found (slice_get fs 0) (λ f'. writes f' (asks (AreStoredAlike s'.storage f'.storage) (copies p a (operand_of s'.storage) (operand_of f'.storage) (goes p a act acts us more)))))) rest j (λ z us k l.
      let from = own_field u c.type 0 c.field i c.has_it in
      let to = own_field z d.type 0 d.field k d.has_it in
      let own_mutable = to.2.0 ∙ r.4 in
      found_okay N p final (slice_get (fields_in (expanded u)) 0) from.0 _ from.1
      (found_okay N p final (slice_get (fields_in (expanded z)) 0) to.0 _ to.1
      (asks_okay N p final (IsTrue (to.0).mutable) _ own_mutable
      (asks_okay N p final (AreStoredAlike (from.0).storage (to.0).storage) _ (stored_alike (from.0).storage (r.1).element.storage from.2.1 ∙ stored_alike (r.1).element.storage (r.0).element.storage r.5 ∙ stored_alike (r.0).element.storage (to.0).storage (to.2.2 own_mutable))
      (copies_okay N p final a (operand_of (from.0).storage) (operand_of (to.0).storage) _
      (λ q. each_below p a.values (unpacked (d.field).storage) (operand_of (to.0).storage)
      (each_below p a.values (unpacked (c.field).storage) (unpacked (d.field).storage)
      (each_below p a.values (operand_of (from.0).storage) (unpacked (c.field).storage) q (held_below (from.0).storage (c.field).storage from.2.1)) (unpacked_below (r.1).element.storage (r.0).element.storage r.5))
      (below_held (d.field).storage (to.0).storage (to.2.2 own_mutable))) (goes_okay N p valid final a act acts h us more rest l (code_at N p valid final a act acts h [] pushed rest m set more e r.6.1 t))))))))
  gc_okay (gc.ArrayInitData x d') more popped pushed rest m r b e t =
      let n = named_some (array_named g x) _ r.0 r.1 in
      let c = provided_is _ (reference_to (n.0).type ∷ i32_type ∷ i32_type ∷ i32_type ∷ [] ⟶ []) r.0 n.2 in
      let d = array_place x n.0 n.1 in
      object_under_okay array_fields (i32_type ∷ []) x 0 _ d (i32_type ∷ i32_type ∷ i32_type ∷ []) vs (λ fs ws. found (slice_get fs 0) (λ f'. writes f' (asks (FromData p a act acts d' fs) (goes p a act acts ws more)))) rest (values_at N p valid final a act acts h _ popped rest b (r.2.0 ∙ ap (λ (z : InstructionType). all_known z.takes) (sym c.1))) (λ u ws i j.
      let to = own_field u d.type 0 d.field i d.has_it in
      found_okay N p final (slice_get (fields_in (expanded u)) 0) to.0 _ to.1
      (asks_okay N p final (IsTrue (to.0).mutable) _ (to.2.0 ∙ and_left (n.0).element.mutable _ c.0)
      (asks_okay N p final (FromData p a act acts d' (fields_in (expanded u))) _ (data_through n.0 d' u (array_is g x n.0 n.1).inner i (and_right (n.0).element.mutable _ c.0))
      (goes_okay N p valid final a act acts h ws more rest j (code_at N p valid final a act acts h [] pushed rest m set more e (r.2.1 ∙ ap (λ (z : InstructionType). all_known z.gives) (sym c.1)) t)))))
  gc_okay (gc.ArrayInitElem x k) more popped pushed rest m r b e t =
      let d = array_place x r.0 r.1 in
      let held = r.3 in
      object_under_okay array_fields (i32_type ∷ []) x 0 _ d (i32_type ∷ i32_type ∷ i32_type ∷ []) vs (λ fs ws. stores_from p a act acts k fs (λ f' n'. writes f' n') (goes p a act acts ws more)) rest (values_at N p valid final a act acts h _ popped rest b r.4.0) (λ u ws i j.
      let to = own_field u d.type 0 d.field i d.has_it in
      let own_mutable = to.2.0 ∙ r.2 in
      found_okay N p final (slice_get p.«module».elements k) held.0 _ held.2
      (found_okay N p final (slice_get (fields_in (expanded u)) 0) to.0 _ to.1
      (asks_okay N p final (IsTrue (to.0).mutable) _ own_mutable
      (copies_okay N p final a held.0 (operand_of (to.0).storage) _
      (λ q. each_below p a.values held.1 (operand_of (to.0).storage) (each_below p a.values held.0 held.1 q held.4)
      (subst (λ (z : StorageOf TypeTree). OperandBelow (known (unpacked z)) (known (operand_of (to.0).storage))) held.3 (below_held (d.field).storage (to.0).storage (to.2.2 own_mutable))))
      (goes_okay N p valid final a act acts h ws more rest j (code_at N p valid final a act acts h [] pushed rest m set more e r.4.1 t))))))
  gc_okay (gc.BrOnCast n from to) more popped pushed rest m r b e t =
      let c = r.3.1 in
      let y = values_over N p valid final a act acts h r.3.0 (ref from.nullable r.0) rest (values_at N p valid final a act acts h _ popped rest b r.3.2.0) in
      let k = subst (λ (l : List Operand). Goes set more l) (ap (λ (l : List Operand). l ++ rest) (stack_more r.3.0 (difference from to r.0)))
      (code_at N p valid final a act acts h (all_known (r.3.0 ++ difference from to r.0 ∷ [])) pushed rest m set more e r.3.2.1 t) in
      cast_from_okay from to r.0 r.1 _ (stack r.3.0 ++ rest) r.2 y (λ d v ws i j l.
      choose_okay N p final d _ _ (λ q. cast_branch_okay n r.3.0 c.0 v ws (ref to.nullable r.1) rest c.1 c.2 (i q) l)
      (λ q. goes_okay N p valid final a act acts h (v ∷ ws) more (known (difference from to r.0) ∷ (stack r.3.0 ++ rest)) (j q, l) k))
  gc_okay (gc.BrOnCastFail n from to) more popped pushed rest m r b e t =
      let c = r.3.1 in
      let y = values_over N p valid final a act acts h r.3.0 (ref from.nullable r.0) rest (values_at N p valid final a act acts h _ popped rest b r.3.2.0) in
      let k = subst (λ (l : List Operand). Goes set more l) (ap (λ (l : List Operand). l ++ rest) (stack_more r.3.0 (ref to.nullable r.1)))
      (code_at N p valid final a act acts h (all_known (r.3.0 ++ ref to.nullable r.1 ∷ [])) pushed rest m set more e r.3.2.1 t) in
      cast_from_okay from to r.0 r.1 _ (stack r.3.0 ++ rest) r.2 y (λ d v ws i j l.
      choose_okay N p final d _ _ (λ q. goes_okay N p valid final a act acts h (v ∷ ws) more (known (ref to.nullable r.1) ∷ (stack r.3.0 ++ rest)) (i q, l) k)
      (λ q. cast_branch_okay n r.3.0 c.0 v ws (difference from to r.0) rest c.1 c.2 (j q) l))
