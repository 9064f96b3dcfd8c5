-- What operators on arrays take and give, and what follows for the loop.
use Rattle.std.proofs.Common.{◌≡◌, ◌∙◌, ℕ, zero, suc, ◌+◌, ◌<◌, List, [], ◌∷◌, ◌++◌, Bool, true, false, Option, Some, refl, sym, ap, subst, reverse, replicate, lt-ltb}
use Rattle.std.specs.Prelude.{◌&&◌, option_map}
use Rattle.wasm_types.specs.settings.Settings.{Settings}
use Rattle.wasm_types.specs.settings.Features.{CustomDescriptors, has}
use Rattle.wasm_types.specs.trees.Types.{FieldOf, StorageOf, i8, i16, value, Number, number, i32, ref, concrete, array_of}
use Rattle.wasm_types.specs.trees.Trees.{TypeTree}
use Rattle.wasm_types.specs.trees.Below.{expanded}
use Rattle.wasm_types.specs.trees.Matches.{StorageMatches}
use Rattle.wasm_types.specs.trees.laws.Below.{below_reflexive}
use Rattle.wasm_operators_immediates.specs.Kinds as kind
use Rattle.wasm_operators_immediates.specs.Immediates.{Index, Count}
use Rattle.wasm_operators_enums.specs.declared.gc.GcOperator.{GcOperator}
use Rattle.wasm_operators_enums.specs.declared.gc.GcOperator.TheVariants as gc
use Rattle.wasm_operators_enums.specs.Op as op
use Rattle.wasm_operators_enums.specs.Immediates.{immediates_of}
use Rattle.wasm_types.specs.decoding.Leb.{u32}
use Rattle.wasm_types.specs.decoding.Numbers.{GivesAt}
use Rattle.wasm_operators_frequent.specs.Short.{BeginsPrefixed}
use Rattle.wasm_operators_frequent.proofs.Carried.{index_of}
use Rattle.wasm_operator_validator_rules.specs.Operands.{ValueType, Operand, all_known}
use Rattle.wasm_operator_validator_rules.specs.Context.{Context, defaultable}
use Rattle.wasm_operator_validator_rules.specs.Aggregates.{Array}
use Rattle.wasm_operator_validator_rules.specs.Places.{Place, unpacked, is_of_bytes, has_default, element_place}
use Rattle.wasm_operator_validator_rules.specs.InstructionTypes.{◌⟶◌, provided, named, names_data, i32_type, reference_to, element_of, allocated, written, gc_type_of}
use Rattle.wasm_operator_validator_rules.specs.Taken.{TableRow}
use Rattle.wasm_operator_validator_rules.specs.Objects.{GcRow}
use Rattle.wasm_operator_validator_fast_tables.specs.declared.tables.Field.{Field}
use Rattle.wasm_operator_validator_fast_tables.specs.declared.tables.Open.{Open}
use Rattle.wasm_operator_validator_fast_tables.specs.declared.tables.Tables.{Tables}
use Rattle.wasm_operator_validator_fast_tables.specs.Stacks.{Values, with_all}
use Rattle.wasm_operator_validator_fast_tables.specs.Values.{number_of, type_of, types, IsLowered}
use Rattle.wasm_operator_validator_fast_tables.specs.Tables.{HasDefault, Fits}
use Rattle.wasm_operator_validator_fast_tables.specs.Loop.{inside_all, Leads}
use Rattle.wasm_operator_validator_fast_objects.specs.Objects.{NamesArray}
use Rattle.wasm_operator_validator_fast_objects.proofs.Objects.{IsObjectAt, stands_alone, stands_with, stands_with_two, count_of, took_object, took_tabled, reading, read_is, written_is, allocated_is, MeansArray, array_means}

-- ---- what is stored

storage_reflexive : (s : StorageOf TypeTree) → StorageMatches s s
storage_reflexive i8 = tt
storage_reflexive i16 = tt
storage_reflexive (value v) = below_reflexive v

-- what is a number as an operand can be read from bytes
of_bytes : (s : StorageOf TypeTree) (k : Number) → unpacked s ≡ number k → is_of_bytes s ≡ true
of_bytes i8 k e = refl
of_bytes i16 k e = refl
of_bytes (value (number n)) k e = refl
of_bytes (value (ref n h)) k e = absurd cc

low_is_number : (ids : List TypeTree) (c : ℕ) → c < 8 → type_of ids c ≡ number (number_of c)
low_is_number ids c low = rw (lt-ltb c 8 low) refl

types_alike : (ids : List TypeTree) (c n : ℕ) → types ids (replicate n c) ≡ replicate n (type_of ids c)
types_alike ids c zero = refl
types_alike ids c (suc n) = ap (λ (ts : List ValueType). type_of ids c ∷ ts) (types_alike ids c n)

-- arrays for whose references one code stands are of one element
same_element : (ids : List TypeTree) (g h : Context) (y x code : ℕ) (f d : Field) (a : MeansArray ids g y code f) (b : MeansArray ids h x code d) → b.element ≡ a.element
same_element ids g h y x code f d a b =
    let refs : ref true (concrete b.type) ≡ ref true (concrete a.type) = sym b.nullable ∙ a.nullable in
    let same : b.type ≡ a.type = cc in
    let both : array_of b.element ≡ array_of a.element = sym b.expands ∙ ap expanded same ∙ a.expands in
    cc

-- ---- what is read, written and made

module _ (ids : List TypeTree) (g : Context) (y code : ℕ) (f : Field) (m : MeansArray ids g y code f) where
  place_is : element_place g y ≡ Some (record { reached_by = ref true (concrete m.type) ∷ number i32 ∷ []; storage = m.element.storage; mutable = m.element.mutable })
  place_is =
      ap (λ (a : Option Array). option_map
      (λ a. record { reached_by = ref true (concrete a.type) ∷ number i32 ∷ []; storage = a.element.storage; mutable = a.element.mutable }) a) m.named

  read_there : (packed : Bool) → f.packed ≡ packed → named (element_place g y) (reading packed) ≡ Some (types ids (code ∷ 0 ∷ []) ⟶ types ids (f.code ∷ []))
  read_there packed packs =
      ap (λ (p : Option Place). named p (reading packed)) place_is ∙ read_is (record { reached_by = ref true (concrete m.type) ∷ number i32 ∷ []; storage = m.element.storage; mutable = m.element.mutable }) packed (type_of ids f.code) (m.is.packed ∙ packs) m.is.read
      ∙ ap (λ (t : ValueType). Some (t ∷ number i32 ∷ [] ⟶ types ids (f.code ∷ []))) (sym m.nullable)

  write_there : f.mutable ≡ true → gc_type_of g (gc.ArraySet y) ≡ Some (types ids (code ∷ 0 ∷ f.code ∷ []) ⟶ types ids [])
  write_there may =
      ap (λ (p : Option Place). named p written) place_is ∙ written_is (record { reached_by = ref true (concrete m.type) ∷ number i32 ∷ []; storage = m.element.storage; mutable = m.element.mutable }) (type_of ids f.code) (m.is.mutable ∙ may) m.is.read
      ∙ ap (λ (t : ValueType). Some (t ∷ number i32 ∷ type_of ids f.code ∷ [] ⟶ [])) (sym m.nullable)

  fill_there : f.mutable ≡ true → gc_type_of g (gc.ArrayFill y) ≡ Some (types ids (code ∷ 0 ∷ f.code ∷ 0 ∷ []) ⟶ types ids [])
  fill_there may =
      ap (λ (a : Option Array). named a (λ a. provided a.element.mutable (reference_to a.type ∷ i32_type ∷ element_of a ∷ i32_type ∷ [] ⟶ []))) m.named
      ∙ ap (λ (b : Bool). provided b (reference_to m.type ∷ i32_type ∷ unpacked m.element.storage ∷ i32_type ∷ [] ⟶ [])) (m.is.mutable ∙ may)
      ∙ ap (λ (t : ValueType). Some (reference_to m.type ∷ i32_type ∷ t ∷ i32_type ∷ [] ⟶ [])) m.is.read
      ∙ ap (λ (t : ValueType). Some (t ∷ i32_type ∷ type_of ids f.code ∷ i32_type ∷ [] ⟶ [])) (sym m.nullable)

  module _ (off : has CustomDescriptors g.bits ≡ false) where
    gives : allocated g m.type ≡ type_of ids (code + 1)
    gives = allocated_is g m.type off ∙ sym m.never_null

    made : gc_type_of g (gc.ArrayNew y) ≡ Some (types ids (f.code ∷ 0 ∷ []) ⟶ types ids ((code + 1) ∷ []))
    made =
        ap (λ (a : Option Array). named a (λ a. Some (element_of a ∷ i32_type ∷ [] ⟶ allocated g a.type ∷ []))) m.named
        ∙ ap (λ (t : ValueType). Some (t ∷ i32_type ∷ [] ⟶ allocated g m.type ∷ [])) m.is.read
        ∙ ap (λ (t : ValueType). Some (type_of ids f.code ∷ i32_type ∷ [] ⟶ t ∷ [])) gives

    made_of_defaults : HasDefault f.code → gc_type_of g (gc.ArrayNewDefault y) ≡ Some (types ids (0 ∷ []) ⟶ types ids ((code + 1) ∷ []))
    made_of_defaults default =
        ap (λ (a : Option Array). named a (λ a. provided (has_default a.element) (i32_type ∷ [] ⟶ allocated g a.type ∷ []))) m.named
        ∙ ap (λ (b : Bool). provided b (i32_type ∷ [] ⟶ allocated g m.type ∷ [])) (ap defaultable m.is.read ∙ default ids)
        ∙ ap (λ (t : ValueType). Some (i32_type ∷ [] ⟶ t ∷ [])) gives

    made_of_data : (d : ℕ) → f.code < 8 → names_data g.«module».data_count d ≡ true
        → gc_type_of g (gc.ArrayNewData y d) ≡ Some (types ids (0 ∷ 0 ∷ []) ⟶ types ids ((code + 1) ∷ []))
    made_of_data d low there =
        let bytes = of_bytes m.element.storage (number_of f.code) (m.is.read ∙ low_is_number ids f.code low) in
        ap (λ (a : Option Array). named a
        (λ a. provided (is_of_bytes a.element.storage && names_data g.«module».data_count d) (i32_type ∷ i32_type ∷ [] ⟶ allocated g a.type ∷ []))) m.named
        ∙ ap (λ (b : Bool). provided (b && names_data g.«module».data_count d) (i32_type ∷ i32_type ∷ [] ⟶ allocated g m.type ∷ [])) bytes
        ∙ ap (λ (b : Bool). provided b (i32_type ∷ i32_type ∷ [] ⟶ allocated g m.type ∷ [])) there
        ∙ ap (λ (t : ValueType). Some (i32_type ∷ i32_type ∷ [] ⟶ t ∷ [])) gives

    made_of_some : (n : ℕ) → gc_type_of g (gc.ArrayNewFixed y n) ≡ Some (types ids (replicate n f.code) ⟶ types ids ((code + 1) ∷ []))
    made_of_some n =
        ap (λ (a : Option Array). named a (λ a. Some (replicate n (element_of a) ⟶ allocated g a.type ∷ []))) m.named
        ∙ ap (λ (t : ValueType). Some (replicate n t ⟶ allocated g m.type ∷ [])) m.is.read
        ∙ ap (λ (ts : List ValueType). Some (ts ⟶ allocated g m.type ∷ [])) (sym (types_alike ids f.code n))
        ∙ ap (λ (t : ValueType). Some (types ids (replicate n f.code) ⟶ t ∷ [])) gives

-- ---- the operators

module _ (t : Tables) (text : List ℕ) (i n e : ℕ) (o : Open) (outer : List Open) (v w : Values) (code : ℕ) (f : Field) where
  abbrev Here : List TypeTree → Context → Context
  Here ids g = inside_all ids g t.known.flat.items (o ∷ outer)

  means : (ids : List TypeTree) (z : Settings) (g : Context) → Fits ids z text t g → (m : ℕ) (h : NamesArray text t n code f m) → MeansArray ids (Here ids g) h.type code f
  means ids z g fits m h = array_means ids t (Here ids g) fits.unshared fits.knows h.type code f h.is

  -- one that carries an array alone, and is in the table of instruction types
  took_array : (c : ℕ) (q : ℕ → GcOperator) → ((y : ℕ) → IsObjectAt c (q y)) → ((y : ℕ) → immediates_of (op.Gc (q y)) ≡ Index kind.Types y ∷ [])
      → ((y : ℕ) (g : Context) (a b : List Operand) → TableRow g (op.Gc (q y)) a b → GcRow g (q y) a b)
      → BeginsPrefixed text i 0xfb c n → (h : NamesArray text t n code f e) → (ts us r u : List ℕ) → IsLowered t.known.order v (reverse ts ++ r, u) → w ≡ (reverse us ++ r, u)
      → ((ids : List TypeTree) (z : Settings) (g : Context) → Fits ids z text t g → MeansArray ids (Here ids g) h.type code f
      → gc_type_of (Here ids g) (q h.type) ≡ Some (types ids ts ⟶ types ids us))
      → Leads text t i (o ∷ outer) v e (o ∷ outer) w
  took_array c q is carried tabled begins h ts us r u low put table =
      took_tabled t text i e o outer v w c (q h.type) (is h.type) (stands_with t.features.0 text i n c (q h.type) begins (is h.type) h.type e (carried h.type) h.read)
      h.is.references ts us r u low put (tabled h.type) (λ ids z g fits. table ids z g fits (means ids z g fits e h))

  took_read : (packed : Bool) (c : ℕ) (q : ℕ → GcOperator) → ((y : ℕ) → IsObjectAt c (q y)) → ((y : ℕ) → immediates_of (op.Gc (q y)) ≡ Index kind.Types y ∷ [])
      → ((y : ℕ) (g : Context) (a b : List Operand) → TableRow g (op.Gc (q y)) a b → GcRow g (q y) a b)
      → ((y : ℕ) (g : Context) → gc_type_of g (q y) ≡ named (element_place g y) (reading packed))
      → BeginsPrefixed text i 0xfb c n → NamesArray text t n code f e → f.packed ≡ packed → (r u : List ℕ) → IsLowered t.known.order v (0 ∷ code ∷ r, u) → w ≡ (f.code ∷ r, u)
      → Leads text t i (o ∷ outer) v e (o ∷ outer) w
  took_read packed c q is carried tabled table begins h packs r u low put =
      took_array c q is carried tabled begins h (code ∷ 0 ∷ []) (f.code ∷ []) r u low put
      (λ ids z g fits m. table h.type (Here ids g) ∙ read_there ids (Here ids g) h.type code f m packed packs)

  pub took_array_get : BeginsPrefixed text i 0xfb 0x0b n → NamesArray text t n code f e → f.packed ≡ false → (r u : List ℕ)
      → IsLowered t.known.order v (0 ∷ code ∷ r, u) → w ≡ (f.code ∷ r, u) → Leads text t i (o ∷ outer) v e (o ∷ outer) w
  took_array_get =
      took_read false 11 gc.ArrayGet (λ y. record { opcode = refl; asks = refl }) (λ y. refl)
      (λ y g a b row. row) (λ y g. refl)

  pub took_array_get_s : BeginsPrefixed text i 0xfb 0x0c n → NamesArray text t n code f e → f.packed ≡ true → (r u : List ℕ)
      → IsLowered t.known.order v (0 ∷ code ∷ r, u) → w ≡ (f.code ∷ r, u) → Leads text t i (o ∷ outer) v e (o ∷ outer) w
  took_array_get_s =
      took_read true 12 gc.ArrayGetS (λ y. record { opcode = refl; asks = refl }) (λ y. refl)
      (λ y g a b row. row) (λ y g. refl)

  pub took_array_get_u : BeginsPrefixed text i 0xfb 0x0d n → NamesArray text t n code f e → f.packed ≡ true → (r u : List ℕ)
      → IsLowered t.known.order v (0 ∷ code ∷ r, u) → w ≡ (f.code ∷ r, u) → Leads text t i (o ∷ outer) v e (o ∷ outer) w
  took_array_get_u =
      took_read true 13 gc.ArrayGetU (λ y. record { opcode = refl; asks = refl }) (λ y. refl)
      (λ y g a b row. row) (λ y g. refl)

  pub took_array_set : BeginsPrefixed text i 0xfb 0x0e n → NamesArray text t n code f e → f.mutable ≡ true → IsLowered t.known.order v (f.code ∷ 0 ∷ code ∷ w.0, w.1)
      → Leads text t i (o ∷ outer) v e (o ∷ outer) w
  took_array_set begins h may low =
      took_array 14 gc.ArraySet (λ y. record { opcode = refl; asks = refl }) (λ y. refl) (λ y g a b row. row)
      begins h (code ∷ 0 ∷ f.code ∷ []) [] w.0 w.1 low refl (λ ids z g fits m. write_there ids (Here ids g) h.type code f m may)

  pub took_array_fill : BeginsPrefixed text i 0xfb 0x10 n → NamesArray text t n code f e → f.mutable ≡ true → IsLowered t.known.order v (0 ∷ f.code ∷ 0 ∷ code ∷ w.0, w.1)
      → Leads text t i (o ∷ outer) v e (o ∷ outer) w
  took_array_fill begins h may low =
      took_array 16 gc.ArrayFill (λ y. record { opcode = refl; asks = refl }) (λ y. refl) (λ y g a b row. row)
      begins h (code ∷ 0 ∷ f.code ∷ 0 ∷ []) [] w.0 w.1 low refl (λ ids z g fits m. fill_there ids (Here ids g) h.type code f m may)

  pub took_array_new : BeginsPrefixed text i 0xfb 0x06 n → NamesArray text t n code f e → (r u : List ℕ) → IsLowered t.known.order v (0 ∷ f.code ∷ r, u)
      → w ≡ ((code + 1) ∷ r, u) → Leads text t i (o ∷ outer) v e (o ∷ outer) w
  took_array_new begins h r u low put =
      took_array 6 gc.ArrayNew (λ y. record { opcode = refl; asks = refl }) (λ y. refl) (λ y g a b row. row)
      begins h (f.code ∷ 0 ∷ []) ((code + 1) ∷ []) r u low put
      (λ ids z g fits m. made ids (Here ids g) h.type code f m (fits.references h.is.references).no_descriptors)

  pub took_array_new_default : BeginsPrefixed text i 0xfb 0x07 n → NamesArray text t n code f e → HasDefault f.code → (r u : List ℕ) → IsLowered t.known.order v (0 ∷ r, u)
      → w ≡ ((code + 1) ∷ r, u) → Leads text t i (o ∷ outer) v e (o ∷ outer) w
  took_array_new_default begins h default r u low put =
      took_array 7 gc.ArrayNewDefault (λ y. record { opcode = refl; asks = refl }) (λ y. refl) (λ y g a b row. row)
      begins h (0 ∷ []) ((code + 1) ∷ []) r u low put
      (λ ids z g fits m. made_of_defaults ids (Here ids g) h.type code f m (fits.references h.is.references).no_descriptors default)

  pub took_array_new_data : BeginsPrefixed text i 0xfb 0x09 n → (k : ℕ) → NamesArray text t n code f k → (d : ℕ) → GivesAt u32 text k d e → f.code < 8 → d < t.known.«data»
      → (r u : List ℕ) → IsLowered t.known.order v (0 ∷ 0 ∷ r, u) → w ≡ ((code + 1) ∷ r, u) → Leads text t i (o ∷ outer) v e (o ∷ outer) w
  took_array_new_data begins k h d read low_code there r u low put =
      let p = gc.ArrayNewData h.type d in
      let is : IsObjectAt 9 p = record { opcode = refl; asks = refl } in
      took_tabled t text i e o outer v w 9 p is
      (stands_with_two t.features.0 text i n 9 p begins is h.type k e (Index kind.DataSegments d) refl h.read (λ limits. index_of _ _ _ _ kind.DataSegments d read))
      h.is.references (0 ∷ 0 ∷ []) ((code + 1) ∷ []) r u low put (λ g a b row. row)
      (λ ids z g fits. made_of_data ids (Here ids g) h.type code f (means ids z g fits k h) (fits.references h.is.references).no_descriptors d low_code (fits.knows.«data» d there))

  pub took_array_new_fixed : BeginsPrefixed text i 0xfb 0x08 n → (k : ℕ) → NamesArray text t n code f k → (c : ℕ) → GivesAt u32 text k c e → (m : Values)
      → IsLowered t.known.order v (with_all (replicate c f.code) m) → w ≡ ((code + 1) ∷ m.0, m.1) → Leads text t i (o ∷ outer) v e (o ∷ outer) w
  took_array_new_fixed begins k h c read m low put =
      let p = gc.ArrayNewFixed h.type c in
      let is : IsObjectAt 8 p = record { opcode = refl; asks = refl } in
      took_tabled t text i e o outer v w 8 p is
      (stands_with_two t.features.0 text i n 8 p begins is h.type k e (Count c) refl h.read (λ limits. count_of _ text k e c read))
      h.is.references (replicate c f.code) ((code + 1) ∷ []) m.0 m.1 low put (λ g a b row. row)
      (λ ids z g fits. made_of_some ids (Here ids g) h.type code f (means ids z g fits k h) (fits.references h.is.references).no_descriptors c)

  pub took_array_copy : BeginsPrefixed text i 0xfb 0x11 n → (k : ℕ) → NamesArray text t n code f k → (d : Field) → NamesArray text t k code d e → f.mutable ≡ true
      → IsLowered t.known.order v (0 ∷ 0 ∷ code ∷ 0 ∷ code ∷ w.0, w.1) → Leads text t i (o ∷ outer) v e (o ∷ outer) w
  took_array_copy begins k h d from may low =
      let p = gc.ArrayCopy h.type from.type in
      let is : IsObjectAt 17 p = record { opcode = refl; asks = refl } in
      took_object t text i e o outer v w 17 p is
      (stands_with_two t.features.0 text i n 17 p begins is h.type k e (Index kind.Types from.type) refl h.read (λ limits. index_of _ _ _ _ kind.Types from.type from.read))
      h.is.references (code ∷ 0 ∷ code ∷ 0 ∷ 0 ∷ []) [] w.0 w.1 low refl
      (λ ids z g fits.
      let a = means ids z g fits k h in
      let b = array_means ids t (Here ids g) fits.unshared fits.knows from.type code d from.is in
      let same = same_element ids (Here ids g) (Here ids g) h.type from.type code f d a b in
      let matches = subst (λ (x : FieldOf TypeTree). StorageMatches x.storage a.element.storage) (sym same) (storage_reflexive a.element.storage) in
      let taken : all_known (types ids (code ∷ 0 ∷ code ∷ 0 ∷ 0 ∷ [])) ≡ all_known (reference_to a.type ∷ i32_type ∷ reference_to b.type ∷ i32_type ∷ i32_type ∷ []) =
      ap (λ (x : ValueType). all_known (x ∷ i32_type ∷ type_of ids code ∷ i32_type ∷ i32_type ∷ [])) a.nullable
      ∙ ap (λ (x : ValueType). all_known (reference_to a.type ∷ i32_type ∷ x ∷ i32_type ∷ i32_type ∷ [])) b.nullable in (
        record { type = a.type; element = a.element },
        record { type = b.type; element = b.element },
        a.named,
        b.named,
        a.is.mutable ∙ may,
        matches,
        (taken, refl),
      ))

-- how long any array is
pub took_array_len : (t : Tables) (text : List ℕ) (i e : ℕ) (o : Open) (outer : List Open) (v w : Values) → BeginsPrefixed text i 0xfb 0x0f e → t.references ≡ true
    → (r u : List ℕ) → IsLowered t.known.order v (24 ∷ r, u) → w ≡ (0 ∷ r, u) → Leads text t i (o ∷ outer) v e (o ∷ outer) w
took_array_len t text i e o outer v w begins on r u low put =
    let is : IsObjectAt 15 gc.ArrayLen = record { opcode = refl; asks = refl } in
    took_object t text i e o outer v w 15 gc.ArrayLen is (stands_alone t.features.0 text i e 15 gc.ArrayLen begins is refl) on (24 ∷ []) (0 ∷ []) r u low put
    (λ ids z g fits. (false, (refl, refl)))
