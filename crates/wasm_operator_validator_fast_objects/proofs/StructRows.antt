-- What operators on structures take and give, and what follows for the loop.
use Rattle.std.proofs.Common.{◌≡◌, ◌∙◌, ℕ, zero, suc, ◌+◌, List, [], ◌∷◌, Bool, true, false, Option, Some, refl, sym, ap, subst, slice_get}
use Rattle.std.specs.Prelude.{not, is_some, ◌&&◌, option_and_then, option_map}
use Rattle.wasm_types.specs.settings.Features.{CustomDescriptors, has}
use Rattle.wasm_types.specs.trees.Types.{FieldOf, ref, concrete}
use Rattle.wasm_types.specs.trees.Trees.{TypeTree}
use Rattle.wasm_operators_immediates.specs.Kinds as kind
use Rattle.wasm_operators_immediates.specs.Immediates.{Index}
use Rattle.wasm_operators_enums.specs.declared.gc.GcOperator.{GcOperator}
use Rattle.wasm_operators_enums.specs.declared.gc.GcOperator.TheVariants as gc
use Rattle.wasm_operators_enums.specs.Op as op
use Rattle.wasm_operators_enums.specs.Immediates.{immediates_of}
use Rattle.wasm_operators_frequent.specs.Short.{BeginsPrefixed}
use Rattle.wasm_operators_frequent.proofs.Carried.{index_of}
use Rattle.wasm_operator_validator_rules.specs.Operands.{ValueType, Operand}
use Rattle.wasm_operator_validator_rules.specs.Context.{Context, defaultable}
use Rattle.wasm_operator_validator_rules.specs.Aggregates.{Struct}
use Rattle.wasm_operator_validator_rules.specs.Places.{Place, has_default, have_defaults, operands_for, field_place}
use Rattle.wasm_operator_validator_rules.specs.InstructionTypes.{◌⟶◌, provided, named, allocated, is_described, written, gc_type_of}
use Rattle.wasm_operator_validator_rules.specs.Taken.{TableRow}
use Rattle.wasm_operator_validator_rules.specs.Objects.{GcRow}
use Rattle.wasm_operator_validator_fast_tables.specs.declared.tables.Field.{Field}
use Rattle.wasm_operator_validator_fast_tables.specs.declared.tables.Open.{Open}
use Rattle.wasm_operator_validator_fast_tables.specs.declared.tables.Tables.{Tables}
use Rattle.wasm_operator_validator_fast_tables.specs.Stacks.{Values, with_all}
use Rattle.wasm_operator_validator_fast_tables.specs.Values.{type_of, types, IsLowered}
use Rattle.wasm_operator_validator_fast_tables.specs.Tables.{IsField, AreFields}
use Rattle.wasm_operator_validator_fast_tables.specs.Loop.{inside_all, Leads}
use Rattle.wasm_operator_validator_fast_tables.proofs.Lowering.{lower_same}
use Rattle.wasm_operator_validator_fast_objects.specs.Objects.{NamesStruct, NamesField, codes_of, HaveDefaults}
use Rattle.wasm_operator_validator_fast_objects.proofs.Objects.{IsObjectAt, stands_with, stands_with_two, took_tabled, reading, read_is, written_is, allocated_is, MeansStruct, struct_means}

-- ---- fields

field_of : (ids : List TypeTree) (xs : List (FieldOf TypeTree)) (fs : List Field) (k : ℕ) (f : Field) → AreFields ids xs fs → slice_get fs k ≡ Some f
    → (x : FieldOf TypeTree) × (slice_get xs k ≡ Some x) × IsField ids x f
field_of ids [] [] k f each at = absurd cc
field_of ids [] (h ∷ fs) k f each at = absurd each
field_of ids (x ∷ xs) [] k f each at = absurd each
field_of ids (x ∷ xs) (h ∷ fs) zero f each at = let s : h ≡ f = cc in (x, refl, subst (λ (y : Field). IsField ids x y) s each.0)
field_of ids (x ∷ xs) (h ∷ fs) (suc k) f each at = field_of ids xs fs k f each.1 at

operands_are : (ids : List TypeTree) (xs : List (FieldOf TypeTree)) (fs : List Field) → AreFields ids xs fs → operands_for xs ≡ types ids (codes_of fs)
operands_are ids [] [] each = refl
operands_are ids [] (f ∷ fs) each = absurd each
operands_are ids (x ∷ xs) [] each = absurd each
operands_are ids (x ∷ xs) (f ∷ fs) each =
    ap (λ (t : ValueType). t ∷ operands_for xs) each.0.read ∙ ap (λ (ts : List ValueType). type_of ids f.code ∷ ts) (operands_are ids xs fs each.1)

defaults_are : (ids : List TypeTree) (xs : List (FieldOf TypeTree)) (fs : List Field) → AreFields ids xs fs → HaveDefaults fs → have_defaults xs ≡ true
defaults_are ids [] [] each h = refl
defaults_are ids [] (f ∷ fs) each h = absurd each
defaults_are ids (x ∷ xs) [] each h = absurd each
defaults_are ids (x ∷ xs) (f ∷ fs) each h =
    let one : has_default x ≡ true = ap defaultable each.0.read ∙ h.0 ids in
    let more = defaults_are ids xs fs each.1 h.1 in
    rw (one, more) refl

-- ---- what is read, written and made

module _ (ids : List TypeTree) (g : Context) (y code : ℕ) (fs : List Field) (m : MeansStruct ids g y code fs) where
  place_is : (k : ℕ) (x : FieldOf TypeTree) → slice_get m.fields k ≡ Some x
      → field_place g y k ≡ Some (record { reached_by = ref true (concrete m.type) ∷ []; storage = x.storage; mutable = x.mutable })
  place_is k x at =
      ap (λ (s : Option Struct). option_and_then
      (λ s. option_map (λ x. record { reached_by = ref true (concrete s.type) ∷ []; storage = x.storage; mutable = x.mutable }) (slice_get s.fields k)) s) m.named
      ∙ ap (λ (z : Option (FieldOf TypeTree)). option_map
      (λ x. record { reached_by = ref true (concrete m.type) ∷ []; storage = x.storage; mutable = x.mutable }) z) at

  read_there : (packed : Bool) (k : ℕ) (f : Field) → slice_get fs k ≡ Some f → f.packed ≡ packed
      → named (field_place g y k) (reading packed) ≡ Some (types ids (code ∷ []) ⟶ types ids (f.code ∷ []))
  read_there packed k f at packs =
      let (x, there, is) = field_of ids m.fields fs k f m.each at in
      ap (λ (p : Option Place). named p (reading packed)) (place_is k x there) ∙ read_is (record { reached_by = ref true (concrete m.type) ∷ []; storage = x.storage; mutable = x.mutable }) packed (type_of ids f.code) (is.packed ∙ packs) is.read
      ∙ ap (λ (t : ValueType). Some (t ∷ [] ⟶ types ids (f.code ∷ []))) (sym m.nullable)

  write_there : (k : ℕ) (f : Field) → slice_get fs k ≡ Some f → f.mutable ≡ true
      → named (field_place g y k) written ≡ Some (types ids (code ∷ f.code ∷ []) ⟶ types ids [])
  write_there k f at may =
      let (x, there, is) = field_of ids m.fields fs k f m.each at in
      ap (λ (p : Option Place). named p written) (place_is k x there) ∙ written_is (record { reached_by = ref true (concrete m.type) ∷ []; storage = x.storage; mutable = x.mutable }) (type_of ids f.code) (is.mutable ∙ may) is.read
      ∙ ap (λ (t : ValueType). Some (t ∷ type_of ids f.code ∷ [] ⟶ [])) (sym m.nullable)

  made : has CustomDescriptors g.bits ≡ false → gc_type_of g (gc.StructNew y) ≡ Some (types ids (codes_of fs) ⟶ types ids ((code + 1) ∷ []))
  made off =
      ap (λ (s : Option Struct). named s (λ s. provided (not (is_described s)) (operands_for s.fields ⟶ allocated g s.type ∷ []))) m.named
      ∙ ap (λ (d : Option TypeTree). provided (not (is_some d)) (operands_for m.fields ⟶ allocated g m.type ∷ [])) m.undescribed
      ∙ ap (λ (ts : List ValueType). Some (ts ⟶ allocated g m.type ∷ [])) (operands_are ids m.fields fs m.each)
      ∙ ap (λ (t : ValueType). Some (types ids (codes_of fs) ⟶ t ∷ [])) (allocated_is g m.type off ∙ sym m.never_null)

  made_of_defaults : has CustomDescriptors g.bits ≡ false → HaveDefaults fs → gc_type_of g (gc.StructNewDefault y) ≡ Some (types ids [] ⟶ types ids ((code + 1) ∷ []))
  made_of_defaults off defaults =
      ap (λ (s : Option Struct). named s (λ s. provided (not (is_described s) && have_defaults s.fields) ([] ⟶ allocated g s.type ∷ []))) m.named
      ∙ ap (λ (d : Option TypeTree). provided (not (is_some d) && have_defaults m.fields) ([] ⟶ allocated g m.type ∷ [])) m.undescribed
      ∙ ap (λ (b : Bool). provided b ([] ⟶ allocated g m.type ∷ [])) (defaults_are ids m.fields fs m.each defaults)
      ∙ ap (λ (t : ValueType). Some ([] ⟶ t ∷ [])) (allocated_is g m.type off ∙ sym m.never_null)

-- ---- the operators

module _ (t : Tables) (text : List ℕ) (i n e : ℕ) (o : Open) (outer : List Open) (v w : Values) (code : ℕ) where
  took_read : (packed : Bool) (f : Field) (c : ℕ) (q : ℕ → ℕ → GcOperator) → ((y k : ℕ) → IsObjectAt c (q y k))
      → ((y k : ℕ) → immediates_of (op.Gc (q y k)) ≡ Index kind.Types y ∷ Index kind.Fields k ∷ [])
      → ((y k : ℕ) (g : Context) (a b : List Operand) → TableRow g (op.Gc (q y k)) a b → GcRow g (q y k) a b)
      → ((y k : ℕ) (g : Context) → gc_type_of g (q y k) ≡ named (field_place g y k) (reading packed))
      → BeginsPrefixed text i 0xfb c n → NamesField text t n code f e → f.packed ≡ packed → (r u : List ℕ) → IsLowered t.known.order v (code ∷ r, u) → w ≡ (f.code ∷ r, u)
      → Leads text t i (o ∷ outer) v e (o ∷ outer) w
  took_read packed f c q is carried tabled table begins h packs r u low put =
      let y = h.struct.type in
      let k = h.place in
      took_tabled t text i e o outer v w c (q y k) (is y k)
      (stands_with_two t.features.0 text i n c (q y k) begins (is y k) y h.middle e (Index kind.Fields k) (carried y k) h.struct.read (λ limits. index_of _ _ _ _ kind.Fields k h.read))
      h.struct.is.references (code ∷ []) (f.code ∷ []) r u low put (tabled y k)
      (λ ids z g fits.
      let here = inside_all ids g t.known.flat.items (o ∷ outer) in
      table y k here ∙ read_there ids here y code h.fields (struct_means ids t here fits.unshared fits.knows y code h.fields h.struct.is) packed k f h.at packs)

  pub took_struct_get : BeginsPrefixed text i 0xfb 0x02 n → (f : Field) → NamesField text t n code f e → f.packed ≡ false → (r u : List ℕ)
      → IsLowered t.known.order v (code ∷ r, u) → w ≡ (f.code ∷ r, u) → Leads text t i (o ∷ outer) v e (o ∷ outer) w
  took_struct_get begins f =
      took_read false f 2 gc.StructGet (λ y k. record { opcode = refl; asks = refl }) (λ y k. refl)
      (λ y k g a b row. row) (λ y k g. refl) begins

  pub took_struct_get_s : BeginsPrefixed text i 0xfb 0x03 n → (f : Field) → NamesField text t n code f e → f.packed ≡ true → (r u : List ℕ)
      → IsLowered t.known.order v (code ∷ r, u) → w ≡ (f.code ∷ r, u) → Leads text t i (o ∷ outer) v e (o ∷ outer) w
  took_struct_get_s begins f =
      took_read true f 3 gc.StructGetS (λ y k. record { opcode = refl; asks = refl }) (λ y k. refl)
      (λ y k g a b row. row) (λ y k g. refl) begins

  pub took_struct_get_u : BeginsPrefixed text i 0xfb 0x04 n → (f : Field) → NamesField text t n code f e → f.packed ≡ true → (r u : List ℕ)
      → IsLowered t.known.order v (code ∷ r, u) → w ≡ (f.code ∷ r, u) → Leads text t i (o ∷ outer) v e (o ∷ outer) w
  took_struct_get_u begins f =
      took_read true f 4 gc.StructGetU (λ y k. record { opcode = refl; asks = refl }) (λ y k. refl)
      (λ y k g a b row. row) (λ y k g. refl) begins

  pub took_struct_set : BeginsPrefixed text i 0xfb 0x05 n → (f : Field) → NamesField text t n code f e → f.mutable ≡ true
      → IsLowered t.known.order v (f.code ∷ code ∷ w.0, w.1) → Leads text t i (o ∷ outer) v e (o ∷ outer) w
  took_struct_set begins f h may low =
      let y = h.struct.type in
      let k = h.place in
      let is : IsObjectAt 5 (gc.StructSet y k) = record { opcode = refl; asks = refl } in
      took_tabled t text i e o outer v w 5 (gc.StructSet y k) is
      (stands_with_two t.features.0 text i n 5 (gc.StructSet y k) begins is y h.middle e (Index kind.Fields k) refl h.struct.read (λ limits. index_of _ _ _ _ kind.Fields k h.read))
      h.struct.is.references (code ∷ f.code ∷ []) [] w.0 w.1 low refl (λ g a b row. row)
      (λ ids z g fits.
      let here = inside_all ids g t.known.flat.items (o ∷ outer) in
      write_there ids here y code h.fields (struct_means ids t here fits.unshared fits.knows y code h.fields h.struct.is) k f h.at may)

  pub took_struct_new : BeginsPrefixed text i 0xfb 0x00 n → (fs : List Field) → NamesStruct text t n code fs e → (m : Values) → IsLowered t.known.order v (with_all (codes_of fs) m)
      → w ≡ ((code + 1) ∷ m.0, m.1) → Leads text t i (o ∷ outer) v e (o ∷ outer) w
  took_struct_new begins fs h m low put =
      let y = h.type in
      let is : IsObjectAt 0 (gc.StructNew y) = record { opcode = refl; asks = refl } in
      took_tabled t text i e o outer v w 0 (gc.StructNew y) is
      (stands_with t.features.0 text i n 0 (gc.StructNew y) begins is y e refl h.read)
      h.is.references (codes_of fs) ((code + 1) ∷ []) m.0 m.1 low put (λ g a b row. row)
      (λ ids z g fits.
      let here = inside_all ids g t.known.flat.items (o ∷ outer) in
      made ids here y code fs (struct_means ids t here fits.unshared fits.knows y code fs h.is) (fits.references h.is.references).no_descriptors)

  pub took_struct_new_default : BeginsPrefixed text i 0xfb 0x01 n → (fs : List Field) → NamesStruct text t n code fs e → HaveDefaults fs → w ≡ ((code + 1) ∷ v.0, v.1)
      → Leads text t i (o ∷ outer) v e (o ∷ outer) w
  took_struct_new_default begins fs h defaults put =
      let y = h.type in
      let is : IsObjectAt 1 (gc.StructNewDefault y) = record { opcode = refl; asks = refl } in
      took_tabled t text i e o outer v w 1 (gc.StructNewDefault y) is
      (stands_with t.features.0 text i n 1 (gc.StructNewDefault y) begins is y e refl h.read)
      h.is.references [] ((code + 1) ∷ []) v.0 v.1 (lower_same t.known.order v v refl) put (λ g a b row. row)
      (λ ids z g fits.
      let here = inside_all ids g t.known.flat.items (o ∷ outer) in
      made_of_defaults ids here y code fs (struct_means ids t here fits.unshared fits.knows y code fs h.is) (fits.references h.is.references).no_descriptors defaults)
