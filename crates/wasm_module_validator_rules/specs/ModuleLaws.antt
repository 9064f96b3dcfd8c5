-- Bytes fully spell at most one module.
use Rattle.std.proofs.Common.{◌≡◌, ℕ, List, [], ◌∷◌, map, Option, Some, None, refl, sym, ap, ◌∙◌, subst, Bool}
use Rattle.std.specs.List.{AllZip}
use Rattle.wasm_types.specs.decoding.Decoder.{Grammar}
use Rattle.wasm_types.specs.decoding.Leb.{u32, IsUnsigned, IsListed}
use Rattle.wasm_types.specs.decoding.LebLaws.{decides-u32}
use Rattle.wasm_types.specs.settings.Settings.{Settings}
use Rattle.wasm_types.specs.trees.declared.index.UnpackedIndex.TheVariants as index
use Rattle.wasm_types.specs.trees.Types.{ValueOf, number, ref, abstract, concrete, exact, StorageOf, i8, i16, value, FieldOf, InnerOf, function, array_of, struct_of, continuation}
use Rattle.wasm_types.specs.trees.Types.{SubtypeOf, EntryOf}
use Rattle.wasm_types.specs.trees.Each.{EachOption, EachValue, EachValues, EachStorage, EachFields, EachInner, EachEntry}
use Rattle.wasm_types.specs.trees.laws.Types.{entries_same}
use Rattle.wasm_types.specs.trees.ValidGroup.{Written}
use Rattle.wasm_types.specs.Entries.{Declared}
use Rattle.wasm_types.specs.Spells.{SpellsGroup}
use Rattle.wasm_types.specs.SpellsTypes.{GroupValue, declared_by as declares, SpelledGroup as GroupText}
use Rattle.wasm_types.specs.DecodeTypes.{rec_group}
use Rattle.wasm_types.specs.TypeLaws.{decides-rec_group}
use Rattle.wasm_types.specs.SpellsLaws.{group_from}
use Rattle.wasm_types.specs.TreeLaws.{group_read}
use Rattle.wasm_types.specs.externs.Decode.{memory_type, tag_type}
use Rattle.wasm_types.specs.externs.Spells.{SpelledMemory, SpelledTag}
use Rattle.wasm_types.specs.externs.DecodeLaws.{decides-memory_type, decides-tag_type}
use Rattle.wasm_operators_encoding.specs.expressions.Spelling.{SpelledExpression}
use Rattle.wasm_operators_encoding.specs.expressions.SpellingLaws.{one_expression}
use Rattle.wasm_operators_encoding.specs.Locals.{locals, SpelledLocals}
use Rattle.wasm_operators_encoding.specs.LocalsLaws.{decides-locals}
use Rattle.wasm_sections_items.specs.frames.Outer.{Outer}
use Rattle.wasm_sections_items.specs.frames.OuterLaws.{one_outer}
use Rattle.wasm_sections_items.specs.imports.Spells.{SpelledImport, SpelledExport}
use Rattle.wasm_sections_items.specs.imports.Decode.{import, export}
use Rattle.wasm_sections_items.specs.imports.DecodeLaws.{decides-import, decides-export}
use Rattle.wasm_module_validator_rules.specs.Syntax.{Function, ModuleTree}
use Rattle.wasm_module_validator_rules.specs.Binary.{declared_by, SpelledGroup, SpelledFunction, SpelledItems, SpelledNumber, SpelledSections, SpelledModule}
use Rattle.wasm_module_validator_rules.specs.UniqueLaws.{Bytes, Unique, decided, on_whole, lifted, listed, table_unique, global_unique, data_unique}
use Rattle.wasm_module_validator_rules.specs.ElementLaws.{element_unique}

-- ---- groups of types: each by the group that is read

-- nothing is asked of a reference
abbrev Any : ℕ → Type 0
Any r = Unit {0}

any_option : (o : Option ℕ) → EachOption Any o
any_option None = tt
any_option (Some r) = tt

any_value : (v : ValueOf ℕ) → EachValue Any v
any_value (number n) = tt
any_value (ref n (abstract s a)) = tt
any_value (ref n (concrete r)) = tt
any_value (ref n (exact r)) = tt

any_values : (vs : List (ValueOf ℕ)) → EachValues Any vs
any_values [] = tt
any_values (v ∷ vs) = (any_value v, any_values vs)

any_storage : (s : StorageOf ℕ) → EachStorage Any s
any_storage i8 = tt
any_storage i16 = tt
any_storage (value v) = any_value v

any_fields : (xs : List (FieldOf ℕ)) → EachFields Any xs
any_fields [] = tt
any_fields (x ∷ xs) = (any_storage x.storage, any_fields xs)

any_inner : (i : InnerOf ℕ) → EachInner Any i
any_inner (function ps rs) = (any_values ps, any_values rs)
any_inner (array_of x) = any_storage x.storage
any_inner (struct_of xs) = any_fields xs
any_inner (continuation r) = tt

any_entry : (x : EntryOf ℕ) → EachEntry Any x
any_entry x = record { supertype = any_option x.supertype; descriptor = any_option x.descriptor; describes = any_option x.describes; inner = any_inner x.inner }

index_same : (r s : ℕ) → index.Module r ≡ index.Module s → r ≡ s
index_same r s e = cc

indices_same : (xs ys : List ℕ) → map index.Module xs ≡ map index.Module ys → xs ≡ ys
indices_same [] [] e = refl
indices_same [] (y ∷ ys) e = absurd cc
indices_same (x ∷ xs) [] e = absurd cc
indices_same (x ∷ xs) (y ∷ ys) e = let a = index_same x y cc in let b = indices_same xs ys cc in λ i. a i ∷ b i

-- a subtype without what it declares
abbrev bare : SubtypeOf ℕ → EntryOf ℕ
bare x = record { is_final = x.is_final; supertype = None; shared = x.shared; descriptor = x.descriptor; describes = x.describes; inner = x.inner }

first_same : {A : Type 0} (x y : A) → x ∷ [] ≡ y ∷ [] → x ≡ y
first_same x y e = cc

subtype_same : (x y : SubtypeOf ℕ) → declared_by x ≡ declared_by y → x ≡ y
subtype_same x y e =
    let entries = entries_same index.Module Any (λ r s p q. index_same r s) (bare x ∷ []) (bare y ∷ []) (any_entry (bare x), tt) (any_entry (bare y), tt)
    (ap (λ (d : Declared). record d.entry { supertype = None } ∷ []) e) in
    let b = first_same (bare x) (bare y) entries in
    let above = indices_same x.supertypes y.supertypes (ap (λ (d : Declared). d.supertypes) e) in
    λ i. record { is_final = (b i).is_final; supertypes = above i; shared = (b i).shared; descriptor = (b i).descriptor; describes = (b i).describes; inner = (b i).inner }

subtypes_same : (xs ys : List (SubtypeOf ℕ)) → map declared_by xs ≡ map declared_by ys → xs ≡ ys
subtypes_same [] [] e = refl
subtypes_same [] (y ∷ ys) e = absurd cc
subtypes_same (x ∷ xs) [] e = absurd cc
subtypes_same (x ∷ xs) (y ∷ ys) e = let a = subtype_same x y cc in let b = subtypes_same xs ys cc in λ i. a i ∷ b i

module _ (z : Settings) where
  abbrev GroupOver : Written → GroupValue → Type 0
  GroupOver g v = (g.is_explicit ≡ v.is_explicit) × (map declared_by g.types ≡ map declares v.types)

  group_up : (g : Written) (text : Bytes) → SpelledGroup z g text → (v : GroupValue) × GroupText z v text × GroupOver g v
  group_up g text h =
      let r = group_read z g.is_explicit (map declared_by g.types) text h in
      let spelled = subst (λ (b : Bool). SpellsGroup z b (map declares r.0.types) text) (sym r.1) (subst (λ (ds : List Declared). SpellsGroup z g.is_explicit ds text) (sym r.2) h) in
      (r.0, group_from z r.0 text spelled, (sym r.1, sym r.2))

  group_down : (g h : Written) (v : GroupValue) → GroupOver g v → GroupOver h v → g ≡ h
  group_down g h v p q =
      let e = p.0 ∙ sym q.0 in
      let t = subtypes_same g.types h.types (p.1 ∙ sym q.1) in
      λ i. record { is_explicit = e i; types = t i }

  group_unique : Unique (SpelledGroup z)
  group_unique = lifted (SpelledGroup z) (GroupText z) GroupOver (decided (rec_group z) (GroupText z) (decides-rec_group z)) group_up group_down

  -- ---- functions

  function_same : (f g : Function) (text : Bytes) → SpelledFunction z f text → SpelledFunction z g text → f ≡ g
  function_same f g text h k =
      let first = decided (locals z) (SpelledLocals z) (decides-locals z) f.locals g.locals text h.locals_text h.body_text k.locals_text k.body_text h.whole h.locals k.whole k.locals in
      let body = one_expression z f.body g.body k.body_text (subst (SpelledExpression z f.body) first.1 h.body) k.body in
      λ i. record { locals = first.0 i; body = body i }

  code_same : (fs gs : List Function) (texts : List Bytes) → AllZip (SpelledFunction z) fs texts → AllZip (SpelledFunction z) gs texts → fs ≡ gs
  code_same [] [] [] h k = refl
  code_same [] (g ∷ gs) [] h k = absurd k
  code_same [] gs (t ∷ ts) h k = absurd h
  code_same (f ∷ fs) gs [] h k = absurd h
  code_same (f ∷ fs) [] (t ∷ ts) h k = absurd k
  code_same (f ∷ fs) (g ∷ gs) (t ∷ ts) h k =
      let a = function_same f g t h.0 k.0 in
      let b = code_same fs gs ts h.1 k.1 in
      λ i. a i ∷ b i

-- ---- sections

items_same : {A : Type 0} (g : Grammar A) → Unique g → (xs ys : List A) (c : Option Bytes) → SpelledItems g xs c → SpelledItems g ys c → xs ≡ ys
items_same g u xs ys None h k = h ∙ sym k
items_same g u xs ys (Some text) h k = on_whole (IsListed g) (listed g u) xs ys text h k

number_unique : Unique (IsUnsigned 32)
number_unique = decided u32 (IsUnsigned 32) decides-u32

number_same : (m n : Option ℕ) (c : Option Bytes) → SpelledNumber m c → SpelledNumber n c → m ≡ n
number_same None None c h k = refl
number_same None (Some n) None h k = absurd k
number_same None (Some n) (Some text) h k = absurd h
number_same (Some m) n None h k = absurd h
number_same (Some m) None (Some text) h k = absurd k
number_same (Some m) (Some n) (Some text) h k = ap Some (on_whole (IsUnsigned 32) number_unique m n text h k)

module _ (z : Settings) (m n : ModuleTree) where
  sections_same : (o : Outer) → SpelledSections z m o.parts → SpelledSections z n o.parts → m ≡ n
  sections_same o h k =
      let types = items_same (SpelledGroup z) (group_unique z) m.types n.types _ h.types k.types in
      let imports = items_same (SpelledImport z) (decided (import z) _ (decides-import z)) m.imports n.imports _ h.imports k.imports in
      let functions = items_same (IsUnsigned 32) number_unique m.functions n.functions _ h.functions k.functions in
      let tables = items_same _ (table_unique z) m.tables n.tables _ h.tables k.tables in
      let memories = items_same SpelledMemory (decided memory_type _ decides-memory_type) m.memories n.memories _ h.memories k.memories in
      let tags = items_same SpelledTag (decided tag_type _ decides-tag_type) m.tags n.tags _ h.tags k.tags in
      let globals = items_same _ (global_unique z) m.globals n.globals _ h.globals k.globals in
      let exports = items_same (SpelledExport z) (decided (export z) _ (decides-export z)) m.exports n.exports _ h.exports k.exports in
      let start = number_same m.start n.start _ h.start k.start in
      let elements = items_same _ (element_unique z) m.element_segments n.element_segments _ h.element_segments k.element_segments in
      let count = number_same m.data_count n.data_count _ h.data_count k.data_count in
      let code = code_same z m.code n.code _ h.code k.code in
      let segments = items_same _ (data_unique z) m.data_segments n.data_segments _ h.data_segments k.data_segments in
      λ i. record {
        types = types i;
        imports = imports i;
        functions = functions i;
        tables = tables i;
        memories = memories i;
        tags = tags i;
        globals = globals i;
        exports = exports i;
        start = start i;
        element_segments = elements i;
        data_count = count i;
        code = code i;
        data_segments = segments i;
      }

pub one_module : (z : Settings) (m n : ModuleTree) (text : Bytes) → SpelledModule z m text → SpelledModule z n text → m ≡ n
one_module z m n text h k =
    let outer = one_outer z h.outer k.outer text h.framed k.framed in
    sections_same z m n h.outer h.sections (subst (λ (o : Outer). SpelledSections z n o.parts) (sym outer) k.sections)
