-- Bodies that are judged in one loop: their locals as codes, and what is valid then.
use Rattle.std.proofs.Common.{◌≡◌, ◌≤◌, ◌<◌, ◌∙◌, ◌+◌, ◌⊎◌, inl, inr, ℕ, zero, suc, List, [], ◌∷◌, ◌++◌, false, Option, Some, None, refl, sym, ap, subst, arith, append-nil, length, drop, replicate, get_or, slice_get}
use Rattle.std.specs.Prelude.{option_map}
use Rattle.std.proofs.lemmas.Bool.{cases_lt}
use Rattle.std.proofs.lemmas.List.{append_assoc, length-append, length-map, length-replicate, map-append, length_push}
use Rattle.wasm_types.specs.decoding.Decoder.{Many}
use Rattle.wasm_types.specs.decoding.Leb.{u32, IsUnsigned}
use Rattle.wasm_types.specs.settings.Settings.{Settings}
use Rattle.wasm_types.specs.trees.Trees.{TypeTree, opened}
use Rattle.wasm_types.specs.trees.declared.index.UnpackedIndex.{UnpackedIndex}
use Rattle.wasm_types.specs.trees.declared.index.UnpackedIndex.TheVariants as index
use Rattle.wasm_types.specs.trees.Types.{EntryOf, HeapOf, abstract, concrete, exact, ValueOf, number, ref, heap_map, value_map}
use Rattle.wasm_types.specs.settings.declared.WasmFeatures.{WasmFeatures}
use Rattle.wasm_types.specs.values.DecodeValues.{value_type}
use Rattle.wasm_types.specs.values.Spelled.{SpelledValue}
use Rattle.wasm_types.specs.values.ValueLaws.{decides-value_type}
use Rattle.wasm_types.specs.values.Values.{value_of}
use Rattle.wasm_types.specs.trees.Below.{is_shared}
use Rattle.wasm_types.specs.decoding.Numbers.{GivesAt}
use Rattle.wasm_operators_encoding.specs.Locals.{LocalGroup, group_of, total, SpelledGroup}
use Rattle.wasm_operators_encoding.specs.expressions.Code.{Code}
use Rattle.wasm_operators_encoding.specs.expressions.Spelling.{SpelledExpression}
use Rattle.wasm_operator_validator_rules.specs.Operands.{ValueType}
use Rattle.wasm_operator_validator_rules.specs.Context.{Context, Module, IsType, written_type}
use Rattle.wasm_operator_validator_rules.specs.Typed.{IsBody}
use Rattle.wasm_module_validator_section_order.specs.rules.Spaces.{value_in, with_types}
use Rattle.wasm_module_validator_section_order.specs.rules.Valid.{Each, IsValidValueType, locals_in, body_context}
use Rattle.wasm_operator_validator_fast_tables.specs.declared.tables.Known.{Known}
use Rattle.wasm_operator_validator_fast_tables.specs.declared.tables.Sig.{Sig}
use Rattle.wasm_operator_validator_fast_tables.specs.declared.tables.Tables.{Tables}
use Rattle.wasm_operator_validator_fast_tables.specs.Values.{type_of, types}
use Rattle.wasm_operator_validator_fast_tables.specs.Tables.{Knows, AllowsLists, HasDefault, BeginSet, Fits, params_in, results_in, signature_in}
use Rattle.wasm_operator_validator_fast_tables.specs.Written.{IsValueAt}
use Rattle.wasm_operator_validator_fast_steps.proofs.Spelled.{many_more, unsigned_at}
use Rattle.wasm_operator_validator_fast_tables.proofs.Writing.{spelled_at}
use Rattle.wasm_module_validator_function_bodies.specs.Functions.{SpellsValidFunction}
use Rattle.wasm_module_validator_function_bodies.specs.Plain.{MayTell, AreOfSame, AreLocals, TakesGroup, TakesAll, Begins}

-- ---- lists

types_replicate : (ids : List TypeTree) (n c : ℕ) → types ids (replicate n c) ≡ replicate n (type_of ids c)
types_replicate ids zero c = refl
types_replicate ids (suc n) c = ap (λ l. type_of ids c ∷ l) (types_replicate ids n c)

locals_push : (ts : List TypeTree) (gs : List LocalGroup) (g : LocalGroup) → locals_in ts (gs ++ g ∷ []) ≡ locals_in ts gs ++ replicate g.count (value_in ts g.type)
locals_push ts [] g = append-nil (replicate g.count (value_in ts g.type))
locals_push ts (x ∷ gs) g =
    let f = replicate x.count (value_in ts x.type) in
    ap (λ (l : List ValueType). f ++ l) (locals_push ts gs g) ∙ sym (append_assoc f (locals_in ts gs) (replicate g.count (value_in ts g.type)))

total_push : (gs : List LocalGroup) (g : LocalGroup) → total (gs ++ g ∷ []) ≡ total gs + g.count
total_push [] g = omega arith
total_push (x ∷ gs) g = let h = total_push gs g in omega (arith, h)

each_push : {A : Type 0} (P : A → Type 0) (xs : List A) (x : A) → Each P xs → P x → Each P (xs ++ x ∷ [])
each_push P [] x h p = (p, tt)
each_push P (y ∷ xs) x h p = (h.0, each_push P xs x h.1 p)

-- ---- types

-- what a module means by a value type, by its types alone
meant_index : (m : Module) (i : UnpackedIndex) → written_type (with_types m.types) i ≡ written_type m i
meant_index m (index.Module n) = refl
meant_index m (index.RecGroup n) = refl
meant_index m (index.Id i) = refl

meant_heap : (m : Module) (h : HeapOf UnpackedIndex) → heap_map (written_type (with_types m.types)) h ≡ heap_map (written_type m) h
meant_heap m (abstract s a) = refl
meant_heap m (concrete i) = ap (λ (t : TypeTree). concrete t) (meant_index m i)
meant_heap m (exact i) = ap (λ (t : TypeTree). exact t) (meant_index m i)

meant_value : (m : Module) (v : ValueOf UnpackedIndex) → value_map (written_type (with_types m.types)) v ≡ value_map (written_type m) v
meant_value m (number n) = refl
meant_value m (ref b h) = ap (λ (k : HeapOf TypeTree). ref b k) (meant_heap m h)

-- ---- one group

pub took_group : (t : Tables) (text : List ℕ) (i count k code place j : ℕ) → GivesAt u32 text i count k → IsValueAt text t k code place j
    → (before after : List ℕ) → after ≡ before ++ replicate count code → TakesGroup t text i before after j
took_group t text i count k code place j g v before after put =
    let (counted, counts, whole) = unsigned_at text i count k g in
    let (typed, spelled, next) = spelled_at value_type SpelledValue decides-value_type text k j v.written v.read in
    record {
      group = group_of count v.written;
      front = counted ++ typed;
      spelled = record { count = counted; type = typed; counted = counts; typed = spelled; whole = refl };
      whole = whole ∙ ap (λ (r : List ℕ). counted ++ r) next ∙ sym (append_assoc counted typed (drop j text));
      code = code;
      put = put;
      means = λ ids bits m may. v.means ids bits m may.knows may.allows may.references may.vectors;
      inside = v.read.inside;
    }

-- ---- all groups

-- so many groups were taken
pub record TakesSome (t : Tables) (text : List ℕ) (i k : ℕ) (before after : List ℕ) (j : ℕ) : Type 0 where
  pub groups : List LocalGroup
  pub front : List ℕ
  pub each : Many SpelledGroup k groups front
  pub whole : drop i text ≡ front ++ drop j text
  pub long : length groups ≡ k
  pub codes : List ℕ
  pub put : after ≡ before ++ codes
  pub many : length codes ≡ total groups
  pub means : (ids : List TypeTree) (z : Settings) (m : Module) → MayTell ids z.features m t → AreLocals ids z m groups codes
  pub inside : j ≤ length text

pub took_none : (t : Tables) (text : List ℕ) (i : ℕ) (before : List ℕ) → i ≤ length text → TakesSome t text i 0 before before i
took_none t text i before le = record {
  groups = [];
  front = [];
  each = refl;
  whole = refl;
  long = refl;
  codes = [];
  put = sym (append-nil before);
  many = refl;
  means = λ ids z m may. record { typed = refl; valid = tt };
  inside = le;
}

-- one more group of locals
more_locals : (ids : List TypeTree) (z : Settings) (m : Module) (groups : List LocalGroup) (codes : List ℕ) (one : LocalGroup) (code : ℕ) → AreLocals ids z m groups codes
    → IsType z.features m one.type (type_of ids code) → AreLocals ids z m (groups ++ one ∷ []) (codes ++ replicate one.count code)
more_locals ids z m groups codes one code h type =
    let same : value_in m.types one.type ≡ type_of ids code = meant_value m (value_of one.type) ∙ sym type.is in
    record {
      typed = locals_push m.types groups one ∙ ap (λ (l : List ValueType). l ++ replicate one.count (value_in m.types one.type)) h.typed
          ∙ ap (λ (t : ValueType). types ids codes ++ replicate one.count t) same ∙ ap (λ (l : List ValueType). types ids codes ++ l) (sym (types_replicate ids one.count code))
          ∙ sym (map-append (type_of ids) codes (replicate one.count code));
      valid = each_push (λ (l : LocalGroup). IsValidValueType z m l.type) groups one h.valid (type_of ids code, type);
    }

took_more : (t : Tables) (text : List ℕ) (i k : ℕ) (before middle after : List ℕ) (j n : ℕ) → TakesSome t text i k before middle j → TakesGroup t text j middle after n
    → TakesSome t text i (suc k) before after n
took_more t text i k before middle after j n h one =
    let cs = replicate one.group.count one.code in
    let long = length_push h.groups one.group in
    let many = length-append h.codes cs in
    let sum = total_push h.groups one.group in
    let few = length-replicate one.group.count one.code in
    record {
      groups = h.groups ++ one.group ∷ [];
      front = h.front ++ one.front;
      each = many_more SpelledGroup k h.groups one.group h.front one.front h.each one.spelled;
      whole = h.whole ∙ ap (λ (r : List ℕ). h.front ++ r) one.whole ∙ sym (append_assoc h.front one.front (drop n text));
      long = omega (arith, long, h.long);
      codes = h.codes ++ cs;
      put = one.put ∙ ap (λ (l : List ℕ). l ++ cs) h.put ∙ append_assoc before h.codes cs;
      many = omega (arith, many, sum, few, h.many);
      means = λ ids z m may. more_locals ids z m h.groups h.codes one.group one.code (h.means ids z m may) (one.means ids z.features m may);
      inside = one.inside;
    }

pub took_next : (t : Tables) (text : List ℕ) (i k : ℕ) (before middle after : List ℕ) (j n : ℕ) → TakesSome t text i k before middle j → TakesGroup t text j middle after n
    → TakesSome t text i (k + 1) before after n
took_next t text i k before middle after j n h one =
    let e : suc k ≡ k + 1 = omega arith in
    subst (λ (c : ℕ). TakesSome t text i c before after n) e (took_more t text i k before middle after j n h one)

pub took_all : (t : Tables) (text : List ℕ) (count i : ℕ) (before after : List ℕ) (j : ℕ) → GivesAt u32 text 0 count i → TakesSome t text i count before after j → TakesAll t text before after j
took_all t text count i before after j g h =
    let (counted, counts, whole) = unsigned_at text 0 count i g in
    record {
      groups = h.groups;
      front = counted ++ h.front;
      listed = record {
        count = counted;
        values = h.front;
        counted = subst (λ (k : ℕ). IsUnsigned 32 k counted) (sym h.long) counts;
        each = subst (λ (k : ℕ). Many SpelledGroup k h.groups h.front) (sym h.long) h.each;
        whole = refl;
      };
      whole = whole ∙ ap (λ (r : List ℕ). counted ++ r) h.whole ∙ sym (append_assoc counted h.front (drop j text));
      codes = h.codes;
      put = h.put;
      many = h.many;
      means = h.means;
      inside = h.inside;
    }

-- what tables tell, those of the same module tell
pub same_tells : (t u : Tables) (ids : List TypeTree) (bits : ℕ) (m : Module) → AreOfSame t u → MayTell ids bits m t → MayTell ids bits m u
same_tells t u ids bits m same may = record {
  knows = subst (λ (k : Known). Knows ids m k) (sym same.known) may.knows;
  allows = may.allows;
  references = λ on. may.references (sym same.references ∙ on);
  vectors = λ on. may.vectors (sym same.vectors ∙ on);
}

-- what stands by tables of the same module
pub same_group : (t u : Tables) (text : List ℕ) (i : ℕ) (before after : List ℕ) (j : ℕ) → AreOfSame t u → TakesGroup u text i before after j → TakesGroup t text i before after j
same_group t u text i before after j same h = record {
  group = h.group;
  front = h.front;
  spelled = h.spelled;
  whole = h.whole;
  code = h.code;
  put = h.put;
  means = λ ids bits m may. h.means ids bits m (same_tells t u ids bits m same may);
  inside = h.inside;
}

pub same_all : (t u : Tables) (text before after : List ℕ) (j : ℕ) → AreOfSame t u → TakesAll u text before after j → TakesAll t text before after j
same_all t u text before after j same h = record {
  groups = h.groups;
  front = h.front;
  listed = h.listed;
  whole = h.whole;
  codes = h.codes;
  put = h.put;
  many = h.many;
  means = λ ids z m may. h.means ids z m (same_tells t u ids z.features m same may);
  inside = h.inside;
}

pub same_then : (t u v : Tables) → AreOfSame t u → AreOfSame u v → AreOfSame t v
same_then t u v h k = record { known = k.known ∙ h.known; features = k.features ∙ h.features; references = k.references ∙ h.references; vectors = k.vectors ∙ h.vectors }

-- ---- the whole function

local_at : (ids : List TypeTree) (xs : List ℕ) (k : ℕ) → k < length xs → slice_get (types ids xs) k ≡ Some (type_of ids (get_or xs k 0))
local_at ids [] k lt = absurd (omega (arith, lt))
local_at ids (x ∷ xs) zero lt = refl
local_at ids (x ∷ xs) (suc k) lt = local_at ids xs k (omega (arith, lt))

-- one more local has a value from the start
pub certain_more : (locals : List ℕ) (params n : ℕ) → ((x : ℕ) → x < length locals → x < n → (x < params) ⊎ HasDefault (get_or locals x 0)) → HasDefault (get_or locals n 0)
    → (x : ℕ) → x < length locals → x < n + 1 → (x < params) ⊎ HasDefault (get_or locals x 0)
certain_more locals params n all one x lt few = either (cases_lt x n)
  where
    either : (x < n) ⊎ (n ≤ x) → (x < params) ⊎ HasDefault (get_or locals x 0)
    either (inl before) = all x lt before
    either (inr le) = let same : n ≡ x = omega (arith, le, few) in inr (subst (λ (k : ℕ). HasDefault (get_or locals k 0)) same one)

-- a type that is not shared, by its entry
pub not_shared : (e : EntryOf TypeTree) (o : Option TypeTree) → Some e ≡ option_map opened o → e.shared ≡ false → (f : TypeTree) → o ≡ Some f → is_shared f ≡ false
not_shared e None h s f at = cc
not_shared e (Some t) h s f at =
    let same : e ≡ opened t = cc in
    let one : t ≡ f = cc in
    ap is_shared (sym one) ∙ sym (ap (λ (x : EntryOf TypeTree). x.shared) same) ∙ s

pub valid_body : (ids : List TypeTree) (z : Settings) (m : Module) (x : ℕ) (text : List ℕ) (t u : Tables) (start : ℕ) → Begins t u x text z.limits.locals start
    → MayTell ids z.features m t → t.features.0 ≡ z.features → AreOfSame t u → length text ≤ z.limits.body_bytes
    → AllowsLists z.limits → ((f : TypeTree) → slice_get m.types x ≡ Some f → is_shared f ≡ false)
    → ((g : Context) → Fits ids z text u g → (params : ℕ) → BeginSet u params → (c : Code) × SpelledExpression z c (drop start text) × IsBody g params c)
    → SpellsValidFunction z m x text
valid_body ids z m x text t u start b may features same within lists unshared judged =
    let flat = t.known.flat.items in
    let h = b.locals in
    let ps = params_in flat b.sig in
    let s = signature_in ids flat b.sig in
    let (f, at, is) = may.knows.types x b.sig b.at b.usable in
    let g = body_context z m f s h.groups in
    let own = h.means ids z m may in
    let told = same_tells t u ids z.features m same may in
    let bits : z.features ≡ u.features.0 = sym (ap (λ (w : WasmFeatures). w.0) same.features ∙ features) in
    let all : g.locals ≡ types ids u.locals.items = ap (λ (l : List ValueType). types ids ps ++ l) own.typed ∙ sym (map-append (type_of ids) ps h.codes) ∙ ap (types ids) (sym h.put) in
    let results : types ids (results_in flat b.sig) ≡ types ids (results_in u.known.flat.items u.results)
    = ap (λ (k : Known). types ids (results_in k.flat.items b.sig)) (sym same.known) ∙ ap (λ (q : Sig). types ids (results_in u.known.flat.items q)) (sym b.results) in
    let fits : Fits ids z text u g = record {
      features = bits;
      bits = bits;
      within = within;
      allows = may.allows;
      references = told.references;
      vectors = told.vectors;
      limits = λ on. lists;
      knows = told.knows;
      locals = λ k lt. ap (λ (l : List ValueType). slice_get l k) all ∙ local_at ids u.locals.items k lt;
      results = results;
      unshared = unshared f at;
    } in
    let many = length-map ps (type_of ids) in
    let (c, spelled, body) = judged g fits (length s.params) (λ k lt sure. subst (λ (n : ℕ). (k < n) ⊎ HasDefault (get_or u.locals.items k 0)) (sym many) (b.certain k lt sure)) in
    let count = ap (λ (l : List ℕ). length l) h.put in
    let parts = length-append ps h.codes in
    let most = b.within in
    record {
      function = record { locals = h.groups; body = c };
      spelled = record {
        locals_text = h.front;
        body_text = drop start text;
        locals = record { listed = h.listed; within = omega (arith, count, parts, most, h.many) };
        body = spelled;
        whole = h.whole;
      };
      type = f;
      at = at;
      valid = record { signature = s; function = is; locals = own.valid; within = omega (arith, count, parts, many, most, h.many); body = body };
    }
