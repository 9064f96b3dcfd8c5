-- The worked bytes: which modules they spell, and so whether they are accepted.
use Rattle.std.specs.Prelude.{pos}
use Rattle.std.specs.List.{AllZip}
use Rattle.std.proofs.Common.{◌≡◌, ◌∙◌, ◌<◌, ℕ, suc, true, false, List, [], ◌∷◌, ◌++◌, length, Some, None, refl, sym, ap, subst, inl, inr, arith, lit<, lit≤}
use Rattle.wasm_types.specs.decoding.Leb.{u32, IsUnsigned, IsListed, last, more}
use Rattle.wasm_types.specs.decoding.Lists.{IsListedWithin}
use Rattle.wasm_types.specs.decoding.LebLaws.{decides-u32}
use Rattle.wasm_types.specs.decoding.Decoder.{Grammar, Many}
use Rattle.wasm_types.specs.decoding.Text.{IsSized}
use Rattle.wasm_types.specs.settings.Limits.{default_limits}
use Rattle.wasm_types.specs.trees.declared.index.UnpackedIndex.{UnpackedIndex}
use Rattle.wasm_types.specs.trees.Types.{ValueOf, i32, number, function}
use Rattle.wasm_types.specs.settings.Settings.{Settings}
use Rattle.wasm_types.specs.settings.Features.{Exceptions, has}
use Rattle.wasm_types.specs.trees.Gates.{Has}
use Rattle.wasm_types.specs.trees.worked.Gates.{all_but}
use Rattle.wasm_types.specs.trees.ValidGroup.{Written}
use Rattle.wasm_types.specs.values.Spells.{SpellsValue}
use Rattle.wasm_types.specs.Entries.{Declared}
use Rattle.wasm_types.specs.Spells.{SpellsGroup}
use Rattle.wasm_sections_items.specs.frames.Outer.{Part, code, section, IsBytes, Outer, SpelledOuter, SpelledPart, SpelledHeader, Counts, Declares, DeclaresOrAbsent, IsCoreModule}
use Rattle.wasm_sections_items.specs.frames.OuterLaws.{one_outer}
use Rattle.wasm_sections_items.specs.segments.Spells.{SpelledData}
use Rattle.wasm_operators_encoding.specs.Locals.{SpelledLocals}
use Rattle.wasm_module_validator_rules.specs.Syntax.{Function, ModuleTree}
use Rattle.wasm_module_validator_rules.specs.Binary.{SpelledGroup, SpelledConstant, SpelledFunction, SpelledCode, SpelledSections, SpelledModule, SpelledModuleWith, entries_of}
use Rattle.wasm_module_validator_rules.specs.Valid.{IsValid}
use Rattle.wasm_module_validator_rules.specs.Accepts.{AreEntries}
use Rattle.wasm_module_validator_rules.specs.OutsideLaws.{valid_without_code}
use Rattle.wasm_module_validator_rules.specs.UniqueLaws.{decided}
use Rattle.wasm_module_validator_rules.specs.ModuleLaws.{one_module}
use Rattle.wasm_module_validator_rules.specs.worked.Trees.{everything, without, empty, one_function, procedure, takes_i32, end, does, passive_data}
use Rattle.wasm_module_validator_rules.specs.worked.Modules.{starting}
use Rattle.wasm_module_validator_rules.specs.worked.Bytes.{BytesWorked, header, procedure_section, takes_i32_section, function_section, start_section}
use Rattle.wasm_module_validator_rules.specs.worked.Bytes.{code_section, two_bodies_section, empty_body_section, count_section, data_section, tag_section}
use Rattle.wasm_module_validator_rules.proofs.WorkedModules.{functions_worked, segments_worked}

-- ---- numbers and lists

zero_is : IsUnsigned 32 0 (0 ∷ [])
zero_is = last 32 0 0 (omega arith) (lit< tt) refl

one_is : IsUnsigned 32 1 (1 ∷ [])
one_is = last 32 1 1 (omega arith) (lit< tt) refl

none : {A : Type 0} (g : Grammar A) → IsListed g [] (0 ∷ [])
none g = record { count = 0 ∷ []; values = []; counted = zero_is; each = refl; whole = refl }

single_of : {A : Type 0} (g : Grammar A) (x : A) (a : ℕ) (text : List ℕ) → g x (a ∷ text) → IsListed g (x ∷ []) (1 ∷ a ∷ text)
single_of g x a text h = record { count = 1 ∷ []; values = a ∷ text; counted = one_is; each = (a ∷ text, [], h, refl, end_of (a ∷ text)); whole = refl }
  where
    end_of : (xs : List ℕ) → xs ≡ xs ++ []
    end_of [] = refl
    end_of (x ∷ xs) = ap (λ (ys : List ℕ). x ∷ ys) (end_of xs)

-- ---- frames

head : SpelledHeader (record { version = 1; layer = 0 }) header
head = record { version_text = 0x01 ∷ 0x00 ∷ []; layer_text = 0x00 ∷ 0x00 ∷ []; version_bytes = refl; layer_bytes = refl; version = refl; layer = refl; known = omega arith; whole = refl }

-- a section other than code, with few bytes
few : (z : Settings) (id : ℕ) (contents : List ℕ) → (id ≡ 0 → ⊥) → (id ≡ 10 → ⊥) → IsUnsigned 32 (length contents) (length contents ∷ []) → SpelledPart z (section id contents) (id ∷ length contents ∷ contents)
few z id contents p q n = (p, q, (length contents ∷ contents, refl, record { size = length contents ∷ []; content = contents; counted = n; spelled = refl; whole = refl }))

abbrev module_with : List Part → Outer
module_with ps = record { header = record { version = 1; layer = 0 }; parts = ps }

-- ---- a module with a start function of one type

body_part : SpelledPart everything (code ((0x00 ∷ 0x0b ∷ []) ∷ [])) code_section
body_part = (
  0x04 ∷ 0x01 ∷ 0x02 ∷ 0x00 ∷ 0x0b ∷ [],
  refl,
  record {
    size = 4 ∷ [];
    content = 0x01 ∷ 0x02 ∷ 0x00 ∷ 0x0b ∷ [];
    counted = last 32 4 4 (omega arith) (lit< tt) refl;
    spelled = single_of _ _ 2 (0x00 ∷ 0x0b ∷ []) (record { size = 2 ∷ []; content = 0x00 ∷ 0x0b ∷ []; counted = last 32 2 2 (omega arith) (lit< tt) refl; spelled = refl; whole = refl });
    whole = refl;
  },
)

body_spelled : SpelledFunction everything (does [] end) (0x00 ∷ 0x0b ∷ [])
unfolding default_limits
body_spelled = record {
  locals_text = 0x00 ∷ [];
  body_text = 0x0b ∷ [];
  within = lit≤ tt;
  locals = record { listed = none _; within = lit≤ tt };
  body = record { expression = refl; spelled = (0x0b ∷ [], [], record { canonical = refl; front = 0x0b ∷ []; back = []; opcode = (refl, refl); carried = refl; whole = refl }, refl, refl) };
  whole = refl;
}

module _ (t : Written) (group : List ℕ) (small : IsUnsigned 32 (suc (suc (length group))) (suc (suc (length group)) ∷ [])) (spelled : SpelledGroup everything t (0x60 ∷ group)) where
  abbrev parts : List Part
  parts = section 1 (1 ∷ 0x60 ∷ group) ∷ section 3 (1 ∷ 0 ∷ []) ∷ section 8 (0 ∷ []) ∷ code ((0x00 ∷ 0x0b ∷ []) ∷ []) ∷ []

  abbrev bytes : List ℕ
  bytes = header ++ ((1 ∷ suc (suc (length group)) ∷ 1 ∷ 0x60 ∷ group) ++ (function_section ++ start_section ++ code_section))

  abbrev group_section : List ℕ
  group_section = 1 ∷ suc (suc (length group)) ∷ 1 ∷ 0x60 ∷ group

  framed : SpelledOuter everything (module_with parts) bytes
  framed = record {
    header_text = header;
    parts_text = group_section ++ (function_section ++ start_section ++ code_section);
    headed = head;
    each = (group_section, function_section ++ start_section ++ code_section, few everything 1 (1 ∷ 0x60 ∷ group) (λ e. omega (arith, e)) (λ e. omega (arith, e)) small, functions_behind, refl);
    whole = refl;
  }
    where
      code_behind : Many (SpelledPart everything) 1 (code ((0x00 ∷ 0x0b ∷ []) ∷ []) ∷ []) code_section
      code_behind = (code_section, [], body_part, refl, refl)

      start_behind : Many (SpelledPart everything) 2 (section 8 (0 ∷ []) ∷ code ((0x00 ∷ 0x0b ∷ []) ∷ []) ∷ []) (start_section ++ code_section)
      start_behind = (start_section, code_section, few everything 8 (0 ∷ []) (λ e. omega (arith, e)) (λ e. omega (arith, e)) one_is, code_behind, refl)

      functions_behind : Many (SpelledPart everything) 3 (section 3 (1 ∷ 0 ∷ []) ∷ section 8 (0 ∷ []) ∷ code ((0x00 ∷ 0x0b ∷ []) ∷ []) ∷ []) (function_section ++ start_section ++ code_section)
      functions_behind = (function_section, start_section ++ code_section, few everything 3 (1 ∷ 0 ∷ []) (λ e. omega (arith, e)) (λ e. omega (arith, e)) (last 32 2 2 (omega arith) (lit< tt) refl), start_behind, refl)

  started : SpelledModule everything (starting (one_function t end)) bytes
  started = record {
    outer = module_with parts;
    framed = framed;
    core = record {
      version = refl;
      layer = refl;
      known = (inr (1, refl), (inr (3, refl), (inr (9, refl), (inr (12, refl), tt))));
      ordered = (omega arith, (omega arith, (omega arith, (omega arith, tt))));
      counts = record {
        functions = 1;
        declared = inl (inr (inl (refl, record { count = 1 ∷ []; items = 0 ∷ []; counted = one_is; whole = refl })));
        defined = refl;
        segments = uncounted;
      };
    };
    sections = record {
      types = single_of _ t 0x60 group spelled;
      imports = refl;
      functions = single_of _ 0 0 [] zero_is;
      tables = refl;
      memories = refl;
      tags = refl;
      tags_allowed = tt;
      globals = refl;
      exports = refl;
      start = zero_is;
      element_segments = refl;
      data_count = tt;
      code = (body_spelled, tt);
      data_segments = refl;
    };
  }
    where
      uncounted : (n : ℕ) → Declares 12 n parts → DeclaresOrAbsent 11 n parts
      uncounted n (inl h) = absurd (omega (arith, h.0))
      uncounted n (inr (inl h)) = absurd (omega (arith, h.0))
      uncounted n (inr (inr (inl h))) = absurd (omega (arith, h.0))
      uncounted n (inr (inr (inr h))) = absurd h

-- ---- function types

-- a function type, and nothing else, as a subtype
abbrev declared : List (ValueOf UnpackedIndex) → List (ValueOf UnpackedIndex) → Declared
declared ps rs = record { supertypes = []; entry = record { is_final = true; supertype = None; shared = false; descriptor = None; describes = None; inner = function ps rs } }

-- a group of one function type, by its parameters and results
function_group : (ps rs : List (ValueOf UnpackedIndex)) (params results : List ℕ) → IsListedWithin everything.limits.params SpellsValue ps params
    → IsListedWithin everything.limits.results SpellsValue rs results → SpellsGroup everything false (declared ps rs ∷ []) (0x60 ∷ (params ++ results))
function_group ps rs params results p r = (
  _,
  refl,
  inl (record {
    is_final = refl;
    alone = refl;
    none = refl;
    itself = record {
      shared = [];
      describes = [];
      descriptor = [];
      inner = 0x60 ∷ (params ++ results);
      marked = refl;
      describing = refl;
      described = refl;
      itself = (params ++ results, refl, record { params = params; results = results; taken = p; given = r; whole = refl });
      whole = refl;
    };
  }),
)

procedure_group : SpelledGroup everything procedure (0x60 ∷ 0x00 ∷ 0x00 ∷ [])
unfolding default_limits
procedure_group = function_group [] [] (0x00 ∷ []) (0x00 ∷ []) (record { listed = none _; within = lit≤ tt }) (record { listed = none _; within = lit≤ tt })

takes_group : SpelledGroup everything takes_i32 (0x60 ∷ 0x01 ∷ 0x7f ∷ 0x00 ∷ [])
unfolding default_limits
takes_group = function_group (number i32 ∷ []) [] (0x01 ∷ 0x7f ∷ []) (0x00 ∷ []) (record { listed = single_of _ _ 0x7f [] refl; within = lit≤ tt }) (record { listed = none _; within = lit≤ tt })

takes_started : SpelledModule everything (starting (one_function takes_i32 end)) (header ++ takes_i32_section ++ function_section ++ start_section ++ code_section)
takes_started = started takes_i32 (0x01 ∷ 0x7f ∷ 0x00 ∷ []) (last 32 5 5 (omega arith) (lit< tt) refl) takes_group

-- ---- frames by themselves

-- one section, and what is spelled behind it
behind : (z : Settings) (id : ℕ) (contents : List ℕ) (ps : List Part) (text : List ℕ) → (id ≡ 0 → ⊥) → (id ≡ 10 → ⊥)
    → IsUnsigned 32 (length contents) (length contents ∷ []) → Many (SpelledPart z) (length ps) ps text
    → Many (SpelledPart z) (suc (length ps)) (section id contents ∷ ps) ((id ∷ length contents ∷ contents) ++ text)
behind z id contents ps text p q n h = (id ∷ length contents ∷ contents, text, few z id contents p q n, h, refl)

framing : (z : Settings) (ps : List Part) (text : List ℕ) → Many (SpelledPart z) (length ps) ps text → SpelledOuter z (module_with ps) (header ++ text)
framing z ps text h = record { header_text = header; parts_text = text; headed = head; each = h; whole = refl }

two_is : IsUnsigned 32 2 (2 ∷ [])
two_is = last 32 2 2 (omega arith) (lit< tt) refl

three_is : IsUnsigned 32 3 (3 ∷ [])
three_is = last 32 3 3 (omega arith) (lit< tt) refl

four_is : IsUnsigned 32 4 (4 ∷ [])
four_is = last 32 4 4 (omega arith) (lit< tt) refl

abbrev procedure_part : Part
procedure_part = section 1 (1 ∷ 0x60 ∷ 0 ∷ 0 ∷ [])

abbrev function_part : Part
function_part = section 3 (1 ∷ 0 ∷ [])

abbrev idle_body : List ℕ
idle_body = 0x00 ∷ 0x0b ∷ []

-- a type, a function of it, and its bodies
typed_functions : (ps : List Part) (text : List ℕ) → Many (SpelledPart everything) (length ps) ps text
    → SpelledOuter everything (module_with (procedure_part ∷ function_part ∷ ps)) (header ++ (procedure_section ++ (function_section ++ text)))
typed_functions ps text h = framing everything (procedure_part ∷ function_part ∷ ps) (procedure_section ++ (function_section ++ text))
    (behind everything 1 (1 ∷ 0x60 ∷ 0 ∷ 0 ∷ []) (function_part ∷ ps) (function_section ++ text) (λ e. omega (arith, e)) (λ e. omega (arith, e)) four_is
    (behind everything 3 (1 ∷ 0 ∷ []) ps text (λ e. omega (arith, e)) (λ e. omega (arith, e)) two_is h))

entry : IsSized IsBytes idle_body (2 ∷ idle_body)
entry = record { size = 2 ∷ []; content = idle_body; counted = two_is; spelled = refl; whole = refl }

two_bodies_part : SpelledPart everything (code (idle_body ∷ idle_body ∷ [])) two_bodies_section
two_bodies_part = (
  0x07 ∷ 0x02 ∷ 0x02 ∷ 0x00 ∷ 0x0b ∷ 0x02 ∷ 0x00 ∷ 0x0b ∷ [],
  refl,
  record {
    size = 7 ∷ [];
    content = 0x02 ∷ 0x02 ∷ 0x00 ∷ 0x0b ∷ 0x02 ∷ 0x00 ∷ 0x0b ∷ [];
    counted = last 32 7 7 (omega arith) (lit< tt) refl;
    spelled = record {
      count = 2 ∷ [];
      values = 0x02 ∷ 0x00 ∷ 0x0b ∷ 0x02 ∷ 0x00 ∷ 0x0b ∷ [];
      counted = two_is;
      each = (2 ∷ idle_body, 2 ∷ idle_body, entry, (2 ∷ idle_body, [], entry, refl, refl), refl);
      whole = refl;
    };
    whole = refl;
  },
)

-- one entry without a byte
empty_body_part : SpelledPart everything (code ([] ∷ [])) empty_body_section
empty_body_part = (
  0x02 ∷ 0x01 ∷ 0x00 ∷ [],
  refl,
  record {
    size = 2 ∷ [];
    content = 0x01 ∷ 0x00 ∷ [];
    counted = two_is;
    spelled = single_of _ _ 0 [] (record { size = 0 ∷ []; content = []; counted = zero_is; spelled = refl; whole = refl });
    whole = refl;
  },
)

empty_body_framed : SpelledOuter everything (module_with (procedure_part ∷ function_part ∷ code ([] ∷ []) ∷ [])) (header ++ procedure_section ++ function_section ++ empty_body_section)
empty_body_framed = typed_functions (code ([] ∷ []) ∷ []) empty_body_section (empty_body_section, [], empty_body_part, refl, refl)

-- how many data segments are counted, and one that is there
abbrev count_part : ℕ → Part
count_part n = section 12 (n ∷ [])

abbrev data_part : Part
data_part = section 11 (1 ∷ 1 ∷ 0 ∷ [])

data_behind : (z : Settings) → Many (SpelledPart z) 1 (data_part ∷ []) data_section
data_behind z = behind z 11 (1 ∷ 1 ∷ 0 ∷ []) [] [] (λ e. omega (arith, e)) (λ e. omega (arith, e)) three_is refl

counted_framed : (n : ℕ) → SpelledOuter everything (module_with (count_part n ∷ data_part ∷ [])) (header ++ (0x0c ∷ 0x01 ∷ n ∷ data_section))
counted_framed n = framing everything (count_part n ∷ data_part ∷ []) (0x0c ∷ 0x01 ∷ n ∷ data_section)
    (behind everything 12 (n ∷ []) (data_part ∷ []) data_section (λ e. omega (arith, e)) (λ e. omega (arith, e)) one_is (data_behind everything))

count_framed : SpelledOuter everything (module_with (count_part 1 ∷ [])) (header ++ count_section)
count_framed = framing everything (count_part 1 ∷ []) count_section (behind everything 12 (1 ∷ []) [] [] (λ e. omega (arith, e)) (λ e. omega (arith, e)) one_is refl)

-- a tag section without tags, by whatever settings
tags_framed : (z : Settings) → SpelledOuter z (module_with (section 13 (0 ∷ []) ∷ [])) (header ++ tag_section)
tags_framed z = framing z (section 13 (0 ∷ []) ∷ []) tag_section (behind z 13 (0 ∷ []) [] [] (λ e. omega (arith, e)) (λ e. omega (arith, e)) one_is refl)

-- ---- frames that are a module

-- a function of no parameters and no results in a module without exports, and its one entry, which spells this
function_with : (Bodies : List (List ℕ) → Type 0) (m : ModuleTree) (body text : List ℕ) → m ≡ record (one_function procedure end) { code = m.code }
    → SpelledOuter everything (module_with (procedure_part ∷ function_part ∷ code (body ∷ []) ∷ [])) (header ++ procedure_section ++ function_section ++ text)
    → Bodies (body ∷ []) → SpelledModuleWith Bodies everything m (header ++ procedure_section ++ function_section ++ text)
function_with Bodies m body text e framed bodies = subst (λ (n : ModuleTree). SpelledModuleWith Bodies everything n (header ++ procedure_section ++ function_section ++ text)) (sym e) (record {
  outer = module_with (procedure_part ∷ function_part ∷ code (body ∷ []) ∷ []);
  framed = framed;
  core = record {
    version = refl;
    layer = refl;
    known = (inr (1, refl), (inr (3, refl), (inr (12, refl), tt)));
    ordered = (omega arith, (omega arith, (omega arith, tt)));
    counts = record {
      functions = 1;
      declared = inl (inr (inl (refl, record { count = 1 ∷ []; items = 0 ∷ []; counted = one_is; whole = refl })));
      defined = refl;
      segments = uncounted;
    };
  };
  sections = record {
    types = single_of _ procedure 0x60 (0x00 ∷ 0x00 ∷ []) procedure_group;
    imports = refl;
    functions = single_of _ 0 0 [] zero_is;
    tables = refl;
    memories = refl;
    tags = refl;
    tags_allowed = tt;
    globals = refl;
    exports = refl;
    start = tt;
    element_segments = refl;
    data_count = tt;
    code = bodies;
    data_segments = refl;
  };
})
  where
    uncounted : (n : ℕ) → Declares 12 n (procedure_part ∷ function_part ∷ code (body ∷ []) ∷ []) → DeclaresOrAbsent 11 n (procedure_part ∷ function_part ∷ code (body ∷ []) ∷ [])
    uncounted n (inl h) = absurd (omega (arith, h.0))
    uncounted n (inr (inl h)) = absurd (omega (arith, h.0))
    uncounted n (inr (inr h)) = absurd h

function_spelled : SpelledModule everything (one_function procedure end) (header ++ procedure_section ++ function_section ++ code_section)
function_spelled = function_with (SpelledCode everything (one_function procedure end)) (one_function procedure end) idle_body code_section refl
    (typed_functions (code (idle_body ∷ []) ∷ []) code_section (code_section, [], body_part, refl, refl)) (body_spelled, tt)

-- a function by a tree without code, whose one entry has no byte
abbrev bodiless : ModuleTree
bodiless = record (one_function procedure end) { code = [] }

empty_body_spelled : SpelledModuleWith (AreEntries everything bodiless) everything bodiless (header ++ procedure_section ++ function_section ++ empty_body_section)
empty_body_spelled = function_with (AreEntries everything bodiless) bodiless [] empty_body_section refl empty_body_framed (refl, (omega arith, tt))

-- a function has a byte at least
no_function_of_nothing : (z : Settings) (f : Function) → SpelledFunction z f [] → ⊥
no_function_of_nothing z f h = no_locals h.locals_text h.body_text h.whole (h.locals)
  where
    longer : {N v : ℕ} {text : List ℕ} → IsUnsigned N v text → 0 < length text
    longer (last N v n small fits e) = omega arith
    longer (more N v n m text large wide rest e) = omega arith

    no_number : (n : ℕ) (count values rest : List ℕ) → [] ≡ (count ++ values) ++ rest → IsUnsigned 32 n count → ⊥
    no_number n [] values rest e k = let l = longer k in omega (arith, l)
    no_number n (b ∷ bs) values rest e k = absurd cc

    no_locals : (text rest : List ℕ) → [] ≡ text ++ rest → SpelledLocals z f.locals text → ⊥
    no_locals text rest e l = no_number _ l.listed.count l.listed.values rest (e ∙ ap (λ (xs : List ℕ). xs ++ rest) l.listed.whole) l.listed.counted

no_code_of_nothing : (z : Settings) (fs : List Function) → AllZip (SpelledFunction z) fs ([] ∷ []) → ⊥
no_code_of_nothing z [] h = absurd h
no_code_of_nothing z (f ∷ fs) h = no_function_of_nothing z f h.0

-- a passive data segment without bytes
segment_spelled : SpelledData (SpelledConstant everything) passive_data (1 ∷ 0 ∷ [])
segment_spelled = record {
  flag = 1;
  flag_text = 1 ∷ [];
  behind = 0 ∷ [];
  flagged = one_is;
  spelled = inr (inl (refl, record { mode = refl; filled = record { size = 0 ∷ []; content = []; counted = zero_is; spelled = refl; whole = refl } }));
  whole = refl;
}

uncounted_spelled : SpelledModule everything (record empty { data_segments = passive_data ∷ [] }) (header ++ data_section)
uncounted_spelled = record {
  outer = module_with (data_part ∷ []);
  framed = framing everything (data_part ∷ []) data_section (data_behind everything);
  core = record {
    version = refl;
    layer = refl;
    known = (inr (13, refl), tt);
    ordered = (omega arith, tt);
    counts = record { functions = 0; declared = inr (refl, (λ e. omega (arith, e), tt)); defined = refl; segments = uncounted };
  };
  sections = record {
    types = refl;
    imports = refl;
    functions = refl;
    tables = refl;
    memories = refl;
    tags = refl;
    tags_allowed = tt;
    globals = refl;
    exports = refl;
    start = tt;
    element_segments = refl;
    data_count = tt;
    code = tt;
    data_segments = single_of _ passive_data 1 (0 ∷ []) segment_spelled;
  };
}
  where
    uncounted : (n : ℕ) → Declares 12 n (data_part ∷ []) → DeclaresOrAbsent 11 n (data_part ∷ [])
    uncounted n (inl h) = absurd (omega (arith, h.0))
    uncounted n (inr h) = absurd h

-- the count of one item is 1
counts_one : (n : ℕ) (rest : List ℕ) → Counts n (1 ∷ rest) → n ≡ 1
counts_one n rest h = (decided u32 (IsUnsigned 32) decides-u32 n 1 (1 ∷ rest) h.count h.items (1 ∷ []) rest h.whole h.counted refl one_is).0

counted_spelled : SpelledModule everything (record empty { data_count = Some 1; data_segments = passive_data ∷ [] }) (header ++ count_section ++ data_section)
counted_spelled = record {
  outer = module_with (count_part 1 ∷ data_part ∷ []);
  framed = counted_framed 1;
  core = record {
    version = refl;
    layer = refl;
    known = (inr (11, refl), (inr (13, refl), tt));
    ordered = (omega arith, (omega arith, tt));
    counts = record { functions = 0; declared = inr (refl, (λ e. omega (arith, e), (λ e. omega (arith, e), tt))); defined = refl; segments = agree };
  };
  sections = record {
    types = refl;
    imports = refl;
    functions = refl;
    tables = refl;
    memories = refl;
    tags = refl;
    tags_allowed = tt;
    globals = refl;
    exports = refl;
    start = tt;
    element_segments = refl;
    data_count = one_is;
    code = tt;
    data_segments = single_of _ passive_data 1 (0 ∷ []) segment_spelled;
  };
}
  where
    agree : (n : ℕ) → Declares 12 n (count_part 1 ∷ data_part ∷ []) → DeclaresOrAbsent 11 n (count_part 1 ∷ data_part ∷ [])
    agree n (inl h) = inl (inr (inl (refl, record { count = 1 ∷ []; items = 1 ∷ 0 ∷ []; counted = subst (λ k. IsUnsigned 32 k (1 ∷ [])) (sym (counts_one n [] h.1)) one_is; whole = refl })))
    agree n (inr (inl h)) = absurd (omega (arith, h.0))
    agree n (inr (inr h)) = absurd h

tags_spelled : SpelledModule everything empty (header ++ tag_section)
unfolding has
tags_spelled = record {
  outer = module_with (section 13 (0 ∷ []) ∷ []);
  framed = tags_framed everything;
  core = record {
    version = refl;
    layer = refl;
    known = (inr (6, refl), tt);
    ordered = (omega arith, tt);
    counts = record { functions = 0; declared = inr (refl, (λ e. omega (arith, e), tt)); defined = refl; segments = uncounted };
  };
  sections = record {
    types = refl;
    imports = refl;
    functions = refl;
    tables = refl;
    memories = refl;
    tags = none _;
    tags_allowed = refl;
    globals = refl;
    exports = refl;
    start = tt;
    element_segments = refl;
    data_count = tt;
    code = tt;
    data_segments = refl;
  };
}
  where
    uncounted : (n : ℕ) → Declares 12 n (section 13 (0 ∷ []) ∷ []) → DeclaresOrAbsent 11 n (section 13 (0 ∷ []) ∷ [])
    uncounted n (inl h) = absurd (omega (arith, h.0))
    uncounted n (inr h) = absurd h

-- ---- frames that are no module

no_exceptions : Has (all_but Exceptions) Exceptions → ⊥
unfolding has
no_exceptions h = absurd cc

no_code : IsCoreModule (module_with (procedure_part ∷ function_part ∷ [])) → ⊥
no_code h = go h.counts.functions h.counts.declared h.counts.defined
  where
    go : (n : ℕ) → DeclaresOrAbsent 3 n (procedure_part ∷ function_part ∷ []) → n ≡ 0 → ⊥
    go n (inl (inl d)) e = omega (arith, d.0)
    go n (inl (inr (inl d))) e = let f = counts_one n (0 ∷ []) d.1 in omega (arith, e, f)
    go n (inl (inr (inr d))) e = absurd d
    go n (inr a) e = a.1.1.0 refl

one_body : IsCoreModule (module_with (procedure_part ∷ function_part ∷ code (idle_body ∷ idle_body ∷ []) ∷ [])) → ⊥
one_body h = go h.counts.functions h.counts.declared h.counts.defined
  where
    go : (n : ℕ) → DeclaresOrAbsent 3 n (procedure_part ∷ function_part ∷ code (idle_body ∷ idle_body ∷ []) ∷ []) → n ≡ 2 → ⊥
    go n (inl (inl d)) e = omega (arith, d.0)
    go n (inl (inr (inl d))) e = let f = counts_one n (0 ∷ []) d.1 in omega (arith, e, f)
    go n (inl (inr (inr d))) e = absurd d
    go n (inr a) e = a.1.1.0 refl

no_segment : IsCoreModule (module_with (count_part 1 ∷ [])) → ⊥
no_segment h = go (h.counts.segments 1 (inl (refl, record { count = 1 ∷ []; items = []; counted = one_is; whole = refl })))
  where
    go : DeclaresOrAbsent 11 1 (count_part 1 ∷ []) → ⊥
    go (inl (inl d)) = omega (arith, d.0)
    go (inl (inr d)) = d
    go (inr a) = omega (arith, a.0)

one_segment : IsCoreModule (module_with (count_part 2 ∷ data_part ∷ [])) → ⊥
one_segment h = go (h.counts.segments 2 (inl (refl, record { count = 2 ∷ []; items = []; counted = two_is; whole = refl })))
  where
    go : DeclaresOrAbsent 11 2 (count_part 2 ∷ data_part ∷ []) → ⊥
    go (inl (inl d)) = omega (arith, d.0)
    go (inl (inr (inl d))) = let f = counts_one 2 (1 ∷ 0 ∷ []) d.1 in omega (arith, f)
    go (inl (inr (inr d))) = d
    go (inr a) = omega (arith, a.0)

-- ---- the rows

pub bytes_worked : BytesWorked
bytes_worked = record {
  header_alone = (
    empty,
    record {
      spelled = record {
        outer = module_with [];
        framed = record { header_text = header; parts_text = []; headed = head; each = refl; whole = refl };
        core = record {
          version = refl;
          layer = refl;
          known = tt;
          ordered = tt;
          counts = record { functions = 0; declared = inr (refl, tt); defined = refl; segments = λ n d. absurd d };
        };
        sections = record {
          types = refl;
          imports = refl;
          functions = refl;
          tables = refl;
          memories = refl;
          tags = refl;
          tags_allowed = tt;
          globals = refl;
          exports = refl;
          start = tt;
          element_segments = refl;
          data_count = tt;
          code = tt;
          data_segments = refl;
        };
      };
      valid = (functions_worked (pos 0)).nothing;
    },
  );
  start = (
    starting (one_function procedure end),
    record { spelled = started procedure (0x00 ∷ 0x00 ∷ []) (last 32 4 4 (omega arith) (lit< tt) refl) procedure_group; valid = (functions_worked (pos 0)).start },
  );
  start_takes = λ a. (functions_worked (pos 0)).start_takes (subst (IsValid everything) (one_module everything a.0 _ _ a.1.spelled takes_started) a.1.valid);
  function = (one_function procedure end, record { spelled = function_spelled; valid = (functions_worked (pos 0)).function });
  code_missing = λ a. no_code (subst IsCoreModule (one_outer everything _ _ _ a.1.spelled.framed (typed_functions [] [] refl)) a.1.spelled.core);
  body_too_many = λ a. one_body (subst IsCoreModule (one_outer everything _ _ _ a.1.spelled.framed two_bodies_framed) a.1.spelled.core);
  body_empty = λ a. no_code_of_nothing everything a.0.code (subst (λ (o : Outer). AllZip (SpelledFunction everything) a.0.code (entries_of o.parts))
      (one_outer everything _ _ _ a.1.spelled.framed empty_body_framed) a.1.spelled.sections.code);
  body_aside = (bodiless, record { spelled = empty_body_spelled; valid = valid_without_code everything (one_function procedure end) (functions_worked (pos 0)).function; code = refl });
  no_body_aside = λ a. no_code (subst IsCoreModule (one_outer everything _ _ _ a.1.spelled.framed (typed_functions [] [] refl)) a.1.spelled.core);
  uncounted = (record empty { data_segments = passive_data ∷ [] }, record { spelled = uncounted_spelled; valid = (segments_worked (pos 0)).passive_needs.0 });
  counted = (record empty { data_count = Some 1; data_segments = passive_data ∷ [] }, record { spelled = counted_spelled; valid = (segments_worked (pos 0)).counted });
  segments_missing = λ a. no_segment (subst IsCoreModule (one_outer everything _ _ _ a.1.spelled.framed count_framed) a.1.spelled.core);
  count_too_large = λ a. one_segment (subst IsCoreModule (one_outer everything _ _ _ a.1.spelled.framed (counted_framed 2)) a.1.spelled.core);
  tags = (empty, record { spelled = tags_spelled; valid = (functions_worked (pos 0)).nothing });
  tags_need = λ a. no_exceptions (tags_allowed a.0 a.1.spelled.outer (one_outer (without Exceptions) _ _ _ (tags_framed (without Exceptions)) a.1.spelled.framed) a.1.spelled.sections);
}
  where
    two_bodies_framed : SpelledOuter everything (module_with (procedure_part ∷ function_part ∷ code (idle_body ∷ idle_body ∷ []) ∷ [])) (header ++ procedure_section ++ function_section ++ two_bodies_section)
    two_bodies_framed = typed_functions (code (idle_body ∷ idle_body ∷ []) ∷ []) two_bodies_section (two_bodies_section, [], two_bodies_part, refl, refl)

    tags_allowed : (m : ModuleTree) (o : Outer) → module_with (section 13 (0 ∷ []) ∷ []) ≡ o → SpelledSections (without Exceptions) m o.parts → Has (all_but Exceptions) Exceptions
    tags_allowed m o e h = (subst (λ (k : Outer). SpelledSections (without Exceptions) m k.parts) (sym e) h).tags_allowed
