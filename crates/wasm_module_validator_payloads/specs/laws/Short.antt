-- Items that their bytes alone tell, from what the calls of the state promise.
use Rattle.std.proofs.Common.{◌≡◌, ◌∙◌, ℕ, List, length, refl, sym, ap, subst, Option, Some, None}
use Rattle.std.specs.Prelude.{IfSome}
use Rattle.wasm_types.specs.decoding.Decoder.{Grammar}
use Rattle.wasm_types.specs.settings.declared.Limits.{Limits}
use Rattle.wasm_types.specs.settings.Settings.{Settings}
use Rattle.wasm_module_validator_type_storage.specs.trees.Groups.{Group}
use Rattle.wasm_module_validator_state.specs.Items.{Items}
use Rattle.wasm_module_validator_section_order.specs.rules.Syntax.{ModuleTree}
use Rattle.wasm_module_validator_section_order.specs.rules_in_order.Between.{IsBetween}
use Rattle.wasm_module_validator_section_order.specs.rules_in_order.Sections.{Section}
use Rattle.wasm_module_validator_section_order.specs.rules_in_order.Texts.{ItemRead, AddsRead}
use Rattle.wasm_module_validator_state.specs.invariant.Standing.{IsAdded}
use Rattle.wasm_types.specs.decoding.Decoder.{State}
use Rattle.wasm_types.specs.settings.Settings.{no_features}
use Rattle.wasm_sections_items.specs.declared.segments.segment.DataOf.{DataOf}
use Rattle.wasm_sections_items.specs.declared.segments.segment.DataKindOf.TheVariants as data_kind
use Rattle.wasm_sections_items.specs.segments.Spells.{DataTree, SpelledData}
use Rattle.wasm_operators_encoding.specs.ConstantDecoder.{ConstantText}
use Rattle.wasm_module_validator_initialisers.specs.segments.Short.{IsShortData, in_first_memory}
use Rattle.wasm_module_validator_section_order.specs.rules_in_order.BetweenLaws.{between_so}
use Rattle.wasm_module_validator_section_order.specs.rules_in_order.Sections as section
use Rattle.wasm_module_validator_section_order.specs.sections.Kinds.{data_read}
use Rattle.wasm_module_validator_section_order.specs.sections.Sections.{AddsIn, reading}
use Rattle.wasm_module_validator_section_order.specs.items.Adding.{AddsShort}
use Rattle.wasm_module_validator_payloads.specs.Progress.{IsRead, kept}

-- an item between two offsets, which is added and leaves the groups of the module
pub adds_short : {T V : Type 0} (s : Section) (view : T → V) (of : T → ItemRead s) (g : Settings → Grammar V) (x : T) (groups : List Group) (i j : Items) (l : Limits)
    (text : List ℕ) (from to : ℕ) → ((z : Settings) (m n : ModuleTree) → AddsRead z s m (of x) n → n.types ≡ m.types) → IsAdded s groups i (of x) j
    → IsBetween (λ front. (z : Settings) → z.limits ≡ l → g z (view x) front) text from to → (count : ℕ)
    → AddsShort view of g (AddsIn s) (IsRead s) (kept groups i count) (kept groups j count) l text from to
adds_short s view of g x groups i j l text from to types added b count = record {
  item = x;
  front = b.front;
  whole = b.whole;
  place = b.place;
  inside = b.inside;
  spelled = b.such;
  may = λ u h. let a = added.0 u.settings u.tree h.reading in (reading u.settings a.0, (a.1, refl));
  added = λ u v h a.
      let after = added.1 u.settings u.tree v.tree h.reading a.0 in
      subst (λ (z : Settings). IsRead s (kept groups j count) (reading z v.tree)) (sym a.1)
      (record { reading = after; counted = h.counted ∙ sym (ap length (types u.settings u.tree v.tree a.0)) });
}

-- a data segment of the code at such a number
segment : List ℕ → List ℕ → DataOf State
segment constant content = record {
  kind = data_kind.Active 0 (record { rest = constant; place = 0; settings = no_features; start = 0 });
  bytes = record { ref_ptr = (0, 0); now = content };
  range = record { start = 0; end = 0 };
}

-- what such bytes are
abbrev pub in_first : {text : List ℕ} {from to : ℕ} → IsShortData text from to → DataTree (List ℕ)
in_first s = in_first_memory s.constant s.content

-- a data segment at a number, of which nothing is kept
pub adds_data : (groups : List Group) (i : Items) (l : Limits) (text : List ℕ) (from to : ℕ) (s : IsShortData text from to)
    → IsAdded section.data_segments groups i (in_first_memory s.constant s.content) i → (count : ℕ)
    → AddsShort data_read data_read (λ z. SpelledData (ConstantText z)) (AddsIn section.data_segments) (IsRead section.data_segments) (kept groups i count) (kept groups i count) l text from to
unfolding segment
adds_data groups i l text from to s added =
    adds_short section.data_segments data_read data_read (λ z. SpelledData (ConstantText z)) (segment s.constant s.content) groups i i l text from to
    (λ z m n h. ap (λ (t : ModuleTree). t.types) h.2.added) added (between_so _ _ text from to (λ t h z same. h z) s.bytes)

-- what holds whatever the answer is
pub some_always : {X : Type 0} (r : Option X) (P : Type 0) → P → IfSome r (λ x. P)
some_always (Some x) P h = h
some_always None P h = tt

-- what follows of what holds of an answer
pub some_from : {X : Type 0} (r : Option X) (P Q : X → Type 0) → ((x : X) → P x → Q x) → IfSome r P → IfSome r Q
some_from (Some x) P Q f h = f x h
some_from None P Q f h = tt
