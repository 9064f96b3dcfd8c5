-- A group for which the list of types has no room is one of the section, and the types before it are those of the groups before it.
use Rattle.std.proofs.Common.{◌≡◌, ◌∙◌, ◌<◌, List, [], ◌∷◌, ◌++◌, refl, sym, ap, subst, append_assoc}
use Rattle.std.proofs.lemmas.List.{append-nil}
use Rattle.wasm_types.specs.decoding.ErrorValue.{ErrorValue}
use Rattle.wasm_types.specs.settings.Settings.{Settings}
use Rattle.wasm_types.specs.trees.ValidGroup.{Written}
use Rattle.wasm_module_validator_type_groups.specs.adding.Interned.{space_of}
use Rattle.wasm_module_validator_section_order.specs.items.Adding.{AddsEach, IsFullFor}
use Rattle.wasm_module_validator_section_order.specs.declared.items.bodies.Body.{Body}
use Rattle.wasm_module_validator_declarations.specs.Total.{HasGroupNext, IsPastTotal}
use Rattle.wasm_module_validator_declarations.specs.TotalLaws.{past_by}
use Rattle.wasm_module_validator_section_order.specs.rules.Spaces.{types_behind}
use Rattle.wasm_module_validator_section_order.specs.rules.Syntax.{ModuleTree}
use Rattle.wasm_module_validator_section_order.specs.rules_in_order.Sections.{Section, before, place}
use Rattle.wasm_module_validator_section_order.specs.rules_in_order.Sections as section
use Rattle.wasm_module_validator_section_order.specs.rules_in_order.Steps.{SoFar}
use Rattle.wasm_module_validator_section_order.specs.rules_in_order.Texts.{ItemRead}
use Rattle.wasm_module_validator_section_order.specs.sections.Sections.{AddsIn, Reading, reading}
use Rattle.wasm_module_validator_payloads.specs.Progress.{FullIn, FullWhere, Grows, HasItem, IsAt, IsRead, Kept, Progress}
use Rattle.wasm_module_validator_payloads.specs.laws.Growing.{total_before}
use Rattle.wasm_module_validator_payloads.specs.laws.Taking.{is_behind, starts, unread}

-- groups that are added one after the other stand behind those that there were
groups_added : (u : Reading) (front : List Written) (v : Reading) → AddsEach (AddsIn section.types) u front v → v.tree.types ≡ u.tree.types ++ front
groups_added u [] v e = ap (λ (w : Reading). w.tree.types) (sym e) ∙ sym (append-nil u.tree.types)
groups_added u (x ∷ xs) v (k, a, more) =
    let here : k.tree.types ≡ u.tree.types ++ x ∷ [] =
    ap (λ (m : ModuleTree). m.types) a.0.2.added ∙ ap (λ (g : Written). u.tree.types ++ g ∷ []) a.0.1 in
    groups_added k xs v more ∙ (ap (λ (gs : List Written). gs ++ xs) here ∙ append_assoc u.tree.types (x ∷ []) xs)

types_past : (r : Progress) (Is : List Written → Written → Type 0) (first : Kept) → first ≡ r.kept → r.last < place section.types → (e : ErrorValue)
    → IsFullFor Is (AddsIn section.types) (IsRead section.types) Grows (λ k x f. FullIn section.types k.groups k.items x f) first e
    → (z : Settings) (p : SoFar) (bodies : List Body) → IsAt z r bodies p → IsPastTotal r.kept.groups r.kept.items (HasItem section.types Is) e
types_past r Is first same order e f z p bodies at =
    let o = is_behind z p r bodies at section.types order in
    let none : p.tree ≡ before section.types p.tree = unread z p r bodies at section.types o in
    let empty : p.tree.types ≡ [] = ap (λ (m : ModuleTree). m.types) none in
    let here = subst (λ (k : Kept). IsRead section.types k (reading z p.tree)) (sym same) (starts z p r bodies at section.types o) in
    let k = f.some (reading z p.tree) here in
    let all : k.0.tree.types ≡ f.front = groups_added (reading z p.tree) f.front k.0 k.1 ∙ ap (λ (gs : List Written). gs ++ f.front) empty in
    let types : space_of f.state.groups f.state.items.spaces.types ≡ types_behind [] f.front =
    k.2.reading.stands.read.types ∙ ap (λ (gs : List Written). types_behind [] gs) all in
    let grown = subst (λ (j : Kept). Grows j f.state) same f.grown in
    past_by r.kept.groups r.kept.items (HasGroupNext f.state.groups f.state.items f.item) (HasItem section.types Is) e (λ b n h. (f.front, f.item, f.is, h.0 ∙ types, h.1))
    (total_before r.kept f.state (HasGroupNext f.state.groups f.state.items f.item) e grown f.full.1)

pub full_where : (s : Section) (r : Progress) (Is : List (ItemRead s) → ItemRead s → Type 0) (first : Kept) → first ≡ r.kept → r.last < place s
    → (e : ErrorValue) → IsFullFor Is (AddsIn s) (IsRead s) Grows (λ k x f. FullIn s k.groups k.items x f) first e → FullWhere r s (HasItem s Is) e
full_where section.types r Is first same order e f = (refl, types_past r Is first same order e f)
full_where section.imports r Is first same order e f = absurd (let other : section.imports ≡ section.types = f.full.0 in cc)
full_where section.functions r Is first same order e f = absurd (let other : section.functions ≡ section.types = f.full.0 in cc)
full_where section.tables r Is first same order e f = absurd (let other : section.tables ≡ section.types = f.full.0 in cc)
full_where section.memories r Is first same order e f = absurd (let other : section.memories ≡ section.types = f.full.0 in cc)
full_where section.tags r Is first same order e f = absurd (let other : section.tags ≡ section.types = f.full.0 in cc)
full_where section.globals r Is first same order e f = absurd (let other : section.globals ≡ section.types = f.full.0 in cc)
full_where section.exports r Is first same order e f = absurd (let other : section.exports ≡ section.types = f.full.0 in cc)
full_where section.start r Is first same order e f = absurd (let other : section.start ≡ section.types = f.full.0 in cc)
full_where section.element_segments r Is first same order e f = absurd (let other : section.element_segments ≡ section.types = f.full.0 in cc)
full_where section.data_count r Is first same order e f = absurd (let other : section.data_count ≡ section.types = f.full.0 in cc)
full_where section.data_segments r Is first same order e f = absurd (let other : section.data_segments ≡ section.types = f.full.0 in cc)
