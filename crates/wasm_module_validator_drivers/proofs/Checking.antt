-- Data segments that are checked change nothing that is kept.
use Rattle.std.proofs.Common.{◌≡◌, ◌∙◌, List, [], ◌∷◌, length, Result, Ok, Err, IfErr, refl, sym, ap, subst}
use Rattle.std.specs.Prelude.{OnOk}
use Rattle.wasm_types.specs.decoding.Denials.{Tells}
use Rattle.wasm_types.specs.decoding.ErrorValue.{ErrorValue}
use Rattle.wasm_types.specs.settings.Settings.{Settings}
use Rattle.wasm_module_validator_section_order.specs.items.Adding.{AddsEach}
use Rattle.wasm_module_validator_section_order.specs.sections.Sections.{Reading, AddsIn, RefusesIn}
use Rattle.wasm_module_validator_type_storage.specs.trees.Groups.{Group}
use Rattle.wasm_module_validator_payloads.specs.state.Items.{Items}
use Rattle.wasm_module_validator_section_order.specs.rules.Syntax.{ModuleTree}
use Rattle.wasm_module_validator_section_order.specs.rules_in_order.Sections as section
use Rattle.wasm_module_validator_section_order.specs.rules_in_order.Sections.{up_to}
use Rattle.wasm_module_validator_section_order.specs.rules_in_order.Texts.{ItemRead}
use Rattle.wasm_module_validator_payloads.specs.state.invariant.Standing.{TellsItem}
use Rattle.wasm_module_validator_payloads.specs.state.invariant.laws.Behind.{data_stand, still_last}
use Rattle.wasm_module_validator_payloads.specs.Progress.{Kept, IsRead}
use Rattle.wasm_module_validator_payloads.proofs.Adding.{told_one, refused_one}

-- ---- what is kept stands for the tree with the segment too

one_kept : (k : Kept) (u v : Reading) (t : ItemRead section.data_segments) → IsRead section.data_segments k u → AddsIn section.data_segments u t v → IsRead section.data_segments k v
one_kept k u v t h ((x, spelled, adds), same) =
    subst (λ (z : Settings). IsRead section.data_segments k (record { settings = z; tree = v.tree })) (sym same) (record {
      reading = record {
        stands = data_stand k.groups k.items u.settings u.tree h.reading.stands x v.tree adds;
        last = subst (λ (m : ModuleTree). m ≡ up_to section.data_segments m) (sym adds.added) (still_last section.data_segments u.tree x h.reading.last);
      };
      counted = h.counted ∙ sym (ap length (ap (λ (m : ModuleTree). m.types) adds.added));
    })

pub each_kept : (k : Kept) (items : List (ItemRead section.data_segments)) (u v : Reading) → IsRead section.data_segments k u
    → AddsEach (AddsIn section.data_segments) u items v → IsRead section.data_segments k v
each_kept k [] u v h e = subst (IsRead section.data_segments k) e h
each_kept k (x ∷ xs) u v h (w, a, rest) = each_kept k xs w v (one_kept k u w x h a) rest

-- what holds in any case holds where a call succeeded
pub always : {X : Type 0} (result : Result X ErrorValue) (P : Type 0) → P → OnOk result P
always (Ok u) P p = p
always (Err e) P p = tt

-- ---- a segment

module _ (k : Kept) (groups : List Group) (items : Items) (g : groups ≡ k.groups) (i : items ≡ k.items) (x : ItemRead section.data_segments) (result : Result (Unit {0}) ErrorValue) where
  pub segment_told : TellsItem section.data_segments groups items x result → TellsItem section.data_segments k.groups k.items x result
  segment_told h =
      subst (λ (gs : List Group). TellsItem section.data_segments gs k.items x result) g
      (subst (λ (it : Items). TellsItem section.data_segments groups it x result) i h)

  pub segment_answer : TellsItem section.data_segments groups items x result → (m : Reading) → IsRead section.data_segments k m
      → Tells result ((v : Reading) × AddsIn section.data_segments m x v)
  segment_answer h m r = told_one m.settings m.tree section.data_segments x result (segment_told h m.settings m.tree r.reading)

  pub segment_added : OnOk result ((u v : Reading) → IsRead section.data_segments k u → AddsIn section.data_segments u x v → IsRead section.data_segments k v)
  segment_added = always result _ (λ u v h a. one_kept k u v x h a)

  pub segment_refused : TellsItem section.data_segments groups items x result
      → IfErr result (λ e. (u : Reading) → IsRead section.data_segments k u → RefusesIn section.data_segments u x 0 e)
  segment_refused h = refused_one section.data_segments x result k k refl 0 (λ z m r. segment_told h z m r.reading)
