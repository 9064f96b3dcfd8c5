-- Items as they are read are added exactly where items that they stand for are.
use Rattle.std.proofs.Common.{List, [], ◌∷◌}
use Rattle.std.specs.Prelude.{◌↔◌}
use Rattle.std.specs.List.{AllZip}
use Rattle.wasm_types.specs.settings.Settings.{Settings}
use Rattle.wasm_module_validator_rules.specs.Syntax.{ModuleTree}
use Rattle.wasm_module_validator_rules_in_order.specs.Sections.{Section, Item}
use Rattle.wasm_module_validator_rules_in_order.specs.Adding.{Adds, AddsEach}
use Rattle.wasm_module_validator_rules_in_order.specs.Texts.{ItemRead, StandsFor, AddsRead}

module _ {M A B : Type 0} (stands : B → A → Type 0) (adds : M → A → M → Type 0) where
  -- what is added by what stands for it
  abbrev AddsWhat : M → B → M → Type 0
  AddsWhat m t n = (x : A) × stands t x × adds m x n

  each_goes : (m n : M) (ts : List B) → AddsEach AddsWhat m ts n → (xs : List A) × AllZip stands ts xs × AddsEach adds m xs n
  each_goes m n [] h = ([], tt, h)
  each_goes m n (t ∷ ts) h =
      let rest = each_goes h.0 n ts h.2 in
      (h.1.0 ∷ rest.0, (h.1.1, rest.1), (h.0, h.1.2, rest.2))

  each_comes : (m n : M) (ts : List B) (xs : List A) → AllZip stands ts xs → AddsEach adds m xs n → AddsEach AddsWhat m ts n
  each_comes m n [] [] z h = h
  each_comes m n [] (x ∷ xs) z h = absurd z
  each_comes m n (t ∷ ts) [] z h = absurd z
  each_comes m n (t ∷ ts) (x ∷ xs) z h = (h.0, (x, z.0, h.1), each_comes h.0 n ts xs z.1 h.2)

pub items_read : (z : Settings) (s : Section) (m n : ModuleTree) (ts : List (ItemRead s))
    → AddsEach (AddsRead z s) m ts n ↔ ((xs : List (Item s)) × AllZip (StandsFor z s) ts xs × AddsEach (Adds z s) m xs n)
items_read z s m n ts = (each_goes (StandsFor z s) (Adds z s) m n ts, λ h. each_comes (StandsFor z s) (Adds z s) m n ts h.0 h.1 h.2)
