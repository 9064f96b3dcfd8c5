-- A global whose value one pass over its bytes judges is valid, and is added.
use Rattle.std.proofs.Common.{◌≡◌, ◌≤◌, ◌<◌, ◌∙◌, ℕ, ◌+◌, ◌-◌, List, [], ◌∷◌, ◌++◌, Result, Ok, refl, sym, ap, subst, arith, length, take, drop}
use Rattle.std.proofs.lemmas.List.{drop-drop, length-append, length-drop}
use Rattle.wasm_types.specs.decoding.Decoder.{State, Done}
use Rattle.wasm_types.specs.decoding.ErrorValue.{ErrorValue}
use Rattle.wasm_types.specs.externs.declared.global.GlobalType.{GlobalType}
use Rattle.wasm_types.specs.externs.Decode.{global_type}
use Rattle.wasm_types.specs.externs.DecodeLaws.{decides-global_type}
use Rattle.wasm_types.specs.externs.Spells.{SpelledGlobal}
use Rattle.wasm_operator_validator_rules.specs.constants.Constants.{IsConstant}
use Rattle.wasm_operator_validator_rules.specs.Operands.{ValueType}
use Rattle.wasm_operator_validator_rules.specs.Context.{Global, Module}
use Rattle.wasm_operator_validator_state.specs.resources.Meaning.{Meaning, type_in}
use Rattle.wasm_sections_items.specs.segments.Spells.{GlobalTree}
use Rattle.wasm_module_validator_checks.specs.rules.Spaces.{value_in}
use Rattle.wasm_module_validator_type_storage.specs.trees.Groups.{Group}
use Rattle.wasm_module_validator_resources.specs.rules_in_order.Between.{IsBetween}
use Rattle.wasm_module_validator_resources.specs.rules_in_order.BetweenLaws.{InTurn, in_turn, between_so, bytes_between}
use Rattle.wasm_module_validator_state.specs.Adding.{adding_global}
use Rattle.wasm_module_validator_state.specs.Items.{Items}
use Rattle.wasm_module_validator_state.specs.invariant.Standing.{constants_of}
use Rattle.wasm_module_validator_fast_constants.specs.Steps.{IsShortConstant}
use Rattle.wasm_module_validator_initialisers.specs.adding.Short.{AddsGlobal, IsTypedGlobal, SpellsGlobal}
use Rattle.wasm_module_validator_initialisers.proofs.NewGlobals.{global_told, global_added}
use Rattle.wasm_module_validator_initialisers.proofs.Parts.{global_is}
use Rattle.wasm_module_validator_initialisers.proofs.ShortWalks.{refers_to}

-- ---- bytes

-- what is read from an offset on is between it and what is left
between_read : (P : List ℕ → Type 0) (text : List ℕ) (i : ℕ) (front rest : List ℕ) → i ≤ length text → drop i text ≡ front ++ rest → P front
    → IsBetween P text i (length text - length rest)
between_read P text i front rest inside whole such =
    let some : length (drop i text) ≡ length front + length rest = ap length whole ∙ length-append front rest in
    let all = length-drop i text in
    let end : length text - length rest ≡ i + length front = omega (arith, some, all, inside) in
    let left : rest ≡ drop (length text - length rest) text
    = sym (past front) ∙ ap (drop (length front)) (sym whole) ∙ drop-drop (length front) i text ∙ ap (λ (k : ℕ). drop k text) (sym end) in
    record { front = front; whole = whole ∙ ap (λ (r : List ℕ). front ++ r) left; place = end; inside = omega (arith, some, all, inside); such = such }
  where
    past : (xs : List ℕ) → drop (length xs) (xs ++ rest) ≡ rest
    past [] = refl
    past (x ∷ xs) = past xs

pub type_between : (text slice : List ℕ) (i : ℕ) (s t : State) (ty : GlobalType) → i ≤ length text → slice ≡ drop i text → s.rest ≡ slice → global_type s ≡ Done ty t
    → IsBetween (SpelledGlobal ty) text i (length text - length t.rest)
type_between text slice i s t ty inside is rest read =
    let (front, takes, spelled) = decides-global_type.sound s t ty read in
    between_read (SpelledGlobal ty) text i front t.rest inside (sym is ∙ sym rest ∙ takes.parts) spelled

-- the bytes of a constant
pub value_between : {bits : ℕ} {g : Module} {t : ValueType} (text : List ℕ) (i j : ℕ) → IsShortConstant bits g t text i j [] → IsBetween (λ r. r ≡ take (j - i) (drop i text)) text i j
value_between text i j s =
    let n : i + (j - i) ≡ j = omega (arith, s.forward) in
    let b = bytes_between text i (j - i) (omega (arith, n, s.inside)) in
    subst (λ (k : ℕ). IsBetween (λ r. r ≡ take (j - i) (drop i text)) text i k) n b

-- ---- the global

-- an answer that is no refusal
went_well : Result (Unit {0}) ErrorValue
went_well = Ok tt

module _ (groups : List Group) (s : Items) (text : List ℕ) (i j e : ℕ) (ty named : GlobalType) (typed : IsBetween (SpelledGlobal ty) text i j)
    (h : IsTypedGlobal s.spaces.settings (constants_of groups s.spaces) ty named text j e) where
  abbrev written : List ℕ
  written = take (e - j) (drop j text)

  abbrev item : GlobalTree (List ℕ)
  item = record { ty = ty; init = written }

  abbrev Seen : Meaning
  Seen = constants_of groups s.spaces

  bytes : IsBetween (SpellsGlobal item) text i e
  bytes =
      between_so (InTurn (SpelledGlobal ty) (λ r. r ≡ written)) (SpellsGlobal item) text i e
      (λ t (type_text, init_text, type_is, init_is, whole) z. record {
        type_text = type_text;
        init_text = written;
        typed = type_is;
        initialised = (refl, record { code = h.value.code; spelled = h.value.spelled z; once = h.value.once });
        whole = whole ∙ ap (λ (r : List ℕ). type_text ++ r) init_is;
      })
      (in_turn (SpelledGlobal ty) (λ r. r ≡ written) text i j e typed (value_between text j e h.value))

  -- the type of the value is that of the global
  value_is : type_in Seen named.content_type ≡ value_in Seen.«module».types ty.content_type
  value_is = ap (λ (g : Global). g.content) h.same

  pub accepted_global : (k : Items) → length s.spaces.globals < s.spaces.settings.limits.globals → k ≡ record s { spaces = adding_global named s.spaces } → AddsGlobal groups s k text i e
  unfolding went_well
  accepted_global k room is =
      let z = s.spaces.settings in
      let c = h.value.code in
      let fits = subst (λ (t : ValueType). IsConstant z.features Seen.«module» s.spaces.imported_globals t c) value_is (h.value.constant s.spaces.imported_globals) in
      let checks = global_is z Seen s.spaces.imported_globals item h.valid (c, h.value.spelled z, fits) in
      let names = refers_to z c [] written [] [] (h.value.spelled z) h.value.named refl in
      record { item = item; bytes = bytes; added = (global_told groups s item tt checks room, global_added groups s item named [] k h.same names is) }
