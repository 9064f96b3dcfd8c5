-- A global that its bytes alone tell is valid, and is added.
use Rattle.std.proofs.Common.{◌≡◌, ◌≤◌, ◌<◌, ◌∙◌, ℕ, ◌+◌, ◌-◌, List, [], ◌∷◌, ◌++◌, Bool, true, false, Result, Ok, Some, refl, sym, ap, subst, arith, length, take, drop, get_or, slice_get}
use Rattle.std.proofs.lemmas.List.{drop_more, length-drop}
use Rattle.std.specs.Prelude.{option_map}
use Rattle.wasm_types.specs.settings.Settings.{Settings}
use Rattle.wasm_types.specs.settings.Features.{Gc, has}
use Rattle.wasm_types.specs.trees.Types.{number, i32, i64}
use Rattle.wasm_types.specs.trees.Trees.{TypeTree}
use Rattle.wasm_types.specs.trees.Below.{Below}
use Rattle.wasm_types.specs.trees.laws.Below.{below_reflexive}
use Rattle.wasm_types.specs.decoding.ErrorValue.{ErrorValue}
use Rattle.wasm_types.specs.externs.declared.global.GlobalType.{GlobalType}
use Rattle.wasm_types.specs.externs.Spells.{bit, SpelledGlobal}
use Rattle.wasm_operators_enums.specs.declared.memory.MemoryOperator.TheVariants as memory
use Rattle.wasm_operators_enums.specs.Op as op
use Rattle.wasm_operators_enums.specs.Op.{Op}
use Rattle.wasm_operators_encoding.specs.expressions.Code.{Code}
use Rattle.wasm_operators_encoding.specs.expressions.Spelling.{SpelledExpression}
use Rattle.wasm_operators_bodies.specs.declared.short.ShortConstant.{ShortConstant}
use Rattle.wasm_operators_bodies.specs.declared.short.ShortConstant.TheVariants as short
use Rattle.wasm_operators_bodies.specs.Short.{alone, SpellsShort}
use Rattle.wasm_operators_bodies.specs.ShortLaws.{short_is_constant}
use Rattle.wasm_operator_validator_state.specs.resources.Meaning.{Meaning, type_in, global_in}
use Rattle.wasm_operator_validator_rules.specs.Context.{Module}
use Rattle.wasm_operator_validator_rules.specs.Operands.{ValueType}
use Rattle.wasm_operator_validator_rules.specs.constants.Constants.{IsConstant}
use Rattle.wasm_sections_items.specs.segments.Spells.{GlobalTree}
use Rattle.wasm_module_validator_checks.specs.rules.Spaces.{global_in as global_written, referred_in, value_in}
use Rattle.wasm_module_validator_checks.specs.rules.Valid.{IsValidGlobalType}
use Rattle.wasm_module_validator_type_storage.specs.trees.Groups.{Group}
use Rattle.wasm_module_validator_resources.specs.rules_in_order.Between.{IsBetween}
use Rattle.wasm_module_validator_resources.specs.rules_in_order.BetweenLaws.{InTurn, in_turn, between_so, bytes_between}
use Rattle.wasm_module_validator_resources.specs.rules_in_order.Sections as section
use Rattle.wasm_module_validator_resources.specs.referring.Naming.{NamesMore}
use Rattle.wasm_module_validator_state.specs.Adding.{adding_global}
use Rattle.wasm_module_validator_state.specs.Items.{Items}
use Rattle.wasm_module_validator_state.specs.invariant.Standing.{constants_of, IsAdded}
use Rattle.wasm_module_validator_initialisers.specs.segments.Judged.{IsGlobal}
use Rattle.wasm_module_validator_initialisers.specs.segments.NumberLaws.{i32_text, i64_text}
use Rattle.wasm_module_validator_initialisers.proofs.ShortConstants.{FitsGlobal, global_fits}
use Rattle.wasm_module_validator_initialisers.specs.adding.Short.{HoldsInteger, IsInteger, SpellsGlobal, integer, integer_byte, integer_global, integer_type}
use Rattle.wasm_module_validator_initialisers.proofs.NewGlobals.{global_told, global_added}
use Rattle.wasm_module_validator_initialisers.proofs.Parts.{global_is}
use Rattle.wasm_module_validator_initialisers.proofs.ShortWalks.{refers_to}

-- ---- what the code asks

type_is : (m : Meaning) (wide : Bool) → type_in m (integer_type wide) ≡ number (integer wide)
unfolding type_in
type_is m true = refl
type_is m false = refl

-- a global that is not written, by its type
pub holds : (m : Meaning) (wide : Bool) (x : ℕ) (t : GlobalType) → option_map (global_in m) (Some t) ≡ slice_get m.«module».globals x → t.mutable ≡ false
    → t.content_type ≡ integer_type wide → HoldsInteger m.«module» wide x
holds m wide x t there kept is = (global_in m t, sym there, kept, ap (type_in m) is ∙ type_is m wide)

-- the two bytes of a type
pub type_there : (text : List ℕ) (i : ℕ) (wide mutable : Bool) → i ≤ length text → 2 ≤ length text - i → get_or text i 0 ≡ integer_byte wide → get_or text (i + 1) 0 ≡ bit mutable
    → IsBetween (λ t. t ≡ integer_byte wide ∷ bit mutable ∷ []) text i (i + 2)
type_there text i wide mutable within two first second =
    let p = drop_more text i 0 (omega (arith, two)) in
    let q = drop_more text (i + 1) 0 (omega (arith, two)) in
    let n : i + 1 + 1 ≡ i + 2 = omega arith in
    record {
      front = get_or text i 0 ∷ get_or text (i + 1) 0 ∷ [];
      whole = p ∙ ap (λ (r : List ℕ). get_or text i 0 ∷ r) (q ∙ ap (λ (k : ℕ). get_or text (i + 1) 0 ∷ drop k text) n);
      place = omega arith;
      inside = omega (arith, two, within);
      such = rw (first, second) refl;
    }

-- ---- a constant of one operator

module _ (z : Settings) (g : Module) (count : ℕ) (wide : Bool) where
  abbrev Own : ValueType
  Own = number (integer wide)

  -- of the same type is of the type
  fitting : (x : ℕ) → HoldsInteger g wide x → FitsGlobal g Own x
  fitting x (v, there, kept, is) = (v, there, kept, subst (λ (t : ValueType). Below t Own) (sym is) (below_reflexive Own))

  -- it is a constant of the type, and refers to no function
  abbrev Told : List ℕ → Type 0
  Told text = (c : Code) × SpelledExpression z c text × IsConstant z.features g count Own c × NamesMore z text [] []

  told : (o : Op) (text : List ℕ) → SpelledExpression z (alone o) text → IsConstant z.features g count Own (alone o) → referred_in (alone o) ≡ [] → Told text
  told o text spelled fits none = (alone o, spelled, fits, refers_to z (alone o) [] text [] [] spelled none refl)

pub integer_told : (z : Settings) (g : Module) (count : ℕ) (wide : Bool) (c : ShortConstant) (text : List ℕ) → SpellsShort c text → IsInteger (has Gc z.features) g wide c → Told z g count wide text
integer_told z g count true short.I32 text h e = absurd cc
integer_told z g count false short.I32 text h e =
    let (o, (n, is), spelled) = h z in
    let (c, again, fits) = i32_text z g count text h in
    (c, again, fits, refers_to z (alone o) [] text [] [] spelled (rw is refl) refl)
integer_told z g count false short.I64 text h e = absurd cc
integer_told z g count true short.I64 text h e =
    let (o, (n, is), spelled) = h z in
    let (c, again, fits) = i64_text z g count text h in
    (c, again, fits, refers_to z (alone o) [] text [] [] spelled (rw is refl) refl)
integer_told z g count wide (short.Global x) text h e =
    let (o, is, spelled) = h z in
    told z g count wide (op.Memory (memory.GlobalGet x)) text (subst (λ (p : Op). SpelledExpression z (alone p) text) is spelled) (global_fits z.features g (Own z g count wide) x e.0 (fitting z g count wide x e.1) count) refl
integer_told z g count wide (short.Function x) text h e = absurd e
integer_told z g count wide (short.Null t) text h e = absurd e

-- ---- the global

-- an answer that is no refusal
went_well : Result (Unit {0}) ErrorValue
went_well = Ok tt

valid_type : (z : Settings) (g : Module) (wide mutable : Bool) → IsValidGlobalType z g (integer_global wide mutable)
valid_type z g true mutable = record { content = (number i64, record { allowed = tt; known = tt; is = refl }); shared = λ s. absurd cc }
valid_type z g false mutable = record { content = (number i32, record { allowed = tt; known = tt; is = refl }); shared = λ s. absurd cc }

value_is : (ts : List TypeTree) (wide : Bool) → number (integer wide) ≡ value_in ts (integer_type wide)
value_is ts true = refl
value_is ts false = refl

same_type : (m : Meaning) (wide mutable : Bool) → global_in m (integer_global wide mutable) ≡ global_written m.«module».types (integer_global wide mutable)
unfolding type_in
same_type m true mutable = refl
same_type m false mutable = refl

module _ (groups : List Group) (i : Items) (wide mutable : Bool) (constant : List ℕ) where
  abbrev item : GlobalTree (List ℕ)
  item = record { ty = integer_global wide mutable; init = constant }

  abbrev Seen : Meaning
  Seen = constants_of groups i.spaces

  checks : Told i.spaces.settings Seen.«module» i.spaces.imported_globals wide constant → IsGlobal i.spaces.settings Seen.«module» i.spaces.imported_globals item
  checks (c, spelled, fits, none) =
      global_is i.spaces.settings Seen i.spaces.imported_globals item (valid_type i.spaces.settings Seen.«module» wide mutable)
      (c, spelled, subst (λ (t : ValueType). IsConstant i.spaces.settings.features Seen.«module» i.spaces.imported_globals t c) (value_is Seen.«module».types wide) fits)

  pub integer_added : (j : Items) → Told i.spaces.settings Seen.«module» i.spaces.imported_globals wide constant → length i.spaces.globals < i.spaces.settings.limits.globals
      → j ≡ record i { spaces = adding_global (integer_global wide mutable) i.spaces } → IsAdded section.globals groups i item j
  unfolding went_well
  integer_added j h room e = (
    global_told groups i item tt (checks h) room,
    global_added groups i item (integer_global wide mutable) [] j (same_type Seen wide mutable) h.3 e,
  )

-- ---- its bytes

module _ (text : List ℕ) (i long : ℕ) (wide mutable : Bool) (c : ShortConstant) where
  abbrev written : List ℕ
  written = take long (drop (i + 2) text)

  abbrev Parts : List ℕ → Type 0
  Parts = InTurn (λ t. t ≡ integer_byte wide ∷ bit mutable ∷ []) (λ t. t ≡ written)

  typed_by : (w m : Bool) → SpelledGlobal (integer_global w m) (integer_byte w ∷ bit m ∷ [])
  typed_by true true = record { content = 0x7e ∷ []; stored = refl; whole = refl }
  typed_by true false = record { content = 0x7e ∷ []; stored = refl; whole = refl }
  typed_by false true = record { content = 0x7f ∷ []; stored = refl; whole = refl }
  typed_by false false = record { content = 0x7f ∷ []; stored = refl; whole = refl }

  spells : SpellsShort c written → (t : List ℕ) → Parts t → SpellsGlobal (record { ty = integer_global wide mutable; init = written }) t
  spells h t (type_text, init_text, type_is, init_is, whole) z = record {
    type_text = integer_byte wide ∷ bit mutable ∷ [];
    init_text = written;
    typed = typed_by wide mutable;
    initialised = (refl, short_is_constant c written h z);
    whole = whole ∙ ap (λ (r : List ℕ). r ++ init_text) type_is ∙ ap (λ (r : List ℕ). integer_byte wide ∷ bit mutable ∷ r) init_is;
  }

  pub global_between : IsBetween (λ t. t ≡ integer_byte wide ∷ bit mutable ∷ []) text i (i + 2) → SpellsShort c written → long ≤ length (drop (i + 2) text)
      → IsBetween (SpellsGlobal (record { ty = integer_global wide mutable; init = written })) text i (i + 2 + long)
  global_between typed h room =
      let some = length-drop (i + 2) text in
      between_so Parts (SpellsGlobal (record { ty = integer_global wide mutable; init = written })) text i (i + 2 + long) (spells h)
      (in_turn _ _ text i (i + 2) (i + 2 + long) typed (bytes_between text (i + 2) long (omega (arith, some, room, typed.inside))))
