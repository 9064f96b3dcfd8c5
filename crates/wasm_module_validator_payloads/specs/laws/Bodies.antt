-- The code section and its bodies: what is kept stands for what was judged with them.
use Rattle.std.proofs.Common.{◌≡◌, ◌∙◌, ◌<◌, ◌≤◌, ◌+◌, ℕ, zero, suc, List, [], ◌∷◌, ◌++◌, length, map, take, refl, sym, ap, subst, arith, Option, Some, None, slice_get}
use Rattle.std.specs.Prelude.{option_map, true}
use Rattle.std.proofs.lemmas.Option.{slice_get-map}
use Rattle.std.proofs.lemmas.List.{length-map, map-append, length_push}
use Rattle.wasm_types.specs.settings.Settings.{Settings}
use Rattle.wasm_types.specs.decoding.Denials.{Denies}
use Rattle.wasm_types.specs.decoding.DenialLaws.{denies_from}
use Rattle.wasm_types.specs.decoding.declared.error.ErrorKind.{ErrorKind}
use Rattle.wasm_sections_parser.specs.Steps as frame
use Rattle.wasm_module_validator_resources.specs.index_spaces.declared.module.Function.{Function}
use Rattle.wasm_module_validator_state.specs.invariant.so_far.SoFar.{entry_of}
use Rattle.wasm_module_validator_section_order.specs.items.Bodies.{IsReadBy}
use Rattle.wasm_module_validator_section_order.specs.declared.items.bodies.Body.{Body}
use Rattle.wasm_module_validator_section_order.specs.rules.Spaces.{FunctionEntry, imported, function_of, function_with, function_space}
use Rattle.wasm_module_validator_section_order.specs.rules_in_order.contexts.laws.Lists.{each_joined}
use Rattle.wasm_module_validator_section_order.specs.rules_in_order.Sections.{code_place}
use Rattle.wasm_module_validator_section_order.specs.rules_in_order.Steps.{SoFar, JudgesBody}
use Rattle.wasm_module_validator_section_order.specs.rules_in_order.laws.Judged.{shape_keeps}
use Rattle.wasm_module_validator_payloads.specs.Progress.{Progress, IsAt, text_of, type_of}

-- ---- lists

past : {A : Type 0} (xs ys : List A) (n : ℕ) → slice_get (xs ++ ys) (length xs + n) ≡ slice_get ys n
past [] ys n = ap (slice_get ys) (omega arith)
past (x ∷ xs) ys n =
    let e : length (x ∷ xs) + n ≡ suc (length xs + n) = omega arith in
    ap (slice_get (x ∷ (xs ++ ys))) e ∙ past xs ys n

one_more : {A : Type 0} (xs : List A) (n : ℕ) (x : A) → slice_get xs n ≡ Some x → take n xs ++ x ∷ [] ≡ take (suc n) xs
one_more [] n x e = absurd cc
one_more {A} (y ∷ xs) zero x e = ap got (sym e)
  where
    got : Option A → List A
    got None = []
    got (Some a) = a ∷ []
one_more (y ∷ xs) (suc n) x e = ap (λ l. y ∷ l) (one_more xs n x e)

-- ---- functions

-- the type of a function of the space, if there is one
abbrev type_in : Option FunctionEntry → Option ℕ
type_in e = option_map (λ (f : FunctionEntry). f.type) e

own_type : (xs : List ℕ) (n : ℕ) → type_in (slice_get (map (function_with true) xs) n) ≡ slice_get xs n
own_type [] n = refl
own_type (x ∷ xs) zero = refl
own_type (x ∷ xs) (suc n) = own_type xs n

typed : (f : Option Function) → option_map (λ (f : Function). f.type_index) f ≡ type_in (option_map entry_of f)
typed None = refl
typed (Some f) = refl

-- a body is in order, and no longer than the limit
abbrev pub FitsBehind : Progress → List ℕ → Type 0
FitsBehind r text = (r.last ≡ code_place) × (length text ≤ r.kept.items.spaces.settings.limits.body_bytes)

module _ (z : Settings) (p : SoFar) (r : Progress) (bodies : List Body) (at : IsAt z r bodies p) where
  as_many : length p.bodies ≡ length bodies
  as_many = ap length (sym at.bodies) ∙ length-map bodies text_of

  -- the type of the function behind as many bodies is that which the tree has for the next body
  pub function_is : option_map (λ (f : Function). f.type_index) (slice_get r.kept.items.spaces.functions (r.kept.items.spaces.imported_functions + length bodies))
      ≡ slice_get p.tree.functions (length p.bodies)
  function_is =
      typed (slice_get r.kept.items.spaces.functions here)
      ∙ (ap type_in (sym (slice_get-map entry_of r.kept.items.spaces.functions here) ∙ ap (λ (fs : List FunctionEntry). slice_get fs here) at.stands.read.functions)
      ∙ (ap type_in (ap (λ (i : ℕ). slice_get (function_space p.tree) (i + length bodies)) at.stands.read.imported_functions
      ∙ past (imported function_of p.tree) (map (function_with true) p.tree.functions) (length bodies))
      ∙ (own_type p.tree.functions (length bodies) ∙ ap (slice_get p.tree.functions) (sym as_many))))
    where
      here : ℕ
      here = r.kept.items.spaces.imported_functions + length bodies

  -- ---- the code section

  pub code_not_behind : (k : ErrorKind) → Denies k (r.last < code_place) → Denies k (p.last < code_place)
  code_not_behind k d = denies_from k _ _ (λ o. subst (λ (n : ℕ). n < code_place) (sym at.placed) o) d

  pub code_behind : p.last < code_place → IsAt z (record r { last = code_place }) bodies (record p { last = code_place })
  code_behind o = record {
    stands = at.stands;
    judged = shape_keeps z (frame.code 0 0) p (record p { last = code_place }) at.judged (o, refl);
    counted = at.counted;
    placed = refl;
    bodies = at.bodies;
    types = at.types;
    read = at.read;
  }

  -- ---- where a body comes, and how long it is

  limit_is : r.kept.items.spaces.settings.limits.body_bytes ≡ z.limits.body_bytes
  limit_is = ap (λ (y : Settings). y.limits.body_bytes) at.stands.settings

  -- by what is kept, and by the rules
  pub fits : (text : List ℕ) → FitsBehind r text → (p.last ≡ code_place) × (length text ≤ z.limits.body_bytes)
  fits text (begun, within) = (sym at.placed ∙ begun, subst (λ (n : ℕ). length text ≤ n) limit_is within)

  pub not_fitting : (k : ErrorKind) (text : List ℕ) → Denies k (FitsBehind r text) → Denies k ((q : SoFar) × JudgesBody z p text q)
  not_fitting k text d = denies_from k _ _ (λ h. (at.placed ∙ h.1.begun, subst (λ (n : ℕ). length text ≤ n) (sym limit_is) h.1.within)) d

  -- ---- a body that is refused

  pub not_begun : (k : ErrorKind) (text : List ℕ) → Denies k (r.last ≡ code_place) → Denies k ((q : SoFar) × JudgesBody z p text q)
  not_begun k text d = denies_from k _ _ (λ h. at.placed ∙ h.1.begun) d

  pub no_function : (text : List ℕ) → None ≡ slice_get p.tree.functions (length p.bodies) → ((q : SoFar) × JudgesBody z p text q) → ⊥
  no_function text none (q, j) = let e = none ∙ j.function in absurd cc

  -- ---- a body that is taken

  module _ (b : Body) (begun : p.last ≡ code_place) (within : length (text_of b) ≤ z.limits.body_bytes)
      (function : slice_get p.tree.functions (length p.bodies) ≡ Some (type_of b)) where
    pub judges : JudgesBody z p (text_of b) (record p { bodies = p.bodies ++ text_of b ∷ [] })
    judges = record { begun = begun; within = within; type = type_of b; function = function; added = refl }

    -- it is read by these settings
    pub read_by : b.body.settings ≡ z → IsReadBy z z.features b.body
    read_by same = record { settings = same; features = refl; within = within }

    longer : suc (length bodies) ≡ length (bodies ++ b ∷ [])
    longer = omega (arith, length_push bodies b)

    pub body_behind : b.body.settings ≡ z → (q : SoFar) → JudgesBody z p (text_of b) q → IsAt z r (bodies ++ b ∷ []) q
    body_behind same q j = subst (IsAt z r (bodies ++ b ∷ [])) (sym j.added) (record {
      stands = at.stands;
      judged = shape_keeps z (frame.entry (text_of b)) p (record p { bodies = p.bodies ++ text_of b ∷ [] }) at.judged judges;
      counted = at.counted;
      placed = at.placed;
      bodies = map-append text_of bodies (b ∷ []) ∙ ap (λ ts. ts ++ text_of b ∷ []) at.bodies;
      types =
          map-append type_of bodies (b ∷ [])
          ∙ (ap (λ ts. ts ++ type_of b ∷ []) at.types
          ∙ (one_more p.tree.functions (length bodies) (type_of b) (ap (slice_get p.tree.functions) (sym as_many) ∙ function)
          ∙ ap (λ (n : ℕ). take n p.tree.functions) longer));
      read = each_joined (λ (x : Body). IsReadBy z z.features x.body) bodies (b ∷ []) at.read (read_by same, tt);
    })
