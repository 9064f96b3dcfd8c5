-- The bodies of a part are judged valid exactly if those of what was read are; and all parts together are the whole.
use Rattle.std.proofs.Common.{◌≡◌, ◌∙◌, ◌+◌, ◌<◌, ◌%◌, ℕ, suc, arith, nat_eq, Bool, true, false, if◌then◌else◌, List, [], ◌∷◌, ◌++◌, length, map, take, refl, sym, ap, subst}
use Rattle.std.specs.Prelude.{◌↔◌}
use Rattle.std.specs.List.{AllZip}
use Rattle.std.proofs.lemmas.Nat.{mod_below}
use Rattle.wasm_types.specs.settings.Settings.{Settings}
use Rattle.wasm_operator_validator_rules.specs.Context.{Module}
use Rattle.wasm_module_validator_function_bodies.specs.code.Code.{IsFunctionOf}
use Rattle.wasm_module_validator_section_order.specs.declared.items.bodies.Body.{Body}
use Rattle.wasm_module_validator_section_order.specs.rules.Syntax.{Function}
use Rattle.wasm_module_validator_section_order.specs.rules.Spaces.{module_of}
use Rattle.wasm_module_validator_section_order.specs.rules.Binary.{SpelledFunction}
use Rattle.wasm_module_validator_section_order.specs.rules.Valid.{Each, HasValidBody}
use Rattle.wasm_module_validator_section_order.specs.rules_in_order.Steps.{SoFar}
use Rattle.wasm_module_validator_payloads.specs.Progress.{Progress, IsAt, text_of, type_of}
use Rattle.wasm_module_validator_drivers.specs.judging.Bodies.{is_of, of_part, AllOfPart, ArePartBodies, AreBodies}
use Rattle.wasm_module_validator_drivers.specs.judging.laws.Judged.{IsBody, types_are, are_alike, here}

-- ---- one list that may have one more

not_so : false ≡ true → ⊥
not_so e = cc

each_if : {A : Type 0} (P : A → Type 0) (c : Bool) (a : A) (rest : List A) → Each P (if c then a ∷ rest else rest) → (c ≡ true → P a) × Each P rest
each_if P true a rest e = (λ k. e.0, e.1)
each_if P false a rest e = (λ k. absurd (not_so k), e)

if_each : {A : Type 0} (P : A → Type 0) (c : Bool) (a : A) (rest : List A) → (c ≡ true → P a) × Each P rest → Each P (if c then a ∷ rest else rest)
if_each P true a rest h = (h.0 refl, h.1)
if_each P false a rest h = h.1

-- ---- the whole and its parts

module _ (R : ℕ → List ℕ → Type 0) where
  pub part_of_whole : (part parts n : ℕ) (xs : List ℕ) (ts : List (List ℕ)) → AllZip R xs ts → AllOfPart R part parts n xs ts
  part_of_whole part parts n [] [] h = tt
  part_of_whole part parts n [] (t ∷ ts) h = absurd h
  part_of_whole part parts n (x ∷ xs) [] h = absurd h
  part_of_whole part parts n (x ∷ xs) (t ∷ ts) h = (λ k. h.0, part_of_whole part parts (suc n) xs ts h.1)

  pub whole_of_parts : (parts n : ℕ) → 0 < parts → (xs : List ℕ) (ts : List (List ℕ))
      → ((part : ℕ) → part < parts → AllOfPart R part parts n xs ts) → AllZip R xs ts
  whole_of_parts parts n some [] [] h = tt
  whole_of_parts parts n some [] (t ∷ ts) h = absurd (h 0 some)
  whole_of_parts parts n some (x ∷ xs) [] h = absurd (h 0 some)
  whole_of_parts parts n some (x ∷ xs) (t ∷ ts) h =
      ((h (n % parts) (mod_below n parts some)).0 (same (n % parts)), whole_of_parts parts (suc n) some xs ts (λ p l. (h p l).1))
    where
      same : (k : ℕ) → nat_eq k k ≡ true
      same k = grind arith

-- ---- bodies that were kept

-- those of a part with one body more, of which the number is how many there were
pub of_part_push : (part parts k : ℕ) (bs : List Body) (b : Body) → k ≡ length bs
    → of_part part parts 0 (bs ++ b ∷ []) ≡ of_part part parts 0 bs ++ (if is_of part parts k then b ∷ [] else [])
of_part_push part parts k bs b counted =
    push 0 bs ∙ ap (λ (m : ℕ). of_part part parts 0 bs ++ (if is_of part parts m then b ∷ [] else [])) (omega (arith, counted))
  where
    front : (c : Bool) (x : Body) (xs ys : List Body) → (if c then x ∷ (xs ++ ys) else (xs ++ ys)) ≡ (if c then x ∷ xs else xs) ++ ys
    front true x xs ys = refl
    front false x xs ys = refl

    push : (n : ℕ) (xs : List Body)
        → of_part part parts n (xs ++ b ∷ []) ≡ of_part part parts n xs ++ (if is_of part parts (n + length xs) then b ∷ [] else [])
    push n [] = ap (λ (m : ℕ). if is_of part parts m then b ∷ [] else []) (omega arith)
    push n (x ∷ xs) =
        let tail : List Body = if is_of part parts (suc n + length xs) then b ∷ [] else [] in
        ap (λ (ys : List Body). if is_of part parts n then x ∷ ys else ys) (push (suc n) xs)
        ∙ (front (is_of part parts n) x (of_part part parts (suc n) xs) tail
        ∙ ap (λ (m : ℕ). of_part part parts n (x ∷ xs) ++ (if is_of part parts m then b ∷ [] else [])) (omega arith))

-- what holds of all bodies holds of those of a part
pub each_of_part : (P : Body → Type 0) (part parts n : ℕ) (bs : List Body) → Each P bs → Each P (of_part part parts n bs)
each_of_part P part parts n [] e = tt
each_of_part P part parts n (b ∷ bs) e =
    if_each P (is_of part parts n) b (of_part part parts (suc n) bs) (λ k. e.0, each_of_part P part parts (suc n) bs e.1)

module _ (z : Settings) (g h : Module) (alike : (x : ℕ) (f : Function) → HasValidBody z g x f ↔ HasValidBody z h x f) (part parts : ℕ) where
  abbrev Is : Body → Type 0
  Is b = IsFunctionOf z g b.type_index b.body.rest

  abbrev Are : ℕ → List Body → Type 0
  Are n bs = AllOfPart (IsBody z g h alike) part parts n (map type_of bs) (map text_of bs)

  zip_part : (n : ℕ) (bs : List Body) → Each Is (of_part part parts n bs) → Are n bs
  zip_part n [] e = tt
  zip_part n (b ∷ bs) e =
      let k = each_if Is (is_of part parts n) b (of_part part parts (suc n) bs) e in
      (λ c. let f = k.0 c in (f.0, f.1, (alike b.type_index f.0).0 f.2), zip_part (suc n) bs k.1)

  part_zip : (n : ℕ) (bs : List Body) → Are n bs → Each Is (of_part part parts n bs)
  part_zip n [] e = tt
  part_zip n (b ∷ bs) e = if_each Is (is_of part parts n) b (of_part part parts (suc n) bs)
      (λ c. let f = e.0 c in (f.0, f.1, (alike b.type_index f.0).1 f.2), part_zip (suc n) bs e.1)

module _ (z : Settings) (r : Progress) (bodies : List Body) (q : SoFar) (at : IsAt z r bodies q)
    (as_many : length q.bodies ≡ length q.tree.functions) (part parts : ℕ) where
  abbrev there : Module
  there = here z r bodies q at as_many

  abbrev AreThose : List ℕ → List (List ℕ) → Type 0
  AreThose xs ts = AllOfPart (λ x body. (f : Function) × SpelledFunction z f body × HasValidBody z (module_of q.tree) x f) part parts 0 xs ts

  alike : (x : ℕ) (f : Function) → HasValidBody z there x f ↔ HasValidBody z (module_of q.tree) x f
  alike = are_alike z r bodies q at as_many

  types : map type_of bodies ≡ q.tree.functions
  types = types_are z r bodies q at as_many

  -- the bodies of a part that were kept are judged valid exactly if those of what was read are
  pub part_bodies_are : Each (λ (b : Body). IsFunctionOf z there b.type_index b.body.rest) (of_part part parts 0 bodies)
      ↔ ArePartBodies z part parts q
  part_bodies_are = (
    λ e. subst (λ ts. AreThose q.tree.functions ts) at.bodies
        (subst (λ xs. AreThose xs (map text_of bodies)) types (zip_part z there (module_of q.tree) alike part parts 0 bodies e)),
    λ e. part_zip z there (module_of q.tree) alike part parts 0 bodies
        (subst (λ xs. AreThose xs (map text_of bodies)) (sym types) (subst (λ ts. AreThose q.tree.functions ts) (sym at.bodies) e)),
  )
