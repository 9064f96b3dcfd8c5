-- What a validator knows behind locals that it has put at the end.
use Rattle.std.proofs.Common.{◌≡◌, ◌∙◌, ℕ, zero, suc, ◌+◌, List, [], ◌∷◌, ◌++◌, length, map, replicate, refl, sym, ap, subst, arith}
use Rattle.std.proofs.lemmas.List.{length-append, length-replicate, map-append, append_assoc, append-nil}
use Rattle.wasm_types.specs.trees.declared.index.UnpackedIndex.{UnpackedIndex}
use Rattle.wasm_types.specs.trees.declared.index.UnpackedIndex.TheVariants as index
use Rattle.wasm_types.specs.trees.Types.{HeapOf, abstract, concrete, exact, heap_map, ValueOf, number, ref, value_map}
use Rattle.wasm_types.specs.values.declared.value.ValType.{ValType}
use Rattle.wasm_types.specs.values.Values.{value_of}
use Rattle.wasm_operators_encoding.specs.Locals.{LocalGroup, total}
use Rattle.wasm_operator_validator_rules.specs.Operands.{ValueType}
use Rattle.wasm_operator_validator_rules.specs.Context.{Module, IsType, written_type}
use Rattle.wasm_operator_validator_arity.specs.resources.Meaning.{Meaning, type_in}
use Rattle.wasm_operator_validator_state.specs.State.{State, types_in}
use Rattle.wasm_operator_validator_stacks.specs.Defining.{DefinesLocals}
use Rattle.wasm_module_validator_section_order.specs.rules.Spaces.{value_in, with_types}
use Rattle.wasm_module_validator_section_order.specs.rules.Valid.{Each, locals_in}
use Rattle.wasm_module_validator_function_bodies.specs.Locals.{relocated, DefinesAll}

-- ---- the type that a module means

index_written : (g : Module) (i : UnpackedIndex) → written_type g i ≡ written_type (with_types g.types) i
index_written g (index.Module n) = refl
index_written g (index.RecGroup n) = refl
index_written g (index.Id i) = refl

heap_written : (g : Module) (h : HeapOf UnpackedIndex) → heap_map (written_type g) h ≡ heap_map (written_type (with_types g.types)) h
heap_written g (abstract s a) = refl
heap_written g (concrete i) = ap concrete (index_written g i)
heap_written g (exact i) = ap exact (index_written g i)

value_written : (g : Module) (v : ValueOf UnpackedIndex) → value_map (written_type g) v ≡ value_map (written_type (with_types g.types)) v
value_written g (number n) = refl
value_written g (ref b h) = ap (ref b) (heap_written g h)

-- by its types alone
pub is_value_in : (bits : ℕ) (g : Module) (w : ValType) (t : ValueType) → IsType bits g w t → t ≡ value_in g.types w
is_value_in bits g w t i = i.is ∙ value_written g (value_of w)

-- ---- lists

pub map_replicate : {A B : Type 0} (f : A → B) (n : ℕ) (x : A) → map f (replicate n x) ≡ replicate n (f x)
map_replicate f zero x = refl
map_replicate f (suc n) x = ap (λ ys. f x ∷ ys) (map_replicate f n x)

pub total_append : (gs : List LocalGroup) (l : LocalGroup) (hs : List LocalGroup) → total (gs ++ l ∷ hs) ≡ total gs + (l.count + total hs)
total_append [] l hs = omega arith
total_append (g ∷ gs) l hs = let e = total_append gs l hs in omega (arith, e)

pub each_at : {A : Type 0} (P : A → Type 0) (xs : List A) (y : A) (ys : List A) → Each P (xs ++ y ∷ ys) → P y
each_at P [] y ys h = h.0
each_at P (x ∷ xs) y ys h = each_at P xs y ys h.1

-- ---- one group

module _ (m : Meaning) (most : ℕ) (σ ρ : State) (l : LocalGroup) (d : DefinesLocals m most σ l.count l.type ρ) where
  one_bits : ρ.given.bits ≡ σ.given.bits
  one_bits = ap (λ (x : State). x.given.bits) d.state

  one_count : length ρ.given.locals ≡ length σ.given.locals + l.count
  one_count =
      ap (λ (x : State). length x.given.locals) d.state ∙ length-append σ.given.locals (replicate l.count d.named)
      ∙ ap (λ (n : ℕ). length σ.given.locals + n) (length-replicate l.count d.named)

  one_types : types_in m ρ.given.locals ≡ types_in m σ.given.locals ++ replicate l.count (value_in m.«module».types l.type)
  one_types =
      ap (λ (x : State). types_in m x.given.locals) d.state ∙ map-append (type_in m) σ.given.locals (replicate l.count d.named)
      ∙ ap (λ (ts : List ValueType). types_in m σ.given.locals ++ ts) (map_replicate (type_in m) l.count d.named
      ∙ ap (replicate l.count) (is_value_in σ.given.bits m.«module» l.type (type_in m d.named) d.type))

-- ---- all groups

module _ (m : Meaning) (most : ℕ) where
  pub defined_bits : (gs : List LocalGroup) (σ τ : State) → DefinesAll m most σ gs τ → τ.given.bits ≡ σ.given.bits
  defined_bits [] σ τ h = ap (λ (x : State). x.given.bits) h
  defined_bits (l ∷ ls) σ τ (ρ, d, more) = defined_bits ls ρ τ more ∙ one_bits m most σ ρ l d

  pub defined_types : (bits : ℕ) (gs : List LocalGroup) (σ τ : State) → bits ≡ σ.given.bits → DefinesAll m most σ gs τ
      → Each (λ (l : LocalGroup). (t : ValueType) × IsType bits m.«module» l.type t) gs
  defined_types bits [] σ τ e h = tt
  defined_types bits (l ∷ ls) σ τ e (ρ, d, more) = (
    (type_in m d.named, subst (λ (b : ℕ). IsType b m.«module» l.type (type_in m d.named)) (sym e) d.type),
    defined_types bits ls ρ τ (e ∙ sym (one_bits m most σ ρ l d)) more,
  )

  pub defined_count : (gs : List LocalGroup) (σ τ : State) → DefinesAll m most σ gs τ → length τ.given.locals ≡ length σ.given.locals + total gs
  defined_count [] σ τ h = let e : length τ.given.locals ≡ length σ.given.locals = ap (λ (x : State). length x.given.locals) h in omega (arith, e)
  defined_count (l ∷ ls) σ τ (ρ, d, more) =
      let e = defined_count ls ρ τ more in
      let f = one_count m most σ ρ l d in
      omega (arith, e, f)

  pub defined_locals : (gs : List LocalGroup) (σ τ : State) → DefinesAll m most σ gs τ
      → types_in m τ.given.locals ≡ types_in m σ.given.locals ++ locals_in m.«module».types gs
  defined_locals [] σ τ h = ap (λ (x : State). types_in m x.given.locals) h ∙ sym (append-nil (types_in m σ.given.locals))
  defined_locals (l ∷ ls) σ τ (ρ, d, more) =
      let here = replicate l.count (value_in m.«module».types l.type) in
      defined_locals ls ρ τ more ∙ ap (λ (ts : List ValueType). ts ++ locals_in m.«module».types ls) (one_types m most σ ρ l d)
      ∙ append_assoc (types_in m σ.given.locals) here (locals_in m.«module».types ls)

  pub defined_state : (gs : List LocalGroup) (σ τ : State) → DefinesAll m most σ gs τ → τ ≡ relocated σ τ.given.locals
  defined_state [] σ τ h = h ∙ ap (relocated σ) (sym (ap (λ (x : State). x.given.locals) h))
  defined_state (l ∷ ls) σ τ (ρ, d, more) = defined_state ls ρ τ more ∙ ap (λ (x : State). relocated x τ.given.locals) d.state

  -- one more at the end
  pub defined_more : (gs : List LocalGroup) (σ ρ τ : State) (l : LocalGroup) → DefinesAll m most σ gs ρ → DefinesLocals m most ρ l.count l.type τ → DefinesAll m most σ (gs ++ l ∷ []) τ
  defined_more [] σ ρ τ l h d = (τ, subst (λ (x : State). DefinesLocals m most x l.count l.type τ) h d, refl)
  defined_more (g ∷ gs) σ ρ τ l (ν, first, more) d = (ν, first, defined_more gs ν ρ τ l more d)
