-- `Below` is the standard's subtyping on types whose chains are sound.
use Rattle.std.proofs.Common.{◌≡◌, ◌↔◌, ◌∙◌, Bool, Some, refl, sym, subst, subst₂}
use Rattle.wasm_types_trees.specs.Types.{Abstract, func, extern, any, none, noextern, nofunc, exn, noexn, cont, nocont, HeapOf, abstract, concrete}
use Rattle.wasm_types_trees.specs.Types.{exact, ValueOf, number, ref, InnerOf, function, array_of, struct_of, continuation}
use Rattle.wasm_types_trees.specs.Each.{EachHeap, EachValue}
use Rattle.wasm_types_trees.specs.Trees.{TypeTree}
use Rattle.wasm_types_trees.specs.AbstractOrder as order
use Rattle.wasm_types_trees.specs.AbstractOrder.{AbstractBelow, same}
use Rattle.wasm_types_trees.specs.Below.{expanded, is_shared, supertype, abstract_above, bottom_of, DeclaredBelow, itself, declared, IsBelowAbstract}
use Rattle.wasm_types_trees.specs.Below.{IsAboveAbstract, HeapBelow, Below}
use Rattle.wasm_types_trees.specs.Chains.{IsSound}
use Rattle.wasm_types_trees.specs.Standard.{HeapMatches, reflexive, transitive, eq_any, i31_eq, struct_eq, array_eq, expansion, declaration}
use Rattle.wasm_types_trees.specs.Standard.{none_below, nofunc_below, noexn_below, noextern_below, nocont_below, exactly, ValueMatches}
use Rattle.wasm_types_trees.specs.laws.Abstract.{bottoms_agree}
use Rattle.wasm_types_trees.specs.laws.Below.{heap_reflexive, heap_transitive}

-- ---- the bottom type of a hierarchy

-- what is below the top is above the bottom, among abstract types and among constructors
record Bounds (bottom top : Abstract) : Type 0 where
  abstracts : (a : Abstract) → AbstractBelow a top → AbstractBelow bottom a
  constructors : (i : InnerOf TypeTree) → AbstractBelow (abstract_above i) top → bottom ≡ bottom_of i

any_bounds : Bounds none any
any_bounds = record { abstracts = abstracts; constructors = constructors }
  where
    abstracts : (a : Abstract) → AbstractBelow a any → AbstractBelow none a
    abstracts a same = order.none_any
    abstracts a order.eq_any = order.none_eq
    abstracts a order.i31_any = order.none_i31
    abstracts a order.struct_any = order.none_struct
    abstracts a order.array_any = order.none_array
    abstracts a order.none_any = same

    constructors : (i : InnerOf TypeTree) → AbstractBelow (abstract_above i) any → none ≡ bottom_of i
    constructors (function ps rs) p = elim p [ ]
    constructors (array_of x) p = refl
    constructors (struct_of xs) p = refl
    constructors (continuation f) p = elim p [ ]

func_bounds : Bounds nofunc func
func_bounds = record { abstracts = abstracts; constructors = constructors }
  where
    abstracts : (a : Abstract) → AbstractBelow a func → AbstractBelow nofunc a
    abstracts a same = order.nofunc_func
    abstracts a order.nofunc_func = same

    constructors : (i : InnerOf TypeTree) → AbstractBelow (abstract_above i) func → nofunc ≡ bottom_of i
    constructors (function ps rs) p = refl
    constructors (array_of x) p = elim p [ ]
    constructors (struct_of xs) p = elim p [ ]
    constructors (continuation f) p = elim p [ ]

exn_bounds : Bounds noexn exn
exn_bounds = record { abstracts = abstracts; constructors = constructors }
  where
    abstracts : (a : Abstract) → AbstractBelow a exn → AbstractBelow noexn a
    abstracts a same = order.noexn_exn
    abstracts a order.noexn_exn = same

    constructors : (i : InnerOf TypeTree) → AbstractBelow (abstract_above i) exn → noexn ≡ bottom_of i
    constructors (function ps rs) p = elim p [ ]
    constructors (array_of x) p = elim p [ ]
    constructors (struct_of xs) p = elim p [ ]
    constructors (continuation f) p = elim p [ ]

extern_bounds : Bounds noextern extern
extern_bounds = record { abstracts = abstracts; constructors = constructors }
  where
    abstracts : (a : Abstract) → AbstractBelow a extern → AbstractBelow noextern a
    abstracts a same = order.noextern_extern
    abstracts a order.noextern_extern = same

    constructors : (i : InnerOf TypeTree) → AbstractBelow (abstract_above i) extern → noextern ≡ bottom_of i
    constructors (function ps rs) p = elim p [ ]
    constructors (array_of x) p = elim p [ ]
    constructors (struct_of xs) p = elim p [ ]
    constructors (continuation f) p = elim p [ ]

cont_bounds : Bounds nocont cont
cont_bounds = record { abstracts = abstracts; constructors = constructors }
  where
    abstracts : (a : Abstract) → AbstractBelow a cont → AbstractBelow nocont a
    abstracts a same = order.nocont_cont
    abstracts a order.nocont_cont = same

    constructors : (i : InnerOf TypeTree) → AbstractBelow (abstract_above i) cont → nocont ≡ bottom_of i
    constructors (function ps rs) p = elim p [ ]
    constructors (array_of x) p = elim p [ ]
    constructors (struct_of xs) p = elim p [ ]
    constructors (continuation f) p = refl

-- a type of a sound chain below the top of a hierarchy is above its bottom
type_above : (bottom top : Abstract) (s : Bool) (t : TypeTree) → Bounds bottom top → IsSound t → IsBelowAbstract t s top → IsAboveAbstract t s bottom
type_above bottom top s t b w (u, d, e, p) v f = (
  sym e ∙ sym (w u d).shared ∙ (w v f).shared,
  b.constructors (expanded u) p ∙ bottoms_agree (expanded u) (expanded v) (sym (w u d).constructor ∙ (w v f).constructor),
)

heap_above : (bottom top : Abstract) (s : Bool) (h : HeapOf TypeTree) → Bounds bottom top → EachHeap IsSound h → HeapBelow h (abstract s top) → HeapBelow (abstract s bottom) h
heap_above bottom top s (abstract r a) b w p = (sym p.0, b.abstracts a p.1)
heap_above bottom top s (concrete t) b w p = type_above bottom top s t b w p
heap_above bottom top s (exact t) b w p = type_above bottom top s t b w p

-- ---- types that are valid: their chains are sound, and what they declare is valid too

module _ (V : TypeTree → Type 0) (sound : (t : TypeTree) → V t → IsSound t) (above : (t u : TypeTree) → V t → supertype t ≡ Some u → V u) where
  heap_sound : (h : HeapOf TypeTree) → EachHeap V h → EachHeap IsSound h
  heap_sound (abstract s a) v = tt
  heap_sound (concrete t) v = sound t v
  heap_sound (exact t) v = sound t v

  -- each rule of the standard holds
  to_below : (h k : HeapOf TypeTree) → EachHeap V h → EachHeap V k → HeapMatches V h k → HeapBelow h k
  to_below h k v w reflexive = heap_reflexive h
  to_below h k v w (transitive m p q) = heap_transitive h _ k (to_below h _ v m p) (to_below _ k m w q)
  to_below h k v w eq_any = (refl, order.eq_any)
  to_below h k v w i31_eq = (refl, order.i31_eq)
  to_below h k v w struct_eq = (refl, order.struct_eq)
  to_below h k v w array_eq = (refl, order.array_eq)
  to_below h k v w expansion = (_, itself, refl, same)
  to_below h k v w (declaration e) = declared e itself
  to_below h k v w (none_below p) = heap_above none any _ k any_bounds (heap_sound k w) (to_below k _ w tt p)
  to_below h k v w (nofunc_below p) = heap_above nofunc func _ k func_bounds (heap_sound k w) (to_below k _ w tt p)
  to_below h k v w (noexn_below p) = heap_above noexn exn _ k exn_bounds (heap_sound k w) (to_below k _ w tt p)
  to_below h k v w (noextern_below p) = heap_above noextern extern _ k extern_bounds (heap_sound k w) (to_below k _ w tt p)
  to_below h k v w (nocont_below p) = heap_above nocont cont _ k cont_bounds (heap_sound k w) (to_below k _ w tt p)
  to_below h k v w exactly = itself

  -- ---- and they are enough

  abstract_matches : (s : Bool) (a b : Abstract) → AbstractBelow a b → HeapMatches V (abstract s a) (abstract s b)
  abstract_matches s a b same = reflexive
  abstract_matches s a b order.eq_any = eq_any
  abstract_matches s a b order.i31_any = transitive tt i31_eq eq_any
  abstract_matches s a b order.struct_any = transitive tt struct_eq eq_any
  abstract_matches s a b order.array_any = transitive tt array_eq eq_any
  abstract_matches s a b order.none_any = none_below reflexive
  abstract_matches s a b order.i31_eq = i31_eq
  abstract_matches s a b order.struct_eq = struct_eq
  abstract_matches s a b order.array_eq = array_eq
  abstract_matches s a b order.none_eq = none_below eq_any
  abstract_matches s a b order.none_i31 = none_below (transitive tt i31_eq eq_any)
  abstract_matches s a b order.none_struct = none_below (transitive tt struct_eq eq_any)
  abstract_matches s a b order.none_array = none_below (transitive tt array_eq eq_any)
  abstract_matches s a b order.nofunc_func = nofunc_below reflexive
  abstract_matches s a b order.noextern_extern = noextern_below reflexive
  abstract_matches s a b order.noexn_exn = noexn_below reflexive
  abstract_matches s a b order.nocont_cont = nocont_below reflexive

  valid_above : (t u : TypeTree) → V t → DeclaredBelow t u → V u
  valid_above t u v itself = v
  valid_above t u v (declared e p) = valid_above _ u (above t _ v e) p

  declared_matches : (t u : TypeTree) → V t → DeclaredBelow t u → HeapMatches V (concrete t) (concrete u)
  declared_matches t u v itself = reflexive
  declared_matches t u v (declared e p) =
      let w = above t _ v e in transitive w (declaration e) (declared_matches _ u w p)

  below_abstract_matches : (t : TypeTree) (s : Bool) (a : Abstract) → V t → IsBelowAbstract t s a → HeapMatches V (concrete t) (abstract s a)
  below_abstract_matches t s a v (u, d, e, p) =
      transitive (valid_above t u v d) (declared_matches t u v d)
      (subst (λ (r : Bool). HeapMatches V (concrete u) (abstract r a)) e (transitive tt expansion (abstract_matches (is_shared u) _ a p)))

  -- what is below the abstract type of a constructor is above its bottom
  bottom_matches : (s : Bool) (i : InnerOf TypeTree) (h : HeapOf TypeTree) → HeapMatches V h (abstract s (abstract_above i)) → HeapMatches V (abstract s (bottom_of i)) h
  bottom_matches s (function ps rs) h p = nofunc_below p
  bottom_matches s (array_of x) h p = none_below (transitive tt p (transitive tt array_eq eq_any))
  bottom_matches s (struct_of xs) h p = none_below (transitive tt p (transitive tt struct_eq eq_any))
  bottom_matches s (continuation f) h p = nocont_below p

  above_abstract_matches : (u : TypeTree) (s : Bool) (a : Abstract) (h : HeapOf TypeTree) → HeapMatches V h (abstract (is_shared u) (abstract_above (expanded u)))
      → IsAboveAbstract u s a → HeapMatches V (abstract s a) h
  above_abstract_matches u s a h m p =
      subst₂ (λ (r : Bool) (b : Abstract). HeapMatches V (abstract r b) h) (sym (p u itself).0) (sym (p u itself).1) (bottom_matches (is_shared u) (expanded u) h m)

  from_below : (h k : HeapOf TypeTree) → EachHeap V h → EachHeap V k → HeapBelow h k → HeapMatches V h k
  from_below (abstract s a) (abstract r b) v w p =
      subst (λ (x : Bool). HeapMatches V (abstract s a) (abstract x b)) p.0 (abstract_matches s a b p.1)
  from_below (abstract s a) (concrete u) v w p = above_abstract_matches u s a (concrete u) expansion p
  from_below (abstract s a) (exact u) v w p = above_abstract_matches u s a (exact u) (transitive w exactly expansion) p
  from_below (concrete t) (abstract r b) v w p = below_abstract_matches t r b v p
  from_below (concrete t) (concrete u) v w p = declared_matches t u v p
  from_below (concrete t) (exact u) v w p = absurd p
  from_below (exact t) (abstract r b) v w p = transitive v exactly (below_abstract_matches t r b v p)
  from_below (exact t) (concrete u) v w p = transitive v exactly (declared_matches t u v p)
  from_below (exact t) (exact u) v w p = subst (λ (x : TypeTree). HeapMatches V (exact t) (exact x)) p reflexive

  pub below_is : (v w : ValueOf TypeTree) → EachValue V v → EachValue V w → Below v w ↔ ValueMatches V v w
  below_is (number n) (number m) v w = (λ p. p, λ p. p)
  below_is (number n) (ref m k) v w = (λ p. p, λ p. p)
  below_is (ref n h) (number m) v w = (λ p. p, λ p. p)
  below_is (ref n h) (ref m k) v w = (λ p. (p.0, from_below h k v w p.1), λ p. (p.0, to_below h k v w p.1))

-- a type above one of a sound chain has a sound chain
sound_above : (t u : TypeTree) → IsSound t → supertype t ≡ Some u → IsSound u
sound_above t u w e v d = record {
  shared = sym (w u (declared e itself)).shared ∙ (w v (declared e d)).shared;
  constructor = sym (w u (declared e itself)).constructor ∙ (w v (declared e d)).constructor;
}

pub below_is_on_sound_types : (v w : ValueOf TypeTree) → EachValue IsSound v → EachValue IsSound w → Below v w ↔ ValueMatches IsSound v w
below_is_on_sound_types = below_is IsSound (λ t w. w) sound_above
