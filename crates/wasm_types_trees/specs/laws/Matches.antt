-- Matching is a preorder, and a chain of links that match keeps sharedness and constructor.
use Rattle.std.proofs.Common.{◌≡◌, ◌∙◌, List, [], ◌∷◌, refl, subst, IsTrue}
use Rattle.wasm_types_trees.specs.Types.{ValueOf, StorageOf, i8, i16, value, FieldOf, InnerOf, function, array_of, struct_of, continuation, EntryOf}
use Rattle.wasm_types_trees.specs.Trees.{TypeTree, opened}
use Rattle.wasm_types_trees.specs.Below.{abstract_above, DeclaredBelow, itself, declared}
use Rattle.wasm_types_trees.specs.Matches.{StorageMatches, FieldMatches, FieldsMatch, ResultsMatch, InnerMatches, Matches}
use Rattle.wasm_types_trees.specs.Chains.{IsAlike, IsSound, LinksMatch}
use Rattle.wasm_types_trees.specs.laws.Below.{below_reflexive, below_transitive, declared_transitive}

-- ---- each matches itself

storage_reflexive : (s : StorageOf TypeTree) → StorageMatches s s
storage_reflexive i8 = tt
storage_reflexive i16 = tt
storage_reflexive (value v) = below_reflexive v

pub field_reflexive : (x : FieldOf TypeTree) → FieldMatches x x
field_reflexive x = (refl, storage_reflexive x.storage, λ m. storage_reflexive x.storage)

fields_reflexive : (xs : List (FieldOf TypeTree)) → FieldsMatch xs xs
fields_reflexive [] = tt
fields_reflexive (x ∷ xs) = (field_reflexive x, fields_reflexive xs)

pub results_reflexive : (vs : List (ValueOf TypeTree)) → ResultsMatch vs vs
results_reflexive [] = tt
results_reflexive (v ∷ vs) = (below_reflexive v, results_reflexive vs)

inner_reflexive : (x : InnerOf TypeTree) → InnerMatches x x
inner_reflexive (function ps rs) = (results_reflexive ps, results_reflexive rs)
inner_reflexive (array_of x) = field_reflexive x
inner_reflexive (struct_of xs) = fields_reflexive xs
inner_reflexive (continuation f) = itself

pub matches_reflexive : (x : EntryOf TypeTree) → Matches x x
matches_reflexive x = (refl, inner_reflexive x.inner)

-- ---- one after the other

storage_transitive : (s t u : StorageOf TypeTree) → StorageMatches s t → StorageMatches t u → StorageMatches s u
storage_transitive i8 i8 u p q = q
storage_transitive i8 i16 u p q = absurd p
storage_transitive i8 (value b) u p q = absurd p
storage_transitive i16 i8 u p q = absurd p
storage_transitive i16 i16 u p q = q
storage_transitive i16 (value b) u p q = absurd p
storage_transitive (value a) i8 u p q = absurd p
storage_transitive (value a) i16 u p q = absurd p
storage_transitive (value a) (value b) i8 p q = absurd q
storage_transitive (value a) (value b) i16 p q = absurd q
storage_transitive (value a) (value b) (value c) p q = below_transitive a b c p q

-- x to y to z; a mutable field goes back the same way
field_transitive : (x y z : FieldOf TypeTree) → FieldMatches x y → FieldMatches y z → FieldMatches x z
field_transitive x y z p q = (
  p.0 ∙ q.0,
  storage_transitive x.storage y.storage z.storage p.1 q.1,
  λ m. storage_transitive z.storage y.storage x.storage (q.2 (subst IsTrue p.0 m)) (p.2 m),
)

fields_transitive : (xs ys zs : List (FieldOf TypeTree)) → FieldsMatch xs ys → FieldsMatch ys zs → FieldsMatch xs zs
fields_transitive xs ys [] p q = tt
fields_transitive xs [] (z ∷ zs) p q = absurd q
fields_transitive [] (y ∷ ys) (z ∷ zs) p q = absurd p
fields_transitive (x ∷ xs) (y ∷ ys) (z ∷ zs) p q =
    (field_transitive x y z p.0 q.0, fields_transitive xs ys zs p.1 q.1)

pub results_transitive : (us vs ws : List (ValueOf TypeTree)) → ResultsMatch us vs → ResultsMatch vs ws → ResultsMatch us ws
results_transitive [] [] ws p q = q
results_transitive [] (v ∷ vs) ws p q = absurd p
results_transitive (u ∷ us) [] ws p q = absurd p
results_transitive (u ∷ us) (v ∷ vs) [] p q = absurd q
results_transitive (u ∷ us) (v ∷ vs) (w ∷ ws) p q =
    (below_transitive u v w p.0 q.0, results_transitive us vs ws p.1 q.1)

inner_transitive : (x y z : InnerOf TypeTree) → InnerMatches x y → InnerMatches y z → InnerMatches x z
inner_transitive (function a b) (function c d) (function e f) p q =
    (results_transitive e c a q.0 p.0, results_transitive b d f p.1 q.1)
inner_transitive (function a b) (function c d) (array_of z) p q = absurd q
inner_transitive (function a b) (function c d) (struct_of zs) p q = absurd q
inner_transitive (function a b) (function c d) (continuation h) p q = absurd q
inner_transitive (function a b) (array_of y) z p q = absurd p
inner_transitive (function a b) (struct_of ys) z p q = absurd p
inner_transitive (function a b) (continuation g) z p q = absurd p
inner_transitive (array_of x) (function c d) z p q = absurd p
inner_transitive (array_of x) (array_of y) (function e f) p q = absurd q
inner_transitive (array_of x) (array_of y) (array_of z) p q = field_transitive x y z p q
inner_transitive (array_of x) (array_of y) (struct_of zs) p q = absurd q
inner_transitive (array_of x) (array_of y) (continuation h) p q = absurd q
inner_transitive (array_of x) (struct_of ys) z p q = absurd p
inner_transitive (array_of x) (continuation g) z p q = absurd p
inner_transitive (struct_of xs) (function c d) z p q = absurd p
inner_transitive (struct_of xs) (array_of y) z p q = absurd p
inner_transitive (struct_of xs) (struct_of ys) (function e f) p q = absurd q
inner_transitive (struct_of xs) (struct_of ys) (array_of z) p q = absurd q
inner_transitive (struct_of xs) (struct_of ys) (struct_of zs) p q = fields_transitive xs ys zs p q
inner_transitive (struct_of xs) (struct_of ys) (continuation h) p q = absurd q
inner_transitive (struct_of xs) (continuation g) z p q = absurd p
inner_transitive (continuation f) (function c d) z p q = absurd p
inner_transitive (continuation f) (array_of y) z p q = absurd p
inner_transitive (continuation f) (struct_of ys) z p q = absurd p
inner_transitive (continuation f) (continuation g) (function c d) p q = absurd q
inner_transitive (continuation f) (continuation g) (array_of z) p q = absurd q
inner_transitive (continuation f) (continuation g) (struct_of zs) p q = absurd q
inner_transitive (continuation f) (continuation g) (continuation h) p q = declared_transitive f g h p q

pub matches_transitive : (x y z : EntryOf TypeTree) → Matches x y → Matches y z → Matches x z
matches_transitive x y z p q = (p.0 ∙ q.0, inner_transitive x.inner y.inner z.inner p.1 q.1)

-- ---- chains of links that match

one_constructor : (x y : InnerOf TypeTree) → InnerMatches x y → abstract_above x ≡ abstract_above y
one_constructor (function a b) (function c d) p = refl
one_constructor (function a b) (array_of y) p = absurd p
one_constructor (function a b) (struct_of ys) p = absurd p
one_constructor (function a b) (continuation g) p = absurd p
one_constructor (array_of x) (function c d) p = absurd p
one_constructor (array_of x) (array_of y) p = refl
one_constructor (array_of x) (struct_of ys) p = absurd p
one_constructor (array_of x) (continuation g) p = absurd p
one_constructor (struct_of xs) (function c d) p = absurd p
one_constructor (struct_of xs) (array_of y) p = absurd p
one_constructor (struct_of xs) (struct_of ys) p = refl
one_constructor (struct_of xs) (continuation g) p = absurd p
one_constructor (continuation f) (function c d) p = absurd p
one_constructor (continuation f) (array_of y) p = absurd p
one_constructor (continuation f) (struct_of ys) p = absurd p
one_constructor (continuation f) (continuation g) p = refl

pub matching_is_alike : (t u : TypeTree) → Matches (opened t) (opened u) → IsAlike t u
matching_is_alike t u p = record { shared = p.0; constructor = one_constructor (opened t).inner (opened u).inner p.1 }

alike_transitive : (t u v : TypeTree) → IsAlike t u → IsAlike u v → IsAlike t v
alike_transitive t u v p q = record { shared = p.shared ∙ q.shared; constructor = p.constructor ∙ q.constructor }

alike_along : (t v : TypeTree) → DeclaredBelow t v → LinksMatch t → IsAlike t v
alike_along t v itself links = record { shared = refl; constructor = refl }
alike_along t v (declared e p) links =
    alike_transitive t _ v (matching_is_alike t _ (links t _ itself e)) (alike_along _ v p (λ x y d. links x y (declared e d)))

pub links_are_sound : (t : TypeTree) → LinksMatch t → IsSound t
links_are_sound t links u p = alike_along t u p links
