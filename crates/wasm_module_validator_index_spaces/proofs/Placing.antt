-- Pairs of names, one after the other, with what is imported by each.
use Rattle.std.proofs.Common.{◌≡◌, ◌∙◌, ◌+◌, ◌-◌, ◌<◌, ◌≤◌, ◌++◌, ◌∷◌, ℕ, zero, suc, List, [], Option, Some, None, drop, get_or, length, slice_get, refl, sym, ap, subst, arith}
use Rattle.std.proofs.lemmas.List.{drop_more}
use Rattle.std.specs.Option.{unwrap_or}
use Rattle.wasm_module_validator_exports.specs.declared.names.imports.Place.{Place}
use Rattle.wasm_module_validator_exports.specs.names.Imports.{ImportedName}
use Rattle.wasm_module_validator_index_spaces.specs.view.Entities.{named_places, places_of, places_behind}

none_left : {A : Type 0} (xs : List A) (i : ℕ) → length xs ≤ i → drop i xs ≡ []
none_left [] zero h = refl
none_left [] (suc i) h = refl
none_left (y ∷ ys) zero h = absurd (omega (arith, h))
none_left (y ∷ ys) (suc i) h = none_left ys i (omega (arith, h))

all_places : (ns : List ImportedName) → places_of ns ≡ places_behind 0 ns
all_places [] = refl
all_places (n ∷ ns) = refl

-- an item that is there is within the list
low_there : {A : Type 0} (xs : List A) (i : ℕ) (x : A) → slice_get xs i ≡ Some x → i < length xs
low_there [] i x e = absurd cc
low_there (y ∷ ys) zero x e = omega arith
low_there (y ∷ ys) (suc i) x e = let l = low_there ys i x e in omega (arith, l)

read_there : {A : Type 0} (xs : List A) (i : ℕ) (x : A) → slice_get xs i ≡ Some x → get_or xs i x ≡ x
read_there [] i x e = absurd cc
read_there {A} (y ∷ ys) zero x e = ap (λ (o : Option A). unwrap_or o y) e
read_there (y ∷ ys) (suc i) x e = read_there ys i x e

drop_there : {A : Type 0} (xs : List A) (i : ℕ) (x : A) → slice_get xs i ≡ Some x → drop i xs ≡ x ∷ drop (i + 1) xs
drop_there {A} xs i x e = drop_more xs i x (low_there xs i x e) ∙ ap (λ (z : A). z ∷ drop (i + 1) xs) (read_there xs i x e)

none_there : {A : Type 0} (xs : List A) (i : ℕ) → slice_get xs i ≡ None → length xs ≤ i
none_there [] i e = omega arith
none_there {A} (y ∷ ys) zero e = absurd (let bad : Some y ≡ None = e in cc)
none_there (y ∷ ys) (suc i) e = let l = none_there ys i e in omega (arith, l)

-- where all places of a pair of names were given, those of the next pair are left
pub pair_past : (ns : List ImportedName) (i given : ℕ) (n : ImportedName) → slice_get ns i ≡ Some n → slice_get n.places given ≡ None
    → places_behind given (drop i ns) ≡ places_behind 0 (drop (i + 1) ns)
pair_past ns i given n e f =
    ap (places_behind given) (drop_there ns i n e)
    ∙ ap (λ (ps : List Place). named_places n ps ++ places_of (drop (i + 1) ns)) (none_left n.places given (none_there n.places given f))
    ∙ all_places (drop (i + 1) ns)

-- else one place more is given
pub place_given : (ns : List ImportedName) (i given : ℕ) (n : ImportedName) (p : Place) → slice_get ns i ≡ Some n → slice_get n.places given ≡ Some p
    → places_behind given (drop i ns) ≡ ((n.module_name, n.field_name), p) ∷ places_behind (given + 1) (drop i ns)
place_given ns i given n p e f =
    ap (places_behind given) (drop_there ns i n e)
    ∙ ap (λ (ps : List Place). named_places n ps ++ places_of (drop (i + 1) ns)) (drop_there n.places given p f)
    ∙ sym (ap (λ (l : List ImportedName). ((n.module_name, n.field_name), p) ∷ places_behind (given + 1) l) (drop_there ns i n e))

-- a pair of names further there are fewer left
pub fewer_pairs : (ns : List ImportedName) (i : ℕ) (n : ImportedName) → slice_get ns i ≡ Some n → length ns - (i + 1) < length ns - i
fewer_pairs ns i n e = let low = low_there ns i n e in omega (arith, low)

-- behind the last pair nothing is left
pub nothing_behind : (ns : List ImportedName) (i given : ℕ) → slice_get ns i ≡ None → places_behind given (drop i ns) ≡ []
nothing_behind ns i given e = ap (places_behind given) (none_left ns i (none_there ns i e))

pub one_fewer : {A : Type 0} (xs ys : List A) (x : A) → xs ≡ x ∷ ys → length ys < length xs
one_fewer {A} xs ys x e = subst (λ (l : List A). length ys < length l) (sym e) (omega arith)
