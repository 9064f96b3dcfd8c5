-- Places for depths: what is found there when places are added, and when a depth is set.
use Rattle.std.proofs.Common.{◌≡◌, ◌∙◌, ℕ, zero, suc, ◌<◌, ◌≤◌, Bool, true, false, cond, List, [], ◌∷◌, ◌++◌, length, replicate, get_or, set, refl, ap, sym, Option, Some, None, arith, eqb, is_some}
use Rattle.std.proofs.lemmas.Bool.{eqb-true, eq-eqb}
use Rattle.std.proofs.lemmas.List.{get_or-set_same, get_or-set_other, length-set, length-append, length-replicate}
use Rattle.wasm_module_validator_type_storage.specs.trees.Groups.{Group, count}
use Rattle.wasm_module_validator_type_storage.specs.trees.laws.Unrolled.{count_push}
use Rattle.wasm_module_validator_type_list.specs.declared.known.Known.{Known}
use Rattle.wasm_module_validator_type_list.specs.Depths.{SetsDepth, KeepsDepths, HasPlaces}

-- behind the places there are no depths
pub past : (ds : List (Option ℕ)) (id : ℕ) → length ds ≤ id → get_or ds id None ≡ None
past [] id le = refl
past (d ∷ ds) zero le = absurd (omega arith)
past (d ∷ ds) (suc id) le = past ds id (omega arith)

same_default : {A : Type 0} (n id : ℕ) (d : A) → get_or (replicate n d) id d ≡ d
same_default zero id d = refl
same_default (suc n) zero d = refl
same_default (suc n) (suc id) d = same_default n id d

pub same_more : (ds : List (Option ℕ)) (n id : ℕ) → get_or (ds ++ replicate n None) id None ≡ get_or ds id None
same_more [] n id = same_default n id None
same_more (d ∷ ds) n zero = refl
same_more (d ∷ ds) n (suc id) = same_more ds n id

past_places : (n : ℕ) (known : Option Known) (ds : List (Option ℕ)) → HasPlaces n known ds → (id : ℕ) → n ≤ id → get_or ds id None ≡ None
past_places n None ds e id le = ap (λ (l : List (Option ℕ)). get_or l id None) e
past_places n (Some m) ds e id le = past ds id (omega (arith, e))

-- an id that has no type has no depth
pub places_keep : (gs : List Group) (known : Option Known) (old new : List (Option ℕ)) → HasPlaces (count gs) known old → new ≡ old → KeepsDepths gs old new
places_keep gs known old new has e =
    let same : (id : ℕ) → get_or new id None ≡ get_or old id None = λ id. ap (λ (l : List (Option ℕ)). get_or l id None) e in
    record { kept = same; none = λ id le. same id ∙ past_places (count gs) known old has id le }

pub more_places_keep : (gs : List Group) (known : Option Known) (old new : List (Option ℕ)) (n : ℕ) → HasPlaces (count gs) known old → new ≡ old ++ replicate n None → KeepsDepths gs old new
more_places_keep gs known old new n has e =
    let same : (id : ℕ) → get_or new id None ≡ get_or old id None = λ id. ap (λ (l : List (Option ℕ)). get_or l id None) e ∙ same_more old n id in
    record { kept = same; none = λ id le. same id ∙ past_places (count gs) known old has id le }

-- a list that takes no more has no places, and one that takes more has one for each type
pub closed_has_none : (n : ℕ) (known : Option Known) (ds : List (Option ℕ)) → HasPlaces n known ds → is_some known ≡ false → (id : ℕ) → get_or ds id None ≡ None
closed_has_none n None ds e closed id = ap (λ (l : List (Option ℕ)). get_or l id None) e
closed_has_none n (Some m) ds e closed id = let z : true ≡ false = closed in absurd cc

pub open_has_all : (n : ℕ) (known : Option Known) (ds : List (Option ℕ)) → HasPlaces n known ds → is_some known ≡ true → length ds ≡ n
open_has_all n None ds e still = let z : false ≡ true = still in absurd cc
open_has_all n (Some m) ds e still = e

-- ---- a depth that is set

set_at : (ds : List (Option ℕ)) (id depth k : ℕ) (b : Bool) → id < length ds → eqb k id ≡ b → get_or (set ds id (Some depth)) k None ≡ cond b (Some depth) (get_or ds k None)
set_at ds id depth k true lt e =
    ap (λ (j : ℕ). get_or (set ds id (Some depth)) j None) (eqb-true k id e) ∙ get_or-set_same ds id (Some depth) None lt
set_at ds id depth k false lt e = get_or-set_other ds id k (Some depth) None (λ same. let z : false ≡ true = sym e ∙ eq-eqb k id same in absurd cc)

pub sets_depth : (old new : List (Option ℕ)) (id depth : ℕ) → id < length old → new ≡ set old id (Some depth) → SetsDepth old new id depth
sets_depth old new id depth lt e k = ap (λ (l : List (Option ℕ)). get_or l k None) e ∙ set_at old id depth k (eqb k id) lt refl

pub places_set : (n : ℕ) (known : Option Known) (old new : List (Option ℕ)) (id depth : ℕ) → HasPlaces n known old → new ≡ set old id (Some depth) → HasPlaces n known new
places_set n None old new id depth has e = e ∙ ap (λ (l : List (Option ℕ)). set l id (Some depth)) has
places_set n (Some m) old new id depth has e = ap length e ∙ length-set old id (Some depth) ∙ has

-- ---- the places of a list that knows something else

-- something is known before and after
pub places_same : (known more : Option Known) (n : ℕ) (old new : List (Option ℕ)) → is_some more ≡ is_some known → HasPlaces n known old → new ≡ old → HasPlaces n more new
places_same None None n old new w has e = e ∙ has
places_same None (Some m) n old new w has e = absurd cc
places_same (Some m) None n old new w has e = absurd cc
places_same (Some m) (Some k) n old new w has e = ap length e ∙ has

-- and a place more for each type of a further group
pub places_push : (known more : Option Known) (G : Group) (gs : List Group) (old new : List (Option ℕ)) (n : ℕ)
    → is_some more ≡ is_some known → is_some known ≡ true → HasPlaces (count gs) known old → n ≡ length G.types → new ≡ old ++ replicate n None
    → HasPlaces (count (G ∷ gs)) more new
places_push None more G gs old new n w still has c e = let z : false ≡ true = still in absurd cc
places_push (Some m) None G gs old new n w still has c e = let z : false ≡ true = w in absurd cc
places_push (Some m) (Some k) G gs old new n w still has c e =
    let no_depth : Option ℕ = None in
    ap length e ∙ length-append old (replicate n None) ∙ omega (arith, has, length-replicate n no_depth, count_push G gs, c)
