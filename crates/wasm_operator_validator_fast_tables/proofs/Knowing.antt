-- Tables of a module while they are made.
use Rattle.std.proofs.Common.{◌≡◌, ◌≤◌, ◌<◌, ◌∙◌, ◌+◌, ◌*◌, inl, inr, ℕ, zero, suc, List, [], ◌∷◌, ◌++◌, Bool, true, false, Some, refl, sym, ap, subst, arith, append-nil, length, take, drop, get_or, slice_get}
use Rattle.std.specs.Prelude.{◌↔◌, IsTrue}
use Rattle.std.proofs.lemmas.List.{append_assoc, length-append, length-drop, length-map, length-take, length_push, map-append, take-append-le, drop-append-le}
use Rattle.std.proofs.lemmas.Option.{slice_get-get_or}
use Rattle.wasm_types.specs.trees.Types.{ref, abstract, func, function}
use Rattle.wasm_types.specs.trees.Trees.{TypeTree}
use Rattle.wasm_types.specs.trees.Below.{Below}
use Rattle.wasm_types.specs.values.Reference.{Reference}
use Rattle.wasm_types.specs.values.declared.heap.HeapType.TheVariants as heap
use Rattle.wasm_types.specs.values.declared.heap.AbstractHeapType.TheVariants as heaps
use Rattle.wasm_types.specs.values.declared.value.ValType.{ValType}
use Rattle.wasm_types.specs.values.declared.value.ValType.TheVariants as vals
use Rattle.wasm_operator_validator_state.specs.State.{types_in}
use Rattle.wasm_operator_validator_state.specs.resources.Meaning.{Meaning, type_in, reference_in}
use Rattle.wasm_operator_validator_rules.specs.Operands.{ValueType}
use Rattle.wasm_operator_validator_rules.specs.Row.{IsOneOf}
use Rattle.wasm_operator_validator_rules.specs.Context.{Module, Table, Signature, IsFunctionType}
use Rattle.wasm_operator_validator_state.specs.blocks.Signatures.{IsFunctionAt}
use Rattle.wasm_operator_validator_fast_tables.specs.declared.tables.Sig.{Sig}
use Rattle.wasm_operator_validator_fast_tables.specs.Stacks.{part}
use Rattle.wasm_operator_validator_fast_tables.specs.declared.tables.Named.{Named}
use Rattle.wasm_operator_validator_fast_tables.specs.Values.{type_of, types, address_of}
use Rattle.wasm_operator_validator_fast_tables.specs.Tables.{params_in, results_in, signature_in, IsTypeIn, IsCalleeIn, HasTableAt}
use Rattle.wasm_operator_validator_fast_tables.specs.Known.{IsMore, StandAlone, ArePlacedIn, IsUsableIn, IsSigIn, AreSigsIn, AreFunctionsIn, AreCalleesOf, AreReferencedIn}
use Rattle.wasm_operator_validator_fast_tables.proofs.Standing.{reference_is}

-- ---- types

-- the answer of a test of types, by references
pub references : (m : Meaning) (b : Bool) (e r : Reference) → r ≡ record { nullable = true; heap = heap.Abstract false heaps.Func }
    → IsTrue b ↔ Below (type_in m (vals.Ref e)) (type_in m (vals.Ref r)) → IsTrue b ↔ Below (reference_in m e) (ref true (abstract false func))
references m b e r f i = subst (λ (x : Reference). IsTrue b ↔ Below (reference_in m e) (reference_in m x)) f
    (subst (λ (y : ValueType). IsTrue b ↔ Below (reference_in m e) y) (reference_is m r) (subst (λ (y : ValueType). IsTrue b ↔ Below y (type_in m (vals.Ref r))) (reference_is m e) i))

-- ---- lists

take_suc : {A : Type 0} (ws : List A) (i : ℕ) (t : A) → slice_get ws i ≡ Some t → take (suc i) ws ≡ take i ws ++ t ∷ []
take_suc [] i t e = cc
take_suc {A} (w ∷ ws) zero t e = let s : w ≡ t = cc in ap (λ (x : A). x ∷ []) s
take_suc {A} (w ∷ ws) (suc i) t e = ap (λ (l : List A). w ∷ l) (take_suc ws i t e)

pub take_next : {A : Type 0} (ws : List A) (i j : ℕ) (t : A) → slice_get ws i ≡ Some t → j ≡ i + 1 → take j ws ≡ take i ws ++ t ∷ []
take_next ws i j t e next = let k : j ≡ suc i = omega (arith, next) in ap (λ n. take n ws) k ∙ take_suc ws i t e

-- one more type has its code
pub codes_more : (ws : List ValType) (i j : ℕ) (t : ValType) (n : ℕ) (olds xs ys : List ℕ) → slice_get ws i ≡ Some t → j ≡ i + 1 → ((m : Meaning) → type_in m t ≡ type_of m.ids n) → ys ≡ xs ++ n ∷ []
    → (cs : List ℕ) × (xs ≡ olds ++ cs) × (length cs ≡ i) × ((m : Meaning) → types_in m (take i ws) ≡ types m.ids cs)
    → (cs : List ℕ) × (ys ≡ olds ++ cs) × (length cs ≡ j) × ((m : Meaning) → types_in m (take j ws) ≡ types m.ids cs)
codes_more ws i j t n olds xs ys at next is e (cs, f, long, h) =
    let k = length_push cs n in (
      cs ++ n ∷ [],
      e ∙ ap (λ (l : List ℕ). l ++ n ∷ []) f ∙ append_assoc olds cs (n ∷ []),
      omega (arith, k, long, next),
      λ m. ap (types_in m) (take_next ws i j t at next) ∙ map-append (type_in m) (take i ws) (t ∷ []) ∙ ap (λ (l : List ValueType). l ++ type_in m t ∷ []) (h m)
          ∙ ap (λ (x : ValueType). types m.ids cs ++ x ∷ []) (is m) ∙ sym (map-append (type_of m.ids) cs (n ∷ [])),
    )

-- what is read of a list to which one was put
pub of_pushed : {A : Type 0} (P : ℕ → A → Type 0) (xs : List A) (x : A) → ((k : ℕ) (y : A) → slice_get xs k ≡ Some y → P k y) → P (length xs) x
    → (k : ℕ) (y : A) → slice_get (xs ++ x ∷ []) k ≡ Some y → P k y
of_pushed P [] x h p zero y e = let s : x ≡ y = cc in subst (P zero) s p
of_pushed P [] x h p (suc k) y e = cc
of_pushed P (a ∷ xs) x h p zero y e = h zero y e
of_pushed P (a ∷ xs) x h p (suc k) y e = of_pushed (λ n z. P (suc n) z) xs x (λ n z f. h (suc n) z f) p k y e

pub of_none : {A : Type 0} (P : ℕ → A → Type 0) (k : ℕ) (y : A) → slice_get [] k ≡ Some y → P k y
of_none P k y e = cc

-- the same of one more than so many
pub each_more : {A : Type 0} (P : ℕ → A → Type 0) (xs ys : List A) (x : A) (n : ℕ) → ys ≡ xs ++ x ∷ [] → ((k : ℕ) (y : A) → slice_get xs k ≡ Some y → P k y) × (length xs ≡ n) → P n x
    → ((k : ℕ) (y : A) → slice_get ys k ≡ Some y → P k y) × (length ys ≡ n + 1)
each_more {A} P xs ys x n e (all, long) one =
    let k = ap (λ (l : List A). length l) e in
    let j = length_push xs x in (
      subst (λ (l : List A). (i : ℕ) (y : A) → slice_get l i ≡ Some y → P i y) (sym e) (of_pushed P xs x all (subst (λ (i : ℕ). P i x) (sym long) one)),
      omega (arith, k, j, long),
    )

-- ---- codes

-- each stands at its own place
pub part_one : (xs : List ℕ) (n x : ℕ) → slice_get xs n ≡ Some x → part n 1 xs ≡ x ∷ []
part_one [] n x e = cc
part_one (y ∷ xs) zero x e = let s : y ≡ x = cc in ap (λ k. k ∷ []) s
part_one (y ∷ xs) (suc n) x e = part_one xs n x e

pub own_next : (xs ys : List ℕ) (n : ℕ) → ys ≡ xs ++ n ∷ [] → ((k y : ℕ) → slice_get xs k ≡ Some y → y ≡ k) × (length xs ≡ n)
    → ((k y : ℕ) → slice_get ys k ≡ Some y → y ≡ k) × (length ys ≡ n + 1)
own_next xs ys n e (own, long) =
    let i = ap (λ (l : List ℕ). length l) e in
    let j = length_push xs n in (
      subst (λ (l : List ℕ). (k y : ℕ) → slice_get l k ≡ Some y → y ≡ k) (sym e) (of_pushed (λ k y. y ≡ k) xs n own (sym long)),
      omega (arith, i, j, long),
    )

pub own_places : (xs : List ℕ) → length xs ≡ 40 → ((k y : ℕ) → slice_get xs k ≡ Some y → y ≡ k) → StandAlone xs
own_places xs long h n lt =
    let there = slice_get-get_or xs n 0 (omega (arith, long, lt)) in
    part_one xs n (get_or xs n 0) there ∙ ap (λ (k : ℕ). k ∷ []) (h n (get_or xs n 0) there)

-- a part stays where more is put behind
pub part_stays : {A : Type 0} (from count : ℕ) (xs ys : List A) → from + count ≤ length xs → take count (drop from (xs ++ ys)) ≡ take count (drop from xs)
part_stays from count xs ys le =
    let n = length-drop from xs in
    ap (take count) (drop-append-le from xs ys (omega (arith, le))) ∙ take-append-le count (drop from xs) ys (omega (arith, le, n))

-- a part that was put behind
drop_past : {A : Type 0} (xs ys : List A) → drop (length xs) (xs ++ ys) ≡ ys
drop_past [] ys = refl
drop_past (x ∷ xs) ys = drop_past xs ys

take_whole : {A : Type 0} (xs : List A) → take (length xs) xs ≡ xs
take_whole [] = refl
take_whole {A} (x ∷ xs) = ap (λ (l : List A). x ∷ l) (take_whole xs)

pub part_is : {A : Type 0} (from count : ℕ) (xs ys : List A) → from ≡ length xs → count ≡ length ys → take count (drop from (xs ++ ys)) ≡ ys
part_is from count xs ys e f = ap (λ (k : ℕ). take count (drop k (xs ++ ys))) e ∙ ap (take count) (drop_past xs ys) ∙ ap (λ (k : ℕ). take k ys) f ∙ take_whole ys

-- a part is there
part_there : (from count : ℕ) (xs ys : List ℕ) → part from count xs ≡ ys → count ≡ length ys → 0 < count → from + count ≤ length xs
part_there from count xs ys e long some =
    let n = length-drop from xs in
    let k = length-take count (drop from xs) in
    let j = ap (λ (l : List ℕ). length l) e in
    omega (arith, n, k, j, long, some)

-- a part that is there stays
part_kept : (from count : ℕ) (xs zs ys : List ℕ) (n : ℕ) → IsMore xs zs n → part from count xs ≡ ys → count ≡ length ys → 0 < count → part from count zs ≡ ys
part_kept from count xs zs ys n (cs, is, few) e long some =
    ap (part from count) is ∙ part_stays from count xs cs (part_there from count xs ys e long some) ∙ e

-- codes that stand for themselves, and those of types, stay
pub alone_more : (xs zs : List ℕ) (n : ℕ) → IsMore xs zs n → StandAlone xs → StandAlone zs
alone_more xs zs n more h k lt = part_kept k 1 xs zs (k ∷ []) n more (h k lt) refl (omega arith)

pub placed_more : (xs zs : List ℕ) (n : ℕ) (ns : List Named) → IsMore xs zs n → ArePlacedIn xs ns → ArePlacedIn zs ns
placed_more xs zs n ns more h y it e lt = part_kept (40 + 2 * y) 2 xs zs (it.code ∷ (it.code + 1) ∷ []) n more (h y it e lt) refl (omega arith)

same_signature : (ids : List TypeTree) (s : Sig) (xs ys : List ℕ) → s.params + s.param_count ≤ length xs → s.results + s.result_count ≤ length xs
    → signature_in ids (xs ++ ys) s ≡ signature_in ids xs s
same_signature ids s xs ys p r =
    ap (λ (ps : List ℕ). record { params = types ids ps; results = types ids (results_in (xs ++ ys) s) }) (part_stays s.params s.param_count xs ys p)
    ∙ ap (λ (rs : List ℕ). record { params = types ids (params_in xs s); results = types ids rs }) (part_stays s.results s.result_count xs ys r)

usable_more : (ids : List TypeTree) (m : Module) (xs ys : List ℕ) (y : ℕ) (s : Sig) → IsUsableIn ids m xs y s → IsUsableIn ids m (xs ++ ys) y s
usable_more ids m xs ys y s u =
    let n = length-append xs ys in
    let p = u.params in
    let r = u.results in
    record {
      params = omega (arith, n, p);
      results = omega (arith, n, r);
      type = u.type;
      at = u.at;
      function = u.function ∙ ap (λ (b : Signature). function b.params b.results) (sym (same_signature ids s xs ys u.params u.results));
    }

sig_more : (ids : List TypeTree) (m : Module) (xs ys : List ℕ) (y : ℕ) (s : Sig) → IsSigIn ids m xs y s → IsSigIn ids m (xs ++ ys) y s
sig_more ids m xs ys y s (inl e) = inl e
sig_more ids m xs ys y s (inr u) = inr (usable_more ids m xs ys y s u)

-- one more signature, with its types behind the other codes
pub sigs_more : (ids : List TypeTree) (m : Module) (xs zs : List ℕ) (n : ℕ) (ss : List Sig) (s : Sig) → IsMore xs zs n → AreSigsIn ids m xs ss → IsSigIn ids m zs (length ss) s
    → AreSigsIn ids m zs (ss ++ s ∷ [])
sigs_more ids m xs zs n ss s (cs, is, few) h one =
    of_pushed (λ y t. IsSigIn ids m zs y t) ss s (λ y t e. subst (λ (l : List ℕ). IsSigIn ids m l y t) (sym is) (sig_more ids m xs cs y t (h y t e))) one

pub sigs_stay : (ids : List TypeTree) (m : Module) (xs zs : List ℕ) (n : ℕ) (ss : List Sig) → IsMore xs zs n → AreSigsIn ids m xs ss → AreSigsIn ids m zs ss
sigs_stay ids m xs zs n ss (cs, is, few) h y t e = subst (λ (l : List ℕ). IsSigIn ids m l y t) (sym is) (sig_more ids m xs cs y t (h y t e))

pub more_long : (xs zs : List ℕ) (n : ℕ) → IsMore xs zs n → (length xs ≤ length zs) × (length zs ≤ length xs + n)
more_long xs zs n (cs, is, few) =
    let k = ap (λ (l : List ℕ). length l) is in
    let j = length-append xs cs in
    (omega (arith, k, j), omega (arith, k, j, few))

pub none_more : (xs : List ℕ) (n : ℕ) → IsMore xs xs n
none_more xs n = ([], sym (append-nil xs), omega arith)

-- the same by what was there at first
pub then_more : (xs ys zs : List ℕ) (n k j : ℕ) → IsMore xs ys n → IsMore ys zs k → length zs ≤ j → IsMore xs zs j
then_more xs ys zs n k j (cs, is, few) (ds, also, less) le =
    let whole = also ∙ ap (λ (l : List ℕ). l ++ ds) is ∙ append_assoc xs cs ds in
    let m = length-append xs (cs ++ ds) in
    let l = ap (λ (l : List ℕ). length l) whole in
    (cs ++ ds, whole, omega (arith, m, l, le))

-- a signature whose types were put behind the codes
pub signed : (m : Meaning) (y : ℕ) (s : Sig) (xs ps rs : List ℕ) (us vs : List ValType) (ys zs : List ℕ) → ys ≡ xs ++ ps → zs ≡ ys ++ rs
    → types_in m us ≡ types m.ids ps → types_in m vs ≡ types m.ids rs → s.params ≡ length xs → s.param_count ≡ length us → s.results ≡ length ys → s.result_count ≡ length vs
    → IsFunctionAt m y (Some (record { params = types_in m us; results = types_in m vs })) → IsSigIn m.ids m.«module» zs y s
signed m y s xs ps rs us vs ys zs e f p r a b c d (t, at, is) =
    let long_p : length us ≡ length ps = sym (length-map us (type_in m)) ∙ ap (λ (l : List ValueType). length l) p ∙ length-map ps (type_of m.ids) in
    let long_r : length vs ≡ length rs = sym (length-map vs (type_in m)) ∙ ap (λ (l : List ValueType). length l) r ∙ length-map rs (type_of m.ids) in
    let n = ap (λ (l : List ℕ). length l) e ∙ length-append xs ps in
    let k = ap (λ (l : List ℕ). length l) f ∙ length-append ys rs in
    let fits_p : s.params + s.param_count ≤ length ys = omega (arith, n, a, b, long_p) in
    let fits_r : s.results + s.result_count ≤ length zs = omega (arith, k, c, d, long_r) in
    let first : params_in zs s ≡ ps = ap (part s.params s.param_count) f ∙ part_stays s.params s.param_count ys rs fits_p
    ∙ ap (part s.params s.param_count) e ∙ part_is s.params s.param_count xs ps a (b ∙ long_p) in
    let second : results_in zs s ≡ rs = ap (part s.results s.result_count) f ∙ part_is s.results s.result_count ys rs c (d ∙ long_r) in
    inr (record {
      params = omega (arith, fits_p, k);
      results = fits_r;
      type = t;
      at = at;
      function = is ∙ ap (λ (l : List ValueType). function l (types_in m vs)) (p ∙ ap (types m.ids) (sym first))
          ∙ ap (λ (l : List ValueType). function (types m.ids (params_in zs s)) l) (r ∙ ap (types m.ids) (sym second));
    })

-- ---- all tables

pub type_known : (ids : List TypeTree) (m : Module) (flat : List ℕ) (y : ℕ) (s : Sig) → length flat < 0xffffffff → IsSigIn ids m flat y s → IsTypeIn ids m flat y s
type_known ids m flat y s few (inl e) le = absurd (omega (arith, few, e, le))
type_known ids m flat y s few (inr u) le = (u.type, u.at, u.function)

-- what a type that is named twice is
twice : (ts : List TypeTree) (y : ℕ) (t u : TypeTree) → slice_get ts y ≡ Some t → slice_get ts y ≡ Some u → t ≡ u
twice ts y t u e f = cc

pub callee_known : (ids : List TypeTree) (m : Module) (flat fs : List ℕ) (ss hs : List Sig) (x : ℕ) (s : Sig) → AreFunctionsIn m fs
    → ((y : ℕ) (k : Sig) → slice_get ss y ≡ Some k → IsTypeIn ids m flat y k) → AreCalleesOf fs ss hs → slice_get hs x ≡ Some s → IsCalleeIn ids m flat x s
callee_known ids m flat fs ss hs x s functions types callees at le =
    let (y, indexed, signed) = callees x s at in
    let (f, there, also) = functions x y indexed in
    let (h, other, is) = types y s signed le in
    (f, there, subst (λ (t : TypeTree). IsFunctionType t (signature_in ids flat s)) (twice m.types y h f other also) is)

pub table_known : (m : Meaning) (t : Table) (b : Bool) (code : ℕ) → Some t ≡ slice_get m.«module».tables 0 → code ≡ address_of t.table64
    → IsTrue b ↔ Below t.element (ref true (abstract false func)) → b ≡ true → HasTableAt m.«module» 0 code
table_known m t b code at wide i holds = (t, sym at, wide, (false, i.0 holds))

-- ---- functions that code may refer to

pub referenced_more : (m : Module) (bs cs : List Bool) (b : Bool) (n : ℕ) → cs ≡ bs ++ b ∷ [] → IsTrue b ↔ IsOneOf n m.referenced → AreReferencedIn m bs × (length bs ≡ n)
    → AreReferencedIn m cs × (length cs ≡ n + 1)
referenced_more m bs cs b n e is (all, long) =
    let k = ap (λ (l : List Bool). length l) e in
    let j = length_push bs b in
    let P : ℕ → Bool → Type 0 = λ x y. y ≡ true → IsOneOf x m.referenced in
    let each = of_pushed P bs b (λ x y at f. all x (subst (λ (z : Bool). slice_get bs x ≡ Some z) f at)) (subst (λ (i : ℕ). P i b) (sym long) (λ f. is.0 f)) in (
      subst (λ (l : List Bool). AreReferencedIn m l) (sym e) (λ x at. each x true at refl),
      omega (arith, k, j, long),
    )
