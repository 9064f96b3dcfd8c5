-- Names that are kept one by one.
use Rattle.std.specs.Prelude.{IsUtf8}
use Rattle.std.proofs.Common.{◌≡◌, ◌∙◌, ◌<◌, ◌+◌, take, arith, get_or, set, true, false, Bool, ℕ, zero, suc, pred, List, [], ◌∷◌, ◌++◌, length, slice_get, Option, Some, None, option_map, refl, sym, ap, subst, inr, ⊎_elim, String, string_bytes, if◌then◌else◌}
use Rattle.std.specs.declared.alloc.Global.{Global}
use Rattle.std.specs.Option.{unwrap_or}
use Rattle.std.specs.Str.{bytes_eq}
use Rattle.std.specs.Cmp.Lexicographic.{bytes_decides}
use Rattle.std.proofs.lemmas.List.{length_push, length-map, map-append, take_more}
use Rattle.wasm_module_validator_exports.specs.declared.names.imports.Place.{Place}
use Rattle.wasm_module_validator_exports.specs.declared.names.imports.KeptNames.{KeptNames}
use Rattle.wasm_module_validator_exports.specs.names.Imports.{AreKept, HasAdded, HasKept, HasKeptNames, HasPushed, ImportedName, StaysKept, Pair, all_named, has_names, index_of, is_pair, module_at, module_name_of, named_at, pairs_of, with_import}
use Rattle.wasm_module_validator_exports.specs.names.Kept.{IsNamed, name_at}
use Rattle.wasm_module_validator_exports.proofs.Kept.{last_name, last_named, name_still, named_still}

-- what stands at an index that is there
pub read : {A : Type 0} (xs : List A) (i : ℕ) (x : A) → i < length xs → x ≡ get_or xs i x → slice_get xs i ≡ Some x
read [] i x h e = absurd (omega (arith, h))
read (y ∷ ys) zero x h e = ap Some (sym e)
read (y ∷ ys) (suc i) x h e = read ys i x (omega (arith, h)) e

-- ---- a name of a module more

module_still : (ms : List (String Global)) (t : String Global) (x : ℕ) → x < length ms → module_at (ms ++ t ∷ []) x ≡ module_at ms x
module_still [] t x l = absurd (omega (arith, l))
module_still (m ∷ ms) t zero l = refl
module_still (m ∷ ms) t (suc x) l = module_still ms t x (omega (arith, l))

named_with : KeptNames → List ℕ → List ℕ → ImportedName
named_with k m f = record { module_name = m; field_name = f; places = k.first ∷ k.others.items }

all_still : (ms : List (String Global)) (t : String Global) (names : List ℕ) (ks : List KeptNames) → AreKept ms names ks
    → all_named (ms ++ t ∷ []) names ks ≡ all_named ms names ks
all_still ms t names [] h = refl
all_still ms t names (k ∷ ks) h =
    let here = module_still ms t k.«module» h.0 in
    let rest = all_still ms t names ks h.2 in
    λ i. record { module_name = here i; field_name = name_at names k.name; places = k.first ∷ k.others.items } ∷ rest i

kept_still : (ms : List (String Global)) (t : String Global) (names : List ℕ) (ks : List KeptNames) → AreKept ms names ks → AreKept (ms ++ t ∷ []) names ks
kept_still ms t names [] h = tt
kept_still ms t names (k ∷ ks) h = (let l = length_push ms t in let j = h.0 in omega (arith, l, j), h.1, kept_still ms t names ks h.2)

module _ (m : List ℕ) (old new : List (String Global)) (t : List ℕ) (ks : List KeptNames) where
  -- the pairs are the same when the name of a module was kept, and each has its own still
  pub same_named : (r : Option ℕ) → HasKept m old new r → AreKept old t ks → all_named new t ks ≡ all_named old t ks
  same_named None e h = ap (λ (ms : List (String Global)). all_named ms t ks) e
  same_named (Some x) s h =
      ⊎_elim (λ e. ap (λ (ms : List (String Global)). all_named ms t ks) e) (λ e. ap (λ (ms : List (String Global)). all_named ms t ks) e.1 ∙ all_still old e.0 t ks h) s.2

  pub kept_further : (r : Option ℕ) → HasKept m old new r → AreKept old t ks → AreKept new t ks
  kept_further None e h = subst (λ (ms : List (String Global)). AreKept ms t ks) (sym e) h
  kept_further (Some x) s h = ⊎_elim (λ e. subst (λ (ms : List (String Global)). AreKept ms t ks) (sym e) h)
      (λ e. subst (λ (ms : List (String Global)). AreKept ms t ks) (sym e.1) (kept_still old e.0 t ks h)) s.2

-- ---- bytes of names more

module _ (ms : List (String Global)) (t more : List ℕ) where
  named_longer : (ks : List KeptNames) → AreKept ms t ks → all_named ms (t ++ more) ks ≡ all_named ms t ks
  named_longer [] h = refl
  named_longer (k ∷ ks) h =
      let here = name_still t more k.name h.1 in
      let rest = named_longer ks h.2 in
      λ i. record { module_name = module_at ms k.«module»; field_name = here i; places = k.first ∷ k.others.items } ∷ rest i

  kept_longer : (ks : List KeptNames) → AreKept ms t ks → AreKept ms (t ++ more) ks
  kept_longer [] h = tt
  kept_longer (k ∷ ks) h = (h.0, named_still t more k.name h.1, kept_longer ks h.2)

-- a name of a module that was met
pub met_at : (ms : List (String Global)) (x : ℕ) (t : String Global) (m : List ℕ) → x < length ms → t ≡ get_or ms x t → bytes_eq m (string_bytes t) ≡ true → module_at ms x ≡ m
met_at ms x t m l e b = ap module_name_of (read ms x t l e) ∙ sym ((bytes_decides m (string_bytes t)).0 b)

-- what was put behind the others stands there
pub last_module : (ms : List (String Global)) (t : String Global) → module_at (ms ++ t ∷ []) (length ms) ≡ string_bytes t
last_module [] t = refl
last_module (m ∷ ms) t = last_module ms t

-- the name of a module behind the others
pub kept_behind : (m : List ℕ) (old new : List (String Global)) (t : String Global) (x : ℕ) → string_bytes t ≡ m → new ≡ old ++ t ∷ [] → x ≡ length old → HasKept m old new (Some x)
kept_behind m old new t x e put at = (
  let l = length_push old t in let k = ap length put in omega (arith, l, k, at),
  ap (λ (ms : List (String Global)). module_at ms x) put ∙ ap (module_at (old ++ t ∷ [])) at ∙ last_module old t ∙ e,
  inr (t, put),
)

-- ---- names of a pair, kept

module _ (m f : List ℕ) (p : Place) (old new : List (String Global)) (t u : List ℕ) where
  -- the names before are as they were
  stays_kept : (r : Option ℕ) → HasKept m old new r → u ≡ t ++ f → StaysKept old new t u
  stays_kept r s long ks h =
      let kept : AreKept new t ks = kept_further m old new t ks r s h in
      subst (λ (v : List ℕ). (all_named new v ks ≡ all_named old t ks) × AreKept new v ks) (sym long)
      (named_longer new t f ks kept ∙ same_named m old new t ks r s h, kept_longer new t f ks kept)

  pub stays_without : (r : Option ℕ) → HasKept m old new r → u ≡ t → StaysKept old new t u
  stays_without r s same ks h =
      subst (λ (v : List ℕ). (all_named new v ks ≡ all_named old t ks) × AreKept new v ks) (sym same) (same_named m old new t ks r s h, kept_further m old new t ks r s h)

  pub keeps_names : (k : KeptNames) → HasKept m old new (Some k.«module») → u ≡ t ++ f → IsUtf8 f → k.name.start ≡ length t → k.name.end ≡ length u → k.first ≡ p → k.others.items ≡ []
      → HasKeptNames m f p old new t u (Some k)
  keeps_names k s long utf8 start end first others =
      let last : k.name.end ≡ length (t ++ f) = end ∙ ap length long in
      let field : name_at u k.name ≡ f = ap (λ (v : List ℕ). name_at v k.name) long ∙ last_name t f k.name start last in (
        stays_kept (Some k.«module») s long,
        s.0,
        subst (λ (v : List ℕ). IsNamed v k.name) (sym long) (last_named t f k.name start last utf8),
        λ i. record { module_name = s.1 i; field_name = field i; places = first i ∷ others i },
      )

-- ---- an import more, by the pairs

none_behind : (o : Option ℕ) → option_map suc o ≡ None → o ≡ None
none_behind None e = refl
none_behind (Some i) e = absurd cc

first_only : (o : Option ℕ) → option_map suc o ≡ Some 0 → ⊥
first_only None e = cc
first_only (Some i) e = cc

found_behind : (o : Option ℕ) (i : ℕ) → option_map suc o ≡ Some (suc i) → o ≡ Some i
found_behind None i e = absurd cc
found_behind (Some j) i e = ap (option_map pred) e

module _ (m f : List ℕ) (p : Place) where
  abbrev then_found : List Pair → Bool → Option ℕ
  then_found ps t = if t then Some 0 else option_map suc (index_of m f ps)

  abbrev then_more : ImportedName → List ImportedName → Bool → List ImportedName
  then_more n ns t = if t then record n { places = n.places ++ p ∷ [] } ∷ ns else n ∷ with_import m f p ns

  -- where no names are these, the import comes with names of its own
  pub import_behind : (ns : List ImportedName) → index_of m f (pairs_of ns) ≡ None → with_import m f p ns ≡ ns ++ record { module_name = m; field_name = f; places = p ∷ [] } ∷ []
  import_behind [] e = refl
  import_behind (n ∷ ns) e = step (import_behind ns) (has_names m f n) refl
    where
      step : (index_of m f (pairs_of ns) ≡ None → with_import m f p ns ≡ ns ++ record { module_name = m; field_name = f; places = p ∷ [] } ∷ []) → (b : Bool) → has_names m f n ≡ b
          → with_import m f p (n ∷ ns) ≡ (n ∷ ns) ++ record { module_name = m; field_name = f; places = p ∷ [] } ∷ []
      step ih true h = absurd (let k : Some 0 ≡ None = sym (ap (then_found (pairs_of ns)) h) ∙ e in cc)
      step ih false h =
          let k : option_map suc (index_of m f (pairs_of ns)) ≡ None = sym (ap (then_found (pairs_of ns)) h) ∙ e in
          ap (then_more n ns) h ∙ ap (λ (l : List ImportedName). n ∷ l) (ih (none_behind (index_of m f (pairs_of ns)) k))

  -- where they stand it comes to them
  pub import_at : (ms : List (String Global)) (t : List ℕ) (ks : List KeptNames) (at : ℕ) (x y : KeptNames) → slice_get ks at ≡ Some x
      → named_at ms t y ≡ record (named_at ms t x) { places = (named_at ms t x).places ++ p ∷ [] }
      → index_of m f (pairs_of (all_named ms t ks)) ≡ Some at → all_named ms t (set ks at y) ≡ with_import m f p (all_named ms t ks)
  import_at ms t [] at x y e g k = absurd cc
  import_at ms t (z ∷ zs) at x y e g k = step (λ i u v. import_at ms t zs i x y u g v) (has_names m f (named_at ms t z)) refl at e k
    where
      ns : List ImportedName
      ns = all_named ms t zs

      step : ((i : ℕ) → slice_get zs i ≡ Some x → index_of m f (pairs_of (all_named ms t zs)) ≡ Some i → all_named ms t (set zs i y) ≡ with_import m f p (all_named ms t zs))
          → (b : Bool) → has_names m f (named_at ms t z) ≡ b → (i : ℕ) → slice_get (z ∷ zs) i ≡ Some x
          → then_found (pairs_of (all_named ms t zs)) (has_names m f (named_at ms t z)) ≡ Some i
          → all_named ms t (set (z ∷ zs) i y) ≡ then_more (named_at ms t z) (all_named ms t zs) (has_names m f (named_at ms t z))
      step ih true h zero e k =
          let same : z ≡ x = ap (λ o. unwrap_or o z) e in
          sym (ap (then_more (named_at ms t z) (all_named ms t zs)) h
          ∙ ap (λ (w : KeptNames). record (named_at ms t w) { places = (named_at ms t w).places ++ p ∷ [] } ∷ all_named ms t zs) same
          ∙ ap (λ (n : ImportedName). n ∷ all_named ms t zs) (sym g))
      step ih true h (suc i) e k = absurd (let l : Some 0 ≡ Some (suc i) = sym (ap (then_found (pairs_of (all_named ms t zs))) h) ∙ k in cc)
      step ih false h zero e k = absurd (first_only (index_of m f (pairs_of (all_named ms t zs))) (sym (ap (then_found (pairs_of (all_named ms t zs))) h) ∙ k))
      step ih false h (suc i) e k =
          let l : index_of m f (pairs_of (all_named ms t zs)) ≡ Some i
          = found_behind (index_of m f (pairs_of (all_named ms t zs))) i (sym (ap (then_found (pairs_of (all_named ms t zs))) h) ∙ k) in
          ap (λ (l : List ImportedName). named_at ms t z ∷ l) (ih i e l) ∙ sym (ap (then_more (named_at ms t z) (all_named ms t zs)) h)

-- a pair that stands is there
pub index_within : (m f : List ℕ) (ps : List Pair) (i : ℕ) → index_of m f ps ≡ Some i → i < length ps
index_within m f [] i e = absurd cc
index_within m f (p ∷ ps) i e = step (index_within m f ps) (is_pair m f p) refl i e
  where
    step : ((j : ℕ) → index_of m f ps ≡ Some j → j < length ps) → (b : Bool) → is_pair m f p ≡ b → (j : ℕ)
        → (if is_pair m f p then Some 0 else option_map suc (index_of m f ps)) ≡ Some j → j < suc (length ps)
    step ih true h zero k = omega arith
    step ih true h (suc j) k = absurd (let l : Some 0 ≡ Some (suc j) = sym (ap (λ (t : Bool). if t then Some 0 else option_map suc (index_of m f ps)) h) ∙ k in cc)
    step ih false h zero k = absurd (first_only (index_of m f ps) (sym (ap (λ (t : Bool). if t then Some 0 else option_map suc (index_of m f ps)) h) ∙ k))
    step ih false h (suc j) k =
        let l : j < length ps = ih j (found_behind (index_of m f ps) j (sym (ap (λ (t : Bool). if t then Some 0 else option_map suc (index_of m f ps)) h) ∙ k)) in
        omega (arith, l)

-- what is put at an index changes no names, if it has those that stood there
pub pairs_set : (ms : List (String Global)) (t : List ℕ) (ks : List KeptNames) (at : ℕ) (x y : KeptNames) → slice_get ks at ≡ Some x
    → module_at ms y.«module» ≡ module_at ms x.«module» → name_at t y.name ≡ name_at t x.name → pairs_of (all_named ms t (set ks at y)) ≡ pairs_of (all_named ms t ks)
pairs_set ms t [] at x y e g h = absurd cc
pairs_set ms t (z ∷ zs) zero x y e g h =
    let same : z ≡ x = ap (λ o. unwrap_or o z) e in
    let module_same : module_at ms y.«module» ≡ module_at ms z.«module» = g ∙ ap (λ (w : KeptNames). module_at ms w.«module») (sym same) in
    let name_same : name_at t y.name ≡ name_at t z.name = h ∙ ap (λ (w : KeptNames). name_at t w.name) (sym same) in
    λ i. (module_same i, name_same i) ∷ pairs_of (all_named ms t zs)
pairs_set ms t (z ∷ zs) (suc i) x y e g h = ap (λ (ps : List Pair). (module_at ms z.«module», name_at t z.name) ∷ ps) (pairs_set ms t zs i x y e g h)

-- how many pairs there are
pub pairs_counted : (ms : List (String Global)) (t : List ℕ) (ks : List KeptNames) → length (pairs_of (all_named ms t ks)) ≡ length ks
pairs_counted ms t ks = length-map (all_named ms t ks) (λ (n : ImportedName). (n.module_name, n.field_name)) ∙ length-map ks (named_at ms t)

-- the pair that stands at an index
pub pair_at : (ms : List (String Global)) (t : List ℕ) (ks : List KeptNames) (i : ℕ) → slice_get (pairs_of (all_named ms t ks)) i
    ≡ option_map (λ (k : KeptNames). (module_at ms k.«module», name_at t k.name)) (slice_get ks i)
pair_at ms t [] i = refl
pair_at ms t (k ∷ ks) zero = refl
pair_at ms t (k ∷ ks) (suc i) = pair_at ms t ks i

pub named_there : (ms : List (String Global)) (t : List ℕ) (ks : List KeptNames) (i : ℕ) → slice_get (all_named ms t ks) i ≡ option_map (named_at ms t) (slice_get ks i)
named_there ms t [] i = refl
named_there ms t (k ∷ ks) zero = refl
named_there ms t (k ∷ ks) (suc i) = named_there ms t ks i

-- what is kept at an index is named
pub kept_at : (ms : List (String Global)) (t : List ℕ) (ks : List KeptNames) (i : ℕ) (k : KeptNames) → AreKept ms t ks → slice_get ks i ≡ Some k → IsNamed t k.name
kept_at ms t [] i k h e = absurd cc
kept_at ms t (x ∷ xs) zero k h e = subst (λ (j : KeptNames). IsNamed t j.name) (ap (λ o. unwrap_or o x) e) h.1
kept_at ms t (x ∷ xs) (suc i) k h e = kept_at ms t xs i k h.2 e

-- some of what is kept is kept
pub kept_front : (ms : List (String Global)) (t : List ℕ) (ks : List KeptNames) (i : ℕ) → AreKept ms t ks → AreKept ms t (take i ks)
kept_front ms t ks zero h = tt
kept_front ms t [] (suc i) h = tt
kept_front ms t (k ∷ ks) (suc i) h = (h.0, h.1, kept_front ms t ks i h.2)

-- a pair further
pub one_further : (ms : List (String Global)) (t : List ℕ) (ks : List KeptNames) (i : ℕ) (k : KeptNames) → i < length ks → k ≡ get_or ks i k
    → pairs_of (all_named ms t (take (i + 1) ks)) ≡ pairs_of (all_named ms t (take i ks)) ++ (module_at ms k.«module», name_at t k.name) ∷ []
one_further ms t ks i k h r =
    let all : List KeptNames → List Pair = (λ js. pairs_of (all_named ms t js)) in
    ap all (take_more ks i k h) ∙ ap (λ (j : KeptNames). all (take i ks ++ j ∷ [])) (sym r)
    ∙ ap pairs_of (map-append (named_at ms t) (take i ks) (k ∷ []))
    ∙ map-append (λ (n : ImportedName). (n.module_name, n.field_name)) (all_named ms t (take i ks)) (named_at ms t k ∷ [])

-- ---- what comes to a pair

-- an item is exchanged for one of the same names
module _ (ms : List (String Global)) (t : List ℕ) (x y : KeptNames) (same_module : y.«module» ≡ x.«module») (same_name : y.name ≡ x.name) where
  module_stays : module_at ms y.«module» ≡ module_at ms x.«module»
  module_stays = ap (module_at ms) same_module

  name_stays : name_at t y.name ≡ name_at t x.name
  name_stays = ap (name_at t) same_name

  pub kept_set : (ks : List KeptNames) (at : ℕ) → slice_get ks at ≡ Some x → AreKept ms t ks → AreKept ms t (set ks at y)
  kept_set [] at e h = absurd cc
  kept_set (z ∷ zs) zero e h =
      let same : z ≡ x = ap (λ o. unwrap_or o z) e in
      let low : z.«module» ≡ x.«module» = ap (λ (k : KeptNames). k.«module») same in
      let short = h.0 in
      (omega (arith, short, low, same_module), subst (IsNamed t) (ap (λ (k : KeptNames). k.name) same ∙ sym same_name) h.1, h.2)
  kept_set (z ∷ zs) (suc i) e h = (h.0, h.1, kept_set zs i e h.2)

  pub pairs_stay : (ks : List KeptNames) (at : ℕ) → slice_get ks at ≡ Some x → pairs_of (all_named ms t (set ks at y)) ≡ pairs_of (all_named ms t ks)
  pairs_stay ks at e = pairs_set ms t ks at x y e module_stays name_stays

  -- it has the same places
  named_alike : y.first ≡ x.first → y.others.items ≡ x.others.items → named_at ms t y ≡ named_at ms t x
  named_alike f o = λ i. record { module_name = module_stays i; field_name = name_stays i; places = f i ∷ o i }

  pub all_stay : (ks : List KeptNames) (at : ℕ) → slice_get ks at ≡ Some x → y.first ≡ x.first → y.others.items ≡ x.others.items → all_named ms t (set ks at y) ≡ all_named ms t ks
  all_stay [] at e f o = absurd cc
  all_stay (z ∷ zs) zero e f o =
      let same : z ≡ x = ap (λ w. unwrap_or w z) e in
      ap (λ (n : ImportedName). n ∷ all_named ms t zs) (named_alike f o ∙ ap (named_at ms t) (sym same))
  all_stay (z ∷ zs) (suc i) e f o = ap (λ (ns : List ImportedName). named_at ms t z ∷ ns) (all_stay zs i e f o)

  -- or one more
  pub one_comes : (m f : List ℕ) (p : Place) (ks : List KeptNames) (at : ℕ) → slice_get ks at ≡ Some x → y.first ≡ x.first → y.others.items ≡ x.others.items ++ p ∷ []
      → index_of m f (pairs_of (all_named ms t ks)) ≡ Some at → all_named ms t (set ks at y) ≡ with_import m f p (all_named ms t ks)
  one_comes m f p ks at e first others k =
      import_at m f p ms t ks at x y e (λ i. record { module_name = module_stays i; field_name = name_stays i; places = first i ∷ others i }) k

-- ---- an import more

-- The names of a pair were kept; those before it stay.
module _ (m f : List ℕ) (p : Place) (old new : List (String Global)) (t u : List ℕ) (ks : List KeptNames) (k : KeptNames)
    (h : AreKept old t ks) (keeps : HasKeptNames m f p old new t u (Some k)) where
  abbrev before : List ImportedName
  before = all_named old t ks

  pub same_before : all_named new u ks ≡ before
  same_before = (keeps.0 ks h).0

  pub still_kept : AreKept new u ks
  still_kept = (keeps.0 ks h).1

  -- it comes behind the others
  pub comes_behind : index_of m f (pairs_of (all_named new u ks)) ≡ None → all_named new u (ks ++ k ∷ []) ≡ with_import m f p before
  comes_behind none =
      map-append (named_at new u) ks (k ∷ []) ∙ ap (λ (n : ImportedName). all_named new u ks ++ n ∷ []) keeps.3
      ∙ sym (import_behind m f p (all_named new u ks) none) ∙ ap (with_import m f p) same_before

  pub kept_more : AreKept new u (ks ++ k ∷ [])
  kept_more = push ks still_kept
    where
      push : (js : List KeptNames) → AreKept new u js → AreKept new u (js ++ k ∷ [])
      push [] a = (keeps.1, keeps.2, tt)
      push (j ∷ js) a = (a.0, a.1, push js a.2)

  pub pairs_more : pairs_of (all_named new u (ks ++ k ∷ [])) ≡ pairs_of (all_named new u ks) ++ (m, f) ∷ []
  pairs_more =
      ap pairs_of (map-append (named_at new u) ks (k ∷ [])) ∙ map-append (λ (n : ImportedName). (n.module_name, n.field_name)) (all_named new u ks) (named_at new u k ∷ [])
      ∙ ap (λ (n : ImportedName). pairs_of (all_named new u ks) ++ (n.module_name, n.field_name) ∷ []) keeps.3

-- what comes to a pair that stands: it is imported by these names besides, where there was memory
pub comes_at : (m f : List ℕ) (p : Place) (ms : List (String Global)) (t : List ℕ) (ks next : List KeptNames) (at : ℕ) (all : List ImportedName) (b : Bool) → HasPushed at p ks next b
    → index_of m f (pairs_of (all_named ms t ks)) ≡ Some at → all_named ms t ks ≡ all → HasAdded m f p all (all_named ms t next) b
comes_at m f p ms t ks next at all true (x, y, got, put, mo, na, fi, it) e same =
    ap (all_named ms t) put ∙ (one_comes ms t x y mo na m f p ks at got fi it e ∙ ap (with_import m f p) same)
comes_at m f p ms t ks next at all false (x, y, got, put, mo, na, fi, it) e same =
    ap (all_named ms t) put ∙ (all_stay ms t x y mo na ks at got fi it ∙ same)

-- and the names stay
pub stays_at : (p : Place) (ms : List (String Global)) (t : List ℕ) (ks next : List KeptNames) (at : ℕ) (b : Bool) → HasPushed at p ks next b → AreKept ms t ks
    → AreKept ms t next × (pairs_of (all_named ms t next) ≡ pairs_of (all_named ms t ks))
stays_at p ms t ks next at b (x, y, got, put, mo, na, fi, it) h =
    subst (λ (js : List KeptNames). AreKept ms t js × (pairs_of (all_named ms t js) ≡ pairs_of (all_named ms t ks))) (sym put)
    (kept_set ms t x y mo na ks at got h, pairs_stay ms t x y mo na ks at got)
