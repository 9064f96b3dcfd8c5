-- The rows of a group have the kinds of each of its operators, and no row for a code of another group.
use Rattle.std.proofs.Common.{◌≡◌, ◌∙◌, ℕ, zero, suc, Bool, true, false, ◌&&◌, ◌||◌, eqb, List, [], ◌∷◌, map, Option, Some, None, option_map, refl, sym, ap, subst, ◌⊎◌, inl, inr}
use Rattle.std.specs.Prelude.{◌==◌, if◌then◌else◌, is_none}
use Rattle.std.proofs.lemmas.Bool.{eqb-true, eqb-false, eq-eqb}
use Rattle.wasm_operators_immediates.specs.Info.{Info}
use Rattle.wasm_operators_immediates.proofs.Codes.{key_of, key, find, Told, left, right}
use Rattle.wasm_operators_immediates.specs.Kinds.{Kind}
use Rattle.wasm_operators_immediates.specs.Immediates.{Immediate, kind_of}
use Rattle.wasm_operators_encoding.specs.Rows.{Row, kinds_by, same_prefix, row, rows}
use Rattle.wasm_operators_encoding.specs.Coded.{or_else}

-- ---- prefixes

pub same_as_itself : (p : Option ℕ) → same_prefix p p ≡ true
same_as_itself None = refl
same_as_itself (Some p) = eq-eqb p p refl

pub is_same : (p q : Option ℕ) → same_prefix p q ≡ true → q ≡ p
is_same None None h = refl
is_same None (Some q) h = absurd cc
is_same (Some p) None h = absurd cc
is_same (Some p) (Some q) h = ap Some (sym (eqb-true p q h))

either : (a b : Bool) → (a || b) ≡ true → (a ≡ true) ⊎ (b ≡ true)
either true b h = inl refl
either false b h = inr h

-- ---- what holds of each row of a list

module _ {G M : Type 0} (info : G → Info) (Q : Info → Bool) where
  abbrev pub each_row : List (G × M) → Bool
  each_row [] = true
  each_row (e ∷ es) = Q (info e.0) && each_row es

  module _ (i : Info) where
    row_here : (d : G × M) (es : List (G × M)) (here : Bool) → Q (info d.0) ≡ true →
        (option_map (λ (e : G × M). info e.0) (find info (key i) es) ≡ Some i → Q i ≡ true) → option_map (λ (e : G × M). info e.0)
        (elim here [ true ↦ Some d | false ↦ find info (key i) es ]) ≡ Some i → Q i ≡ true
    row_here d es true q later f = let e : info d.0 ≡ i = cc in subst (λ (j : Info). Q j ≡ true) e q
    row_here d es false q later f = later f

    pub row_has : (es : List (G × M)) → each_row es ≡ true → option_map (λ (e : G × M). info e.0) (find info (key i) es) ≡ Some i → Q i ≡ true
    row_has [] all f = absurd cc
    row_has (d ∷ es) all f =
        row_here d es (eqb (key (info d.0)) (key i)) (left (Q (info d.0)) (each_row es) all) (row_has es (right (Q (info d.0)) (each_row es) all)) f

-- ---- an operator's own row

-- these rows have these kinds at the code of this row
abbrev Has : Info → List Kind → List Row → Type 0
Has i ks rs = kinds_by rs i.code ≡ Some ks

module _ {G M : Type 0} (info : G → Info) (carried : G → List Immediate) (i : Info) (ks : List Kind) where
  -- the row of what was found, and its kinds
  abbrev IsFound : Option (G × M) → Type 0
  IsFound e = (option_map (λ (d : G × M). info d.0) e ≡ Some i) × (option_map (λ (d : G × M). map kind_of (carried d.0)) e ≡ Some ks)

  by_code : (d : G × M) (es : List (G × M)) (same : Bool) → (i.code == (info d.0).code) ≡ same → (same ≡ true → map kind_of (carried d.0) ≡ ks) →
      (same ≡ false → Has i ks (rows info carried i.prefix es)) →
      (if same then Some (map kind_of (carried d.0)) else kinds_by (rows info carried i.prefix es) i.code) ≡ Some ks
  by_code d es true e here later = ap Some (here refl)
  by_code d es false e here later = later refl

  own_row : (d : G × M) (es : List (G × M)) (here : Bool) → eqb (key (info d.0)) (key i) ≡ here → (same : Bool) → same_prefix i.prefix (info d.0).prefix ≡ same →
      (IsFound (find info (key i) es) → Has i ks (rows info carried i.prefix es)) → IsFound (elim here [ true ↦ Some d | false ↦ find info (key i) es ]) →
      Has i ks (if same then row info carried i.prefix d ∷ rows info carried i.prefix es else rows info carried i.prefix es)
  own_row d es true e true p later f =
      let of_f = f.0 in
      let of_g = f.1 in
      let is : info d.0 ≡ i = cc in
      let ls : map kind_of (carried d.0) ≡ ks = cc in
      by_code d es (i.code == (info d.0).code) refl (λ t. ls)
      (λ t. absurd (eqb-false i.code (info d.0).code t (ap (λ (j : Info). j.code) (sym is))))
  own_row d es true e false p later f =
      let of_f = f.0 in
      let is : info d.0 ≡ i = cc in
      let yes : same_prefix i.prefix (info d.0).prefix ≡ true = ap (λ (j : Info). same_prefix i.prefix j.prefix) is ∙ same_as_itself i.prefix in
      let no : true ≡ false = sym yes ∙ p in absurd cc
  own_row d es false e true p later f =
      by_code d es (i.code == (info d.0).code) refl
      (λ t. let q : (info d.0).prefix ≡ i.prefix = is_same i.prefix (info d.0).prefix p in
      let c : (info d.0).code ≡ i.code = sym (eqb-true i.code (info d.0).code t) in
      let k : key (info d.0) ≡ key i = λ x. key_of (q x) (c x) in
      absurd (eqb-false (key (info d.0)) (key i) e k))
      (λ t. later f)
  own_row d es false e false p later f = later f

  pub kinds_in_rows : (es : List (G × M)) → IsFound (find info (key i) es) → Has i ks (rows info carried i.prefix es)
  kinds_in_rows [] f = let of_f = f.0 in absurd cc
  kinds_in_rows (d ∷ es) f =
      own_row d es (eqb (key (info d.0)) (key i)) refl (same_prefix i.prefix (info d.0).prefix) refl (kinds_in_rows es) f

-- ---- an operator of a list

module _ {G : Type 0} (info : G → Info) (carried : G → List Immediate) (list : List (G × (List Immediate → Option G))) (o : G) (told : Told info carried (map kind_of) list o) where
  -- the rows with the operator's prefix have its kinds at its code
  pub kinds_told : kinds_by (rows info carried (info o).prefix list) (info o).code ≡ Some (map kind_of (carried o))
  kinds_told = kinds_in_rows info carried (info o) (map kind_of (carried o)) list told

  -- and so have those with this prefix, if it is the operator's
  pub own_kinds_behind : (p : Option ℕ) → (info o).prefix ≡ p → kinds_by (rows info carried p list) (info o).code ≡ Some (map kind_of (carried o))
  own_kinds_behind p e =
      subst (λ (q : Option ℕ). kinds_by (rows info carried q list) (info o).code ≡ Some (map kind_of (carried o))) e kinds_told

  -- kinds by prefix and code, which have all that the rows with this prefix have
  abbrev pub Follows : (Option ℕ → ℕ → Option (List Kind)) → Option ℕ → Type 0
  Follows kinds p = (code : ℕ) (ks : List Kind) → kinds_by (rows info carried p list) code ≡ Some ks → kinds p code ≡ Some ks

  module _ (kinds : Option ℕ → ℕ → Option (List Kind)) where
    -- have the operator's
    abbrev HasOwn : Type 0
    HasOwn = kinds (info o).prefix (info o).code ≡ Some (map kind_of (carried o))

    by_prefix : (p : Option ℕ) → Follows kinds p → same_prefix p (info o).prefix ≡ true → HasOwn
    by_prefix p follows h =
        let e : p ≡ (info o).prefix = sym (is_same p (info o).prefix h) in
        subst (λ (q : Option ℕ). Follows kinds q) e follows (info o).code (map kind_of (carried o)) kinds_told

    -- where the whole list has one prefix
    pub own_kinds : (p : Option ℕ) → each_row info (λ i. same_prefix p i.prefix) list ≡ true → Follows kinds p → HasOwn
    own_kinds p all follows = by_prefix p follows (row_has info (λ i. same_prefix p i.prefix) (info o) list all told.0)

    -- or one of two
    pub own_kinds_of_two : (p q : Option ℕ) → each_row info (λ i. same_prefix p i.prefix || same_prefix q i.prefix) list ≡ true → Follows kinds p → Follows kinds q → HasOwn
    own_kinds_of_two p q all follows then_follows = go (either (same_prefix p (info o).prefix) (same_prefix q (info o).prefix)
        (row_has info (λ i. same_prefix p i.prefix || same_prefix q i.prefix) (info o) list all told.0)) where
          go : (same_prefix p (info o).prefix ≡ true) ⊎ (same_prefix q (info o).prefix ≡ true) → HasOwn
          go (inl h) = by_prefix p follows h
          go (inr h) = by_prefix q then_follows h

-- ---- rows before others

-- none of the others' codes is in these rows
abbrev pub apart : List Row → List Row → Bool
apart rs [] = true
apart rs (s ∷ ss) = is_none (kinds_by rs s.0) && apart rs ss

is_nothing : {A : Type 0} (x : Option A) → is_none x ≡ true → x ≡ None
is_nothing None h = refl
is_nothing (Some x) h = absurd cc

module _ (rs : List Row) (code : ℕ) (ks : List Kind) where
  no_row : (s : Row) (ss : List Row) (same : Bool) → (code == s.0) ≡ same → is_none (kinds_by rs s.0) ≡ true →
      (kinds_by ss code ≡ Some ks → kinds_by rs code ≡ None) → (if same then Some s.1 else kinds_by ss code) ≡ Some ks → kinds_by rs code ≡ None
  no_row s ss true e none later f = subst (λ (c : ℕ). kinds_by rs c ≡ None) (sym (eqb-true code s.0 e)) (is_nothing (kinds_by rs s.0) none)
  no_row s ss false e none later f = later f

  pub none_before : (ss : List Row) → apart rs ss ≡ true → kinds_by ss code ≡ Some ks → kinds_by rs code ≡ None
  none_before [] all f = absurd cc
  none_before (s ∷ ss) all f =
      no_row s ss (code == s.0) refl (left (is_none (kinds_by rs s.0)) (apart rs ss) all) (none_before ss (right (is_none (kinds_by rs s.0)) (apart rs ss) all)) f

-- ---- groups in their order, each by its rows

-- the first that has the code
abbrev pub in_order : List Row → List (List Row) → ℕ → Option (List Kind)
in_order rs [] code = kinds_by rs code
in_order rs (ss ∷ more) code = or_else (kinds_by rs code) (in_order ss more code)

-- the one behind n others
abbrev pub group : ℕ → List Row → List (List Row) → List Row
group zero rs more = rs
group (suc n) rs [] = []
group (suc n) rs (ss ∷ more) = group n ss more

-- none of those n has a code of this one
abbrev pub apart_before : ℕ → List Row → List (List Row) → Bool
apart_before zero rs more = true
apart_before (suc n) rs [] = true
apart_before (suc n) rs (ss ∷ more) = apart rs (group n ss more) && apart_before n ss more

-- then all groups have what this one has
pub from_group : (n : ℕ) (rs : List Row) (more : List (List Row)) → apart_before n rs more ≡ true → (code : ℕ) (ks : List Kind) → kinds_by
    (group n rs more) code ≡ Some ks → in_order rs more code ≡ Some ks
from_group zero rs [] all code ks h = h
from_group zero rs (ss ∷ more) all code ks h = ap (λ (f : Option (List Kind)). or_else f (in_order ss more code)) h
from_group (suc n) rs [] all code ks h = absurd cc
from_group (suc n) rs (ss ∷ more) all code ks h =
    let here = left (apart rs (group n ss more)) (apart_before n ss more) all in
    let later = right (apart rs (group n ss more)) (apart_before n ss more) all in
    ap (λ (f : Option (List Kind)). or_else f (in_order ss more code)) (none_before rs code ks (group n ss more) here h) ∙ from_group n ss more later code ks h
