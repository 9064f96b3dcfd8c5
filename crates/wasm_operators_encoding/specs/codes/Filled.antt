-- Where each variant of a list takes any immediates of its kinds, each code of the list's rows with immediates of its kinds is an
-- operator's.
use Rattle.std.proofs.Common.{◌≡◌, ◌∙◌, ℕ, Bool, true, false, List, [], ◌∷◌, map, Option, Some, refl, sym}
use Rattle.std.specs.Prelude.{◌==◌, if◌then◌else◌}
use Rattle.std.proofs.lemmas.Bool.{eqb-true}
use Rattle.wasm_operators_immediates.specs.Info.{Info}
use Rattle.wasm_operators_immediates.specs.Kinds.{Kind}
use Rattle.wasm_operators_immediates.specs.Immediates.{Immediate, kind_of}
use Rattle.wasm_operators_encoding.specs.Rows.{kinds_by, same_prefix, row, rows}
use Rattle.wasm_operators_encoding.specs.RowLaws.{is_same}
use Rattle.wasm_operators_encoding.specs.codes.Carried.{Carriers, immediates_with, of_kinds}

-- ---- one variant

module _ {G : Type 0} (info : G → Info) (carried : G → List Immediate) (good : G → Bool) where
  -- an operator of this prefix and code that carries this
  pub record MadeOf (p : Option ℕ) (code : ℕ) (is : List Immediate) : Type 0 where
    pub made : G
    pub canonical : good made ≡ true
    pub prefix : (info made).prefix ≡ p
    pub code_is : (info made).code ≡ code
    pub carries : carried made ≡ is

  -- the variant of this operator takes any immediates of its kinds
  abbrev pub Fills : G → Type 0
  Fills o = (is : List Immediate) → map kind_of is ≡ map kind_of (carried o) → MadeOf (info o).prefix (info o).code is

  module _ (o : G) (f : Carriers (map kind_of (carried o)) → G) where
    -- the operator that is made of what immediates of these kinds carry
    abbrev pub IsMaker : Type 0
    IsMaker = (c : Carriers (map kind_of (carried o))) → (good (f c) ≡ true) × ((info (f c)).prefix ≡ (info o).prefix)
        × ((info (f c)).code ≡ (info o).code) × (carried (f c) ≡ immediates_with (map kind_of (carried o)) c)

    pub fills : IsMaker → Fills o
    fills m is e =
        let (c, same) = of_kinds (map kind_of (carried o)) is e in
        let (g, p, n, h) = m c in
        record { made = f c; canonical = g; prefix = p; code_is = n; carries = h ∙ sym same }

-- ---- those that carry nothing

nothing : (is : List Immediate) → map kind_of is ≡ [] → is ≡ []
nothing [] h = refl
nothing (i ∷ is) h = absurd cc

module _ {G : Type 0} (info : G → Info) (good : G → Bool) (canonical : (o : G) → good o ≡ true) where
  pub bare_fills : (o : G) → Fills info (λ o. []) good o
  bare_fills o is e = record { made = o; canonical = canonical o; prefix = refl; code_is = refl; carries = sym (nothing is e) }

-- ---- a list of them

module _ {G M : Type 0} (info : G → Info) (carried : G → List Immediate) (good : G → Bool) (all : (o : G) → Fills info carried good o) (p : Option ℕ) (code : ℕ) (is : List Immediate) where
  abbrev Here : List (G × M) → Type 0
  Here es = kinds_by (rows info carried p es) code ≡ Some (map kind_of is) → MadeOf info carried good p code is

  some_one : (e : G × M) (js ks : List Kind) → Some js ≡ Some ks → ks ≡ js
  some_one e js ks h = cc

  at_code : (e : G × M) (es : List (G × M)) (same : Bool) → (code == (info e.0).code) ≡ same → (info e.0).prefix ≡ p → Here es
      → (if same then Some (map kind_of (carried e.0)) else kinds_by (rows info carried p es) code) ≡ Some (map kind_of is) → MadeOf info carried good p code is
  at_code e es true c q later f =
      let m = all e.0 is (some_one e (map kind_of (carried e.0)) (map kind_of is) f) in
      record { made = m.made; canonical = m.canonical; prefix = m.prefix ∙ q; code_is = m.code_is ∙ sym (eqb-true code (info e.0).code c); carries = m.carries }
  at_code e es false c q later f = later f

  at_row : (e : G × M) (es : List (G × M)) (same : Bool) → same_prefix p (info e.0).prefix ≡ same → Here es
      → kinds_by (if same then row info carried p e ∷ rows info carried p es else rows info carried p es) code ≡ Some (map kind_of is) → MadeOf info carried good p code is
  at_row e es true q later f = at_code e es (code == (info e.0).code) refl (is_same p (info e.0).prefix q) later f
  at_row e es false q later f = later f

  -- a code of one of the rows with immediates of its kinds is an operator's
  pub made_of : (es : List (G × M)) → Here es
  made_of [] f = absurd cc
  made_of (e ∷ es) f = at_row e es (same_prefix p (info e.0).prefix) refl (made_of es) f
