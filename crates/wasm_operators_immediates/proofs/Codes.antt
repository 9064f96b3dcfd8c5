-- How operators are found by prefix and code: in a list that has one operator of each variant, with whatever belongs to it.
use Rattle.std.proofs.Common.{◌≡◌, ◌+◌, ◌*◌, ℕ, Bool, true, false, ◌&&◌, eqb, eqb→eq, T, true≢false, Option, Some, None, option_map, option_and_then}
use Rattle.std.proofs.Common.{List, [], ◌∷◌, refl, sym, subst}
use Rattle.wasm_operators_immediates.specs.Info.{Info}

-- a number for a prefix and a code, which tells all rows of the table apart
abbrev pub key_of : Option ℕ → ℕ → ℕ
key_of None code = code
key_of (Some prefix) code = prefix * 4096 + code

abbrev pub key : Info → ℕ
key i = key_of i.prefix i.code

pub same_key : (i j : Info) → i.prefix ≡ j.prefix → i.code ≡ j.code → key i ≡ key j
same_key i j p c = λ k. key_of (p k) (c k)

module _ {G M : Type 0} (info : G → Info) where
  -- the first in the list that has this key
  abbrev pub find : ℕ → List (G × M) → Option (G × M)
  find k [] = None
  find k (e ∷ es) = elim (eqb (key (info e.0)) k) [ true ↦ Some e | false ↦ find k es ]

  -- each of the list has a key of which P holds
  abbrev pub each_key : (ℕ → Bool) → List (G × M) → Bool
  each_key P [] = true
  each_key P (e ∷ es) = P (key (info e.0)) && each_key P es

pub left : (a b : Bool) → (a && b) ≡ true → a ≡ true
left true b h = refl
left false b h = h

pub right : (a b : Bool) → (a && b) ≡ true → b ≡ true
right true b h = h
right false b h = absurd (true≢false (sym h))

pub is_eq : (m n : ℕ) → eqb m n ≡ true → m ≡ n
is_eq m n e = eqb→eq m n (subst T (sym e) tt)

module _ {G M : Type 0} (info : G → Info) (P : ℕ → Bool) (k : ℕ) where
  step : (d : G × M) (es : List (G × M)) (e : G × M) (b : Bool) → eqb (key (info d.0)) k ≡ b → P (key (info d.0)) ≡ true →
      (find info k es ≡ Some e → P k ≡ true) → (elim b [ true ↦ Some d | false ↦ find info k es ]) ≡ Some e → P k ≡ true
  step d es e true same here later found = subst (λ (n : ℕ). P n ≡ true) (is_eq (key (info d.0)) k same) here
  step d es e false same here later found = later found

  -- where something is found, P holds of its key
  pub holds : (es : List (G × M)) (e : G × M) → each_key info P es ≡ true → find info k es ≡ Some e → P k ≡ true
  holds [] e all found = cc
  holds (d ∷ es) e all found =
      let here = left (P (key (info d.0))) (each_key info P es) all in
      let rest = right (P (key (info d.0))) (each_key info P es) all in
      step d es e (eqb (key (info d.0)) k) refl here (holds es e rest) found

-- ---- operators, each with how it is made of what it carries, in a list

module _ {G I K : Type 0} (info : G → Info) (carried : G → I) (kinds : I → K) (list : List (G × (I → Option G))) where
  abbrev pub at : ℕ → Option (G × (I → Option G))
  at k = find info k list

  -- the row, the kinds and the operator that belong to a key
  abbrev pub row_at : ℕ → Option Info
  row_at k = option_map (λ (e : G × (I → Option G)). info e.0) (at k)

  abbrev pub kinds_at : ℕ → Option K
  kinds_at k = option_map (λ (e : G × (I → Option G)). kinds (carried e.0)) (at k)

  abbrev pub made_at : ℕ → I → Option G
  made_at k is = option_and_then (λ (e : G × (I → Option G)). e.1 is) (at k)

  -- an operator is found by its own key: its row and its kinds, and itself
  abbrev pub Told : G → Type 0
  Told o = (row_at (key (info o)) ≡ Some (info o)) × (kinds_at (key (info o)) ≡ Some (kinds (carried o)))

  abbrev pub Made : G → Type 0
  Made o = made_at (key (info o)) (carried o) ≡ Some o

  -- P holds of the key of each operator that is found, where it holds in the list
  pub in_list : (P : ℕ → Bool) → each_key info P list ≡ true → (o : G) → Told o → P (key (info o)) ≡ true
  in_list P all o told = go (at (key (info o))) refl told.0 where
    go : (e : Option (G × (I → Option G))) → at (key (info o)) ≡ e → option_map (λ (d : G × (I → Option G)). info d.0) e ≡ Some (info o) → P (key (info o)) ≡ true
    go None same f = cc
    go (Some e) same f = holds info P (key (info o)) list e all same
