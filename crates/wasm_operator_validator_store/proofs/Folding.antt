-- What operators on integers come to, above whatever is there and above constants.
use Rattle.std.proofs.Common.{◌≡◌, ℕ, ℤ, suc, ◌+◌, ◌-◌, ◌%◌, ◌<◌, ◌^◌, true, false, List, [], ◌∷◌, ◌++◌, length, drop, get_or, Option, Some, None, refl, sym, subst, subst₂, ap, ◌∙◌, ⊎_elim, arith, mod-eq_of_lt}
use Rattle.std.specs.Prelude.{◌⊎◌}
use Rattle.std.proofs.lemmas.Bool.{cases_lt}
use Rattle.std.proofs.lemmas.List.{length-map}
use Rattle.wasm_types.specs.trees.Types.{Number, number, i32, i64, f32, f64, v128}
use Rattle.wasm_operators_enums.specs.declared.numeric.NumericOperator.{NumericOperator}
use Rattle.wasm_operators_enums.specs.Table.{info_of}
use Rattle.wasm_operators_enums.specs.Op as op
use Rattle.wasm_operators_enums.specs.Op.{Op}
use Rattle.wasm_operators_encoding.specs.expressions.Code.{Code, plain}
use Rattle.wasm_operator_validator_rules.specs.Operands.{ValueType}
use Rattle.wasm_operator_validator_rules.specs.Numbers.{numbers}
use Rattle.wasm_operator_validator_soundness.specs.runs.Values.{Program, Value, number_value}
use Rattle.wasm_operator_validator_soundness.specs.runs.States.{Activation, State, Answer, Outcome, next, trapped, Move, done, choose, found}
use Rattle.wasm_operator_validator_soundness.specs.runs.Names.{Places, computed}
use Rattle.wasm_operator_validator_soundness.specs.runs.Machine.{gives, goes, exchange, compute, execute}
use Rattle.wasm_operator_validator_soundness.specs.runs.Soundness.{step}
use Rattle.wasm_operator_validator_store.specs.Stores.{Store, width, nothing, bits_of, integer_bits}
use Rattle.wasm_operator_validator_store.specs.Integers.{signed, Operation, integer_operation}
use Rattle.wasm_operator_validator_store.specs.Giving.{Gives, OrTraps, OrOutside, Calculates, GivesCode, GivesStep}
use Rattle.wasm_operator_validator_store.specs.Soundness.{StoreRuns}
use Rattle.wasm_operator_validator_store.specs.Folding.{standing_at, comes_to, bits_at, constant, constants, value_of, FoldsTo, Falls, IntegersAreComputed, ConstantsFold}
use Rattle.wasm_operator_validator_store.proofs.Determined.{same_next}
use Rattle.wasm_operator_validator_store.proofs.Dividing.{low, high}
use Rattle.wasm_operator_validator_store.proofs.Integers.{IsBelow, IsInteger, row_is}

-- ---- a step

module _ (p : Program) (act : Activation) (acts : List Activation) (a : Answer) (more : Code) where
  abbrev operands : List Value
  operands = act.innermost.values

  abbrev after : List Value → Outcome
  after ws = next (standing_at act ws more ∷ acts)

  abbrev exchanging : List ValueType → List ValueType → Move
  exchanging ts us = exchange p a act acts ts us more

  exchange_gives : (ts us : List ValueType) (ws : List Value) → a.traps ≡ false → a.values ≡ ws
      → (exchanging ts us).outcome ≡ after (ws ++ drop (length ts) operands)
  exchange_gives ts us ws t e =
      ap (λ b. (choose b (done trapped) (gives p a us (λ rs. goes p a act acts (rs ++ drop (length ts) operands) more))).outcome) t
      ∙ ap (λ rs. after (rs ++ drop (length ts) operands)) e

  exchange_traps : (ts us : List ValueType) → a.traps ≡ true → (exchanging ts us).outcome ≡ trapped
  exchange_traps ts us t = ap (λ b. (choose b (done trapped) (gives p a us (λ rs. goes p a act acts (rs ++ drop (length ts) operands) more))).outcome) t

  -- by what the name says
  named : (o : Op) (n : Places) → computed (info_of o).name ≡ Some n
      → (compute p a act acts o more).outcome ≡ (exchanging (numbers n.takes) (numbers n.gives)).outcome
  named o n e = ap (λ (q : Option Places). (found q (λ (k : Places). exchanging (numbers k.takes) (numbers k.gives))).outcome) e

  dropped : (ts : List Number) → drop (length (numbers ts)) operands ≡ drop (length ts) operands
  dropped ts = ap (λ n. drop n operands) (length-map ts number)

  module _ (s u : Store) (o : NumericOperator) (r : Operation) (e : integer_operation o ≡ Some r) where
    calculates : (k : Option ℕ) → OrTraps p (act ∷ acts) s a u k (λ b. Gives p (act ∷ acts) s a u (number_value r.gives b ∷ []) s)
        → ((compute p a act acts (op.Numeric o) more).outcome ≡ comes_to p act acts s o r more (drop (length r.takes) operands) k) × (u ≡ s)
    calculates None h = (
      named (op.Numeric o) (record { takes = r.takes; gives = r.gives ∷ [] }) (row_is o r e).places
          ∙ exchange_traps (numbers r.takes) (numbers (r.gives ∷ [])) h.0,
      h.1.1,
    )
    calculates (Some b) h = (
      named (op.Numeric o) (record { takes = r.takes; gives = r.gives ∷ [] }) (row_is o r e).places
          ∙ exchange_gives (numbers r.takes) (numbers (r.gives ∷ [])) (number_value r.gives b ∷ []) h.1 h.0
          ∙ ap (λ (ws : List Value). after (number_value r.gives b ∷ ws)) (dropped r.takes),
      h.2,
    )

pub integers_computed : IntegersAreComputed
integers_computed p act acts s o r more a u c e g =
    let h : GivesCode p (act ∷ acts) s a u act (plain (op.Numeric o) more) = subst (λ (k : Code). GivesCode p (act ∷ acts) s a u act k) c g in
    let k : Calculates p (act ∷ acts) s a u act r =
    subst (λ (q : Option Operation). OrOutside p (act ∷ acts) s a u act q (Calculates p (act ∷ acts) s a u act)) e h in
    let f = calculates p act acts a more s u o r e (r.value (bits_at p act acts s o r more 1) (bits_at p act acts s o r more 0)) k in
    (ap (λ (q : Code). (execute p a act acts q).outcome) c ∙ f.0, f.1)

-- ---- constants

same_size : (n m : ℕ) → suc n ≡ suc m → n ≡ m
same_size n m e = omega (arith, e)

none_left : {Q : Type 0} (n : ℕ) → 0 ≡ suc n → Q
none_left n e = absurd (omega (arith, e))

-- a number with a sign has the bits that it was read from
back : (m b : ℕ) → b < m → m - suc ((m - suc b) % m) ≡ b
back m b h = ap (λ k. m - suc k) (mod-eq_of_lt (omega (arith, h))) ∙ omega (arith, h)

signed_bits : (n b : ℕ) → b < 2 ^ n → integer_bits n (signed n b) ≡ b
signed_bits n b h = ⊎_elim
    (λ l. ap (integer_bits n) (low n b l) ∙ mod-eq_of_lt h)
    (λ l. ap (integer_bits n) (high n b l h) ∙ back (2 ^ n) b h) (cases_lt b (2 ^ (n - 1)))

module _ (p : Program) (act : Activation) (acts : List Activation) (s : Store) where
  abbrev at : List Value → Code → State
  at vs c = standing_at act vs c ∷ acts

  -- a constant gives its bits
  constant_steps : (t : Number) → IsInteger t → (x : ℤ) (vs : List Value) (c : Code) (a : Answer) (u : Store)
      → GivesStep p (at vs (plain (constant t x) c)) s a u
      → ((step p (at vs (plain (constant t x) c)) a).outcome ≡ next (at (number_value t (integer_bits (width t) x) ∷ vs) c)) × (u ≡ s)
  constant_steps i32 i x vs c a u g = (
    exchange_gives p (standing_at act vs (plain (constant i32 x) c)) acts a c [] (number i32 ∷ []) (number_value i32 (integer_bits 32 x) ∷ []) g.1 g.0,
    g.2,
  )
  constant_steps i64 i x vs c a u g = (
    exchange_gives p (standing_at act vs (plain (constant i64 x) c)) acts a c [] (number i64 ∷ []) (number_value i64 (integer_bits 64 x) ∷ []) g.1 g.0,
    g.2,
  )
  constant_steps f32 i x vs c a u g = absurd i
  constant_steps f64 i x vs c a u g = absurd i
  constant_steps v128 i x vs c a u g = absurd i

  module _ (u : Store) (z : State) where
    -- what is left of a run, by how many answers
    abbrev Left : ℕ → State → Type 0
    Left n x = (rest : List Answer) × (length rest ≡ n) × StoreRuns p s x rest u z

    constant_runs : (t : Number) → IsInteger t → (x : ℤ) (vs : List Value) (c : Code) (n : ℕ) → Left (suc n) (at vs (plain (constant t x) c))
        → Left n (at (number_value t (integer_bits (width t) x) ∷ vs) c)
    constant_runs t i x vs c n h = go h.0 h.1 h.2
      where
        go : (answers : List Answer) → length answers ≡ suc n → StoreRuns p s (at vs (plain (constant t x) c)) answers u z
            → Left n (at (number_value t (integer_bits (width t) x) ∷ vs) c)
        go [] e k = none_left n e
        go (a ∷ rest) e k =
            let f = constant_steps t i x vs c a k.0 k.2 in (
              rest,
              same_size (length rest) n e,
              subst (λ (y : State). StoreRuns p s y rest u z) (same_next k.1 (at (number_value t (integer_bits (width t) x) ∷ vs) c) (sym k.3 ∙ f.0))
                  (subst (λ (w : Store). StoreRuns p w k.1 rest u z) f.1 k.4),
            )

    -- none is left, and one
    ended : (x : State) → Left 0 x → (s ≡ u) × (x ≡ z)
    ended x h = go h.0 h.1 h.2
      where
        go : (answers : List Answer) → length answers ≡ 0 → StoreRuns p s x answers u z → (s ≡ u) × (x ≡ z)
        go [] e k = k
        go (a ∷ rest) e k = none_left (length rest) (sym e)

    last_step : (x : State) → Left 1 x → (a : Answer) × GivesStep p x s a u × ((step p x a).outcome ≡ next z)
    last_step x h = go h.0 h.1 h.2
      where
        go : (answers : List Answer) → length answers ≡ 1 → StoreRuns p s x answers u z → (a : Answer) × GivesStep p x s a u × ((step p x a).outcome ≡ next z)
        go [] e k = none_left 0 e
        go (a ∷ []) e k = (a, subst (λ (w : Store). GivesStep p x s a w) k.4.0 k.2, k.3 ∙ ap (λ (y : State). next y) k.4.1)
        go (a ∷ b ∷ rest) e k = none_left (length rest) (sym (same_size (suc (length rest)) 0 e))

  module _ (o : NumericOperator) (r : Operation) (more : Code) (e : integer_operation o ≡ Some r) (x y : ℤ) where
    abbrev own : List Value
    own = act.innermost.values

    abbrev code : List Number → Code
    code ts = constants ts x y (plain (op.Numeric o) more)

    abbrev bits : Number → ℤ → ℕ
    bits t q = integer_bits (width t) q

    -- the operator, above what the constants gave
    abbrev made : List Number → List Value
    made [] = own
    made (t ∷ []) = number_value t (bits t y) ∷ own
    made (t ∷ q ∷ ts) = number_value q (bits q y) ∷ number_value t (bits t x) ∷ own

    abbrev Ready : List Number → Type 0
    Ready ts = (u : Store) (z : State) (n : ℕ) → (rest : List Answer) → length rest ≡ length ts + n → StoreRuns p s (at own (code ts)) rest u z
        → Left u z n (at (made ts) (plain (op.Numeric o) more))

    -- what the operator takes is the constants' values, and what it leaves is below them
    abbrev IsRead : List Number → Type 0
    IsRead ts = (drop (length ts) (made ts) ≡ own)
        × (r.value (bits_of (get_or (made ts) 1 nothing)) (bits_of (get_or (made ts) 0 nothing)) ≡ r.value (bits (get_or ts 0 i32) x) (bits (get_or ts 0 i32) y))

    readied : (t : Number) → IsInteger t
        → ((r.takes ≡ t ∷ []) × ((a c b : ℕ) → r.value a b ≡ r.value c b)) ⊎ (r.takes ≡ t ∷ t ∷ []) → Ready r.takes × IsRead r.takes
    readied t i h = ⊎_elim
        (λ k. subst (λ (ts : List Number). Ready ts × IsRead ts) (sym k.0) (
          (λ u z n rest l g. constant_runs u z t i y own (plain (op.Numeric o) more) n (rest, more_one (length rest) n l, g)),
          (refl, k.1 (bits_of (get_or (made (t ∷ [])) 1 nothing)) (bits t x) (bits t y)),
        ))
        (λ k. subst (λ (ts : List Number). Ready ts × IsRead ts) (sym k) (
          (λ u z n rest l g. constant_runs u z t i y (number_value t (bits t x) ∷ own) (plain (op.Numeric o) more) n
              (constant_runs u z t i x own (plain (constant t y) (plain (op.Numeric o) more)) (suc n) (rest, more_two (length rest) n l, g))),
          (refl, refl),
        )) h
      where
        more_one : (m n : ℕ) → m ≡ 1 + n → m ≡ suc n
        more_one m n e = omega (arith, e)

        more_two : (m n : ℕ) → m ≡ 2 + n → m ≡ suc (suc n)
        more_two m n e = omega (arith, e)

    ready : Ready r.takes × IsRead r.takes
    ready = let k = (row_is o r e).operands in readied k.0 k.1 k.2

    -- the step of the operator
    operates : (a : Answer) (w : Store) → GivesStep p (at (made r.takes) (plain (op.Numeric o) more)) s a w
        → ((step p (at (made r.takes) (plain (op.Numeric o) more)) a).outcome
        ≡ comes_to p act acts s o r more own (value_of p act acts s o r more x y)) × (w ≡ s)
    operates a w g =
        let f = integers_computed p (standing_at act (made r.takes) (plain (op.Numeric o) more)) acts s o r more a w refl e g in (
          f.0
              ∙ ap (λ (ws : List Value). comes_to p act acts s o r more ws (r.value (bits_of (get_or (made r.takes) 1 nothing)) (bits_of (get_or (made r.takes) 0 nothing)))) ready.1.0
              ∙ ap (λ (k : Option ℕ). comes_to p act acts s o r more own k) ready.1.1,
          f.1,
        )

    more_than : (m n : ℕ) → m ≡ suc n → m ≡ n + 1
    more_than m n l = omega (arith, l)

    no_more : (m n : ℕ) → m ≡ n → m ≡ n + 0
    no_more m n l = omega (arith, l)

    falls : value_of p act acts s o r more x y ≡ None → Falls p act acts s o r more x y
    falls d answers u w z a h l g =
        let k = ended u z (at (made r.takes) (plain (op.Numeric o) more)) (ready.0 u z 0 answers (no_more (length answers) (length r.takes) l) h) in
        let f = operates a w (subst₂ (λ (q : State) (b : Store). GivesStep p q b a w) (sym k.1) (sym k.0) g) in
        (ap (λ (q : State). (step p q a).outcome) (sym k.1) ∙ f.0 ∙ ap (λ (c : Option ℕ). comes_to p act acts s o r more own c) d, f.1)

    folds : (b : ℕ) → value_of p act acts s o r more x y ≡ Some b → FoldsTo p act acts s o r more x y b
    folds b d = record {
      computed = λ answers u z h l.
          let k = last_step u z (at (made r.takes) (plain (op.Numeric o) more)) (ready.0 u z 1 answers (more_than (length answers) (length r.takes) l) h) in
          let f = operates k.0 u k.1 in
          (sym k.2 ∙ f.0 ∙ ap (λ (c : Option ℕ). comes_to p act acts s o r more own c) d, f.1);
      folded = λ c answers u z i h l.
          let k = last_step u z (at own (plain (constant r.gives c) more)) (answers, l, h) in
          let f = constant_steps r.gives (row_is o r e).integer c own more k.0 u k.1 in
          (sym k.2 ∙ f.0 ∙ ap (λ n. next (at (number_value r.gives n ∷ own) more)) i, f.1);
      there = signed_bits (width r.gives) b below;
    }
      where
        below : b < 2 ^ width r.gives
        below = subst (IsBelow (2 ^ width r.gives)) d
            ((row_is o r e).narrow (integer_bits (width (get_or r.takes 0 i32)) x) (integer_bits (width (get_or r.takes 0 i32)) y))

pub constants_folded : ConstantsFold
constants_folded p act acts s o r more x y e = (folds p act acts s o r more e x y, falls p act acts s o r more e x y)
