-- Locals that have values from some place on.
use Rattle.std.proofs.Common.{◌≡◌, ◌<◌, ◌≤◌, ◌+◌, ◌-◌, ◌*◌, ◌^◌, ◌%◌, ◌∙◌, ◌⊎◌, inl, inr, ℕ, Bool, true, false, List, [], ◌∷◌, refl, sym, subst, arith, length, get_or, w64}
use Rattle.std.specs.Prelude.{◌==◌, if◌then◌else◌, bit_or, bit_and, ◌/◌}
use Rattle.std.proofs.lemmas.Bool.{cases_lt}
use Rattle.std.proofs.lemmas.Nat.Bits.{bit_at_set_other, shr_and_one}
use borrow.Author.Tests.{eqb-false}
use Rattle.wasm_types.specs.decoding.Leb.{u32}
use Rattle.wasm_types.specs.decoding.Numbers.{GivesAt}
use Rattle.wasm_operators_immediates.specs.Kinds as kind
use Rattle.wasm_operators_immediates.specs.Immediates.{Index}
use Rattle.wasm_operators_enums.specs.declared.memory.MemoryOperator.TheVariants as memory
use Rattle.wasm_operators_enums.specs.Op as op
use Rattle.wasm_operators_enums.specs.Op.{Op}
use Rattle.wasm_operators_frequent.specs.Short.{Begins}
use Rattle.wasm_operators_frequent.proofs.ShortReading.{told_with}
use Rattle.wasm_operators_frequent.proofs.Carried.{index_of}
use Rattle.wasm_operator_validator_rules.specs.Context.{Initialised}
use Rattle.wasm_operator_validator_fast_tables.specs.declared.tables.Open.{Open}
use Rattle.wasm_operator_validator_fast_tables.specs.declared.tables.Tables.{Tables}
use Rattle.wasm_operator_validator_fast_tables.specs.Stacks.{Values}
use Rattle.wasm_operator_validator_fast_tables.specs.Values.{type_of}
use Rattle.wasm_operator_validator_fast_tables.specs.Loop.{HasValue, Full, Leads}
use Rattle.wasm_operator_validator_fast_steps.specs.Late.{IsSet}
use Rattle.wasm_operator_validator_fast_steps.proofs.Coded.{first}
use Rattle.wasm_operator_validator_fast_steps.proofs.Stepping.{step, plain_sets}
use Rattle.wasm_operator_validator_fast_steps.proofs.Rows.{set_or, uses, on_stack, same_below, stands, Here}

-- ---- bits

pub bit_there : (t : Tables) (bits x : ℕ) → bit_and (bits / 2 ^ (x - t.certain)) 1 ≡ 1 → HasValue t bits x
bit_there t bits x e = inr (inr (sym (shr_and_one bits (x - t.certain)) ∙ e))

module _ (t : Tables) (bits x : ℕ) (set : Initialised) (full : Full t bits set) where
  -- a local was written, and nothing is noted
  pub set_same : Full t bits (λ k. if x == k then true else set k)
  set_same k lt has = set_or (x == k) (set k) (full k lt has)

  -- it is noted
  pub set_more : t.certain ≤ x → x - t.certain < 64 → Full t (bit_or bits (1 * 2 ^ (x - t.certain) % 2 ^ 64)) (λ k. if x == k then true else set k)
  set_more above within k lt has = either (x == k) refl
    where
      other : (x == k) ≡ false → HasValue t (bit_or bits (1 * 2 ^ (x - t.certain) % 2 ^ 64)) k → HasValue t bits k
      other apart_from (inl sure) = inl sure
      other apart_from (inr (inl default)) = inr (inl default)
      other apart_from (inr (inr bit)) = placed (cases_lt k t.certain)
        where
          apart : t.certain ≤ k → k - t.certain ≡ x - t.certain → ⊥
          apart le same = let one : x ≡ k = omega (arith, le, above, same) in eqb-false x k apart_from one

          placed : (k < t.certain) ⊎ (t.certain ≤ k) → HasValue t bits k
          placed (inl few) = inl few
          placed (inr le) = inr (inr (sym (bit_at_set_other w64 bits (x - t.certain) within (k - t.certain) (apart le)) ∙ bit))

      either : (b : Bool) → (x == k) ≡ b → (if x == k then true else set k) ≡ true
      either true e = rw e refl
      either false e = rw e (full k lt (other e has))

-- ---- writing

module _ (t : Tables) (text : List ℕ) (i e : ℕ) (o : Open) (outer : List Open) (v w : Values) (n : Open) where
  pub took_late_set : Begins text i 0x21 → (x : ℕ) → GivesAt u32 text (i + 1) x e → x < length t.locals.items → v ≡ (get_or t.locals.items x 0 ∷ w.0, w.1)
      → IsSet t o x n → Leads text t i (o ∷ outer) v e (n ∷ outer) w
  took_late_set begins x g lt taken s ids z c fits =
      let p = op.Memory (memory.LocalSet x) in
      let k = get_or t.locals.items x 0 in
      subst (λ (q : Open). Leads text t i (o ∷ outer) v e (q ∷ outer) w) (sym s.frame)
      (λ ids z c fits.
      step ids z text t c i e (o ∷ outer) (record { kind = o.kind; base = o.base; set = n.set; sig = o.sig } ∷ outer) v w fits p
      (stands t text i e o outer v w p (told_with t.features.0 text i 33 33 begins refl p refl refl _ refl refl refl (Index kind.Locals x) e refl (λ limits. index_of _ _ _ _ kind.Locals x g)))
      (rw taken (plain_sets ids t c o n.set outer (k ∷ w.0) w.0 w.1 p refl s.keeps
      (λ set full. (
        _,
        _,
        _,
        (first c.bits _ fits.allows refl, (type_of ids k, record { local = fits.locals x lt; used = uses (Here t text i e o outer v w ids c) _ fits.unshared }, (refl, refl))),
        same_below _ _ (on_stack ids (k ∷ []) w.0),
        on_stack ids [] w.0,
      ))))) ids z c fits

  pub took_late_tee : Begins text i 0x22 → (x : ℕ) → GivesAt u32 text (i + 1) x e → x < length t.locals.items → (r : List ℕ) → v ≡ (get_or t.locals.items x 0 ∷ r, v.1) → w ≡ v
      → IsSet t o x n → Leads text t i (o ∷ outer) v e (n ∷ outer) w
  took_late_tee begins x g lt r has stays s ids z c fits =
      let p = op.Memory (memory.LocalTee x) in
      let k = get_or t.locals.items x 0 in
      subst (λ (q : Open). Leads text t i (o ∷ outer) v e (q ∷ outer) w) (sym s.frame)
      (λ ids z c fits.
      step ids z text t c i e (o ∷ outer) (record { kind = o.kind; base = o.base; set = n.set; sig = o.sig } ∷ outer) v w fits p
      (stands t text i e o outer v w p (told_with t.features.0 text i 34 34 begins refl p refl refl _ refl refl refl (Index kind.Locals x) e refl (λ limits. index_of _ _ _ _ kind.Locals x g)))
      (rw (stays, has) (plain_sets ids t c o n.set outer (k ∷ r) (k ∷ r) v.1 p refl s.keeps
      (λ set full. (
        _,
        _,
        _,
        (first c.bits _ fits.allows refl, (type_of ids k, record { local = fits.locals x lt; used = uses (Here t text i e o outer v w ids c) _ fits.unshared }, (refl, refl))),
        same_below _ _ (on_stack ids (k ∷ []) r),
        on_stack ids (k ∷ []) r,
      ))))) ids z c fits
