-- Worked locals: bytes that spell locals that a function may have, and bytes that spell none.
use Rattle.std.proofs.Common.{◌≡◌, ◌∙◌, ◌≤◌, ◌<◌, ℕ, List, [], ◌∷◌, ◌++◌, length, refl, sym, arith, lit<}
use Rattle.wasm_types.specs.decoding.Leb.{IsUnsigned, last, more, IsListed}
use Rattle.wasm_types.specs.settings.Settings.{Settings}
use Rattle.wasm_operators_encoding.specs.Locals.{SpelledGroup}
use Rattle.wasm_operator_validator_rules.specs.Context.{Module}
use Rattle.wasm_module_validator_function_bodies.specs.Locals.{SpellsLocals}

zero_is : IsUnsigned 32 0 (0 ∷ [])
zero_is = last 32 0 0 (omega arith) (lit< tt) refl

none_listed : IsListed SpelledGroup [] (0 ∷ [])
none_listed = record { count = 0 ∷ []; values = []; counted = zero_is; each = refl; whole = refl }

-- no groups, and behind them an end; as many parameters as there may be locals
pub none_spelled : (z : Settings) (g : Module) (before : ℕ) → before ≤ z.limits.locals → SpellsLocals z g before (0 ∷ 0x0b ∷ [])
none_spelled z g before h = record {
  groups = [];
  front = 0 ∷ [];
  back = 0x0b ∷ [];
  spelled = record { listed = none_listed; within = omega arith };
  whole = refl;
  types = tt;
  within = omega (arith, h);
}

-- more parameters than there may be locals
pub too_many_before : (z : Settings) (g : Module) (before : ℕ) (text : List ℕ) → z.limits.locals < before → SpellsLocals z g before text → ⊥
too_many_before z g before text h s = let w = s.within in omega (arith, h, w)

no_front : {A : Type 0} (xs ys : List A) → [] ≡ xs ++ ys → xs ≡ []
no_front [] ys e = refl
no_front (x ∷ xs) ys e = absurd cc

no_number : (n : ℕ) (text : List ℕ) → text ≡ [] → IsUnsigned 32 n text → ⊥
no_number n text e (last N v k a b c) = absurd cc
no_number n text e (more N v k m rest a b c d) = absurd cc

-- no count
pub nothing_spelled : (z : Settings) (g : Module) (before : ℕ) → SpellsLocals z g before [] → ⊥
nothing_spelled z g before s =
    let front = no_front s.front s.back s.whole in
    let count = no_front s.spelled.listed.count s.spelled.listed.values (sym front ∙ s.spelled.listed.whole) in
    no_number (length s.groups) s.spelled.listed.count count s.spelled.listed.counted
