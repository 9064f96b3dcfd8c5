-- Worked bodies: bytes that may be one and bytes that may not, and bytes that spell a valid function and bytes that spell none.
use Rattle.std.proofs.Common.{◌≡◌, ◌∙◌, ◌<◌, ℕ, List, [], ◌∷◌, ◌++◌, length, Option, Some, None, slice_get, refl, sym, ap, arith, lit<, lit≤}
use Rattle.wasm_types.specs.decoding.Decoder.{State}
use Rattle.wasm_types.specs.decoding.Leb.{IsUnsigned, last, more}
use Rattle.wasm_types.specs.settings.Settings.{Settings, no_features}
use Rattle.wasm_types.specs.settings.Limits.{default_limits}
use Rattle.wasm_types.specs.trees.Trees.{TypeTree}
use Rattle.wasm_operator_validator_rules.specs.Context.{Module, Signature, IsFunctionType}
use Rattle.wasm_module_validator_section_order.specs.rules.Syntax.{Function}
use Rattle.wasm_module_validator_section_order.specs.rules.Binary.{SpelledFunction}
use Rattle.wasm_module_validator_section_order.specs.rules.worked.Trees.{end, does}
use Rattle.wasm_module_validator_section_order.specs.items.Bodies.{IsReadBy}
use Rattle.wasm_module_validator_function_bodies.specs.code.Code.{IsFunctionOf}

-- bytes that are read under no features
abbrev at : List ℕ → State
at text = record { rest = text; place = 0; settings = no_features; start = 0 }

-- no locals, and an end
abbrev empty_body : List ℕ
empty_body = 0x00 ∷ 0x0b ∷ []

-- a function that takes nothing and gives nothing
abbrev procedure : Signature
procedure = record { params = []; results = [] }

-- Bytes may be a body under the features by which they were read, and under no others; and not if there are too many of them. An empty body is a valid function that takes nothing and gives nothing; no bytes are
-- none, and none is of a type that there is not.
pub record BodyRows : Type 0 where
  pub read : IsReadBy no_features 0 (at empty_body)
  pub no_other_features : IsReadBy no_features 1 (at empty_body) → ⊥
  pub no_other_settings : (z : Settings) → z.features ≡ 1 → IsReadBy z 1 (at empty_body) → ⊥
  pub not_longer : (s : State) → 7654321 < length s.rest → IsReadBy no_features 0 s → ⊥
  pub empty : (g : Module) (x : ℕ) (t : TypeTree) → slice_get g.types x ≡ Some t → IsFunctionType t procedure → IsFunctionOf no_features g x empty_body
  pub nothing : (z : Settings) (g : Module) (x : ℕ) → IsFunctionOf z g x [] → ⊥
  pub no_type : (z : Settings) (g : Module) (x : ℕ) (text : List ℕ) → slice_get g.types x ≡ None → IsFunctionOf z g x text → ⊥

spelled : SpelledFunction no_features (does [] end) empty_body
unfolding default_limits
spelled = record {
  locals_text = 0x00 ∷ [];
  body_text = 0x0b ∷ [];
  within = lit≤ tt;
  locals = record { listed = record { count = 0 ∷ []; values = []; counted = last 32 0 0 (omega arith) (lit< tt) refl; each = refl; whole = refl }; within = lit≤ tt };
  body = record { expression = refl; spelled = (0x0b ∷ [], [], record { canonical = refl; front = 0x0b ∷ []; back = []; opcode = (refl, refl); carried = refl; whole = refl }, refl, refl) };
  whole = refl;
}

no_front : {A : Type 0} (xs ys : List A) → [] ≡ xs ++ ys → xs ≡ []
no_front [] ys e = refl
no_front (x ∷ xs) ys e = absurd cc

no_number : (n : ℕ) (text : List ℕ) → text ≡ [] → IsUnsigned 32 n text → ⊥
no_number n text e (last N v k a b c) = absurd cc
no_number n text e (more N v k m rest a b c d) = absurd cc

none_spelled : (z : Settings) (f : Function) → SpelledFunction z f [] → ⊥
none_spelled z f s =
    let front = no_front s.locals_text s.body_text s.whole in
    let count = no_front s.locals.listed.count s.locals.listed.values (sym front ∙ s.locals.listed.whole) in
    no_number (length f.locals) s.locals.listed.count count s.locals.listed.counted

some_type : {A : Type 0} (o : Option A) (x : A) → o ≡ None → o ≡ Some x → ⊥
some_type o x e f = let g = sym e ∙ f in cc

pub body_rows : BodyRows
unfolding default_limits
body_rows = record {
  read = record { settings = refl; features = refl; within = lit≤ tt };
  no_other_features = λ h. let n : 0 ≡ 1 = h.features in omega (arith, n);
  no_other_settings = λ z one h. let n : 0 ≡ 1 = ap (λ (y : Settings). y.features) h.settings ∙ one in omega (arith, n);
  not_longer = λ s long h. let few = h.within in omega (arith, few, long);
  empty = λ g x t at is. (
    does [] end,
    spelled,
    (t, at, record { signature = procedure; function = is; locals = tt; within = lit≤ tt; body = record { expression = refl; typed = (tt, tt, tt) } }),
  );
  nothing = λ z g x h. none_spelled z h.0 h.1;
  no_type = λ z g x text none h. some_type (slice_get g.types x) h.2.0 none h.2.1;
}
