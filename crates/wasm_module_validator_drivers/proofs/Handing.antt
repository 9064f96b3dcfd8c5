-- Bodies of a module that is shared, and the functions that they are those of.
use Rattle.std.proofs.Common.{◌≡◌, ◌∙◌, ◌+◌, ℕ, List, [], ◌∷◌, ◌++◌, length, refl, sym, ap, subst, arith, Option, Some, None, slice_get}
use Rattle.std.specs.Prelude.{option_map}
use Rattle.std.proofs.lemmas.List.{length_push}
use Rattle.wasm_types.specs.decoding.Decoder.{State}
use Rattle.wasm_types.specs.decoding.Denials.{Denies}
use Rattle.wasm_types.specs.decoding.declared.error.ErrorKind.{ErrorKind}
use Rattle.wasm_types.specs.settings.Limits.{IsWithinCeilings}
use Rattle.wasm_types.specs.settings.Settings.{Settings}
use Rattle.wasm_sections.specs.Payloads.{set}
use Rattle.wasm_module_validator_resources.specs.index_spaces.declared.module.Function.{Function}
use Rattle.wasm_module_validator_section_order.specs.declared.items.bodies.Body.{Body}
use Rattle.wasm_module_validator_section_order.specs.rules_in_order.Steps.{SoFar, JudgesBody}
use Rattle.wasm_module_validator_payloads.specs.Progress.{Kept, Progress, IsAt}
use Rattle.wasm_module_validator_payloads.specs.laws.Bodies.{FitsBehind, fits, not_fitting, function_is, judges, body_behind, no_function}
use Rattle.wasm_module_validator_drivers.specs.Sharing.{Reached, IsReached, Handed, IsHandedOut, NoneLeft, body_count}

-- the type of the function at an index
abbrev pub type_at : Kept → ℕ → Option ℕ
type_at k i = option_map (λ (f : Function). f.type_index) (slice_get k.items.spaces.functions i)

-- what is handed out
pub is_handed_out : (r : Reached) (shared : Kept) (last n : ℕ) (z : Settings) (f : Handed) → r.progress ≡ record { kept = shared; last = last } → body_count r.code ≡ n
    → f.resources.shared.value ≡ shared → f.index ≡ shared.items.spaces.imported_functions + n
    → type_at shared (shared.items.spaces.imported_functions + n) ≡ Some f.ty → f.features.0 ≡ z.features → f.limits ≡ z.limits
    → IsWithinCeilings f.limits → IsHandedOut r z f
is_handed_out r shared last n z f same code res index type features limits within = record {
  resources = res ∙ sym (ap (λ (s : Progress). s.kept) same);
  index = index ∙ ap (λ (m : ℕ). shared.items.spaces.imported_functions + m) (sym code)
      ∙ ap (λ (s : Progress). s.kept.items.spaces.imported_functions + body_count r.code) (sym same);
  type = subst (λ (s : Progress). type_at s.kept f.index ≡ Some f.ty) (sym same) (ap (type_at shared) index ∙ type);
  features = features;
  limits = limits;
  within = within;
}

-- where there is no type there is no function
pub no_type : (o : Option Function) → option_map (λ (f : Function). f.type_index) o ≡ None → o ≡ None
no_type None e = refl
no_type (Some f) e = absurd cc

module _ (r : Reached) (here : Progress) (n : ℕ) (same : r.progress ≡ here) (code : body_count r.code ≡ n) (body : State) where
  abbrev place : ℕ
  place = here.kept.items.spaces.imported_functions + n

  at_here : (z : Settings) (p : SoFar) → IsReached z r p → (bodies : List Body) × (length bodies ≡ n) × IsAt z here bodies p
  at_here z p (bodies, count, at) = (bodies, count ∙ code, subst (λ (s : Progress). IsAt z s bodies p) same at)

  next_type : (z : Settings) (p : SoFar) (bodies : List Body) → length bodies ≡ n → IsAt z here bodies p → type_at here.kept place ≡ slice_get p.tree.functions (length p.bodies)
  next_type z p bodies count at =
      ap (λ (m : ℕ). type_at here.kept (here.kept.items.spaces.imported_functions + m)) (sym count) ∙ function_is z p here bodies at

  pub none_left : type_at here.kept place ≡ None → NoneLeft r
  none_left e = subst (λ (s : Progress). slice_get s.kept.items.spaces.functions (s.kept.items.spaces.imported_functions + body_count r.code) ≡ None) (sym same)
      (subst (λ (m : ℕ). slice_get here.kept.items.spaces.functions (here.kept.items.spaces.imported_functions + m) ≡ None) (sym code)
      (no_type (slice_get here.kept.items.spaces.functions place) e))

  pub body_denied : (k : ErrorKind) → Denies k (FitsBehind here body.rest) → (z : Settings) (p : SoFar) → IsReached z r p → Denies k ((q : SoFar) × JudgesBody z p body.rest q)
  body_denied k d z p reached = let (bodies, count, at) = at_here z p reached in not_fitting z p here bodies at k body.rest d

  pub no_body : type_at here.kept place ≡ None → (z : Settings) (p : SoFar) → IsReached z r p → ((q : SoFar) × JudgesBody z p body.rest q) → ⊥
  no_body none z p reached =
      let (bodies, count, at) = at_here z p reached in
      no_function z p here bodies at body.rest (sym none ∙ next_type z p bodies count at)

  module _ (index ty : ℕ) (found : type_at here.kept place ≡ Some ty) where
    -- the body as whoever judges it by these settings reads it
    abbrev taken : Settings → Body
    taken z = record { index = index; type_index = ty; body = set z body }

    function : (z : Settings) (p : SoFar) (bodies : List Body) → length bodies ≡ n → IsAt z here bodies p → slice_get p.tree.functions (length p.bodies) ≡ Some ty
    function z p bodies count at = sym (next_type z p bodies count at) ∙ found

    pub body_may_come : FitsBehind here body.rest → (z : Settings) (p : SoFar) → IsReached z r p → (q : SoFar) × JudgesBody z p body.rest q
    body_may_come h z p reached =
        let (bodies, count, at) = at_here z p reached in
        let w = fits z p here bodies at body.rest h in
        (record p { bodies = p.bodies ++ body.rest ∷ [] }, judges z p here bodies at (taken z) w.0 w.1 (function z p bodies count at))

    one_more : (z : Settings) (bodies : List Body) → length bodies ≡ n → length (bodies ++ taken z ∷ []) ≡ n + 1
    one_more z bodies count = omega (arith, length_push bodies (taken z), count)

    pub body_follows : (s : Reached) → s ≡ record { progress = here; code = Some (n + 1) } → (z : Settings) (p q : SoFar) → IsReached z r p → JudgesBody z p body.rest q → IsReached z s q
    body_follows s left z p q reached j =
        let (bodies, count, at) = at_here z p reached in
        subst (λ (t : Reached). IsReached z t q) (sym left)
        (bodies ++ taken z ∷ [], one_more z bodies count, body_behind z p here bodies at (taken z) j.begun j.within (function z p bodies count at) refl q j)
