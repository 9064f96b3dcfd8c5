-- A judge of a module is one of it behind a body too.
use Rattle.std.proofs.Common.{◌≡◌, ◌∙◌, ◌≤◌, ℕ, List, length, Option, Some, None, Result, Ok, is_some, refl, sym, ap, subst}
use Rattle.wasm_types.specs.decoding.Denials.{Tells}
use Rattle.wasm_types.specs.decoding.ErrorValue.{ErrorValue}
use Rattle.wasm_types.specs.settings.Settings.{Settings}
use Rattle.wasm_sections.specs.Payloads.{set}
use Rattle.wasm_sections.specs.declared.payload.Payload.TheVariants as payloads
use Rattle.wasm_module_validator_function_bodies.specs.code.Code.{IsFunctionOf}
use Rattle.wasm_module_validator_section_order.specs.items.Bodies.{IsReadBy}
use Rattle.wasm_module_validator_streaming.specs.Payloads.{IsFunctionHanded, JudgesFunction}
use Rattle.wasm_types.specs.decoding.Decoder.{State as Bytes}
use Rattle.wasm_types.specs.decoding.declared.error.ErrorKind.{ErrorKind}
use Rattle.wasm_module_validator_function_bodies.specs.declared.plain.PlainJudge.{PlainJudge}
use Rattle.wasm_module_validator.specs.resources.Reading.{context_of}
use Rattle.wasm_sections.specs.declared.payload.Payload.{Payload}
use Rattle.wasm_module_validator.specs.drivers.Sharing.{Handed, IsHandedOut}
use Rattle.wasm_module_validator.specs.module_validator_payloads.Progress.{Kept}
use Rattle.wasm_module_validator.specs.declared.payloads.ValidPayload.TheVariants as valid
use Rattle.wasm_module_validator.specs.declared.validator.Validator.{Validator}
use Rattle.wasm_module_validator.specs.Methods.{refusal, TakesBody}
use Rattle.wasm_module_validator.specs.Payloads.{TakesPayload}
use Rattle.wasm_module_validator_streaming.specs.Judges.{IsJudgeKept, IsJudgeFor}
use Rattle.wasm_module_validator_streaming.specs.laws.Payloads.{handed_out, body_handed}

-- of one module and one set of features
same_judge : (k l : Kept) (a b : ℕ) (judge : Option PlainJudge) → k ≡ l → a ≡ b → IsJudgeKept (context_of k.groups k.items.spaces) a judge
    → IsJudgeKept (context_of l.groups l.items.spaces) b judge
same_judge k l a b judge e f h =
    subst (λ (n : ℕ). IsJudgeKept (context_of l.groups l.items.spaces) n judge) f
    (subst (λ (x : Kept). IsJudgeKept (context_of x.groups x.items.spaces) a judge) e h)

not_some : {A : Type 0} (x : A) → None ≡ Some x → ⊥
not_some x e = cc

-- what a body leaves as it was
left_by_body : (body : Bytes) (v w : Validator) (h : Handed) → TakesBody body v (Ok h) w
    → (w ≡ record v { reached = w.reached }) × (w.reached.progress.kept ≡ v.reached.progress.kept)
left_by_body body v w h t = go (refusal v.state (is_some v.reached.code)) refl
  where
    go : (o : Option ErrorKind) → refusal v.state (is_some v.reached.code) ≡ o → (w ≡ record v { reached = w.reached }) × (w.reached.progress.kept ≡ v.reached.progress.kept)
    go None c = let k = t.left c in (k.1, k.3)
    go (Some k) c = absurd (not_some k (t.out k c).0)

module _ (x : Payload) (v w : Validator) (h : Handed) (body : Bytes) (t : TakesPayload x v (Ok (valid.Func h body)) w) (judge : Option PlainJudge) where
  handed : IsHandedOut v.reached v.settings h
  handed = let out = handed_out x v w h body t in body_handed out.0 v w h out.3

  left : (w ≡ record v { reached = w.reached }) × (w.reached.progress.kept ≡ v.reached.progress.kept)
  left = let out = handed_out x v w h body t in left_by_body out.0 v w h out.3

  -- it is one of what is handed out
  pub judge_of_handed : IsJudgeFor v judge → IsJudgeKept (context_of h.resources.shared.value.groups h.resources.shared.value.items.spaces) h.features.0 judge
  judge_of_handed k = same_judge v.reached.progress.kept h.resources.shared.value v.settings.features h.features.0 judge (sym handed.resources) (sym handed.features) k

  -- and then of what is kept
  pub judge_behind : IsJudgeKept (context_of h.resources.shared.value.groups h.resources.shared.value.items.spaces) h.features.0 judge → IsJudgeFor w judge
  judge_behind k =
      let settings = ap (λ (u : Validator). u.settings.features) left.0 in
      same_judge h.resources.shared.value w.reached.progress.kept h.features.0 w.settings.features judge (handed.resources ∙ sym left.1) (handed.features ∙ sym settings) k

-- ---- a body without a payload

module _ (body : Bytes) (v w : Validator) (h : Handed) (t : TakesBody body v (Ok h) w) where
  -- it is the payload that it would be
  pub body_takes : TakesPayload (payloads.CodeSectionEntry body) v (Ok (valid.Func h (set v.settings body))) w
  body_takes = (Ok h, refl, t)

  -- and is judged as that is: by the features and limits that were handed out
  pub body_judges : (anew : Bytes) → anew ≡ set (record { features = h.features.0; limits = h.limits }) body → (answer : Result (Unit {0}) ErrorValue)
      → ((z : Settings) → z.limits ≡ h.limits → IsReadBy z h.features.0 anew → Tells answer (IsFunctionHanded z h anew)) → JudgesFunction (payloads.CodeSectionEntry body) v answer w
  body_judges anew is answer told = record {
    handed = h;
    body = set v.settings body;
    takes = body_takes;
    told = λ z same read.
        let rest : anew.rest ≡ body.rest = ap (λ (b : Bytes). b.rest) is in
        let by : anew.settings ≡ z = ap (λ (b : Bytes). b.settings) is ∙ (λ i. record { features = sym read.features i; limits = sym same i }) in
        subst (λ (text : List ℕ). Tells answer (IsFunctionOf z (context_of h.resources.shared.value.groups h.resources.shared.value.items.spaces) h.ty text)) rest
        (told z same (record { settings = by; features = read.features; within = subst (λ (text : List ℕ). length text ≤ z.limits.body_bytes) (sym rest) read.within }));
  }
