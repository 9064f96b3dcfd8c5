-- A walk goes past elements that their bytes alone tell.
use Rattle.std.proofs.Common.{◌≡◌, ◌∙◌, ℕ, zero, suc, ◌+◌, ◌-◌, ◌≤◌, List, ◌++◌, length, take, drop, refl, sym, ap, subst, arith}
use Rattle.std.proofs.lemmas.List.{append_cancel_left, take-append-drop, length-take-le, length-append, length-drop, drop-drop}
use Rattle.wasm_types.specs.settings.Settings.{Settings}
use Rattle.wasm_types.specs.decoding.Decoder.{State, Done, Takes}
use Rattle.wasm_types.specs.decoding.Places.{end_of}
use Rattle.wasm_types.specs.decoding.ErrorValue.{ErrorValue}
use Rattle.wasm_operators_encoding.specs.Ends.{EndsOnce}
use Rattle.wasm_operators_encoding.specs.expressions.Code.{Code, walk}
use Rattle.wasm_operators_encoding.specs.expressions.Spelling.{SpelledExpression}
use Rattle.wasm_operators_encoding.specs.expressions.SpellingLaws.{one_expression}
use Rattle.wasm_operators_encoding.specs.ConstantDecoder.{constant}
use Rattle.wasm_operators_encoding.specs.ConstantDecoderLaws.{decides-constant}
use Rattle.wasm_sections_items.specs.limited.Walking.{Walk, Passes}
use Rattle.wasm_operator_validator_rules.specs.Operands.{ValueType}
use Rattle.wasm_operator_validator_rules.specs.Context.{Module}
use Rattle.wasm_module_validator_checks.specs.rules.Spaces.{referred_in}
use Rattle.wasm_module_validator_resources.specs.referring.Naming.{NamesMore}
use Rattle.wasm_module_validator_initialisers.specs.segments.Judged.{IsConstantText}
use Rattle.wasm_module_validator_initialisers.specs.elements.Short.{NamesShort, NamesRun}
use Rattle.wasm_module_validator_initialisers.proofs.Walks.{Walked, walked_behind}

-- ---- places

-- a walk behind some bytes of it, with so many items left
abbrev pub behind : Walk → ℕ → ℕ → Walk
behind w i k = record {
  left = k;
  reader = record { rest = drop i w.reader.rest; place = w.reader.place + i; settings = w.reader.settings; start = w.reader.start };
  over = w.over;
}

-- the same, where the walk has passed them
passed_is : (w v : Walk) (i k : ℕ) → i ≤ length w.reader.rest → Passes i k w v → v ≡ behind w i k
passed_is w v i k inside (taken, left, over) =
    let r = w.reader in
    let rest : v.reader.rest ≡ drop i r.rest = append_cancel_left (take i r.rest) v.reader.rest (drop i r.rest) (sym taken.parts ∙ sym (take-append-drop i r.rest)) in
    let place : v.reader.place ≡ r.place + i = omega (arith, taken.place, length-take-le i r.rest inside) in
    let settings = taken.settings in
    let start = taken.start in
    let whole : v ≡ record {
      left = v.left;
      reader = record { rest = v.reader.rest; place = v.reader.place; settings = v.reader.settings; start = v.reader.start };
      over = v.over;
    } = refl in
    whole ∙ cc

pub passes_nothing : (w : Walk) → Passes 0 w.left w w
passes_nothing w = (record { parts = refl; place = omega arith; settings = refl; start = refl }, refl, refl)

-- the bytes end where they did
pub passed_end : (w v : Walk) (i k : ℕ) → Passes i k w v → end_of v.reader ≡ end_of w.reader
passed_end w v i k (taken, left, over) =
    let all : length w.reader.rest ≡ length (take i w.reader.rest) + length v.reader.rest = ap length taken.parts ∙ length-append (take i w.reader.rest) v.reader.rest in
    omega (arith, all, taken.place)

pub passed_kept : (w v : Walk) (i k : ℕ) → Passes i k w v → v.reader.settings ≡ w.reader.settings
passed_kept w v i k (taken, left, over) = taken.settings

-- ---- what one pass accepts is read as a constant

read_constant : (c : Code) (text : List ℕ) (z : Settings) (s t : State) → EndsOnce (walk c) → SpelledExpression z c text → Takes s text t → constant z s ≡ Done text t
read_constant c text z s t once spelled taken = (decides-constant z).complete s t text text taken (refl, record { code = c; spelled = spelled; once = once })

-- it refers to what its code refers to
pub refers_to : (z : Settings) (c : Code) (names text now after : List ℕ) → SpelledExpression z c text → referred_in c ≡ names → after ≡ now ++ names
    → NamesMore z text now after
refers_to z c names text now after spelled named e d other =
    e ∙ ap (λ (xs : List ℕ). now ++ xs) (sym named ∙ ap referred_in (sym (one_expression z d c text other spelled)))

module _ (z : Settings) (g : Module) (count : ℕ) (t : ValueType) (Refused : Walk → ErrorValue → Type 0) (first : Walk) (before : List ℕ) where
  abbrev Here : Walk → List ℕ → Type 0
  Here w now = Walked (IsConstantText z g count t) (NamesMore z) constant Refused first before w now

  one : (w : Walk) (i j k : ℕ) (now after : List ℕ) → NamesShort z.features g t w.reader.rest i j now after → Here (behind w i (suc k)) now → Here (behind w j k) after
  one w i j k now after (names, s, e) h =
      let text = w.reader.rest in
      let b = behind w i (suc k) in
      let v = behind w j k in
      let part = take (j - i) (drop i text) in
      let some = length-drop i text in
      let long : length part ≡ j - i = length-take-le (j - i) (drop i text) (omega (arith, some, s.inside, s.forward)) in
      let far : i + (j - i) ≡ j = omega (arith, s.forward) in
      let rest : drop (j - i) (drop i text) ≡ drop j text = drop-drop (j - i) i text ∙ ap (λ (n : ℕ). drop n text) far in
      let taken : Takes b.reader part v.reader
      = record {
        parts = sym (take-append-drop (j - i) (drop i text)) ∙ ap (λ (r : List ℕ). part ++ r) rest;
        place = omega (arith, long, s.forward);
        settings = refl;
        start = refl;
      } in
      let y = b.reader.settings in
      let read = read_constant s.code part y b.reader v.reader s.once (s.spelled y) taken in
      walked_behind (IsConstantText z g count t) (NamesMore z) constant Refused first before b now h v part (omega arith) read refl after h.going
      (s.code, s.spelled z, s.constant count) (refers_to z s.code names part now after (s.spelled z) s.named e)

  run : (n : ℕ) (w : Walk) (j k : ℕ) (now after : List ℕ) → w.left ≡ n + k → NamesRun z.features g t w.reader.rest n 0 j now after → Here w now → Here (behind w j k) after
  run zero w j k now after e (at, same) h =
      let r = w.reader in
      let none : r.place ≡ r.place + 0 = omega arith in
      let left : w.left ≡ k = omega (arith, e) in
      subst (λ (i : ℕ). Here (behind w i k) after) (sym at)
      (subst (λ (xs : List ℕ). Here (behind w 0 k) xs) (sym same)
      (subst (λ (p : ℕ). Here (record { left = k; reader = record { rest = r.rest; place = p; settings = r.settings; start = r.start }; over = w.over }) now) none
      (subst (λ (l : ℕ). Here (record { left = l; reader = r; over = w.over }) now) left h)))
  run (suc n) w j k now after e (i, then, some, last) h = one w i j k then after last (run n w i (suc k) now then (omega (arith, e)) some h)

  pub walked_run : (n j : ℕ) (w v : Walk) (now after : List ℕ) → n + v.left ≡ w.left → j ≤ length w.reader.rest → Passes j v.left w v
      → NamesRun z.features g t w.reader.rest n 0 j now after → Here w now → Here v after
  walked_run n j w v now after e inside passed some h =
      subst (λ (u : Walk). Here u after) (sym (passed_is w v j v.left inside passed)) (run n w j v.left now after (sym e) some h)
