-- What is kept of a module, and what payloads do to it.
use Rattle.std.proofs.Common.{◌≡◌, ◌∙◌, ◌<◌, ℕ, List, [], ◌∷◌, length, map, refl, sym, ap, subst, arith, Option, Some, None, Result, Ok}
use Rattle.std.specs.Prelude.{OnOk, is_some, is_none, option_map}
use Rattle.wasm_types.specs.decoding.Decoder.{State}
use Rattle.wasm_types.specs.decoding.Denials.{Tells}
use Rattle.wasm_types.specs.decoding.ErrorValue.{ErrorValue}
use Rattle.wasm_types.specs.settings.Settings.{Settings}
use Rattle.wasm_types.specs.settings.declared.Limits.{Limits}
use Rattle.wasm_sections_parser.specs.declared.frame.Frame.{Frame}
use Rattle.wasm_sections_parser.specs.declared.frame.Frame.TheVariants as frames
use Rattle.wasm_sections_parser.specs.Parsing.{shape_of}
use Rattle.wasm_sections_parser.specs.Steps.{Shape}
use Rattle.wasm_sections.specs.declared.payload.Payload.{Payload}
use Rattle.wasm_sections.specs.declared.payload.Payload.TheVariants as payloads
use Rattle.wasm_sections.specs.Payloads.{IsSectionOf, IsPayloadOf, read_by}
use Rattle.wasm_sections.specs.SettingsLaws.{frame_by, same_shape, payload_by}
use Rattle.wasm_module_validator_section_order.specs.declared.items.bodies.Body.{Body}
use Rattle.wasm_module_validator_section_order.specs.frames.Walks.{HasSettings}
use Rattle.wasm_module_validator_section_order.specs.rules_in_order.Sections.{code_place, number}
use Rattle.wasm_module_validator_section_order.specs.rules_in_order.Sections as section
use Rattle.wasm_module_validator_section_order.specs.rules_in_order.Steps.{SoFar, JudgesShape, JudgesSection}
use Rattle.wasm_module_validator_payloads.specs.declarations.Total.{IsPastTotal}
use Rattle.wasm_module_validator_payloads.specs.Progress.{HasGroup, Kept, Progress, IsAt, text_of}
use Rattle.wasm_module_validator_payloads.specs.laws.Shapes.{frame_back}
use Rattle.wasm_module_validator_payloads.proofs.Arms.{section_answer, section_added}
use Rattle.wasm_module_validator_payloads.proofs.Counting.{on_ok}
use Rattle.wasm_module_validator_drivers.specs.Sharing.{Reached, reached, has_no_code, body_count, IsReached, IsWhole, FullNext, TellsFrame, Follows}

-- ---- what is its own, and what is shared

some_none : {A : Type 0} (x : A) → Some x ≡ None → ⊥
some_none x e = absurd cc

module _ (r : Reached) (own : Progress) (last n : ℕ) where
  pub not_shared : (shared : Option Kept) → reached own shared last n ≡ r → r.code ≡ None → shared ≡ None
  not_shared None e none = refl
  not_shared (Some s) e none = absurd (some_none n (ap (λ (x : Reached). x.code) e ∙ none))

  pub own_progress : (shared : Option Kept) → reached own shared last n ≡ r → r.code ≡ None → r.progress ≡ own
  own_progress None e none = sym (ap (λ (x : Reached). x.progress) e)
  own_progress (Some s) e none = absurd (some_none n (ap (λ (x : Reached). x.code) e ∙ none))

-- what is kept as shared
module _ (r : Reached) (own : Progress) (last n : ℕ) (o : Option Kept) (shared : Kept) (is : o ≡ Some shared) where
  pub shared_progress : reached own o last n ≡ r → r.progress ≡ record { kept = shared; last = last }
  shared_progress e = sym (ap (λ (x : Reached). x.progress) (sym (ap (λ (s : Option Kept). reached own s last n) is) ∙ e))

  pub shared_code : reached own o last n ≡ r → r.code ≡ Some n
  shared_code e = sym (ap (λ (x : Reached). x.code) (sym (ap (λ (s : Option Kept). reached own s last n) is) ∙ e))

  -- with another place and another count
  pub shared_left : (place count : ℕ) → reached own o place count ≡ record { progress = record { kept = shared; last = place }; code = Some count }
  shared_left place count = ap (λ (s : Option Kept). reached own s place count) is

-- what is kept as its own
pub own_reached : (own : Progress) (shared : Option Kept) (last n : ℕ) → shared ≡ None → reached own shared last n ≡ record { progress = own; code = None }
own_reached own shared last n e = ap (λ (s : Option Kept). reached own s last n) e

-- whether its code has begun
pub code_shown : {A : Type 0} (f : A → Kept) (o : Option A) (own : Progress) (last n : ℕ) → is_some o ≡ is_some (reached own (option_map f o) last n).code
code_shown f None own last n = refl
code_shown f (Some x) own last n = refl

pub own_shown : {A : Type 0} (f : A → Kept) (o : Option A) (own : Progress) (last n : ℕ) → is_none o ≡ has_no_code (reached own (option_map f o) last n).code
own_shown f None own last n = refl
own_shown f (Some x) own last n = refl

-- ---- bodies

no_items : {A : Type 0} (xs : List A) → length xs ≡ 0 → xs ≡ []
no_items [] e = refl
no_items (x ∷ xs) e = absurd (omega (arith, e))

no_texts : (bodies : List Body) → map text_of bodies ≡ [] → length bodies ≡ 0
no_texts [] e = refl
no_texts (b ∷ bs) e = absurd cc

-- a frame that is no part of the code leaves the bodies
pub bodies_stay : (z : Settings) (p q : SoFar) (f : Frame) (x : Payload) → IsWhole x → IsPayloadOf f x → JudgesShape z p (shape_of f) q → q.bodies ≡ p.bodies
bodies_stay z p q (frames.Version n e r) x whole is j = ap (λ (s : SoFar). s.bodies) j.2
bodies_stay z p q (frames.Custom c) x whole is j = ap (λ (s : SoFar). s.bodies) j
bodies_stay z p q (frames.Section id b) x whole is j = j.2.bodies
bodies_stay z p q (frames.CodeStart n r k) x whole is j = absurd (subst IsWhole is whole)
bodies_stay z p q (frames.CodeEntry b) x whole is j = absurd (subst IsWhole is whole)
bodies_stay z p q (frames.End place) x whole is j = ap (λ (s : SoFar). s.bodies) j

-- ---- a payload that is read anew

-- what reads a section by these settings has them
has_anew : (z : Settings) (f : Frame) (x : Payload) → IsWhole x → IsPayloadOf f x → HasSettings z (frame_by z f)
has_anew z (frames.Version n e r) x whole is = tt
has_anew z (frames.Custom c) x whole is = tt
has_anew z (frames.Section id b) x whole is = refl
has_anew z (frames.CodeStart n r k) x whole is = tt
has_anew z (frames.CodeEntry b) x whole is = absurd (subst IsWhole is whole)
has_anew z (frames.End place) x whole is = tt

-- What is known of each frame of the payload as these settings read it is known of each frame of the payload as it came.
frame_anew : (P : Shape → Type 0) (z : Settings) (x : Payload) → IsWhole x
    → ((g : Frame) → HasSettings z g → IsPayloadOf g (read_by z x) → P (shape_of g)) → (f : Frame) → IsPayloadOf f x → P (shape_of f)
frame_anew P z x whole h f is = subst P (same_shape z f) (h (frame_by z f) (has_anew z f x whole is) (payload_by z f x is))

-- settings are these features and limits
pub settings_are : (z : Settings) (features : ℕ) (limits : Limits) → features ≡ z.features → limits ≡ z.limits
    → record { features = features; limits = limits } ≡ z
settings_are z features limits e h = λ i. record { features = e i; limits = h i }

-- by the settings that what is kept stands for
anew_is : (x anew : Payload) (y : Settings) → anew ≡ read_by y x → (r : Progress) → y ≡ r.kept.items.spaces.settings
    → (z : Settings) (p : SoFar) (bodies : List Body) → IsAt z r bodies p → anew ≡ read_by z x
anew_is x anew y is r by z p bodies at = is ∙ ap (λ (s : Settings). read_by s x) (by ∙ at.stands.settings)

-- ---- a payload of a module that is not shared

module _ (r : Reached) (own : Progress) (same : r.progress ≡ own) (none : r.code ≡ None) (x : Payload) (whole : IsWhole x)
    (anew : Payload) (y : Settings) (read : anew ≡ read_by y x) (by : y ≡ own.kept.items.spaces.settings) where
  own_at : (z : Settings) (p : SoFar) → IsReached z r p → IsAt z own [] p
  own_at z p (bodies, count, at) =
      let e : bodies ≡ [] = no_items bodies (count ∙ ap body_count none) in
      subst (λ (s : Progress). IsAt z s [] p) same (subst (λ (bs : List Body). IsAt z r.progress bs p) e at)

  pub told_next : {X : Type 0} (result : Result X ErrorValue)
      → ((z : Settings) (p : SoFar) (f : Frame) → IsAt z own [] p → HasSettings z f → IsPayloadOf f anew → Tells result ((q : SoFar) × JudgesShape z p (shape_of f) q))
      → TellsFrame r x result
  told_next result h z p f reached of =
      let at = own_at z p reached in
      frame_anew (λ (s : Shape). Tells result ((q : SoFar) × JudgesShape z p s q)) z x whole
      (λ g has j. h z p g at has (subst (IsPayloadOf g) (sym (anew_is x anew y read own by z p [] at)) j)) f of

  -- there is no room for a group of it
  pub full_next : (e : ErrorValue) → ((z : Settings) (p : SoFar) → IsAt z own [] p → IsPastTotal own.kept.groups own.kept.items (HasGroup anew) e) → FullNext r x e
  full_next e full z p reached =
      let at = own_at z p reached in
      subst (λ (q : Progress). IsPastTotal q.kept.groups q.kept.items (HasGroup (read_by z x)) e) (sym same)
      (subst (λ (a : Payload). IsPastTotal own.kept.groups own.kept.items (HasGroup a) e) (anew_is x anew y read own by z p [] at) (full z p at))

  pub payload_follows : {X : Type 0} (result : Result X ErrorValue) (after : Progress) (bodies : List Body) (s : Reached) → s ≡ record { progress = after; code = None }
      → OnOk result ((z : Settings) (p q : SoFar) (f : Frame) → IsAt z own [] p → HasSettings z f → IsPayloadOf f anew → JudgesShape z p (shape_of f) q → IsAt z after bodies q)
      → OnOk result (Follows r x s)
  payload_follows result after bodies s is h = on_ok result _ _ go h
    where
      go : ((z : Settings) (p q : SoFar) (f : Frame) → IsAt z own [] p → HasSettings z f → IsPayloadOf f anew → JudgesShape z p (shape_of f) q → IsAt z after bodies q) → Follows r x s
      go added z p q f reached of j =
          let here = own_at z p reached in
          let there = frame_anew (λ (t : Shape). JudgesShape z p t q → IsAt z after bodies q) z x whole
          (λ g has k. added z p q g here has (subst (IsPayloadOf g) (sym (anew_is x anew y read own by z p [] here)) k)) f of j in
          let texts : map text_of bodies ≡ [] = there.bodies ∙ (bodies_stay z p q f x whole of j ∙ sym here.bodies) in
          subst (λ (t : Reached). IsReached z t q) (sym is) (bodies, no_texts bodies texts, there)

-- ---- the start of the code

module _ (r : Reached) (own : Progress) (same : r.progress ≡ own) (none : r.code ≡ None) where
  pub code_told : {X : Type 0} (result : Result X ErrorValue) → ((z : Settings) (p : SoFar) (bodies : List Body) → IsAt z own bodies p → Tells result (p.last < code_place))
      → (z : Settings) (p : SoFar) → IsReached z r p → Tells result (p.last < code_place)
  code_told result h z p (bodies, count, at) = h z p bodies (subst (λ (s : Progress). IsAt z s bodies p) same at)

  -- what is shared then stands for the same, with the place of the code
  pub code_begun : (after : Progress) (shared : Kept) → shared ≡ after.kept
      → ((z : Settings) (p : SoFar) (bodies : List Body) → IsAt z own bodies p → IsAt z after bodies (record p { last = code_place }))
      → (z : Settings) (p : SoFar) → IsReached z r p → IsReached z (record { progress = record { kept = shared; last = 12 }; code = Some 0 }) (record p { last = code_place })
  code_begun after shared is h z p (bodies, count, at) =
      let there = h z p bodies (subst (λ (s : Progress). IsAt z s bodies p) same at) in (
        bodies,
        count ∙ ap body_count none,
        subst (λ (k : Kept). IsAt z (record { kept = k; last = 12 }) bodies (record p { last = code_place })) (sym is) (record {
          stands = there.stands;
          judged = there.judged;
          counted = there.counted;
          placed = refl;
          bodies = there.bodies;
          types = there.types;
          read = there.read;
        }),
      )

-- ---- a data section of a module that is shared

module _ (r : Reached) (here : Progress) (same : r.progress ≡ here) (x : Payload) (whole : IsWhole x)
    (anew : Payload) (y : Settings) (read : anew ≡ read_by y x) (by : y ≡ here.kept.items.spaces.settings) (plain : frame_back anew ≡ None) (G : State → Type 0)
    (of : (id : ℕ) (b : State) → IsSectionOf id b anew → (id ≡ number section.data_segments) × G b) where
  pub data_told : {X : Type 0} (result : Result X ErrorValue)
      → ((z : Settings) (p : SoFar) (bodies : List Body) (b : State) → IsAt z here bodies p → b.settings ≡ z → G b
      → Tells result ((q : SoFar) × JudgesSection z p section.data_segments b.rest q))
      → TellsFrame r x result
  data_told result h z p f (bodies, count, at) is =
      let there = subst (λ (s : Progress). IsAt z s bodies p) same at in
      frame_anew (λ (s : Shape). Tells result ((q : SoFar) × JudgesShape z p s q)) z x whole
      (λ g has j. section_answer result anew (read_by z x) (sym (anew_is x anew y read here by z p bodies there)) z p g section.data_segments plain
      (λ id b k. let m = of id b k in (m.0, λ st. h z p bodies b there st m.1)) has j) f is

  pub data_follows : {X : Type 0} (result : Result X ErrorValue) (after : Progress) (s : Reached) → s ≡ record { progress = after; code = r.code }
      → OnOk result ((z : Settings) (p q : SoFar) (bodies : List Body) (b : State) → IsAt z here bodies p → b.settings ≡ z → G b
      → JudgesSection z p section.data_segments b.rest q → IsAt z after bodies q)
      → OnOk result (Follows r x s)
  data_follows result after s left h = on_ok result _ _ go h
    where
      go : ((z : Settings) (p q : SoFar) (bodies : List Body) (b : State) → IsAt z here bodies p → b.settings ≡ z → G b
          → JudgesSection z p section.data_segments b.rest q → IsAt z after bodies q) → Follows r x s
      go added z p q f (bodies, count, at) is j =
          let there = subst (λ (s : Progress). IsAt z s bodies p) same at in
          let step = section_added {X = Unit {0}} (Ok tt) anew anew refl plain here after bodies section.data_segments G of added in
          let next = frame_anew (λ (t : Shape). JudgesShape z p t q → IsAt z after bodies q) z x whole
          (λ g has k. step z p q g there has (subst (IsPayloadOf g) (sym (anew_is x anew y read here by z p bodies there)) k)) f is j in
          subst (λ (t : Reached). IsReached z t q) (sym left) (bodies, count, next)
