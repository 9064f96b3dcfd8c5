-- What stands at an offset, where bytes spell it there.
use Rattle.std.proofs.Common.{◌≡◌, ◌≤◌, ◌+◌, ◌-◌, ◌∙◌, ℕ, List, [], ◌∷◌, ◌++◌, Option, Some, None, IfSome, IfNone, length, drop, refl, sym, ap, subst, arith, append_assoc, length-append, length-drop}
use Rattle.std.proofs.lemmas.List.{drop-drop}
use Rattle.wasm_types.specs.decoding.Decoder.{State, Outcome, Done, Decoder, Decides}
use Rattle.wasm_types.specs.decoding.Leb.{u32, IsUnsigned}
use Rattle.wasm_types.specs.decoding.LebLaws.{decides-u32}
use Rattle.wasm_types.specs.decoding.Text.{IsName}
use Rattle.wasm_types.specs.settings.Settings.{Settings, no_features}
use Rattle.wasm_types.specs.decoding.declared.error.ErrorKind.{ErrorKind}
use Rattle.wasm_types.specs.decoding.declared.error.ErrorKind.TheVariants.{EndOfData, MissingFeature, OutOfMemory, Failed, Other}
use Rattle.wasm_types.specs.decoding.ErrorValue.{ErrorValue}
use Rattle.wasm_types.specs.reader.Reading.{Fails, FailsAt, IsNotMemory}
use Rattle.wasm_types.specs.decoding.Numbers.{behind, GivesAt, RefusedAt, IsRefused}
use Rattle.wasm_module_validator_import_export_places.specs.Entries.{IsNameAt}
use Rattle.wasm_module_validator_import_export_places.specs.Finding.{Finds, IsNumber, Same}

-- ---- lists

drop_front : (a b : List ℕ) → drop (length a) (a ++ b) ≡ b
drop_front [] b = refl
drop_front (x ∷ a) b = drop_front a b

-- behind what stands there
pub past : (text : List ℕ) (i n : ℕ) (front rest : List ℕ) → n ≡ length front → drop i text ≡ front ++ rest → drop (i + n) text ≡ rest
past text i n front rest q e =
    let a : drop n (front ++ rest) ≡ rest = subst (λ (k : ℕ). drop k (front ++ rest) ≡ rest) (sym q) (drop_front front rest) in
    sym (drop-drop n i text) ∙ ap (drop n) e ∙ a

-- it is all there
pub room : (text : List ℕ) (i : ℕ) (front rest : List ℕ) → drop i text ≡ front ++ rest → length front + length rest ≡ length text - i
room text i front rest e = sym (length-append front rest) ∙ ap length (sym e) ∙ length-drop i text

pub ends_at : (text : List ℕ) (i : ℕ) (front rest : List ℕ) → i ≤ length text → drop i text ≡ front ++ rest → drop (length text - length rest) text ≡ rest
ends_at text i front rest le e =
    let r = room text i front rest e in
    let k : i + length front ≡ length text - length rest = omega (arith, r, le) in
    subst (λ (n : ℕ). drop n text ≡ rest) k (past text i (length front) front rest refl e)

-- ---- decoders

same_value : {A : Type 0} (x y : A) (s t : State) → Done x s ≡ Done y t → x ≡ y
same_value x y s t e = cc

same_rest : {A : Type 0} (x y : A) (s t : State) → Done x s ≡ Done y t → s.rest ≡ t.rest
same_rest x y s t e = let k : s ≡ t = cc in ap (λ (v : State). v.rest) k

-- what a decoder answers where bytes spell a value
answered : {A : Type 0} (d : Decoder A) (g : A → List ℕ → Type 0) → Decides d g → (s : State) (a : A) (front rest : List ℕ) → g a front → s.rest ≡ front ++ rest
    → d s ≡ Done a (record { rest = rest; place = s.place + length front; settings = s.settings; start = s.start })
answered d g decides s a front rest h e =
    decides.complete s (record { rest = rest; place = s.place + length front; settings = s.settings; start = s.start }) a front
    (record { parts = e; place = refl; settings = refl; start = refl }) h

pub value_read : {A : Type 0} (d : Decoder A) (g : A → List ℕ → Type 0) → Decides d g → (s t : State) (x a : A) (front rest : List ℕ) → g a front → s.rest ≡ front ++ rest → d s ≡ Done x t
    → (x ≡ a) × (t.rest ≡ rest)
value_read d g decides s t x a front rest h e q =
    let k = sym q ∙ answered d g decides s a front rest h e in
    (same_value x a t _ k, same_rest x a t _ k)

-- no error comes there
not_failed : {A : Type 0} (k : ErrorKind) (p : ℕ) (a : A) (u : State) → FailsAt k p (Done a u) → IsNotMemory k → ⊥
not_failed (EndOfData h) p a u f n = cc
not_failed (MissingFeature x) p a u f n = cc
not_failed OutOfMemory p a u f n = n
not_failed Failed p a u f n = f
not_failed Other p a u f n = cc

pub value_refused : {A : Type 0} (d : Decoder A) (g : A → List ℕ → Type 0) → Decides d g → (s : State) (error : ErrorValue) (a : A) (front rest : List ℕ) → g a front → s.rest ≡ front ++ rest
    → Fails error (d s) → IsNotMemory error.kind → ⊥
value_refused d g decides s error a front rest h e f n =
    not_failed error.kind error.offset a _ (subst (λ (o : Outcome _). Fails error o) (answered d g decides s a front rest h e) f) n

-- ---- numbers and names

pub number_found : (text : List ℕ) (i : ℕ) (r : Option (ℕ × ℕ)) → IfSome r (λ s. GivesAt u32 text i s.0 s.1) → IfNone r (RefusedAt u32 text i) → Finds IsNumber Same text i r
number_found text i None g n z a front rest h e =
    let s : State = record { rest = drop i text; place = 0; settings = no_features; start = 0 } in
    absurd (subst IsRefused (answered u32 (IsUnsigned 32) decides-u32 s a front rest h e) (n s refl))
number_found text i (Some (x, j)) g n z a front rest h e =
    let s : State = record { rest = drop i text; place = 0; settings = no_features; start = 0 } in
    let k = value_read u32 (IsUnsigned 32) decides-u32 s (behind (j - i) s) x a front rest h e (g.gives s refl) in
    let whole : i + (j - i) ≡ j = omega (arith, g.forward) in
    (k.0, subst (λ (m : ℕ). drop m text ≡ rest) whole (sym (drop-drop (j - i) i text) ∙ k.1))

-- a name's bytes, behind its length
pub name_parts : (z : Settings) (text : List ℕ) (i : ℕ) (a front rest : List ℕ) (h : IsName z.limits.string_bytes a front) → drop i text ≡ front ++ rest
    → drop i text ≡ h.name.count ++ (a ++ rest)
name_parts z text i a front rest h e = e ∙ ap (λ (v : List ℕ). v ++ rest) h.name.whole ∙ append_assoc h.name.count a rest

pub name_there : (text : List ℕ) (i n : ℕ) (a rest : List ℕ) → n ≡ length a → drop i text ≡ a ++ rest → IsNameAt text i n a
name_there text i n a rest q e = record { count = q; behind = rest; stands = e }
