-- Names one after the other.
use Rattle.std.specs.Prelude.{IsUtf8}
use Rattle.std.proofs.Common.{◌≡◌, ◌∙◌, ◌-◌, take, drop, arith, ℕ, List, [], ◌∷◌, ◌++◌, length, refl, sym, ap, subst}
use Rattle.std.proofs.lemmas.List.{length-append, length-drop, drop-append-le, take-append-le, take_all}
use Rattle.wasm_module_validator_exports.specs.declared.names.kept.KeptName.{KeptName}
use Rattle.wasm_module_validator_exports.specs.names.Kept.{IsNamed, name_at}

-- ---- bytes of names more

pub name_still : (t more : List ℕ) (i : KeptName) → IsNamed t i → name_at (t ++ more) i ≡ name_at t i
name_still t more i n =
    let forward = n.forward in
    let inside = n.inside in
    let rest = length-drop i.start t in
    ap (take (i.end - i.start)) (drop-append-le i.start t more (omega (arith, forward, inside)))
    ∙ take-append-le (i.end - i.start) (drop i.start t) more (omega (arith, forward, inside, rest))

pub named_still : (t more : List ℕ) (i : KeptName) → IsNamed t i → IsNamed (t ++ more) i
named_still t more i n =
    let inside = n.inside in
    let long = length-append t more in
    record { forward = n.forward; inside = omega (arith, inside, long); utf8 = subst IsUtf8 (sym (name_still t more i n)) n.utf8 }

behind_all : (t f : List ℕ) → drop (length t) (t ++ f) ≡ f
behind_all [] f = refl
behind_all (x ∷ t) f = behind_all t f

-- what was put behind the others is the name
pub last_name : (t f : List ℕ) (i : KeptName) → i.start ≡ length t → i.end ≡ length (t ++ f) → name_at (t ++ f) i ≡ f
last_name t f i s e =
    let long = length-append t f in
    ap (take (i.end - i.start)) (ap (λ (k : ℕ). drop k (t ++ f)) s ∙ behind_all t f)
    ∙ take_all (i.end - i.start) f (omega (arith, s, e, long))

pub last_named : (t f : List ℕ) (i : KeptName) → i.start ≡ length t → i.end ≡ length (t ++ f) → IsUtf8 f → IsNamed (t ++ f) i
last_named t f i s e u =
    let long = length-append t f in
    record { forward = omega (arith, s, e, long); inside = omega (arith, e); utf8 = subst IsUtf8 (sym (last_name t f i s e)) u }
