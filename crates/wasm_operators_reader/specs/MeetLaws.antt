-- Two runs from one standing go the same way. A run that closes all frames is reached by every other, unless that is refused
-- behind it.
use Rattle.std.proofs.Common.{◌≡◌, List, [], ◌∷◌, ◌++◌, refl, sym, ◌∙◌, ap, subst}
use Rattle.wasm_types.specs.decoding.ErrorValue.{ErrorValue}
use Rattle.wasm_types.specs.reader.Reading.{IsNotMemory}
use Rattle.wasm_operators_enums.specs.Op.{Op}
use Rattle.wasm_operators_reader.specs.Standing.{Standing, Reads, Refuses, Runs}
use Rattle.wasm_operators_reader.specs.StandingLaws.{one_step, nothing_follows, refused_no_step}

-- where no frame is open nothing more is read
closed : (s u : Standing) (o : Op) (m : Standing) → u ≡ s → u.frames ≡ [] → Reads s o m → ⊥
closed s u o m e f h = nothing_follows s o m (ap (λ (v : Standing). v.frames) (sym e) ∙ f) h

joined : (o p : Op) (os ps : List Op) → o ≡ p → os ≡ ps → p ∷ os ≡ o ∷ ps
joined o p os ps e f = cc

-- a run that goes on is a front of the run that closes all frames
pub meets_end : (os ps : List Op) (s t u v : Standing) (o : Op) → Runs s os t → Reads t o v → Runs s ps u → u.frames ≡ [] → (more : List Op) × (ps ≡ os ++ o ∷ more) × Runs v more u
meets_end [] [] s t u v o e h g f = absurd (closed s u o v g f (subst (λ (z : Standing). Reads z o v) e h))
meets_end [] (p ∷ ps) s t u v o e h (m, r, more) f =
    let same = one_step s o p v m (subst (λ (z : Standing). Reads z o v) e h) r in
    (ps, joined o p ps ps same.0 refl, subst (λ (z : Standing). Runs z ps u) (sym same.1) more)
meets_end (x ∷ os) [] s t u v o (m, r, more) h g f = absurd (closed s u x m g f r)
meets_end (x ∷ os) (p ∷ ps) s t u v o (m, r, more) h (n, q, others) f =
    let same = one_step s x p m n r q in
    let rest = meets_end os ps m t u v o more h (subst (λ (z : Standing). Runs z ps u) (sym same.1) others) f in
    (rest.0, joined x p ps (os ++ o ∷ rest.0) same.0 rest.1, rest.2)

-- a run that is refused, memory aside, has passed the end of one that closes all frames
pub meets_refusal : (e : ErrorValue) (os ps : List Op) (s t u : Standing) → Runs s os t → Refuses t e → IsNotMemory e.kind → Runs s ps u → (more : List Op) × (os ≡ ps ++ more)
meets_refusal e os [] s t u run h n g = (os, refl)
meets_refusal e [] (p ∷ ps) s t u same h n (m, r, more) = absurd (refused_no_step t e h n p m (subst (λ (z : Standing). Reads z p m) (sym same) r))
meets_refusal e (x ∷ os) (p ∷ ps) s t u (m, r, more) h n (k, q, others) =
    let same = one_step s x p m k r q in
    let rest = meets_refusal e os ps m t u more h n (subst (λ (z : Standing). Runs z ps u) (sym same.1) others) in
    (rest.0, joined p x os (ps ++ rest.0) (sym same.0) rest.1)
