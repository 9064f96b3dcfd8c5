use Rattle.std.proofs.Common.{◌≡◌, ◌<◌, ◌++◌, ◌∷◌, ◌^◌, List, [], ℕ, length, refl, sym, ap, subst}
use Rattle.wasm_module_validator_streaming.proofs.handing.conclude.Goals as goal

-- if no byte follows, all that came is all that there is
no_more : {A : Type 0} (xs : List A) → xs ++ [] ≡ xs
no_more [] = refl
no_more (x ∷ xs) = ap (λ (ys : List _). x ∷ ys) (no_more xs)

pub returns-in-Refused : goal.returns-in-Refused
returns-in-Refused g c = λ first got s room.
    let last = g.met.T.TakesBytes.last first got c.args.bytes.now c.args.taker.now s in
    let whole = sym (no_more got) in
    subst (λ (text : List ℕ). g.T.TakesBytes.denied first text c.in-Refused.error) (no_more got)
    (c.in-Refused.ensures first got last room [] (λ e. refl) (subst (λ (text : List ℕ). length text < 2 ^ 64) whole room))
