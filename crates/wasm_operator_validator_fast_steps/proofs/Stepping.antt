-- Steps over operators, by their bytes and by the rules.
use Rattle.std.proofs.Common.{◌≡◌, ◌≤◌, ◌∙◌, ℕ, ◌+◌, ◌-◌, List, ◌∷◌, ◌++◌, IsTrue, refl, sym, subst, ap, arith, drop, length}
use Rattle.std.proofs.lemmas.List.{drop-drop}
use Rattle.wasm_types.specs.settings.Settings.{Settings}
use Rattle.wasm_types.specs.trees.Trees.{TypeTree}
use Rattle.wasm_types.specs.decoding.Numbers.{behind, GivesAt}
use Rattle.wasm_operators_frequent.specs.Short.{IsTold}
use Rattle.wasm_operators_enums.specs.Op.{Op}
use Rattle.wasm_operators_enums.specs.Immediates.{is_canonical}
use Rattle.wasm_operators_enums.specs.Roles.{role_of}
use Rattle.wasm_operators_enums.specs.declared.role.Role.TheVariants.{Plain}
use Rattle.wasm_operators_encoding.specs.Coded.{operator}
use Rattle.wasm_operators_encoding.specs.Operators.{coded_of, SpelledOperator}
use Rattle.wasm_operators_encoding.specs.expressions.SpellingLaws.{read_spelled}
use Rattle.wasm_operator_validator_rules.specs.Context.{Context, Initialised}
use Rattle.wasm_operator_validator_rules.specs.Row.{after}
use Rattle.wasm_operator_validator_rules.specs.Typed.{Steps}
use Rattle.wasm_operator_validator_state.specs.laws.Closing.{in_plain}
use Rattle.wasm_operator_validator_fast_tables.specs.declared.tables.Open.{Open}
use Rattle.wasm_operator_validator_fast_tables.specs.declared.tables.Tables.{Tables}
use Rattle.wasm_operator_validator_fast_tables.specs.Stacks.{Values, lying, with_all}
use Rattle.wasm_operator_validator_fast_tables.specs.Values.{operands}
use Rattle.wasm_operator_validator_fast_tables.specs.Tables.{results_in, signature_in, Fits}
use Rattle.wasm_operator_validator_fast_tables.specs.Loop.{Full, inside_all, Closes, Goes}

-- ---- bytes

-- an operator is spelled from one offset to another
abbrev pub IsSpelledAt : Settings → List ℕ → ℕ → ℕ → Op → Type 0
IsSpelledAt z text i j o = (front : List ℕ) × SpelledOperator z o front × (drop i text ≡ front ++ drop j text)

-- the same by these features, within limits that the bytes are in
abbrev pub Stands : ℕ → List ℕ → ℕ → ℕ → Op → Type 0
Stands features text i j o = (z : Settings) → z.features ≡ features → length text ≤ z.limits.body_bytes → IsSpelledAt z text i j o

read_here : (z : Settings) (text : List ℕ) (i j : ℕ) (o : Op) → IsTrue (is_canonical o) → GivesAt (operator z) text i (coded_of o) j → IsSpelledAt z text i j o
read_here z text i j o canonical g =
    let (front, takes, spelled) = read_spelled z (record { rest = drop i text; place = 0; settings = z; start = 0 })
    (behind (j - i) (record { rest = drop i text; place = 0; settings = z; start = 0 })) o (g.gives _ refl) canonical in
    let whole : i + (j - i) ≡ j = omega (arith, g.forward) in
    (front, spelled, takes.parts ∙ ap (λ (r : List ℕ). front ++ r) (drop-drop (j - i) i text ∙ ap (λ (k : ℕ). drop k text) whole))

-- what is told within all limits
pub stood : (features : ℕ) (text : List ℕ) (i j : ℕ) (o : Op) → IsTold features text i j (λ p. p ≡ o) → Stands features text i j o
stood features text i j o told z same within =
    let here : IsTold z.features text i j (λ p. p ≡ o) = subst (λ (f : ℕ). IsTold f text i j (λ p. p ≡ o)) (sym same) told in
    subst (λ (p : Op). IsSpelledAt z text i j p) here.told (read_here z text i j here.op here.canonical (here.reads z.limits))

pub step : (ids : List TypeTree) (z : Settings) (text : List ℕ) (t : Tables) (g : Context) (i j : ℕ) (opens others : List Open) (v w : Values) → Fits ids z text t g
    → (o : Op) → Stands t.features.0 text i j o → ((os : List Op) → Closes ids t g others w os → Closes ids t g opens v (o ∷ os))
    → Goes ids z text t g j others w → Goes ids z text t g i opens v
step ids z text t g i j opens others v w fits o stands closes (os, h, c) =
    let (front, spelled, whole) = stands z fits.features fits.within in
    (o ∷ os, (front, drop j text, spelled, h, whole), closes os c)

-- ---- operators

-- one that neither opens nor ends a frame
pub plain_more : (ids : List TypeTree) (t : Tables) (g : Context) (o : Open) (outer : List Open) (a b u : List ℕ) (p : Op) → role_of p ≡ Plain
    → ((set : Initialised) → Full t o.set set → Full t o.set (after p set))
    → ((set : Initialised) → Full t o.set set → Steps (inside_all ids g t.known.flat.items (o ∷ outer)) set p (operands ids a) (operands ids b))
    → (os : List Op) → Closes ids t g (o ∷ outer) (b, u) os → Closes ids t g (o ∷ outer) (a, u) (p ∷ os)
plain_more ids t g o outer a b u p is keeps steps os c set before full whole =
    (in_plain (inside_all ids g t.known.flat.items (o ∷ outer)) (record { kind = o.kind; block = signature_in ids t.known.flat.items o.sig; before = before }) set (operands ids a) p os
    (λ rest. Closes ids t g outer (with_all (results_in t.known.flat.items o.sig) (lying o.base u)) rest) is).1
    (operands ids b, steps set full, c (after p set) before (keeps set full) whole)

-- one that gives locals values too, by which the innermost frame has other bits
pub plain_sets : (ids : List TypeTree) (t : Tables) (g : Context) (o : Open) (n : ℕ) (outer : List Open) (a b u : List ℕ) (p : Op) → role_of p ≡ Plain
    → ((set : Initialised) → Full t o.set set → Full t n (after p set))
    → ((set : Initialised) → Full t o.set set → Steps (inside_all ids g t.known.flat.items (o ∷ outer)) set p (operands ids a) (operands ids b))
    → (os : List Op) → Closes ids t g (record { kind = o.kind; base = o.base; set = n; sig = o.sig } ∷ outer) (b, u) os → Closes ids t g (o ∷ outer) (a, u) (p ∷ os)
plain_sets ids t g o n outer a b u p is keeps steps os c set before full whole =
    (in_plain (inside_all ids g t.known.flat.items (o ∷ outer)) (record { kind = o.kind; block = signature_in ids t.known.flat.items o.sig; before = before }) set (operands ids a) p os
    (λ rest. Closes ids t g outer (with_all (results_in t.known.flat.items o.sig) (lying o.base u)) rest) is).1
    (operands ids b, steps set full, c (after p set) before (keeps set full) whole)
