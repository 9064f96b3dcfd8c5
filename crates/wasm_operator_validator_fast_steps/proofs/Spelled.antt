-- Labels one after the other, and the branch by a table that carries them.
use Rattle.std.proofs.Common.{◌≡◌, ◌≤◌, ◌∙◌, ℕ, zero, suc, ◌+◌, ◌-◌, List, [], ◌∷◌, ◌++◌, refl, sym, ap, subst, arith, append-nil, length, drop}
use Rattle.std.proofs.lemmas.List.{drop-drop, drop_more, append_assoc, length_push}
use Rattle.std.proofs.lemmas.Grind.{common_steps}
use Rattle.std.specs.Prelude.{All}
use Rattle.wasm_types.specs.decoding.Decoder.{State, Grammar, Many}
use Rattle.wasm_types.specs.decoding.Leb.{u32, IsUnsigned}
use Rattle.wasm_types.specs.decoding.LebLaws.{decides-u32}
use Rattle.wasm_types.specs.settings.Settings.{no_features}
use Rattle.wasm_types.specs.decoding.Numbers.{behind, GivesAt}
use Rattle.wasm_operators_frequent.specs.Short.{Begins}
use Rattle.wasm_operators_enums.specs.declared.control.ControlOperator.TheVariants as control
use Rattle.wasm_operators_enums.specs.Op as op
use Rattle.wasm_operator_validator_fast_tables.specs.declared.tables.Open.{Open}
use Rattle.wasm_operator_validator_fast_steps.specs.Labels.{Takes, IsOneLabel, AreLabels}
use Rattle.wasm_operator_validator_fast_steps.proofs.Stepping.{Stands}

-- ---- lists

-- one more behind the others
pub many_more : {A : Type 0} (g : Grammar A) (n : ℕ) (xs : List A) (x : A) (t u : List ℕ) → Many g n xs t → g x u → Many g (suc n) (xs ++ x ∷ []) (t ++ u)
many_more g zero [] x t u h k = (u, [], k, refl, ap (λ (y : List ℕ). y ++ u) h ∙ sym (append-nil u))
many_more g zero (y ∷ ys) x t u h k = absurd h
many_more g (suc n) [] x t u h k = absurd h
many_more g (suc n) (y ∷ ys) x t u (f, b, gy, more, whole) k =
    (f, b ++ u, gy, many_more g n ys x b u more k, ap (λ (s : List ℕ). s ++ u) whole ∙ append_assoc f b u)

pub all_cons : {A : Type 0} (P : A → Type 0) (x : A) (xs : List A) → P x → All P xs → All P (x ∷ xs)
all_cons P x xs p h zero d lt = p
all_cons P x xs p h (suc k) d lt = h k d (omega (arith, lt))

pub all_tail : {A : Type 0} (P : A → Type 0) (x : A) (xs : List A) → All P (x ∷ xs) → All P xs
all_tail P x xs h k d lt = h (suc k) d (omega (arith, lt))

all_push : {A : Type 0} (P : A → Type 0) (x : A) (xs : List A) → P x → All P xs → All P (xs ++ x ∷ [])
all_push P x [] p h = all_cons P x [] p h
all_push P x (y ∷ ys) p h = all_cons P y (ys ++ x ∷ []) (h 0 y (omega arith)) (all_push P x ys p (all_tail P y ys h))

-- ---- numbers

-- a number that is read is spelled
pub unsigned_at : (text : List ℕ) (i n e : ℕ) → GivesAt u32 text i n e → (front : List ℕ) × IsUnsigned 32 n front × (drop i text ≡ front ++ drop e text)
unsigned_at text i n e g =
    let s : State = record { rest = drop i text; place = 0; settings = no_features; start = 0 } in
    let (front, takes, spelled) = decides-u32.sound s (behind (e - i) s) n (g.gives s refl) in
    let whole : i + (e - i) ≡ e = omega (arith, g.forward) in
    (front, spelled, takes.parts ∙ ap (λ (r : List ℕ). front ++ r) (drop-drop (e - i) i text ∙ ap (λ (k : ℕ). drop k text) whole))

-- ---- labels

module _ (flat text : List ℕ) (opens : List Open) (i : ℕ) where
  pub one_label : (types : List ℕ) (j : ℕ) → IsOneLabel flat text opens i types j → AreLabels flat text opens i 0 types j
  one_label types j h =
      let (back, spelled, whole) = unsigned_at text i h.depth j h.read in
      record {
        targets = [];
        default = h.depth;
        front = [];
        back = back;
        each = refl;
        last = spelled;
        whole = whole;
        many = refl;
        take = all_cons (Takes flat opens types) h.depth [] h.takes (λ k d lt. absurd (omega (arith, lt)));
        forward = omega (arith, h.read.forward);
        inside = h.read.inside;
      }

  label_more : (k : ℕ) (types other : List ℕ) (j n : ℕ) → AreLabels flat text opens i k types j → IsOneLabel flat text opens j other n → other ≡ types
      → AreLabels flat text opens i (suc k) types n
  label_more k types other j n h one same =
      let (back, spelled, whole) = unsigned_at text j one.depth n one.read in
      let more : (h.front ++ h.back) ++ (back ++ drop n text) ≡ ((h.front ++ h.back) ++ back) ++ drop n text = grind (arith, common_steps) in
      let takes : Takes flat opens types one.depth = subst (λ (ts : List ℕ). Takes flat opens ts one.depth) same one.takes in
      record {
        targets = h.targets ++ h.default ∷ [];
        default = one.depth;
        front = h.front ++ h.back;
        back = back;
        each = many_more (IsUnsigned 32) k h.targets h.default h.front h.back h.each h.last;
        last = spelled;
        whole = h.whole ∙ ap (λ (r : List ℕ). (h.front ++ h.back) ++ r) whole ∙ more;
        many = (let n = length_push h.targets h.default in omega (arith, n, h.many));
        take = all_cons (Takes flat opens types) one.depth (h.targets ++ h.default ∷ []) takes
            (all_push (Takes flat opens types) h.default h.targets (h.take 0 0 (omega arith)) (all_tail (Takes flat opens types) h.default h.targets h.take));
        forward = omega (arith, h.forward, one.read.forward);
        inside = one.read.inside;
      }

  pub label_next : (k : ℕ) (types other : List ℕ) (j n : ℕ) → AreLabels flat text opens i k types j → IsOneLabel flat text opens j other n → other ≡ types
      → AreLabels flat text opens i (k + 1) types n
  label_next k types other j n h one same =
      let e : suc k ≡ k + 1 = omega arith in
      subst (λ (c : ℕ). AreLabels flat text opens i c types n) e (label_more k types other j n h one same)

-- the branch by a table of these labels
pub labels_stand : (flat text : List ℕ) (opens : List Open) (i count n e : ℕ) (types : List ℕ) (features : ℕ) → Begins text i 0x0e → GivesAt u32 text (i + 1) count n
    → count ≤ length text → (h : AreLabels flat text opens n count types e)
    → Stands features text i e (op.Control (control.BrTable (record { targets = h.targets; default = h.default })))
labels_stand flat text opens i count n e types features begins g few h z same within =
    let (counted, number, at) = unsigned_at text (i + 1) count n g in
    let carried = (counted ++ h.front) ++ h.back in
    let first : drop i text ≡ 0x0e ∷ drop (i + 1) text = rw begins.code_there at (drop_more text i 0 begins.inside) in
    let parts : counted ++ ((h.front ++ h.back) ++ drop e text) ≡ carried ++ drop e text = grind (arith, common_steps) in (
      0x0e ∷ carried,
      record {
        canonical = refl;
        front = 0x0e ∷ [];
        back = carried;
        opcode = (refl, refl);
        carried = (
          carried,
          [],
          record {
            front = counted ++ h.front;
            back = h.back;
            targets = record {
              listed = record {
                count = counted;
                values = h.front;
                counted = subst (λ (k : ℕ). IsUnsigned 32 k counted) (sym h.many) number;
                each = subst (λ (k : ℕ). Many (IsUnsigned 32) k h.targets h.front) (sym h.many) h.each;
                whole = refl;
              };
              within = omega (arith, h.many, few, within);
            };
            default = h.last;
            whole = refl;
          },
          refl,
          sym (append-nil carried),
        );
        whole = refl;
      },
      first ∙ ap (λ (r : List ℕ). 0x0e ∷ r) (at ∙ ap (λ (r : List ℕ). counted ++ r) h.whole ∙ parts),
    )
